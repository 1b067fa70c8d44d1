-- A picture that was sent at index 0 decodes to its planes.
use Rattle.std.proofs.Common.{◌≡◌, ◌<◌, ◌≤◌, ℕ, ◌-◌, ◌^◌, ℤ, pos, ◌-ℤ◌, unsigned_abs, List, [], length, map, get_or, ap, ◌∙◌, arith, IsTrue, pow-add, zero, suc, ◌+◌, false, ◌∷◌, ◌++◌, Some, Ok, refl, append_assoc, slice_get, take, pow_mono}
use Rattle.std.specs.List.{range_with_len, enumerate_from, list_any}
use Rattle.std.proofs.lemmas.Int.{ints}
use Rattle.std.proofs.lemmas.List.FromFn.{length-map-range_with_len, get_or-map-range_with_len}
use Rattle.field_pairs.specs.Sizes.{IsWhole}
use Rattle.link_model.specs.SendingPictures.{HasSides, plane_in, sent_cells, number_at_place, numbers_in_slice, sent_coefficients, sent_slice, sent_slices}
use Rattle.field_pairs.proofs.RowsOfRasters.{raster_of_plane}
use Rattle.vc_types.specs.declared.video.Component.{Component}
use Rattle.vc_types.specs.Pictures.{component_cells, slices_from, decoded_picture}
use Rattle.vc_types.specs.Planes.{Planes, component_plane, output_sample, planes_of, decoded_planes}
use Rattle.vc_types.specs.Rasters.{sample_at}
use Rattle.vc_types.specs.Slices.{Coefficients, coefficients_of, is_large}
use Rattle.vc_types.specs.Subbands.{slice_count, slice_coefficient_count, coefficient_place, plane_width, plane_height, plane_depth, padded_width, padded_height, levels}
use Rattle.vc_types.specs.TransformParameters.{Parameters, is_symmetric, coded_parameters}
use Rattle.vc_types.specs.Transforms.{Cells, inverse_transform, forward_transform, padded_plane, lowest_width, lowest_height}
use Rattle.vc_types.proofs.PaddedSides.{padded-above}
use Rattle.vc_types.proofs.PlacesMet.{met_once}
use Rattle.picture_build.proofs.Standing.{AreWhole, component_cells-met}
use Rattle.vc_wave.proofs.TransformLaws.{inverse_transform-forward_transform, padded_own}
use Rattle.vc_wave.proofs.TransformLocality.{inverse_transform_agrees}
use Rattle.std.proofs.lemmas.Option.{none-some, same_Some}
use Rattle.std.proofs.Math.Seq.{drop-append_seam}
use Rattle.vc_types.specs.declared.video.Component.TheVariants.{Y, C1, C2}
use Rattle.vc_types.specs.Encoding.{is_too_long}
use Rattle.vc_types.specs.Fields.{joined}
use Rattle.vc_types.specs.SequenceHeader.{Sequence}
use Rattle.link_laws.proofs.CodedSlices.{coded_slice-encoded}
use Rattle.vc_types.proofs.FieldCodecs.{ok_is}
use Rattle.link_laws.proofs.LosslessSlices.{AreCoefficients, decoded_slice-coded}
use Rattle.vc_wave.specs.Planes.{AreBelow}
use Rattle.vc_wave.proofs.PlaneGrowth.{forward_below}

-- ---- the planes of a picture

-- ---- a sample comes back

sample_back : (depth s : ℕ) → 1 ≤ depth → s < 2 ^ depth → output_sample depth (pos s -ℤ pos (2 ^ (depth - 1))) ≡ s
unfolding output_sample
sample_back depth s some small = grind (arith, pow-add, ints)

-- ---- coefficients

abbrev none : Coefficients
none = record { y = []; c1 = []; c2 = [] }

module _ (p : Parameters) (planes : Planes) (across : 0 < p.slices_x) (down : 0 < p.slices_y) where
  -- the coefficients of all slices
  abbrev pub all : List Coefficients
  all = map (sent_coefficients p planes) (range_with_len 0 (slice_count p))

  own : (c : Component) (n : ℕ) → coefficients_of (sent_coefficients p planes n) c ≡ numbers_in_slice p c (sent_cells p planes c) n
  unfolding sent_coefficients
  own c n = grind arith

  pub length-own : (c : Component) (n : ℕ) → length (coefficients_of (sent_coefficients p planes n) c) ≡ slice_coefficient_count p c n
  unfolding numbers_in_slice
  length-own c n = ap length (own c n) ∙ length-map-range_with_len (λ i. number_at_place (sent_cells p planes c) (coefficient_place p c n i)) 0 (slice_coefficient_count p c n)

  at : (n : ℕ) → n < slice_count p → get_or all n none ≡ sent_coefficients p planes n
  at n below = get_or-map-range_with_len (sent_coefficients p planes) 0 (slice_count p) n n none below (omega arith)

  many : length all ≡ slice_count p
  many = length-map-range_with_len (sent_coefficients p planes) 0 (slice_count p)

  whole : (c : Component) → AreWhole p c across down none 0 all
  whole c k below = ap (λ (s : Coefficients). length (coefficients_of s c)) (at k (omega (arith, below, many))) ∙ length-own c k ∙ ap (slice_coefficient_count p c) (omega arith)

  number_is : (c : Component) (n i : ℕ) → i < slice_coefficient_count p c n → get_or (coefficients_of (sent_coefficients p planes n) c) i (pos 0) ≡ number_at_place (sent_cells p planes c) (coefficient_place p c n i)
  unfolding numbers_in_slice
  number_is c n i below = ap (λ (l : List ℤ). get_or l i (pos 0)) (own c n) ∙ get_or-map-range_with_len (λ i. number_at_place (sent_cells p planes c) (coefficient_place p c n i)) 0 (slice_coefficient_count p c n) i i (pos 0) below (omega arith)

  -- each cell of the grid has its coefficient again
  cells_back : (c : Component) (x y : ℕ) → x < padded_width p c → y < padded_height p c → component_cells p c all x y ≡ sent_cells p planes c x y
  cells_back c x y a b =
      let met = met_once p c x y across down a b in
      component_cells-met p c across down none all (omega (arith, many)) (whole c) x y met (omega (arith, many, met.slice_below))
      ∙ ap (λ (s : Coefficients). get_or (coefficients_of s c) met.number (pos 0)) (at met.slice met.slice_below)
      ∙ number_is c met.slice met.number met.number_below
      ∙ ap (number_at_place (sent_cells p planes c)) met.place

  module _ (c : Component) (size : HasSides (plane_width p.shape c) (plane_height p.shape c) (plane_in planes c)) (all_there : IsWhole (plane_in planes c)) (symmetric : IsTrue (is_symmetric p)) (depth : 1 ≤ plane_depth p.shape c) (small : (x y : ℕ) → sample_at (plane_in planes c) x y < 2 ^ plane_depth p.shape c) where
    cell_is : (x y : ℕ) → x < plane_width p.shape c → y < plane_height p.shape c → inverse_transform p c (component_cells p c all) x y ≡ pos (sample_at (plane_in planes c) x y) -ℤ pos (2 ^ (plane_depth p.shape c - 1))
    unfolding sent_cells
    cell_is x y a b =
        inverse_transform_agrees p c (component_cells p c all) (sent_cells p planes c) (cells_back c) x y (omega (arith, padded-above (plane_width p.shape c) (levels p) (omega arith))) (omega (arith, padded-above (plane_height p.shape c) p.depth (omega arith)))
        ∙ ap (λ (cells : Cells). cells x y) (inverse_transform-forward_transform p c (sample_at (plane_in planes c)) symmetric)
        ∙ padded_own p c (sample_at (plane_in planes c)) x y a b

    -- a component's plane comes back
    pub plane_back : component_plane p c all ≡ plane_in planes c
    unfolding component_plane
    plane_back = grind (arith, raster_of_plane, cell_is, sample_back)

-- ---- its slices

-- ---- slices one after another

-- a slice at index 0
abbrev pub at_zero : Parameters → Planes → ℕ → List ℕ
at_zero p planes n = sent_slice p planes n 0

module _ (p : Parameters) (planes : Planes) (some : 0 < p.scaler) (fits : (n : ℕ) → n < slice_count p → is_too_long p n 0 (sent_coefficients p planes n) ≡ false) (are : (n : ℕ) → AreCoefficients p n (sent_coefficients p planes n)) where
  slices_back : (i n : ℕ) (behind : List ℕ) → i + n ≤ slice_count p → slices_from p i n (joined (map (at_zero p planes) (range_with_len i n)) ++ behind) ≡ Ok (map (sent_coefficients p planes) (range_with_len i n), behind)
  unfolding slices_from sent_slice
  slices_back i zero behind within = refl
  slices_back i (suc n) behind within =
      grind (
        arith,
        append_assoc,
        coded_slice-encoded,
        decoded_slice-coded,
        slices_back (i + 1) n behind (omega (arith, within)),
      )

-- ---- a whole picture

-- what a plane of a picture has to be
pub record IsSound (p : Parameters) (planes : Planes) (c : Component) : Type 0 where
  pub size : HasSides (plane_width p.shape c) (plane_height p.shape c) (plane_in planes c)
  pub all_there : IsWhole (plane_in planes c)
  pub some_bits : 1 ≤ plane_depth p.shape c
  pub few_bits : plane_depth p.shape c ≤ 16
  pub samples : (x y : ℕ) → sample_at (plane_in planes c) x y < 2 ^ plane_depth p.shape c

-- ---- coefficients are small

module _ (p : Parameters) (planes : Planes) (c : Component) (sound_plane : IsSound p planes c) (levels : p.depth ≤ 5) where
  plane_below : AreBelow (2 ^ 16) (padded_plane p c (sample_at (plane_in planes c)))
  unfolding padded_plane
  plane_below x y = grind (arith, pow_mono, ints)

  pub cells_below : (x y : ℕ) → unsigned_abs (sent_cells p planes c x y) < 2 ^ 60
  unfolding sent_cells forward_transform
  cells_below = forward_below p.wavelet p.depth (lowest_width p c) (lowest_height p c) (padded_plane p c (sample_at (plane_in planes c))) (sent_cells p planes c) levels refl plane_below

none_large : (f : ℕ → ℤ) → ((i : ℕ) → unsigned_abs (f i) < 2 ^ 60) → (l : List ℕ) → list_any is_large (map f l) ≡ false
none_large f small [] = refl
none_large f small (i ∷ l) = grind (arith, none_large f small l)

-- ---- the picture

pub record IsSendable (p : Parameters) (planes : Planes) : Type 0 where
  pub scaler : 0 < p.scaler
  pub symmetric : IsTrue (is_symmetric p)
  pub across : 0 < p.slices_x
  pub down : 0 < p.slices_y
  pub levels : p.depth ≤ 5
  pub each : (c : Component) → IsSound p planes c
  pub slices : (n : ℕ) → n < slice_count p → is_too_long p n 0 (sent_coefficients p planes n) ≡ false

module _ (p : Parameters) (planes : Planes) (is : IsSendable p planes) where
  small_in : (c : Component) (n : ℕ) → list_any is_large (numbers_in_slice p c (sent_cells p planes c) n) ≡ false
  unfolding numbers_in_slice
  small_in c n = none_large (λ i. number_at_place (sent_cells p planes c) (coefficient_place p c n i)) (λ i. cells_below p planes c (is.each c) is.levels (coefficient_place p c n i).0 (coefficient_place p c n i).1) (range_with_len 0 (slice_coefficient_count p c n))

  -- the slices of a picture at index 0
  abbrev pub slices_at_zero : List (List ℕ)
  slices_at_zero = map (at_zero p planes) (range_with_len 0 (slice_count p))

  planes_back : planes_of p (map (sent_coefficients p planes) (range_with_len 0 (slice_count p))) ≡ planes
  planes_back = λ i. record {
    y = plane_back p planes is.across is.down Y (is.each Y).size (is.each Y).all_there is.symmetric (is.each Y).some_bits (is.each Y).samples i;
    c1 = plane_back p planes is.across is.down C1 (is.each C1).size (is.each C1).all_there is.symmetric (is.each C1).some_bits (is.each C1).samples i;
    c2 = plane_back p planes is.across is.down C2 (is.each C2).size (is.each C2).all_there is.symmetric (is.each C2).some_bits (is.each C2).samples i;
  }

  -- parameters that are read as these, and after them the slices, decode to the planes
  pub decoded_planes-sent : (sequence : Sequence) (bytes behind : List ℕ) → ((more : List ℕ) → coded_parameters sequence (bytes ++ more) ≡ Ok (p, length bytes)) → decoded_planes sequence (bytes ++ (joined slices_at_zero ++ behind)) ≡ Some planes
  unfolding decoded_planes decoded_picture sent_coefficients
  decoded_planes-sent sequence bytes behind read =
      grind (arith, drop-append_seam, planes_back, slices_back, ok_is, length-own, small_in)

-- at indices that are all 0 the slices are these
zeros_at : (p : Parameters) (planes : Planes) (i n : ℕ) (indices : List ℕ) → ((k : ℕ) → k < n → slice_get indices k ≡ Some 0)
    → map (λ z. sent_slice p planes z.0 z.1) (enumerate_from i (take n indices)) ≡ map (at_zero p planes) (range_with_len i n)
zeros_at p planes i zero indices zeros = refl
zeros_at p planes i (suc n) [] zeros = absurd (none-some 0 (zeros 0 (omega arith)))
zeros_at p planes i (suc n) (index ∷ indices) zeros =
    let own : index ≡ 0 = same_Some index 0 (zeros 0 (omega arith)) in
    (λ j. sent_slice p planes i (own j) ∷ zeros_at p planes (i + 1) n indices (λ k h. zeros (suc k) (omega (arith, h))) j)

pub sent_slices-zero : (p : Parameters) (planes : Planes) (is : IsSendable p planes) (indices : List ℕ) → ((k : ℕ) → k < slice_count p → slice_get indices k ≡ Some 0) → sent_slices p planes indices ≡ slices_at_zero p planes is
unfolding sent_slices
sent_slices-zero p planes is indices zeros = zeros_at p planes 0 (slice_count p) indices zeros
