-- How many datagrams, and how many bytes, pictures with small samples are sent in.
use Rattle.std.proofs.Common.{ℕ, ◌+◌, ◌-◌, ◌*◌, ◌^◌, ◌<◌, ◌≤◌, pos, unsigned_abs, arith, ◌-ℤ◌, pow_mono, ◌≡◌, suc, Bool, true, false, cond, List, [], ◌∷◌, ◌++◌, length, map, take, drop, refl, sym, ap, ◌∙◌, mul-le-mul_left, mul-le-mul_right}
use Rattle.std.proofs.lemmas.Int.{ints}
use Rattle.link_model.specs.SendingPictures.{plane_in, sent_cells, numbers_in_slice, sent_coefficients, sent_header, sent_parameter_bytes, sent_parameters, sent_slice, sent_slices, slices_with_indices}
use Rattle.vc_types.specs.declared.video.Component.{Component}
use Rattle.vc_types.specs.Planes.{Planes}
use Rattle.vc_types.specs.Rasters.{Raster, sample_at}
use Rattle.vc_types.specs.Subbands.{plane_depth, slice_coefficient_count, padded_height, padded_width, slice_count}
use Rattle.vc_types.specs.TransformParameters.{Parameters}
use Rattle.vc_types.specs.Transforms.{padded_plane, forward_transform, forward_levels, lowest_width, lowest_height}
use Rattle.vc_wave.specs.Planes.{AreBelow}
use Rattle.vc_wave.proofs.PlaneGrowth.{below_more, forward_levels_grow}
use Rattle.link_sender.proofs.CodedLengths.{AreSmallNumbers, slice_short}
use Rattle.std.specs.List.{enumerate_from, sum_by}
use Rattle.std.proofs.lemmas.Grind.{common_steps}
use Rattle.std.proofs.lemmas.List.{length-append, length-map, length-take}
use Rattle.std.proofs.lemmas.List.FromFn.{length-enumerate_from}
use Rattle.std.proofs.lemmas.List.Sums.{sum_by-append, sum_by-cons, sum_by_push}
use Rattle.link_model.specs.Kept.{SliceRun}
use Rattle.link_model.specs.Packets.{rtp_header, fragment_bytes, payload_bytes, payload_head}
use Rattle.link_model.specs.Sending.{Outgoing, DatagramContent, HeaderContent, ParametersContent, SlicesContent, EndContent, datagrams_from, has_room, outgoing, picture_outgoing, pictures_outgoing, run_bytes, run_end, run_of_one, run_with, runs_from, runs_of_slices, sent_datagram, sent_value}
use Rattle.link_model.proofs.PackedBits.{length-packed_bits}
use Rattle.vc_slice.proofs.EncodedSlices.{length_slice}
use Rattle.vc_types.specs.declared.video.Component.TheVariants.{Y, C1, C2}
use Rattle.vc_types.specs.Encoding.{encoded_length}
use Rattle.vc_types.specs.Fields.{joined}
use Rattle.vc_types.specs.SenderSettings.{Sending}
use Rattle.link_sender.proofs.SharedCells.{counted, counted_more, counted_most}

-- ---- small cells

-- samples below the greatest limit that the samples of a depth may have
pub record HasSmallSamples (plane : Raster) : Type 0 where
  pub below : (x y : ℕ) → sample_at plane x y < 2 ^ 17

centred : (s d : ℕ) → s < 2 ^ 17 → d ≤ 17 → unsigned_abs (pos s -ℤ pos (2 ^ (d - 1))) < 2 ^ 17
centred s d small few =
    let half : 2 ^ (d - 1) ≤ 2 ^ 16 = pow_mono {i = d - 1} {j = 16} (omega arith) in
    omega (arith, ints, half, small)

module _ (p : Parameters) (c : Component) (planes : Planes) (levels : p.depth ≤ 5) (depth : plane_depth p.shape c ≤ 17) (small : HasSmallSamples (plane_in planes c)) where
  abbrev samples : ℕ → ℕ → ℕ
  samples = sample_at (plane_in planes c)

  first_below : AreBelow (2 ^ 17) (padded_plane p c samples)
  unfolding padded_plane
  first_below x y = grind (arith, centred)

  cells_below : AreBelow (2 ^ 60) (sent_cells p planes c)
  unfolding sent_cells forward_transform
  cells_below =
      let w = lowest_width p c in
      let h = lowest_height p c in
      let first = padded_plane p c samples in
      below_more (17 + 8 * p.depth) 60 (forward_levels p.wavelet p.depth w h first) (omega arith) (forward_levels_grow p.wavelet p.depth w h 17 first (omega arith) first_below)

  pub small_numbers : (slice : ℕ) → AreSmallNumbers (slice_coefficient_count p c slice) (numbers_in_slice p c (sent_cells p planes c) slice)
  unfolding numbers_in_slice
  small_numbers slice = grind (arith, cells_below)

-- ---- the bytes of slices

abbrev pub HaveSmallSamples : Planes → Type 0
HaveSmallSamples planes = (c : Component) → HasSmallSamples (plane_in planes c)

abbrev pub AreAllSmall : List Planes → Type 0
AreAllSmall [] = Unit {0}
AreAllSmall (planes ∷ pictures) = HaveSmallSamples planes × AreAllSmall pictures

-- what settings keep small
pub record KeepsSmall (s : Sending) : Type 0 where
  pub levels : (sent_parameters s).depth ≤ 5
  pub depth : (c : Component) → plane_depth (sent_parameters s).shape c ≤ 17
  pub some_across : 0 < s.across
  pub some_down : 0 < s.down
  pub few_slices : s.across * s.down ≤ 131072
  pub prefix : s.prefix ≤ 255
  pub some_scaler : 0 < s.scaler
  pub scaler : s.scaler ≤ 255
  pub area : (c : Component) → padded_width (sent_parameters s) c * padded_height (sent_parameters s) c ≤ 8912896
  pub header : length (sent_header s) ≤ 1000
  pub parameters : length (sent_parameter_bytes s) ≤ 1000

abbrev pub bytes_in : List (List ℕ) → ℕ
bytes_in parts = sum_by length parts

-- ---- the slices of a picture

module _ (p : Parameters) (planes : Planes) (levels : p.depth ≤ 5) (depth : (c : Component) → plane_depth p.shape c ≤ 17) (some_across : 0 < p.slices_x) (some_down : 0 < p.slices_y) (some_scaler : 0 < p.scaler) (small : HaveSmallSamples planes) where
  abbrev counts : ℕ → ℕ
  counts slice = slice_coefficient_count p Y slice + slice_coefficient_count p C1 slice + slice_coefficient_count p C2 slice

  abbrev before : ℕ → ℕ
  before slice = counted p Y slice + counted p C1 slice + counted p C2 slice

  -- a slice without its coefficients
  abbrev most : ℕ
  most = p.prefix + 4 + 3 * p.scaler

  encoded_short : (slice index : ℕ) → encoded_length p slice index (sent_coefficients p planes slice) ≤ most + 16 * counts slice
  unfolding sent_coefficients
  encoded_short slice index =
      slice_short p slice index (slice_coefficient_count p Y slice) (slice_coefficient_count p C1 slice) (slice_coefficient_count p C2 slice) (sent_coefficients p planes slice)
      (small_numbers p Y planes levels (depth Y) (small Y) slice)
      (small_numbers p C1 planes levels (depth C1) (small C1) slice)
      (small_numbers p C2 planes levels (depth C2) (small C2) slice)

  sent_short : (slice index : ℕ) → length (sent_slice p planes slice index) ≤ most + 16 * counts slice
  unfolding sent_slice
  sent_short slice index = grind (arith, encoded_short, length-packed_bits, length_slice)

  abbrev slices_from : ℕ → List ℕ → List (List ℕ)
  slices_from slice indices = map (λ z. sent_slice p planes z.0 z.1) (enumerate_from slice indices)

  slices_short : (indices : List ℕ) (slice : ℕ) → bytes_in (slices_from slice indices) + 16 * before slice ≤ length indices * most + 16 * before (slice + length indices)
  slices_short [] slice = let same : slice + 0 ≡ slice = omega arith in let e = ap before same in omega (arith, e)
  slices_short (index ∷ indices) slice =
      grind (arith, common_steps, counted_more, sent_short, sum_by-cons, slices_short indices (slice + 1))

  abbrev area : Component → ℕ
  area c = padded_width p c * padded_height p c

  pub picture_short : (indices : List ℕ) → bytes_in (sent_slices p planes indices) ≤ slice_count p * most + 16 * (area Y + area C1 + area C2)
  unfolding sent_slices
  picture_short indices = grind (arith, counted_most, length-take, mul-le-mul_right, slices_short)

  pub picture_count : (indices : List ℕ) → length (sent_slices p planes indices) ≤ slice_count p
  unfolding sent_slices
  picture_count indices = omega (arith, length-map (slices_with_indices p indices) (λ z. sent_slice p planes z.0 z.1), length-enumerate_from 0 (take (slice_count p) indices), length-take (slice_count p) indices)

-- ---- the runs of slices

length_joined : (parts : List (List ℕ)) → length (joined parts) ≡ bytes_in parts
length_joined [] = refl
length_joined (part ∷ parts) = length-append part (joined parts) ∙ ap (λ n. length part + n) (length_joined parts) ∙ sym (sum_by-cons length part parts)

-- a run in its datagram
abbrev pub run_weight : SliceRun → ℕ
run_weight run = 32 + length (run_bytes run)

more_in_run : (run : SliceRun) (slice : List ℕ) → length (run_bytes (run_with run slice)) ≡ length (run_bytes run) + length slice
more_in_run run slice =
    length_joined (run.slices ++ slice ∷ []) ∙ sum_by_push length run.slices slice ∙ ap (λ n. n + length slice) (sym (length_joined run.slices))

one_in_run : (first : ℕ) (slice : List ℕ) → length (run_bytes (run_of_one first slice)) ≡ length slice
one_in_run first slice = length-append slice [] ∙ omega arith

module _ (room : ℕ) where
  runs_short : (slices : List (List ℕ)) (run : SliceRun) → sum_by run_weight (runs_from room run slices) ≤ run_weight run + bytes_in slices + 32 * length slices
  unfolding runs_from
  runs_short [] run = omega arith
  runs_short (slice ∷ slices) run = by_test (has_room room run slice) (runs_short slices (run_with run slice)) (runs_short slices (run_of_one (run_end run) slice))
    where
      by_test : (b : Bool)
          → sum_by run_weight (runs_from room (run_with run slice) slices) ≤ run_weight (run_with run slice) + bytes_in slices + 32 * length slices
          → sum_by run_weight (runs_from room (run_of_one (run_end run) slice) slices) ≤ run_weight (run_of_one (run_end run) slice) + bytes_in slices + 32 * length slices
          → sum_by run_weight (cond b (runs_from room (run_with run slice) slices) (run ∷ runs_from room (run_of_one (run_end run) slice) slices)) ≤ run_weight run + bytes_in (slice ∷ slices) + 32 * suc (length slices)
      by_test true with_it behind = omega (arith, with_it, more_in_run run slice, sum_by-cons length slice slices)
      by_test false with_it behind = omega (arith, behind, one_in_run (run_end run) slice, sum_by-cons length slice slices, sum_by-cons run_weight run (runs_from room (run_of_one (run_end run) slice) slices))

  runs_few : (slices : List (List ℕ)) (run : SliceRun) → length (runs_from room run slices) ≤ 1 + length slices
  unfolding runs_from
  runs_few [] run = omega arith
  runs_few (slice ∷ slices) run = by_test (has_room room run slice) (runs_few slices (run_with run slice)) (runs_few slices (run_of_one (run_end run) slice))
    where
      by_test : (b : Bool) → length (runs_from room (run_with run slice) slices) ≤ 1 + length slices → length (runs_from room (run_of_one (run_end run) slice) slices) ≤ 1 + length slices
          → length (cond b (runs_from room (run_with run slice) slices) (run ∷ runs_from room (run_of_one (run_end run) slice) slices)) ≤ 1 + suc (length slices)
      by_test true with_it behind = omega (arith, with_it)
      by_test false with_it behind = omega (arith, behind)

  pub all_runs_short : (slices : List (List ℕ)) → sum_by run_weight (runs_of_slices room slices) ≤ bytes_in slices + 32 * length slices
  unfolding runs_of_slices
  all_runs_short [] = omega arith
  all_runs_short (slice ∷ slices) = (let rest = runs_short slices (run_of_one 0 slice) in omega (arith, rest, one_in_run 0 slice, sum_by-cons length slice slices))

  pub all_runs_few : (slices : List (List ℕ)) → length (runs_of_slices room slices) ≤ length slices
  unfolding runs_of_slices
  all_runs_few [] = omega arith
  all_runs_few (slice ∷ slices) = (let rest = runs_few slices (run_of_one 0 slice) in omega (arith, rest))

-- ---- datagrams

module _ (s : Sending) where
  -- what is carried, and the heads around it
  abbrev pub content_weight : DatagramContent → ℕ
  content_weight HeaderContent = 16 + length (sent_header s)
  content_weight ParametersContent = 28 + length (sent_parameter_bytes s)
  content_weight (SlicesContent run) = run_weight run
  content_weight EndContent = 16

  abbrev pub weight : Outgoing → ℕ
  weight o = content_weight o.content

  content_length : (number picture : ℕ) (c : DatagramContent) → length (sent_datagram s number (outgoing picture c)) ≡ content_weight c
  unfolding sent_datagram sent_value rtp_header payload_bytes fragment_bytes payload_head
  content_length number picture c = grind arith

  pub datagram_length : (number : ℕ) (o : Outgoing) → length (sent_datagram s number o) ≡ weight o
  datagram_length number o = content_length number o.picture o.content

  pub datagrams_bytes : (number : ℕ) (os : List Outgoing) → bytes_in (datagrams_from s number os) ≡ sum_by weight os
  unfolding datagrams_from
  datagrams_bytes number [] = refl
  datagrams_bytes number (o ∷ os) =
      grind (arith, common_steps, datagram_length, sum_by-cons, datagrams_bytes (number + 1) os)

  pub datagrams_count : (number : ℕ) (os : List Outgoing) → length (datagrams_from s number os) ≡ length os
  unfolding datagrams_from
  datagrams_count number os = length-map (enumerate_from number os) (λ z. sent_datagram s z.0 z.1) ∙ length-enumerate_from number os

  runs_weight : (picture : ℕ) (runs : List SliceRun) → sum_by weight (map (outgoing picture) (map SlicesContent runs)) ≡ sum_by run_weight runs
  runs_weight picture [] = refl
  runs_weight picture (run ∷ runs) = grind (arith, common_steps, sum_by-cons, runs_weight picture runs)

  -- ---- pictures

  module _ (keeps : KeepsSmall s) where
    slices_most : (planes : Planes) (indices : List ℕ) → HaveSmallSamples planes → bytes_in (sent_slices (sent_parameters s) planes indices) ≤ 600000000
    unfolding sent_parameters
    slices_most planes indices small =
        let p = sent_parameters s in
        let all = picture_short p planes keeps.levels keeps.depth keeps.some_across keeps.some_down keeps.some_scaler small indices in
        let y = keeps.area Y in
        let c1 = keeps.area C1 in
        let c2 = keeps.area C2 in
        let each : s.prefix + 4 + 3 * s.scaler ≤ 1024 = omega (arith, keeps.prefix, keeps.scaler) in
        let more = mul-le-mul_left (s.across * s.down) each in
        let slices = mul-le-mul_right 1024 keeps.few_slices in
        omega (arith, all, y, c1, c2, more, slices)

    slices_few : (planes : Planes) (indices : List ℕ) → HaveSmallSamples planes → length (sent_slices (sent_parameters s) planes indices) ≤ 131072
    unfolding sent_parameters
    slices_few planes indices small = grind (arith, picture_count)

    picture_bytes : (picture : ℕ) (indices : List ℕ) (planes : Planes) → HaveSmallSamples planes → sum_by weight (picture_outgoing s picture indices planes) ≤ 2 ^ 30
    unfolding picture_outgoing
    picture_bytes picture indices planes small =
        grind (arith, common_steps, all_runs_short, runs_weight, slices_few, slices_most, sum_by-cons)

    picture_few : (picture : ℕ) (indices : List ℕ) (planes : Planes) → HaveSmallSamples planes → length (picture_outgoing s picture indices planes) ≤ 2 ^ 18
    unfolding picture_outgoing
    picture_few picture indices planes small = grind (arith, all_runs_few, length-map, slices_few)

    pub pictures_bytes : (pictures : List Planes) (picture : ℕ) (indices : List ℕ) → AreAllSmall pictures → sum_by weight (pictures_outgoing s picture indices pictures) ≤ 2 ^ 30 * length pictures
    unfolding pictures_outgoing
    pictures_bytes [] picture indices small = omega arith
    pictures_bytes (planes ∷ pictures) picture indices small =
        let next = drop (slice_count (sent_parameters s)) indices in
        let one = picture_bytes picture indices planes small.0 in
        let rest = pictures_bytes pictures (picture + 1) next small.1 in
        omega (arith, one, rest, sum_by-append weight (picture_outgoing s picture indices planes) (pictures_outgoing s (picture + 1) next pictures))

    pub pictures_few : (pictures : List Planes) (picture : ℕ) (indices : List ℕ) → AreAllSmall pictures → length (pictures_outgoing s picture indices pictures) ≤ 2 ^ 18 * length pictures
    unfolding pictures_outgoing
    pictures_few [] picture indices small = omega arith
    pictures_few (planes ∷ pictures) picture indices small =
        let next = drop (slice_count (sent_parameters s)) indices in
        let one = picture_few picture indices planes small.0 in
        let rest = pictures_few pictures (picture + 1) next small.1 in
        omega (arith, one, rest, length-append (picture_outgoing s picture indices planes) (pictures_outgoing s (picture + 1) next pictures))
