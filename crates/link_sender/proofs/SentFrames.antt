-- How many datagrams, and how many bytes, frames are sent in whose samples are within their limits.
use Rattle.std.proofs.Common.{◌≡◌, ℕ, zero, suc, ◌+◌, ◌-◌, ◌*◌, ◌/◌, ◌^◌, ◌<◌, ◌≤◌, Bool, true, false, cond, List, [], ◌∷◌, ◌++◌, length, map, get_or, Option, Some, None, refl, sym, subst, arith, All, nat_le, not, leb-true, lt-ltb, div-mul-le_self, mul-le-mul_left, mul-le-mul_right, pow_mono, pow_pos}
use Rattle.std.specs.List.{flat_map, range_with_len, sum_by}
use Rattle.std.specs.Option.{option_map, option_or}
use Rattle.std.proofs.lemmas.Bool.Decides.{nat_tests}
use Rattle.std.proofs.lemmas.Grind.{common_steps}
use Rattle.std.proofs.lemmas.List.{get_or_past, length-append}
use Rattle.std.proofs.lemmas.List.Concat.{flat_map-cons}
use Rattle.std.proofs.lemmas.List.Elements.{All-append, All-cons, All-get_or, All-head, All-nil, All-tail}
use Rattle.std.proofs.lemmas.List.Sums.{prefix_len-le-length}
use Rattle.std.proofs.lemmas.Nat.{le-div}
use Rattle.std.proofs.lemmas.Option.{none-some}
use Rattle.link_model.specs.Sending.{both_fields, end_datagram, outgoing, EndContent, pictures_of, pictures_per_frame, sent_datagrams}
use Rattle.link_model.specs.SendingFaults.{SendFault, first_outside, first_sample_fault, plane_fault}
use Rattle.link_model.specs.SendingPictures.{plane_in, sent_parameters, sent_sequence}
use Rattle.link_model.proofs.SentHeads.{between, plan}
use Rattle.vc_types.specs.declared.settings.SendSettings.{SendSettings}
use Rattle.vc_types.specs.declared.video.Component.{Component}
use Rattle.vc_types.specs.declared.video.Component.TheVariants.{Y, C1, C2}
use Rattle.vc_types.specs.declared.video.Sampling.{Sampling}
use Rattle.vc_types.specs.FieldPairs.{every_other_row, fields_of}
use Rattle.vc_types.specs.Limits.{padded, slices_fit}
use Rattle.vc_types.specs.Planes.{Planes}
use Rattle.vc_types.specs.Rasters.{Raster, raster, sample_at}
use Rattle.vc_types.specs.SenderSettings.{Sending, sending_view}
use Rattle.vc_types.specs.SequenceHeader.{picture_shape}
use Rattle.vc_types.specs.Subbands.{levels, padded_height, padded_width, plane_depth, plane_height, plane_width}
use Rattle.vc_types.specs.Video.{colour_height, colour_width, picture_height, video_depth}
use Rattle.vc_types.proofs.SliceCounts.{some_across, some_down}
use Rattle.link_sender.specs.Counts.{AreFew, HaveSoundSamples}
use Rattle.link_sender.proofs.Heads.{short_header, short_parameters_of}
use Rattle.link_sender.proofs.SentBytes.{AreAllSmall, HaveSmallSamples, KeepsSmall, datagram_length, datagrams_bytes, datagrams_count, pictures_bytes, pictures_few, HasSmallSamples}

-- ---- samples within their limit

pub none_first : (a b : Option SendFault) → option_or a b ≡ None → a ≡ None
none_first None b h = refl
none_first (Some x) b h = h

pub none_second : (a b : Option SendFault) → option_or a b ≡ None → b ≡ None
none_second None b h = h
none_second (Some x) b h = absurd (none-some x (sym h))

-- where all samples are below the limit, none is outside
pub none_outside : (limit place : ℕ) (samples : List ℕ) → All (λ s. s < limit) samples
    → first_outside limit place samples ≡ None
unfolding first_outside
none_outside limit place [] all = refl
none_outside limit place (sample ∷ samples) all =
    rw (lt-ltb sample limit (All-head (λ s. s < limit) sample samples all))
    (none_outside limit (place + 1) samples (All-tail (λ s. s < limit) sample samples all))

pub unmapped : {A B : Type 0} (f : A → B) (o : Option A) → option_map f o ≡ None → o ≡ None
unmapped f None h = refl
unmapped f (Some x) h = absurd (none-some (f x) (sym h))

pub all_below : (limit place : ℕ) (xs : List ℕ) → first_outside limit place xs ≡ None
    → All (λ v. v < limit) xs
unfolding first_outside
all_below limit place [] none = All-nil (λ v. v < limit)
all_below limit place (x ∷ xs) none = grind (arith, nat_tests, All-cons, all_below limit (place + 1) xs)

pub item_below : (limit : ℕ) (xs : List ℕ) (i : ℕ) → 0 < limit → All (λ v. v < limit) xs
    → get_or xs i 0 < limit
item_below limit xs i some all = grind (arith, All-get_or, get_or_past)

plane_small : (depth number : ℕ) (plane : Raster) → depth ≤ 17 → plane_fault depth number plane ≡ None → HasSmallSamples plane
unfolding sample_at
plane_small depth number plane few none = grind (arith, all_below, item_below, pow_mono, pow_pos, unmapped)

frame_small : (s : Sending) (frame : Planes) → ((c : Component) → plane_depth (sent_parameters s).shape c ≤ 17) → first_sample_fault s frame ≡ None → HaveSmallSamples frame
unfolding first_sample_fault
frame_small s frame few none =
    let shape = (sent_parameters s).shape in
    let y = plane_fault (plane_depth shape Y) 0 frame.y in
    let c1 = plane_fault (plane_depth shape C1) 1 frame.c1 in
    let c2 = plane_fault (plane_depth shape C1) 2 frame.c2 in
    let rest = none_second y (option_or c1 c2) none in
    elim [
      | Y ↦ plane_small (plane_depth shape Y) 0 frame.y (few Y) (none_first y (option_or c1 c2) none)
      | C1 ↦ plane_small (plane_depth shape C1) 1 frame.c1 (few C1) (none_first c1 c2 rest)
      | C2 ↦ plane_small (plane_depth shape C1) 2 frame.c2 (few C1) (none_second c1 c2 rest)
    ]

-- ---- the fields of a frame

module _ (m : ℕ) (f : ℕ → ℕ → ℕ) (small : (x y : ℕ) → f x y < m) where
  abbrev Small : List ℕ → Type 0
  Small samples = All (λ v. v < m) samples

  row_below : (y a n : ℕ) → Small (map (λ x. f x y) (range_with_len a n))
  row_below y a zero = All-nil (λ v. v < m)
  row_below y a (suc n) =
      All-cons (λ v. v < m) (f a y) (map (λ x. f x y) (range_with_len (a + 1) n))
      (small a y) (row_below y (a + 1) n)

  rows_below : (width a n : ℕ)
      → Small (flat_map (λ y. map (λ x. f x y) (range_with_len 0 width)) (range_with_len a n))
  rows_below width a zero = All-nil (λ v. v < m)
  rows_below width a (suc n) =
      let row : ℕ → List ℕ = λ y. map (λ x. f x y) (range_with_len 0 width) in
      subst Small (sym (flat_map-cons row a (range_with_len (a + 1) n)))
      (All-append (λ v. v < m) (row a) (flat_map row (range_with_len (a + 1) n))
      (row_below a 0 width) (rows_below width (a + 1) n))

  pub raster_below : (width height : ℕ) → Small (raster width height f)
  unfolding raster
  raster_below width height = rows_below width 0 height

rows_small : (first : ℕ) (frame : Raster) → HasSmallSamples frame → HasSmallSamples (every_other_row first frame)
unfolding sample_at every_other_row
rows_small first frame small = record { below = below }
  where
    below : (x y : ℕ) → sample_at (every_other_row first frame) x y < 2 ^ 17
    below x y = item_below (2 ^ 17) (every_other_row first frame).samples (y * frame.width + x) (omega arith) (raster_below (2 ^ 17) (λ x y. sample_at frame x (2 * y + first)) (λ x y. small.below x (2 * y + first)) frame.width (frame.height / 2))

pictures_small : (s : Sending) (frame : Planes) → HaveSmallSamples frame → AreAllSmall (pictures_of s frame)
unfolding pictures_of
pictures_small s frame small = by_test s.frames.fields s.frames.top
  where
    each : (first : ℕ) (c : Component) → HasSmallSamples (plane_in (record { y = every_other_row first frame.y; c1 = every_other_row first frame.c1; c2 = every_other_row first frame.c2 }) c)
    each first = elim [
      | Y ↦ rows_small first frame.y (small Y)
      | C1 ↦ rows_small first frame.c1 (small C1)
      | C2 ↦ rows_small first frame.c2 (small C2)
    ]

    by_test : (fields top : Bool) → AreAllSmall (cond fields (both_fields (fields_of top frame)) (frame ∷ []))
    by_test true true = (each 0, (each 1, tt))
    by_test true false = (each 1, (each 0, tt))
    by_test false top = (small, tt)

all_append : (a b : List Planes) → AreAllSmall a → AreAllSmall b → AreAllSmall (a ++ b)
all_append [] b x y = y
all_append (planes ∷ a) b x y = (x.0, all_append a b x.1 y)

one_or_two : (s : Sending) (frame : Planes) → length (pictures_of s frame) ≤ 2
unfolding pictures_of
one_or_two s frame = grind arith

-- ---- frames

module _ (s : Sending) (keeps : KeepsSmall s) where
  all_small : (frames : List Planes) → HaveSoundSamples s frames → AreAllSmall (flat_map (pictures_of s) frames)
  all_small [] inside = tt
  all_small (frame ∷ frames) inside =
      subst AreAllSmall (sym (flat_map-cons (pictures_of s) frame frames))
      (all_append (pictures_of s frame) (flat_map (pictures_of s) frames)
      (pictures_small s frame (frame_small s frame keeps.depth (All-head (λ frame. first_sample_fault s frame ≡ None) frame frames inside)))
      (all_small frames (All-tail (λ frame. first_sample_fault s frame ≡ None) frame frames inside)))

  two_each : (frames : List Planes) → length (flat_map (pictures_of s) frames) ≤ 2 * length frames
  two_each [] = omega arith
  two_each (frame ∷ frames) =
      grind (arith, common_steps, flat_map-cons, length-append, one_or_two, two_each frames)

  few_datagrams : (indices : List ℕ) (frames : List Planes) → HaveSoundSamples s frames → length (sent_datagrams s indices frames) ≤ 2 ^ 19 * length frames
  unfolding sent_datagrams
  few_datagrams indices frames inside = grind (arith, all_small, datagrams_count, pictures_few, two_each)

  few_bytes : (indices : List ℕ) (frames : List Planes) → HaveSoundSamples s frames → sum_by length (sent_datagrams s indices frames) ≤ 2 ^ 31 * length frames
  unfolding sent_datagrams
  few_bytes indices frames inside = grind (arith, all_small, datagrams_bytes, pictures_bytes, two_each)

pub end_bytes : (s : Sending) (number frames : ℕ) → length (end_datagram s number frames) ≡ 16
unfolding end_datagram
end_bytes s number frames = datagram_length s number (outgoing (frames * pictures_per_frame s - 1) EndContent)

-- ---- what settings keep small

few_bits : (excursion : ℕ) → video_depth excursion ≤ 17
unfolding video_depth
few_bits excursion = prefix_len-le-length (λ d. not (nat_le (excursion + 1) (2 ^ d))) (range_with_len 0 17)

padded_more : (a b depth : ℕ) → a ≤ b → padded a depth ≤ padded b depth
padded_more a b depth le = grind (arith, div-mul-le_self, le-div, mul-le-mul_right, pow_pos)

narrower : (sampling : Sampling) (width : ℕ) → colour_width sampling width ≤ width
narrower sampling width = grind arith

lower : (sampling : Sampling) (fields : Bool) (height : ℕ) → picture_height fields (colour_height sampling height) ≤ picture_height fields height
lower sampling fields height = grind arith

module _ (settings : SendSettings) where
  abbrev s : Sending
  s = sending_view settings

  depths : (c : Component) → plane_depth (sent_parameters s).shape c ≤ 17
  unfolding sent_parameters picture_shape
  depths = grind (arith, few_bits)

  luma_area : padded_width (sent_parameters s) Y * padded_height (sent_parameters s) Y ≤ 8912896
  luma_area = leb-true (padded_width (sent_parameters s) Y * padded_height (sent_parameters s) Y) 8912896 (plan settings).padded_luma

  colour_area : padded_width (sent_parameters s) C1 * padded_height (sent_parameters s) C1 ≤ 8912896
  unfolding sent_parameters picture_shape sent_sequence
  colour_area =
      let p = sent_parameters s in
      let wide = padded_more (plane_width p.shape C1) (plane_width p.shape Y) (levels p) (narrower settings.sampling settings.width) in
      let high = padded_more (plane_height p.shape C1) (plane_height p.shape Y) p.depth (lower settings.sampling settings.fields settings.height) in
      let a = mul-le-mul_right (padded_height p C1) wide in
      let b = mul-le-mul_left (padded_width p Y) high in
      omega (arith, a, b, luma_area)

  areas : (c : Component) → padded_width (sent_parameters s) c * padded_height (sent_parameters s) c ≤ 8912896
  areas = elim [ Y ↦ luma_area | C1 ↦ colour_area | C2 ↦ colour_area ]

  few_slices : (across down : ℕ) → slices_fit across down ≡ true → across * down ≤ 131072
  few_slices across down h = grind (arith, nat_tests)

  keeps_small : KeepsSmall s
  unfolding sent_parameters
  keeps_small =
      grind (
        arith,
        areas,
        between,
        depths,
        few_slices,
        short_header,
        short_parameters_of,
        some_across,
        some_down,
      )

  pub are_few : (indices : List ℕ) (frames : List Planes) → HaveSoundSamples s frames → AreFew (length frames) (sent_datagrams s indices frames)
  are_few indices frames sound = grind (arith, few_bytes, few_datagrams, keeps_small)
