-- The units of frames are played to the bytes of these frames.
use Rattle.std.proofs.Common.{◌≡◌, ℕ, ◌+◌, ◌%◌, ◌^◌, true, false, List, [], ◌∷◌, ◌++◌, length, Option, Some, None, refl, sym, ap, ◌∙◌, append_assoc, append-nil, length-append, arith, unwrap_or, le-ltb, ◌-◌, ◌*◌, Bool, cond, map, All, ◌==◌, is_some, flat_map}
use Rattle.std.specs.Option.{option_and_then, option_map, option_map_or}
use Rattle.byteorder.specs.Endian.{big_bytes}
use Rattle.link_model.specs.Complete.{whole_picture}
use Rattle.link_model.specs.Numbers.{Numbered, parts_of}
use Rattle.link_model.specs.Output.{planes_at, field_frame_at, frame_at, frame_bytes_at, raw_bytes, woven_fields}
use Rattle.stream_model.specs.Streams.{picture_unit_at, frame_pictures, frame_units}
use Rattle.cmd_stream.specs.declared.coding.Coding.TheVariants.{HighQuality}
use Rattle.cmd_stream.specs.Stream.{Stream, StreamPicture, StreamSoFar, after_unit, all_taken, picture_in, takes, with_picture, is_pair, paired_frames, raw_frames, stream_frames, unpaired_in}
use Rattle.vc_types.specs.DataUnits.{DataUnit, unit_length}
use Rattle.vc_types.specs.Planes.{Planes, decoded_planes}
use Rattle.vc_types.specs.SequenceHeader.{Sequence, picture_shape}
use Rattle.vc_types.specs.Presentations.{presentation_of}
use Rattle.vc_types.specs.declared.presentation.Presentation.{Presentation}
use Rattle.std.proofs.lemmas.Bool.{cond-false, cond-true, eq-eqb, eqb-true}
use Rattle.std.proofs.lemmas.List.Concat.{flat_map-cons}
use Rattle.std.proofs.lemmas.List.Elements.{All-append, All-cons, All-nil}
use Rattle.vc_types.specs.FieldPairs.{woven}
use Rattle.vc_types.specs.RawFrames.{frame_bytes, is_wide}
use Rattle.link_laws.proofs.ReadUnits.{IsInside}

-- ---- the pictures of an elementary stream

-- a stream of high quality, of these pictures up to now
abbrev pub stream_with : Sequence → Presentation → List StreamPicture → Stream
stream_with s said pictures = record { coding = HighQuality; sequence = s; presentation = said; pictures = pictures }

abbrev pub so_far_with : Sequence → Presentation → List StreamPicture → ℕ → StreamSoFar
so_far_with s said pictures place = record { stream = Some (stream_with s said pictures); place = place }

-- units bring these pictures, whatever came before and whatever follows
abbrev pub AreTaken : Sequence → List DataUnit → List StreamPicture → Type 0
AreTaken s units pictures = (said : Presentation) (before : List StreamPicture) (place : ℕ) (more : List DataUnit) → (later : ℕ)
    × (all_taken (so_far_with s said before place) (units ++ more) ≡ all_taken (so_far_with s said (before ++ pictures) later) more)

module _ (s : Sequence) where
  pub none_taken : AreTaken s [] []
  none_taken said before place more = (place, ap (λ (l : List StreamPicture). all_taken (so_far_with s said l place) more) (sym (append-nil before)))

  pub one_taken : (u : DataUnit) (p : StreamPicture) → ((said : Presentation) (before : List StreamPicture) → takes (Some (stream_with s said before)) u ≡ Some (Some (stream_with s said (before ++ p ∷ [])))) → AreTaken s (u ∷ []) (p ∷ [])
  unfolding all_taken
  one_taken u p is said before place more =
      let h : StreamSoFar = so_far_with s said before place in
      (place + unit_length u, ap (λ (o : Option (Option Stream)). option_map_or (λ stream. all_taken (after_unit h u stream) more) o (h, true)) (is said before))

  pub joined_taken : (us vs : List DataUnit) (ps qs : List StreamPicture) → AreTaken s us ps → AreTaken s vs qs → AreTaken s (us ++ vs) (ps ++ qs)
  joined_taken us vs ps qs first second said before place more =
      let a = first said before place (vs ++ more) in
      let b = second said (before ++ ps) a.0 more in (
        b.0,
        ap (all_taken (so_far_with s said before place)) (append_assoc us vs more)
            ∙ a.1
            ∙ b.1
            ∙ ap (λ (l : List StreamPicture). all_taken (so_far_with s said l b.0) more) (append_assoc before ps qs),
      )

-- a picture by the low 32 bits of its number
abbrev pub shown_at : ℕ → Planes → StreamPicture
shown_at n planes = record { number = n % 2 ^ 32; planes = planes }

module _ (s : Sequence) (es : List Numbered) (n : ℕ) (planes : Planes) where
  whole_read : (whole : List ℕ) → decoded_planes s whole ≡ Some planes → picture_in HighQuality s (big_bytes 4 n ++ whole) ≡ Some (shown_at n planes)
  unfolding picture_in
  whole_read whole is = grind (arith, le-ltb, length-append)

  unit_read : planes_at s es n ≡ Some planes → picture_in HighQuality s (picture_unit_at s es n).body ≡ Some (shown_at n planes)
  unfolding planes_at
  unit_read is = by_whole (whole_picture s (parts_of n es)) is
    where
      by_whole : (o : Option (List ℕ)) → option_and_then (decoded_planes s) o ≡ Some planes → picture_in HighQuality s (big_bytes 4 n ++ unwrap_or o []) ≡ Some (shown_at n planes)
      by_whole o is = grind (arith, whole_read)

  pub unit_taken : planes_at s es n ≡ Some planes → (said : Presentation) (before : List StreamPicture) → takes (Some (stream_with s said before)) (picture_unit_at s es n) ≡ Some (Some (stream_with s said (before ++ shown_at n planes ∷ [])))
  unfolding takes
  unit_taken is said before = ap (λ (p : Option StreamPicture). option_map (λ (next : Stream). Some next) (option_map (with_picture (stream_with s said before)) p)) (unit_read is)

  pub picture_taken : planes_at s es n ≡ Some planes → AreTaken s (picture_unit_at s es n ∷ []) (shown_at n planes ∷ [])
  picture_taken is = one_taken s (picture_unit_at s es n) (shown_at n planes) (unit_taken is)

-- ---- its frames

-- ---- what pictures are played to, however they are meant to be shown

abbrev stream_of : Sequence → List StreamPicture → Stream
stream_of s pictures = stream_with s (presentation_of 0) pictures

abbrev pub played_as : Sequence → List StreamPicture → List ℕ
played_as s pictures = raw_frames s (stream_frames (stream_of s pictures))

abbrev pub left_over : Sequence → List StreamPicture → ℕ
left_over s pictures = unpaired_in (Some (stream_of s pictures))

-- units are pictures of a sequence, which make frames of these bytes, whatever pictures follow
pub record AreShownAs (s : Sequence) (units : List DataUnit) (bytes : List ℕ) : Type 0 where
  pub pictures : List StreamPicture
  pub inside : All IsInside units
  pub taken : AreTaken s units pictures
  pub played : (rest : List StreamPicture) → played_as s (pictures ++ rest) ≡ bytes ++ played_as s rest
  pub paired : (rest : List StreamPicture) → left_over s (pictures ++ rest) ≡ left_over s rest

pub none_shown : (s : Sequence) → AreShownAs s [] []
none_shown s = record {
  pictures = [];
  inside = All-nil IsInside;
  taken = none_taken s;
  played = λ rest. refl;
  paired = λ rest. refl;
}

pub joined_shown : (s : Sequence) (us vs : List DataUnit) (a b : List ℕ) → AreShownAs s us a → AreShownAs s vs b → AreShownAs s (us ++ vs) (a ++ b)
joined_shown s us vs a b first second =
    let apart : (rest : List StreamPicture) → (first.pictures ++ second.pictures) ++ rest ≡ first.pictures ++ (second.pictures ++ rest) = append_assoc first.pictures second.pictures in
    record {
      pictures = first.pictures ++ second.pictures;
      inside = All-append IsInside us vs first.inside second.inside;
      taken = joined_taken s us vs first.pictures second.pictures first.taken second.taken;
      played = λ rest.
          ap (played_as s) (apart rest)
          ∙ first.played (second.pictures ++ rest)
          ∙ ap (λ (l : List ℕ). a ++ l) (second.played rest)
          ∙ sym (append_assoc a b (played_as s rest));
      paired = λ rest. ap (left_over s) (apart rest) ∙ first.paired (second.pictures ++ rest) ∙ second.paired rest;
    }

-- ---- one frame

abbrev bytes_of : Sequence → Planes → List ℕ
bytes_of s frame = frame_bytes frame (is_wide (picture_shape s))

module _ (s : Sequence) (es : List Numbered) (n : ℕ) where
  is_inside : (m : ℕ) → IsInside (picture_unit_at s es m)
  is_inside m = record { known = refl; goes_on = refl }

  abbrev units_by : Option Planes → List ℕ → List DataUnit
  units_by o numbers = cond (is_some o) (map (picture_unit_at s es) numbers) []

  -- by the frame and the numbers of its pictures
  shown_by : (o : Option Planes) (numbers : List ℕ) → frame_at s es n ≡ o → frame_pictures s n ≡ numbers → AreShownAs s (units_by o numbers) (raw_bytes s o) → AreShownAs s (frame_units s es n) (frame_bytes_at s es n)
  unfolding frame_units frame_bytes_at
  shown_by o numbers is are shown = grind arith

  no_frame : frame_at s es n ≡ None → AreShownAs s (frame_units s es n) (frame_bytes_at s es n)
  no_frame is = shown_by None (frame_pictures s n) is refl (none_shown s)

  -- with frame coding
  module _ (frames : s.fields ≡ false) where
    each_played : (pictures : List StreamPicture) → played_as s pictures ≡ flat_map (bytes_of s) (map (λ p. p.planes) pictures)
    each_played pictures = ap (flat_map (bytes_of s)) (cond-false s.fields (paired_frames s.top_first pictures) (map (λ p. p.planes) pictures) frames)

    none_over : (pictures : List StreamPicture) → left_over s pictures ≡ 0
    none_over pictures = cond-false s.fields (length pictures - 2 * length (stream_frames (stream_of s pictures))) 0 frames

    frame_alone : (planes : Planes) → planes_at s es n ≡ Some planes → AreShownAs s (picture_unit_at s es n ∷ []) (bytes_of s planes)
    frame_alone planes is = record {
      pictures = shown_at n planes ∷ [];
      inside = All-cons IsInside (picture_unit_at s es n) [] (is_inside n) (All-nil IsInside);
      taken = picture_taken s es n planes is;
      played = grind (arith, each_played, flat_map-cons);
      paired = λ rest. none_over (shown_at n planes ∷ rest) ∙ sym (none_over rest);
    }

    frame_is : frame_at s es n ≡ planes_at s es n
    unfolding frame_at
    frame_is = cond-false s.fields (field_frame_at s es n) (planes_at s es n) frames

    own_picture : frame_pictures s n ≡ n ∷ []
    own_picture = cond-false s.fields ((n - 1) ∷ n ∷ []) (n ∷ []) frames

    frame_shown : (o : Option Planes) → planes_at s es n ≡ o → AreShownAs s (frame_units s es n) (frame_bytes_at s es n)
    frame_shown None is = no_frame (frame_is ∙ is)
    frame_shown (Some planes) is = shown_by (Some planes) (n ∷ []) (frame_is ∙ is) own_picture (frame_alone planes is)

  -- with field coding
  module _ (fields : s.fields ≡ true) (odd : n % 2 ≡ 1) (a b : Planes) (earlier : planes_at s es (n - 1) ≡ Some a) (later : planes_at s es n ≡ Some b) where
    abbrev first : StreamPicture
    first = shown_at (n - 1) a

    abbrev second : StreamPicture
    second = shown_at n b

    is_frame : is_pair first second ≡ true
    is_frame = grind (arith, eq-eqb)

    pairs_of : (pictures : List StreamPicture) → stream_frames (stream_of s pictures) ≡ paired_frames s.top_first pictures
    pairs_of pictures = cond-true s.fields (paired_frames s.top_first pictures) (map (λ p. p.planes) pictures) fields

    pair_first : (rest : List StreamPicture) → paired_frames s.top_first (first ∷ second ∷ rest) ≡ woven s.top_first a b ∷ paired_frames s.top_first rest
    unfolding paired_frames
    pair_first rest = cond-true (is_pair first second) (woven s.top_first a b ∷ paired_frames s.top_first rest) (paired_frames s.top_first (second ∷ rest)) is_frame

    all_of : (rest : List StreamPicture) → stream_frames (stream_of s (first ∷ second ∷ rest)) ≡ woven s.top_first a b ∷ stream_frames (stream_of s rest)
    all_of rest = pairs_of (first ∷ second ∷ rest) ∙ pair_first rest ∙ ap (λ (l : List Planes). woven s.top_first a b ∷ l) (sym (pairs_of rest))

    over_of : (pictures : List StreamPicture) → left_over s pictures ≡ length pictures - 2 * length (stream_frames (stream_of s pictures))
    over_of pictures = cond-true s.fields (length pictures - 2 * length (stream_frames (stream_of s pictures))) 0 fields

    same_over : (rest : List StreamPicture) → left_over s (first ∷ second ∷ rest) ≡ left_over s rest
    same_over rest = grind (arith, all_of, over_of)

    pair_shown : AreShownAs s (picture_unit_at s es (n - 1) ∷ picture_unit_at s es n ∷ []) (bytes_of s (woven s.top_first a b))
    pair_shown = record {
      pictures = first ∷ second ∷ [];
      inside = All-cons IsInside (picture_unit_at s es (n - 1)) (picture_unit_at s es n ∷ []) (is_inside (n - 1)) (All-cons IsInside (picture_unit_at s es n) [] (is_inside n) (All-nil IsInside));
      taken = joined_taken s (picture_unit_at s es (n - 1) ∷ []) (picture_unit_at s es n ∷ []) (first ∷ []) (second ∷ []) (picture_taken s es (n - 1) a earlier) (picture_taken s es n b later);
      played = λ rest. ap (flat_map (bytes_of s)) (all_of rest) ∙ flat_map-cons (bytes_of s) (woven s.top_first a b) (stream_frames (stream_of s rest));
      paired = same_over;
    }

  -- the frame of two fields, if both are there
  module _ (fields : s.fields ≡ true) (odd : n % 2 ≡ 1) where
    pair_is : frame_at s es n ≡ woven_fields s.top_first (planes_at s es (n - 1)) (planes_at s es n)
    unfolding frame_at
    pair_is = grind (arith, cond-true, eq-eqb)

    both_pictures : frame_pictures s n ≡ (n - 1) ∷ n ∷ []
    both_pictures = cond-true s.fields ((n - 1) ∷ n ∷ []) (n ∷ []) fields

    fields_shown : (o : Option Planes) → planes_at s es (n - 1) ≡ o → (p : Option Planes) → planes_at s es n ≡ p → AreShownAs s (frame_units s es n) (frame_bytes_at s es n)
    fields_shown None earlier p later = no_frame (pair_is ∙ ap (λ (o : Option Planes). woven_fields s.top_first o (planes_at s es n)) earlier)
    fields_shown (Some a) earlier None later = no_frame (pair_is ∙ (λ i. woven_fields s.top_first (earlier i) (later i)))
    fields_shown (Some a) earlier (Some b) later =
        shown_by (Some (woven s.top_first a b)) ((n - 1) ∷ n ∷ []) (pair_is ∙ (λ i. woven_fields s.top_first (earlier i) (later i))) both_pictures (pair_shown fields odd a b earlier later)

  even_shown : s.fields ≡ true → (n % 2 == 1) ≡ false → AreShownAs s (frame_units s es n) (frame_bytes_at s es n)
  unfolding frame_at
  even_shown fields even = grind (arith, cond-false, cond-true, no_frame)

  pub number_shown : AreShownAs s (frame_units s es n) (frame_bytes_at s es n)
  number_shown = by_mode s.fields refl
    where
      by_parity : s.fields ≡ true → (odd : Bool) → (n % 2 == 1) ≡ odd → AreShownAs s (frame_units s es n) (frame_bytes_at s es n)
      by_parity fields true odd = fields_shown fields (eqb-true (n % 2) 1 odd) (planes_at s es (n - 1)) refl (planes_at s es n) refl
      by_parity fields false even = even_shown fields even

      by_mode : (fields : Bool) → s.fields ≡ fields → AreShownAs s (frame_units s es n) (frame_bytes_at s es n)
      by_mode false frames = frame_shown frames (planes_at s es n) refl
      by_mode true fields = by_parity fields (n % 2 == 1) refl

-- ---- frames one after another

pub numbers_shown : (s : Sequence) (es : List Numbered) (numbers : List ℕ) → AreShownAs s (flat_map (frame_units s es) numbers) (flat_map (frame_bytes_at s es) numbers)
numbers_shown s es [] = none_shown s
numbers_shown s es (n ∷ numbers) = rw (flat_map-cons (frame_units s es) n numbers, flat_map-cons (frame_bytes_at s es) n numbers)
    (joined_shown s (frame_units s es n) (flat_map (frame_units s es) numbers) (frame_bytes_at s es n) (flat_map (frame_bytes_at s es) numbers) (number_shown s es n) (numbers_shown s es numbers))
