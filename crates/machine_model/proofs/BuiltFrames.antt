-- A frame that is built of the answers to its slices is the frame of the pictures' own bytes.
use Rattle.std.proofs.Common.{◌≡◌, ℕ, zero, suc, ◌+◌, ◌-◌, ◌%◌, true, false, List, [], ◌∷◌, ◌++◌}
use Rattle.std.proofs.Common.{length, map, Option, Some, None, Result, Ok, Err, refl, ap, sym, ◌∙◌}
use Rattle.std.proofs.Common.{arith}
use Rattle.std.specs.Prelude.{is_some, unwrap_or}
use Rattle.std.specs.List.{list_all, range_with_len}
use Rattle.std.specs.Option.{option_map, option_and_then}
use Rattle.std.proofs.Math.Seq.{drop-append_seam, take-append_seam}
use Rattle.std.proofs.lemmas.Bool.{and_parts, false≢true}
use Rattle.std.proofs.lemmas.Option.{same_Some, none-some}
use Rattle.link_model.specs.Complete.{slice_numbers, has_all_slices, all_bytes, whole_of}
use Rattle.link_model.specs.Complete.{whole_picture}
use Rattle.machine_model.specs.Feeders.{SliceAnswer, EnteredSession, session_opening, keeps_of}
use Rattle.machine_model.specs.Feeders.{picture_keeps, kept_job, answer_in, has_every_answer, is_ready}
use Rattle.machine_model.specs.Feeding.{sound_answer, with_first, sound_answers, planes_by}
use Rattle.machine_model.specs.Feeding.{built_planes, built_bytes}
use Rattle.machine_model.specs.Interleavings.{AreOwnAnswers}
use Rattle.link_model.specs.Kept.{Own, own, own_slice, split_parts}
use Rattle.link_model.specs.Numbers.{is_opened, parts_of}
use Rattle.link_model.specs.Output.{planes_at, frame_at, frame_bytes_at}
use Rattle.machine_model.specs.Places.{Job, decoding}
use Rattle.link_model.specs.Session.{HeardSession, Part}
use Rattle.machine_model.proofs.PicturesStay.{kept_slice, job_of_kept}
use Rattle.vc_types.specs.PictureBytes.{IsWholeSlice}
use Rattle.link_model.proofs.WholeBytes.{decoded_whole, own_slice_whole}
use Rattle.vc_types.specs.Fields.{and_then, joined}
use Rattle.vc_types.specs.Pictures.{Picture, with_slices, slices_from}
use Rattle.vc_types.specs.Planes.{planes_of, decoded_planes}
use Rattle.vc_types.specs.Slices.{Coefficients, slice_coefficients}
use Rattle.vc_types.specs.Subbands.{slice_count}
use Rattle.vc_types.specs.TransformParameters.{Parameters}
use Rattle.vc_types.specs.declared.refusal.Unsound.{Unsound}
use Rattle.vc_types.proofs.WholeSlices.{whole_slice, slice_before, slices_from-sound}
use Rattle.vc_types.proofs.WholeSlices.{slices_from-unsound}

-- ---- answers of slices in a row

-- the coefficients of slices, if each is sound
abbrev sound_list : (ℕ → Result Coefficients Unsound) → List ℕ → Option (List Coefficients)
sound_list answer [] = Some []
sound_list answer (i ∷ is) = with_first (sound_answer (Some (answer i))) (sound_list answer is)

abbrev EachSlice : (ℕ → Type 0) → List ℕ → Type 0
EachSlice P [] = Unit {0}
EachSlice P (i ∷ is) = P i × EachSlice P is

same_answers : (decoded : List SliceAnswer) (n : ℕ) (answer : ℕ → Result Coefficients Unsound) (is : List ℕ) → EachSlice (λ i. answer_in decoded n i ≡ Some (answer i)) is
    → sound_answers decoded n is ≡ sound_list answer is
same_answers decoded n answer [] all = refl
same_answers decoded n answer (i ∷ is) all = grind (arith, same_answers decoded n answer is all.1)

abbrev read_of : Option (List Coefficients) → Result (List Coefficients × List ℕ) (Unit {0})
read_of None = Err tt
read_of (Some slices) = Ok (slices, [])

module _ (p : Parameters) (bytes : ℕ → List ℕ) where
  abbrev answer_of : ℕ → Result Coefficients Unsound
  answer_of i = slice_coefficients p i (bytes i)

  abbrev rest_of : ℕ → ℕ → List ℕ
  rest_of i n = joined (map bytes (range_with_len (i + 1) n))

  none_left : (i : ℕ) → slices_from p i 0 [] ≡ Ok ([], [])
  unfolding slices_from
  none_left i = refl

  -- whole slices one after another are read as their answers say
  read_in_a_row : (i n : ℕ) → EachSlice (λ k. IsWholeSlice p (bytes k)) (range_with_len i n)
      → slices_from p i n (joined (map bytes (range_with_len i n))) ≡ read_of (sound_list answer_of (range_with_len i n))
  read_in_a_row i zero whole = none_left i
  read_in_a_row i (suc n) whole = by_answer (answer_of i) refl (read_in_a_row (i + 1) n whole.1)
    where
      behind : (o : Option (List Coefficients)) (s : Coefficients) → and_then {B = List Coefficients × List ℕ} (read_of o) (λ read. Ok (s ∷ read.0, read.1)) ≡ read_of (with_first (Some s) o)
      behind None s = refl
      behind (Some slices) s = refl

      by_answer : (r : Result Coefficients Unsound) → answer_of i ≡ r → slices_from p (i + 1) n (rest_of i n) ≡ read_of (sound_list answer_of (range_with_len (i + 1) n))
          → slices_from p i (suc n) (bytes i ++ rest_of i n) ≡ read_of (with_first (sound_answer (Some (answer_of i))) (sound_list answer_of (range_with_len (i + 1) n)))
      by_answer (Ok s) is later =
          slices_from-sound p i n (length (bytes i)) (bytes i ++ rest_of i n) s (slice_before p.prefix p.scaler (bytes i) (rest_of i n) whole.0) (ap (slice_coefficients p i) (take-append_seam (bytes i) (rest_of i n)) ∙ is)
          ∙ ap (λ (l : List ℕ). and_then {B = List Coefficients × List ℕ} (slices_from p (i + 1) n l) (λ read. Ok (s ∷ read.0, read.1))) (drop-append_seam (bytes i) (rest_of i n))
          ∙ ap (λ (r : Result (List Coefficients × List ℕ) (Unit {0})). and_then {B = List Coefficients × List ℕ} r (λ read. Ok (s ∷ read.0, read.1))) later
          ∙ behind (sound_list answer_of (range_with_len (i + 1) n)) s
          ∙ ap (λ (r : Result Coefficients Unsound). read_of (with_first (sound_answer (Some r)) (sound_list answer_of (range_with_len (i + 1) n)))) (sym is)
      by_answer (Err why) is later =
          slices_from-unsound p i n (length (bytes i)) (bytes i ++ rest_of i n) why (slice_before p.prefix p.scaler (bytes i) (rest_of i n) whole.0) (ap (slice_coefficients p i) (take-append_seam (bytes i) (rest_of i n)) ∙ is)
          ∙ ap (λ (r : Result Coefficients Unsound). read_of (with_first (sound_answer (Some r)) (sound_list answer_of (range_with_len (i + 1) n)))) (sym is)

-- ---- the answers of a feeder

module _ (window : ℕ) (hs : List HeardSession) where
  pub answer_is_own : (decoded : List SliceAnswer) (n i : ℕ) (a : Result Coefficients Unsound) → AreOwnAnswers window hs decoded → answer_in decoded n i ≡ Some a
      → (job : Job) × (kept_job window hs n i ≡ Some job) × (a ≡ decoding job)
  answer_is_own [] n i a own e = absurd (none-some a e)
  answer_is_own (x ∷ decoded) n i a own e = grind (arith, answer_is_own decoded n i a own.1)

-- ---- the planes of a picture

none_first : {X : Type 0} (o : Option X) → with_first o None ≡ None
none_first None = refl
none_first (Some x) = refl

module _ (window : ℕ) (hs : List HeardSession) (decoded : List SliceAnswer) (answers : AreOwnAnswers window hs decoded)
    (n : ℕ) (e : EnteredSession) (found : session_opening window hs n ≡ Some e) where
  abbrev parts : List Part
  parts = parts_of n e.entries

  module _ (kept : Own) (keeps : own e.sequence parts ≡ Some kept) where
    abbrev p : Parameters
    p = kept.plan.parameters

    abbrev bytes_of : ℕ → List ℕ
    bytes_of i = unwrap_or (own_slice kept i) []

    -- an answer is the slice's own
    own_decoding : (i : ℕ) (a : Result Coefficients Unsound) (bytes : List ℕ) → answer_in decoded n i ≡ Some a → own_slice kept i ≡ Some bytes → a ≡ slice_coefficients p i bytes
    own_decoding i a bytes got slice = grind (arith, answer_is_own, job_of_kept)

    -- and there is none to a slice that isn't kept
    no_answer : (i : ℕ) → own_slice kept i ≡ None → answer_in decoded n i ≡ None
    no_answer i none = by_answer (answer_in decoded n i) refl
      where
        by_answer : (o : Option (Result Coefficients Unsound)) → answer_in decoded n i ≡ o → o ≡ None
        by_answer None is = refl
        by_answer (Some a) is =
            let own = answer_is_own window hs decoded n i a answers is in
            let k = kept_slice window hs n i own.0 own.1 in
            let same : e ≡ k.session = same_Some e k.session (sym found ∙ k.found) in
            let both : kept ≡ k.kept = same_Some kept k.kept (sym keeps ∙ ap (λ (e : EnteredSession). keeps_of e n) same ∙ k.keeps) in
            absurd (none-some k.bytes (sym none ∙ ap (λ (o : Own). own_slice o i) both ∙ k.slice))

    missing : (is : List ℕ) → list_all (λ i. is_some (own_slice kept i)) is ≡ false → sound_answers decoded n is ≡ None
    missing [] e = absurd (false≢true (sym e))
    missing (i ∷ is) e = grind (arith, no_answer, none_first, missing is)

    -- each slice is kept, whole and answered
    whole_here : (i : ℕ) (bytes : List ℕ) → own_slice kept i ≡ Some bytes → IsWholeSlice p bytes
    whole_here = own_slice_whole e.sequence parts kept keeps (λ bytes len is. whole_slice p.prefix p.scaler bytes len is)

    slice_facts : (is : List ℕ) → list_all (λ i. is_some (own_slice kept i)) is ≡ true → list_all (λ i. is_some (answer_in decoded n i)) is ≡ true
        → EachSlice (λ i. IsWholeSlice p (bytes_of i)) is × EachSlice (λ i. answer_in decoded n i ≡ Some (answer_of p bytes_of i)) is
    slice_facts [] all got = (tt, tt)
    slice_facts (i ∷ is) all got =
        let kept_all = and_parts (is_some (own_slice kept i)) (list_all (λ i. is_some (own_slice kept i)) is) all in
        let got_all = and_parts (is_some (answer_in decoded n i)) (list_all (λ i. is_some (answer_in decoded n i)) is) got in
        let rest = slice_facts is kept_all.1 got_all.1 in
        let here = by_both (own_slice kept i) refl kept_all.0 (answer_in decoded n i) refl got_all.0 in
        ((here.0, rest.0), (here.1, rest.1))
      where
        by_both : (o : Option (List ℕ)) → own_slice kept i ≡ o → is_some o ≡ true → (r : Option (Result Coefficients Unsound)) → answer_in decoded n i ≡ r → is_some r ≡ true
            → IsWholeSlice p (bytes_of i) × (answer_in decoded n i ≡ Some (answer_of p bytes_of i))
        by_both o slice e r got f = grind (arith, own_decoding, whole_here)

    abbrev picture_by : Option (List Coefficients) → Option Picture
    picture_by o = option_map (λ (slices : List Coefficients). (let picture : Picture = record { parameters = p; slices = slices } in picture)) o

    read_picture : (o : Option (List Coefficients)) → with_slices p (read_of o) ≡ picture_by o
    read_picture None = refl
    read_picture (Some slices) = refl

    planes_read : (o : Option (List Coefficients)) → option_map (planes_of p) o ≡ option_map (λ (picture : Picture). planes_of picture.parameters picture.slices) (picture_by o)
    planes_read None = refl
    planes_read (Some slices) = refl

    built_whole : has_all_slices kept ≡ true → has_every_answer decoded n kept ≡ true → planes_by decoded n kept ≡ decoded_planes e.sequence (all_bytes kept)
    unfolding has_all_slices decoded_planes
    built_whole all got =
        let facts = slice_facts (slice_numbers kept) all got in
        ap (option_map (planes_of p)) (same_answers decoded n (answer_of p bytes_of) (slice_numbers kept) facts.1)
        ∙ planes_read (sound_list (answer_of p bytes_of) (slice_numbers kept))
        ∙ ap (option_map (λ (picture : Picture). planes_of picture.parameters picture.slices))
        (sym (decoded_whole e.sequence parts kept keeps
        ∙ ap (with_slices p) (read_in_a_row p bytes_of 0 (slice_count p) facts.0)
        ∙ read_picture (sound_list (answer_of p bytes_of) (slice_numbers kept))))

    built_broken : has_all_slices kept ≡ false → planes_by decoded n kept ≡ None
    unfolding has_all_slices
    built_broken broken = ap (option_map (planes_of p)) (missing (slice_numbers kept) broken)

    built_kept : is_ready decoded n (Some kept) ≡ true → planes_by decoded n kept ≡ option_and_then (decoded_planes e.sequence) (whole_of kept)
    built_kept ready = grind (arith, built_broken, built_whole)

  pub built_is : is_ready decoded n (picture_keeps window hs n) ≡ true → built_planes decoded e n ≡ planes_at e.sequence e.entries n
  unfolding planes_at whole_picture
  built_is ready = grind (arith, built_kept)

-- a picture that isn't opened has no planes
pub unopened_planes : (decoded : List SliceAnswer) (e : EnteredSession) (n : ℕ) → is_opened e.entries n ≡ false → built_planes decoded e n ≡ planes_at e.sequence e.entries n
unfolding planes_at whole_picture own split_parts
unopened_planes decoded e n unopened = grind arith

-- ---- its frame

pub built_frame : (decoded : List SliceAnswer) (e : EnteredSession) (n : ℕ) → built_planes decoded e n ≡ planes_at e.sequence e.entries n
    → (n % 2 ≡ 1 → built_planes decoded e (n - 1) ≡ planes_at e.sequence e.entries (n - 1))
    → built_bytes decoded n e ≡ frame_bytes_at e.sequence e.entries n
unfolding frame_bytes_at frame_at
built_frame decoded e n here before = grind arith
