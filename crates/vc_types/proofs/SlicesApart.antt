-- A picture whose slices were decoded apart is put together from their answers.
use Rattle.std.proofs.Common.{◌≡◌, ℕ, zero, suc, ◌+◌, ◌<◌, Bool, List, [], ◌∷◌, ◌++◌, length, take, drop, map, All, Some, None, Result, Ok, Err, refl, sym, ap, subst, ◌∙◌, arith, append_assoc}
use Rattle.std.specs.Prelude.{slice_index_or}
use Rattle.std.specs.List.{range_with_len}
use Rattle.std.proofs.Math.Seq.{drop-append_seam, take-append_seam, take-length}
use Rattle.vc_types.specs.declared.refusal.ParamsRefusal.{ParamsRefusal}
use Rattle.vc_types.specs.declared.refusal.Unsound.{Unsound}
use Rattle.vc_types.specs.Bits.{bits_of}
use Rattle.vc_types.specs.Fields.{and_then, joined}
use Rattle.vc_types.specs.PictureBytes.{IsWholeSlice, ArePictureBytes, AreAnswers}
use Rattle.vc_types.specs.Pictures.{Picture, decoded_picture, with_parameters, with_slices, slices_from, sound}
use Rattle.vc_types.specs.SequenceHeader.{Sequence, bytes_used, with_bytes_used}
use Rattle.vc_types.specs.Slices.{Coefficients, slice_coefficients}
use Rattle.vc_types.specs.Subbands.{slice_count}
use Rattle.vc_types.specs.TransformParameters.{Parameters, transform_parameters, coded_parameters}
use Rattle.vc_types.proofs.FieldCodecs.{ok_is}
use Rattle.vc_types.proofs.OwnBytes.{ReadAgain, read_again}
use Rattle.vc_types.proofs.OwnParameters.{parameters_own}
use Rattle.vc_types.proofs.WholeSlices.{slice_before, slices_from-whole}

-- ---- the parameters

-- behind a picture's own parameters its slices are read
pub behind_parameters : (s : Sequence) (p : Parameters) (coded more : List ℕ) → coded_parameters s coded ≡ Ok (p, length coded)
    → decoded_picture s (coded ++ more) ≡ with_slices p (slices_from p 0 (slice_count p) more)
unfolding decoded_picture
behind_parameters s p coded more is = by_read (transform_parameters s (bits_of coded)) refl is
  where
    by_read : (r : Result (Parameters × List Bool) ParamsRefusal) → transform_parameters s (bits_of coded) ≡ r → with_bytes_used coded r ≡ Ok (p, length coded)
        → with_parameters (coded ++ more) (transform_parameters s (bits_of (coded ++ more))) ≡ with_slices p (slices_from p 0 (slice_count p) more)
    by_read (Err refusal) at is = absurd cc
    by_read (Ok read) at is =
        let own : (read.0, bytes_used coded read.1) ≡ (p, length coded) = ok_is {E = ParamsRefusal} (read.0, bytes_used coded read.1) (p, length coded) is in
        let value : read.0 ≡ p = ap (λ (x : Parameters × ℕ). x.0) own in
        let used : bytes_used coded read.1 ≡ length coded = ap (λ (x : Parameters × ℕ). x.1) own in
        let front : take (bytes_used coded read.1) coded ≡ coded = ap (λ (n : ℕ). take n coded) used ∙ take-length coded in
        let again : ReadAgain (transform_parameters s) coded more p =
        subst (λ (x : Parameters). ReadAgain (transform_parameters s) coded more x) value
        (subst (λ (l : List ℕ). ReadAgain (transform_parameters s) l more read.0) front (read_again (transform_parameters s) (parameters_own s) coded read.0 read.1 at more)) in
        ap (with_parameters (coded ++ more)) again.read
        ∙ ap (λ (n : ℕ). with_slices p (slices_from p 0 (slice_count p) (drop n (coded ++ more)))) again.used
        ∙ ap (λ (l : List ℕ). with_slices p (slices_from p 0 (slice_count p) l)) (drop-append_seam coded more)

-- ---- the slices

module _ (p : Parameters) where
  -- a whole slice, and those behind it
  first_slice : (i n : ℕ) (bytes behind : List ℕ) → IsWholeSlice p bytes
      → slices_from p i (suc n) (bytes ++ behind) ≡ and_then (sound (slice_coefficients p i bytes) behind) (λ first. and_then (slices_from p (i + 1) n first.1) (λ read. Ok (first.0 ∷ read.0, read.1)))
  first_slice i n bytes behind whole =
      slices_from-whole p i n (length bytes) (bytes ++ behind) (slice_before p.prefix p.scaler bytes behind whole)
      ∙ ap (λ (own : List ℕ). and_then (sound (slice_coefficients p i own) (drop (length bytes) (bytes ++ behind))) (λ first. and_then (slices_from p (i + 1) n first.1) (λ read. Ok (first.0 ∷ read.0, read.1)))) (take-append_seam bytes behind)
      ∙ ap (λ (left : List ℕ). and_then (sound (slice_coefficients p i bytes) left) (λ first. and_then (slices_from p (i + 1) n first.1) (λ read. Ok (first.0 ∷ read.0, read.1)))) (drop-append_seam bytes behind)

  none_left : (i : ℕ) (behind : List ℕ) → slices_from p i 0 behind ≡ Ok ([], behind)
  unfolding slices_from
  none_left i behind = refl

  -- each of the slices from number i on is sound
  sound_from : (i : ℕ) (slices : List (List ℕ)) (behind : List ℕ) (coefficients : ℕ → Coefficients) → All (IsWholeSlice p) slices
      → ((k j : ℕ) → j ≡ i + k → k < length slices → slice_coefficients p j (slice_index_or slices k []) ≡ Ok (coefficients j))
      → slices_from p i (length slices) (joined slices ++ behind) ≡ Ok (map coefficients (range_with_len i (length slices)), behind)
  sound_from i [] behind coefficients whole sounds = none_left i behind
  sound_from i (bytes ∷ slices) behind coefficients whole sounds =
      let first : slice_coefficients p i bytes ≡ Ok (coefficients i) = sounds 0 i (omega arith) (omega arith) in
      let more = sound_from (i + 1) slices behind coefficients (λ k d h. whole (suc k) d (omega (arith, h))) (λ k j e h. sounds (suc k) j (omega arith) (omega arith)) in
      ap (slices_from p i (suc (length slices))) (append_assoc bytes (joined slices) behind)
      ∙ first_slice i (length slices) bytes (joined slices ++ behind) (whole 0 [] (omega arith))
      ∙ rw first (rw more refl)

  -- those behind a slice are refused
  still_refused : (i n : ℕ) (left : List ℕ) (r : Result Coefficients Unsound) → slices_from p (i + 1) n left ≡ Err tt
      → and_then {B = List Coefficients × List ℕ} (sound r left) (λ first. and_then (slices_from p (i + 1) n first.1) (λ read. Ok (first.0 ∷ read.0, read.1))) ≡ Err tt
  still_refused i n left (Ok s) h = rw h refl
  still_refused i n left (Err why) h = refl

  -- one of the slices from number i on is unsound
  unsound_from : (i : ℕ) (slices : List (List ℕ)) (behind : List ℕ) (k j : ℕ) (why : Unsound) → All (IsWholeSlice p) slices → j ≡ i + k → k < length slices
      → slice_coefficients p j (slice_index_or slices k []) ≡ Err why → slices_from p i (length slices) (joined slices ++ behind) ≡ Err tt
  unsound_from i [] behind k j why whole e h unsound = absurd (omega arith)
  unsound_from i (bytes ∷ slices) behind zero j why whole e h unsound =
      let same : i ≡ j = omega arith in
      let first : slice_coefficients p i bytes ≡ Err why = rw same unsound in
      ap (slices_from p i (suc (length slices))) (append_assoc bytes (joined slices) behind)
      ∙ first_slice i (length slices) bytes (joined slices ++ behind) (whole 0 [] (omega arith))
      ∙ rw first refl
  unsound_from i (bytes ∷ slices) behind (suc k) j why whole e h unsound =
      let more = unsound_from (i + 1) slices behind k j why (λ k d h. whole (suc k) d (omega (arith, h))) (omega arith) (omega arith) unsound in
      ap (slices_from p i (suc (length slices))) (append_assoc bytes (joined slices) behind)
      ∙ first_slice i (length slices) bytes (joined slices ++ behind) (whole 0 [] (omega arith))
      ∙ still_refused i (length slices) (joined slices ++ behind) (slice_coefficients p i bytes) more

-- ---- the picture

module _ (s : Sequence) (p : Parameters) (coded : List ℕ) (slices : List (List ℕ)) (behind : List ℕ) (answer : ℕ → Result Coefficients Unsound) where
  by_slices : ArePictureBytes s p coded slices → decoded_picture s (coded ++ (joined slices ++ behind)) ≡ with_slices p (slices_from p 0 (length slices) (joined slices ++ behind))
  by_slices are = behind_parameters s p coded (joined slices ++ behind) are.parameters ∙ ap (λ (n : ℕ). with_slices p (slices_from p 0 n (joined slices ++ behind))) (sym are.count)

  pub all_sound : (coefficients : ℕ → Coefficients) → ArePictureBytes s p coded slices → AreAnswers p slices answer → ((i : ℕ) → i < slice_count p → answer i ≡ Ok (coefficients i))
      → decoded_picture s (coded ++ (joined slices ++ behind)) ≡ Some (record { parameters = p; slices = map coefficients (range_with_len 0 (slice_count p)) })
  all_sound coefficients are answers sounds =
      by_slices are
      ∙ ap (with_slices p) (sound_from p 0 slices behind coefficients are.whole (λ k j e h. (let same : k ≡ j = omega arith in
      subst (λ (n : ℕ). slice_coefficients p n (slice_index_or slices k []) ≡ Ok (coefficients n)) same (sym (answers k h) ∙ sounds k (omega (arith, h, are.count))))))
      ∙ ap (λ (n : ℕ). Some (let picture : Picture = record { parameters = p; slices = map coefficients (range_with_len 0 n) } in picture)) are.count

  pub one_unsound : (i : ℕ) (why : Unsound) → ArePictureBytes s p coded slices → AreAnswers p slices answer → i < slice_count p → answer i ≡ Err why
      → decoded_picture s (coded ++ (joined slices ++ behind)) ≡ None
  one_unsound i why are answers below unsound =
      let inside : i < length slices = omega (arith, below, are.count) in
      by_slices are ∙ ap (with_slices p) (unsound_from p 0 slices behind i i why are.whole (omega arith) inside (sym (answers i inside) ∙ unsound))
