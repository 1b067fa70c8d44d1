-- Slices that are read one after another.
use Rattle.std.proofs.Common.{◌≡◌, ℕ, suc, ◌+◌, ◌-◌, ◌<◌, ◌≤◌, List, [], ◌∷◌, ◌++◌, take, drop, Some, None, Ok, Err, refl, sym, ap, ◌∙◌, arith, append_assoc, append-nil}
use Rattle.std.specs.Prelude.{Result, Bool, true, false}
use Rattle.picture_build.specs.Kept.{PartPicture}
use Rattle.std.specs.Result.{result_ok}
use Rattle.std.proofs.lemmas.Grind.{common_steps}
use Rattle.picture_build.proofs.WholeSlices.{whole_slice}
use Rattle.vc_types.specs.Fields.{and_then}
use Rattle.vc_types.specs.Pictures.{slices_from}
use Rattle.vc_types.specs.declared.refusal.Unsound.{Unsound}
use Rattle.vc_types.specs.Slices.{Coefficients, slice_length, slice_coefficients}
use Rattle.vc_types.proofs.WholeSlices.{slices_from-sound, slices_from-unsound, slices_from-short}
use Rattle.vc_types.specs.TransformParameters.{Parameters}
use Rattle.cmd_stream.specs.Slices.{GaveSlice, slices_behind, TookWhole, TookSlice}

abbrev Read : Type 0
Read = Result (List Coefficients × List ℕ) (Unit {0})

-- nothing before
pub behind-nothing : (read : Read) → slices_behind [] read ≡ read
behind-nothing (Ok read) = refl
behind-nothing (Err short) = refl

behind-and : (done : List Coefficients) (s : Coefficients) (read : Read) → slices_behind done (and_then read (λ more. Ok (s ∷ more.0, more.1))) ≡ slices_behind (done ++ s ∷ []) read
behind-and done s (Ok read) = ap (λ (all : List Coefficients). Ok (all, read.1)) (sym (append_assoc done (s ∷ []) read.0))
behind-and done s (Err short) = refl

module _ (p : Parameters) where
  -- the slice at the front is cut short
  pub gave-short : (i : ℕ) (old new : List ℕ) → slice_length p.prefix p.scaler old ≡ None → GaveSlice p i old new None
  gave-short i old new short n = slices_from-short p i n old short

  -- it is decoded, soundly or not
  pub gave-answer : (i len : ℕ) (old piece new : List ℕ) (answer : Result Coefficients Unsound) → slice_length p.prefix p.scaler old ≡ Some len → piece ≡ take len old → new ≡ drop len old
      → answer ≡ slice_coefficients p i piece → GaveSlice p i old new (result_ok answer)
  gave-answer i len old piece new (Ok s) is front rest decoded =
      let own : slice_coefficients p i piece ≡ Ok s = sym decoded in
      (whole_slice p i s piece own, λ n. rw rest (slices_from-sound p i n len old s is (rw front at own)))
  gave-answer i len old piece new (Err why) is front rest decoded = λ n. slices_from-unsound p i n len old why is (rw front at (sym decoded))

  -- a slice of which it is known what its bytes are
  pub took : (i len : ℕ) (old piece new : List ℕ) (before after : PartPicture) (came : Bool) → slice_length p.prefix p.scaler old ≡ Some len → piece ≡ take len old → new ≡ drop len old
      → TookWhole p i piece before after came → TookSlice p i old new before after came
  took i len old piece new before after true is front rest whole = (whole.0, gave-answer i len old piece new (Ok whole.0) is front rest (sym whole.1), whole.2)
  took i len old piece new before after false is front rest whole = gave-answer i len old piece new (Err whole.0) is front rest (sym whole.1)

  -- a slice more, of n
  pub behind-slice : (i n : ℕ) (old new : List ℕ) (done : List Coefficients) (s : Coefficients) → i < n → GaveSlice p i old new (Some s)
      → slices_behind done (slices_from p i (n - i) old) ≡ slices_behind (done ++ s ∷ []) (slices_from p (i + 1) (n - (i + 1)) new)
  behind-slice i n old new done s h gave = grind (arith, common_steps, behind-and)

  -- a slice that is refused
  pub behind-refused : (i n : ℕ) (old new : List ℕ) (done : List Coefficients) → i < n → GaveSlice p i old new None → slices_behind done (slices_from p i (n - i) old) ≡ Err tt
  behind-refused i n old new done h gave =
      let next : n - i ≡ suc (n - (i + 1)) = omega arith in
      ap (λ (count : ℕ). slices_behind done (slices_from p i count old)) next ∙ ap (slices_behind done) (gave (n - (i + 1)))

  -- no slice more
  pub behind-last : (i n : ℕ) (rest : List ℕ) (done : List Coefficients) → n ≤ i → slices_behind done (slices_from p i (n - i) rest) ≡ Ok (done, rest)
  unfolding slices_from
  behind-last i n rest done h =
      let none : n - i ≡ 0 = omega arith in
      ap (λ (count : ℕ). slices_behind done (slices_from p i count rest)) none ∙ ap (λ (all : List Coefficients). Ok (all, rest)) (append-nil done)
