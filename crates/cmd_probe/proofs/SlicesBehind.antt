-- Slices one after another, of which so many are done.
use Rattle.std.proofs.Common.{◌≡◌, ◌<◌, ℕ, zero, suc, ◌+◌, ◌-◌, List, Result, Ok, Err, refl, ap, ◌∙◌, arith}
use Rattle.std.specs.Prelude.{IsErr}
use Rattle.std.proofs.lemmas.Bool.{false≢true}
use Rattle.vc_types.specs.Slices.{CodedSlice, coded_slice}
use Rattle.cmd_probe.specs.Indices.{behind, behind_slice, behind_slices, with_index}
use Rattle.cmd_probe.specs.declared.slices.Indices.{Indices}

stays : (left : List ℕ × Indices) (read : Result (CodedSlice × List ℕ) (Unit {0})) → IsErr read → behind left read ≡ left
stays left (Ok read) none = absurd (false≢true none)
stays left (Err short) none = refl

module _ (prefix scaler : ℕ) where
  -- where no slice begins the bytes, nothing comes of more
  stuck : (count : ℕ) (left : List ℕ × Indices) → IsErr (coded_slice prefix scaler left.0)
      → behind_slices prefix scaler count left ≡ left
  stuck zero left none = refl
  stuck (suc count) left none =
      ap (behind_slices prefix scaler count) (stays left (coded_slice prefix scaler left.0) none)
      ∙ stuck count left none

  one_of : (count i : ℕ) (left : List ℕ × Indices) → i < count
      → behind_slices prefix scaler (count - i) left
      ≡ behind_slices prefix scaler (count - (i + 1)) (behind_slice prefix scaler left)
  one_of count i left more =
      let next : count - i ≡ suc (count - (i + 1)) = omega arith in
      ap (λ (n : ℕ). behind_slices prefix scaler n left) next

  -- one slice more was read
  pub one_read : (count i : ℕ) (bytes : List ℕ) (s : Indices) (read : CodedSlice × List ℕ) → i < count
      → coded_slice prefix scaler bytes ≡ Ok read
      → behind_slices prefix scaler (count - (i + 1)) (read.1, with_index s read.0.index)
      ≡ behind_slices prefix scaler (count - i) (bytes, s)
  one_read count i bytes s read more is =
      rw (one_of count i (bytes, s) more, is) refl

  -- none was
  pub none_read : (count i : ℕ) (bytes : List ℕ) (s : Indices) → IsErr (coded_slice prefix scaler bytes)
      → behind_slices prefix scaler (count - i) (bytes, s) ≡ (bytes, s)
  none_read count i bytes s none = stuck (count - i) (bytes, s) none
