-- What putting a slice into a picture leaves.
use Rattle.std.specs.Prelude.{◌≡◌, ℕ, Result, Ok, Err}
use Rattle.vc_types.specs.declared.refusal.Unsound.{Unsound}
use Rattle.vc_types.specs.Slices.{Coefficients}
use Rattle.picture_build.specs.Kept.{PartPicture, with_slice}
use Rattle.picture_build.specs.declared.builder.NotPut.{NotPut}
use Rattle.picture_build.specs.declared.builder.NotPut.TheVariants as not_put

-- The slice of this number decodes so, and is put there; or the picture stays, and the refusal is
-- that of decoding. Of a slice that may be wide no more is said.
abbrev pub Puts : Result Coefficients Unsound → ℕ → PartPicture → PartPicture
    → Result (Unit {0}) NotPut → Type 0
Puts decoded n old new (Ok done) =
    (s : Coefficients) × (decoded ≡ Ok s) × (new ≡ with_slice old n s)
Puts decoded n old new (Err (not_put.Unsound why)) = (decoded ≡ Err why) × (new ≡ old)
Puts decoded n old new (Err not_put.Wide) = new ≡ old
