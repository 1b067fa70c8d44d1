-- What the refusal of a part says of the whole picture.
use Rattle.std.proofs.Common.{◌≡◌, ℕ, ◌≤◌, true, List, length}
use Rattle.vc_types.specs.Subbands.{slice_count}
use Rattle.vc_lowdelay.specs.declared.refusal.LowRefusal.{LowRefusal}
use Rattle.vc_lowdelay.specs.declared.refusal.LowRefusal.TheVariants.{Short, CoefficientRange, NoMemory}
use Rattle.vc_lowdelay.specs.LowDelay.{LowParameters, are_large, low_slice_start, low_slices}
use Rattle.vc_lowdelay.specs.Refusals.{IsRefusalFor, IsRefusalOf}
use Rattle.vc_lowdelay.proofs.LowAnswers.{is_large_picture}

pub for_weaker : (P Q : Type 0) → (P → Q) → (e : LowRefusal) → IsRefusalFor P e → IsRefusalFor Q e
for_weaker P Q f Short why = why
for_weaker P Q f CoefficientRange why = f why
for_weaker P Q f NoMemory why = tt

pub refusal_of : (p : LowParameters) (bytes : List ℕ) → low_slice_start p.numerator p.denominator (slice_count p.parameters) ≤ length bytes
    → (P : Type 0) → (P → are_large p.parameters (low_slices p bytes) ≡ true) → (e : LowRefusal) → IsRefusalFor P e → IsRefusalOf p bytes e
refusal_of p bytes whole P large Short why = absurd why
refusal_of p bytes whole P large CoefficientRange why = is_large_picture p bytes whole (large why)
refusal_of p bytes whole P large NoMemory why = tt
