-- Tests of which one is known.
use Rattle.std.proofs.Common.{◌≡◌, Bool, true, false, refl, sym}
use Rattle.std.specs.Prelude.{◌&&◌, ◌||◌, not}
use Rattle.std.proofs.lemmas.Bool.{false≢true}

pub and_true : (b : Bool) → (b && true) ≡ b
and_true true = refl
and_true false = refl

pub and_false : (b : Bool) → (b && false) ≡ false
and_false true = refl
and_false false = refl

pub or_true : (b : Bool) → (b || true) ≡ true
or_true true = refl
or_true false = refl

pub or_false : (b : Bool) → (b || false) ≡ b
or_false true = refl
or_false false = refl

pub both_hold : (a b : Bool) → (a && not b) ≡ true → (a ≡ true) × (b ≡ false)
both_hold true false is = (refl, refl)
both_hold true true is = absurd (false≢true is)
both_hold false b is = absurd (false≢true is)

-- what has ended has ended, and else this doesn't end it
pub stays_so : (a b : Bool) → (a && not b) ≡ false → (b || a) ≡ b
stays_so true true is = refl
stays_so true false is = absurd (false≢true (sym is))
stays_so false true is = refl
stays_so false false is = refl
