-- A plan has at least one slice across and one down.
use Rattle.std.proofs.Common.{◌≡◌, ℕ, ◌<◌, true, arith}
use Rattle.std.proofs.lemmas.Bool.Decides.{nat_tests}
use Rattle.vc_types.specs.Limits.{slices_fit}

pub some_across : (across down : ℕ) → slices_fit across down ≡ true → 0 < across
some_across across down h = grind (arith, nat_tests)

pub some_down : (across down : ℕ) → slices_fit across down ≡ true → 0 < down
some_down across down h = grind (arith, nat_tests)
