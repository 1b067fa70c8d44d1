-- The first sample that isn't below a limit, as the samples are walked.
use Rattle.std.proofs.Common.{◌≡◌, ℕ, ◌+◌, ◌<◌, ◌≤◌, cond, List, length, drop, Some, None, ap, arith, slice_index_or, nat_lt, drop-cons}
use Rattle.std.proofs.lemmas.Bool.Decides.{nat_tests}
use Rattle.std.proofs.lemmas.List.{drop_all}
use Rattle.std.proofs.lemmas.Grind.{common_steps}
use Rattle.link_model.specs.SendingFaults.{first_outside}

at_place : (limit i : ℕ) (samples : List ℕ) → i < length samples → first_outside limit i (drop i samples) ≡ cond (nat_lt (slice_index_or samples i 0) limit) (first_outside limit (i + 1) (drop (i + 1) samples)) (Some (i, slice_index_or samples i 0))
unfolding first_outside
at_place limit i samples h = grind (arith, common_steps, drop-cons)

pub found : (limit i : ℕ) (samples : List ℕ) → i < length samples → limit ≤ slice_index_or samples i 0 → first_outside limit i (drop i samples) ≡ Some (i, slice_index_or samples i 0)
found limit i samples h big = grind (arith, nat_tests, at_place)

pub passed : (limit i : ℕ) (samples : List ℕ) → i < length samples → slice_index_or samples i 0 < limit → first_outside limit (i + 1) (drop (i + 1) samples) ≡ first_outside limit i (drop i samples)
passed limit i samples h small = grind (arith, nat_tests, at_place)

pub ended : (limit i : ℕ) (samples : List ℕ) → length samples ≤ i → first_outside limit i (drop i samples) ≡ None
unfolding first_outside
ended limit i samples h = ap (first_outside limit i) (drop_all i samples h)
