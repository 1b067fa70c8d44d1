use Rattle.std.proofs.Common.{◌≡◌, ℕ, ◌<◌, false}
use Rattle.claim_board.specs.Feeders.{form_sees}
use Rattle.claim_board.specs.Views.{may_take_a_job}
use Rattle.claim_board.proofs.feeder.BoardFeeder.free_place.Given as goal

abbrev pub invariant-loop-place : goal.invariant-loop-place
invariant-loop-place l = (p : ℕ) → p < l.place → may_take_a_job (form_sees l.self) p ≡ false
