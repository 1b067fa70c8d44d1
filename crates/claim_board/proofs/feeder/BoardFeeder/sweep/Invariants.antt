use Rattle.std.proofs.Common.{◌≡◌}
use Rattle.claim_board.specs.Feeders.{feeder_bound, HasAskedBelow}
use Rattle.claim_board.proofs.feeder.BoardFeeder.sweep.Given as goal

abbrev pub invariant-loop-place : goal.invariant-loop-place
invariant-loop-place l = record {
  bound : feeder_bound l.self ≡ feeder_bound l.fn.self;
  asked : HasAskedBelow l.place l.fn.self l.self;
}
