use Rattle.std.proofs.Common.{rules, ◌∙◌}
use Rattle.claim_board.specs.Feeders.{feeder_bound}
use Rattle.claim_board.proofs.Sweeps.{asked_more, asked_none}
use Rattle.claim_board.proofs.feeder.BoardFeeder.sweep.Goals as goal

pub returns-then-are_none-clause-asked : goal.returns-then-are_none-clause-asked
returns-then-are_none-clause-asked c = asked_none c.args.self.now (search rules) (feeder_bound c.args.self.now)

pub loop-place-preserved : goal.loop-place-preserved
loop-place-preserved c = record {
  bound = c.ask_if_left.ensures.bound ∙ c.loop-place.invariant.bound;
  asked = asked_more c.loop-place.place c.args.self.now c.loop-place.self c.ask_if_left.new.self c.loop-place.invariant.asked c.ask_if_left.ensures.asked;
}
