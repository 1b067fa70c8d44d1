use Rattle.std.proofs.Common.{arith, ◌∙◌}
use Rattle.cmd_gen.proofs.Counting.{byte_digit, none_behind, one_behind}
use Rattle.cmd_gen.proofs.comparison.Comparison.compare.Goals as goal

pub returns-then-self-eq0-clause-counted : goal.returns-then-self-eq0-clause-counted
returns-then-self-eq0-clause-counted c = λ samples.
    let self = c.args.self.now in
    none_behind self.depth self.state self.left c.args.sample samples self.different (omega (arith, c.if-self-eq0.true))

pub returns-clause-counted : goal.returns-clause-counted
returns-clause-counted c = λ samples.
    let self = c.args.self.now in
    one_behind self.depth self.state self.left c.args.sample samples self.different c.from.result c.next_state-state.result c.sample_of.result (omega (arith, c.if-self-eq0.false)) c.next_state-state.ensures c.sample_of.ensures (c.from.ensures ∙ byte_digit _)
