use Rattle.std.proofs.Common.{ℕ, ◌+◌, ap, sym}
use Rattle.cmd_gen.proofs.Counting.{rest_missing}
use Rattle.cmd_gen.proofs.comparison.Comparison.different.Goals as goal

pub returns : goal.returns
returns c =
    let self = c.args.self.now in
    ap (λ (n : ℕ). self.different + n) (sym (rest_missing self.depth self.state self.left self.wide self.low))
