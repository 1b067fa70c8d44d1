use Rattle.std.proofs.Common.{rules, ◌≡◌, true, false, Some, None, arith}
use Rattle.cmd_gen.proofs.Counting.{narrow_taken, wide_taken}
use Rattle.cmd_gen.proofs.comparison.Comparison.take_byte.Goals as goal

pub returns-then-not-self : goal.returns-then-not-self
returns-then-not-self c = λ more.
    let self = c.args.self.now in
    let narrow : self.wide ≡ false = search rules in
    narrow_taken self c.compare.new.self c.args.byte _ c.compare.ensures.wide c.compare.ensures.counted more narrow c.compare.ensures.low c.from.ensures

pub returns-in-Some : goal.returns-in-Some
returns-in-Some c = λ more.
    let self = c.args.self.now in
    let new = c.compare-in-Some.new.self in
    let wide : self.wide ≡ true = search rules in
    let had : self.low ≡ Some c.in-Some.low = search rules in
    let has : new.low ≡ None = search rules in
    wide_taken self new c.args.byte _ c.compare-in-Some.ensures.wide c.compare-in-Some.ensures.counted more c.in-Some.low wide had has (omega (arith, c.from-in-Some.ensures, c.from-in-Some-2.ensures))
