use Rattle.std.proofs.Common.{rules, ◌^◌, ◌≤◌, ℤ, pos, unsigned_abs, FitsSigned, sym, ap, subst, ◌∙◌, arith}
use Rattle.std.specs.Int.{w64, int_div_euclid}
use Rattle.std.proofs.lemmas.Int.{ints, to_z-of_z}
use Rattle.vc_lowdelay.proofs.Means.{mean_small}
use Rattle.vc_lowdelay.proofs.bands.mean.Goals as goal

pub returns-clause-value : goal.returns-clause-value
returns-clause-value c =
    let fits : FitsSigned w64 c.div_euclid.result = search rules in
    to_z-of_z w64 c.div_euclid.result fits ∙ c.div_euclid.ensures ∙ ap (λ (z : ℤ). int_div_euclid z (pos 3)) (omega (arith, ints))

pub returns-clause-range : goal.returns-clause-range
returns-clause-range c =
    subst (λ (z : ℤ). unsigned_abs z ≤ 2 ^ 60) (sym (returns-clause-value c))
    (mean_small c.args.left c.args.above_left c.args.above (2 ^ 60) c.requires.left c.requires.above_left c.requires.above)
