use Rattle.std.proofs.Common.{◌≡◌, ◌↔◌, ◌+◌, ◌-◌, ◌*◌, ◌≤◌, ℕ, arith, subst}
use Rattle.vc_quant.proofs.Quotients.{all_reached, some_power, few_powers, first_reached, fourth_not, factor_at, reached}
use Rattle.vc_quant.proofs.last.last_of_many.Goals as goal

pub returns-then-quarters-clause-value : goal.returns-then-quarters-clause-value
returns-then-quarters-clause-value c = all_reached c.args.quarters (omega arith)

pub overflow_sub-first : goal.overflow_sub-first
overflow_sub-first c = some_power c.ilog2.result c.args.quarters c.ilog2.ensures.next_power_gt c.requires

pub bounds-first : goal.bounds-first
bounds-first c = omega (arith, few_powers c.ilog2.result c.args.quarters c.ilog2.ensures.power_le (omega arith))

pub bounds-first-2 : goal.bounds-first-2
bounds-first-2 c = omega (arith, few_powers c.ilog2.result c.args.quarters c.ilog2.ensures.power_le (omega arith))

pub bounds-first-3 : goal.bounds-first-3
bounds-first-3 c = omega (arith, few_powers c.ilog2.result c.args.quarters c.ilog2.ensures.power_le (omega arith))

pub returns-clause-value : goal.returns-clause-value
returns-clause-value c =
    let power = c.ilog2.result in
    let first = 4 * (power - 2) in
    let some = some_power power c.args.quarters c.ilog2.ensures.next_power_gt c.requires in
    let few = few_powers power c.args.quarters c.ilog2.ensures.power_le (omega arith) in
    let within : first + 4 ≤ 128 = omega (arith, few, some) in
    let one = subst (λ (f : ℕ). (c.is_reached.result ≡ 1) ↔ (f ≤ c.args.quarters)) (factor_at (first + 1) (omega arith)) c.is_reached.ensures.exactly in
    let two = subst (λ (f : ℕ). (c.is_reached-2.result ≡ 1) ↔ (f ≤ c.args.quarters)) (factor_at (first + 2) (omega arith)) c.is_reached-2.ensures.exactly in
    let three = subst (λ (f : ℕ). (c.is_reached-3.result ≡ 1) ↔ (f ≤ c.args.quarters)) (factor_at (first + 3) (omega arith)) c.is_reached-3.ensures.exactly in
    reached c.args.quarters first c.is_reached.result c.is_reached-2.result c.is_reached-3.result (omega arith)
    (first_reached power c.args.quarters some few c.ilog2.ensures.power_le) (λ h. fourth_not power c.args.quarters some (omega arith) c.ilog2.ensures.next_power_gt)
    one two three c.is_reached.ensures.range c.is_reached-2.ensures.range c.is_reached-3.ensures.range

pub returns-clause-range : goal.returns-clause-range
returns-clause-range c = omega (arith, few_powers c.ilog2.result c.args.quarters c.ilog2.ensures.power_le (omega arith), c.is_reached.ensures.range, c.is_reached-2.ensures.range, c.is_reached-3.ensures.range)
