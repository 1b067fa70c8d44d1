use Rattle.std.proofs.Common.{◌≤◌, List, ℕ, length, sym, subst, arith}
use Rattle.vc_lowdelay.proofs.SliceStarts.{few_in_plan, few_in_slice, in_order, inside, part_is, some_in_slice}
use Rattle.vc_lowdelay.proofs.plan.LowPlan.slice_bytes.Goals as goal

pub slice_start-from-requires : goal.slice_start-from-requires
slice_start-from-requires c = omega (arith, few_in_plan c.args.self.now, c.requires.slice)

pub overflow_add-slice : goal.overflow_add-slice
overflow_add-slice c = let few = few_in_plan c.args.self.now in omega (arith, c.requires.slice)

pub slice_start-to-requires : goal.slice_start-to-requires
slice_start-to-requires c = omega (arith, few_in_plan c.args.self.now, c.requires.slice)

pub slice_bounds-result-start : goal.slice_bounds-result-start
slice_bounds-result-start c = let up = in_order c.args.self.now c.args.slice c.args.bytes.now c.requires.slice c.requires.whole in omega (arith, up, c.slice_start-from.ensures, c.slice_start-to.ensures)

pub slice_bounds-result-end : goal.slice_bounds-result-end
slice_bounds-result-end c = let within = inside c.args.self.now c.args.slice c.args.bytes.now c.requires.slice c.requires.whole in omega (arith, within, c.slice_start-to.ensures)

pub returns-clause-value : goal.returns-clause-value
returns-clause-value c = part_is c.args.bytes.now c.slice_start-from.result c.slice_start-to.result _ _ c.slice_start-from.ensures c.slice_start-to.ensures

pub returns-clause-some : goal.returns-clause-some
returns-clause-some c =
    subst (λ (part : List ℕ). 1 ≤ length part) (sym (returns-clause-value c))
    (some_in_slice c.args.self.now c.args.slice c.args.bytes.now c.requires.slice c.requires.whole)

pub returns-clause-few : goal.returns-clause-few
returns-clause-few c =
    subst (λ (part : List ℕ). length part ≤ 65536) (sym (returns-clause-value c))
    (few_in_slice c.args.self.now c.args.slice c.args.bytes.now c.requires.slice c.requires.whole)
