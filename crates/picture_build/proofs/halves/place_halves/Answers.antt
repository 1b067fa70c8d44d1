use Rattle.std.proofs.Common.{rules, ◌≡◌, ◌-◌, ◌*◌, ◌/◌, ◌≤◌, ◌++◌, ℕ, List, ℤ, length, arith, ap, sym, subst, ◌∙◌}
use Rattle.std.proofs.Math.Nat.{mul-le-mul_right}
use Rattle.vc_types.specs.Subbands.{padded_width}
use Rattle.vc_types.specs.TransformParameters.{parameters_of}
use Rattle.vc_types.proofs.SliceCounts.{some_across}
use Rattle.picture_build.specs.Halves.{FillsRunsIn}
use Rattle.picture_build.specs.Waiting.{FillsRuns}
use Rattle.picture_build.proofs.HalvedRuns.{all-halves, rows_below}
use Rattle.picture_build.proofs.halves.place_halves.Goals as goal

pub split_at_mut-upper-requires : goal.split_at_mut-upper-requires
split_at_mut-upper-requires g c =
    let width = c.padded-width.result.0 in
    let height = c.padded-width.result.1 in
    let size : length c.args.cells.now ≡ height * width = c.requires.cells ∙ ap (λ n. n * padded_width (parameters_of c.args.plan.now) c.args.c) (sym c.padded-width.ensures.height) ∙ ap (λ n. height * n) (sym c.padded-width.ensures.width) in
    let half : height / 2 * width ≤ height * width = mul-le-mul_right width (omega arith) in
    omega (arith, size, half)

pub join_mut-requires-after_bounds : goal.join_mut-requires-after_bounds
join_mut-requires-after_bounds g c κs within =
    let width = c.padded-width.result.0 in
    let height = c.padded-width.result.1 in
    let own = c.padded-width.ensures.width in
    let size : length c.args.cells.now ≡ height * width = c.requires.cells ∙ ap (λ n. n * padded_width (parameters_of c.args.plan.now) c.args.c) (sym c.padded-width.ensures.height) ∙ ap (λ n. height * n) (sym own) in
    let below = rows_below height (height / 2) width (length c.split_at_mut-upper.result.1.now) (length c.args.cells.now) size (omega arith) c.split_at_mut-upper.ensures.back_len in (
      λ _ _ _ _ _ _ _ _ _ _. (c.requires.runs, c.split_at_mut-upper.ensures.front_len ∙ ap (λ n. height / 2 * n) own),
      λ _ _ _ _ _ _ _ _ _ _. (c.requires.runs, below.0 ∙ ap (λ n. (height - height / 2) * n) own),
    )

pub returns : goal.returns
returns g c =
    let plan = c.args.plan.now in
    let p = parameters_of plan in
    let runs = c.args.runs.now in
    let width = c.padded-width.result.0 in
    let height = c.padded-width.result.1 in
    let wide = padded_width p c.args.c in
    let own = c.padded-width.ensures.width in
    let u = c.split_at_mut-upper.result.0.now in
    let l = c.split_at_mut-upper.result.1.now in
    let h = c.join_mut.ensures in
    let up : FillsRunsIn p c.args.c (0 * wide) runs u c.upper-1.given.0 = search rules in
    let low : FillsRunsIn p c.args.c (height / 2 * wide) runs l c.lower-1.given.0 = search rules in
    let none : 0 * wide ≡ 0 = omega arith in
    let size : length c.args.cells.now ≡ height * width = c.requires.cells ∙ ap (λ n. n * wide) (sym c.padded-width.ensures.height) ∙ ap (λ n. height * n) (sym own) in
    let below = rows_below height (height / 2) width (length l) (length c.args.cells.now) size (omega arith) c.split_at_mut-upper.ensures.back_len in
    let upper : height / 2 * wide ≡ length u = ap (λ n. height / 2 * n) (sym own) ∙ sym c.split_at_mut-upper.ensures.front_len in
    subst (λ (cells : List ℤ). FillsRuns p c.args.c runs cells (c.upper-1.given.0 ++ c.lower-1.given.0)) (sym c.split_at_mut-upper.ensures.value)
    (all-halves p c.args.c (some_across plan.slices_x plan.slices_y plan.slices) (height / 2 * wide) runs u c.upper-1.given.0 l c.lower-1.given.0 c.requires.runs upper
    (omega (arith, below.1, c.split_at_mut-upper.ensures.front_len, c.requires.cells))
    (subst (λ (n : ℕ). FillsRunsIn p c.args.c n runs u c.upper-1.given.0) none up) low)
