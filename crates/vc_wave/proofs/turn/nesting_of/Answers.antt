use Rattle.std.proofs.Common.{rules, ◌*◌, ◌^◌, arith, ap, ◌∙◌}
use Rattle.vc_types.specs.TransformParameters.{parameters_of}
use Rattle.vc_wave.proofs.Levels.{level_some}
use Rattle.vc_wave.proofs.TurnedLevels.{sides_small}
use Rattle.vc_wave.proofs.turn.nesting_of.Goals as goal

pub side_at-requires-clause-fits : goal.side_at-requires-clause-fits
side_at-requires-clause-fits c = search (rules, sides_small)

pub returns-clause-w : goal.returns-clause-w
returns-clause-w c = c.side_at.ensures ∙ ap (λ n. n * 2 ^ c.args.plan.now.depth_ho) c.lowest-w.ensures.width

pub returns-clause-some : goal.returns-clause-some
returns-clause-some c = let some =
    level_some c.lowest-w.result.0 c.args.plan.now.depth_ho c.lowest-w.ensures.some.0 in
    (omega (arith, some), omega arith)

pub returns-clause-small : goal.returns-clause-small
returns-clause-small c =
    let p = parameters_of c.args.plan.now in
    let small = sides_small p c.args.c c.lowest-w.result.0 c.lowest-w.result.1 c.lowest-w.ensures.width
    c.lowest-w.ensures.height c.lowest-w.ensures.small.0 c.lowest-w.ensures.small.1 in
    let side = ap (λ n. n * 2 ^ p.depth) c.side_at.ensures in
    (omega (arith, small.1, side), omega (arith, small.2))
