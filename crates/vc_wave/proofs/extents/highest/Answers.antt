use Rattle.std.proofs.Common.{◌-◌, ◌*◌, ◌^◌, arith, ap, ◌∙◌}
use Rattle.vc_types.specs.TransformParameters.{parameters_of}
use Rattle.vc_wave.proofs.HighestLevel.{whole_width, whole_height}
use Rattle.vc_wave.proofs.extents.highest.Goals as goal

pub returns : goal.returns
returns c =
    let p = parameters_of c.args.plan.now in
    let l = c.levels_of-levels.ensures in
    let level = c.level.ensures in
    let across = level.w ∙ ap (λ n. n * 2 ^ (p.depth - 1)) l.w in
    let down = level.h ∙ ap (λ n. n * 2 ^ (p.depth - 1)) l.h in
    let wide = whole_width p c.args.c (omega arith) in
    let high = whole_height p c.args.c (omega arith) in
    record {
      down = ap (λ w. w.down) level.wavelets ∙ l.down;
      across = ap (λ w. w.across) level.wavelets ∙ l.across;
      pitch = level.pitch ∙ c.padded-stride.ensures.width;
      w = across;
      h = down;
      columns = ap (λ n. 2 * n) across ∙ wide;
      rows = ap (λ n. 2 * n) down ∙ high;
      small = (omega (arith, across, wide, c.padded-stride.ensures), omega (arith, down, high, c.padded-stride.ensures));
    }
