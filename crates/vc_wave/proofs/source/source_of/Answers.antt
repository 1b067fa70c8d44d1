use Rattle.std.proofs.Common.{◌≤◌, ◌^◌, ◌-◌, arith, ap}
use Rattle.std.specs.Option.{is_some}
use Rattle.vc_types.specs.Subbands.{levels, plane_width, plane_height}
use Rattle.vc_types.specs.TransformParameters.{parameters_of}
use Rattle.vc_wave.specs.ForwardBounds.{parted_level_bound}
use Rattle.vc_wave.proofs.CarriedBounds.{first_carried}
use Rattle.vc_wave.proofs.HighestLevel.{plane_across, side_some}
use Rattle.vc_wave.proofs.source.source_of.Goals as goal

pub invariant_of-result : goal.invariant_of-result
invariant_of-result c =
    let p = parameters_of c.args.plan.now in
    let level = c.highest.ensures in
    let depth = c.sample_depth.ensures.value in
    let b = first_carried (parted_level_bound p.wavelet) p.depth (2 ^ (c.sample_depth.result - 1)) (omega arith)
    (rw depth c.requires.narrow) in
    let own = c.highest.result in
    let wide : 1 ≤ c.args.plane.now.width = rw c.requires.width
    (side_some (plane_width p.shape c.args.c) (levels p) (omega (arith, level.columns, own.some_columns))) in
    let high : 1 ≤ c.args.plane.now.height = rw c.requires.height
    (side_some (plane_height p.shape c.args.c) p.depth (omega (arith, level.rows, own.some_rows))) in
    record {
      bits = c.sample_depth.ensures.range;
      some = (wide, high);
      across = rw level.w
          (plane_across p c.args.c (omega arith) c.args.plane.now.width c.requires.width wide);
      samples = rw depth c.requires.samples;
      fits = rw level.down (ap is_some b.over);
    }
