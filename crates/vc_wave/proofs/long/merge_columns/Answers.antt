use Rattle.std.proofs.Common.{◌≡◌, ◌*◌, arith, false}
use Rattle.vc_wave.specs.declared.pass.Direction.TheVariants.{Synthesis}
use Rattle.vc_wave.specs.Remade.{remade}
use Rattle.vc_wave.specs.Planes.{plane_of}
use Rattle.vc_wave.proofs.Weaving.{remade_pass}
use Rattle.vc_wave.proofs.PlaneSteps.{columns_none, columns_more}
use Rattle.vc_wave.proofs.long.merge_columns.Goals as goal

pub loop-start-init : goal.loop-start-init
loop-start-init c = record {
  done = columns_none
      (remade Synthesis c.args.level.wavelets.down false c.args.level.h)
      (plane_of c.args.level.pitch c.args.cells.now);
  within = omega arith;
}

pub loop-start-preserved : goal.loop-start-preserved
loop-start-preserved c =
    let f = remade Synthesis c.args.level.wavelets.down false c.args.level.h in
    record {
      done = columns_more f c.args.level.pitch c.loop-start.start c.min-width.result (2 * c.args.level.h)
          (plane_of c.args.level.pitch c.args.cells.now) c.loop-start.cells
          (omega arith) c.loop-start.invariant.done c.merge.new.cells
          (remade_pass Synthesis c.args.level.wavelets.down false c.args.level.h).past
          (c.merge.ensures c.if-not-merge.false).on
          (c.merge.ensures c.if-not-merge.false).off;
      within = omega arith;
    }

pub returns : goal.returns
returns c = λ fits.
    (let end : c.loop-start.start ≡ 2 * c.args.level.w = omega (arith, c.loop-start.invariant.within) in
    rw end at c.loop-start.invariant.done)
