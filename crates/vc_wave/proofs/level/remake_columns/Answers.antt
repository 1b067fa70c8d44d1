use Rattle.std.proofs.Common.{◌+◌, ◌*◌, ◌^◌, ◌<◌, ℕ, ℤ, unsigned_abs, arith, sym, subst, false}
use Rattle.vc_wave.specs.Remade.{remade}
use Rattle.vc_wave.specs.Planes.{plane_of}
use Rattle.vc_wave.proofs.Weaving.{remade_pass}
use Rattle.vc_wave.proofs.PlaneSteps.{columns_none, column_left, columns_more}
use Rattle.vc_wave.proofs.level.remake_columns.Goals as goal

pub loop-start-init : goal.loop-start-init
loop-start-init c = record {
  done = columns_none
      (remade c.args.direction c.args.level.wavelets.down false c.args.level.h)
      (plane_of c.args.level.pitch c.args.cells.now);
  within = omega arith;
}

pub remake-requires-clause-small : goal.remake-requires-clause-small
remake-requires-clause-small c = λ x k h lt.
    let left = column_left
    (remade c.args.direction c.args.level.wavelets.down false c.args.level.h) c.args.level.pitch
    c.loop-start.start c.min-width.result (2 * c.args.level.h)
    (plane_of c.args.level.pitch c.args.cells.now) c.loop-start.cells
    (omega arith) c.loop-start.invariant.done x h in
    subst (λ (l : ℕ → ℤ). unsigned_abs (l k) < 2 ^ 107) (sym left)
    (c.requires.small (c.loop-start.start + x) k)

pub loop-start-preserved : goal.loop-start-preserved
loop-start-preserved c =
    let f = remade c.args.direction c.args.level.wavelets.down false c.args.level.h in
    record {
      done = columns_more f c.args.level.pitch c.loop-start.start c.min-width.result (2 * c.args.level.h)
          (plane_of c.args.level.pitch c.args.cells.now) c.loop-start.cells
          (omega arith) c.loop-start.invariant.done c.remake.new.cells
          (remade_pass c.args.direction c.args.level.wavelets.down false c.args.level.h).past
          c.remake.ensures.on
          c.remake.ensures.off;
      within = omega arith;
    }
