use Rattle.std.proofs.Common.{◌*◌, arith, ap, ◌∙◌}
use Rattle.vc_types.specs.Transforms.{on_columns, on_rows}
use Rattle.vc_types.specs.Wavelets.{is_shifted, analysed}
use Rattle.vc_wave.specs.declared.pass.Direction.TheVariants.{Analysis}
use Rattle.vc_wave.specs.Planes.{plane_of}
use Rattle.vc_wave.specs.Remade.{remade, parted_in_turn}
use Rattle.vc_wave.proofs.CarriedBounds.{level_bounds, level_rows_at_most, made_within}
use Rattle.vc_wave.proofs.narrow_analysis.part_level.Goals as goal

pub part_rows-requires-clause-bound : goal.part_rows-requires-clause-bound
part_rows-requires-clause-bound c =
    let b = c.requires.bound in
    let m = level_bounds c.args.level.wavelets.down b.most b.after b.fits in
    record { most = b.most; after = m.made; small = b.small; fits = m.across }

pub part_columns-requires-clause-bound : goal.part_columns-requires-clause-bound
part_columns-requires-clause-bound c =
    let l = c.args.level in
    let b = c.requires.bound in
    let m = level_bounds l.wavelets.down b.most b.after b.fits in
    record {
      most = m.made;
      after = b.after;
      small = made_within l.pitch b.most m.made
          (on_rows (remade Analysis l.wavelets.down (is_shifted l.wavelets.down) l.w) (2 * l.h))
          c.args.cells.now c.part_rows.new.cells
          (omega (arith, c.requires.room.across)) b.small c.part_rows.ensures
          (level_rows_at_most l.wavelets.down b.most b.after b.fits l.w l.h
          (plane_of l.pitch c.args.cells.now) (omega arith));
      fits = m.down;
    }

pub returns : goal.returns
unfolding parted_in_turn
returns c =
    let l = c.args.level in
    c.part_columns.ensures
    ∙ ap (on_columns (analysed l.wavelets.down (2 * l.h)) (2 * l.w)) c.part_rows.ensures
