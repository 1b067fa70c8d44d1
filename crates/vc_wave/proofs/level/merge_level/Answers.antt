use Rattle.std.proofs.Common.{◌*◌, ap, arith, sym, ◌∙◌, false}
use Rattle.vc_types.specs.Transforms.{on_columns, on_rows}
use Rattle.vc_types.specs.Wavelets.{is_shifted}
use Rattle.vc_wave.specs.declared.pass.Direction.TheVariants.{Synthesis}
use Rattle.vc_wave.specs.Planes.{plane_of}
use Rattle.vc_wave.specs.Remade.{remade}
use Rattle.vc_wave.proofs.PlaneGrowth.{below_more, columns_grow}
use Rattle.vc_wave.proofs.Weaving.{inverse_level_remade}
use Rattle.vc_wave.proofs.level.merge_level.Goals as goal

pub remake_rows-requires-clause-small : goal.remake_rows-requires-clause-small
remake_rows-requires-clause-small c =
    let l = c.args.level in
    let before = plane_of l.pitch c.args.cells.now in
    rw c.remake_columns.ensures
    (below_more 104 107 (on_columns (remade Synthesis l.wavelets.down false l.h) (2 * l.w) before)
    (omega arith) (columns_grow Synthesis l.wavelets.down false l.h (2 * l.w) 100 before
    (omega arith) c.requires.small))

pub returns : goal.returns
returns c =
    let l = c.args.level in
    c.remake_rows.ensures
    ∙ ap (on_rows (remade Synthesis l.wavelets.across (is_shifted l.wavelets.across) l.w)
    (2 * l.h)) c.remake_columns.ensures
    ∙ sym (inverse_level_remade l.wavelets.down l.wavelets.across l.w l.h (plane_of l.pitch c.args.cells.now))
