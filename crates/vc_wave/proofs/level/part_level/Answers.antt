use Rattle.std.proofs.Common.{◌*◌, ap, arith, sym, ◌∙◌, false}
use Rattle.vc_types.specs.Transforms.{on_columns, on_rows}
use Rattle.vc_types.specs.Wavelets.{is_shifted}
use Rattle.vc_wave.specs.declared.pass.Direction.TheVariants.{Analysis}
use Rattle.vc_wave.specs.Planes.{plane_of}
use Rattle.vc_wave.specs.Remade.{remade}
use Rattle.vc_wave.proofs.PlaneGrowth.{below_more, rows_grow}
use Rattle.vc_wave.proofs.Weaving.{forward_level_remade}
use Rattle.vc_wave.proofs.level.part_level.Goals as goal

pub remake_columns-requires-clause-small : goal.remake_columns-requires-clause-small
remake_columns-requires-clause-small c =
    let l = c.args.level in
    let wavelet = l.wavelets.down in
    let before = plane_of l.pitch c.args.cells.now in
    rw c.remake_rows.ensures
    (below_more 104 107 (on_rows (remade Analysis wavelet (is_shifted wavelet) l.w) (2 * l.h) before)
    (omega arith) (rows_grow Analysis wavelet (is_shifted wavelet) l.w (2 * l.h) 100 before
    (omega arith) c.requires.small))

pub returns : goal.returns
returns c =
    let l = c.args.level in
    c.remake_columns.ensures
    ∙ ap (on_columns (remade Analysis l.wavelets.down false l.h) (2 * l.w)) c.remake_rows.ensures
    ∙ sym (forward_level_remade l.wavelets.down l.w l.h (plane_of l.pitch c.args.cells.now))
