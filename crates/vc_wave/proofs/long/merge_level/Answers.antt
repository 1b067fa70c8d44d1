use Rattle.std.proofs.Common.{◌*◌, ap, sym, ◌∙◌}
use Rattle.vc_types.specs.Transforms.{on_rows}
use Rattle.vc_types.specs.Wavelets.{is_shifted}
use Rattle.vc_wave.specs.declared.pass.Direction.TheVariants.{Synthesis}
use Rattle.vc_wave.specs.Planes.{plane_of}
use Rattle.vc_wave.specs.Remade.{remade}
use Rattle.vc_wave.proofs.Weaving.{inverse_level_remade}
use Rattle.vc_wave.proofs.long.merge_level.Goals as goal

pub returns : goal.returns
returns c = λ fits.
    let l = c.args.level in
    c.merge_rows.ensures fits
    ∙ ap (on_rows (remade Synthesis l.wavelets.across (is_shifted l.wavelets.across) l.w)
    (2 * l.h)) (c.merge_columns.ensures c.if-not-merge_columns.false)
    ∙ sym (inverse_level_remade l.wavelets.down l.wavelets.across l.w l.h (plane_of l.pitch c.args.cells.now))
