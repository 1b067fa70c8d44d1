use Rattle.std.proofs.Common.{◌∙◌, sym, length, drop, arith}
use Rattle.vc_types.specs.declared.video.Component.TheVariants.{Y, C1, C2}
use Rattle.vc_types.specs.TransformParameters.{parameters_of}
use Rattle.vc_wave.proofs.Grids.{written_over}
use Rattle.vc_slice.proofs.ColourParts.{colour_counts}
use Rattle.picture_encode.specs.Grids.{narrow_numbers}
use Rattle.picture_encode.proofs.ThreeParts.{length-narrow, three_are}
use Rattle.picture_encode.proofs.gathering.gather_narrow.Goals as goal

pub returns : goal.returns
returns c =
    let p = parameters_of c.args.parts.now.plan in
    let slice = c.args.parts.now.slice in
    let of_y = c.count-of_y.ensures in
    let of_c = c.count-of_c.ensures in
    let numbers = c.copy_components.new.numbers in
    let same = written_over c.resize.new.self.len numbers (drop (length numbers) c.resize.new.self.items) (omega arith) in
    c.narrow.ensures
    ∙ three_are c.count-of_y.result c.count-of_c.result (narrow_numbers p Y c.args.y.now slice) (narrow_numbers p C1 c.args.c1.now slice) (narrow_numbers p C2 c.args.c2.now slice)
    (length-narrow p Y c.args.y.now slice ∙ sym of_y)
    (length-narrow p C1 c.args.c1.now slice ∙ sym of_c)
    (length-narrow p C2 c.args.c2.now slice ∙ colour_counts p slice ∙ sym of_c)
    _ (same ∙ c.copy_components.ensures)
