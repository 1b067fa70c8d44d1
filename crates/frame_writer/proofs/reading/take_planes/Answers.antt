use Rattle.std.proofs.Common.{◌≡◌, ◌∙◌, Err, length, arith}
use Rattle.std.proofs.lemmas.Result.{err_from_is_err_and}
use Rattle.frame_writer.specs.FrameBytes.{sample_count}
use Rattle.frame_writer.specs.Memory.{planes_with}
use Rattle.vc_types.specs.Planes.{planes_in}
use Rattle.vc_types.specs.declared.video.Component.TheVariants.{Y, C1}
use Rattle.frame_writer.proofs.FrameEnds.{front, same_planes, same_takes, some_samples, short_first, short_second, whole_frame}
use Rattle.frame_writer.proofs.reading.take_planes.Goals as goal

pub returns-in_err-take_plane-clause-frame : goal.returns-in_err-take_plane-clause-frame
returns-in_err-take_plane-clause-frame g c =
    let p = err_from_is_err_and c.from_residual.result c.from_residual.ensures.1 in
    let y : length c.deref_mut.result.now ≡ sample_count c.args.shape.now Y = omega (arith, c.deref_mut.ensures.len, c.requires.long.y) in
    let took_y = rw (c.is_wide-two.ensures, y) at c.in-Ok.ensures.bytes in
    let short = c.in_err-take_plane.field-0.0 in
    let c1 : length c.deref_mut-2.result.now ≡ sample_count c.args.shape.now C1 = omega (arith, c.deref_mut-2.ensures.len, c.requires.long.c1) in
    let samples = c.take_plane-2.new.samples in
    let takes = same_takes (g.S.Source.left c.take_plane.new.source) (g.S.Source.left c.take_plane-2.new.source) samples (Err short) c.is_wide-two.ensures c1 c.in_err-take_plane.ensures.bytes in
    rw (p.1, p.2) (short_first c.args.shape.now _ _ _ took_y _ samples short (some_samples c.args.shape.now c.requires.fits) takes)

pub returns-in_err-take_plane-2-clause-frame : goal.returns-in_err-take_plane-2-clause-frame
returns-in_err-take_plane-2-clause-frame g c =
    let p = err_from_is_err_and c.from_residual-in_err-take_plane-2.result c.from_residual-in_err-take_plane-2.ensures.1 in
    let y : length c.deref_mut.result.now ≡ sample_count c.args.shape.now Y = omega (arith, c.deref_mut.ensures.len, c.requires.long.y) in
    let took_y = rw (c.is_wide-two.ensures, y) at c.in-Ok.ensures.bytes in
    let c1 : length c.deref_mut-2.result.now ≡ sample_count c.args.shape.now C1 = omega (arith, c.deref_mut-2.ensures.len, c.requires.long.c1) in
    let took_c1 = rw (c.is_wide-two.ensures, c1) at c.in_ok-take_plane.ensures.bytes in
    let short = c.in_err-take_plane-2.field-0.0 in
    let c2 : length c.deref_mut-3.result.now ≡ sample_count c.args.shape.now C1 = omega (arith, c.deref_mut-3.ensures.len, c.requires.long.c2) in
    let samples = c.take_plane-3.new.samples in
    let takes = same_takes (g.S.Source.left c.take_plane-2.new.source) (g.S.Source.left c.take_plane-3.new.source) samples (Err short) c.is_wide-two.ensures c2 c.in_err-take_plane-2.ensures.bytes in
    rw (p.1, p.2) (short_second c.args.shape.now _ _ _ took_y _ _ took_c1 _ samples short (some_samples c.args.shape.now c.requires.fits) takes)

pub returns-clause-frame : goal.returns-clause-frame
returns-clause-frame g c =
    let y : length c.deref_mut.result.now ≡ sample_count c.args.shape.now Y = omega (arith, c.deref_mut.ensures.len, c.requires.long.y) in
    let took_y = rw (c.is_wide-two.ensures, y) at c.in-Ok.ensures.bytes in
    let c1 : length c.deref_mut-2.result.now ≡ sample_count c.args.shape.now C1 = omega (arith, c.deref_mut-2.ensures.len, c.requires.long.c1) in
    let took_c1 = rw (c.is_wide-two.ensures, c1) at c.in_ok-take_plane.ensures.bytes in
    let c2 : length c.deref_mut-3.result.now ≡ sample_count c.args.shape.now C1 = omega (arith, c.deref_mut-3.ensures.len, c.requires.long.c2) in
    let took_c2 = rw (c.is_wide-two.ensures, c2) at c.in_ok-take_plane-2.ensures.bytes in
    let made : planes_in c.into_planes.result ≡ planes_with c.args.shape.now c.take_plane.new.samples c.take_plane-2.new.samples c.take_plane-3.new.samples =
    c.into_planes.ensures
    ∙ same_planes c.args.shape.now
    (front _ c.take_plane.new.samples _ (c.take_plane.auto.samples ∙ c.deref_mut.ensures.len))
    (front _ c.take_plane-2.new.samples _ (c.take_plane-2.auto.samples ∙ c.deref_mut-2.ensures.len))
    (front _ c.take_plane-3.new.samples _ (c.take_plane-3.auto.samples ∙ c.deref_mut-3.ensures.len)) in
    rw made (whole_frame c.args.shape.now _ _ _ took_y _ _ took_c1 _ _ took_c2)
