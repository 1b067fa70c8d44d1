use Rattle.std.proofs.Common.{arith, refl}
use Rattle.std.proofs.lemmas.Result.{on_ok_weaker, on_err_weaker}
use Rattle.vc_types.specs.Planes.{planes_in}
use Rattle.frame_writer.proofs.PartsOut.{plane_at, some_of_first, some_of_second, some_of_third, all_of_frame, OnErr-from}
use Rattle.frame_writer.proofs.frame.write_planes.Goals as goal

pub returns-in_err-write_samples-clause-err : goal.returns-in_err-write_samples-clause-err
returns-in_err-write_samples-clause-err g c =
    let planes = c.args.planes.now in
    let y = plane_at planes 0 c.index-planes-0.result _ c.type_inv.planes (omega arith) c.samples.ensures.value in
    OnErr-from c.from_residual.result (some_of_first c.args.two (planes_in planes) _ _ _ y refl refl _ _ c.in_err-write_samples.ensures.err)

pub returns-in_err-write_samples-2-clause-err : goal.returns-in_err-write_samples-2-clause-err
returns-in_err-write_samples-2-clause-err g c =
    let planes = c.args.planes.now in
    let y = plane_at planes 0 c.index-planes-0.result _ c.type_inv.planes (omega arith) c.samples.ensures.value in
    let c1 = plane_at planes 1 c.index-planes-1.result _ c.type_inv.planes (omega arith) c.samples-2.ensures.value in
    OnErr-from c.from_residual-in_err-write_samples-2.result (some_of_second c.args.two (planes_in planes) _ _ _ y c1 refl _ _ _ c.in_ok-write_samples.ensures.ok c.in_err-write_samples-2.ensures.err)

pub returns-clause-ok : goal.returns-clause-ok
returns-clause-ok g c =
    let planes = c.args.planes.now in
    let y = plane_at planes 0 c.index-planes-0.result _ c.type_inv.planes (omega arith) c.samples.ensures.value in
    let c1 = plane_at planes 1 c.index-planes-1.result _ c.type_inv.planes (omega arith) c.samples-2.ensures.value in
    let c2 = plane_at planes 2 c.index-planes-2.result _ c.type_inv.planes (omega arith) c.samples-3.ensures.value in
    on_ok_weaker c.write_samples-3.result (all_of_frame c.args.two (planes_in planes) _ _ _ y c1 c2 _ _ _ c.in_ok-write_samples.ensures.ok _ c.in_ok-write_samples-2.ensures.ok) c.write_samples-3.ensures.ok

pub returns-clause-err : goal.returns-clause-err
returns-clause-err g c =
    let planes = c.args.planes.now in
    let y = plane_at planes 0 c.index-planes-0.result _ c.type_inv.planes (omega arith) c.samples.ensures.value in
    let c1 = plane_at planes 1 c.index-planes-1.result _ c.type_inv.planes (omega arith) c.samples-2.ensures.value in
    let c2 = plane_at planes 2 c.index-planes-2.result _ c.type_inv.planes (omega arith) c.samples-3.ensures.value in
    on_err_weaker c.write_samples-3.result (some_of_third c.args.two (planes_in planes) _ _ _ y c1 c2 _ _ _ c.in_ok-write_samples.ensures.ok _ c.in_ok-write_samples-2.ensures.ok) c.write_samples-3.ensures.err
