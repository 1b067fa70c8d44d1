use Rattle.vc_lowdelay.proofs.HeldPictures.{has_cells, planes_answer}
use Rattle.vc_lowdelay.proofs.decoding.narrow_planes_joined.Goals as goal

pub planes_joined-requires-after_bounds : goal.planes_joined-requires-after_bounds
planes_joined-requires-after_bounds g c κs within = has_cells c.args.p.now c.args.bytes.now _ c.in_ok-put_cells.ensures

pub returns : goal.returns
returns g c = record { value = planes_answer c.args.p.now c.args.bytes.now _ c.in_ok-put_cells.ensures c.planes_joined.result c.planes_joined.ensures }
