use Rattle.vc_lowdelay.proofs.HeldPictures.{has_cells, planes_answer}
use Rattle.vc_lowdelay.proofs.decoding.narrow_planes.Goals as goal

pub planes-requires : goal.planes-requires
planes-requires c = has_cells c.args.p.now c.args.bytes.now _ c.in_ok-put_cells.ensures

pub returns : goal.returns
returns c = record { value = planes_answer c.args.p.now c.args.bytes.now _ c.in_ok-put_cells.ensures c.planes.result c.planes.ensures }
