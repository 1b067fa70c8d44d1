use Rattle.std.proofs.Common.{sym, ap}
use Rattle.vc_types.specs.SequenceHeader.{sequence_of, picture_shape}
use Rattle.vc_types.specs.TransformParameters.{Parameters, parameters_of}
use Rattle.cmd_stream.proofs.PictureParts.{used-within, planes-refused, planes-built, planes-shaped}
use Rattle.cmd_stream.proofs.picture.read_planes.Goals as goal

pub returns-in_default-clause-value : goal.returns-in_default-clause-value
returns-in_default-clause-value g c = sym (planes-refused (sequence_of c.args.header.now) c.args.coded.bytes c.in_default.field-0 (rw c.as_slice.ensures at c.in_default.ensures.exact))

pub advance-requires : goal.advance-requires
advance-requires g c = used-within (sequence_of c.args.header.now) c.args.coded.bytes (parameters_of c.in-Ok.plan) c.in-Ok.used (rw c.as_slice.ensures at c.in-Ok.ensures.exact)

pub returns-clause-value : goal.returns-clause-value
returns-clause-value g c =
    planes-built (sequence_of c.args.header.now) c.args.coded.bytes (parameters_of c.in-Ok.plan) c.in-Ok.used c.advance.new.self c.built.result (rw c.as_slice.ensures at c.in-Ok.ensures.exact) c.advance.ensures c.built.ensures.value

pub returns-clause-shape : goal.returns-clause-shape
returns-clause-shape g c =
    let own = ap (λ (p : Parameters). p.shape) (sym c.in-Ok.ensures.found.stands_for) in
    planes-shaped (sequence_of c.args.header.now) c.args.coded.bytes (parameters_of c.in-Ok.plan) c.advance.new.self c.built.result (picture_shape (sequence_of c.args.header.now)) c.in-Ok.plan.shape_is_coded own c.built.ensures.value
