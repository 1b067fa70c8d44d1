use Rattle.vc_types.specs.SequenceHeader.{sequence_of, picture_shape}
use Rattle.vc_lowdelay.specs.OfPlan.{low_parameters_of}
use Rattle.cmd_stream.proofs.LowParts.{low-built, low-reads, low-refused, low-shaped}
use Rattle.cmd_stream.proofs.picture.read_low_planes.Goals as goal

pub returns-in_default-clause-value : goal.returns-in_default-clause-value
returns-in_default-clause-value g c = low-refused (sequence_of c.args.header.now) c.args.bytes.now c.in_default.field-0 c.in_default.ensures.exact

pub returns-clause-value : goal.returns-clause-value
returns-clause-value g c =
    low-built (sequence_of c.args.header.now) c.args.bytes.now (low_parameters_of c.in-Ok.plan) c.in-Ok.used c.split_at.result.1.now c.low_planes_of.result c.in-Ok.ensures.exact c.split_at.ensures.back c.low_planes_of.ensures.value

pub returns-clause-shape : goal.returns-clause-shape
returns-clause-shape g c =
    let own = (low-reads (sequence_of c.args.header.now) c.args.bytes.now (low_parameters_of c.in-Ok.plan) c.in-Ok.used c.in-Ok.ensures.exact).shape in
    low-shaped c.in-Ok.plan c.split_at.result.1.now c.low_planes_of.result (picture_shape (sequence_of c.args.header.now)) own c.low_planes_of.ensures.value
