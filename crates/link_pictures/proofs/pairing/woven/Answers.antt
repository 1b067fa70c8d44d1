use Rattle.vc_types.specs.Planes.{planes_in}
use Rattle.vc_types.specs.SequenceHeader.{sequence_of}
use Rattle.link_pictures.proofs.PicturePlanes.{equal_sizes, field_heights}
use Rattle.link_pictures.proofs.pairing.woven.Goals as goal

pub weave-requires-clause-sizes : goal.weave-requires-clause-sizes
weave-requires-clause-sizes c =
    equal_sizes (sequence_of c.args.header.now) (planes_in c.in-Some.earlier)
    (planes_in c.in-Some-later.later) (rw c.in-Some.is at c.requires.earlier)
    (rw c.in-Some-later.is at c.requires.later)

pub weave-requires-clause-heights : goal.weave-requires-clause-heights
weave-requires-clause-heights c =
    field_heights (sequence_of c.args.header.now) (planes_in c.in-Some.earlier)
    c.args.header.now.dimensions c.requires.fields (rw c.in-Some.is at c.requires.earlier)
