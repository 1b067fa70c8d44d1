use Rattle.std.proofs.Common.{rules, ◌≡◌, true, Some, sym, ap}
use Rattle.std.specs.Option.{option_map}
use Rattle.vc_types.specs.Planes.{planes_in}
use Rattle.vc_types.specs.SequenceHeader.{sequence_of}
use Rattle.cmd_stream.specs.PlayViews.{playback_state, picture_of}
use Rattle.cmd_stream.proofs.PlayCompletes.{completes-pair}
use Rattle.picture_build.proofs.Weaving.{field_heights}
use Rattle.cmd_stream.proofs.playback.Playback.completed.Goals as goal

pub weave-requires-clause-heights : goal.weave-requires-clause-heights
weave-requires-clause-heights c =
    let waiting : c.args.self.now.waiting ≡ Some c.in-Some.earlier = sym c.in-Some.ensures.value in
    let shape = rw waiting at c.requires.shape in
    let fields : c.args.self.now.header.fields ≡ true = search rules in
    field_heights (sequence_of c.args.self.now.header) (planes_in c.in-Some.earlier.planes) c.args.self.now.header.dimensions fields shape

pub returns-in_ok-frame-in-Some-clause-value : goal.returns-in_ok-frame-in-Some-clause-value
returns-in_ok-frame-in-Some-clause-value c =
    let waiting : c.args.self.now.waiting ≡ Some c.in-Some.earlier = sym c.in-Some.ensures.value in
    let shape = rw waiting at c.requires.shape in
    let fields : c.args.self.now.header.fields ≡ true = search rules in
    let pair = sym c.is_pair.ensures in
    rw c.take.ensures.after (completes-pair (playback_state c.args.self.now) (picture_of c.in-Some.earlier) (picture_of c.args.picture) c.in_ok-frame-in-Some.frame fields (ap (option_map picture_of) waiting) (search rules) shape c.requires.picture c.in_ok-frame-in-Some.ensures.value)
