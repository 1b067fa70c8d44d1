use Rattle.vc_types.specs.SequenceHeader.{sequence_of}
use Rattle.cmd_stream.proofs.Showing.{begun}
use Rattle.cmd_stream.proofs.playback.Playback.new.Goals as goal

pub returns : goal.returns
returns c = begun c.args.coding (sequence_of c.args.header) c.args.presentation
