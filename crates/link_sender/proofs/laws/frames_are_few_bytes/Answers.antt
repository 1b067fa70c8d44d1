use Rattle.vc_types.specs.SenderSettings.{sending_view}
use Rattle.link_sender.proofs.SentFrames.{are_few, end_bytes}
use Rattle.link_sender.proofs.laws.frames_are_few_bytes.Goals as goal

pub returns-clause-frames : goal.returns-clause-frames
returns-clause-frames c = are_few

pub returns-clause-end : goal.returns-clause-end
returns-clause-end c = λ settings number frames. end_bytes (sending_view settings) number frames
