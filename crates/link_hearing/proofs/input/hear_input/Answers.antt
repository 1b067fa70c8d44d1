use Rattle.link_hearing.proofs.HeardInputs.{capture_input}
use Rattle.link_hearing.proofs.input.hear_input.Goals as goal

pub returns-in-Capture : goal.returns-in-Capture
returns-in-Capture g c = rw c.in-Capture.is (capture_input c.args.packets _ _ _ _ _ c.hear_capture.ensures)
