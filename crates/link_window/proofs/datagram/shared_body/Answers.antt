use Rattle.std.proofs.Common.{arith}
use Rattle.link_window.proofs.DatagramSteps.{body_is}
use Rattle.link_window.proofs.datagram.shared_body.Goals as goal

pub returns : goal.returns
returns c = grind (arith, body_is)
