use Rattle.std.proofs.Common.{◌≡◌, take}
use Rattle.link_core.specs.Hearing.{session_windows}
use Rattle.link_model.specs.Session.{sessions_of}
use Rattle.link_core.proofs.session.heard_sessions.Given as goal

abbrev pub invariant-loop-datagram : goal.invariant-loop-datagram
invariant-loop-datagram l = l.sessions.items ≡ session_windows l.size (sessions_of (take l.datagram-index l.datagrams))
