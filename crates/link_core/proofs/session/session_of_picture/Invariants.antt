use Rattle.std.proofs.Common.{◌≡◌, drop}
use Rattle.link_core.specs.Hearing.{session_among}
use Rattle.link_core.proofs.session.session_of_picture.Given as goal

-- those that were seen don't have the picture
abbrev pub invariant-loop-session : goal.invariant-loop-session
invariant-loop-session l = session_among (drop l.session-index l.sessions) l.number ≡ session_among l.fn.sessions l.fn.number
