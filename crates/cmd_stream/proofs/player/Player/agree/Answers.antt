use Rattle.std.proofs.Common.{sym, refl}
use Rattle.cmd_stream.specs.PlayViews.{playback_state}
use Rattle.cmd_stream.proofs.player.Player.agree.Goals as goal

pub returns-in-Some : goal.returns-in-Some
returns-in-Some c = record { value = (playback_state c.in-Some.stream, rw (c.in-Some.is, sym c.if-repeats.ensures) refl, rw c.in-Some.is refl) }
