use Rattle.std.proofs.Common.{◌≡◌, ◌*◌, ◌≤◌, None}
use Rattle.cmd_stream.specs.PlayLooping.{PlayIsBehind}
use Rattle.cmd_stream.specs.PlaySteps.{state_so_far}
use Rattle.cmd_stream.specs.Stream.{StreamSoFar}
use Rattle.cmd_stream.specs.Taking.{CountsAtMost}
use Rattle.cmd_stream.specs.PlayViews.{player_state}
use Rattle.cmd_stream.proofs.playing.play_with.Given as goal

abbrev pub invariant-loop-unit : goal.invariant-loop-unit
invariant-loop-unit g l = record {
  borrows : l.reader.source.ghost_name ≡ l.fn.reader.source.ghost_name;
  sound : l.reader.fault ≡ None;
  near : l.reader.place ≤ 268435456 * l._unit;
  behind : (h : StreamSoFar) × (player_state l.player ≡ state_so_far h) × (l.reader.place ≡ h.place)
      × PlayIsBehind l.fn.packets l._unit (g.S.Source.left l.fn.reader.source.now) (g.S.Source.left l.reader.source.now) (g.O.Sink.held l.fn.output) (g.O.Sink.held l.output) h;
  few : CountsAtMost l._unit (player_state l.player);
  input_later : g.S.Source.faults l.fn.reader.source.now ≤ g.S.Source.faults l.reader.source.now;
  output_later : g.O.Sink.faults l.fn.output ≤ g.O.Sink.faults l.output;
}
