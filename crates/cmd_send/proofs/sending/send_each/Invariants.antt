use Rattle.std.proofs.Common.{◌≡◌, ◌≤◌, List, length}
use Rattle.cmd_send.specs.Looping.{HasSent}
use Rattle.cmd_send.specs.Steps.{IsBehindFrames}
use Rattle.vc_types.specs.Planes.{Planes}
use Rattle.vc_types.specs.SenderSettings.{sending_view}
use Rattle.cmd_send.proofs.sending.send_each.Given as goal

abbrev pub invariant-loop-frame : goal.invariant-loop-frame
invariant-loop-frame g l = record {
  settings : l.sender.sender.settings ≡ l.fn.sender.sender.settings;
  chooser : l.sender.sender.chooser ≡ l.fn.sender.sender.chooser;
  sent : (frames : List Planes) × (length frames ≡ l.frame) × IsBehindFrames (sending_view l.fn.sender.sender.settings) frames l.sender
      × HasSent (sending_view l.fn.sender.sender.settings) frames (g.S.Source.left l.fn.input) (g.S.Source.left l.input) (g.O.Outlet.carried l.fn.outlet l.outlet);
  ready : g.O.Outlet.is_ready l.outlet;
  input_later : g.S.Source.faults l.fn.input ≤ g.S.Source.faults l.input;
}
