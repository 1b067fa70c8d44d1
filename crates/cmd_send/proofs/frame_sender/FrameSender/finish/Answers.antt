use Rattle.std.proofs.Common.{◌∙◌, subst, sym, Err}
use Rattle.cmd_send.specs.Steps.{Finishes}
use Rattle.cmd_send.proofs.FewSent.{room_for_end}
use Rattle.cmd_send.proofs.TakingFrames.{end_is, finished_with, finished_in_part}
use Rattle.link_report.specs.declared.ending.Ending.{Ending}
use Rattle.vc_types.specs.SenderSettings.{sending_view}
use Rattle.cmd_send.proofs.frame_sender.FrameSender.finish.Goals as goal

pub put_all-requires-clause-room : goal.put_all-requires-clause-room
put_all-requires-clause-room g c =
    let settings = c.args.self.now.sender.settings in
    let behind = c.requires.behind in
    room_for_end settings behind.0 behind.2.sendable c.args.self.now.totals behind.2.totals_are behind.1 c.in-Ok.end.bytes.items (c.in-Ok.ensures.value.datagram_is ∙ end_is (sending_view settings) behind.0 _ behind.2.numbers_are)

pub returns-in-Ok-put_all : goal.returns-in-Ok-put_all
returns-in-Ok-put_all g c = record {
  value = λ sent behind.
      let s = sending_view c.args.self.now.sender.settings in
      let end = c.in-Ok.end.bytes.items in
      let due = c.in-Ok.ensures.value.datagram_is ∙ end_is s sent _ behind.numbers_are in
      finished_with s sent (g.O.Outlet.carried c.args.outlet.now c.put_all.new.outlet) c.args.self.now.totals c.put_all.new.self end behind.totals_are c.in-Ok-put_all.ensures.totals due c.in-Ok-put_all.ensures.carried;
}

pub returns : goal.returns
returns g c = record {
  value = λ sent behind.
      let s = sending_view c.args.self.now.sender.settings in
      let end = c.in-Ok.end.bytes.items in
      let due = c.in-Ok.ensures.value.datagram_is ∙ end_is s sent _ behind.numbers_are in
      let went = g.O.Outlet.carried c.args.outlet.now c.put_all.new.outlet in
      let broke = g.O.Outlet.broke c.args.outlet.now c.put_all.new.outlet in
      subst (λ (e : Ending). Finishes s sent went broke (Err e)) (sym c.put_ending.ensures)
      (finished_in_part s sent went broke c.in-Err.fault end due c.in-Err.ensures.broke);
}
