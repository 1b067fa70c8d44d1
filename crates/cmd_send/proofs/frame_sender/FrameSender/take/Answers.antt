use Rattle.std.proofs.Common.{◌≡◌, ℕ, ◌∙◌, List, ap, subst, refl, sym}
use Rattle.cmd_send.specs.Counted.{totals_with}
use Rattle.cmd_send.specs.Steps.{FailsAt}
use Rattle.cmd_send.proofs.FewSent.{room_for_frame}
use Rattle.cmd_send.proofs.Numbering.{totals_more}
use Rattle.cmd_send.proofs.Stopping.{sendable_with}
use Rattle.cmd_send.proofs.TakingFrames.{sound, datagrams_are, numbers_are, fails_by, fails_in_part}
use Rattle.link_model.specs.SendingPictures.{Need, chosen_index}
use Rattle.link_report.specs.declared.ending.Ending.{Ending}
use Rattle.link_sender.specs.Packing.{bytes_of_all}
use Rattle.picture_encode.specs.Answering.{Answers}
use Rattle.vc_types.specs.Planes.{planes_in}
use Rattle.vc_types.specs.SenderSettings.{sending_view}
use Rattle.cmd_send.proofs.frame_sender.FrameSender.take.Goals as goal

pub put_all-requires-clause-room : goal.put_all-requires-clause-room
put_all-requires-clause-room g c =
    let settings = c.args.self.now.sender.settings in
    let s = sending_view settings in
    let answers = Answers g.F.Fn s c.args.self.now.sender.chooser in
    let as_chosen : (need : Need) (index : ℕ) → answers need index → index ≡ chosen_index s need = c.requires.chooses in
    let value = rw c.requires.wants at c.in-Ok.ensures.value in
    let frame = planes_in c.args.frame.now in
    let behind = c.requires.behind in
    let due = ap bytes_of_all c.deref.ensures.value ∙ datagrams_are s answers as_chosen behind.0 frame _ _ c.in-Ok.datagrams.items behind.1 behind.2.numbers_are value in
    room_for_frame settings behind.0 behind.2.sendable c.args.self.now.totals behind.2.totals_are frame behind.1 (sound s answers as_chosen behind.0 frame _ _ c.in-Ok.datagrams.items behind.1 behind.2.numbers_are value) _ due

pub returns-in-Ok-put_all-clause-value : goal.returns-in-Ok-put_all-clause-value
returns-in-Ok-put_all-clause-value g c = λ sent small behind.
    let settings = c.args.self.now.sender.settings in
    let s = sending_view settings in
    let answers = Answers g.F.Fn s c.args.self.now.sender.chooser in
    let as_chosen : (need : Need) (index : ℕ) → answers need index → index ≡ chosen_index s need = c.requires.chooses in
    let value = rw c.requires.wants at c.in-Ok.ensures.value in
    let frame = planes_in c.args.frame.now in
    let due = ap bytes_of_all c.deref.ensures.value ∙ datagrams_are s answers as_chosen sent frame _ _ c.in-Ok.datagrams.items small behind.numbers_are value in
    let whole = sound s answers as_chosen sent frame _ _ c.in-Ok.datagrams.items small behind.numbers_are value in
    record {
      sound = whole;
      behind = record {
        settings_are = ap sending_view c.in-Ok.ensures.settings;
        sendable = sendable_with s sent frame behind.sendable whole;
        numbers_are = numbers_are s answers as_chosen sent frame _ _ c.in-Ok.datagrams.items small behind.numbers_are value;
        totals_are = totals_more s sent frame c.args.self.now.totals c.put_all.new.self _ behind.totals_are (c.in-Ok-put_all.ensures.totals ∙ ap (totals_with c.args.self.now.totals) due) refl;
      };
      sent = subst (g.O.Outlet.carried c.args.outlet.now c.put_all.new.outlet) due c.in-Ok-put_all.ensures.carried;
    }

pub returns-in-Ok-clause-value : goal.returns-in-Ok-clause-value
returns-in-Ok-clause-value g c = λ sent small behind.
    let settings = c.args.self.now.sender.settings in
    let s = sending_view settings in
    let answers = Answers g.F.Fn s c.args.self.now.sender.chooser in
    let as_chosen : (need : Need) (index : ℕ) → answers need index → index ≡ chosen_index s need = c.requires.chooses in
    let value = rw c.requires.wants at c.in-Ok.ensures.value in
    let frame = planes_in c.args.frame.now in
    let due = ap bytes_of_all c.deref.ensures.value ∙ datagrams_are s answers as_chosen sent frame _ _ c.in-Ok.datagrams.items small behind.numbers_are value in
    let went = g.O.Outlet.carried c.args.outlet.now c.put_all.new.outlet in
    let broke = g.O.Outlet.broke c.args.outlet.now c.put_all.new.outlet in
    subst (λ (e : Ending). FailsAt s sent frame went broke e) (sym c.put_ending.ensures)
    (fails_in_part s sent frame went broke c.in-Err-put_all.fault (sound s answers as_chosen sent frame _ _ c.in-Ok.datagrams.items small behind.numbers_are value)
    (subst (λ (l : List (List ℕ)). broke l c.in-Err-put_all.fault) due c.in-Err-put_all.ensures.broke))

pub returns-clause-value : goal.returns-clause-value
returns-clause-value g c = λ sent small behind.
    let settings = c.args.self.now.sender.settings in
    let s = sending_view settings in
    let answers = Answers g.F.Fn s c.args.self.now.sender.chooser in
    let as_chosen : (need : Need) (index : ℕ) → answers need index → index ≡ chosen_index s need = c.requires.chooses in
    let value = rw c.requires.wants at c.in-Err.ensures.value in
    let outlet = c.args.outlet.now in
    let went = g.O.Outlet.carried outlet outlet in
    let broke = g.O.Outlet.broke outlet outlet in
    subst (λ (e : Ending). FailsAt s sent (planes_in c.args.frame.now) went broke e) (sym c.refusal_ending.ensures)
    (fails_by s answers as_chosen sent (planes_in c.args.frame.now) went broke c.in-Err.refusal value.0 (g.met.O.Outlet.none outlet))
