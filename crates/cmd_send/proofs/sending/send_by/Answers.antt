use Rattle.std.proofs.Common.{◌∙◌, List, arith, subst, sym}
use Rattle.cmd_send.specs.Steps.{Finishes, HasReadAll, IsBehindFrames}
use Rattle.cmd_send.proofs.Laws.{OutletLaws}
use Rattle.cmd_send.proofs.LoopSteps.{ends_with, sends_so, not_read_at_end}
use Rattle.vc_ports.specs.Changes.{input_of}
use Rattle.vc_types.specs.Planes.{Planes}
use Rattle.vc_types.specs.declared.settings.SendSettings.{SendSettings}
use Rattle.vc_types.specs.SenderSettings.{sending_view}
use Rattle.cmd_send.proofs.sending.send_by.Goals as goal

pub send_each-requires-clause-range : goal.send_each-requires-clause-range
send_each-requires-clause-range g c = λ κs lives. rw c.new-sender.ensures.chooser c.requires.range

pub send_each-requires-clause-chooses : goal.send_each-requires-clause-chooses
send_each-requires-clause-chooses g c = λ κs lives. rw (c.new-sender.ensures.chooser, c.new-sender.ensures.settings) c.requires.chooses

pub returns : goal.returns
returns g c =
    let laws : OutletLaws g.O.Outlet.carried g.O.Outlet.broke = record { none = g.met.O.Outlet.none; more = g.met.O.Outlet.more; breaks_then = g.met.O.Outlet.breaks_then; breaks_before = g.met.O.Outlet.breaks_before } in
    let s = sending_view c.args.options.sender in
    let read =
    subst (λ (st : SendSettings). HasReadAll (sending_view st) c.args.options.frames c.send_each.new.sender
    (input_of g.S.Source.left g.S.Source.faults c.args.input.now c.send_each.new.input) (g.O.Outlet.carried c.args.outlet.now c.send_each.new.outlet))
    c.new-sender.ensures.settings c.in_ok-send_each.ensures.value in
    let went = g.O.Outlet.carried c.send_each.new.outlet c.finish.new.outlet in
    let broke = g.O.Outlet.broke c.send_each.new.outlet c.finish.new.outlet in
    let finish =
    subst (λ (st : SendSettings). (sent : List Planes) → IsBehindFrames (sending_view st) sent c.send_each.new.sender
    → Finishes (sending_view st) sent went broke c.finish.result)
    (c.in_ok-send_each.ensures.settings ∙ c.new-sender.ensures.settings) c.finish.ensures.value in
    let ends = finish read.frames read.behind in
    sends_so s c.args.options.frames _ _ _ _
    (ends_with laws s c.args.options.frames read.frames _ read.middle _ _ _ read.sent read.end read.few c.finish.result ends)
    (λ e. absurd (not_read_at_end s read.frames went broke c.finish.result ends e))

pub finish-requires-clause-behind : goal.finish-requires-clause-behind
finish-requires-clause-behind g c κs within =
    let read = c.in_ok-send_each.ensures.value in
    (read.frames, omega (arith, read.few), subst (λ (st : SendSettings). IsBehindFrames (sending_view st) read.frames c.send_each.new.sender) (sym c.in_ok-send_each.ensures.settings) read.behind)
