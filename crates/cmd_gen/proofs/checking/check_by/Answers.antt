use Rattle.std.proofs.Common.{ap, ◌∙◌, subst, sym}
use Rattle.picture_encode.specs.Answering.{ChoosesAs}
use Rattle.cmd_gen.proofs.FrameSteps.{nothing_sent}
use Rattle.vc_types.specs.SenderSettings.{generating_view, sending_view}
use Rattle.cmd_gen.proofs.checking.check_by.Goals as goal

pub check_all-requires-clause-sent : goal.check_all-requires-clause-sent
check_all-requires-clause-sent g c = λ κs lives.
    nothing_sent (generating_view c.args.g.now) c.new-sender.result c.default_settings.result c.new-sender.ensures.settings c.default_settings.ensures c.new-sender.ensures.numbers

pub check_all-requires-clause-range : goal.check_all-requires-clause-range
check_all-requires-clause-range g c = λ κs lives. rw c.new-sender.ensures.chooser c.requires.range

pub check_all-requires-clause-chooses : goal.check_all-requires-clause-chooses
check_all-requires-clause-chooses g c = λ κs lives.
    let settings = ap sending_view c.new-sender.ensures.settings ∙ c.default_settings.ensures in
    subst (λ chooser. ChoosesAs g.F.Fn chooser (sending_view c.new-sender.result.settings)) (sym c.new-sender.ensures.chooser)
    (subst (ChoosesAs g.F.Fn c.args.encoder.chooser) (sym settings) c.requires.chooses)

pub returns-clause-checkable : goal.returns-clause-checkable
returns-clause-checkable g c = c.check_all.ensures.checkable c.args.window c.new-checker.ensures.checked

pub returns-clause-different : goal.returns-clause-different
returns-clause-different g c = c.check_all.ensures.different c.args.window c.new-checker.ensures.checked

pub returns-clause-refused : goal.returns-clause-refused
returns-clause-refused g c = c.check_all.ensures.refused c.args.window c.new-checker.ensures.checked
