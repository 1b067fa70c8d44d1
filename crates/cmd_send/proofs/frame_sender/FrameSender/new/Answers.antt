use Rattle.std.proofs.Common.{◌≡◌, None, arith, ◌∙◌, ap}
use Rattle.std.proofs.lemmas.List.Elements.{All-nil}
use Rattle.cmd_send.specs.FramesSent.{frame_fault}
use Rattle.vc_types.specs.SenderSettings.{sending_view}
use Rattle.cmd_send.proofs.Numbering.{numbers_none, totals_none}
use Rattle.cmd_send.proofs.frame_sender.FrameSender.new.Goals as goal

pub returns-clause-behind : goal.returns-clause-behind
returns-clause-behind g c = record {
  settings_are = ap sending_view c.new-sender.ensures.settings;
  numbers_are = c.new-sender.ensures.numbers ∙ numbers_none (sending_view c.args.options.sender) (omega arith);
  sendable = All-nil (λ frame. frame_fault (sending_view c.args.options.sender) frame ≡ None);
  totals_are = totals_none (sending_view c.args.options.sender);
}
