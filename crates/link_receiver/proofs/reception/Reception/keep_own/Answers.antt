use Rattle.std.proofs.Common.{◌∙◌}
use Rattle.link_receiver.proofs.KeptRuns.{kept_run}
use Rattle.link_receiver.proofs.reception.Reception.keep_own.Goals as goal

pub returns-in_ok-keep_room-clause-value : goal.returns-in_ok-keep_room-clause-value
returns-in_ok-keep_room-clause-value g c =
    c.in_ok-keep_room.ensures.unchanged
    ∙ kept_run c.self.view_is c.keep_run.new.self c.args.done c.requires.own c.in_ok-room.ensures.value

pub returns-in_default-clause-value : goal.returns-in_default-clause-value
returns-in_default-clause-value g c =
    kept_run c.self.view_is c.keep_run.new.self c.args.done c.requires.own c.in_ok-room.ensures.value
