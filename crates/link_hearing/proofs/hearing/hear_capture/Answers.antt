use Rattle.link_hearing.proofs.HeardEntries.{looked_behind}
use Rattle.link_hearing.proofs.hearing.hear_capture.Goals as goal

-- one byte more, or none, where as many came as were asked for
pub returns-in-Err : goal.returns-in-Err
returns-in-Err g c =
    looked_behind c.args.packets _ _ _ _ _ _ _ _ _ c.look_behind.ensures.later _ _ c.in-Err.ensures
    c.look_behind.ensures.looks
