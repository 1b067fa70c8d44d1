use Rattle.link_hearing.proofs.HeardFiles.{looked_behind}
use Rattle.link_hearing.proofs.input.hear_pcap.Goals as goal

-- one byte more, or none, where as many records were read as were asked for
pub returns-in-Err : goal.returns-in-Err
returns-in-Err g c =
    looked_behind c.args.packets c.args.port _ _ _ _ _ _ _ _ _ _ c.look_behind.ensures.later _ _ _
    c.in-Err.is c.hear_records-ended.ensures c.look_behind.ensures.looks
