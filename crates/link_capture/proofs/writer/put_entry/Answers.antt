use Rattle.link_capture.proofs.Puts.{put_whole, put_some, put_part}
use Rattle.link_capture.proofs.writer.put_entry.Goals as goal

pub returns-in-Ok-clause-ok : goal.returns-in-Ok-clause-ok
returns-in-Ok-clause-ok g c = put_whole _ _ _ c.args.datagram.now c.write_all-in-Ok.result (rw c.head_of.ensures at c.in-Ok.ensures.ok) c.write_all-in-Ok.ensures.ok

pub returns-in-Ok-clause-err : goal.returns-in-Ok-clause-err
returns-in-Ok-clause-err g c = put_some _ _ _ c.args.datagram.now c.write_all-in-Ok.result (rw c.head_of.ensures at c.in-Ok.ensures.ok) c.write_all-in-Ok.ensures.err

pub returns-in-Err-clause-err : goal.returns-in-Err-clause-err
returns-in-Err-clause-err g c = put_part _ _ c.args.datagram.now (rw c.head_of.ensures at c.in-Err.ensures.err)
