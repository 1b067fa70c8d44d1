use Rattle.std.proofs.Common.{◌+◌, vec_len, arith}
use Rattle.rtcp_reports.proofs.Appending.{described_behind}
use Rattle.rtcp_reports.proofs.write.append_description.Goals as goal

pub returns-in-Ok-clause-ok : goal.returns-in-Ok-clause-ok
returns-in-Ok-clause-ok c = described_behind c.args.out.now.items c.description_head.result c.args.cname.now
    c.append.new.out.items c.resize.new.self.items c.args.ssrc (c.len.result + c.zeros_behind.result) (vec_len c.append.new.out)
    c.description_head.ensures (rw c.as_bytes.ensures.value at c.in_ok-append.ensures.ok)
    (omega (arith, c.append.new.out.ok.0)) (omega (arith, c.len.ensures, c.zeros_behind.ensures)) c.in-Ok.ensures.items
