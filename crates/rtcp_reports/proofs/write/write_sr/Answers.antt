use Rattle.rtcp_reports.proofs.Appending.{compound_behind, sender_report_of}
use Rattle.rtcp_reports.proofs.write.write_sr.Goals as goal

pub returns-clause-value : goal.returns-clause-value
returns-clause-value c =
    compound_behind _ _ _ _ _ _ c.append_compound.ensures.ok
    (sender_report_of c.args.s.now _ _ c.packet_head.ensures c.sender_info_bytes.ensures)
