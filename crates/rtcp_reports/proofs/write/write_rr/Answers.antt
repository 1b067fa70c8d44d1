use Rattle.std.proofs.Common.{ap, refl}
use Rattle.std.specs.Option.{option_copied}
use Rattle.rtcp_reports.proofs.Appending.{compound_behind, one_report, no_report}
use Rattle.rtcp_reports.proofs.write.write_rr.Goals as goal

pub returns-in-Some-clause-value : goal.returns-in-Some-clause-value
returns-in-Some-clause-value c =
    compound_behind _ _ _ _ _ _ c.append_compound.ensures.ok
    (one_report c.args.ssrc _ _ _ _ (ap option_copied c.in-Some.is) c.packet_head.ensures c.block_bytes.ensures)

pub returns-in-None-clause-value : goal.returns-in-None-clause-value
returns-in-None-clause-value c =
    compound_behind _ _ _ _ _ _ c.append_compound-in-None.ensures.ok
    (no_report c.args.ssrc _ _ _ (ap option_copied c.in-None.is) c.packet_head-in-None.ensures refl)
