use Rattle.rtcp_reports.proofs.Refused.{short_exactly, version_exactly, first_exactly, length_exactly}
use Rattle.rtcp_reports.proofs.read.read_compound.Goals as goal

pub returns-clause-short_exactly : goal.returns-clause-short_exactly
returns-clause-short_exactly c = rw c.compound.ensures (short_exactly c.args.bytes.now)

pub returns-clause-version_exactly : goal.returns-clause-version_exactly
returns-clause-version_exactly c = rw c.compound.ensures (version_exactly c.args.bytes.now)

pub returns-clause-first_exactly : goal.returns-clause-first_exactly
returns-clause-first_exactly c = rw c.compound.ensures (first_exactly c.args.bytes.now)

pub returns-clause-length_exactly : goal.returns-clause-length_exactly
returns-clause-length_exactly c = rw c.compound.ensures (length_exactly c.args.bytes.now)
