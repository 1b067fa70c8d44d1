use Rattle.std.proofs.Common.{refl, arith}
use Rattle.rtcp_reports.proofs.Judging.{starts}
use Rattle.rtcp_reports.proofs.Counting.{counted-fresh}
use Rattle.rtcp_reports.proofs.track.Track.new.Goals as goal

pub invariant_of-result : goal.invariant_of-result
invariant_of-result c = counted-fresh _ refl refl refl refl (λ none. omega arith)

pub returns-clause-value : goal.returns-clause-value
returns-clause-value c = starts c.args.seq _ refl
