use Rattle.std.proofs.Common.{◌≢◌, ◌∙◌, sym, subst, arith}
use Rattle.rtcp_reports.specs.Tracks.{Tracked}
use Rattle.rtcp_reports.proofs.Judging.{tries_other, tries_first, tries_last}
use Rattle.rtcp_reports.proofs.Counting.{counted-off}
use Rattle.rtcp_reports.proofs.track.Track.try_out.Goals as goal

pub returns-then-seq-self : goal.returns-then-seq-self
returns-then-seq-self c = tries_other _ _ c.args.seq c.self.view_is (λ same. omega arith)

pub returns-then-self-gt1 : goal.returns-then-self-gt1
returns-then-self-gt1 c = tries_first _ _ c.args.seq c.self.view_is (omega arith) (λ one. omega arith)

pub invariant_of-self-2 : goal.invariant_of-self-2
invariant_of-self-2 c =
    counted-off _ _ c.args.seq c.self.view_is c.requires.updates c.self.invariant _ (c.self-2.view_is ∙ c.restart.ensures)

pub returns : goal.returns
returns c =
    let some : c.self.inside.probation ≢ 0 =
    subst (λ (x : Tracked). x.probation ≢ 0) (sym c.self.view_is) c.requires.probation in
    tries_last _ _ c.args.seq c.self.view_is _ (omega arith) (omega (arith, some)) (c.self-2.view_is ∙ c.restart.ensures)
