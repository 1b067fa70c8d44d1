use Rattle.std.proofs.Common.{sym, subst}
use Rattle.std.specs.Prelude.{is_ok}
use Rattle.vc_slice.proofs.RunJobs.{AreSlicesOf, or_same}
use Rattle.vc_slice.proofs.run.RunJob.push.Goals as goal

pub invariant_of-self : goal.invariant_of-self
invariant_of-self c =
    let now = subst (AreSlicesOf c.args.self.now) (sym c.push.ensures.items) (or_same c.args.self.now c.args.job c.requires (is_ok c.push.result)) in
    record { whole = now.whole; some = now.some; few = now.few; run = now.run }
