use Rattle.std.proofs.Common.{subst, Option, arith}
use Rattle.receiver_model.specs.Entering.{datagram_jobs}
use Rattle.receiver_model.specs.Receptions.{StandingSession}
use Rattle.link_window.specs.Hearing.{IsHeard}
use Rattle.link_receiver.proofs.reception.Reception.keep.Goals as goal

pub keep_heard-requires-clause-heard : goal.keep_heard-requires-clause-heard
keep_heard-requires-clause-heard g c = (
  c.args.datagram.now,
  subst (λ (o : Option StandingSession). IsHeard o c.args.datagram.now c.in_ok-heard.heard)
      c.as_ref.ensures.value c.in_ok-heard.ensures,
)

pub returns-clause-jobs : goal.returns-clause-jobs
unfolding datagram_jobs
returns-clause-jobs g c =
    grind (arith, c.as_ref.ensures.value, c.in_ok-heard.ensures, c.in_ok-kept.ensures, c.self.view_is)
