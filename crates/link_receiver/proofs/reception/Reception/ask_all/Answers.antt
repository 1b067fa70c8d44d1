use Rattle.std.proofs.Common.{◌≡◌, ◌-◌, ℕ, suc, [], take, refl, subst, sym, arith}
use Rattle.link_receiver.proofs.Asked.{keeps_none, keeps_twice}
use Rattle.link_receiver.proofs.CallSteps.{ask_step, asked_last}
use Rattle.link_receiver.proofs.Exchanges.{no_call}
use Rattle.link_receiver.proofs.Stays.{AreAskedOrIn, none_asked}
use Rattle.link_receiver.proofs.reception.Reception.ask_all.Goals as goal

pub loop-i-init : goal.loop-i-init
loop-i-init g c = record {
  exchanged = (
    [],
    no_call _ _,
    refl,
    subst (λ (n : ℕ). AreAskedOrIn c.args.self.now.out [] (take n c.args.self.now.out))
        (sym c.out_count-i.ensures) (none_asked c.args.self.now.out),
  );
  places = keeps_none c.requires.below;
}

pub loop-i-preserved-then-branch : goal.loop-i-preserved-then-branch
loop-i-preserved-then-branch g c =
    let e : c.loop-i.i ≡ suc (c.loop-i.i - 1) = omega arith in
    record {
      exchanged = ask_step _ _ _ _ _ _ c.loop-i.i (c.loop-i.i - 1) e
          c.loop-i.invariant.exchanged c.in_ok-came.ensures.exchanged;
      places = keeps_twice c.loop-i.invariant.places c.ask.ensures.places;
    }

pub loop-i-preserved : goal.loop-i-preserved
loop-i-preserved g c =
    let e : c.loop-i.i ≡ suc (c.loop-i.i - 1) = omega arith in
    record {
      exchanged = ask_step _ _ _ _ _ _ c.loop-i.i (c.loop-i.i - 1) e
          c.loop-i.invariant.exchanged c.in_ok-came.ensures.exchanged;
      places = keeps_twice c.loop-i.invariant.places c.ask.ensures.places;
    }

pub returns-clause-exchanged : goal.returns-clause-exchanged
returns-clause-exchanged g c =
    let e : c.loop-i.i ≡ 0 = omega arith in
    asked_last _ _ _ _ c.loop-i.i e c.loop-i.invariant.exchanged
