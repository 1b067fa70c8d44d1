use Rattle.std.proofs.Common.{rules, ◌≡◌, ℕ, ◌+◌, ◌-◌, ◌∷◌, ◌++◌, [], refl, subst, arith}
use Rattle.link_hearing.proofs.HeardLoop.{heard_one, until_break}
use Rattle.link_hearing.proofs.hearing.hear_all.Goals as goal

pub loop-place-init : goal.loop-place-init
loop-place-init g c =
    let all : c.args.packets ≡ c.args.packets - 0 = omega arith in
    record {
      inlet = subst (λ (n : ℕ). g.I.Inlet.is_ready c.args.inlet.now n) all c.requires.inlet;
      listener = c.requires.listener;
      at = (
        [],
        record { number_is = refl; came_so = g.met.I.Inlet.none _; heard_so = g.met.L.Listener.none _ },
      );
    }

-- it can be asked once more
pub next-requires : goal.next-requires
next-requires g c =
    let more = c.args.packets - (c.loop-place._place + 1) in
    let left : c.args.packets - c.loop-place._place ≡ more + 1 = omega (arith, c.loop-place-test.true) in
    record {
      ready = (
        more,
        subst (λ (n : ℕ). g.I.Inlet.is_ready c.loop-place.inlet n) left c.loop-place.invariant.inlet,
      );
    }

-- the listener broke off
pub returns-in_err-was_of_use-in-Some : goal.returns-in_err-was_of_use-in-Some
returns-in_err-was_of_use-in-Some g c =
    until_break g.I.Inlet.came g.L.Listener.heard _ _ _ _ _ _ _ _ _ c.loop-place.invariant.at.1
    g.met.I.Inlet.more (rw c.in-Some.is at c.in_ok-datagram.ensures.brings) g.L.Listener.broke
    g.met.L.Listener.breaks_then _ _ _ _ c.in_err-was_of_use-in-Some.field-0.0 _ c.loop-place-test.true
    (search rules) c.in_err-was_of_use-in-Some.ensures.broke

pub loop-place-preserved : goal.loop-place-preserved
loop-place-preserved g c =
    let was = c.loop-place.invariant in
    let more = c.args.packets - (c.loop-place._place + 1) in
    let left : c.args.packets - c.loop-place._place ≡ more + 1 = omega (arith, c.loop-place-test.true) in
    record {
      inlet = c.note.ensures.ready _ (c.in_ok-datagram.ensures.ready _
          (subst (λ (n : ℕ). g.I.Inlet.is_ready c.loop-place.inlet n) left was.inlet));
      listener = c.in_ok-was_of_use-in-Some.ensures.ready;
      at = (
        was.at.0 ++ c.in-Some.datagram ∷ [],
        heard_one g.I.Inlet.came g.L.Listener.heard _ _ _ _ _ _ _ _ _ was.at.1 g.met.I.Inlet.more
            (g.met.I.Inlet.more _ _ _ _ [] (rw c.in-Some.is at c.in_ok-datagram.ensures.brings)
            c.note.ensures.none) g.met.L.Listener.more
            c.in_ok-was_of_use-in-Some.ensures.heard,
      );
    }
