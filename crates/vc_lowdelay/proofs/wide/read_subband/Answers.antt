use Rattle.std.proofs.Common.{◌≡◌, ℕ, ◌++◌, ◌∷◌, [], Err, rules, refl, subst, arith}
use Rattle.vc_lowdelay.specs.declared.refusal.LowRefusal.TheVariants.{CoefficientRange, NoMemory}
use Rattle.vc_lowdelay.specs.Components.{Follow, IsBehind}
use Rattle.vc_lowdelay.proofs.Following.{none_behind, none_follow, one_more_follows, further, large_next}
use Rattle.vc_lowdelay.proofs.wide.read_subband.Goals as goal

pub loop-i-init : goal.loop-i-init
loop-i-init c = record {
  read = none_follow c.args.c c.args.block.now c.args.quantiser.now.index c.args.coefficients.now.items;
  rest = none_behind c.args.c c.args.block.now c.args.block.now refl;
}

pub returns-in_err-value-clause-refused : goal.returns-in_err-value-clause-refused
returns-in_err-value-clause-refused c =
    let same : c.from_residual.result ≡ Err CoefficientRange = search rules in
    rw same (large_next c.args.c c.args.block.now c.loop-i.block c.loop-i._i c.loop-i.invariant.rest c.args.quantiser.now.index c.args.count c.loop-i-test.true c.in_err-value.ensures.large)

pub returns-in_err-push-clause-refused : goal.returns-in_err-push-clause-refused
returns-in_err-push-clause-refused c =
    let same : c.from_residual-in_err-push.result ≡ Err NoMemory = search rules in
    rw same tt

pub loop-i-preserved : goal.loop-i-preserved
loop-i-preserved c =
    let old = c.loop-i.coefficients.items in
    let pushed : c.push.new.self.items ≡ old ++ c.in_ok-value.value ∷ [] = search rules in
    record {
      read = rw pushed (one_more_follows c.args.c c.args.block.now c.loop-i.block c.loop-i._i c.loop-i.invariant.rest c.args.quantiser.now.index c.args.coefficients.now.items old c.in_ok-value.value c.loop-i.invariant.read c.in_ok-value.ensures.value c.in_ok-value.ensures.small);
      rest = further c.args.c c.loop-i._i 1 c.args.block.now c.loop-i.block c.next_of.new.block c.loop-i.invariant.rest c.next_of.ensures.rest;
    }

pub returns-clause-read : goal.returns-clause-read
returns-clause-read c =
    let end : c.loop-i._i ≡ c.args.count = omega arith in
    subst (λ (k : ℕ). Follow c.args.c k c.args.block.now c.args.quantiser.now.index c.args.coefficients.now.items c.loop-i.coefficients.items) end c.loop-i.invariant.read

pub returns-clause-rest : goal.returns-clause-rest
returns-clause-rest c =
    let end : c.loop-i._i ≡ c.args.count = omega arith in
    subst (λ (k : ℕ). IsBehind c.args.c k c.args.block.now c.loop-i.block) end c.loop-i.invariant.rest
