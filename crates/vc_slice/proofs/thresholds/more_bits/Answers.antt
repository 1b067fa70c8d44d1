use Rattle.std.proofs.Common.{◌≡◌, ◌+◌, ◌-◌, ap, sym, ◌∙◌, arith}
use Rattle.vc_slice.specs.Thresholds.{more_bits}
use Rattle.vc_slice.proofs.RunLengths.{few_bits, few_digits, first_bits, last_bits, next_bits, next_threshold, no_bits}
use Rattle.vc_slice.proofs.thresholds.more_bits.Goals as goal

pub returns-then-quarters-factor-clause-value :
    goal.returns-then-quarters-factor-clause-value
returns-then-quarters-factor-clause-value c = sym (no_bits c.args.factor c.args.most c.args.coefficients.now (omega arith) (omega arith) c.requires.most)

pub thresholds-init : goal.thresholds-init
thresholds-init c = record {
  threshold = omega arith;
  range = omega arith;
  digits = omega arith;
  bits = omega (arith, first_bits c.args.factor c.args.coefficients.now (omega arith), c.reaching-bits.ensures.value);
}

pub overflow_add-bits : goal.overflow_add-bits
overflow_add-bits c =
    let few = few_digits c.thresholds.digits c.args.factor c.thresholds.threshold (omega arith) (omega arith) c.thresholds.invariant.range c.thresholds.invariant.threshold in
    omega (arith, few, few_bits (c.thresholds.digits - 1) c.args.factor c.args.coefficients.now (omega (arith, few)), c.thresholds.invariant.bits)

pub overflow_add-digits : goal.overflow_add-digits
overflow_add-digits c =
    omega (arith, few_digits c.thresholds.digits c.args.factor c.thresholds.threshold (omega arith) (omega arith) c.thresholds.invariant.range c.thresholds.invariant.threshold)

pub thresholds-preserved : goal.thresholds-preserved
thresholds-preserved c =
    let d = c.thresholds.digits in
    let factor = c.args.factor in
    let zs = c.args.coefficients.now in
    let before : d - 1 + 1 ≡ d = omega (arith, c.thresholds.invariant.digits) in
    let now : d + 1 - 1 ≡ d = omega arith in
    let own = rw (sym before) at c.thresholds.invariant.threshold in
    let more = next_bits (d - 1) factor c.thresholds.threshold zs (omega (arith, c.thresholds.invariant.digits)) (omega arith) own in
    record {
      threshold = next_threshold d factor c.thresholds.threshold c.thresholds.invariant.threshold;
      range = omega arith;
      digits = omega (arith, c.thresholds.invariant.digits);
      bits = omega (arith, c.thresholds.invariant.bits, c.reaching.ensures.value, more, ap (λ n. more_bits n factor zs) before, ap (λ n. more_bits n factor zs) now);
    }

pub returns-clause-value : goal.returns-clause-value
returns-clause-value c =
    let d = c.thresholds.digits in
    let before : d - 1 + 1 ≡ d = omega (arith, c.thresholds.invariant.digits) in
    let few = few_digits d c.args.factor c.thresholds.threshold (omega arith) (omega arith) c.thresholds.invariant.range c.thresholds.invariant.threshold in
    let own = rw (sym before) at c.thresholds.invariant.threshold in
    c.thresholds.invariant.bits ∙ sym (last_bits (d - 1) c.args.factor c.thresholds.threshold c.args.most c.args.coefficients.now (omega (arith, c.thresholds.invariant.digits)) (omega (arith, few)) (omega arith) own (omega arith) c.requires.most)

pub returns-clause-range : goal.returns-clause-range
returns-clause-range c =
    let few = few_digits c.thresholds.digits c.args.factor c.thresholds.threshold (omega arith) (omega arith) c.thresholds.invariant.range c.thresholds.invariant.threshold in
    omega (arith, few_bits (c.thresholds.digits - 1) c.args.factor c.args.coefficients.now (omega (arith, few)), c.thresholds.invariant.bits)
