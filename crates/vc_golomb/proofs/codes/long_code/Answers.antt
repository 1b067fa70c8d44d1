use Rattle.std.proofs.Common.{◌≡◌, ◌*◌, ◌+◌, ◌-◌, ◌<◌, ℤ, ap, arith, le_refl, unsigned_abs, w32, ◌∙◌}
use Rattle.std.specs.Int.{is_negative}
use mir.Val.{bool_byte}
use Rattle.std.proofs.lemmas.Int.{to_z-of_z}
use Rattle.std.proofs.lemmas.Nat.{pow_pos}
use Rattle.vc_golomb.proofs.AppendedCodes.{code_fits, code_joined, digit_fits, digit_joined, has_room, no_digit_yet, sign_below, some_before}
use Rattle.vc_golomb.proofs.WrittenCodes.{first}
use Rattle.vc_golomb.proofs.codes.long_code.Goals as goal

pub digits-init : goal.digits-init
digits-init c =
    let digits = c.ilog2-digits.result in
    let whole = c.ilog2-digits.ensures in
    record {
      digits = whole.bound;
      place = le_refl digits;
      some = first c.unsigned_abs-number.result digits whole.power_le;
      bits = no_digit_yet c.unsigned_abs-number.result digits whole.power_le whole.next_power_gt;
      range = pow_pos (2 * (digits - digits));
    }

pub overflow_mul-code : goal.overflow_mul-code
overflow_mul-code c =
    let few = c.digits.invariant in
    omega (arith, has_room (2 * (c.ilog2-digits.result - c.digits.place)) c.digits.code (omega (arith, few.digits)) few.range)

pub overflow_add-code : goal.overflow_add-code
overflow_add-code c =
    let few = c.digits.invariant in
    omega (arith, c.from.ensures, has_room (2 * (c.ilog2-digits.result - c.digits.place)) c.digits.code (omega (arith, few.digits)) few.range)

pub digits-preserved : goal.digits-preserved
digits-preserved c =
    let digits = c.ilog2-digits.result in
    let place = c.digits.place in
    let so_far = c.digits.invariant in
    let more = c.digits-test.true in
    let small : c.from.result < 2 = omega (arith, c.from.ensures) in
    record {
      digits = so_far.digits;
      place = omega (arith, so_far.place);
      some = some_before (c.unsigned_abs-number.result + 1) place more so_far.some;
      bits = digit_joined c.unsigned_abs-number.result digits place c.digits.code c.from.result more so_far.place so_far.some so_far.bits c.from.ensures;
      range = digit_fits digits place c.digits.code c.from.result more so_far.place so_far.range small;
    }

pub overflow_mul-result : goal.overflow_mul-result
overflow_mul-result c =
    let few = c.digits.invariant in
    omega (arith, has_room (2 * (c.ilog2-digits.result - c.digits.place)) c.digits.code (omega (arith, few.digits)) few.range)

pub overflow_add-result : goal.overflow_add-result
overflow_add-result c =
    let few = c.digits.invariant in
    omega (arith, c.from-end.ensures, sign_below c.is_negative.result, has_room (2 * (c.ilog2-digits.result - c.digits.place)) c.digits.code (omega (arith, few.digits)) few.range)

pub returns-clause-range : goal.returns-clause-range
returns-clause-range c = code_fits c.ilog2-digits.result c.digits.place c.digits.code c.from-end.result c.is_negative.result c.digits-test.false c.digits.invariant.range c.from-end.ensures

pub returns-clause-value : goal.returns-clause-value
returns-clause-value c =
    let plain = to_z-of_z w32 c.args.v c.ranges.v in
    let magnitude : c.unsigned_abs-number.result ≡ unsigned_abs c.args.v = c.unsigned_abs-number.ensures.value ∙ ap (λ (z : ℤ). unsigned_abs z) plain in
    let sign : c.from-end.result ≡ bool_byte (is_negative c.args.v) = c.from-end.ensures ∙ ap bool_byte (c.is_negative.ensures ∙ ap (λ (z : ℤ). is_negative z) plain) in
    code_joined c.args.v c.unsigned_abs-number.result c.ilog2-digits.result c.digits.place c.digits.code c.from-end.result magnitude (omega arith) c.requires c.digits.invariant.bits sign
