use Rattle.std.proofs.Common.{◌≡◌, ◌+◌, ◌-◌, ◌*◌, ◌/◌, ◌^◌, ◌<◌, ◌≤◌, arith, ℕ}
use Rattle.std.proofs.lemmas.Nat.{one_shl}
use Rattle.vc_types.specs.Quantisation.{quant_factor}
use Rattle.vc_quant.proofs.Quotients.{few_digits}
use Rattle.vc_slice.specs.Falls.{sum_from, code_steps}
use Rattle.vc_slice.proofs.FallSums.{step_more, steps_done}
use Rattle.vc_slice.proofs.falls.add_more.Goals as goal

pub digits-preserved : goal.digits-preserved
digits-preserved c =
    let digits = c.digits.digits in
    let low : 2 ^ digits ≤ c.args.magnitude + 1 = omega (arith, one_shl digits 64 (omega arith), c.digits-test.true) in
    let few = few_digits digits c.args.magnitude low c.requires.size in
    let same : digits + 1 - 1 ≡ digits = omega arith in
    let last = c.last_with.result in
    let on : (q : ℕ) → q ≤ last → sum_from q c.add_at.new.bits ≡ sum_from q c.digits.bits + 2 = c.add_at.ensures.on in
    let off : (q : ℕ) → last < q → sum_from q c.add_at.new.bits ≡ sum_from q c.digits.bits = c.add_at.ensures.off in
    record {
      from = omega arith;
      to = omega (arith, few);
      low = rw same low;
      bits = λ q within.
          let n = 4 * c.args.magnitude / quant_factor (q - c.args.least) + 1 in
          step_more digits n q last (sum_from q c.digits.bits) (sum_from q c.add_at.new.bits) (sum_from q c.args.bits.now) (code_steps 1 n) c.digits.invariant.from (c.last_with.ensures.value q within) (on q) (off q) (c.digits.invariant.bits q within);
      room = omega (arith, c.digits.invariant.room, on 0 (omega arith), c.digits.invariant.from);
    }

pub returns-clause-bits : goal.returns-clause-bits
returns-clause-bits c = omega (arith, one_shl, steps_done)
