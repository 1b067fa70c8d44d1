use Rattle.std.proofs.Common.{◌≡◌, ◌+◌, ◌-◌, ◌*◌, ◌/◌, ◌<◌, ◌≤◌, arith, ℕ}
use Rattle.vc_types.specs.Quantisation.{quant_factor}
use Rattle.vc_slice.specs.Falls.{sum_from}
use Rattle.vc_slice.proofs.FallSums.{first_more, no_steps}
use Rattle.vc_slice.proofs.falls.Falls.add.Goals as goal

pub returns-then-magnitude-gt0-clause-bits : goal.returns-then-magnitude-gt0-clause-bits
returns-then-magnitude-gt0-clause-bits c = λ q within.
    let last = c.last_with-last.result in
    let on : (q : ℕ) → q ≤ last → sum_from q c.add_at.new.bits ≡ sum_from q c.args.self.now.bits + 3 = c.add_at.ensures.on in
    let off : (q : ℕ) → last < q → sum_from q c.add_at.new.bits ≡ sum_from q c.args.self.now.bits = c.add_at.ensures.off in
    first_more (4 * c.args.magnitude / quant_factor (q - c.args.least) + 1) q last (sum_from q c.args.self.now.bits) (sum_from q c.add_at.new.bits) (sum_from q c.add_more.new.bits)
    (c.last_with-last.ensures.value q within) (on q) (off q) (c.add_more.ensures.bits q within)

pub returns-else-magnitude-gt0-clause-bits : goal.returns-else-magnitude-gt0-clause-bits
returns-else-magnitude-gt0-clause-bits c = λ q within. no_steps c.args.magnitude (q - c.args.least) (sum_from q c.args.self.now.bits) (omega arith) c.if-magnitude-gt0.false
