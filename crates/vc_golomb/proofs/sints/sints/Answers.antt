use Rattle.std.proofs.Common.{◌≡◌, ℕ, ◌+◌, arith, ap, sym, ◌∙◌}
use Rattle.vc_types.specs.Lifting.{line_of}
use Rattle.vc_golomb.specs.Numbers.{number_at}
use Rattle.vc_golomb.proofs.ReadOn.{read_on, left_on, most_on}
use Rattle.vc_golomb.proofs.sints.sints.Goals as goal

pub numbers-preserved-then-row-gt0 : goal.numbers-preserved-then-row-gt0
numbers-preserved-then-row-gt0 c =
    let all = number_at c.args.block.now in
    let left = number_at c.numbers.left in
    let cells = line_of c.numbers.out in
    let now = line_of c.read_row-row.new.out in
    let n = c.numbers.done in
    let row = c.read_row-row.result in
    let before = c.numbers.invariant in
    let reads = c.read_row-row.ensures in
    record {
      long = omega arith;
      read = read_on all left cells now n row before.left before.read reads.off reads.on;
      left = left_on all left cells now n row before.left (number_at c.read_row-row.new.block) reads.rest;
      row = before.row;
      most = most_on all left cells now n row c.numbers.most before.most reads.off
          (λ j h. (let few = reads.small j h in omega (arith, few, before.row)));
    }

-- a row of none, and then a number with a long code
pub numbers-preserved : goal.numbers-preserved
numbers-preserved c =
    let all = number_at c.args.block.now in
    let left = number_at c.numbers.left in
    let old = line_of c.numbers.out in
    let cells = line_of c.read_row-row.new.out in
    let now = line_of c.read_long.new.out in
    let n = c.numbers.done in
    let row = c.read_row-row.result in
    let most = c.max-most.result in
    let before = c.numbers.invariant in
    let none = c.read_row-row.ensures in
    let reads = c.in_ok-read_long.ensures in
    let behind : (k : ℕ) → all (n + k) ≡ number_at c.read_row-row.new.block k =
    λ k. (let at : n + k ≡ n + row + k = omega arith in
    ap all at ∙ left_on all left old cells n row before.left (number_at c.read_row-row.new.block) none.rest k) in
    record {
      long = omega arith;
      read = read_on all (number_at c.read_row-row.new.block) cells now n 1 behind
          (λ i h. none.off i h ∙ before.read i h) reads.off
          (λ j h. (let first : j ≡ 0 = omega arith in let at : n + j ≡ n = omega arith in
          ap now at ∙ reads.on ∙ ap (number_at c.read_row-row.new.block) (sym first)));
      left = left_on all (number_at c.read_row-row.new.block) cells now n 1 behind
          (number_at c.read_long.new.block) reads.rest;
      row = omega (arith, before.row);
      most = most_on all (number_at c.read_row-row.new.block) cells now n 1 most
          (λ i h. (let few = before.most i h in rw (none.off i h) (omega (arith, few)))) reads.off
          (λ j h. (let at : n + j ≡ n = omega arith in rw at (omega (arith, reads.most))));
    }
