use Rattle.std.proofs.Common.{arith, ◌≤◌, pos, unsigned_abs, subst, ◌∙◌}
use Rattle.std.proofs.lemmas.List.{get_or-take, length-take}
use Rattle.vc_golomb.proofs.NumberLists.{number_listed}
use Rattle.vc_lowdelay.proofs.narrow.read_block.Goals as goal

pub returns-then-index-lt-LARGE_INDEX-clause-numbers : goal.returns-then-index-lt-LARGE_INDEX-clause-numbers
returns-then-index-lt-LARGE_INDEX-clause-numbers c = λ i h. c.in-Ok.ensures.numbers i h ∙ number_listed c.args.count i c.args.block.now h

pub returns-else-index-lt-LARGE_INDEX-clause-numbers : goal.returns-else-index-lt-LARGE_INDEX-clause-numbers
returns-else-index-lt-LARGE_INDEX-clause-numbers c = λ i h. c.in-Ok.ensures.numbers i h ∙ number_listed c.args.count i c.args.block.now h

pub returns-else-index-lt-LARGE_INDEX-clause-most : goal.returns-else-index-lt-LARGE_INDEX-clause-most
returns-else-index-lt-LARGE_INDEX-clause-most c = λ i h.
    let count = c.args.count in
    let out = c.read_sints.new.out in
    let few = length-take count out in
    subst (λ z. unsigned_abs z ≤ c.greatest.result) (get_or-take count out i (pos 0) (omega arith))
    (c.greatest.ensures i (pos 0) (omega (arith, few)))
