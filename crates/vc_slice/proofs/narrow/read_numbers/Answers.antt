use Rattle.std.proofs.Common.{arith, ◌≤◌, pos, unsigned_abs, subst}
use Rattle.std.proofs.lemmas.List.{get_or-take, length-take}
use Rattle.vc_slice.proofs.narrow.read_numbers.Goals as goal

pub returns-else-bands-lt-LARGE_INDEX-clause-most :
    goal.returns-else-bands-lt-LARGE_INDEX-clause-most
returns-else-bands-lt-LARGE_INDEX-clause-most c = λ i h.
    let count = c.count-count.result in
    let out = c.read_sints.new.out in
    let few = length-take count out in
    subst (λ z. unsigned_abs z ≤ c.greatest.result) (get_or-take count out i (pos 0) (omega (arith, c.count-count.ensures)))
    (c.greatest.ensures i (pos 0) (omega (arith, few, c.count-count.ensures)))
