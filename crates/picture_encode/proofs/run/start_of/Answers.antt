use Rattle.std.proofs.Common.{◌≡◌, ◌<◌, ◌-◌, suc, sym, ap, ◌∙◌, arith}
use Rattle.picture_encode.specs.IndexedSlices.{start_in_run}
use Rattle.picture_encode.proofs.CodedRuns.{starts_behind}
use Rattle.picture_encode.proofs.run.start_of.Goals as goal

pub returns-else-number-eq0 : goal.returns-else-number-eq0
returns-else-number-eq0 c =
    let ends = c.args.ends.now in
    let number = c.args.number in
    let some : 0 < number = omega arith in
    let back : suc (number - 1) ≡ number = omega (arith, some) in
    sym (starts_behind 0 ends (number - 1) (record { index = 0; end = 0 }) (omega (arith, some, c.requires))) ∙ ap (start_in_run 0 ends) back
