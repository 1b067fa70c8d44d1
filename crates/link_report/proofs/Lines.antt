-- Lines one after another.
use Rattle.std.proofs.Common.{◌≡◌, ℕ, List, ◌++◌}
use Rattle.std.proofs.lemmas.List.Concat.{flat_map-append}
use Rattle.link_report.specs.Report.{line, lines}

pub lines_append : (xs ys : List (List ℕ × ℕ)) → lines (xs ++ ys) ≡ lines xs ++ lines ys
lines_append xs ys = flat_map-append (λ named. line named.0 named.1) xs ys
