use Rattle.std.proofs.Common.{◌≡◌, ◌++◌, map, take}
use Rattle.std.specs.String.{string_bytes}
use Rattle.link_report.specs.Report.{lines, named}
use Rattle.link_report.proofs.counts.push_counts.Given as goal

abbrev pub invariant-counts : goal.invariant-counts
invariant-counts l = string_bytes l.text ≡ string_bytes l.fn.text ++ lines (map named (take l.count-index l.counts))
