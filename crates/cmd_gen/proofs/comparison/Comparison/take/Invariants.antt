use Rattle.std.proofs.Common.{◌≡◌, ◌++◌, ℕ, List, take}
use Rattle.cmd_gen.specs.Counting.{counted_with}
use Rattle.cmd_gen.proofs.comparison.Comparison.take.Given as goal

abbrev pub invariant-loop-byte : goal.invariant-loop-byte
invariant-loop-byte l = record {
  counted : (more : List ℕ) → counted_with l.self more ≡ counted_with l.fn.self (take l.byte-index l.bytes ++ more);
}
