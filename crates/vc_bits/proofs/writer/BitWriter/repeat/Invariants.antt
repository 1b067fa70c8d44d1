use Rattle.std.proofs.Common.{◌≡◌, ◌-◌, ◌≤◌, ◌++◌, replicate}
use Rattle.vc_bits.proofs.writer.BitWriter.repeat.Given as goal

abbrev pub invariant-words : goal.invariant-words
invariant-words l = record {
  within : l.left ≤ l.times;
  wrote : l.self ≡ l.fn.self ++ replicate (l.times - l.left) l.bit;
}

abbrev pub decreases-words : goal.decreases-words
decreases-words l = l.left
