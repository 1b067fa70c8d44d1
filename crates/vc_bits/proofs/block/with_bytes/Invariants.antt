use Rattle.std.proofs.Common.{◌+◌, ◌-◌, ◌≡◌, ◌≤◌, ◌++◌}
use Rattle.vc_types.specs.Bits.{bits_of}
use Rattle.vc_bits.specs.Bits.{word_bits}
use Rattle.vc_bits.proofs.block.with_bytes.Given as goal

abbrev pub invariant-bytes : goal.invariant-bytes
invariant-bytes l = record {
  bits : word_bits l.count l.word ++ bits_of l.rest ≡ word_bits l.fn.count l.fn.word ++ bits_of l.fn.rest;
  count : l.count ≤ 64;
}

abbrev pub decreases-bytes : goal.decreases-bytes
decreases-bytes l = 56 + 8 - l.count
