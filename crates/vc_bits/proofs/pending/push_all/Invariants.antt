use Rattle.std.proofs.Common.{◌≡◌, ◌+◌, ◌*◌, ◌%◌, ◌≤◌, ◌++◌, vec_len, vec_capacity}
use Rattle.vc_types.specs.Bits.{bits_of}
use Rattle.vc_bits.specs.Bits.{word_bits}
use Rattle.vc_bits.proofs.pending.push_all.Given as goal

abbrev pub invariant-bytes : goal.invariant-bytes
invariant-bytes l = record {
  whole : l.left % 8 ≡ 0;
  few : l.left ≤ 32;
  room : 8 * vec_len l.bytes + l.left ≤ 8 * vec_capacity l.bytes;
  bits : bits_of l.bytes.items ++ word_bits l.left l.word ≡ bits_of l.fn.bytes.items ++ word_bits l.count l.word;
}

abbrev pub decreases-bytes : goal.decreases-bytes
decreases-bytes l = l.left
