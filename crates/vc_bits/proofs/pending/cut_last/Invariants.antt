use Rattle.std.proofs.Common.{◌≡◌, ◌+◌, ◌≤◌, take, vec_len, vec_capacity}
use Rattle.vc_bits.proofs.pending.cut_last.Given as goal

abbrev pub invariant-last : goal.invariant-last
invariant-last l = record {
  some : l.left ≤ l.count;
  len : vec_len l.bytes + l.count ≡ vec_len l.fn.bytes + l.left;
  items : l.bytes.items ≡ take (vec_len l.bytes) l.fn.bytes.items;
  capacity : vec_capacity l.bytes ≡ vec_capacity l.fn.bytes;
}

abbrev pub decreases-last : goal.decreases-last
decreases-last l = l.left
