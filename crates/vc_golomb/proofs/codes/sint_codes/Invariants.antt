use Rattle.std.proofs.Common.{◌≡◌, ◌+◌, ◌-◌, ◌*◌, ◌≤◌, ◌++◌, length, take, vec_len, vec_capacity}
use Rattle.std.specs.List.{flat_map}
use Rattle.vc_types.specs.Bits.{bits_of}
use Rattle.vc_types.specs.Codes.{sint_bits}
use Rattle.vc_golomb.proofs.codes.sint_codes.Given as goal

abbrev pub invariant-triples : goal.invariant-triples
invariant-triples l = record {
  within : l.at ≤ length l.numbers;
  bits : bits_of l.bytes.items ++ l.tail ≡ flat_map sint_bits (take l.at l.numbers);
  len : 8 * vec_len l.bytes + length l.tail ≤ 64 * l.at;
  capacity : 8 * length l.numbers + 8 ≤ vec_capacity l.bytes;
}

abbrev pub decreases-triples : goal.decreases-triples
decreases-triples l = length l.numbers - l.at

abbrev pub invariant-last : goal.invariant-last
invariant-last l = record {
  within : l.at ≤ length l.numbers;
  bits : bits_of l.bytes.items ++ l.tail ≡ flat_map sint_bits (take l.at l.numbers);
  len : 8 * vec_len l.bytes + length l.tail ≤ 64 * l.at;
  capacity : 8 * length l.numbers + 8 ≤ vec_capacity l.bytes;
}

abbrev pub decreases-last : goal.decreases-last
decreases-last l = length l.numbers - l.at
