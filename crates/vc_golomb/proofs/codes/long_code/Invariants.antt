use Rattle.std.proofs.Common.{◌≡◌, ◌-◌, ◌*◌, ◌/◌, ◌^◌, ◌<◌, ◌≤◌}
use Rattle.vc_types.specs.Codes.{spread_digits}
use Rattle.vc_bits.specs.Bits.{word_bits}
use Rattle.vc_golomb.proofs.codes.long_code.Given as goal

abbrev pub invariant-digits : goal.invariant-digits
invariant-digits l = record {
  digits : l.digits < 32;
  place : l.place ≤ l.digits;
  some : 0 < l.number / 2 ^ l.place;
  bits : word_bits (2 * (l.digits - l.place)) l.code ≡ spread_digits (l.number / 2 ^ l.place);
  range : l.code < 2 ^ (2 * (l.digits - l.place));
}

abbrev pub decreases-digits : goal.decreases-digits
decreases-digits l = l.place
