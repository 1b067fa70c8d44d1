use Rattle.std.proofs.Common.{◌≡◌, ◌+◌, ◌/◌, ◌^◌, ◌<◌, ◌++◌}
use Rattle.vc_types.specs.Codes.{spread_digits}
use Rattle.vc_golomb.proofs.write.write_uint.Given as goal

abbrev pub invariant-digits : goal.invariant-digits
invariant-digits l = record {
  number : l.number ≡ l.v + 1;
  place : l.place < 64;
  some : 0 < (l.v + 1) / 2 ^ l.place;
  wrote : l.w ≡ l.fn.w ++ spread_digits ((l.v + 1) / 2 ^ l.place);
}

abbrev pub decreases-digits : goal.decreases-digits
decreases-digits l = l.place
