use Rattle.std.proofs.Common.{◌≡◌, ◌*◌, ◌<◌, ◌^◌, take}
use Rattle.vc_types.specs.Bits.{bits_of, number_of}
use Rattle.vc_bits.proofs.ahead.number.Given as goal

abbrev pub invariant-loop-place : goal.invariant-loop-place
invariant-loop-place l = record {
  number : l.number ≡ number_of (bits_of (take l.place l.rest));
  fits : l.number < 2 ^ (8 * l.place);
}
