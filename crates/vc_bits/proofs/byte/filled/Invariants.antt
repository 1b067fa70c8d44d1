use Rattle.std.proofs.Common.{◌≡◌, ◌-◌, ◌<◌, ◌^◌, ◌++◌, replicate}
use Rattle.vc_bits.specs.Inside.{low_bits}
use Rattle.vc_bits.proofs.byte.filled.Given as goal

abbrev pub invariant-loop-used : goal.invariant-loop-used
invariant-loop-used l = record {
  fits : l.byte < 2 ^ l.used;
  bits : low_bits l.used l.byte ≡ low_bits l.count l.last ++ replicate (l.used - l.count) l.fill;
}
