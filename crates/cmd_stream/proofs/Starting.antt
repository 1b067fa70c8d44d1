-- What is kept before the first picture.
use Rattle.std.proofs.Common.{◌≡◌, ◌+◌, ◌%◌, ◌^◌, ◌<◌, length, [], None, ap, sym, arith}
use Rattle.stream_model.specs.Packed.{settings_for, stream_packed}
use Rattle.stream_model.specs.Packing.{packed_datagrams}
use Rattle.stream_model.proofs.PackedMore.{none_behind, none_packed}
use Rattle.cmd_stream.specs.declared.totals.Totals.{Totals}
use Rattle.cmd_stream.specs.Counted.{packed_totals}
use Rattle.cmd_stream.specs.PackViews.{counts_after}
use Rattle.link_sender.specs.PackerState.{PackCounts}
use Rattle.vc_types.specs.SenderSettings.{Packing}

pub totals_none : (s : Packing) → ◌≡◌ {A = Totals} (record { datagrams = 0; bytes = 0 }) (packed_totals (stream_packed s None))
totals_none s = ap packed_totals (sym (none_packed (settings_for s None)))

pub counts_none : (s : Packing) → s.seq < 2 ^ 32 → ◌≡◌ {A = PackCounts} (record { pictures = 0; sequence = s.seq; timestamp = 0 }) (counts_after s [])
counts_none s small = λ i. record { pictures = 0; sequence = number i; timestamp = sym (none_behind s) i }
  where
    number : s.seq ≡ (s.seq + length (packed_datagrams s [])) % 2 ^ 32
    number = let none = ap length (none_packed s) in omega (arith, none, small)
