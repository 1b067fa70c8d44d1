-- How many datagrams of a stream went out, and how many bytes they have.
use Rattle.std.specs.Prelude.{ℕ, ◌+◌, ◌-◌, ◌^◌, min, List, length}
use Rattle.cmd_send.specs.FramesSent.{bytes_in}
use Rattle.cmd_stream.specs.declared.totals.Totals.{Totals}

-- a count of 64 bits, which would stay at its last value
abbrev pub counted_in_64 : ℕ → ℕ
counted_in_64 count = min count (2 ^ 64 - 1)

-- the totals with more datagrams
abbrev pub packed_totals_with : Totals → List (List ℕ) → Totals
packed_totals_with t datagrams = record {
  datagrams = counted_in_64 (t.datagrams + length datagrams);
  bytes = counted_in_64 (t.bytes + bytes_in datagrams);
}

-- the totals of these
abbrev pub packed_totals : List (List ℕ) → Totals
packed_totals datagrams = record {
  datagrams = counted_in_64 (length datagrams);
  bytes = counted_in_64 (bytes_in datagrams);
}
