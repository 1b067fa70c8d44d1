-- How the packets of a source came (RFC 3550, A.1).
use Rattle.std.specs.Prelude.{ℕ, ◌^◌, Bool, not, ◌&&◌, ◌==◌, nat_lt, if◌then◌else◌}
use Rattle.rtcp_reports.specs.Tracks.{Tracked, fresh, updated}
use Rattle.cmd_probe.specs.Counting.{one_more, with_bytes}
use Rattle.cmd_probe.specs.declared.arrivals.Arrivals.{Arrivals}

-- before the first packet, whose number is given
abbrev pub arrivals_from : ℕ → Arrivals
arrivals_from sequence = record { track = fresh sequence; repeats = 0; disordered = 0; bytes = 0 }

-- what is kept of the numbers behind one more, of the first 2^32
abbrev pub tracked_by : Tracked → ℕ → Tracked
tracked_by t sequence = if nat_lt t.updates (2 ^ 32) then (updated t sequence).0 else t

-- it has the number that was the highest
abbrev pub is_repeat : Arrivals → ℕ → Bool
is_repeat a sequence = sequence == a.track.greatest

-- its number is the highest now
abbrev pub is_highest : Arrivals → ℕ → Bool
is_highest a sequence = (tracked_by a.track sequence).greatest == sequence

-- it is the highest, and wasn't
abbrev pub is_in_order : Arrivals → ℕ → Bool
is_in_order a sequence = not (is_repeat a sequence) && is_highest a sequence

abbrev pub met : Arrivals → (sequence bytes : ℕ) → Arrivals
met a sequence bytes =
    record a { track = tracked_by a.track sequence; bytes = with_bytes a.bytes bytes }

-- behind one packet more: it is a repeat, or in order, or out of order
unfoldable pub arrived : Arrivals → (sequence bytes : ℕ) → Arrivals
arrived a sequence bytes =
    if is_repeat a sequence
    then record (met a sequence bytes) { repeats = one_more a.repeats }
    else (if is_highest a sequence then met a sequence bytes
    else record (met a sequence bytes) { disordered = one_more a.disordered })
