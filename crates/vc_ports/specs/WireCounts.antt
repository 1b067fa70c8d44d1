-- What every wire counts, and what each of its calls makes of that.
use Rattle.std.specs.Prelude.{ℕ}
use Rattle.vc_ports.specs.Faults.{counted}
use Rattle.vc_ports.specs.declared.wire_counts.WireCounts.{WireCounts}

-- a datagram was sent, or lost
abbrev pub sent_one : WireCounts → WireCounts
sent_one counts = record counts { sends = counted counts.sends }

-- it said that nothing more will come
abbrev pub ended_once : WireCounts → WireCounts
ended_once counts = record counts { ends = counted counts.ends }

-- it was told that a datagram was kept
abbrev pub kept_one : WireCounts → WireCounts
kept_one counts = record counts { kept = counted counts.kept }

-- it is asked to end after so many seconds
abbrev pub asked_for : (seconds : ℕ) → WireCounts → WireCounts
asked_for seconds counts = record counts { idle = seconds }
