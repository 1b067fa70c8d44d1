-- The end of a receiver's input, and what a command makes of it.
use Rattle.std.specs.Prelude.{◌≡◌, ◌⊎◌, true, false, [], ℕ, Option, None, Some, Result, Ok, Err}
use Rattle.link_report.specs.declared.answer.Answer.{Answer}
use Rattle.link_report.specs.declared.answer.Answer.TheVariants.{Done, Stopped, Drained, WithRecords}
use Rattle.link_report.specs.declared.ending.Ending.{Ending}
use Rattle.link_report.specs.declared.summary.Summary.TheVariants.{Judged}
use Rattle.link_hearing.specs.Hearing.{CanGoOn, has_broken}
use Rattle.link_hearing.specs.declared.heard.RecordCounts.{RecordCounts}
use Rattle.cmd_receive.specs.Playouts.{PlayoutState, BreaksOff, Drains}

-- what was still due was written, or the receiver broke off, before or then
abbrev pub Concludes : (x y : PlayoutState) → Result (Unit {0}) Ending → Answer → Type 0
Concludes x y heard (Done (Judged tally)) = (heard ≡ Ok tt) × Drains x y tally
Concludes x y heard (Drained (Judged tally) end) =
    (heard ≡ Err end) × (has_broken end ≡ false) × Drains x y tally
Concludes x y heard (Stopped end) = ((heard ≡ Err end) × (has_broken end ≡ true) × (y ≡ x))
    ⊎ (CanGoOn heard × BreaksOff x y [] end)
Concludes x y heard answer = ⊥

-- ---- the counts of a pcap file's records

abbrev pub recorded : (records other : ℕ) → Answer → Answer
recorded records other (Done summary) = WithRecords summary records other None
recorded records other (Drained summary end) = WithRecords summary records other (Some end)
recorded records other answer = answer

abbrev pub with_record_counts : Option RecordCounts → Answer → Answer
with_record_counts None answer = answer
with_record_counts (Some counts) answer = recorded counts.records counts.other answer
