-- What a command came to, as its status and its report say.
use Rattle.std.specs.Prelude.{◌≡◌, ◌⊎◌, ℕ, zero, suc, List, [], ◌++◌, Option, None, Some, Result, Ok, Err}
use Rattle.link_report.specs.Report.{lines, record_lines, summary_text, status_line, ending_status}
use Rattle.link_report.specs.declared.answer.Answer.{Answer}
use Rattle.link_report.specs.declared.answer.Answer.TheVariants.{Done, Stopped, Drained, WithRecords}
use Rattle.link_report.specs.declared.ending.Ending.{Ending}
use Rattle.link_report.specs.declared.ending.Ending.TheVariants.{NoMemory}
use Rattle.link_report.specs.declared.summary.Summary.{Summary}
use Rattle.vc_ports.specs.Changes.{OutputChange, HasRisen, Wrote, WrotePart}

abbrev pub answer_of : Result Summary Ending → Answer
answer_of (Ok summary) = Done summary
answer_of (Err ending) = Stopped ending

abbrev pub answer_status : Answer → ℕ
answer_status (Done summary) = 0
answer_status (Stopped ending) = ending_status ending
answer_status (Drained summary ending) = ending_status ending
answer_status (WithRecords summary records other None) = 0
answer_status (WithRecords summary records other (Some ending)) = ending_status ending

abbrev pub ending_line : Option Ending → List ℕ
ending_line None = []
ending_line (Some ending) = status_line ending

abbrev pub answer_text : Answer → List ℕ
answer_text (Done summary) = summary_text summary
answer_text (Stopped ending) = status_line ending
answer_text (Drained summary ending) = summary_text summary ++ status_line ending
answer_text (WithRecords summary records other ending) =
    (summary_text summary ++ lines (record_lines records other)) ++ ending_line ending

-- the status where the report failed, which hides no other
abbrev pub status_at_fault : ℕ → ℕ
status_at_fault zero = 7
status_at_fault (suc n) = suc n

-- the report has the text, and the status is the one that is due; or it failed, and has a prefix
abbrev pub Says : List ℕ → ℕ → ℕ → OutputChange → Type 0
Says text due status report =
    ((status ≡ due) × Wrote report text)
    ⊎ ((status ≡ status_at_fault due) × HasRisen report.faults × WrotePart report text)

-- An answer is said whole; where there is no memory for its text, the line of status 3 is said in
-- its place.
abbrev pub Reports : Answer → ℕ → OutputChange → Type 0
Reports answer status report =
    Says (answer_text answer) (answer_status answer) status report
    ⊎ Says (status_line NoMemory) (ending_status NoMemory) status report
