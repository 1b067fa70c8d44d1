-- What decoding a capture or a pcap file, or unpacking it, did, by how it ended.
use Rattle.std.specs.Prelude.{◌≡◌, ◌⊎◌, ℕ, Bool, List, [], ◌∷◌, Option, None, Some}
use Rattle.link_model.specs.Judgement.{tally_of}
use Rattle.link_model.specs.Session.{sessions_of}
use Rattle.link_model.specs.declared.tally.Tally.{Tally}
use Rattle.link_receiver.specs.HeardLists.{OutputForm, AsUnits, frames_form, due_in_all, told_jobs}
use Rattle.link_receiver.specs.StartedWorkers.{HasStarted}
use Rattle.receiver_model.specs.Offered.{AreAllOffered}
use Rattle.link_report.specs.declared.answer.Answer.{Answer}
use Rattle.link_report.specs.declared.answer.Answer.TheVariants.{Done, Stopped, Drained, WithRecords}
use Rattle.link_report.specs.declared.ending.Ending.{Ending}
use Rattle.link_report.specs.declared.ending.Ending.TheVariants.{NoMemory, InputFailed, OutputFailed}
use Rattle.link_report.specs.declared.summary.Summary.TheVariants.{Judged}
use Rattle.vc_ports.specs.Changes.{Change, InputChange, OutputChange, HasRisen, Took, Wrote}
use Rattle.vc_ports.specs.Changes.{WrotePart, Stays}
use Rattle.vc_slice.specs.Asked.{Told, Grows}
use Rattle.link_hearing.specs.Inputs.{InputEnded, datagrams_in, records_in}
use Rattle.link_hearing.specs.declared.form.InputForm.{InputForm}
use Rattle.link_hearing.specs.declared.heard.RecordCounts.{RecordCounts}

-- ---- input and output

-- the counts of so many datagrams, and of a pcap file those of its records, to the end or up to an ending
abbrev pub counted_so : Option RecordCounts → Tally → Option Ending → Answer
counted_so None tally None = Done (Judged tally)
counted_so None tally (Some end) = Drained (Judged tally) end
counted_so (Some counts) tally end = WithRecords (Judged tally) counts.records counts.other end

-- all that is due of the datagrams that were read was written, and these are the counts
pub record IsTaken
    (writes : OutputForm) (window packets : ℕ) (form : InputForm) (answer : Answer)
    (input : InputChange) (output : OutputChange) (given : List ℕ) : Type 0 where
  pub end : Option Ending
  pub reading : InputEnded form packets end input given
  pub wrote : Wrote output (due_in_all writes window (datagrams_in form packets given))
  pub counted : answer ≡ counted_so (records_in form packets given)
      (tally_of window (datagrams_in form packets given)) end

abbrev pub InputTaken : OutputForm → (window packets : ℕ) → InputForm → Answer → InputChange
    → OutputChange → (given : List ℕ) → Type 0
InputTaken writes window packets form (Stopped NoMemory) input output given =
    WrotePart output (due_in_all writes window (datagrams_in form packets given))
InputTaken writes window packets form (Stopped OutputFailed) input output given =
    WrotePart output (due_in_all writes window (datagrams_in form packets given))
InputTaken writes window packets form (Stopped end) input output given = ⊥
InputTaken writes window packets form answer input output given =
    IsTaken writes window packets form answer input output given

-- why it read no further, where it wrote what it had heard
abbrev pub drained_by : Answer → Option Ending
drained_by (Drained summary end) = Some end
drained_by (WithRecords summary records other end) = end
drained_by answer = None

-- a read failed
abbrev pub has_failed_input : Answer → Type 0
has_failed_input answer = drained_by answer ≡ Some InputFailed

-- ---- workers

-- so many were started, once, and each slice that a picture of the datagrams keeps was offered
pub record HasGivenWork
    (window workers : ℕ) (hands : Change (Option Told)) (datagrams : List (List ℕ)) : Type 0 where
  pub more : Told
  pub grows : Grows hands.before hands.after more
  pub started : more.started ≡ workers ∷ []
  pub offered : AreAllOffered window (sessions_of datagrams) (told_jobs more)

-- where memory ran out they were started, or nothing was asked of them
abbrev pub StartsWorkers : ℕ → ℕ → Answer → Change (Option Told) → List (List ℕ) → Type 0
StartsWorkers window workers (Stopped OutputFailed) hands datagrams = HasStarted workers hands
StartsWorkers window workers (Stopped NoMemory) hands datagrams =
    HasStarted workers hands ⊎ Stays hands
StartsWorkers window workers (Stopped end) hands datagrams = Unit {0}
StartsWorkers window workers answer hands datagrams =
    HasGivenWork window workers hands datagrams

-- ---- the bytes that the input gave

-- their datagrams were heard, and what is due of them was written
pub record TakesInput
    (writes : OutputForm) (window workers packets : ℕ) (form : InputForm) (answer : Answer)
    (input : InputChange) (output : OutputChange) (hands : Change (Option Told)) : Type 0 where
  pub given : List ℕ
  pub took : Took input given
  pub ended : InputTaken writes window packets form answer input output given
  pub input_failed : has_failed_input answer → HasRisen input.faults
  pub output_failed : answer ≡ Stopped OutputFailed → HasRisen output.faults
  pub workers_started : StartsWorkers window workers answer hands (datagrams_in form packets given)

-- as raw frames, without gaps where these are filled
abbrev pub Decodes : (fill : Bool) (window workers packets : ℕ) → InputForm → Answer → InputChange
    → OutputChange → Change (Option Told) → Type 0
Decodes fill window workers packets form answer input output hands =
    TakesInput (frames_form fill) window workers packets form answer input output hands

-- as the elementary stream of the first session
abbrev pub Unpacks : (window workers packets : ℕ) → InputForm → Answer → InputChange → OutputChange
    → Change (Option Told) → Type 0
Unpacks window workers packets form answer input output hands =
    TakesInput AsUnits window workers packets form answer input output hands
