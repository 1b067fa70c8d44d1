-- Either form of an input: which datagrams its bytes carry, how reading them ended, and what hearing
-- them came to.
use Rattle.std.specs.Prelude.{◌≡◌, ◌≤◌, ◌⊎◌, ℕ, ◌-◌, List, length, Option, None, Some}
use Rattle.std.specs.Prelude.{Result, Ok, Err}
use Rattle.link_report.specs.declared.ending.Ending.{Ending}
use Rattle.link_report.specs.declared.ending.Ending.TheVariants.{InputFailed, NoMemory, OutputFailed}
use Rattle.pcap_in.specs.Feeding.{carried_of}
use Rattle.pcap_in.specs.Pcap.{FileSplit, file_split}
use Rattle.vc_ports.specs.Changes.{InputChange, HasRisen, Took}
use Rattle.link_hearing.specs.Capture.{ReadingEnded, IsWholeCapture, capture_split}
use Rattle.link_hearing.specs.Files.{FileEnded, IsWholeFile}
use Rattle.link_hearing.specs.declared.form.InputForm.{InputForm}
use Rattle.link_hearing.specs.declared.form.InputForm.TheVariants.{Capture, Pcap}
use Rattle.link_hearing.specs.declared.heard.HeardInput.{HeardInput}
use Rattle.link_hearing.specs.declared.heard.RecordCounts.{RecordCounts}
use Rattle.link_hearing.specs.declared.listener.ListenerFault.{ListenerFault}
use Rattle.link_hearing.specs.declared.listener.ListenerFault.TheVariants as faults

-- that of a pcap file where there is a port, and else of a capture
abbrev pub form_of : Option ℕ → InputForm
form_of None = Capture
form_of (Some port) = Pcap port

-- ---- the bytes that an input gave

-- their datagrams: those of the whole entries of a capture that begin them, at most `packets`, or the
-- payloads to a port that the whole records of a pcap file carry, at most `packets` records being read
abbrev pub datagrams_in : InputForm → ℕ → List ℕ → List (List ℕ)
datagrams_in Capture packets given = (capture_split packets given).datagrams
datagrams_in (Pcap port) packets given = carried_of packets port given

-- how reading them ended
abbrev pub InputEnded : InputForm → ℕ → Option Ending → InputChange → (given : List ℕ) → Type 0
InputEnded Capture packets end input given =
    ReadingEnded packets end input (capture_split packets given)
InputEnded (Pcap port) packets end input given =
    FileEnded packets end input given (file_split packets given)

-- the bytes are a whole capture, or a whole pcap file
abbrev pub IsWholeInput : InputForm → ℕ → List ℕ → Type 0
IsWholeInput Capture packets bytes = IsWholeCapture packets bytes
IsWholeInput (Pcap port) packets bytes = IsWholeFile packets bytes

-- the records of a pcap file, and those of them that carry no datagram
abbrev pub record_counts : FileSplit → (datagrams : List (List ℕ)) → RecordCounts
record_counts s datagrams =
    record { records = length s.records; other = length s.records - length datagrams }

abbrev pub records_in : InputForm → ℕ → List ℕ → Option RecordCounts
records_in Capture packets given = None
records_in (Pcap port) packets given =
    Some (record_counts (file_split packets given) (carried_of packets port given))

-- ---- what hearing them came to

-- By how it ended: the datagrams were heard, and the input ended so, or the listener has heard
-- enough; or it broke off at the last of them.
abbrev pub HeardSo : (datagrams : List (List ℕ)) → (ended : Option Ending → Type 0) → InputChange
    → (heard : List (List ℕ) → Type 0) → (broke : List (List ℕ) → ListenerFault → Type 0)
    → (enough : Type 0) → Result (Unit {0}) Ending → Type 0
HeardSo datagrams ended input heard broke enough (Ok done) =
    heard datagrams × (ended None ⊎ enough)
HeardSo datagrams ended input heard broke enough (Err NoMemory) = broke datagrams faults.NoMemory
HeardSo datagrams ended input heard broke enough (Err OutputFailed) = broke datagrams faults.Output
HeardSo datagrams ended input heard broke enough (Err end) =
    heard datagrams × ended (Some end) × (end ≡ InputFailed → HasRisen input.faults)

-- the datagrams of the bytes that the input gave were heard
pub record HearsInput
    (form : InputForm) (packets : ℕ) (input : InputChange) (heard : List (List ℕ) → Type 0)
    (broke : List (List ℕ) → ListenerFault → Type 0) (enough : Type 0) (told : HeardInput) : Type 0
  where
    pub given : List ℕ
    pub took : Took input given
    pub few : length (datagrams_in form packets given) ≤ packets
    pub counted : told.records ≡ records_in form packets given
    pub did : HeardSo (datagrams_in form packets given)
        (λ end. InputEnded form packets end input given) input heard broke enough told.ended
