-- What hearing the records of a pcap file came to, before a byte behind as many as were asked for.
use Rattle.std.specs.Prelude.{◌≡◌, ◌≤◌, ℕ, List, [], length, Option, None, Some, Result, Err}
use Rattle.link_report.specs.declared.ending.Ending.{Ending}
use Rattle.link_report.specs.declared.ending.Ending.TheVariants.{PacketLimit}
use Rattle.pcap_in.specs.Feeding.{ReadsOn, payloads_of}
use Rattle.pcap_in.specs.Pcap.{FileSplit}
use Rattle.pcap_in.specs.declared.head.FileHead.{FileHead}
use Rattle.vc_ports.specs.Changes.{InputChange, Took}
use Rattle.link_hearing.specs.Inputs.{HearsInput, record_counts}
use Rattle.link_hearing.specs.declared.form.InputForm.TheVariants.{Pcap}
use Rattle.link_hearing.specs.declared.heard.HeardInput.{HeardInput}
use Rattle.link_hearing.specs.declared.heard.RecordCounts.{RecordCounts}
use Rattle.link_hearing.specs.declared.listener.ListenerFault.{ListenerFault}

abbrev pub split_at : Option FileHead → (records : List (List ℕ)) → (rest : List ℕ) → FileSplit
split_at head records rest = record { head = head; records = records; rest = rest }

-- as many records as were asked for were read, whatever follows, and what they carry was heard
pub record HeardMostRecords
    (port packets : ℕ) (input : InputChange) (heard : List (List ℕ) → Type 0)
    (counts : Option RecordCounts) (limit : ℕ) : Type 0 where
  pub limit_is : limit ≡ packets
  pub head : Option FileHead
  pub records : List (List ℕ)
  pub bytes : List ℕ
  pub took : Took input bytes
  pub later : input.faults.before ≤ input.faults.after
  pub are : ReadsOn None head bytes records
  pub count : length records ≡ packets
  pub heard_so : heard (payloads_of head port records)
  pub sizes : length (payloads_of head port records) ≤ length records
  pub counted : counts ≡ Some (record_counts (split_at head records []) (payloads_of head port records))

abbrev pub RecordsHeard : (port packets : ℕ) → InputChange → (heard : List (List ℕ) → Type 0)
    → (broke : List (List ℕ) → ListenerFault → Type 0) → (enough : Type 0) → Option RecordCounts
    → Result (Unit {0}) Ending → Type 0
RecordsHeard port packets input heard broke enough counts (Err (PacketLimit limit)) =
    HeardMostRecords port packets input heard counts limit
RecordsHeard port packets input heard broke enough counts ended =
    HearsInput (Pcap port) packets input heard broke enough
    (record { ended = ended; records = counts })

abbrev pub HearsRecords : (port packets : ℕ) → InputChange → (heard : List (List ℕ) → Type 0)
    → (broke : List (List ℕ) → ListenerFault → Type 0) → (enough : Type 0) → HeardInput → Type 0
HearsRecords port packets input heard broke enough told =
    RecordsHeard port packets input heard broke enough told.records told.ended
