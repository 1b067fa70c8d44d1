-- How the reading of a pcap file ended, by what stopped its feed.
use Rattle.std.proofs.Common.{◌≡◌, ◌≤◌, ℕ, ◌+◌, List, [], length, Option, Some, None, IsSome, Err}
use Rattle.std.proofs.Common.{refl, ◌∙◌, subst, arith, inl, inr, append-nil}
use Rattle.std.specs.Prelude.{◌⊎◌}
use Rattle.link_report.specs.declared.ending.Ending.{Ending}
use Rattle.link_report.specs.declared.ending.Ending.TheVariants.{CaptureCut, InputFailed, StreamBad}
use Rattle.pcap_in.proofs.Splits.{pcap_head-info, pcap_head-stub, records_within-none}
use Rattle.pcap_in.specs.Feeding.{FeedValue, Brought, StoppedAt}
use Rattle.pcap_in.specs.Pcap.{FileSplit, Short, TooLong, file_head, pcap_head, pcap_record}
use Rattle.pcap_in.specs.Reading.{GaveHead, GaveCutHead}
use Rattle.pcap_in.specs.declared.fault.PcapFault.TheVariants as pcap
use Rattle.vc_ports.specs.Changes.{InputChange}
use Rattle.vc_ports.specs.Reading.{IsAtEnd}
use Rattle.link_hearing.proofs.ReadFiles.{AtHead, AtRecord, FileRead, first_value}
use Rattle.link_hearing.proofs.ReadFiles.{brought_file, stopped_before, stopped_file, stopped_wanted, wants_more}
use Rattle.link_hearing.specs.FileHearing.{split_at}
use Rattle.link_hearing.specs.Files.{FileEnded}
use Rattle.link_hearing.specs.InletLaws.{left_between}

pub record FileEnds
    (packets port faults : ℕ) (a : Option (List ℕ)) (y : FeedValue) (payloads : List (List ℕ))
    (end : Option Ending) : Type 0 where
  pub split : FileSplit
  pub place : ℕ
  pub read : FileRead packets port a y payloads split place
  pub ended : FileEnded packets end (left_between a y.left faults y.faults) read.as_file.given split

-- at a record's edge
pub file_end : (packets port faults : ℕ) (a : Option (List ℕ)) (y : FeedValue)
    (payloads : List (List ℕ)) → Brought (first_value a faults packets port) y payloads
    → IsSome y.point.head → IsAtEnd y.left → FileEnds packets port faults a y payloads None
file_end packets port faults a y payloads b headed at_end = record {
  split = split_at y.point.head b.records [];
  place = y.point.place;
  read = brought_file packets port faults a y payloads b;
  ended = record { headed = λ some. headed; no_rest = refl; ended = at_end };
}

module _ (packets port faults : ℕ) (a : Option (List ℕ)) (m y : FeedValue) (payloads : List (List ℕ))
    (b : Brought (first_value a faults packets port) m payloads) where
  abbrev Ends : Ending → Type 0
  Ends end = FileEnds packets port faults a y payloads (Some end)

  -- within a record
  pub cut_in_record : (place : ℕ) → StoppedAt m y (pcap.Cut place) → Ends (CaptureCut place)
  cut_in_record place st = cut (stopped_wanted packets port faults a m y payloads b (pcap.Cut place) st)
    where
      cut : AtRecord port a y.left m.point.head b.records (pcap.Cut place)
          ⊎ AtHead a y.left m.point.head b.records (pcap.Cut place) → Ends (CaptureCut place)
      cut (inl r) =
          let gave = r.reads.1 in
          let read = stopped_file packets port faults a m y payloads b (pcap.Cut place) st r gave.part
          gave.gave.gave (λ most. records_within-none most r.head.order gave.part Short gave.not_whole) in
          record {
            split = split_at (Some r.head) b.records gave.part;
            place = r.place;
            read = read;
            ended = record {
              wanted = omega (arith, wants_more packets port faults a m y payloads b (pcap.Cut place) st);
              headed = refl;
              not_whole = gave.not_whole;
              part = gave.some;
              ended = gave.gave.at_end;
              begins = omega (arith, read.as_file.long, r.reads.0);
            };
          }
      cut (inr r) = absurd r.reads

  -- before a head
  no_head : (place : ℕ) → StoppedAt m y (pcap.Header place) → Ends (StreamBad place)
  no_head place st = head (stopped_wanted packets port faults a m y payloads b (pcap.Header place) st)
    where
      wanted : 1 ≤ packets
      wanted = omega (arith, wants_more packets port faults a m y payloads b (pcap.Header place) st)

      by_bytes : (r : AtHead a y.left m.point.head b.records (pcap.Header place)) → place ≡ 0
          → GaveHead r.mid y.left None ⊎ GaveCutHead r.mid y.left → Ends (StreamBad place)
      by_bytes r zero (inl gave) =
          let none : pcap_head gave.bytes ≡ None = subst
          (λ (bytes : List ℕ). pcap_head bytes ≡ file_head gave.bytes) (append-nil gave.bytes)
          (pcap_head-info gave.bytes [] gave.long) ∙ gave.is in
          let read = stopped_before packets port faults a m y payloads b (pcap.Header place) st r
          gave.bytes gave.gave none in
          record {
            split = split_at None [] gave.bytes;
            place = 0;
            read = read;
            ended = inl (record {
              wanted = wanted;
              place_is = zero;
              no_head = refl;
              read = inl (omega (arith, read.as_file.long, gave.long));
            });
          }
      by_bytes r zero (inr gave) =
          let none = pcap_head-stub gave.part gave.short in
          let read = stopped_before packets port faults a m y payloads b (pcap.Header place) st r
          gave.part gave.gave.gave none in
          record {
            split = split_at None [] gave.part;
            place = 0;
            read = read;
            ended = inl (record {
              wanted = wanted;
              place_is = zero;
              no_head = refl;
              read = inr (omega (arith, read.as_file.long, gave.short), gave.gave.at_end);
            });
          }

      head : AtRecord port a y.left m.point.head b.records (pcap.Header place)
          ⊎ AtHead a y.left m.point.head b.records (pcap.Header place) → Ends (StreamBad place)
      head (inl r) = absurd r.reads
      head (inr r) = by_bytes r r.reads.0 r.reads.1

  -- at a record that is too long
  too_long : (place : ℕ) → StoppedAt m y (pcap.Length place) → Ends (StreamBad place)
  too_long place st = long (stopped_wanted packets port faults a m y payloads b (pcap.Length place) st)
    where
      long : AtRecord port a y.left m.point.head b.records (pcap.Length place)
          ⊎ AtHead a y.left m.point.head b.records (pcap.Length place) → Ends (StreamBad place)
      long (inl r) =
          let gave = r.reads.1 in
          let refused : pcap_record r.head.order gave.bytes ≡ Err TooLong = subst
          (λ (bytes : List ℕ). pcap_record r.head.order bytes ≡ Err TooLong) (append-nil gave.bytes)
          (gave.refused []) in
          let read = stopped_file packets port faults a m y payloads b (pcap.Length place) st r gave.bytes
          gave.gave (λ most. records_within-none most r.head.order gave.bytes TooLong refused) in
          record {
            split = split_at (Some r.head) b.records gave.bytes;
            place = r.place;
            read = read;
            ended = inr (record {
              wanted = omega (arith, wants_more packets port faults a m y payloads b (pcap.Length place) st);
              too_long = refused;
              read = gave.long;
              begins = omega (arith, read.as_file.long, gave.long, r.reads.0);
            });
          }
      long (inr r) = absurd r.reads

  pub bad_file : (place : ℕ) → StoppedAt m y (pcap.Header place) ⊎ StoppedAt m y (pcap.Length place)
      → Ends (StreamBad place)
  bad_file place (inl st) = no_head place st
  bad_file place (inr st) = too_long place st

  -- where a read failed
  pub could_not_read : StoppedAt m y pcap.ReadFault → Ends InputFailed
  could_not_read st = failed (stopped_wanted packets port faults a m y payloads b pcap.ReadFault st)
    where
      wanted : length b.records + 1 ≤ packets
      wanted = wants_more packets port faults a m y payloads b pcap.ReadFault st

      failed : AtRecord port a y.left m.point.head b.records pcap.ReadFault
          ⊎ AtHead a y.left m.point.head b.records pcap.ReadFault → Ends InputFailed
      failed (inl r) =
          let gave = r.reads in record {
            split = split_at (Some r.head) b.records gave.part;
            place = r.place;
            read = stopped_file packets port faults a m y payloads b pcap.ReadFault st r gave.part gave.gave
                (λ most. records_within-none most r.head.order gave.part Short gave.not_whole);
            ended = record { not_whole = gave.not_whole; wanted = inl (omega (arith, wanted)) };
          }
      failed (inr r) =
          let gave = r.reads in record {
            split = split_at None [] gave.part;
            place = 0;
            read = stopped_before packets port faults a m y payloads b pcap.ReadFault st r gave.part
                gave.gave (pcap_head-stub gave.part gave.short);
            ended = record { not_whole = gave.short; wanted = inl (omega (arith, wanted)) };
          }

  -- where memory ran out
  pub without_memory : StoppedAt m y pcap.NoMemory
      → (s : FileSplit) × (place : ℕ) × FileRead packets port a y payloads s place
  without_memory st = lost (stopped_wanted packets port faults a m y payloads b pcap.NoMemory st)
    where
      lost : AtRecord port a y.left m.point.head b.records pcap.NoMemory
          ⊎ AtHead a y.left m.point.head b.records pcap.NoMemory
          → (s : FileSplit) × (place : ℕ) × FileRead packets port a y payloads s place
      lost (inl r) =
          let gave = r.reads in (
            split_at (Some r.head) b.records gave.part,
            r.place,
            stopped_file packets port faults a m y payloads b pcap.NoMemory st r gave.part gave.gave
                (λ most. records_within-none most r.head.order gave.part Short gave.not_whole),
          )
      lost (inr r) = absurd r.reads
