-- What datagrams that come one after another did to the feed of a pcap file. The laws of its inlet
-- cite these.
use Rattle.std.proofs.Common.{◌≡◌, ◌≤◌, ℕ, List, [], ◌++◌, length, Option, Some, None, IsSome}
use Rattle.std.specs.Prelude.{◌⊎◌}
use Rattle.link_report.specs.declared.ending.Ending.{Ending}
use Rattle.link_report.specs.declared.ending.Ending.TheVariants.{CaptureCut, InputFailed, NoMemory}
use Rattle.link_report.specs.declared.ending.Ending.TheVariants.{PacketLimit, StreamBad}
use Rattle.pcap_in.proofs.Passing.{Brought-none, Brought-then}
use Rattle.pcap_in.specs.Feeding.{FeedValue, Brought, StoppedAt}
use Rattle.pcap_in.specs.declared.fault.PcapFault.{PcapFault}
use Rattle.pcap_in.specs.declared.fault.PcapFault.TheVariants as faults
use Rattle.vc_ports.specs.Reading.{IsAtEnd}

-- how a command ends where no record is read
abbrev pub record_ending : PcapFault → Ending
record_ending (faults.Header place) = StreamBad place
record_ending (faults.Length place) = StreamBad place
record_ending (faults.Cut place) = CaptureCut place
record_ending faults.ReadFault = InputFailed
record_ending faults.NoMemory = NoMemory

-- what came of a record more: the source ended, as many were read as may be, it couldn't be read, or
-- there was no memory for it or for the datagram that it carries
abbrev pub EndsFeed : Option Ending → (x y : FeedValue) → (lost : List (List ℕ)) → Type 0
EndsFeed None x y lost = (lost ≡ []) × (y ≡ x) × IsSome y.point.head × IsAtEnd y.left
EndsFeed (Some (PacketLimit limit)) x y lost =
    (lost ≡ []) × (y ≡ x) × (limit ≡ y.records) × (y.records ≡ y.packets)
EndsFeed (Some (StreamBad place)) x y lost =
    (lost ≡ []) × (StoppedAt x y (faults.Header place) ⊎ StoppedAt x y (faults.Length place))
EndsFeed (Some (CaptureCut place)) x y lost = (lost ≡ []) × StoppedAt x y (faults.Cut place)
EndsFeed (Some InputFailed) x y lost = (lost ≡ []) × StoppedAt x y faults.ReadFault
EndsFeed (Some NoMemory) x y lost = (y ≡ x) ⊎ StoppedAt x y faults.NoMemory
EndsFeed end x y lost = ⊥

-- records were read that carry these, and then it ended so; where memory ran out, a last datagram may
-- be lost
pub record StoppedFeed
    (x y : FeedValue) (datagrams : List (List ℕ)) (end : Option Ending) : Type 0 where
  pub mid : FeedValue
  pub lost : List (List ℕ)
  pub few : length lost ≤ 1
  pub brought : Brought x mid (datagrams ++ lost)
  pub ended : EndsFeed end mid y lost

-- ---- laws

pub none_brought : (x : FeedValue) → Brought x x []
none_brought x = Brought-none x

pub more_brought : (x y z : FeedValue) (first second : List (List ℕ)) → Brought x y first
    → Brought y z second → Brought x z (first ++ second)
more_brought x y z first second p q = Brought-then x y z first second p q

pub feed_stops : (x y z : FeedValue) (first : List (List ℕ)) (end : Option Ending)
    → Brought x y first → StoppedFeed y z [] end → StoppedFeed x z first end
feed_stops x y z first end p q = record {
  mid = q.mid;
  lost = q.lost;
  few = q.few;
  brought = Brought-then x y q.mid first q.lost p q.brought;
  ended = q.ended;
}
