-- Settings without their facts.
use Rattle.std.specs.Prelude.{ℕ, ◌≤◌, IsTrue, List}
use Rattle.vc_types.specs.Rates.{rate_view}
use Rattle.vc_types.specs.SenderSettings.{generating_view, sending_view}
use Rattle.vc_types.specs.Settings.{within}
use Rattle.link_words.specs.declared.settings.Settings.{Settings}
use Rattle.link_words.specs.declared.settings.Settings.TheVariants.{Decode, Encode, Send, Recv, Loop}
use Rattle.link_words.specs.declared.settings.Settings.TheVariants.{Unpack, Pack, Play, Gen}
use Rattle.link_words.specs.declared.settings.Settings.TheVariants.{Rtcp, RtcpShow, Probe, Record, Replay}
use Rattle.link_words.specs.Grammar.{IsText}
use Rattle.link_words.specs.Settings.{Meaning, ToDecode, ToEncode, ToSend, ToRecv}
use Rattle.link_words.specs.Settings.{ToLoop, ToUnpack, ToPack, ToPlay, ToGen, ToRtcp, ToRtcpShow}
use Rattle.link_words.specs.Settings.{ToProbe, ToRecord, ToReplay}

abbrev pub meaning_view : Settings → Meaning
meaning_view (Decode window workers packets pcap fill) = ToDecode window workers packets pcap fill
meaning_view (Encode sender frames workers) = ToEncode (sending_view sender) frames workers
meaning_view (Send sender frames workers paced to) =
    ToSend (sending_view sender) frames workers paced to.now
meaning_view (Recv window workers packets sessions idle fill at) =
    ToRecv window workers packets sessions idle fill at.now
meaning_view (Loop sender frames window workers at) =
    ToLoop (sending_view sender) frames window workers at.now
meaning_view (Unpack window workers packets pcap) = ToUnpack window workers packets pcap
meaning_view (Pack packets size ssrc pt seq rate) =
    ToPack packets size ssrc pt seq (rate_view rate)
meaning_view (Play packets) = ToPlay packets
meaning_view (Gen generator check window workers) =
    ToGen (generating_view generator) check window workers
meaning_view (Rtcp every ssrc name is_sender ntp packets pcap) =
    ToRtcp every ssrc name.now is_sender ntp packets pcap
meaning_view (RtcpShow packets pcap) = ToRtcpShow packets pcap
meaning_view (Probe packets pcap) = ToProbe packets pcap
meaning_view (Record packets sessions idle at) = ToRecord packets sessions idle at.now
meaning_view (Replay packets paced to) = ToReplay packets paced to.now

-- of the pictures that are open at a time there are 2 to 8
abbrev pub IsWindow : ℕ → Type 0
IsWindow window = (2 ≤ window) × (window ≤ 8)

abbrev pub HasWindow : Settings → Type 0
HasWindow (Decode window workers packets pcap fill) = IsWindow window
HasWindow (Recv window workers packets sessions idle fill at) = IsWindow window
HasWindow (Loop sender frames window workers at) = IsWindow window
HasWindow (Unpack window workers packets pcap) = IsWindow window
HasWindow (Gen generator check window workers) = IsWindow window
HasWindow other = Unit {0}

-- a datagram of a packer has room, and its payload type has 7 bits
pub record ArePackRanges (size pt : ℕ) : Type 0 where
  pub size_fits : IsTrue (within 64 65507 size)
  pub payload_type : pt ≤ 127

abbrev pub CanPack : Settings → Type 0
CanPack (Pack packets size ssrc pt seq rate) = ArePackRanges size pt
CanPack other = Unit {0}

-- there is a report behind some packet, and a reporter has a name
pub record AreReportRanges (every : ℕ) (name : List ℕ) : Type 0 where
  pub some : 1 ≤ every
  pub is_name : IsText name

abbrev pub CanReport : Settings → Type 0
CanReport (Rtcp every ssrc name is_sender ntp packets pcap) = AreReportRanges every name.now
CanReport other = Unit {0}
