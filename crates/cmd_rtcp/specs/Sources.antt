-- What code keeps of the source of datagrams.
use Rattle.std.specs.Prelude.{◌≡◌, ◌≤◌, ℕ, ◌%◌, ◌^◌, List, [], ◌∷◌, ◌++◌, length, fold, Option, Some, None, ⊤}
use Rattle.std.specs.Prelude.{◌==◌, if◌then◌else◌}
use Rattle.link_model.specs.Packets.{RtpPacket}
use Rattle.link_outside.specs.Outlets.{capture_of}
use Rattle.rtcp_reports.specs.Reports.{Reporting, Followed, after_packet, followed_from}
use Rattle.rtcp_reports.specs.Rtcp.{IsName, receiver_compound, sender_compound}
use Rattle.rtcp_reports.specs.declared.block.Block.{Block}
use Rattle.rtcp_reports.specs.declared.block.SenderInfo.{SenderInfo}
use Rattle.cmd_rtcp.specs.Pieces.{piece_bytes}
use Rattle.cmd_rtcp.specs.declared.piece.Piece.{Piece}
use Rattle.cmd_rtcp.specs.declared.settings.ReportSettings.{ReportSettings}
use Rattle.cmd_rtcp.specs.declared.source.Source.{Source}

-- ---- how reports are made

abbrev pub reporting_of : ReportSettings → Reporting
reporting_of s = record {
  every = s.every;
  ssrc = s.ssrc;
  name = s.cname.now;
  is_sender = s.sender;
  ntp = s.ntp;
}

-- reports can be made so
pub record CanReport (s : ReportSettings) : Type 0 where
  pub every : 1 ≤ s.every
  pub name : IsName s.cname.now

-- ---- the source

-- what is known of it, of which the bytes are kept modulo 2^32, and the reports are counted
pub record IsKept (s : Source) (source : ℕ) (f : Followed) : Type 0 where
  pub ssrc : s.ssrc ≡ source
  pub track : s.track ≡ f.track
  pub packets : s.packets ≡ f.packets
  pub octets : s.octets ≡ f.octets % 2 ^ 32
  pub timestamp : s.timestamp ≡ f.timestamp
  pub is_due : s.is_due ≡ f.is_due
  pub reports : s.reports ≡ length f.reports

-- no count is above the number of datagrams
pub record IsWithin (s : Source) (datagrams : ℕ) : Type 0 where
  pub updates : s.track.updates ≤ datagrams
  pub packets : s.packets ≤ datagrams
  pub reports : s.reports ≤ datagrams

-- it is kept as it is known from then on, and the piece has the report that was made, if one was
pub record Makes (s : Source) (source : ℕ) (old new : Followed) (piece : Piece) : Type 0 where
  pub kept : IsKept s source new
  pub made : capture_of new.reports ≡ capture_of old.reports ++ piece_bytes piece

-- what a sender's report says
abbrev pub info_of : Source → ℕ → SenderInfo
info_of s ntp = record {
  ssrc = s.ssrc;
  ntp = ntp;
  timestamp = s.timestamp;
  packets = s.packets % 2 ^ 32;
  octets = s.octets;
}

-- the compound packet of a report
abbrev pub compound_by : Reporting → SenderInfo → Option Block → List ℕ
compound_by r info block =
    if r.is_sender then sender_compound info r.name else receiver_compound r.ssrc block r.name

-- ---- behind its packets

-- what is known of the source of the first packet
abbrev pub followed_behind : Reporting → RtpPacket → List RtpPacket → Followed
followed_behind r p ps = fold (after_packet r p.ssrc) (followed_from p) (p ∷ ps)

-- the reports that were made so far
abbrev pub reports_so_far : Reporting → List RtpPacket → List (List ℕ)
reports_so_far r [] = []
reports_so_far r (p ∷ ps) = (followed_behind r p ps).reports

-- the source of these packets, among so many datagrams, is kept, if there is one
abbrev pub KeepsSource : Reporting → Option Source → List RtpPacket → ℕ → Type 0
KeepsSource r None [] datagrams = ⊤
KeepsSource r (Some s) (p ∷ ps) datagrams =
    IsKept s p.ssrc (followed_behind r p ps) × IsWithin s datagrams
KeepsSource r source packets datagrams = ⊥

-- ---- one datagram more

-- the source's packets then, where the datagram is this packet, or none
abbrev pub packets_with : List RtpPacket → Option RtpPacket → List RtpPacket
packets_with packets None = packets
packets_with [] (Some p) = p ∷ []
packets_with (q ∷ qs) (Some p) = if p.ssrc == q.ssrc then q ∷ (qs ++ p ∷ []) else q ∷ qs

-- the source is kept then, and the piece has the report that was made, if one was
pub record MakesNext
    (r : Reporting) (packets : List RtpPacket) (next : Option RtpPacket) (datagrams : ℕ)
    (source : Option Source) (piece : Piece) : Type 0 where
  pub keeps : KeepsSource r source (packets_with packets next) datagrams
  pub made : capture_of (reports_so_far r (packets_with packets next))
      ≡ capture_of (reports_so_far r packets) ++ piece_bytes piece
