-- The reports on a source that are made while its datagrams come (this project's own): who the source is,
-- and behind which of its packets there is a report.
use Rattle.std.specs.Prelude.{ℕ, ◌+◌, ◌-◌, ◌%◌, ◌^◌, Bool, true, false, ◌==◌, if◌then◌else◌, List, [], ◌∷◌}
use Rattle.std.specs.Prelude.{◌++◌, fold, filter, filter_map, Option, Some, None, Result, Ok, Err}
use Rattle.link_model.specs.Packets.{RtpPacket, rtp_packet}
use Rattle.link_model.specs.declared.refusal.RtpRefusal.{RtpRefusal}
use Rattle.rtcp_reports.specs.Rtcp.{receiver_compound, sender_compound}
use Rattle.rtcp_reports.specs.Tracks.{Tracked, fresh, updated, block_of, reported}
use Rattle.rtcp_reports.specs.declared.block.Block.{Block}

-- Behind how many packets there is a report, who reports and under which name, and whether it is the source
-- itself, with which NTP time.
pub record Reporting : Type 0 where
  pub every : ℕ
  pub ssrc : ℕ
  pub name : List ℕ
  pub is_sender : Bool
  pub ntp : ℕ

-- ---- the source and its packets

abbrev pub accepted : Result RtpPacket RtpRefusal → Option RtpPacket
accepted (Ok p) = Some p
accepted (Err refusal) = None

-- the first packet's source is the source
abbrev pub packets_of_first : List RtpPacket → List RtpPacket
packets_of_first [] = []
packets_of_first (p ∷ ps) = filter (λ q. q.ssrc == p.ssrc) (p ∷ ps)

-- those whose RTP header is accepted, of the first one's source
abbrev pub packets_of : List (List ℕ) → List RtpPacket
packets_of datagrams = packets_of_first (filter_map (λ d. accepted (rtp_packet d)) datagrams)

-- ---- what is known of the source

-- what is kept of its numbers, how many packets came, how many bytes of payload they had, the last
-- timestamp, whether a packet came since the last report, and the reports
pub record Followed : Type 0 where
  pub track : Tracked
  pub packets : ℕ
  pub octets : ℕ
  pub timestamp : ℕ
  pub is_due : Bool
  pub reports : List (List ℕ)

-- before the first packet, which is given
abbrev pub followed_from : RtpPacket → Followed
followed_from p = record {
  track = fresh p.sequence;
  packets = 0;
  octets = 0;
  timestamp = 0;
  is_due = false;
  reports = [];
}

abbrev pub with_packet : Followed → RtpPacket → Followed
with_packet f p = record f {
  track = (updated f.track p.sequence).0;
  packets = f.packets + 1;
  octets = f.octets + (p.to - p.from);
  timestamp = p.timestamp;
  is_due = true;
}

-- ---- reports

-- none on probation
abbrev pub block_on : ℕ → Tracked → Option Block
block_on source t = if t.probation == 0 then Some (block_of source t) else None

abbrev pub report_on : Reporting → ℕ → Followed → List ℕ
report_on r source f =
    if r.is_sender then sender_compound (record {
      ssrc = source;
      ntp = r.ntp;
      timestamp = f.timestamp;
      packets = f.packets % 2 ^ 32;
      octets = f.octets % 2 ^ 32;
    }) r.name
    else receiver_compound r.ssrc (block_on source f.track) r.name

abbrev pub with_report : Reporting → ℕ → Followed → Followed
with_report r source f = record f {
  track = reported f.track;
  is_due = false;
  reports = f.reports ++ report_on r source f ∷ [];
}

-- a packet more, and a report where its number, counted from 1, is a multiple
abbrev pub reported_at : Reporting → ℕ → Followed → Followed
reported_at r source f = if f.packets % r.every == 0 then with_report r source f else f

unfoldable pub after_packet : Reporting → ℕ → Followed → RtpPacket → Followed
after_packet r source f p = reported_at r source (with_packet f p)

-- the last report, where packets have come since
abbrev pub with_last_report : Reporting → ℕ → Followed → Followed
with_last_report r source f = if f.is_due then with_report r source f else f

abbrev pub reports_on : Reporting → List RtpPacket → List (List ℕ)
reports_on r [] = []
reports_on r (p ∷ ps) =
    (with_last_report r p.ssrc (fold (after_packet r p.ssrc) (followed_from p) (p ∷ ps))).reports

-- the reports on datagrams
unfoldable pub report_entries : Reporting → List (List ℕ) → List (List ℕ)
report_entries r datagrams = reports_on r (packets_of datagrams)
