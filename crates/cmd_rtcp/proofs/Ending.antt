-- What a source and a reporter keep behind all datagrams.
use Rattle.std.proofs.Common.{◌≡◌, ℕ, Bool, true, false, List, [], ◌∷◌, ◌++◌, length, Option, Some, None, Ok, Err, refl, sym, subst, ◌∙◌, append-nil}
use Rattle.std.specs.Prelude.{IfOk, Result, if◌then◌else◌}
use Rattle.link_model.specs.Packets.{RtpPacket}
use Rattle.link_outside.specs.Outlets.{capture_of}
use Rattle.rtcp_reports.specs.Reports.{Reporting, Followed, with_last_report, packets_of, report_entries, reports_on, with_report}
use Rattle.vc_types.specs.declared.memory.NoMemory.{NoMemory}
use Rattle.cmd_rtcp.specs.Pieces.{piece_bytes}
use Rattle.cmd_rtcp.specs.Reporters.{HasReported, HasSummedUp, packets_counted, reports_counted}
use Rattle.cmd_rtcp.specs.SourceLaws.{ends_packets, packets_counted as packets_followed}
use Rattle.cmd_rtcp.specs.Sources.{IsKept, KeepsSource, Makes, followed_behind, reporting_of, reports_so_far}
use Rattle.cmd_rtcp.specs.declared.piece.Piece.{Piece}
use Rattle.cmd_rtcp.specs.declared.piece.Piece.TheVariants.{Nothing}
use Rattle.cmd_rtcp.specs.declared.reporter.Reporter.{Reporter}
use Rattle.cmd_rtcp.specs.declared.source.Source.{Source}

-- ---- the source

module _ (r : Reporting) (source : ℕ) (f : Followed) (s : Source) where
  pub last_report : (piece : Piece) → f.is_due ≡ true → Makes s source f (with_report r source f) piece
      → Makes s source f (with_last_report r source f) piece
  last_report piece due m =
      subst (λ (b : Bool). Makes s source f (if b then with_report r source f else f) piece) (sym due) m

  pub no_last : f.is_due ≡ false → IsKept s source f → Makes s source f (with_last_report r source f) Nothing
  no_last due k =
      subst (λ (b : Bool). Makes s source f (if b then with_report r source f else f) Nothing) (sym due)
      (record { kept = k; made = sym (append-nil (capture_of f.reports)) })

pub last_reports : (r : Reporting) (old new : Source) (result : Result Piece NoMemory) → old.is_due ≡ true
    → IfOk result (λ piece. (source : ℕ) (f : Followed) → IsKept old source f → Makes new source f (with_report r source f) piece)
    → IfOk result (λ piece. (source : ℕ) (f : Followed) → IsKept old source f → Makes new source f (with_last_report r source f) piece)
last_reports r old new (Ok piece) due makes = λ source f k.
    last_report r source f new piece (sym k.is_due ∙ due) (makes source f k)
last_reports r old new (Err none) due makes = makes

-- ---- the reporter

-- what is kept is all that is known
pub record SumsUp (r : Reporting) (packets : List RtpPacket) (source : Option Source) (piece : Piece) : Type 0 where
  pub packets_are : packets_counted source ≡ length packets
  pub reports_are : reports_counted source ≡ length (reports_on r packets)
  pub made : capture_of (reports_on r packets) ≡ capture_of (reports_so_far r packets) ++ piece_bytes piece

module _ (r : Reporting) (n : ℕ) where
  pub none_at_end : (packets : List RtpPacket) → KeepsSource r None packets n → SumsUp r packets None Nothing
  none_at_end [] k = record { packets_are = refl; reports_are = refl; made = refl }
  none_at_end (p ∷ ps) k = absurd k

  pub some_at_end : (s now : Source) (piece : Piece)
      → ((source : ℕ) (f : Followed) → IsKept s source f → Makes now source f (with_last_report r source f) piece)
      → (packets : List RtpPacket) → KeepsSource r (Some s) packets n → SumsUp r packets (Some now) piece
  some_at_end s now piece makes [] k = absurd k
  some_at_end s now piece makes (p ∷ ps) k =
      let f : Followed = followed_behind r p ps in
      let m = makes p.ssrc f k.0 in
      record {
        packets_are = m.kept.packets ∙ ends_packets r p.ssrc f ∙ packets_followed r p ps;
        reports_are = m.kept.reports;
        made = m.made;
      }

module _ (x y : Reporter) (piece : Piece)
    (sums : (packets : List RtpPacket) (n : ℕ) → KeepsSource (reporting_of x.settings) x.source packets n
    → SumsUp (reporting_of x.settings) packets y.source piece) where
  pub summed : (r : Reporting) (ds : List (List ℕ)) → HasReported r x ds
      → HasSummedUp r y ds
      × (capture_of (report_entries r ds) ≡ capture_of (reports_so_far r (packets_of ds)) ++ piece_bytes piece)
  unfolding report_entries
  summed r ds h =
      let k : KeepsSource (reporting_of x.settings) x.source (packets_of ds) (length ds) = rw h.reporting h.keeps in
      let s : SumsUp r (packets_of ds) y.source piece = rw h.reporting at (sums (packets_of ds) (length ds) k) in (
        record { packets = s.packets_are; reports = s.reports_are },
        s.made,
      )

-- there is a source
pub ends_ok : (x y : Reporter) (s now : Source) (result : Result Piece NoMemory) → x.source ≡ Some s → y.source ≡ Some now
    → IfOk result (λ piece. (source : ℕ) (f : Followed) → IsKept s source f
    → Makes now source f (with_last_report (reporting_of x.settings) source f) piece)
    → IfOk result (λ piece. (first : Reporter) (heard : List (List ℕ)) → HasReported (reporting_of first.settings) x heard
    → HasSummedUp (reporting_of first.settings) y heard
    × (capture_of (report_entries (reporting_of first.settings) heard)
    ≡ capture_of (reports_so_far (reporting_of first.settings) (packets_of heard)) ++ piece_bytes piece))
ends_ok x y s now (Ok piece) is now_is makes = λ first heard h.
    summed x y piece (λ packets n k. rw now_is
    (some_at_end (reporting_of x.settings) n s now piece makes packets (rw is at k)))
    (reporting_of first.settings) heard h
ends_ok x y s now (Err none) is now_is makes = makes

-- there is none
pub ends_none : (x : Reporter) → x.source ≡ None → (r : Reporting) (heard : List (List ℕ)) → HasReported r x heard
    → HasSummedUp r x heard × (capture_of (report_entries r heard) ≡ capture_of (reports_so_far r (packets_of heard)) ++ [])
ends_none x is r heard h =
    summed x x Nothing (λ packets n k. rw is (none_at_end (reporting_of x.settings) n packets (rw is at k))) r heard h
