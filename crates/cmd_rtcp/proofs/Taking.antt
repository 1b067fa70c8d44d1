-- What a source and a reporter keep behind one datagram more.
use Rattle.std.proofs.Common.{◌≡◌, ℕ, ◌+◌, ◌%◌, List, [], ◌∷◌, ◌++◌, length, Option, Some, None, Ok, Err, sym, ap, ◌∙◌, arith, append-nil, length-append, eq-eqb, ne_eqb}
use Rattle.std.specs.Prelude.{IfOk, Result}
use Rattle.link_model.specs.Packets.{RtpPacket, rtp_packet}
use Rattle.link_outside.specs.Outlets.{capture_of}
use Rattle.rtcp_reports.specs.Reports.{Reporting, Followed, accepted, after_packet, followed_from, packets_of, with_packet, with_report}
use Rattle.vc_types.specs.declared.memory.NoMemory.{NoMemory}
use Rattle.cmd_rtcp.specs.Pieces.{piece_bytes}
use Rattle.cmd_rtcp.specs.Reporters.{HasReported}
use Rattle.cmd_rtcp.specs.SourceLaws.{follow_more, packets_more}
use Rattle.cmd_rtcp.specs.Sources.{IsKept, IsWithin, KeepsSource, Makes, MakesNext, followed_behind, packets_with, reporting_of, reports_so_far}
use Rattle.cmd_rtcp.specs.declared.piece.Piece.{Piece}
use Rattle.cmd_rtcp.specs.declared.piece.Piece.TheVariants.{Nothing}
use Rattle.cmd_rtcp.specs.declared.reporter.Reporter.{Reporter}
use Rattle.cmd_rtcp.specs.declared.source.Source.{Source}

-- ---- the source

module _ (r : Reporting) (source : ℕ) (f : Followed) (p : RtpPacket) (s : Source) where
  -- the number of the packet is a multiple
  pub at_report : (piece : Piece) → (f.packets + 1) % r.every ≡ 0
      → Makes s source (with_packet f p) (with_report r source (with_packet f p)) piece
      → Makes s source f (after_packet r source f p) piece
  unfolding after_packet
  at_report piece zero m =
      rw (eq-eqb ((f.packets + 1) % r.every) 0 zero) (record { kept = m.kept; made = m.made })

  -- and isn't
  pub no_report : ((f.packets + 1) % r.every ≡ 0 → ⊥) → IsKept s source (with_packet f p)
      → Makes s source f (after_packet r source f p) Nothing
  unfolding after_packet
  no_report other k =
      rw (ne_eqb ((f.packets + 1) % r.every) 0 other)
      (record { kept = k; made = sym (append-nil (capture_of f.reports)) })

module _ (r : Reporting) (p : RtpPacket) (old mid : Source)
    (kept : (source : ℕ) (f : Followed) → IsKept old source f → IsKept mid source (with_packet f p)) where
  -- it was counted, and a report was made
  pub reported : (new : Source) (result : Result Piece NoMemory) → mid.packets % r.every ≡ 0
      → IfOk result (λ piece. (source : ℕ) (f : Followed) → IsKept mid source f → Makes new source f (with_report r source f) piece)
      → IfOk result (λ piece. (source : ℕ) (f : Followed) → IsKept old source f → Makes new source f (after_packet r source f p) piece)
  reported new (Ok piece) zero makes = λ source f k.
      let now = kept source f k in
      at_report r source f p new piece (ap (λ (n : ℕ). n % r.every) (sym now.packets) ∙ zero)
      (makes source (with_packet f p) now)
  reported new (Err none) zero makes = makes

  -- and none was
  pub unreported : (mid.packets % r.every ≡ 0 → ⊥) → (source : ℕ) (f : Followed) → IsKept old source f
      → Makes mid source f (after_packet r source f p) Nothing
  unreported other source f k =
      let now = kept source f k in
      no_report r source f p mid (λ zero. other (ap (λ (n : ℕ). n % r.every) now.packets ∙ zero)) now

-- ---- one datagram more

within_more : (s : Source) (n : ℕ) → IsWithin s n → IsWithin s (n + 1)
within_more s n w = record {
  updates = omega (arith, w.updates);
  packets = omega (arith, w.packets);
  reports = omega (arith, w.reports);
}

module _ (r : Reporting) where
  keeps_on : (source : Option Source) (packets : List RtpPacket) (n : ℕ) → KeepsSource r source packets n
      → KeepsSource r source packets (n + 1)
  keeps_on None [] n k = tt
  keeps_on None (p ∷ ps) n k = absurd k
  keeps_on (Some s) [] n k = absurd k
  keeps_on (Some s) (p ∷ ps) n k = (k.0, within_more s n k.1)

  nothing_new : (packets : List RtpPacket) → capture_of (reports_so_far r packets) ≡ capture_of (reports_so_far r packets) ++ []
  nothing_new packets = sym (append-nil (capture_of (reports_so_far r packets)))

  -- it is no packet
  pub refused : (source : Option Source) (packets : List RtpPacket) (n : ℕ)
      → KeepsSource r source packets n → MakesNext r packets None (n + 1) source Nothing
  refused source packets n k = record { keeps = keeps_on source packets n k; made = nothing_new packets }

  module _ (s : Source) (n : ℕ) (p : RtpPacket) where
    -- it is one of another source
    pub foreign : (packets : List RtpPacket) → KeepsSource r (Some s) packets n → (s.ssrc ≡ p.ssrc → ⊥)
        → MakesNext r packets (Some p) (n + 1) (Some s) Nothing
    foreign [] k other = absurd k
    foreign (q ∷ qs) k other =
        let test = ne_eqb p.ssrc q.ssrc (λ e. other (k.0.ssrc ∙ sym e)) in
        record { keeps = rw test (k.0, within_more s n k.1); made = rw test (nothing_new (q ∷ qs)) }

    -- it is one of the source
    pub next : (packets : List RtpPacket) (now : Source) (piece : Piece)
        → KeepsSource r (Some s) packets n → s.ssrc ≡ p.ssrc
        → (IsWithin s n → IsWithin now (n + 1))
        → ((source : ℕ) (f : Followed) → IsKept s source f → Makes now source f (after_packet r source f p) piece)
        → MakesNext r packets (Some p) (n + 1) (Some now) piece
    next [] now piece k own within makes = absurd k
    next (q ∷ qs) now piece k own within makes =
        let m = makes q.ssrc (followed_behind r q qs) k.0 in
        let test = eq-eqb p.ssrc q.ssrc (sym own ∙ k.0.ssrc) in
        let more = follow_more r q qs p in
        record {
          keeps = rw (test, more) (m.kept, within k.1);
          made = rw test (ap (λ (f : Followed). capture_of f.reports) more ∙ m.made);
        }

  -- it is the first
  pub begun : (p : RtpPacket) (n : ℕ) (now : Source) (piece : Piece) → IsWithin now 1
      → Makes now p.ssrc (followed_from p) (after_packet r p.ssrc (followed_from p) p) piece
      → MakesNext r [] (Some p) (n + 1) (Some now) piece
  begun p n now piece w m = record {
    keeps = (
      m.kept,
      record {
        updates = omega (arith, w.updates);
        packets = omega (arith, w.packets);
        reports = omega (arith, w.reports);
      },
    );
    made = m.made;
  }

-- ---- the reporter

module _ (x y : Reporter) (d : List ℕ) (next : Option RtpPacket) (piece : Piece)
    (is : accepted (rtp_packet d) ≡ next) (stays : y.settings ≡ x.settings)
    (makes : (packets : List RtpPacket) (n : ℕ) → KeepsSource (reporting_of x.settings) x.source packets n
    → MakesNext (reporting_of x.settings) packets next (n + 1) y.source piece) where
  pub takes : (r : Reporting) (ds : List (List ℕ)) → HasReported r x ds
      → HasReported r y (ds ++ d ∷ [])
      × (capture_of (reports_so_far r (packets_of (ds ++ d ∷ [])))
      ≡ capture_of (reports_so_far r (packets_of ds)) ++ piece_bytes piece)
  takes r ds h =
      let k : KeepsSource (reporting_of x.settings) x.source (packets_of ds) (length ds) = rw h.reporting h.keeps in
      let m : MakesNext r (packets_of ds) next (length ds + 1) y.source piece =
      rw h.reporting at (makes (packets_of ds) (length ds) k) in
      let more : packets_of (ds ++ d ∷ []) ≡ packets_with (packets_of ds) next =
      packets_more ds d ∙ ap (packets_with (packets_of ds)) is in (
        record {
          reporting = rw stays h.reporting;
          can = rw stays h.can;
          keeps = rw (more, length-append ds (d ∷ [])) m.keeps;
        },
        rw more m.made,
      )

-- of a packet
pub takes_ok : (x y : Reporter) (d : List ℕ) (p : RtpPacket) (result : Result Piece NoMemory)
    → accepted (rtp_packet d) ≡ Some p → y.settings ≡ x.settings
    → IfOk result (λ piece. (packets : List RtpPacket) (n : ℕ) → KeepsSource (reporting_of x.settings) x.source packets n
    → MakesNext (reporting_of x.settings) packets (Some p) (n + 1) y.source piece)
    → IfOk result (λ piece. (first : Reporter) (heard : List (List ℕ)) → HasReported (reporting_of first.settings) x heard
    → HasReported (reporting_of first.settings) y (heard ++ d ∷ [])
    × (capture_of (reports_so_far (reporting_of first.settings) (packets_of (heard ++ d ∷ [])))
    ≡ capture_of (reports_so_far (reporting_of first.settings) (packets_of heard)) ++ piece_bytes piece))
takes_ok x y d p (Ok piece) is stays makes = λ first heard h.
    takes x y d (Some p) piece is stays makes (reporting_of first.settings) heard h
takes_ok x y d p (Err none) is stays makes = makes

-- of the first packet
pub first_ok : (r : Reporting) (source now : Option Source) (p : RtpPacket) (result : Result Piece NoMemory) → source ≡ None
    → IfOk result (λ piece. (n : ℕ) → MakesNext r [] (Some p) (n + 1) now piece)
    → IfOk result (λ piece. (packets : List RtpPacket) (n : ℕ) → KeepsSource r source packets n
    → MakesNext r packets (Some p) (n + 1) now piece)
first_ok r source now p (Ok piece) none makes = λ packets n k. by_packets packets n (rw none at k)
  where
    by_packets : (packets : List RtpPacket) (n : ℕ) → KeepsSource r None packets n
        → MakesNext r packets (Some p) (n + 1) now piece
    by_packets [] n k = makes n
    by_packets (q ∷ qs) n k = absurd k
first_ok r source now p (Err fault) none makes = makes
