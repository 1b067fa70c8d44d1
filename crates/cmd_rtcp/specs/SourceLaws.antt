-- How the source's packets, what is known of it and the reports grow with each datagram.
use Rattle.std.proofs.Common.{◌≡◌, ℕ, ◌+◌, ◌%◌, Bool, true, false, List, [], ◌∷◌, ◌++◌, length}
use Rattle.std.proofs.Common.{Option, Some, None, refl, sym, ap, ◌∙◌, arith, append-nil, eq-eqb}
use Rattle.std.specs.Prelude.{◌==◌, if◌then◌else◌, fold}
use Rattle.std.specs.List.{cons_option, filter, filter_map}
use Rattle.std.proofs.lemmas.List.Elements.{filter-append, filter_map-append}
use Rattle.std.proofs.lemmas.List.Sums.{fold-append}
use Rattle.link_model.specs.Packets.{RtpPacket, rtp_packet}
use Rattle.rtcp_reports.specs.Reports.{Reporting, Followed, accepted, with_last_report, followed_from}
use Rattle.rtcp_reports.specs.Reports.{after_packet, packets_of, packets_of_first, report_on, with_packet}
use Rattle.rtcp_reports.specs.Reports.{with_report}
use Rattle.cmd_rtcp.specs.Sources.{followed_behind, packets_with}

-- ---- packets

own : (p : RtpPacket) → (p.ssrc == p.ssrc) ≡ true
own p = eq-eqb p.ssrc p.ssrc refl

first_is : (q : RtpPacket) (qs : List RtpPacket)
    → packets_of_first (q ∷ qs) ≡ q ∷ filter (λ x. x.ssrc == q.ssrc) qs
first_is q qs = rw (own q) refl

-- those of a source
abbrev own_of : ℕ → List RtpPacket → List RtpPacket
own_of source packets = filter (λ x. x.ssrc == source) packets

-- a packet behind others
first_with : (qs : List RtpPacket) (p : RtpPacket)
    → packets_of_first (qs ++ p ∷ []) ≡ packets_with (packets_of_first qs) (Some p)
first_with [] p = first_is p []
first_with (q ∷ qs) p =
    first_is q (qs ++ p ∷ [])
    ∙ ap (λ (l : List RtpPacket). q ∷ l) (filter-append (λ x. x.ssrc == q.ssrc) qs (p ∷ []))
    ∙ by_test (p.ssrc == q.ssrc)
    ∙ sym (ap (λ (l : List RtpPacket). packets_with l (Some p)) (first_is q qs))
  where
    by_test : (same : Bool) → q ∷ (own_of q.ssrc qs ++ (if same then p ∷ [] else []))
        ≡ (if same then q ∷ (own_of q.ssrc qs ++ p ∷ []) else q ∷ own_of q.ssrc qs)
    by_test true = refl
    by_test false = ap (λ (l : List RtpPacket). q ∷ l) (append-nil (own_of q.ssrc qs))

abbrev packets_in : List (List ℕ) → List RtpPacket
packets_in ds = filter_map (λ (e : List ℕ). accepted (rtp_packet e)) ds

pub packets_more : (ds : List (List ℕ)) (d : List ℕ)
    → packets_of (ds ++ d ∷ []) ≡ packets_with (packets_of ds) (accepted (rtp_packet d))
packets_more ds d =
    ap packets_of_first (filter_map-append (λ (e : List ℕ). accepted (rtp_packet e)) ds (d ∷ []))
    ∙ by_next (accepted (rtp_packet d))
  where
    by_next : (next : Option RtpPacket) → packets_of_first (packets_in ds ++ cons_option next [])
        ≡ packets_with (packets_of ds) next
    by_next None = ap packets_of_first (append-nil (packets_in ds))
    by_next (Some p) = first_with (packets_in ds) p

-- ---- what is known

pub follow_more : (r : Reporting) (q : RtpPacket) (qs : List RtpPacket) (p : RtpPacket)
    → followed_behind r q (qs ++ p ∷ []) ≡ after_packet r q.ssrc (followed_behind r q qs) p
follow_more r q qs p = fold-append (after_packet r q.ssrc) _ (q ∷ qs) (p ∷ [])

module _ (r : Reporting) (source : ℕ) where
  one_packet : (f : Followed) (p : RtpPacket) → (after_packet r source f p).packets ≡ f.packets + 1
  unfolding after_packet
  one_packet f p = by_test ((f.packets + 1) % r.every == 0)
    where
      by_test : (made : Bool) → (if made then with_report r source (with_packet f p)
          else with_packet f p).packets ≡ f.packets + 1
      by_test true = refl
      by_test false = refl

  packets_all : (f : Followed) (ps : List RtpPacket)
      → (fold (after_packet r source) f ps).packets ≡ f.packets + length ps
  packets_all f [] = omega arith
  packets_all f (p ∷ ps) =
      let rest = packets_all (after_packet r source f p) ps in omega (arith, rest, one_packet f p)

-- as many as came
pub packets_counted : (r : Reporting) (p : RtpPacket) (ps : List RtpPacket)
    → (followed_behind r p ps).packets ≡ length (p ∷ ps)
packets_counted r p ps = omega (arith, packets_all r p.ssrc (followed_from p) (p ∷ ps))

-- ---- reports

-- a list that begins with another
abbrev pub Extends : List (List ℕ) → List (List ℕ) → Type 0
Extends whole front = (rest : List (List ℕ)) × (whole ≡ front ++ rest)

module _ (r : Reporting) (source : ℕ) where
  pub after_packet_extends : (f : Followed) (p : RtpPacket)
      → Extends (after_packet r source f p).reports f.reports
  unfolding after_packet
  after_packet_extends f p = by_test ((f.packets + 1) % r.every == 0)
    where
      by_test : (made : Bool) → Extends (if made then with_report r source (with_packet f p)
          else with_packet f p).reports f.reports
      by_test true = (report_on r source (with_packet f p) ∷ [], refl)
      by_test false = ([], sym (append-nil f.reports))

  pub ends_extends : (f : Followed) → Extends (with_last_report r source f).reports f.reports
  ends_extends f = by_test f.is_due
    where
      by_test : (due : Bool) → Extends (if due then with_report r source f else f).reports f.reports
      by_test true = (report_on r source f ∷ [], refl)
      by_test false = ([], sym (append-nil f.reports))

  pub ends_packets : (f : Followed) → (with_last_report r source f).packets ≡ f.packets
  ends_packets f = by_test f.is_due
    where
      by_test : (due : Bool) → (if due then with_report r source f else f).packets ≡ f.packets
      by_test true = refl
      by_test false = refl
