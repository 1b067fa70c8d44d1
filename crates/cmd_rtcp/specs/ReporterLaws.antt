-- What is due of a reporter grows with each datagram. The laws of a scribe cite these.
use Rattle.std.proofs.Common.{◌≡◌, ℕ, Bool, true, false, List, [], ◌∷◌, ◌++◌, Option, Some, None}
use Rattle.std.proofs.Common.{refl, sym, ap, ◌∙◌, append-nil}
use Rattle.std.specs.Prelude.{◌==◌, if◌then◌else◌}
use Rattle.link_model.specs.Output.{IsPrefixOf}
use Rattle.link_model.specs.Packets.{RtpPacket, rtp_packet}
use Rattle.link_outside.specs.CaptureLaws.{capture-append}
use Rattle.link_outside.specs.Outlets.{capture_of}
use Rattle.rtcp_reports.specs.Reports.{Reporting, Followed, accepted, packets_of, report_entries}
use Rattle.rtcp_reports.specs.Reports.{reports_on}
use Rattle.cmd_rtcp.specs.Reporters.{due_reports}
use Rattle.cmd_rtcp.specs.SourceLaws.{Extends, ends_extends, follow_more, after_packet_extends, packets_more}
use Rattle.cmd_rtcp.specs.Sources.{followed_behind, packets_with, reports_so_far}

begins : (whole front : List (List ℕ)) → Extends whole front
    → IsPrefixOf (capture_of front) (capture_of whole)
begins whole front e = (capture_of e.0, ap capture_of e.1 ∙ capture-append front e.0)

same : (list : List (List ℕ)) → Extends list list
same list = ([], sym (append-nil list))

module _ (r : Reporting) where
  with_next : (packets : List RtpPacket) (next : Option RtpPacket)
      → Extends (reports_so_far r (packets_with packets next)) (reports_so_far r packets)
  with_next packets None = same (reports_so_far r packets)
  with_next [] (Some p) = (reports_so_far r (p ∷ []), refl)
  with_next (q ∷ qs) (Some p) = by_test (p.ssrc == q.ssrc)
    where
      by_test : (own : Bool) → Extends (reports_so_far r (if own then q ∷ (qs ++ p ∷ []) else q ∷ qs))
          (reports_so_far r (q ∷ qs))
      by_test true =
          let more = after_packet_extends r q.ssrc (followed_behind r q qs) p in
          (more.0, ap (λ (f : Followed). f.reports) (follow_more r q qs p) ∙ more.1)
      by_test false = same (reports_so_far r (q ∷ qs))

  at_end : (packets : List RtpPacket) → Extends (reports_on r packets) (reports_so_far r packets)
  at_end [] = ([], refl)
  at_end (p ∷ ps) = ends_extends r p.ssrc (followed_behind r p ps)

  pub none_due : (due_reports r).so_far [] ≡ []
  none_due = refl

  pub more_due : (ds : List (List ℕ)) (d : List ℕ)
      → IsPrefixOf ((due_reports r).so_far ds) ((due_reports r).so_far (ds ++ d ∷ []))
  more_due ds d = rw (packets_more ds d)
      (begins _ _ (with_next (packets_of ds) (accepted (rtp_packet d))))

  pub all_due : (ds : List (List ℕ))
      → IsPrefixOf ((due_reports r).so_far ds) ((due_reports r).in_all ds)
  unfolding report_entries
  all_due ds = begins _ _ (at_end (packets_of ds))
