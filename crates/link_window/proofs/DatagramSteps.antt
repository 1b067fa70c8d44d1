-- What a datagram is to a session, by what was read of it.
use Rattle.std.proofs.Common.{◌≡◌, ℕ, ◌+◌, ◌≤◌, Bool, true, false, List, length, Option, Some, None, length-take-le, length-drop}
use Rattle.std.proofs.Common.{Ok, Err, ap, ◌∙◌, arith, cond}
use Rattle.std.specs.Prelude.{◌==◌, ◌&&◌, is_some, slice_range}
use Rattle.std.specs.Option.{option_map}
use Rattle.std.proofs.lemmas.Bool.{cond-true, eq-eqb}
use Rattle.std.proofs.lemmas.Option.{none-some}
use Rattle.link_model.specs.Judgement.{early_outcome, refusal_outcome, judged_value, judged_received}
use Rattle.link_model.specs.Packets.{PayloadValue, Header, End, Skip, Params, Slices}
use Rattle.link_model.specs.Packets.{RtpPacket, rtp_packet, payload}
use Rattle.link_model.specs.Session.{Received, received, DatagramRefusal, OfRtp, OfPayload, of_packet}
use Rattle.link_model.specs.Session.{of_payload, Session, session_by, session_from, begins}
use Rattle.link_model.specs.Session.{fragment_by, fragment_from, fragment_in, is_end, end_from, ends}
use Rattle.link_model.specs.Windows.{window_outcome}
use Rattle.link_model.specs.declared.outcome.Outcome.{Outcome}
use Rattle.link_model.specs.declared.outcome.Outcome.TheVariants as outcomes
use Rattle.link_model.specs.declared.refusal.PayloadRefusal.{PayloadRefusal}
use Rattle.link_model.specs.declared.refusal.RtpRefusal.{RtpRefusal}
use Rattle.receiver_model.specs.Judging.{opens_from, opens_after, known_by_window, outcome_by}
use Rattle.receiver_model.specs.Receptions.{StandingSession}
use Rattle.link_window.specs.Hearing.{OpensSession, BringsFragment, EndsSession, ChangesNothing}
use Rattle.link_window.specs.Openings.{session_of}
use Rattle.link_window.proofs.HeaderOutcomes.{early_for, early_is}
use Rattle.link_window.specs.declared.heard.Opening.{Opening}
use Rattle.link_window.specs.Views.{sent_fragment}
use Rattle.link_window.specs.declared.fragment.Fragment.{Fragment}
use Rattle.vc2_payload.specs.Views.{StandsAt}
use Rattle.bytes.proofs.Ranges.{slice_range-slice_range}

-- ---- reading

module _ (d : List ℕ) where
  pub no_packet : (refusal : RtpRefusal) → rtp_packet d ≡ Err refusal → received d ≡ Err (OfRtp refusal)
  unfolding received
  no_packet refusal is = ap (of_packet d) is

  pub no_payload : (packet : RtpPacket) (refusal : PayloadRefusal) → rtp_packet d ≡ Ok packet → payload (slice_range d packet.from packet.to) ≡ Err refusal → received d ≡ Err (OfPayload refusal)
  unfolding received
  no_payload packet refusal is none = ap (of_packet d) is ∙ ap (of_payload packet.ssrc) none

body_within : (d : List ℕ) (from to place : ℕ) (body : List ℕ) → from ≤ to → to ≤ length d → StandsAt (slice_range d from to) place body → from + (place + length body) ≤ to
body_within d from to place body ordered within stands = grind (arith, length-take-le, length-drop)

-- a body of the payload that stands from one place up to another
pub body_is : (d : List ℕ) (from to place : ℕ) (body : List ℕ) → from ≤ to → to ≤ length d → StandsAt (slice_range d from to) place body
    → slice_range d (from + place) (from + place + length body) ≡ body
body_is d from to place body ordered within stands =
    grind (arith, body_within, slice_range-slice_range)

-- ---- what was read

module _ (d : List ℕ) (r : Received) (is : received d ≡ Ok r) where
  begins_is : begins d ≡ session_by r.ssrc r.value
  unfolding begins
  begins_is = ap session_from is

  fragment_is : (s : Session) → fragment_in s d ≡ cond (r.ssrc == s.ssrc) (fragment_by r.value) None
  unfolding fragment_in
  fragment_is s = ap (fragment_from s) is

  end_is : (s : Session) → ends s d ≡ (r.ssrc == s.ssrc && is_end r.value)
  unfolding ends
  end_is s = ap (end_from s) is

  outcome_is : (standing : Option StandingSession) → outcome_by standing (received d) ≡ judged_received (option_map known_by_window standing) r
  outcome_is standing = ap (outcome_by standing) is

  -- ---- before a session stands

  opens_early : (value : PayloadValue) (ssrc : ℕ) (s : Session) → session_by ssrc value ≡ Some s → early_outcome value ≡ outcomes.HeaderNew
  opens_early (Header high from body) ssrc s e = early_is ssrc body ∙ ap early_for e
  opens_early (End high) ssrc s e = absurd (none-some s e)
  opens_early (Skip high code) ssrc s e = absurd (none-some s e)
  opens_early (Params head from body) ssrc s e = absurd (none-some s e)
  opens_early (Slices head count x y from body) ssrc s e = absurd (none-some s e)

  pub opens_first : (o : Opening) → session_by r.ssrc r.value ≡ Some (session_of o) → OpensSession None d o
  opens_first o opens = grind (arith, begins_is, opens_early, outcome_is)

  pub nothing_first : (o : Outcome) → session_by r.ssrc r.value ≡ None → o ≡ early_outcome r.value → ChangesNothing None d o
  nothing_first o none outcome = grind (arith, begins_is, outcome_is)

  -- ---- behind a session that stands

  module _ (st : StandingSession) where
    abbrev some : Option StandingSession
    some = Some st

    next_outcome : outcome_by some (received d) ≡ cond (is_some (opens_from st (session_by r.ssrc r.value))) outcomes.HeaderNew (cond (r.ssrc == st.session.ssrc) (judged_value (known_by_window st) r.value) outcomes.Foreign)
    next_outcome = outcome_is some

    pub opens_behind : (o : Opening) → opens_from st (session_by r.ssrc r.value) ≡ Some (session_of o) → OpensSession some d o
    opens_behind o opens = grind (arith, begins_is, next_outcome)

    module _ (none : opens_from st (session_by r.ssrc r.value) ≡ None) where
      still : opens_after some (begins d) ≡ None
      still = ap (opens_from st) begins_is ∙ none

      no_opening : outcome_by some (received d) ≡ cond (r.ssrc == st.session.ssrc) (judged_value (known_by_window st) r.value) outcomes.Foreign
      no_opening = next_outcome ∙ ap (λ (n : Option Session). cond (is_some n) outcomes.HeaderNew (cond (r.ssrc == st.session.ssrc) (judged_value (known_by_window st) r.value) outcomes.Foreign)) none

      -- of another source
      pub foreign : (r.ssrc ≡ st.session.ssrc → ⊥) → ChangesNothing some d outcomes.Foreign
      foreign other = grind (arith, end_is, fragment_is, no_opening, still)

      module _ (source : r.ssrc ≡ st.session.ssrc) where
        same : (r.ssrc == st.session.ssrc) ≡ true
        same = eq-eqb r.ssrc st.session.ssrc source

        own_fragment : fragment_in st.session d ≡ fragment_by r.value
        own_fragment = fragment_is st.session ∙ cond-true (r.ssrc == st.session.ssrc) (fragment_by r.value) None same

        own_end : ends st.session d ≡ is_end r.value
        own_end = end_is st.session ∙ ap (λ (b : Bool). b && is_end r.value) same

        own_outcome : outcome_by some (received d) ≡ judged_value (known_by_window st) r.value
        own_outcome = no_opening ∙ cond-true (r.ssrc == st.session.ssrc) (judged_value (known_by_window st) r.value) outcomes.Foreign same

        pub nothing_more : (o : Outcome) → fragment_by r.value ≡ None → is_end r.value ≡ false → judged_value (known_by_window st) r.value ≡ o → ChangesNothing some d o
        nothing_more o no_fragment no_end outcome =
            grind (arith, own_end, own_fragment, own_outcome, still)

        pub has_end : fragment_by r.value ≡ None → is_end r.value ≡ true → judged_value (known_by_window st) r.value ≡ outcomes.End → EndsSession some d
        has_end no_fragment end outcome = grind (arith, own_end, own_fragment, own_outcome, still)

        pub brings : (f : Fragment) → fragment_by r.value ≡ Some (sent_fragment f) → is_end r.value ≡ false → judged_value (known_by_window st) r.value ≡ window_outcome st.window (sent_fragment f) → BringsFragment some d f
        brings f fragment no_end outcome = grind (arith, own_end, own_fragment, own_outcome, still)

-- one that can't be read
module _ (d : List ℕ) (refusal : DatagramRefusal) (is : received d ≡ Err refusal) where
  unread_begins : begins d ≡ None
  unfolding begins
  unread_begins = ap session_from is

  unread_fragment : (s : Session) → fragment_in s d ≡ None
  unfolding fragment_in
  unread_fragment s = ap (fragment_from s) is

  unread_end : (s : Session) → ends s d ≡ false
  unfolding ends
  unread_end s = ap (end_from s) is

  unread_opens : (standing : Option StandingSession) → opens_after standing (begins d) ≡ None
  unread_opens None = unread_begins
  unread_opens (Some st) = ap (opens_from st) unread_begins

  pub unread : (standing : Option StandingSession) (o : Outcome) → o ≡ refusal_outcome refusal → ChangesNothing standing d o
  unread standing o outcome = grind (arith, unread_end, unread_fragment, unread_opens)
