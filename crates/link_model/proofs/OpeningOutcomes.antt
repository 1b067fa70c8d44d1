-- HeaderNew comes only where a datagram opens a session, and neither it nor End of a part or a refusal.
use Rattle.std.proofs.Common.{◌≡◌, ℕ, Bool, true, false, List, [], ◌∷◌, Option, Some, None, Result, Ok, Err, refl, ap, sym, ◌∙◌, cond, arith, nat_lt}
use Rattle.std.proofs.lemmas.Bool.{false≢true}
use Rattle.vc_types.specs.SameValues.{same_sequence}
use Rattle.link_model.specs.Judgement.{run_outcome, slices_outcome, part_outcome, fragment_outcome, refusal_outcome, header_outcome, outcome_of, KnownPicture, known_by_parts, outcome_behind, early_outcome, opening_outcome}
use Rattle.link_model.specs.Kept.{KeptParameters, own_parameters, waiting_limit, SliceRun, slice_run}
use Rattle.link_model.specs.Numbers.{Numbered, is_late, parts_of, picture_number}
use Rattle.link_model.specs.Packets.{PayloadValue, Header, End, Skip, Params, Slices}
use Rattle.link_model.specs.Session.{Received, received, DatagramRefusal, Session, Part, ParamsPart, SlicesPart, SlicePart, Fragment, HeardSession, opens_next, sessions_of, session_with, session_by, session_from, begins}
use Rattle.link_model.specs.declared.outcome.Outcome.{Outcome}
use Rattle.link_model.specs.declared.outcome.Outcome.TheVariants as outcomes
use Rattle.link_model.proofs.WholeHeaders.{value_alone, value_of_whole}
use Rattle.vc_types.specs.SequenceHeader.{Sequence, coded_whole_header_of, high_quality_profile}
use Rattle.vc_types.specs.declared.presentation.Presentation.{Presentation}
use Rattle.vc_types.specs.declared.refusal.HeaderRefusal.{HeaderRefusal}

-- what becomes of a datagram that begins or ends a session
abbrev pub turns : Outcome → Bool
turns outcomes.HeaderNew = true
turns outcomes.End = true
turns other = false

neither : (b : Bool) (x y : Outcome) → turns x ≡ false → turns y ≡ false → turns (cond b x y) ≡ false
neither true x y first second = first
neither false x y first second = second

-- ---- parts of pictures

abbrev run_turns : Result SliceRun Outcome → Bool
run_turns (Ok run) = false
run_turns (Err outcome) = turns outcome

run_outcomes : (kept : ℕ → Option (List ℕ)) (r : Result SliceRun Outcome) → run_turns r ≡ false → turns (run_outcome kept r) ≡ false
run_outcomes kept r none = grind (arith, neither)

slices_outcomes : (known : KnownPicture) (plan : Option KeptParameters) (s : SlicePart) → turns (slices_outcome known plan s) ≡ false
unfolding slice_run
slices_outcomes known None s = neither (nat_lt known.waiting waiting_limit) outcomes.SlicesPending outcomes.SlicesFull refl refl
slices_outcomes known (Some plan) s = run_outcomes known.slice (slice_run plan.parameters s) (grind arith)

part_outcomes : (s : Sequence) (before : List Part) (part : Part) → turns (part_outcome s before part) ≡ false
unfolding part_outcome
part_outcomes s before (ParamsPart body) = grind (arith, neither)
part_outcomes s before (SlicesPart slices) = slices_outcomes (known_by_parts s before) (own_parameters s before) slices

pub fragment_outcomes : (base window : ℕ) (s : Sequence) (es : List Numbered) (f : Fragment) → turns (fragment_outcome base window s es f) ≡ false
unfolding fragment_outcome
fragment_outcomes base window s es f = neither (is_late window es (picture_number base es f.number)) outcomes.Late (part_outcome s (parts_of (picture_number base es f.number) es) f.part) refl
    (part_outcomes s (parts_of (picture_number base es f.number) es) f.part)

-- ---- datagrams

pub header_outcomes : (s : Sequence) (r : Result (Sequence × ℕ) HeaderRefusal) → turns (header_outcome s r) ≡ false
header_outcomes s (Ok read) = neither (same_sequence s read.0) outcomes.HeaderSame outcomes.HeaderOther refl refl
header_outcomes s (Err refusal) = refl

pub refusal_outcomes : (refusal : DatagramRefusal) → turns (refusal_outcome refusal) ≡ false
refusal_outcomes refusal = grind arith

-- ---- openings

abbrev opens : Outcome → Bool
opens outcomes.HeaderNew = true
opens other = false

unopened : (x : Outcome) → turns x ≡ false → opens x ≡ false
unopened x other = grind arith

module _ (window : ℕ) where
  first_opens : (ssrc : ℕ) (value : PayloadValue) → opens (early_outcome value) ≡ true → (s : Session) × (session_by ssrc value ≡ Some s)
  first_opens ssrc (Header high from body) is =
      by_read (coded_whole_header_of high_quality_profile body)
      (sym (ap (λ (r : Result (Sequence × ℕ) HeaderRefusal). opens (opening_outcome r)) (value_of_whole high_quality_profile body)) ∙ is)
    where
      by_read : (r : Result ((Sequence × Presentation) × ℕ) HeaderRefusal) → opens (opening_outcome (value_alone r)) ≡ true → (s : Session) × (session_with ssrc r ≡ Some s)
      by_read (Ok read) is = (record { ssrc = ssrc; sequence = read.0.0; presentation = read.0.1 }, refl)
      by_read (Err refusal) is = absurd (false≢true is)
  first_opens ssrc (End high) is = absurd (false≢true is)
  first_opens ssrc (Skip high code) is = absurd (false≢true is)
  first_opens ssrc (Params head from body) is = absurd (false≢true is)
  first_opens ssrc (Slices head count x y from body) is = absurd (false≢true is)

  new_opens : (hs : List HeardSession) (r : Result Received DatagramRefusal) → opens (outcome_of window hs r) ≡ true → (s : Session) × (opens_next hs (session_from r) ≡ Some s)
  new_opens hs (Err refusal) is = absurd (false≢true (sym (unopened (refusal_outcome refusal) (refusal_outcomes refusal)) ∙ is))
  new_opens [] (Ok r) is = first_opens r.ssrc r.value is
  new_opens (h ∷ hs) (Ok r) is = grind (arith, fragment_outcomes, header_outcomes, unopened)

  pub new_is_opening : (before : List (List ℕ)) (d : List ℕ) → outcome_behind window before d ≡ outcomes.HeaderNew → (s : Session) × (opens_next (sessions_of before) (begins d) ≡ Some s)
  unfolding begins outcome_behind
  new_is_opening before d is = new_opens (sessions_of before) (received d) (ap opens is)
