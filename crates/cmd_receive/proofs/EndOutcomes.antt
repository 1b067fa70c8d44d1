-- End comes exactly where a datagram is an end of the last session.
use Rattle.std.proofs.Common.{◌≡◌, ℕ, Bool, true, false, List, [], ◌∷◌, Result, Ok, Err, refl, ap, sym, ◌∙◌, arith}
use Rattle.std.proofs.lemmas.Bool.{false≢true}
use Rattle.link_model.specs.Judgement.{refusal_outcome, later_outcome, outcome_of, outcome_behind, early_outcome}
use Rattle.link_model.specs.Packets.{PayloadValue}
use Rattle.link_model.specs.Session.{Received, received, DatagramRefusal, HeardSession, sessions_of, is_end, end_from, ends}
use Rattle.link_model.proofs.OpeningOutcomes.{turns, fragment_outcomes, header_outcomes, refusal_outcomes}
use Rattle.link_model.specs.declared.outcome.Outcome.{Outcome}
use Rattle.link_model.specs.declared.outcome.Outcome.TheVariants as outcomes

abbrev is_end_outcome : Outcome → Bool
is_end_outcome outcomes.End = true
is_end_outcome other = false

no_end : (x : Outcome) → turns x ≡ false → is_end_outcome x ≡ false
no_end x other = grind arith

early_outcomes : (value : PayloadValue) → is_end_outcome (early_outcome value) ≡ false
early_outcomes value = grind arith

module _ (window : ℕ) where
  later_ends : (base : ℕ) (h : HeardSession) (value : PayloadValue) → is_end_outcome (later_outcome base window h value) ≡ true → is_end value ≡ true
  later_ends base h value is = grind (arith, fragment_outcomes, header_outcomes, no_end)

  -- an end behind sessions
  abbrev Ends : List HeardSession → Result Received DatagramRefusal → Type 0
  Ends [] r = ⊥
  Ends (h ∷ hs) r = end_from h.session r ≡ true

  end_ends : (hs : List HeardSession) (r : Result Received DatagramRefusal) → is_end_outcome (outcome_of window hs r) ≡ true → Ends hs r
  end_ends hs (Err refusal) is = absurd (false≢true (sym (no_end (refusal_outcome refusal) (refusal_outcomes refusal)) ∙ is))
  end_ends [] (Ok r) is = absurd (false≢true (sym (early_outcomes r.value) ∙ is))
  end_ends (h ∷ hs) (Ok r) is = grind (arith, later_ends)

  -- the last session, which a datagram ends
  pub end_is_of_last : (before : List (List ℕ)) (d : List ℕ) → outcome_behind window before d ≡ outcomes.End
      → (h : HeardSession) × (hs : List HeardSession) × (sessions_of before ≡ h ∷ hs) × (ends h.session d ≡ true)
  unfolding ends outcome_behind
  end_is_of_last before d is = by_sessions (sessions_of before) refl (end_ends (sessions_of before) (received d) (ap is_end_outcome is))
    where
      by_sessions : (hs : List HeardSession) → sessions_of before ≡ hs → Ends hs (received d)
          → (h : HeardSession) × (hs : List HeardSession) × (sessions_of before ≡ h ∷ hs) × (end_from h.session (received d) ≡ true)
      by_sessions [] are ended = absurd ended
      by_sessions (h ∷ hs) are ended = (h, hs, are, ended)
