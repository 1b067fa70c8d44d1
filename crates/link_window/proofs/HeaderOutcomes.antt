-- What becomes of a sequence header, by the session that it would open.
use Rattle.std.proofs.Common.{◌≡◌, ℕ, List, Option, Some, None, Result, Ok, Err, refl, ap, sym, ◌∙◌}
use Rattle.link_model.proofs.WholeHeaders.{value_alone, value_of_whole}
use Rattle.link_model.specs.Judgement.{header_outcome, opening_outcome}
use Rattle.link_model.specs.Session.{Session, session_with}
use Rattle.link_model.specs.declared.outcome.Outcome.{Outcome}
use Rattle.link_model.specs.declared.outcome.Outcome.TheVariants as outcomes
use Rattle.vc_types.specs.SequenceHeader.{Sequence, coded_header, coded_whole_header_of, high_quality_profile}
use Rattle.vc_types.specs.declared.presentation.Presentation.{Presentation}
use Rattle.vc_types.specs.declared.refusal.HeaderRefusal.{HeaderRefusal}

-- before a session stands
abbrev pub early_for : Option Session → Outcome
early_for None = outcomes.HeaderBad
early_for (Some t) = outcomes.HeaderNew

-- behind one of this sequence, where it opens none
abbrev pub outcome_for : Sequence → Option Session → Outcome
outcome_for s None = outcomes.HeaderBad
outcome_for s (Some t) = header_outcome s (Ok (t.sequence, 0))

module _ (ssrc : ℕ) where
  early_by : (read : Result ((Sequence × Presentation) × ℕ) HeaderRefusal)
      → early_for (session_with ssrc read) ≡ opening_outcome (value_alone read)
  early_by (Ok read) = refl
  early_by (Err refusal) = refl

  outcome_by : (s : Sequence) (read : Result ((Sequence × Presentation) × ℕ) HeaderRefusal)
      → outcome_for s (session_with ssrc read) ≡ header_outcome s (value_alone read)
  outcome_by s (Ok read) = refl
  outcome_by s (Err refusal) = refl

  module _ (body : List ℕ) where
    abbrev read : Result ((Sequence × Presentation) × ℕ) HeaderRefusal
    read = coded_whole_header_of high_quality_profile body

    pub early_is : opening_outcome (coded_header body) ≡ early_for (session_with ssrc read)
    early_is = ap opening_outcome (value_of_whole high_quality_profile body) ∙ sym (early_by read)

    pub outcome_is : (s : Sequence) (o : Option Session) → o ≡ session_with ssrc read
        → header_outcome s (coded_header body) ≡ outcome_for s o
    outcome_is s o is =
        ap (header_outcome s) (value_of_whole high_quality_profile body)
        ∙ sym (outcome_by s read)
        ∙ ap (outcome_for s) (sym is)
