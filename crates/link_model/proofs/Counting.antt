-- One datagram more has one outcome more, and those before keep theirs.
use Rattle.std.proofs.Common.{◌≡◌, ℕ, List, [], ◌∷◌, ◌++◌, ap, sym, ◌∙◌, arith, append_assoc, append-nil}
use Rattle.std.proofs.lemmas.List.Sums.{fold_push}
use Rattle.link_model.specs.Judgement.{outcome_behind, outcomes_behind, outcomes_in, with_outcome, no_counts, outcome_counts}

outcomes_behind-append : (window : ℕ) (before datagrams more : List (List ℕ)) → outcomes_behind window before (datagrams ++ more) ≡ outcomes_behind window before datagrams ++ outcomes_behind window (before ++ datagrams) more
unfolding outcomes_behind
outcomes_behind-append window before [] more = ap (λ (l : List (List ℕ)). outcomes_behind window l more) (sym (append-nil before))
outcomes_behind-append window before (d ∷ datagrams) more =
    grind (arith, append_assoc, outcomes_behind-append window (before ++ d ∷ []) datagrams more)

pub outcomes_in_more : (window : ℕ) (datagrams : List (List ℕ)) (d : List ℕ) → outcomes_in window (datagrams ++ d ∷ []) ≡ outcomes_in window datagrams ++ outcome_behind window datagrams d ∷ []
unfolding outcomes_behind
outcomes_in_more window datagrams d = outcomes_behind-append window [] datagrams (d ∷ [])

pub counts_more : (window : ℕ) (datagrams : List (List ℕ)) (d : List ℕ) → outcome_counts (outcomes_in window (datagrams ++ d ∷ [])) ≡ with_outcome (outcome_counts (outcomes_in window datagrams)) (outcome_behind window datagrams d)
counts_more window datagrams d = ap outcome_counts (outcomes_in_more window datagrams d) ∙ fold_push with_outcome no_counts (outcomes_in window datagrams) (outcome_behind window datagrams d)

pub ruleset laws = (outcomes_in_more, counts_more)
