-- The count of ended sessions behind one datagram more, by what became of it.
use Rattle.std.proofs.Common.{◌≡◌, ℕ, ◌+◌, ◌-◌, ◌<◌, Bool, true, false, cond, List, [], ◌∷◌, ◌++◌, Some, refl, ap, sym, ◌∙◌, arith}
use Rattle.std.specs.Prelude.{not, ◌||◌}
use Rattle.std.proofs.lemmas.Bool.{false≢true}
use Rattle.link_model.specs.Judgement.{outcome_behind}
use Rattle.link_model.specs.Session.{Session, HeardSession, just_opened, opens_next, with_datagram, last_with, hears, sessions_of, begins, ends}
use Rattle.link_model.specs.declared.outcome.Outcome.{Outcome}
use Rattle.link_model.specs.declared.outcome.Outcome.TheVariants as outcomes
use Rattle.link_model.proofs.Hearing.{sessions_of_more, hears_new, hears_on}
use Rattle.link_model.proofs.OpeningOutcomes.{new_is_opening}
use Rattle.link_model.proofs.SessionOutcomes.{opening_is_new, end_is_end}
use Rattle.cmd_receive.specs.declared.count.SessionCount.{SessionCount}
use Rattle.link_hearing.proofs.SessionEnds.{ended-cons}
use Rattle.link_hearing.specs.Sessions.{ended_in}
use Rattle.cmd_receive.specs.Ends.{is_last_open, Counts, count_behind}
use Rattle.cmd_receive.proofs.EndOutcomes.{end_is_of_last}

pub none-more : (n : ℕ) → 0 + n ≡ n
none-more n = omega arith

one-behind : (n : ℕ) → 1 + n ≡ 1 + (0 + n)
one-behind n = omega arith

one-before : (n : ℕ) → 1 + n ≡ 0 + (1 + n)
one-before n = omega arith

or-true : (b : Bool) → (b || true) ≡ true
or-true true = refl
or-true false = refl

-- ---- what a datagram does to sessions

-- the counts of sessions, so many ended, and whether the last is open
abbrev IsSo : List HeardSession → ℕ → Bool → Type 0
IsSo hs ended is_open = (ended_in hs ≡ ended) × (is_last_open hs ≡ is_open)

opened : (hs : List HeardSession) (d : List ℕ) (s : Session) → opens_next hs (begins d) ≡ Some s → IsSo (hears hs d) (ended_in hs) true
opened hs d s is = rw (hears_new hs d s is) (ended-cons (just_opened s) hs ∙ none-more (ended_in hs), refl)

end_of : (h : HeardSession) (hs : List HeardSession) (d : List ℕ) → ends h.session d ≡ true
    → IsSo (last_with (h ∷ hs) d) (cond (is_last_open (h ∷ hs)) 1 0 + ended_in (h ∷ hs)) false
end_of h hs d one =
    let now : (with_datagram h d).has_ended ≡ true = ap (λ (b : Bool). h.has_ended || b) one ∙ or-true h.has_ended in
    (ended-cons (with_datagram h d) hs ∙ ap (λ (b : Bool). cond b 1 0 + ended_in hs) now ∙ by_end h.has_ended ∙ ap (λ (n : ℕ). cond (not h.has_ended) 1 0 + n) (sym (ended-cons h hs)), ap not now)
  where
    by_end : (ended : Bool) → 1 + ended_in hs ≡ cond (not ended) 1 0 + (cond ended 1 0 + ended_in hs)
    by_end true = one-before (ended_in hs)
    by_end false = one-behind (ended_in hs)

-- ---- by the outcome

abbrev is_new_or_end : Outcome → Bool
is_new_or_end outcomes.HeaderNew = true
is_new_or_end outcomes.End = true
is_new_or_end other = false

module _ (window : ℕ) (before : List (List ℕ)) (d : List ℕ) where
  abbrev hs : List HeardSession
  hs = sessions_of before

  abbrev became : Outcome
  became = outcome_behind window before d

  abbrev NotNew : Type 0
  NotNew = became ≡ outcomes.HeaderNew → ⊥

  abbrev NotEnd : Type 0
  NotEnd = became ≡ outcomes.End → ⊥

  goes_on : NotNew → hears hs d ≡ last_with hs d
  goes_on not_new = grind (arith, hears_on, opening_is_new)

  new_one : became ≡ outcomes.HeaderNew → IsSo (hears hs d) (ended_in hs) true
  new_one is = let o = new_is_opening window before d is in opened hs d o.0 o.1

  end_one : became ≡ outcomes.End → NotNew → IsSo (hears hs d) (cond (is_last_open hs) 1 0 + ended_in hs) false
  end_one is not_new =
      let last = end_is_of_last window before d is in
      rw (goes_on not_new) (rw last.2 (end_of last.0 last.1 d last.3))

  other_one : NotNew → NotEnd → IsSo (hears hs d) (ended_in hs) (is_last_open hs)
  other_one not_new not_end = grind (arith, goes_on, end_is_end)

  -- ---- the count

  module _ (c : SessionCount) (sessions : ℕ) (some : 0 < c.left) (counts : Counts c sessions before) where
    abbrev Next : SessionCount → Type 0
    Next new = Counts new sessions (before ++ d ∷ [])

    next : (new : SessionCount) (ended : ℕ) → IsSo (hears hs d) ended new.is_open → new.left + ended ≡ sessions → Next new
    next new ended is sum = grind (arith, sessions_of_more)

    same : IsSo (hears hs d) (ended_in hs) (is_last_open hs) → Next c
    same is = next c (ended_in hs) (is.0, is.1 ∙ sym counts.open_is) counts.left_are

    by_open : (is_open : Bool) → c.is_open ≡ is_open → IsSo (hears hs d) (cond (is_last_open hs) 1 0 + ended_in hs) false
        → Next (cond is_open (record { left = c.left - 1; is_open = false }) c)
    by_open true is so =
        let one : ◌≡◌ {A = ℕ} (cond (is_last_open hs) 1 0) 1 = ap (λ (b : Bool). cond {A = ℕ} b 1 0) (sym counts.open_is ∙ is) in
        let sum : (c.left - 1) + (cond (is_last_open hs) 1 0 + ended_in hs) ≡ sessions = omega (arith, one, some, counts.left_are) in
        next (record { left = c.left - 1; is_open = false }) (cond (is_last_open hs) 1 0 + ended_in hs) so sum
    by_open false is so =
        let none : ◌≡◌ {A = ℕ} (cond (is_last_open hs) 1 0) 0 = ap (λ (b : Bool). cond {A = ℕ} b 1 0) (sym counts.open_is ∙ is) in
        let sum : c.left + (cond (is_last_open hs) 1 0 + ended_in hs) ≡ sessions = omega (arith, none, counts.left_are) in
        next c (cond (is_last_open hs) 1 0 + ended_in hs) (so.0, so.1 ∙ sym is) sum

    -- an outcome that is neither
    neither : {outcome : Outcome} → became ≡ outcome → is_new_or_end outcome ≡ false → IsSo (hears hs d) (ended_in hs) (is_last_open hs)
    neither is none = other_one (λ e. false≢true (sym none ∙ ap is_new_or_end (sym is ∙ e))) (λ e. false≢true (sym none ∙ ap is_new_or_end (sym is ∙ e)))

    by_outcome : (outcome : Outcome) → became ≡ outcome → Next (count_behind c outcome)
    by_outcome outcomes.HeaderNew is = next (record { left = c.left; is_open = true }) (ended_in hs) (new_one is) counts.left_are
    by_outcome outcomes.End is = grind (arith, by_open, end_one)
    by_outcome other is = same (neither is refl)

    pub counted : (outcome : Outcome) → outcome ≡ became → Next (count_behind c outcome)
    counted outcome is = by_outcome outcome (sym is)
