-- Each round of a place has one claim at most.
use Rattle.std.proofs.Common.{◌≡◌, ℕ, ◌+◌, ◌*◌, ◌≤◌, ◌⊎◌, Bool, true, false, cond, List, [], ◌∷◌, length, refl, sym, ap, ◌∙◌, subst, ⊎_elim, inl, inr, arith, eqb, ltb}
use Rattle.std.proofs.lemmas.Bool.{and_parts, eqb-true, ltb-true, false≢true}
use Rattle.std.proofs.lemmas.List.Sums.{sum_by-cons}
use mathlib.Core.Logic.{dite}
use native.Mathlib.Decide.{ℕ_discrete}
use Rattle.link_slices.specs.Jobs.{jobs_of_run}
use Rattle.machine_model.specs.Places.{state_number}
use Rattle.claim_board.specs.RunPlaces.{Content, Nothing, Offered, Claimed, Decoded, RunPlace, place_at, is_free, state_of}
use Rattle.claim_board.specs.declared.view.Entry.{Entry}
use Rattle.claim_board.specs.declared.view.Deed.{Deed}
use Rattle.claim_board.specs.declared.view.Deed.TheVariants.{WasPut, WasClaimed, WasCompleted, WasTaken, WasWithdrawn}
use Rattle.claim_board.specs.History.{after_deed, deed_place, places_after, IsHistory, MayDo}
use Rattle.claim_board.specs.Laws.{claims_in, is_claim}
use Rattle.claim_board.proofs.Histories.{claim_here, complete_here, elsewhere, empty_of_put, free_here, put_here, there}

-- how far a place came: an empty one is past its round
abbrev stage : Content → ℕ
stage (Offered job) = 1
stage (Claimed seat job) = 2
stage (Decoded done) = 3
stage Nothing = 4

abbrev progress : RunPlace → ℕ
progress p = 4 * p.serial + stage p.content

stage_empty : (c : Content) → state_number (state_of c) ≡ 0 → stage c ≡ 4
stage_empty Nothing e = refl
stage_empty c e = absurd (omega arith)

up_here : (ps : List RunPlace) (seat : ℕ) (d : Deed) → MayDo ps seat d → progress (place_at ps (deed_place d)) ≤ progress (place_at (after_deed ps seat d) (deed_place d))
up_here ps seat (WasPut p job) may =
    let h = ltb-true p (length ps) (and_parts (ltb p (length ps)) (is_free (place_at ps p)) may).0 in
    let was = stage_empty (place_at ps p).content (empty_of_put ps p may) in
    let now = ap progress (put_here ps p (place_at ps p).serial (place_at ps p).content (jobs_of_run job) h refl) in
    omega arith
up_here ps seat (WasClaimed p t job) may = omega (arith, ap progress may, ap progress (claim_here ps p t seat (jobs_of_run job) (there ps p t _ may (omega arith)) may))
up_here ps seat (WasCompleted p t done) may = omega (arith, ap progress may, ap progress (complete_here ps p t seat (jobs_of_run done.job) (there ps p t _ may (omega arith)) may))
up_here ps seat (WasTaken p t done) may = omega (arith, ap progress may, ap progress (free_here ps p t _ (there ps p t _ may (omega arith)) may))
up_here ps seat (WasWithdrawn p t job) may = omega (arith, ap progress may, ap progress (free_here ps p t _ (there ps p t _ may (omega arith)) may))
up_here ps seat d may = omega arith

up_deed : (ps : List RunPlace) (seat : ℕ) (d : Deed) (q : ℕ) → MayDo ps seat d → progress (place_at ps q) ≤ progress (place_at (after_deed ps seat d) q)
up_deed ps seat d q may = dite (ℕ_discrete q (deed_place d))
    (λ e. subst (λ (k : ℕ). progress (place_at ps k) ≤ progress (place_at (after_deed ps seat d) k)) (sym e) (up_here ps seat d may))
    (λ ne. let same = ap progress (elsewhere ps seat d q ne) in omega arith)

-- a claim of this round is the step from waiting to held
claim_step : (ps : List RunPlace) (seat : ℕ) (d : Deed) (p t : ℕ) → is_claim p t d ≡ true → MayDo ps seat d → (progress (place_at ps p) ≡ 4 * t + 1) × (progress (place_at (after_deed ps seat d) p) ≡ 4 * t + 2)
claim_step ps seat (WasClaimed q u job) p t is may =
    let same = and_parts (eqb q p) (eqb u t) is in
    let e = eqb-true q p same.0 in
    let f = eqb-true u t same.1 in
    let was = ap progress may in
    let now = ap progress (claim_here ps q u seat (jobs_of_run job) (there ps q u _ may (omega arith)) may) in
    subst (λ (k : ℕ). (progress (place_at ps k) ≡ 4 * t + 1) × (progress (place_at (after_deed ps seat (WasClaimed q u job)) k) ≡ 4 * t + 2)) e (omega arith, omega arith)
claim_step ps seat d p t is may = absurd (false≢true is)

-- none yet, or one and the place is past it
once : (n p t : ℕ) (h : List Entry) → IsHistory n h → (claims_in p t h ≡ 0) ⊎ ((claims_in p t h ≡ 1) × (4 * t + 2 ≤ progress (place_at (places_after n h) p)))
once n p t [] run = inl refl
once n p t (e ∷ h) run = by_test (once n p t h run.1) (is_claim p t e.deed) refl
  where
    counted : claims_in p t (e ∷ h) ≡ cond (is_claim p t e.deed) 1 0 + claims_in p t h
    counted = sum_by-cons (λ (x : Entry). cond (is_claim p t x.deed) 1 0) e h

    by_test : (claims_in p t h ≡ 0) ⊎ ((claims_in p t h ≡ 1) × (4 * t + 2 ≤ progress (place_at (places_after n h) p))) → (b : Bool) → is_claim p t e.deed ≡ b → (claims_in p t (e ∷ h) ≡ 0) ⊎ ((claims_in p t (e ∷ h) ≡ 1) × (4 * t + 2 ≤ progress (place_at (places_after n (e ∷ h)) p)))
    by_test before true is =
        let c : claims_in p t (e ∷ h) ≡ 1 + claims_in p t h = counted ∙ ap (λ b. cond b 1 0 + claims_in p t h) is in
        let k = claim_step (places_after n h) e.seat e.deed p t is run.0 in
        ⊎_elim (λ none. inr (omega arith, omega arith)) (λ one. let past = one.1 in absurd (omega arith)) before
    by_test before false is =
        let c : claims_in p t (e ∷ h) ≡ 0 + claims_in p t h = counted ∙ ap (λ b. cond b 1 0 + claims_in p t h) is in
        let k = up_deed (places_after n h) e.seat e.deed p run.0 in
        ⊎_elim (λ none. inl (omega arith)) (λ one. let past = one.1 in let i = one.0 in inr (omega arith, omega arith)) before

pub one_claim : (n p t : ℕ) (h : List Entry) → IsHistory n h → claims_in p t h ≤ 1
one_claim n p t h run = ⊎_elim (λ none. omega arith) (λ one. let i = one.0 in omega arith) (once n p t h run)
