-- The places that a worker holds, and the slots that are with it.
use Rattle.std.proofs.Common.{◌≡◌, refl, ℕ, ◌+◌, ◌/◌, ◌<◌, ◌≤◌, cond, List, ◌∷◌, ◌++◌, length, sym, ap, ◌∙◌, subst, arith, eqb, eq-eqb, ne_eqb, append_assoc, Some}
use mathlib.Core.Logic.{dite}
use native.Mathlib.Decide.{ℕ_discrete}
use Rattle.vc_slice.specs.declared.run.RunDone.{RunDone}
use Rattle.vc_slice.specs.declared.run.RunJob.{RunJob}
use Rattle.vc_slice.specs.declared.run.RunLoad.{RunLoad}
use Rattle.link_slices.specs.Jobs.{jobs_of_run}
use Rattle.machine_model.specs.Places.{state_number}
use Rattle.claim_board.specs.RunPlaces.{Content, Nothing, Offered, Claimed, Decoded, RunPlace, place_at, state_of}
use Rattle.claim_board.specs.Counts.{held_count, occurrences}
use Rattle.claim_board.specs.History.{entry_of, word_of, places_after, IsHistory, Continues, IsOtherOrRead}
use Rattle.claim_board.specs.Views.{SeatView, DidOnce, DidAtLast, Holds, content_at}
use Rattle.claim_board.specs.declared.view.Entry.{Entry}
use Rattle.claim_board.specs.declared.view.Deed.{Deed}
use Rattle.claim_board.specs.declared.view.Deed.TheVariants.{WasRead, WasClaimed, WasCompleted}
use Rattle.atomic_table.specs.Table.{rest}
use Rattle.claim_board.specs.Rule.{Slot}
use Rattle.claim_board.specs.declared.cargo.Cargo.TheVariants.{Waiting}
use Rattle.claim_board.proofs.Idle.{few}
use Rattle.claim_board.proofs.Histories.{claim_here, complete_here, count_same, each_append, elsewhere, number_at, other_or_read, up, within}
use Rattle.claim_board.proofs.Sums.{occurrences-cons}

pub held_once : (me : ℕ) (c : Content) → held_count me c ≤ 1
held_once me (Claimed w j) = dite (ℕ_discrete w me) (λ e. rw (eq-eqb w me e) (omega arith)) (λ ne. rw (ne_eqb w me ne) (omega arith))
held_once me c = omega arith

-- ---- steps in a row

-- one step makes the last one
pub at_last : (p : ℕ) (v w : SeatView) (d : Deed) → DidOnce v w d → DidAtLast p v w d
at_last p v w d h = record { log = h.log; since = (h.since.0, h.since.1, other_or_read v.number p h.since.0 h.since.2); run = h.run; view = h.view }

-- a step after a word was read
pub reads_then : (p word : ℕ) (u v w : SeatView) (d : Deed) → DidAtLast p u v (WasRead p word) → DidOnce v w d → DidAtLast p u w d
reads_then p word u v w d a b =
    let P : SeatView → Type 0 = λ x. DidOnce x w d → DidAtLast p u w d in
    subst P (sym a.view) (λ h. record {
      log = h.log;
      since = (
        h.since.0 ++ entry_of u.number (WasRead p word) ∷ a.since.0,
        h.since.1 ∙ (ap (λ l. h.since.0 ++ entry_of u.number (WasRead p word) ∷ l) a.since.1 ∙ sym (append_assoc h.since.0 (entry_of u.number (WasRead p word) ∷ a.since.0) u.history)),
        each_append (IsOtherOrRead u.number p) h.since.0 (entry_of u.number (WasRead p word) ∷ a.since.0) (other_or_read u.number p h.since.0 h.since.2) ((λ same. (word, refl)), a.since.2),
      );
      run = h.run;
      view = h.view;
    }) b

abbrev load_in : RunLoad → List (ℕ × Slot) → RunLoad
load_in other ((p, Some (Waiting t load)) ∷ r) = load
load_in other r = other

-- a claim after a word was read, whose run the slot has
pub claims_then : (p word t : ℕ) (load own : RunLoad) (u v w x : SeatView) (r slots : List (ℕ × Slot)) → DidAtLast p u v (WasRead p word) → DidOnce v w (WasClaimed p t own.job)
    → slots ≡ (p, Some (Waiting t own)) ∷ r → slots ≡ (p, Some (Waiting t load)) ∷ rest slots → x ≡ w → DidAtLast p u x (WasClaimed p t load.job)
claims_then p word t load own u v w x r slots a b mine its same =
    let e : own ≡ load = ap (load_in own) (sym mine ∙ its) in
    subst (λ (y : SeatView). DidAtLast p u y (WasClaimed p t load.job)) (sym same) (subst (λ (l : RunLoad). DidAtLast p u w (WasClaimed p t l.job)) e (reads_then p word u v w (WasClaimed p t own.job) a b))

-- what the seat read last stands there in its view
pub read_last : (p word : ℕ) (v w : SeatView) → DidAtLast p v w (WasRead p word) → word_of (place_at (places_after w.places w.history) p) ≡ word
read_last p word v w a = subst (λ (x : SeatView). word_of (place_at (places_after x.places x.history) p) ≡ word) (sym a.view) (sym a.run.0)

-- no later word has a lower serial
pub no_earlier : (p tried found : ℕ) (v w : SeatView) → word_of (place_at (places_after v.places v.history) p) ≡ tried → DidOnce v w (WasRead p found) → tried / 4 ≤ found / 4
no_earlier p tried found v w was a =
    let more = up v.places a.since.0 v.history p in
    let now : found ≡ word_of (place_at (places_after v.places (a.since.0 ++ v.history)) p) = a.run.0 ∙ ap (λ (l : List Entry). word_of (place_at (places_after v.places l) p)) a.since.1 in
    serials (place_at (places_after v.places v.history) p) (place_at (places_after v.places (a.since.0 ++ v.history)) p) was now more
  where
    small : (c : Content) → state_number (state_of c) < 4
    small Nothing = omega arith
    small (Offered j) = omega arith
    small (Claimed w j) = omega arith
    small (Decoded d) = omega arith

    serials : (x y : RunPlace) → word_of x ≡ tried → found ≡ word_of y → x.serial ≤ y.serial → tried / 4 ≤ found / 4
    serials x y a b up = let k = small x.content in let l = small y.content in omega arith

-- ---- what is held

-- the seat's counts, upon what it knew
upon : (p : ℕ) (v : SeatView) (log : List Entry) (q : ℕ) → Continues (IsOtherOrRead v.number p) log v.history → IsHistory v.places log
    → held_count v.number (place_at (places_after v.places log) q).content ≡ held_count v.number (content_at v q)
upon p v log q since run =
    ap (λ (l : List Entry). held_count v.number (place_at (places_after v.places l) q).content) since.1
    ∙ count_same v.places v.number p since.0 v.history q (subst (IsHistory v.places) since.1 run) since.2

-- a word that was read: all is held as it was
pub held_read : (p word : ℕ) (v w : SeatView) (q : ℕ) → DidAtLast p v w (WasRead p word) → held_count w.number (content_at w q) ≡ held_count v.number (content_at v q)
held_read p word v w q a = subst (λ (x : SeatView). held_count x.number (content_at x q) ≡ held_count v.number (content_at v q)) (sym a.view) (upon p v a.log q a.since a.run.1)

-- a claim: the place wasn't held, and now is
pub claimed_holds : (p t : ℕ) (job : RunJob) (v w : SeatView) → DidAtLast p v w (WasClaimed p t job) → Holds w p t job
claimed_holds p t job v w a =
    let ps = places_after v.places a.log in
    let one : number_at ps p ≡ 1 = ap (λ (x : RunPlace). state_number (state_of x.content)) a.run.0 in
    subst (λ (x : SeatView). Holds x p t job) (sym a.view) (claim_here ps p t v.number (jobs_of_run job) (within ps p (omega arith)) a.run.0)

pub not_held_yet : (p t : ℕ) (job : RunJob) (v w : SeatView) → DidAtLast p v w (WasClaimed p t job) → held_count v.number (content_at v p) ≡ 0
not_held_yet p t job v w a = sym (upon p v a.log p a.since a.run.1) ∙ ap (λ (x : RunPlace). held_count v.number x.content) a.run.0

pub held_claimed : (p t : ℕ) (job : RunJob) (v w : SeatView) (q : ℕ) (xs : List ℕ) → DidAtLast p v w (WasClaimed p t job) → ((k : ℕ) → occurrences k xs ≡ held_count v.number (content_at v k))
    → occurrences q (p ∷ xs) ≡ held_count w.number (content_at w q)
held_claimed p t job v w q xs a same = rw (occurrences-cons q p xs) (dite (ℕ_discrete p q)
    (λ e. let mine : held_count w.number (content_at w p) ≡ 1 = ap (λ (x : RunPlace). held_count w.number x.content) (claimed_holds p t job v w a) ∙ (rw (eq-eqb w.number w.number refl) refl) in
    let none : occurrences p xs ≡ 0 = same p ∙ not_held_yet p t job v w a in
    subst (λ (k : ℕ). cond (eqb p k) 1 0 + occurrences k xs ≡ held_count w.number (content_at w k)) e (rw (eq-eqb p p refl, none) (sym mine)))
    (λ ne. let chain = same q ∙ (sym (upon p v a.log q a.since a.run.1)
    ∙ (sym (ap (λ (x : RunPlace). held_count v.number x.content) (elsewhere (places_after v.places a.log) v.number (WasClaimed p t job) q (λ e. ne (sym e))))
    ∙ subst (λ (x : SeatView). held_count v.number (place_at (places_after v.places (entry_of v.number (WasClaimed p t job) ∷ a.log)) q).content ≡ held_count x.number (content_at x q)) (sym a.view) refl)) in rw (ne_eqb p q ne) (omega arith)))

-- a completion: the place is held no more
pub held_completed : (p t : ℕ) (done : RunDone) (v w : SeatView) (q : ℕ) (xs ys : List ℕ) → DidOnce v w (WasCompleted p t done) → occurrences q xs ≡ cond (eqb p q) 1 0 + occurrences q ys
    → ((k : ℕ) → occurrences k xs ≡ held_count v.number (content_at v k)) → occurrences q ys ≡ held_count w.number (content_at w q)
held_completed p t done v w q xs ys b less same =
    let a = at_last p v w (WasCompleted p t done) b in
    let ps = places_after v.places a.log in
    let two : number_at ps p ≡ 2 = ap (λ (x : RunPlace). state_number (state_of x.content)) a.run.0 in
    let now : held_count v.number (place_at (places_after v.places (entry_of v.number (WasCompleted p t done) ∷ a.log)) q).content ≡ held_count w.number (content_at w q) =
    subst (λ (x : SeatView). held_count v.number (place_at (places_after v.places (entry_of v.number (WasCompleted p t done) ∷ a.log)) q).content ≡ held_count x.number (content_at x q)) (sym a.view) refl in
    dite (ℕ_discrete p q)
    (λ e. let here = complete_here ps p t v.number (jobs_of_run done.job) (within ps p (omega arith)) a.run.0 in
    let none : held_count v.number (place_at (places_after v.places (entry_of v.number (WasCompleted p t done) ∷ a.log)) q).content ≡ 0 =
    subst (λ (k : ℕ). held_count v.number (place_at (places_after v.places (entry_of v.number (WasCompleted p t done) ∷ a.log)) k).content ≡ 0) e (ap (λ (x : RunPlace). held_count v.number x.content) here) in
    let most = held_once v.number (content_at v q) in
    let all = same q in
    let one : cond {A = ℕ} (eqb p q) 1 0 ≡ 1 = (rw (eq-eqb p q e) refl) in
    let zero : occurrences q ys ≡ 0 = omega arith in
    zero ∙ (sym none ∙ now))
    (λ ne. let none : cond {A = ℕ} (eqb p q) 1 0 ≡ 0 = (rw (ne_eqb p q ne) refl) in
    let rest : occurrences q ys ≡ occurrences q xs = omega arith in
    rest ∙ (same q ∙ (sym (upon p v a.log q a.since a.run.1)
    ∙ (sym (ap (λ (x : RunPlace). held_count v.number x.content) (elsewhere ps v.number (WasCompleted p t done) q (λ e. ne (sym e)))) ∙ now))))

-- ---- the slots of a worker

pub below_more : (p q places : ℕ) (xs : List ℕ) → p < places → places ≤ q → occurrences q xs ≡ 0 → occurrences q (p ∷ xs) ≡ 0
below_more p q places xs h past none = rw (occurrences-cons q p xs, ne_eqb p q (λ e. omega arith)) (omega arith)

once_more : (p q : ℕ) (xs : List ℕ) → occurrences p xs ≡ 0 → occurrences q xs ≤ 1 → occurrences q (p ∷ xs) ≤ 1
once_more p q xs none once = dite (ℕ_discrete p q)
    (λ e. let here : occurrences q xs ≡ 0 = ap (λ (k : ℕ). occurrences k xs) (sym e) ∙ none in rw (occurrences-cons q p xs, eq-eqb p q e) (omega arith))
    (λ ne. rw (occurrences-cons q p xs, ne_eqb p q ne) (omega arith))

pub room_for_one : (p places most : ℕ) (xs : List ℕ) (v : SeatView) → ((q : ℕ) → occurrences q xs ≡ held_count v.number (content_at v q)) → ((q : ℕ) → places ≤ q → occurrences q xs ≡ 0) → held_count v.number (content_at v p) ≡ 0 → p < places → places ≤ most → length xs < most
room_for_one p places most xs v same below none h room =
    let l = few places (p ∷ xs) (λ q past. below_more p q places xs h past (below q past)) (λ q. once_more p q xs (same p ∙ none) (let k = held_once v.number (content_at v q) in let e = same q in omega arith)) in
    omega arith

pub below_less : (p q : ℕ) (old new : List ℕ) → occurrences q old ≡ cond (eqb p q) 1 0 + occurrences q new → occurrences q old ≡ 0 → occurrences q new ≡ 0
below_less p q old new e h = omega arith

-- the slot of a place that is held is with the seat
pub held_slot : (p t : ℕ) (job : RunJob) (v : SeatView) (xs : List ℕ) → Holds v p t job → occurrences p xs ≡ held_count v.number (content_at v p) → 0 < occurrences p xs
held_slot p t job v xs holds same =
    let mine : held_count v.number (content_at v p) ≡ 1 = ap (λ (x : RunPlace). held_count v.number x.content) holds ∙ (rw (eq-eqb v.number v.number refl) refl) in
    omega arith
