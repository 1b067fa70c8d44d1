-- Histories of a board, and where they lead.
use Rattle.std.proofs.Common.{◌≡◌, ◌≢◌, ℕ, zero, suc, ◌+◌, ◌^◌, ◌<◌, ◌≤◌, true, List, [], ◌∷◌, ◌++◌, length, map, set, sym, refl, ap, ◌∙◌, subst, arith, length-set, get_or-set_other, get_or-set_same, ltb, eq-eqb, ne_eqb}
use Rattle.machine_model.specs.declared.place_state.PlaceState.TheVariants.{Empty}
use Rattle.std.proofs.lemmas.Bool.{and_parts, and_from, eqb-true, ltb-true, lt-ltb}
use Rattle.std.proofs.lemmas.List.{length-replicate}
use mathlib.Core.Logic.{dite}
use native.Mathlib.Decide.{ℕ_discrete}
use Rattle.machine_model.specs.Places.{Job, state_number, own_answer}
use Rattle.claim_board.specs.RunPlaces.{Content, Nothing, Offered, Claimed, Decoded, RunPlace, place_at, state_of, unused_place, may_put, puts_run, claims_run, claimed_by, completes_run, decoded_there, frees_place, is_free, is_in}
use Rattle.link_slices.specs.Jobs.{jobs_of_run}
use Rattle.claim_board.specs.declared.view.Entry.{Entry}
use Rattle.claim_board.specs.declared.view.Deed.{Deed}
use Rattle.claim_board.specs.declared.view.Deed.TheVariants.{WasRead, WasPut, WasClaimed, WasCompleted, WasTaken, WasWithdrawn}
use Rattle.claim_board.specs.Counts.{held_count}
use Rattle.claim_board.specs.History.{deed_place, after_deed, standing, MayDo, places_after, IsHistory, Each, IsOther, IsOtherOrRead}

-- ---- one deed

pub length_deed : (ps : List RunPlace) (seat : ℕ) (d : Deed) → length (after_deed ps seat d) ≡ length ps
length_deed ps seat (WasPut p job) = length-set ps p _
length_deed ps seat (WasClaimed p t job) = length-set ps p _
length_deed ps seat (WasCompleted p t done) = grind (arith, length-set)
length_deed ps seat (WasTaken p t done) = length-set ps p _
length_deed ps seat (WasWithdrawn p t job) = length-set ps p _
length_deed ps seat d = refl

pub length_after : (n : ℕ) (h : List Entry) → length (places_after n h) ≡ n
length_after n [] = length-replicate n unused_place
length_after n (e ∷ h) = length_deed (places_after n h) e.seat e.deed ∙ length_after n h

-- another place stays as it is
pub elsewhere : (ps : List RunPlace) (seat : ℕ) (d : Deed) (q : ℕ) → q ≢ deed_place d → place_at (after_deed ps seat d) q ≡ place_at ps q
elsewhere ps seat (WasPut p job) q ne = get_or-set_other ps p q _ unused_place ne
elsewhere ps seat (WasClaimed p t job) q ne = get_or-set_other ps p q _ unused_place ne
elsewhere ps seat (WasCompleted p t done) q ne = grind (arith, get_or-set_other)
elsewhere ps seat (WasTaken p t done) q ne = get_or-set_other ps p q _ unused_place ne
elsewhere ps seat (WasWithdrawn p t job) q ne = get_or-set_other ps p q _ unused_place ne
elsewhere ps seat d q ne = refl

-- ---- at the place itself

pub put_here : (ps : List RunPlace) (p t : ℕ) (c : Content) (j : List Job) → p < length ps → place_at ps p ≡ standing t c → place_at (puts_run ps p j) p ≡ standing (t + 1) (Offered j)
put_here ps p t c j h e = get_or-set_same ps p _ unused_place h ∙ ap (λ (x : RunPlace). standing (x.serial + 1) (Offered j)) e

pub claim_here : (ps : List RunPlace) (p t seat : ℕ) (j : List Job) → p < length ps → place_at ps p ≡ standing t (Offered j) → place_at (claims_run ps seat p) p ≡ standing t (Claimed seat j)
claim_here ps p t seat j h e = get_or-set_same ps p _ unused_place h ∙ ap (λ (x : RunPlace). standing x.serial (claimed_by seat x.content)) e

pub complete_here : (ps : List RunPlace) (p t seat : ℕ) (j : List Job) → p < length ps → place_at ps p ≡ standing t (Claimed seat j) → place_at (completes_run ps p t) p ≡ standing t (Decoded (map own_answer j))
complete_here ps p t seat j h e = rw (eq-eqb (place_at ps p).serial t (ap (λ (x : RunPlace). x.serial) e))
    (get_or-set_same ps p _ unused_place h ∙ ap (λ (x : RunPlace). standing x.serial (decoded_there x.content)) e)

pub free_here : (ps : List RunPlace) (p t : ℕ) (c : Content) → p < length ps → place_at ps p ≡ standing t c → place_at (frees_place ps p) p ≡ standing t Nothing
free_here ps p t c h e = get_or-set_same ps p _ unused_place h ∙ ap (λ (x : RunPlace). standing x.serial Nothing) e

-- ---- what others do not change

abbrev pub number_at : List RunPlace → ℕ → ℕ
number_at ps p = state_number (state_of (place_at ps p).content)

pub empty_of_put : (ps : List RunPlace) (p : ℕ) → may_put ps p ≡ true → number_at ps p ≡ 0
empty_of_put ps p e = eqb-true (number_at ps p) 0 (and_parts (is_in Empty (place_at ps p)) (ltb (place_at ps p).serial (2 ^ 61)) (and_parts (ltb p (length ps)) (is_free (place_at ps p)) e).1).0

pub may_put_at : (ps : List RunPlace) (p t : ℕ) → p < length ps → place_at ps p ≡ standing t Nothing → t < 2 ^ 61 → may_put ps p ≡ true
may_put_at ps p t h e small =
    let one : number_at ps p ≡ 0 = ap (λ (x : RunPlace). state_number (state_of x.content)) e in
    let two : (place_at ps p).serial < 2 ^ 61 = (let k = ap (λ (x : RunPlace). x.serial) e in omega arith) in
    and_from _ _ (lt-ltb p (length ps) h) (and_from _ _ (eq-eqb (number_at ps p) 0 one) (lt-ltb (place_at ps p).serial (2 ^ 61) two))

pub state_is : (ps : List RunPlace) (p t : ℕ) (c : Content) → place_at ps p ≡ standing t c → number_at ps p ≡ state_number (state_of c)
state_is ps p t c e = ap (λ (x : RunPlace). state_number (state_of x.content)) e

abbrev holder : Content → ℕ
holder (Claimed seat job) = seat
holder c = 0

-- a place that a seat holds isn't what another seat's deed says of its place
not_held : (ps : List RunPlace) (seat me : ℕ) (d : Deed) (t : ℕ) (j : List Job) → MayDo ps seat d → seat ≢ me → place_at ps (deed_place d) ≡ standing t (Claimed me j)
    → place_at (after_deed ps seat d) (deed_place d) ≡ standing t (Claimed me j)
not_held ps seat me (WasPut p job) t j may ne e = absurd (let a = state_is ps p t _ e in let b = empty_of_put ps p may in omega arith)
not_held ps seat me (WasClaimed p u job) t j may ne e = absurd (let a = state_is ps p t _ e in let b = state_is ps p u _ may in omega arith)
not_held ps seat me (WasCompleted p u done) t j may ne e = absurd (ne (ap (λ (x : RunPlace). holder x.content) (sym may ∙ e)))
not_held ps seat me (WasTaken p u done) t j may ne e = absurd (let a = state_is ps p t _ e in let b = state_is ps p u _ may in omega arith)
not_held ps seat me (WasWithdrawn p u job) t j may ne e = absurd (let a = state_is ps p t _ e in let b = state_is ps p u _ may in omega arith)
not_held ps seat me d t j may ne e = e

stays : (ps : List RunPlace) (seat me : ℕ) (d : Deed) (q t : ℕ) (j : List Job) → MayDo ps seat d → seat ≢ me → place_at ps q ≡ standing t (Claimed me j)
    → place_at (after_deed ps seat d) q ≡ standing t (Claimed me j)
stays ps seat me d q t j may ne e = dite (ℕ_discrete q (deed_place d))
    (λ eq. subst (λ (k : ℕ). place_at (after_deed ps seat d) k ≡ standing t (Claimed me j)) (sym eq) (not_held ps seat me d t j may ne (subst (λ (k : ℕ). place_at ps k ≡ standing t (Claimed me j)) eq e)))
    (λ n. elsewhere ps seat d q n ∙ e)

-- what a seat holds stays while others step
pub stays_held : (n me : ℕ) (more known : List Entry) (q t : ℕ) (j : List Job) → IsHistory n (more ++ known) → Each (IsOther me) more → place_at (places_after n known) q ≡ standing t (Claimed me j)
    → place_at (places_after n (more ++ known)) q ≡ standing t (Claimed me j)
stays_held n me [] known q t j run others e = e
stays_held n me (x ∷ more) known q t j run others e = stays (places_after n (more ++ known)) x.seat me x.deed q t j run.0 others.0 (stays_held n me more known q t j run.1 others.1 e)

-- ---- how often a seat holds a place

abbrev tag : Deed → ℕ
tag (WasRead p w) = 0
tag d = 1

held_none : (me : ℕ) (c : Content) → state_number (state_of c) ≢ 2 → held_count me c ≡ 0
held_none me (Claimed w j) ne = absurd (ne refl)
held_none me c ne = refl

held_other : (me w t : ℕ) (j : List Job) (x : RunPlace) → x ≡ standing t (Claimed w j) → w ≢ me → held_count me x.content ≡ 0
held_other me w t j x e ne = ap (λ (y : RunPlace). held_count me y.content) e ∙ (rw (ne_eqb w me ne) refl)

-- a list is the same past its end
pub within : (ps : List RunPlace) (p : ℕ) → 0 < number_at ps p → p < length ps
within [] p h = absurd (omega arith)
within (x ∷ xs) zero h = omega arith
within (x ∷ xs) (suc p) h = let k = within xs p h in omega arith

pub there : (ps : List RunPlace) (p t : ℕ) (c : Content) → place_at ps p ≡ standing t c → 0 < state_number (state_of c) → p < length ps
there ps p t c e some = within ps p (omega (arith, state_is ps p t c e, some))

count_here : (ps : List RunPlace) (seat me : ℕ) (d : Deed) → MayDo ps seat d → (0 < tag d → seat ≢ me)
    → held_count me (place_at (after_deed ps seat d) (deed_place d)).content ≡ held_count me (place_at ps (deed_place d)).content
count_here ps seat me (WasPut p job) may ne =
    let h = ltb-true p (length ps) (and_parts (ltb p (length ps)) (is_free (place_at ps p)) may).0 in
    let a = empty_of_put ps p may in
    ap (λ (x : RunPlace). held_count me x.content) (put_here ps p (place_at ps p).serial (place_at ps p).content (jobs_of_run job) h refl) ∙ sym (held_none me (place_at ps p).content (λ e. omega arith))
count_here ps seat me (WasClaimed p t job) may ne =
    held_other me seat t (jobs_of_run job) _ (claim_here ps p t seat (jobs_of_run job) (there ps p t _ may (omega arith)) may) (ne (omega arith)) ∙ sym (held_none me (place_at ps p).content (λ e. omega (arith, state_is ps p t _ may, e)))
count_here ps seat me (WasCompleted p t done) may ne =
    ap (λ (x : RunPlace). held_count me x.content) (complete_here ps p t seat (jobs_of_run done.job) (there ps p t _ may (omega arith)) may) ∙ sym (held_other me seat t (jobs_of_run done.job) _ may (ne (omega arith)))
count_here ps seat me (WasTaken p t done) may ne =
    ap (λ (x : RunPlace). held_count me x.content) (free_here ps p t _ (there ps p t _ may (omega arith)) may) ∙ sym (held_none me (place_at ps p).content (λ e. omega (arith, state_is ps p t _ may, e)))
count_here ps seat me (WasWithdrawn p t job) may ne =
    ap (λ (x : RunPlace). held_count me x.content) (free_here ps p t _ (there ps p t _ may (omega arith)) may) ∙ sym (held_none me (place_at ps p).content (λ e. omega (arith, state_is ps p t _ may, e)))
count_here ps seat me d may ne = refl

count_deed : (ps : List RunPlace) (seat me : ℕ) (d : Deed) (q : ℕ) → MayDo ps seat d → (0 < tag d → seat ≢ me)
    → held_count me (place_at (after_deed ps seat d) q).content ≡ held_count me (place_at ps q).content
count_deed ps seat me d q may ne = dite (ℕ_discrete q (deed_place d))
    (λ eq. subst (λ (k : ℕ). held_count me (place_at (after_deed ps seat d) k).content ≡ held_count me (place_at ps k).content) (sym eq) (count_here ps seat me d may ne))
    (λ n. ap (λ (x : RunPlace). held_count me x.content) (elsewhere ps seat d q n))

pub count_same : (n me p : ℕ) (more known : List Entry) (q : ℕ) → IsHistory n (more ++ known) → Each (IsOtherOrRead me p) more
    → held_count me (place_at (places_after n (more ++ known)) q).content ≡ held_count me (place_at (places_after n known) q).content
count_same n me p [] known q run others = refl
count_same n me p (x ∷ more) known q run others =
    count_deed (places_after n (more ++ known)) x.seat me x.deed q run.0 (λ pos same. let r = others.0 same in absurd (let z : tag x.deed ≡ 0 = ap tag r.1 in omega arith))
    ∙ count_same n me p more known q run.1 others.1

pub other_or_read : (me p : ℕ) (more : List Entry) → Each (IsOther me) more → Each (IsOtherOrRead me p) more
other_or_read me p [] others = tt
other_or_read me p (x ∷ more) others = ((λ same. absurd (others.0 same)), other_or_read me p more others.1)

-- ---- serials rise

up_set : (ps : List RunPlace) (p q : ℕ) (x : RunPlace) → (place_at ps p).serial ≤ x.serial → (place_at ps q).serial ≤ (place_at (set ps p x) q).serial
up_set [] p q x h = omega arith
up_set (y ∷ ys) zero zero x h = h
up_set (y ∷ ys) zero (suc q) x h = omega arith
up_set (y ∷ ys) (suc p) zero x h = omega arith
up_set (y ∷ ys) (suc p) (suc q) x h = up_set ys p q x h

up_deed : (ps : List RunPlace) (seat : ℕ) (d : Deed) (q : ℕ) → (place_at ps q).serial ≤ (place_at (after_deed ps seat d) q).serial
up_deed ps seat (WasPut p job) q = up_set ps p q _ (omega arith)
up_deed ps seat (WasClaimed p t job) q = up_set ps p q _ (omega arith)
up_deed ps seat (WasCompleted p t done) q = dite (ℕ_discrete (place_at ps p).serial t)
    (λ e. rw (eq-eqb (place_at ps p).serial t e) (up_set ps p q _ (omega arith)))
    (λ ne. rw (ne_eqb (place_at ps p).serial t ne) (omega arith))
up_deed ps seat (WasTaken p t done) q = up_set ps p q _ (omega arith)
up_deed ps seat (WasWithdrawn p t job) q = up_set ps p q _ (omega arith)
up_deed ps seat d q = omega arith

pub up : (n : ℕ) (more known : List Entry) (q : ℕ) → (place_at (places_after n known) q).serial ≤ (place_at (places_after n (more ++ known)) q).serial
up n [] known q = omega arith
up n (x ∷ more) known q = let a = up n more known q in let b = up_deed (places_after n (more ++ known)) x.seat x.deed q in omega arith

-- ---- lists of entries

pub each_append : (P : Entry → Type 0) (xs ys : List Entry) → Each P xs → Each P ys → Each P (xs ++ ys)
each_append P [] ys a b = b
each_append P (x ∷ xs) ys a b = (a.0, each_append P xs ys a.1 b)

pub each_more : (P Q : Entry → Type 0) (xs : List Entry) → ((x : Entry) → P x → Q x) → Each P xs → Each Q xs
each_more P Q [] f a = tt
each_more P Q (x ∷ xs) f a = (f x a.0, each_more P Q xs f a.1)
