-- A run that is out stays out, unless its place is asked.
use Rattle.std.proofs.Common.{◌≡◌, ◌⊎◌, ℕ, zero, suc, ◌<◌, ◌≤◌, Bool, true, false, cond, List, [], ◌∷◌, ◌++◌, length, take, refl, ap, sym, ◌∙◌, subst, inl, inr, eqb, eq-eqb, eqb-true, arith}
use Rattle.std.proofs.lemmas.Grind.{flat_map-append}
use Rattle.std.proofs.Math.Seq.{take-length}
use Rattle.std.proofs.lemmas.Bool.{and_from, and_parts}
use Rattle.std.proofs.lemmas.List.Folds.{list_any-append}
use Rattle.std.specs.Prelude.{filter, ◌||◌, ◌==◌, not, Some, None}
use Rattle.std.specs.List.{list_all}
use Rattle.receiver_model.specs.Exchanging.{Exchange, Proposed, Fetched, Withdrawn, Made, exchanged, all_exchanged, not_at, out_at, back_from}
use Rattle.receiver_model.specs.Receptions.{RunOut, Reception}
use Rattle.receiver_model.proofs.OutKept.{takes_dones-out}
use Rattle.link_slices.specs.Calls.{out_exchanged}
use Rattle.std.proofs.lemmas.Option.{slice_get_past}
use Rattle.std.specs.Option.{option_map}
use Rattle.link_slices.specs.Calls.{PlacesAreBelow}
use Rattle.std.specs.Prelude.{slice_get}
use Rattle.link_receiver.specs.Offers.{asked_by, asked_in, asked_at, is_asked, are_asked, proposed_in}

-- ---- one of a list

abbrev pub IsIn : RunOut → List RunOut → Type 0
IsIn x [] = ⊥
IsIn x (y ∷ ys) = (x ≡ y) ⊎ IsIn x ys

in_front : (x : RunOut) (xs ys : List RunOut) → IsIn x xs → IsIn x (xs ++ ys)
in_front x [] ys h = absurd h
in_front x (y ∷ xs) ys (inl e) = inl e
in_front x (y ∷ xs) ys (inr h) = inr (in_front x xs ys h)

in_filter : (p : RunOut → Bool) (x : RunOut) (xs : List RunOut) → p x ≡ true → IsIn x xs
    → IsIn x (filter p xs)
in_filter p x [] e h = absurd h
in_filter p x (y ∷ xs) e (inl same) = rw (ap p (sym same) ∙ e) (inl same)
in_filter p x (y ∷ xs) e (inr h) = grind (arith, in_filter p x xs e h)

in_take_more : (x : RunOut) (k : ℕ) (xs : List RunOut) → IsIn x (take k xs)
    → IsIn x (take (suc k) xs)
in_take_more x zero xs h = absurd h
in_take_more x (suc k) [] h = h
in_take_more x (suc k) (y ∷ xs) (inl e) = inl e
in_take_more x (suc k) (y ∷ xs) (inr h) = inr (in_take_more x k xs h)

-- what a filter leaves of the first ones is among the first ones that it leaves
in_take_filter : (p : RunOut → Bool) (x : RunOut) (k : ℕ) (xs : List RunOut)
    → IsIn x (filter p (take k xs)) → IsIn x (take k (filter p xs))
in_take_filter p x zero xs h = absurd h
in_take_filter p x (suc k) [] h = h
in_take_filter p x (suc k) (y ∷ xs) h =
    by_test (p y) h (in_take_filter p x k xs) (in_take_more x k (filter p xs))
  where
    by_test : (b : Bool) → IsIn x (cond b (y ∷ filter p (take k xs)) (filter p (take k xs)))
        → (IsIn x (filter p (take k xs)) → IsIn x (take k (filter p xs)))
        → (IsIn x (take k (filter p xs)) → IsIn x (take (suc k) (filter p xs)))
        → IsIn x (take (suc k) (cond b (y ∷ filter p xs) (filter p xs)))
    by_test true (inl e) same less = inl e
    by_test true (inr h) same less = inr (same h)
    by_test false h same less = less (same h)

pub at_test : (place : ℕ) (x : RunOut) (b : Bool) → eqb x.place place ≡ b
    → (eqb place x.place ≡ true) ⊎ (not_at place x ≡ true)
at_test place x true e = inl (eq-eqb place x.place (sym (eqb-true x.place place e)))
at_test place x false e = inr (ap not e)

-- ---- asked, or still out

asked_first : (place : ℕ) (rest : List ℕ) (x : RunOut) → eqb place x.place ≡ true
    → is_asked (place ∷ rest) x ≡ true
asked_first place rest x e = rw e refl

pub exchanged-out : (r : Reception) (e : Exchange) → (exchanged r e).out ≡ out_exchanged r.out e
exchanged-out r (Proposed jobs None) = refl
exchanged-out r (Proposed jobs (Some place)) = refl
exchanged-out r (Fetched place None) = refl
exchanged-out r (Fetched place (Some dones)) = takes_dones-out (back_from r place) dones
exchanged-out r (Withdrawn place) = refl
exchanged-out r (Made dones) = takes_dones-out r dones

-- by the exchange and those behind it
abbrev pub AskedOrIn : RunOut → List ℕ → List RunOut → Type 0
AskedOrIn x asked out = (is_asked asked x ≡ true) ⊎ IsIn x out

asked_or_left : (place : ℕ) (out : List RunOut) (x : RunOut) → IsIn x out
    → AskedOrIn x (place ∷ []) (filter (not_at place) out)
asked_or_left place out x h = grind (arith, at_test, asked_first, in_filter)

out_stays : (out : List RunOut) (e : Exchange) (x : RunOut) → IsIn x out
    → AskedOrIn x (asked_by e) (out_exchanged out e)
out_stays out (Proposed jobs None) x h = inr h
out_stays out (Proposed jobs (Some place)) x h = inr (in_front x out (out_at jobs place ∷ []) h)
out_stays out (Fetched place None) x h = inr h
out_stays out (Fetched place (Some dones)) x h = asked_or_left place out x h
out_stays out (Withdrawn place) x h = asked_or_left place out x h
out_stays out (Made dones) x h = inr h

is_asked-append : (a b : List ℕ) (x : RunOut) → is_asked (a ++ b) x
    ≡ (is_asked a x || is_asked b x)
is_asked-append a b x = list_any-append (λ place. place == x.place) a b

asked_front : (a b : List ℕ) (x : RunOut) → is_asked a x ≡ true → is_asked (a ++ b) x ≡ true
asked_front a b x e = is_asked-append a b x ∙ ap (λ (t : Bool). t || is_asked b x) e

asked_back : (a b : List ℕ) (x : RunOut) → is_asked b x ≡ true → is_asked (a ++ b) x ≡ true
asked_back a b x e = grind (arith, is_asked-append)

pub stays : (r : Reception) (es : List Exchange) (x : RunOut) → IsIn x r.out
    → AskedOrIn x (asked_in es) (all_exchanged r es).out
stays r [] x h = inr h
stays r (e ∷ es) x h =
    grind (arith, out_stays, asked_back, asked_front, exchanged-out, stays (exchanged r e) es x)

-- ---- one place after another, from the last to the first

asked_or_left_front : (place : ℕ) (out : List RunOut) (k : ℕ) (x : RunOut) → IsIn x (take k out)
    → AskedOrIn x (place ∷ []) (take k (filter (not_at place) out))
asked_or_left_front place out k x h = by_place (at_test place x (eqb x.place place) refl)
  where
    by_place : (eqb place x.place ≡ true) ⊎ (not_at place x ≡ true)
        → AskedOrIn x (place ∷ []) (take k (filter (not_at place) out))
    by_place (inl here) = inl (asked_first place [] x here)
    by_place (inr there) = inr (in_take_filter (not_at place) x k out
        (in_filter (not_at place) x (take k out) there h))

front_stays : (out : List RunOut) (e : Exchange) (k : ℕ) (x : RunOut)
    → proposed_in (e ∷ []) ≡ [] → IsIn x (take k out)
    → AskedOrIn x (asked_by e) (take k (out_exchanged out e))
front_stays out (Proposed jobs place) k x none h = absurd (cc)
front_stays out (Fetched place None) k x none h = inr h
front_stays out (Fetched place (Some dones)) k x none h = asked_or_left_front place out k x h
front_stays out (Withdrawn place) k x none h = asked_or_left_front place out k x h
front_stays out (Made dones) k x none h = inr h

no_proposal : (e : Exchange) (es : List Exchange) → proposed_in (e ∷ es) ≡ []
    → (proposed_in (e ∷ []) ≡ []) × (proposed_in es ≡ [])
no_proposal (Proposed jobs place) es none = absurd (cc)
no_proposal (Fetched place answer) es none = (refl, none)
no_proposal (Withdrawn place) es none = (refl, none)
no_proposal (Made dones) es none = (refl, none)

pub fronts_stay : (r : Reception) (es : List Exchange) (k : ℕ) (x : RunOut)
    → proposed_in es ≡ [] → IsIn x (take k r.out)
    → AskedOrIn x (asked_in es) (take k (all_exchanged r es).out)
fronts_stay r [] k x none h = inr h
fronts_stay r (e ∷ es) k x none h =
    grind (
      arith,
      front_stays,
      no_proposal,
      asked_back,
      asked_front,
      exchanged-out,
      fronts_stay (exchanged r e) es k x (no_proposal e es none).1,
    )

before_or_at : (out : List RunOut) (i : ℕ) (x : RunOut) → IsIn x (take (suc i) out)
    → IsIn x (take i out) ⊎ (asked_at out i ≡ x.place ∷ [])
before_or_at [] i x h = absurd h
before_or_at (y ∷ out) zero x (inl e) = inr (ap (λ (s : RunOut). s.place ∷ []) (sym e))
before_or_at (y ∷ out) zero x (inr h) = absurd h
before_or_at (y ∷ out) (suc i) x (inl e) = inl (inl e)
before_or_at (y ∷ out) (suc i) x (inr h) = grind (arith, before_or_at out i x h)

own_asked : (x : RunOut) (asked : List ℕ) → asked ≡ x.place ∷ [] → is_asked asked x ≡ true
own_asked x asked e = rw e (asked_first x.place [] x (eq-eqb x.place x.place refl))

-- each was asked, or is among these
abbrev pub AreAskedOrIn : List RunOut → List ℕ → List RunOut → Type 0
AreAskedOrIn old asked left = (x : RunOut) → IsIn x old → AskedOrIn x asked left

-- the place of one more is asked
pub one_asked : (old : List RunOut) (r : Reception) (es more : List Exchange) (k i : ℕ)
    → k ≡ suc i → AreAskedOrIn old (asked_in es) (take k r.out) → proposed_in more ≡ []
    → asked_in more ≡ asked_at r.out i
    → AreAskedOrIn old (asked_in (es ++ more)) (take i (all_exchanged r more).out)
one_asked old r es more k i e h none asked x inside =
    grind (arith, flat_map-append, asked_back, fronts_stay, own_asked, asked_front, before_or_at)

pub none_asked : (out : List RunOut) → AreAskedOrIn out [] (take (length out) out)
none_asked out x inside = inr (subst (IsIn x) (sym (take-length out)) inside)

pub all_asked : (old : List RunOut) (asked : List ℕ) → AreAskedOrIn old asked []
    → list_all (is_asked asked) old ≡ true
all_asked [] asked h = refl
all_asked (y ∷ old) asked h = grind (arith, all_asked old asked)

each_passes : (p : RunOut → Bool) (out : List RunOut) → list_all p out ≡ true
    → (x : RunOut) → IsIn x out → p x ≡ true
each_passes p [] e x h = absurd h
each_passes p (y ∷ out) e x (inl same) = ap p same ∙ (and_parts (p y) (list_all p out) e).0
each_passes p (y ∷ out) e x (inr h) =
    each_passes p out (and_parts (p y) (list_all p out) e).1 x h

-- what was out is asked at last, where all that is out then is
pub asked_then : (r : Reception) (first second : List Exchange)
    → are_asked (all_exchanged r first).out second ≡ true
    → are_asked r.out (first ++ second) ≡ true
asked_then r first second h =
    grind (arith, all_asked, stays, flat_map-append, each_passes, asked_front, asked_back)

-- what is asked is asked where more calls follow
still_asked : (x : RunOut) (first second : List Exchange) → is_asked (asked_in first) x ≡ true
    → is_asked (asked_in (first ++ second)) x ≡ true
still_asked x first second e =
    ap (λ (l : List ℕ). is_asked l x) (flat_map-append asked_by first second)
    ∙ asked_front (asked_in first) (asked_in second) x e

pub asked_before : (out : List RunOut) (first second : List Exchange)
    → are_asked out first ≡ true → are_asked out (first ++ second) ≡ true
asked_before [] first second h = refl
asked_before (x ∷ out) first second h =
    let both = and_parts (is_asked (asked_in first) x) (list_all (is_asked (asked_in first)) out) h in
    and_from _ _ (still_asked x first second both.0) (asked_before out first second both.1)

-- ---- the run at a position

pub asked_past : (out : List RunOut) (i : ℕ) → length out ≤ i → [] ≡ asked_at out i
asked_past out i past = rw (slice_get_past out i past) refl

pub asked_got : (out : List RunOut) (i place : ℕ)
    → option_map (λ (slice : RunOut). slice.place) (slice_get out i) ≡ Some place
    → place ∷ [] ≡ asked_at out i
asked_got out i place e = grind arith

pub below_got : (bound : ℕ) (out : List RunOut) (i place : ℕ) → PlacesAreBelow bound out
    → option_map (λ (slice : RunOut). slice.place) (slice_get out i) ≡ Some place
    → place < bound
below_got bound [] i place h e = absurd (cc)
below_got bound (x ∷ out) zero place h e =
    let same : x.place ≡ place = cc in subst (λ (p : ℕ). p < bound) same h.0
below_got bound (x ∷ out) (suc i) place h e = below_got bound out i place h.1 e
