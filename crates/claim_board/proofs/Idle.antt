-- The empty places, whose slots are with the feeder.
use Rattle.std.proofs.Common.{◌≡◌, refl, ℕ, ◌+◌, ◌<◌, ◌≤◌, ◌^◌, vec_len, cond, true, false, List, ◌∷◌, length, get_or, set, sym, ap, ◌∙◌, arith, eqb, eq-eqb, ne_eqb, get_or-set_other, get_or-set_same, drop, ◌≢◌, zero, suc, Bool, []}
use mathlib.Core.Logic.{dite}
use native.Mathlib.Decide.{ℕ_discrete}
use Rattle.std.specs.Prelude.{◌&&◌, nat_lt, not}
use Rattle.claim_board.specs.Views.{lane, SeatView, lane_in, lane_at, lanes_put, lanes_back, may_take_a_job}
use Rattle.atomic_table.specs.Seated.{TableId}
use Rattle.claim_board.specs.Seats.{IsFeederOf, place_count}
use Rattle.claim_board.specs.declared.board.Board.{Board}
use Rattle.claim_board.specs.declared.seats.FeederSeat.{FeederSeat}
use Rattle.claim_board.specs.declared.view.Lane.{Lane}
use Rattle.claim_board.specs.Counts.{idle_count, occurrences}
use Rattle.claim_board.proofs.Sums.{occurrences-cons}
use Rattle.std.proofs.lemmas.List.{get_or_past}

-- ---- empty places

-- a place less at the front
pub popped : (q p : ℕ) (old front new : List ℕ) → ((rest : List ℕ) × (front ≡ p ∷ rest)) → new ≡ drop 1 front → occurrences q front ≡ occurrences q old
    → occurrences q old ≡ cond (eqb p q) 1 0 + occurrences q new
popped q p old front new f e same = sym same ∙ (ap (occurrences q) f.1 ∙ (occurrences-cons q p f.0 ∙ ap (λ (l : List ℕ). cond (eqb p q) 1 0 + occurrences q l) (sym (e ∙ ap (drop 1) f.1))))

out_is_not_idle : (l : Lane) → l.is_out ≡ true → idle_count l ≡ 0
out_is_not_idle l e = grind arith

idle_put : (v : SeatView) (p q : ℕ) (xs ys : List ℕ) → p < length v.lanes → (lane_at v p).is_fetched ≡ true → (lane_at v p).is_out ≡ false
    → ((k : ℕ) → occurrences k xs ≡ idle_count (lane_at v k)) → occurrences q xs ≡ cond (eqb p q) 1 0 + occurrences q ys
    → occurrences q ys ≡ idle_count (lane_in (lanes_put v.lanes p) q)
idle_put v p q xs ys h fetched empty idle less = grind (arith, get_or-set_same, get_or-set_other)

idle_returned : (v : SeatView) (p q : ℕ) (xs : List ℕ) → p < length v.lanes → idle_count (lane_at v p) ≡ 0
    → ((k : ℕ) → occurrences k xs ≡ idle_count (lane_at v k)) → occurrences q (p ∷ xs) ≡ idle_count (lane_in (lanes_back v.lanes p) q)
idle_returned v p q xs h not_idle idle =
    let new : Lane = lane (lane_at v p).serial true false in
    rw (occurrences-cons q p xs) (dite (ℕ_discrete p q)
    (λ e. let now : idle_count (lane_in (lanes_back v.lanes p) q) ≡ 1 = ap (λ (k : ℕ). idle_count (lane_in (lanes_back v.lanes p) k)) (sym e) ∙ ap idle_count (get_or-set_same v.lanes p new (lane 0 false false) h) in
    let was : occurrences q xs ≡ 0 = idle q ∙ (ap (λ (k : ℕ). idle_count (lane_at v k)) (sym e) ∙ not_idle) in
    let one : cond {A = ℕ} (eqb p q) 1 0 ≡ 1 = (rw (eq-eqb p q e) refl) in omega arith)
    (λ ne. let now : idle_count (lane_in (lanes_back v.lanes p) q) ≡ idle_count (lane_at v q) = ap idle_count (get_or-set_other v.lanes p q new (lane 0 false false) (λ x. ne (sym x))) in
    let was = idle q in let none : cond {A = ℕ} (eqb p q) 1 0 ≡ 0 = (rw (ne_eqb p q ne) refl) in omega arith))

idle_after_put : (v w : SeatView) (p : ℕ) (xs ys : List ℕ) → w.lanes ≡ lanes_put v.lanes p → ((q : ℕ) → occurrences q xs ≡ cond (eqb p q) 1 0 + occurrences q ys)
    → p < length v.lanes → (lane_at v p).is_fetched ≡ true → (lane_at v p).is_out ≡ false → ((k : ℕ) → occurrences k xs ≡ idle_count (lane_at v k))
    → (q : ℕ) → occurrences q ys ≡ idle_count (lane_at w q)
idle_after_put v w p xs ys e less h fetched empty idle q = idle_put v p q xs ys h fetched empty idle (less q) ∙ ap (λ (ls : List Lane). idle_count (lane_in ls q)) (sym e)

-- the slot of a place that wasn't idle came to the feeder
pub idle_after_return : (v w : SeatView) (p : ℕ) (xs ys : List ℕ) → w.lanes ≡ lanes_back v.lanes p → ys ≡ p ∷ xs → p < length v.lanes → idle_count (lane_at v p) ≡ 0
    → ((k : ℕ) → occurrences k xs ≡ idle_count (lane_at v k)) → (q : ℕ) → occurrences q ys ≡ idle_count (lane_at w q)
idle_after_return v w p xs ys e more h not_idle idle q = ap (occurrences q) more ∙ (idle_returned v p q xs h not_idle idle ∙ ap (λ (ls : List Lane). idle_count (get_or ls q (lane 0 false false))) (sym e))

-- a fact about each lane, where one lane was replaced
lane_after : (v w : SeatView) (p q : ℕ) (new : Lane) (P : Lane → Type 0) → w.lanes ≡ set v.lanes p new → p < length v.lanes → P new → P (lane_at v q) → P (lane_at w q)
lane_after v w p q new P e h here there = grind (arith, get_or-set_same, get_or-set_other)

-- another place may take a job as before
pub still_taken : (v w : SeatView) (p q : ℕ) (new : Lane) → w.lanes ≡ set v.lanes p new → q ≢ p → may_take_a_job w q ≡ may_take_a_job v q
still_taken v w p q new e ne =
    let may_take : Lane → Bool = λ l. not l.is_out && nat_lt l.serial (2 ^ 61) in
    ap (λ (ls : List Lane). may_take (lane_in ls q)) e ∙ ap may_take (get_or-set_other v.lanes p q new (lane 0 false false) ne)

-- behind a put into the first place that was free, that one is taken too
pub taken_by_put : (v w : SeatView) (p t q : ℕ) → w.lanes ≡ lanes_put v.lanes p → lane_at w p ≡ lane t true true
    → ((k : ℕ) → k < p → may_take_a_job v k ≡ false) → q < p + 1 → may_take_a_job w q ≡ false
taken_by_put v w p t q e out before below =
    let may_take : Lane → Bool = λ l. not l.is_out && nat_lt l.serial (2 ^ 61) in
    dite (ℕ_discrete q p)
    (λ same. ap (may_take_a_job w) same ∙ ap may_take out)
    (λ ne. still_taken v w p q _ e ne ∙ before q (omega arith))

lane_here : (v : SeatView) (p : ℕ) (new : Lane) (w : SeatView) → w.lanes ≡ set v.lanes p new → p < length v.lanes → lane_at w p ≡ new
lane_here v p new w e h = ap (λ (ls : List Lane). get_or ls p (lane 0 false false)) e ∙ get_or-set_same v.lanes p new (lane 0 false false) h

-- the feeder's places after a step on one of them
module _ (b : Board) (f : FeederSeat) (p : ℕ) (is_of : IsFeederOf b f) (place : p < place_count b) where
  pub inside : p < vec_len f.lanes
  inside = omega (arith, f.wide, ap (λ (t : TableId). t.words) is_of.0, place)

  in_lanes : p < length f.seat.me.0.lanes
  in_lanes = omega (arith, ap length f.mirrors, inside)

  module _ (w : SeatView) (ys : List ℕ) where
    pub idle_then : w.lanes ≡ lanes_put f.seat.me.0.lanes p → ((q : ℕ) → occurrences q f.order.items ≡ cond (eqb p q) 1 0 + occurrences q ys) → (lane_at f.seat.me.0 p).is_out ≡ false
        → (q : ℕ) → occurrences q ys ≡ idle_count (lane_at w q)
    idle_then to less empty = idle_after_put f.seat.me.0 w p f.order.items ys to less in_lanes (f.fetched p inside) empty f.idle

    pub idle_back : w.lanes ≡ lanes_back f.seat.me.0.lanes p → ys ≡ p ∷ f.order.items → (lane_at f.seat.me.0 p).is_out ≡ true → (q : ℕ) → occurrences q ys ≡ idle_count (lane_at w q)
    idle_back to more out = idle_after_return f.seat.me.0 w p f.order.items ys to more in_lanes (out_is_not_idle (lane_at f.seat.me.0 p) out) f.idle

  module _ (w : SeatView) (new : Lane) (to : w.lanes ≡ set f.seat.me.0.lanes p new) where
    pub fetched_then : new.is_fetched ≡ true → (q : ℕ) → q < vec_len f.lanes → (lane_at w q).is_fetched ≡ true
    fetched_then is q below = lane_after f.seat.me.0 w p q new (λ (l : Lane). l.is_fetched ≡ true) to in_lanes is (f.fetched q below)

    pub small_then : new.serial ≤ 2 ^ 61 → (q : ℕ) → (lane_at w q).serial ≤ 2 ^ 61
    small_then is q = lane_after f.seat.me.0 w p q new (λ (l : Lane). l.serial ≤ 2 ^ 61) to in_lanes is (f.small q)

    pub here_then : lane_at w p ≡ new
    here_then = lane_here f.seat.me.0 p new w to in_lanes

-- ---- different numbers below n are at most n

abbrev but : ℕ → List ℕ → List ℕ
but n [] = []
but n (x ∷ xs) = cond (eqb x n) (but n xs) (x ∷ but n xs)

length-but : (n : ℕ) (xs : List ℕ) → length (but n xs) + occurrences n xs ≡ length xs
length-but n [] = refl
length-but n (x ∷ xs) = dite (ℕ_discrete x n)
    (λ e. rw (occurrences-cons n x xs, eq-eqb x n e) (omega (arith, length-but n xs)))
    (λ ne. rw (occurrences-cons n x xs, ne_eqb x n ne) (omega (arith, length-but n xs)))

occurs-but : (n p : ℕ) (xs : List ℕ) → p ≢ n → occurrences p (but n xs) ≡ occurrences p xs
occurs-but n p [] ne = refl
occurs-but n p (x ∷ xs) ne = dite (ℕ_discrete x n)
    (λ e. rw (occurrences-cons p x xs, eq-eqb x n e, ne_eqb x p (λ h. ne (sym h ∙ e))) (omega (arith, occurs-but n p xs ne)))
    (λ nf. rw (occurrences-cons p x xs, ne_eqb x n nf, occurrences-cons p x (but n xs)) (omega (arith, occurs-but n p xs ne)))

occurs-but_same : (n : ℕ) (xs : List ℕ) → occurrences n (but n xs) ≡ 0
occurs-but_same n [] = refl
occurs-but_same n (x ∷ xs) = grind (arith, occurs-but_same n xs)

none_at_all : (xs : List ℕ) → ((p : ℕ) → occurrences p xs ≡ 0) → length xs ≡ 0
none_at_all [] h = refl
none_at_all (x ∷ xs) h = absurd (let e : occurrences x (x ∷ xs) ≡ 0 = h x in let one : occurrences x (x ∷ xs) ≡ 1 + occurrences x xs = (rw (occurrences-cons x x xs, eq-eqb x x refl) refl) in omega arith)

pub few : (n : ℕ) (xs : List ℕ) → ((p : ℕ) → n ≤ p → occurrences p xs ≡ 0) → ((p : ℕ) → occurrences p xs ≤ 1) → length xs ≤ n
few zero xs above once = let e = none_at_all xs (λ p. above p (omega arith)) in omega arith
few (suc n) xs above once =
    let rest = few n (but n xs)
    (λ p h. dite (ℕ_discrete p n) (λ e. ap (λ k. occurrences k (but n xs)) e ∙ occurs-but_same n xs) (λ ne. occurs-but n p xs ne ∙ above p (omega arith)))
    (λ p. dite (ℕ_discrete p n) (λ e. let z : occurrences p (but n xs) ≡ 0 = ap (λ k. occurrences k (but n xs)) e ∙ occurs-but_same n xs in omega arith) (λ ne. let z = occurs-but n p xs ne in let o = once p in omega arith)) in
    let o = once n in let l = length-but n xs in omega arith

-- there is room for a place that is out
pub room_left : (v : SeatView) (xs : List ℕ) (n most p : ℕ) → length v.lanes ≡ n → ((q : ℕ) → occurrences q xs ≡ idle_count (lane_at v q)) → n ≤ most → (lane_at v p).is_out ≡ true → p < n → length xs < most
room_left v xs n most p wide idle room out h =
    let l = few n (p ∷ xs)
    (λ q above. let none : idle_count (lane_at v q) ≡ 0 = past q above in let e = idle q in rw (occurrences-cons q p xs, ne_eqb p q (λ x. omega arith)) (omega arith))
    (λ q. dite (ℕ_discrete p q)
    (λ e. let z : occurrences q xs ≡ 0 = idle q ∙ (ap (λ k. idle_count (lane_at v k)) (sym e) ∙ out_is_not_idle (lane_at v p) out) in rw (occurrences-cons q p xs, eq-eqb p q e) (omega arith))
    (λ ne. let o = at_most (lane_at v q) in let e = idle q in rw (occurrences-cons q p xs, ne_eqb p q ne) (omega arith))) in
    omega arith
  where
    at_most : (l : Lane) → idle_count l ≤ 1
    at_most l = fetched l.is_fetched l.is_out
      where
        fetched : (b c : Bool) → cond b (cond c 0 1) 0 ≤ 1
        fetched true true = omega arith
        fetched true false = omega arith
        fetched false c = omega arith

    past : (q : ℕ) → n ≤ q → idle_count (lane_at v q) ≡ 0
    past q above = ap idle_count (get_or_past v.lanes q (lane 0 false false) (omega arith))
