-- The slots of a seat, as they turn.
use Rattle.std.proofs.Common.{◌≡◌, ℕ, suc, ◌+◌, ◌<◌, List, [], ◌∷◌, ◌++◌, length, get_or, take, drop, refl, sym, ap, ◌∙◌, arith, append_assoc, ◌≢◌, ne_eqb, eqb, cond, None, sum_by}
use Rattle.std.proofs.lemmas.List.{drop_more, take-append-drop, take_more}
use Rattle.atomic_table.specs.Table.{turned}
use Rattle.std.proofs.lemmas.List.Sums.{sum_by-append}
use Rattle.claim_board.proofs.Sums.{occurrences-cons}
use Rattle.claim_board.specs.Rule.{Slot}
use Rattle.claim_board.specs.Plays.{empty_slots}
use Rattle.claim_board.specs.Counts.{occurrences}

empties-append : (xs ys : List ℕ) → empty_slots (xs ++ ys) ≡ empty_slots xs ++ empty_slots ys
empties-append [] ys = refl
empties-append (x ∷ xs) ys = ap (λ l. (x, None) ∷ l) (empties-append xs ys)

turned-empties : (p : ℕ) (ps : List ℕ) → turned (empty_slots (p ∷ ps)) ≡ empty_slots (ps ++ p ∷ [])
turned-empties p ps = sym (empties-append ps (p ∷ []))

-- one turn more
pub turned_once : (xs : List ℕ) (k : ℕ) (slots : List (ℕ × Slot)) → k < length xs → slots ≡ empty_slots (drop k xs ++ take k xs) → turned slots ≡ empty_slots (drop (k + 1) xs ++ take (k + 1) xs)
turned_once xs k slots h e =
    let d = drop_more xs k 0 h in
    let t = take_more xs k 0 h in
    ap turned (e ∙ ap (λ l. empty_slots (l ++ take k xs)) d) ∙ (turned-empties (get_or xs k 0) (drop (k + 1) xs ++ take k xs)
    ∙ ap empty_slots (append_assoc (drop (k + 1) xs) (take k xs) (get_or xs k 0 ∷ []) ∙ ap (λ l. drop (k + 1) xs ++ l) (sym t)))

pub front_of : (xs : List ℕ) (k p : ℕ) → k < length xs → get_or xs k 0 ≡ p → (r : List ℕ) × (drop k xs ++ take k xs ≡ p ∷ r)
front_of xs k p h e = (drop (k + 1) xs ++ take k xs, ap (λ l. l ++ take k xs) (drop_more xs k 0 h) ∙ ap (λ x. x ∷ (drop (k + 1) xs ++ take k xs)) e)

pub occurs_none : (p : ℕ) (xs : List ℕ) → ((k : ℕ) → k < length xs → get_or xs k 0 ≢ p) → occurrences p xs ≡ 0
occurs_none p [] h = refl
occurs_none p (x ∷ xs) h = rw (occurrences-cons p x xs, ne_eqb x p (h 0 (omega arith))) (omega (arith, occurs_none p xs (λ k l. h (suc k) (omega arith))))

pub occurs_turned : (q k : ℕ) (xs : List ℕ) → occurrences q (drop k xs ++ take k xs) ≡ occurrences q xs
occurs_turned q k xs =
    let f : ℕ → ℕ = λ x. cond (eqb x q) 1 0 in
    omega (arith, sum_by-append f (drop k xs) (take k xs), sum_by-append f (take k xs) (drop k xs), ap (sum_by f) (take-append-drop k xs))
