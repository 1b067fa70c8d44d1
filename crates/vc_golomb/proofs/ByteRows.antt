-- The table says of each twelve bits what numbers' codes they begin with.
use Rattle.std.proofs.lemmas.Int.{to_z-of_z, fits_signed_from_abs}
use Rattle.std.specs.Int.{w32, w64}
use Rattle.std.proofs.Common.{◌≡◌, ◌^◌, unsigned_abs, to_z, of_z, ℕ, zero, suc, ◌+◌, ◌-◌, ◌*◌, ◌<◌, ◌≤◌, ℤ, pos, Bool, true, false, eqb, leb, List, [], ◌∷◌, ◌++◌, length, get_or, take, drop, refl, sym, ap, subst, ◌∙◌, arith, length-append, zero-add, suc-add}
use Rattle.std.specs.Prelude.{◌&&◌}
use Rattle.std.proofs.lemmas.Bool.{and_parts, eqb-true, leb-true}
use Rattle.std.proofs.lemmas.List.{take-append-drop, drop-drop, get_or-take}
use Rattle.std.proofs.Math.Seq.{get_or-append_right}
use Rattle.vc_bits.specs.Bits.{word_bits}
use Rattle.vc_types.specs.Codes.{uint_bits, spread_digits, sint_bits}
use Rattle.vc_types.specs.Bounded.{bounded, BeginsWith, bounded_sint}
use Rattle.vc_types.proofs.BoundedCodes.{bounded-drop, front_begins, bounded_sint-begins}
use Rattle.vc_golomb.specs.Numbers.{number_at}
use Rattle.vc_golomb.specs.declared.rows.TheConstants.{VALUES, COUNT, BITS}

-- ---- codes, one after another

abbrev pub codes : List ℤ → List Bool
codes [] = []
codes (v ∷ vs) = sint_bits v ++ codes vs

behind : (bits xs ys : List Bool) → BeginsWith bits (xs ++ ys) → BeginsWith (drop (length xs) bits) ys
behind bits xs ys begin place lt =
    let same : length xs + place - length xs ≡ place = omega arith in
    bounded-drop (length xs) place bits ∙ begin (length xs + place) (omega (arith, length-append xs ys)) ∙ get_or-append_right xs ys (length xs + place) true (omega arith) ∙ ap (bounded ys) same

first_of : (v : ℤ) (vs : List ℤ) (bits : List Bool) → BeginsWith bits (codes (v ∷ vs)) → bounded_sint bits ≡ (v, drop (length (sint_bits v)) bits)
first_of v vs bits begin = bounded_sint-begins bits v (front_begins bits (sint_bits v) (codes vs) begin)

pub numbers_front : (vs : List ℤ) (bits : List Bool) → BeginsWith bits (codes vs) → (j : ℕ) → j < length vs → get_or vs j (pos 0) ≡ number_at bits j
unfolding number_at
numbers_front [] bits begin j lt = absurd (omega arith)
numbers_front (v ∷ vs) bits begin zero lt = sym (ap (λ (x : ℤ × List Bool). x.0) (first_of v vs bits begin))
numbers_front (v ∷ vs) bits begin (suc j) lt =
    numbers_front vs (drop (length (sint_bits v)) bits) (behind bits (sint_bits v) (codes vs) begin) j (omega arith)
    ∙ sym (ap (λ (x : ℤ × List Bool). number_at x.1 j) (first_of v vs bits begin))

pub numbers_rest : (vs : List ℤ) (bits : List Bool) → BeginsWith bits (codes vs) → (k : ℕ) → number_at bits (length vs + k) ≡ number_at (drop (length (codes vs)) bits) k
unfolding number_at
numbers_rest [] bits begin k = ap (number_at bits) (zero-add k)
numbers_rest (v ∷ vs) bits begin k =
    let n = length (sint_bits v) in
    let long : n + length (codes vs) ≡ length (codes (v ∷ vs)) = sym (length-append (sint_bits v) (codes vs)) in
    ap (number_at bits) (suc-add (length vs) k) ∙ ap (λ (x : ℤ × List Bool). number_at x.1 (length vs + k)) (first_of v vs bits begin)
    ∙ numbers_rest vs (drop n bits) (behind bits (sint_bits v) (codes vs) begin) k
    ∙ ap (λ (xs : List Bool). number_at xs k) (drop-drop (length (codes vs)) n bits ∙ ap (λ (m : ℕ). drop m bits) long)

-- ---- a test of a whole table

abbrev pub same_bits : List Bool → List Bool → Bool
same_bits [] [] = true
same_bits (true ∷ xs) (true ∷ ys) = same_bits xs ys
same_bits (false ∷ xs) (false ∷ ys) = same_bits xs ys
same_bits xs ys = false

pub same : (xs ys : List Bool) → same_bits xs ys ≡ true → xs ≡ ys
same [] [] h = refl
same (true ∷ xs) (true ∷ ys) h = ap (λ (bits : List Bool). true ∷ bits) (same xs ys h)
same (false ∷ xs) (false ∷ ys) h = ap (λ (bits : List Bool). false ∷ bits) (same xs ys h)
same [] (y ∷ ys) h = absurd cc
same (true ∷ xs) [] h = absurd cc
same (false ∷ xs) [] h = absurd cc
same (true ∷ xs) (false ∷ ys) h = absurd cc
same (false ∷ xs) (true ∷ ys) h = absurd cc

abbrev is_row : ℕ → List ℤ → ℕ → ℕ → Bool
is_row twelve values count taken =
    same_bits (codes (take count values)) (take taken (word_bits 12 twelve)) && (eqb (length (take count values)) count && (eqb (length (codes (take count values))) taken && leb count 8))

-- rows from one on, each with eight numbers
abbrev are_rows : ℕ → List ℤ → List ℕ → List ℕ → Bool
are_rows twelve values [] takens = true
are_rows twelve values (count ∷ counts) (taken ∷ takens) = is_row twelve (take 8 values) count taken && are_rows (suc twelve) (drop 8 values) counts takens
are_rows twelve values (count ∷ counts) [] = false

all_rows : are_rows 0 VALUES COUNT BITS ≡ true
unfolding word_bits sint_bits uint_bits spread_digits
all_rows = refl

all_counts : length COUNT ≡ 4096
all_counts = refl

-- the eight numbers of a row
abbrev pub eight_at : ℕ → List ℤ
eight_at twelve = take 8 (drop (8 * twelve) VALUES)

row_test : (first k : ℕ) (values : List ℤ) (counts takens : List ℕ) → are_rows first values counts takens ≡ true → k < length counts → is_row (first + k) (take 8 (drop (8 * k) values)) (get_or counts k 0) (get_or takens k 0) ≡ true
row_test first k values [] takens all lt = absurd (omega arith)
row_test first zero values (count ∷ counts) (taken ∷ takens) all lt =
    let here : first + 0 ≡ first = omega arith in
    ap (λ (n : ℕ). is_row n (take 8 values) count taken) here ∙ (and_parts (is_row first (take 8 values) count taken) (are_rows (suc first) (drop 8 values) counts takens) all).0
row_test first (suc k) values (count ∷ counts) (taken ∷ takens) all lt =
    let there : first + suc k ≡ suc first + k = omega arith in
    let behind : drop (8 * suc k) values ≡ drop (8 * k) (drop 8 values) = (let sum : 8 * suc k ≡ 8 + 8 * k = omega arith in ap (λ (n : ℕ). drop n values) sum ∙ sym (drop-drop (8 * k) 8 values)) in
    ap (λ (n : ℕ). is_row n (take 8 (drop (8 * suc k) values)) (get_or counts k 0) (get_or takens k 0)) there
    ∙ ap (λ (rest : List ℤ). is_row (suc first + k) (take 8 rest) (get_or counts k 0) (get_or takens k 0)) behind
    ∙ row_test (suc first) k (drop 8 values) counts takens (and_parts (is_row first (take 8 values) count taken) (are_rows (suc first) (drop 8 values) counts takens) all).1 (omega arith)
row_test first k values (count ∷ counts) [] all lt = absurd cc

pub record IsRow (twelve : ℕ) (values : List ℤ) (count taken : ℕ) : Type 0 where
  pub front : word_bits 12 twelve ≡ codes (take count values) ++ drop taken (word_bits 12 twelve)
  pub long : length (take count values) ≡ count
  pub bits : length (codes (take count values)) ≡ taken
  pub few : count ≤ 8

from_test : (twelve : ℕ) (values : List ℤ) (count taken : ℕ) → is_row twelve values count taken ≡ true → IsRow twelve values count taken
from_test twelve values count taken test =
    let parts = and_parts _ _ test in
    let more = and_parts _ _ parts.1 in
    let last = and_parts _ _ more.1 in
    record {
      front = sym (take-append-drop taken (word_bits 12 twelve)) ∙ ap (λ (bits : List Bool). bits ++ drop taken (word_bits 12 twelve)) (sym (same _ _ parts.0));
      long = eqb-true _ _ more.0;
      bits = eqb-true _ _ last.0;
      few = leb-true count 8 last.1;
    }

pub row : (twelve : ℕ) → twelve < 4096 → IsRow twelve (eight_at twelve) (get_or COUNT twelve 0) (get_or BITS twelve 0)
row twelve small =
    let within : twelve < length COUNT = omega (arith, all_counts) in
    let here : 0 + twelve ≡ twelve = omega arith in
    from_test twelve _ _ _ (ap (λ (n : ℕ). is_row n (eight_at twelve) (get_or COUNT twelve 0) (get_or BITS twelve 0)) (sym here) ∙ row_test 0 twelve VALUES COUNT BITS all_rows within)

row_begins : (twelve : ℕ) (values : List ℤ) (count taken : ℕ) (bits : List Bool) → IsRow twelve values count taken → BeginsWith bits (word_bits 12 twelve) → BeginsWith bits (codes (take count values))
row_begins twelve values count taken bits r begin = front_begins bits (codes (take count values)) (drop taken (word_bits 12 twelve)) (subst (BeginsWith bits) r.front begin)

pub row_rest : (twelve : ℕ) (values : List ℤ) (count taken : ℕ) (bits : List Bool) → IsRow twelve values count taken → BeginsWith bits (word_bits 12 twelve) → (k : ℕ) → number_at bits (count + k) ≡ number_at (drop taken bits) k
row_rest twelve values count taken bits r begin k =
    ap (λ (n : ℕ). number_at bits (n + k)) (sym r.long) ∙ numbers_rest (take count values) bits (row_begins twelve values count taken bits r begin) k ∙ ap (λ (n : ℕ). number_at (drop n bits) k) r.bits

pub row_values : (twelve : ℕ) (values : List ℤ) (count taken : ℕ) (bits : List Bool) → IsRow twelve values count taken → BeginsWith bits (word_bits 12 twelve) → (j : ℕ) → j < count → get_or values j (pos 0) ≡ number_at bits j
row_values twelve values count taken bits r begin j lt =
    sym (get_or-take count values j (pos 0) lt) ∙ numbers_front (take count values) bits (row_begins twelve values count taken bits r begin) j (omega (arith, r.long))

-- ---- one number

pub number_first : (bits : List Bool) → (bounded_sint bits).0 ≡ number_at bits 0
unfolding number_at
number_first bits = refl

pub number_next : (bits rest : List Bool) (k : ℕ) → rest ≡ (bounded_sint bits).1 → number_at bits (1 + k) ≡ number_at rest k
unfolding number_at
number_next bits rest k is = (let next : 1 + k ≡ suc k = omega arith in ap (number_at bits) next) ∙ ap (λ (xs : List Bool). number_at xs k) (sym is)

pub narrow_read : (z : ℤ) → unsigned_abs z < 2 ^ 30 → to_z w32 (of_z w32 (to_z w64 (of_z w64 z))) ≡ z
narrow_read z h = rw (to_z-of_z w64 z (fits_signed_from_abs w64 z (omega arith))) (to_z-of_z w32 z (fits_signed_from_abs w32 z (omega arith)))
