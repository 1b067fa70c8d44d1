-- The codes of numbers get no longer as the quantisation index rises.
use Rattle.std.proofs.Common.{◌≡◌, ℕ, zero, suc, ◌+◌, ◌-◌, ◌*◌, ◌/◌, ◌^◌, ◌<◌, ◌≤◌, ℤ, pos, negsuc, unsigned_abs, Bool, false, List, [], ◌∷◌, ◌++◌, length, map, replicate, refl, sym, ap, subst, ◌∙◌, arith, inl, inr}
use Rattle.std.specs.Prelude.{slice_index_or, ⊤}
use Rattle.std.specs.List.{flat_map, list_any, zip, enumerate_from}
use Rattle.std.proofs.lemmas.Bool.{cases_lt, cases_eq, le-leb, lt-leb}
use Rattle.std.proofs.lemmas.Int.{ints}
use Rattle.std.proofs.lemmas.Grind.{common_steps}
use Rattle.std.proofs.Math.Nat.{div-mul-le_self, le-div_iff_mul-le, mul-le-mul_left, mul-le-mul_right}
use Rattle.vc_types.specs.declared.video.Component.{Component}
use Rattle.vc_types.specs.declared.video.Component.TheVariants.{Y, C1, C2}
use Rattle.vc_types.specs.Codes.{sint_bits}
use Rattle.vc_types.specs.Encoding.{block_units, component_bits, encoded_length}
use Rattle.vc_types.specs.Quantisation.{quant_factor, quantised}
use Rattle.vc_types.specs.SliceCoefficients.{AreSliceCoefficients}
use Rattle.vc_types.specs.Slices.{Coefficients, coefficients_of, is_large, quantisers}
use Rattle.vc_types.specs.Subbands.{area, slice_rectangle, subbands}
use Rattle.vc_types.specs.TransformParameters.{Parameters}
use Rattle.vc_quant.proofs.Quotients.{rises, some_factor, not_larger, factor_range}
use Rattle.vc_slice.specs.Falls.{code_steps}
use Rattle.vc_slice.specs.Inside.{codes_behind}
use Rattle.vc_slice.proofs.BlockCodes.{numbers_from, all_bits, behind_zero, length_other, no_more_codes}
use Rattle.vc_slice.proofs.BlockCoefficients.{quantisers_from, quantisers_from-all}
use Rattle.vc_slice.proofs.FallSums.{length_steps}

-- ---- a code

steps_rise : (k m n : ℕ) → m ≤ n → code_steps k m ≤ code_steps k n
unfolding code_steps
steps_rise zero m n le = omega arith
steps_rise (suc zero) m n le =
    elim (cases_lt m 2) [
      | inl few ↦ rw (lt-leb 2 m few) (omega arith)
      | inr some ↦ rw (le-leb 2 m some, le-leb 2 n (omega (arith, some, le))) (omega arith)
    ]
steps_rise (suc (suc k)) m n le =
    let rest = steps_rise (suc k) m n le in
    elim (cases_lt m (2 ^ suc (suc k))) [
      | inl few ↦ rw (lt-leb (2 ^ suc (suc k)) m few) (omega (arith, rest))
      | inr some ↦ rw (le-leb (2 ^ suc (suc k)) m some, le-leb (2 ^ suc (suc k)) n (omega (arith, some, le))) (omega (arith, rest))
    ]

code_rises : (x y : ℤ) → 0 < unsigned_abs x → unsigned_abs x ≤ unsigned_abs y → unsigned_abs y < 2 ^ 60 → length (sint_bits x) ≤ length (sint_bits y)
code_rises x y some le small =
    omega (arith, length_steps x some (omega (arith, le, small)), length_steps y (omega (arith, some, le)) small, steps_rise 60 (unsigned_abs x + 1) (unsigned_abs y + 1) (omega (arith, le)))

-- ---- a number

abs_quantised : (z : ℤ) (q : ℕ) → unsigned_abs (quantised z q) ≡ 4 * unsigned_abs z / quant_factor q
unfolding quantised
abs_quantised (pos n) q = refl
abs_quantised (negsuc n) q = omega (arith, ints)

quotient_falls : (a f g : ℕ) → 0 < f → f ≤ g → a / g ≤ a / f
quotient_falls a f g some le = (le-div_iff_mul-le {k = f} {x = a / g} {y = a} some).1 (omega (arith, div-mul-le_self a g, mul-le-mul_left (a / g) le))

number_falls : (z : ℤ) (q r : ℕ) → q ≤ r → r ≤ 127 → unsigned_abs (quantised z r) ≤ unsigned_abs (quantised z q)
number_falls z q r le few =
    omega (arith, abs_quantised z q, abs_quantised z r, quotient_falls (4 * unsigned_abs z) (quant_factor q) (quant_factor r) (some_factor q (omega (arith, le, few))) (rises q r le few))

number_small : (z : ℤ) (q : ℕ) → q ≤ 127 → unsigned_abs z < 2 ^ 60 → unsigned_abs (quantised z q) < 2 ^ 60
number_small z q few small = omega (arith, abs_quantised z q, not_larger (unsigned_abs z) (quant_factor q) (factor_range q few).0, small)

-- ---- numbers that wait for one that isn't 0

wait : (n k : ℕ) (zs : List ℤ) → length (codes_behind (n + k) zs) ≤ n + length (codes_behind k zs)
wait n k [] = omega (arith, ap length (no_more_codes (n + k)), ap length (no_more_codes k))
wait n k (z ∷ zs) =
    elim (cases_eq (unsigned_abs z) 0) [
      | inl none ↦
          let same : n + k + 1 ≡ n + (k + 1) = omega arith in
          omega (arith, ap length (behind_zero (n + k) z zs none), ap length (behind_zero k z zs none), ap (λ (j : ℕ). length (codes_behind j zs)) same, wait n (k + 1) zs)
      | inr some ↦ omega (arith, length_other (n + k) z zs (omega arith), length_other k z zs (omega arith))
    ]

-- ---- a block

-- each index of a list is at most that of another, and all are indices
AreBelow : List ℕ → List ℕ → Type 0
AreBelow [] [] = ⊤
AreBelow [] (r ∷ rs) = ⊥
AreBelow (q ∷ qs) [] = ⊥
AreBelow (q ∷ qs) (r ∷ rs) = (q ≤ r) × (r ≤ 127) × AreBelow qs rs

abbrev numbers_by : List ℕ → List ℤ → List ℤ
numbers_by indices zs = map (λ (z : ℤ × ℕ). quantised z.0 z.1) (zip zs indices)

first_small : (z : ℤ) (zs : List ℤ) → list_any is_large (z ∷ zs) ≡ false → (unsigned_abs z < 2 ^ 60) × (list_any is_large zs ≡ false)
first_small z zs none = grind (arith, common_steps)

block_falls : (zs : List ℤ) (qs rs : List ℕ) (a b : ℕ) → AreBelow qs rs → list_any is_large zs ≡ false → a ≤ b
    → length (codes_behind a (numbers_by rs zs)) ≤ length (codes_behind b (numbers_by qs zs))
unfolding AreBelow
block_falls [] qs rs a b below small le = omega (arith, ap length (no_more_codes a), ap length (no_more_codes b))
block_falls (z ∷ zs) [] [] a b below small le = omega (arith, ap length (no_more_codes a), ap length (no_more_codes b))
block_falls (z ∷ zs) [] (r ∷ rs) a b below small le = absurd below
block_falls (z ∷ zs) (q ∷ qs) [] a b below small le = absurd below
block_falls (z ∷ zs) (q ∷ qs) (r ∷ rs) a b below small le =
    let x = quantised z r in
    let y = quantised z q in
    let parts = first_small z zs small in
    let falls = number_falls z q r below.0 below.1 in
    let fits = number_small z q (omega (arith, below.0, below.1)) parts.0 in
    elim (cases_eq (unsigned_abs y) 0) [
      | inl none ↦
          let none_too : unsigned_abs x ≡ 0 = omega (arith, none, falls) in
          omega (arith, ap length (behind_zero a x (numbers_by rs zs) none_too), ap length (behind_zero b y (numbers_by qs zs) none), block_falls zs qs rs (a + 1) (b + 1) below.2 parts.1 (omega (arith, le)))
      | inr some ↦
          let other = length_other b y (numbers_by qs zs) (omega (arith, some)) in
          let rest = block_falls zs qs rs 0 0 below.2 parts.1 (omega arith) in
          elim (cases_eq (unsigned_abs x) 0) [
            | inl none ↦
                let same : a + 1 + 0 ≡ a + 1 = omega arith in
                omega (arith, ap length (behind_zero a x (numbers_by rs zs) none), ap (λ (j : ℕ). length (codes_behind j (numbers_by rs zs))) same, wait (a + 1) 0 (numbers_by rs zs), other, rest, length_steps y (omega (arith, some)) fits, le)
            | inr some_too ↦
                omega (arith, length_other a x (numbers_by rs zs) (omega (arith, some_too)), other, rest, code_rises x y (omega (arith, some_too)) falls fits, le)
          ]
    ]

-- ---- the indices of a block's coefficients

below_again : (n q r less : ℕ) (qs rs : List ℕ) → q ≤ r → r ≤ 127 → AreBelow qs rs → AreBelow (replicate n (q - less) ++ qs) (replicate n (r - less) ++ rs)
unfolding AreBelow
below_again zero q r less qs rs le few below = below
below_again (suc n) q r less qs rs le few below = (omega (arith, le), omega (arith, few), below_again n q r less qs rs le few below)

below_all : {X : Type 0} (count less : X → ℕ) (bands : List X) (q r : ℕ) → q ≤ r → r ≤ 127
    → AreBelow (flat_map (λ b. replicate (count b) (q - less b)) bands) (flat_map (λ b. replicate (count b) (r - less b)) bands)
unfolding AreBelow
below_all count less [] q r le few = tt
below_all count less (b ∷ bands) q r le few = below_again (count b) q r (less b) _ _ le few (below_all count less bands q r le few)

quantisers_below : (p : Parameters) (c : Component) (slice q r : ℕ) → q ≤ r → r ≤ 127 → AreBelow (quantisers p c slice q) (quantisers p c slice r)
unfolding quantisers
quantisers_below p c slice q r le few =
    below_all (λ b. area (slice_rectangle p c b.1 slice)) (λ b. slice_index_or p.matrix b.0 0) (enumerate_from 0 (subbands p.depth_ho p.depth)) q r le few

-- ---- a slice

bits_by : (p : Parameters) (slice index : ℕ) (c : Component) (s : Coefficients) → length (codes_behind 0 (numbers_by (quantisers p c slice index) (coefficients_of s c))) ≡ length (component_bits p slice index s c)
unfolding numbers_from
bits_by p slice index c s =
    ap (λ (qs : List ℕ). length (codes_behind 0 (numbers_by qs (coefficients_of s c)))) (sym (quantisers_from-all p c slice index))
    ∙ ap length (all_bits p slice index c s)

bits_fall : (p : Parameters) (slice q r : ℕ) (s : Coefficients) (c : Component) → AreSliceCoefficients p slice s → q ≤ r → r ≤ 127
    → length (component_bits p slice r s c) ≤ length (component_bits p slice q s c)
bits_fall p slice q r s c are le few =
    omega (arith, bits_by p slice q c s, bits_by p slice r c s, block_falls (coefficients_of s c) (quantisers p c slice q) (quantisers p c slice r) 0 0 (quantisers_below p c slice q r le few) (are.small c) (omega arith))

quotient_rises : (a b k : ℕ) → a ≤ b → a / k ≤ b / k
quotient_rises a b zero le = omega arith
quotient_rises a b (suc k) le = (le-div_iff_mul-le {k = suc k} {x = a / suc k} {y = b} (omega arith)).1 (omega (arith, div-mul-le_self a (suc k), le))

units_fall : (scaler a b : ℕ) → a ≤ b → block_units scaler a ≤ block_units scaler b
units_fall scaler a b le = quotient_rises ((a + 7) / 8 + scaler - 1) ((b + 7) / 8 + scaler - 1) scaler (omega (arith, le))

pub length_falls : (p : Parameters) (slice q r : ℕ) (s : Coefficients) → AreSliceCoefficients p slice s → q ≤ r → r ≤ 127
    → encoded_length p slice r s ≤ encoded_length p slice q s
unfolding encoded_length
length_falls p slice q r s are le few =
    let units : (c : Component) → block_units p.scaler (length (component_bits p slice r s c)) ≤ block_units p.scaler (length (component_bits p slice q s c)) =
    λ c. units_fall p.scaler (length (component_bits p slice r s c)) (length (component_bits p slice q s c)) (bits_fall p slice q r s c are le few) in
    omega (arith, mul-le-mul_left p.scaler (sum (units Y) (units C1) (units C2)))
  where
    sum : {a b c x y z : ℕ} → a ≤ x → b ≤ y → c ≤ z → a + b + c ≤ x + y + z
    sum i j k = omega (arith, i, j, k)
