-- Quotients by a reciprocal, and the last index whose factor is small enough.
use Rattle.std.proofs.Common.{◌≡◌, ℕ, zero, suc, ◌+◌, ◌-◌, ◌*◌, ◌/◌, ◌^◌, ◌<◌, ◌≤◌, Bool, true, eqb, leb, get_or, refl, sym, ap, subst, ◌∙◌, arith, inl, inr}
use Rattle.std.specs.Prelude.{◌&&◌, ◌↔◌}
use Rattle.std.proofs.lemmas.Bool.{and_parts, cases_lt, eqb-true, leb-true}
use Rattle.std.proofs.lemmas.Nat.{pow-add, pow_pos}
use Rattle.std.proofs.Math.Nat.{mul-le-mul_right, mul-le-mul_left, div-mul-le_self, lt-div-mul-add, div-eq_of_lt-le, le_of_mul-le-mul_right, lt_of_mul-lt-mul_right, pow-le-pow_right, pow-suc, le-div_iff_mul-le}
use Rattle.vc_types.specs.Quantisation.{quant_factor, quant_offset}
use Rattle.vc_types.proofs.Tables.{holds_below, holds_at}
use Rattle.vc_quant.specs.Narrow.{IsNarrow}
use Rattle.vc_quant.specs.Reciprocal.{IsReciprocal, IsNarrowReciprocal}
use Rattle.vc_quant.specs.declared.factors.TheConstants.{FACTORS}
use Rattle.vc_quant.specs.declared.last.TheConstants.{LASTS, RECIPROCALS}
use Rattle.vc_quant.specs.declared.reciprocal.TheConstants.{FACTOR_RECIPROCALS}

-- ---- a quotient

module _ (base size divisor reciprocal product : ℕ) (some : 0 < divisor) (small : size < base)
    (low : reciprocal * divisor ≤ base) (high : base ≤ (reciprocal + 1) * divisor)
    (product_is : product ≡ size * reciprocal / base) where
  -- it is not too large
  pub not_over : product * divisor ≤ size
  not_over =
      let below : product * base ≤ size * reciprocal = rw product_is (div-mul-le_self (size * reciprocal) base) in
      let times = mul-le-mul_right divisor below in
      let more = mul-le-mul_left size low in
      let whole : product * divisor * base ≤ size * base = omega (arith, times, more) in
      le_of_mul-le-mul_right whole (omega (arith, small))

  -- and one too small at most
  nearly : size < (product + 2) * divisor
  nearly =
      let next : size * reciprocal < product * base + base = rw product_is (lt-div-mul-add {a = size * reciprocal} (omega arith)) in
      let sum : size * reciprocal + size + 1 ≤ (product + 2) * base = omega (arith, next, small) in
      let times = mul-le-mul_right divisor sum in
      let more = mul-le-mul_left size high in
      lt_of_mul-lt-mul_right base (omega (arith, times, more, some))

  pub one_more : divisor ≤ size - product * divisor → product + 1 ≡ size / divisor
  one_more h = sym (div-eq_of_lt-le {k = product + 1} divisor (omega (arith, h, not_over, some)) (omega (arith, nearly)))

  pub no_more : size - product * divisor < divisor → product ≡ size / divisor
  no_more h = sym (div-eq_of_lt-le {k = product} divisor not_over (omega (arith, h, not_over)))

-- ---- a quotient by one product and a shift

module _ (divisor times base magnitude : ℕ) (some : 0 < divisor) (small : magnitude < 2 ^ 14)
    (low : 4 * base ≤ times * divisor) (high : times * divisor ≤ 4 * base + divisor) where
  -- where the base has room for the magnitude and the divisor
  narrow_quotient : divisor * 2 ^ 14 ≤ base → magnitude * times / base ≡ 4 * magnitude / divisor
  narrow_quotient room =
      let quotient = 4 * magnitude / divisor in
      let below : quotient * divisor ≤ 4 * magnitude = div-mul-le_self (4 * magnitude) divisor in
      let after : 4 * magnitude < quotient * divisor + divisor = lt-div-mul-add {a = 4 * magnitude} some in
      let above : 4 * magnitude + 1 ≤ quotient * divisor + divisor = omega (arith, after) in
      let below_base = mul-le-mul_right base below in
      let above_base = mul-le-mul_right base above in
      let low_times = mul-le-mul_left magnitude low in
      let high_times = mul-le-mul_left magnitude high in
      let rest : (magnitude + 1) * divisor ≤ 2 ^ 14 * divisor = mul-le-mul_right divisor (omega (arith, small)) in
      let whole : quotient * base * divisor ≤ magnitude * times * divisor = omega (arith, below_base, low_times) in
      let next : magnitude * times * divisor < (quotient + 1) * base * divisor = omega (arith, above_base, high_times, rest, room, some) in
      div-eq_of_lt-le {k = quotient} base (le_of_mul-le-mul_right whole some) (lt_of_mul-lt-mul_right divisor next)

  -- where the divisor is larger than each magnitude, in quarters
  none_of_large : base ≡ 2 ^ 30 → 2 ^ 16 ≤ divisor → magnitude * times / base ≡ 4 * magnitude / divisor
  none_of_large is large =
      let most : times * divisor ≤ (2 ^ 16 + 1) * divisor = omega (arith, high, is, large) in
      let product : magnitude * times ≤ magnitude * (2 ^ 16 + 1) = mul-le-mul_left magnitude (le_of_mul-le-mul_right most some) in
      div-eq_of_lt-le {k = 0} base (omega arith) (omega (arith, product, small, is)) ∙ sym (div-eq_of_lt-le {k = 0} divisor (omega arith) (omega (arith, small, large)))

-- of a reciprocal's digits so many that a product has 32 bits
module _ (divisor reciprocal log : ℕ) (few : log ≤ 15) (reached : 2 ^ log ≤ divisor) (is : IsReciprocal divisor reciprocal) where
  some : 0 < divisor
  some = omega (arith, pow_pos log, reached)

  powers : 2 ^ (15 - log) * 2 ^ (15 + log) ≡ 2 ^ 30
  powers = let sum : 15 - log + (15 + log) ≡ 30 = omega arith in sym (pow-add 2 (15 - log) (15 + log)) ∙ ap (λ (n : ℕ). 2 ^ n) sum

  low : reciprocal / 2 ^ (15 - log) * divisor ≤ 4 * 2 ^ (15 + log)
  low =
      let cut : reciprocal / 2 ^ (15 - log) * 2 ^ (15 - log) ≤ reciprocal = div-mul-le_self reciprocal (2 ^ (15 - log)) in
      let times = mul-le-mul_right divisor cut in
      le_of_mul-le-mul_right {k = 2 ^ (15 - log)} (omega (arith, times, is.0, powers)) (pow_pos (15 - log))

  high : 4 * 2 ^ (15 + log) ≤ (reciprocal / 2 ^ (15 - log) + 1) * divisor
  high =
      let after : reciprocal < reciprocal / 2 ^ (15 - log) * 2 ^ (15 - log) + 2 ^ (15 - log) = lt-div-mul-add {a = reciprocal} (pow_pos (15 - log)) in
      let next : reciprocal + 1 ≤ (reciprocal / 2 ^ (15 - log) + 1) * 2 ^ (15 - log) = omega (arith, after) in
      let times = mul-le-mul_right divisor next in
      le_of_mul-le-mul_right {k = 2 ^ (15 - log)} (omega (arith, times, is.1, powers)) (pow_pos (15 - log))

  pub digits_fit : reciprocal / 2 ^ (15 - log) ≤ 2 ^ 17
  digits_fit =
      let times = mul-le-mul_left (reciprocal / 2 ^ (15 - log)) reached in
      le_of_mul-le-mul_right {k = 2 ^ log} (omega (arith, times, low, pow-add 2 15 log)) (pow_pos log)

  pub digits_are_narrow : (log < 15 → divisor < 2 * 2 ^ log) → IsNarrowReciprocal divisor (reciprocal / 2 ^ (15 - log) + 1) (15 + log)
  digits_are_narrow next magnitude small =
      let times = reciprocal / 2 ^ (15 - log) + 1 in
      let base = 2 ^ (15 + log) in
      let not_over_one : times * divisor ≤ 4 * base + divisor = omega (arith, low) in
      elim (cases_lt divisor (2 * 2 ^ log)) [
        | inl lt ↦ narrow_quotient divisor times base magnitude some small high not_over_one (omega (arith, lt, pow-add 2 15 log))
        | inr le ↦
            let all : log ≡ 15 = elim (cases_lt log 15) [ inl lt ↦ absurd (omega (arith, next lt, le)) | inr whole ↦ omega arith ] in
            none_of_large divisor times base magnitude some small high not_over_one (ap (λ (n : ℕ). 2 ^ (15 + n)) all) (rw all at le)
      ]

-- a magnitude isn't quantised to a larger one
pub not_larger : (magnitude factor : ℕ) → 4 ≤ factor → 4 * magnitude / factor ≤ magnitude
not_larger magnitude factor large = omega (arith, div-mul-le_self (4 * magnitude) factor, mul-le-mul_left (4 * magnitude / factor) large)

-- ---- tables

all_factors : holds_below (λ q. eqb (get_or FACTORS q 0) (quant_factor q)) 128 ≡ true
unfolding quant_factor
all_factors = refl

all_rise : holds_below (λ q. leb (quant_factor q) (quant_factor (q + 1))) 127 ≡ true
unfolding quant_factor
all_rise = refl

all_powers : holds_below (λ n. eqb (quant_factor (4 * n)) (2 ^ (n + 2))) 32 ≡ true
unfolding quant_factor
all_powers = refl

all_reciprocals : holds_below (λ k. leb (get_or RECIPROCALS (k + 1) 0 * (2 ^ (k + 1) - 1)) (2 ^ 32) && leb (2 ^ 32) ((get_or RECIPROCALS (k + 1) 0 + 1) * (2 ^ (k + 1) - 1))) 60 ≡ true
all_reciprocals = refl

pub reciprocal_at : (k : ℕ) → 1 ≤ k → k ≤ 60 → IsReciprocal (2 ^ k - 1) (get_or RECIPROCALS k 0)
reciprocal_at k some few =
    let same : k - 1 + 1 ≡ k = omega arith in
    let both = and_parts _ _ (holds_at (λ k. leb (get_or RECIPROCALS (k + 1) 0 * (2 ^ (k + 1) - 1)) (2 ^ 32) && leb (2 ^ 32) ((get_or RECIPROCALS (k + 1) 0 + 1) * (2 ^ (k + 1) - 1))) 60 (k - 1) all_reciprocals (omega arith)) in
    subst (λ (n : ℕ). IsReciprocal (2 ^ n - 1) (get_or RECIPROCALS n 0)) same (leb-true _ _ both.0, leb-true _ _ both.1)

all_factor_reciprocals : holds_below (λ q. leb (get_or FACTOR_RECIPROCALS q 0 * quant_factor q) (2 ^ 32) && leb (2 ^ 32) ((get_or FACTOR_RECIPROCALS q 0 + 1) * quant_factor q)) 128 ≡ true
unfolding quant_factor
all_factor_reciprocals = refl

pub factor_reciprocal_at : (q : ℕ) → q < 128 → IsReciprocal (quant_factor q) (get_or FACTOR_RECIPROCALS q 0)
factor_reciprocal_at q small =
    let both = and_parts _ _ (holds_at (λ q. leb (get_or FACTOR_RECIPROCALS q 0 * quant_factor q) (2 ^ 32) && leb (2 ^ 32) ((get_or FACTOR_RECIPROCALS q 0 + 1) * quant_factor q)) 128 q all_factor_reciprocals small) in
    (leb-true _ _ both.0, leb-true _ _ both.1)

-- ---- factors rise with the index

-- where each place of a table is at most the next one
module _ (table : ℕ → ℕ) (all : holds_below (λ q. leb (table q) (table (q + 1))) 127 ≡ true) where
  rises_by : (n q : ℕ) → q + n ≤ 127 → table q ≤ table (q + n)
  rises_by zero q within = let same : q + 0 ≡ q = omega arith in rw same (omega arith)
  rises_by (suc n) q within =
      let next : q + n + 1 ≡ q + suc n = omega arith in
      let step = leb-true _ _ (holds_at (λ q. leb (table q) (table (q + 1))) 127 (q + n) all (omega arith)) in
      let last : table (q + n) ≤ table (q + suc n) = subst (λ (k : ℕ). table (q + n) ≤ table k) next step in
      omega (arith, rises_by n q (omega arith), last)

  table_rises : (q r : ℕ) → q ≤ r → r ≤ 127 → table q ≤ table r
  table_rises q r le within =
      let same : q + (r - q) ≡ r = omega arith in
      subst (λ (k : ℕ). table q ≤ table k) same (rises_by (r - q) q (omega arith))

pub rises : (q r : ℕ) → q ≤ r → r ≤ 127 → quant_factor q ≤ quant_factor r
rises = table_rises quant_factor all_rise

least : quant_factor 0 ≡ 4
unfolding quant_factor
least = refl

greatest : quant_factor 127 ≡ 14446490411
unfolding quant_factor
greatest = refl

pub factor_range : (q : ℕ) → q ≤ 127 → (4 ≤ quant_factor q) × (quant_factor q < 2 ^ 34)
factor_range q within = (omega (arith, least, rises 0 q (omega arith) within), omega (arith, greatest, rises q 127 within (omega arith)))

-- where one index is the last
pub last_is : (last quarters : ℕ) → last ≤ 127 → quant_factor last ≤ quarters → (last < 127 → quarters < quant_factor (last + 1)) → (q : ℕ) → q ≤ 127 → (quant_factor q ≤ quarters) ↔ (q ≤ last)
last_is last quarters few reached next q within = grind (arith, rises)

-- ---- the last index, by the table

is_last : ℕ → ℕ → Bool
is_last quarters last = leb last 126 && (leb (quant_factor last) quarters && leb (quarters + 1) (quant_factor (last + 1)))

all_lasts : holds_below (λ k. is_last (k + 4) (get_or LASTS (k + 4) 0)) 508 ≡ true
unfolding quant_factor is_last
all_lasts = refl

pub record IsLast (quarters last : ℕ) : Type 0 where
  pub value : (q : ℕ) → q ≤ 127 → (quant_factor q ≤ quarters) ↔ (q ≤ last)
  pub range : last ≤ 127

last_from : (quarters last : ℕ) → is_last quarters last ≡ true → IsLast quarters last
unfolding is_last
last_from quarters last test =
    let parts = and_parts _ _ test in
    let both = and_parts _ _ parts.1 in
    let few = leb-true last 126 parts.0 in
    let here = leb-true (quant_factor last) quarters both.0 in
    let next = leb-true (quarters + 1) (quant_factor (last + 1)) both.1 in
    record { value = last_is last quarters (omega (arith, few)) here (λ lt. omega (arith, next)); range = omega (arith, few) }

pub last_at : (quarters : ℕ) → 4 ≤ quarters → quarters < 512 → IsLast quarters (get_or LASTS quarters 0)
last_at quarters some few =
    let same : quarters - 4 + 4 ≡ quarters = omega arith in
    subst (λ (n : ℕ). IsLast n (get_or LASTS n 0)) same (last_from (quarters - 4 + 4) (get_or LASTS (quarters - 4 + 4) 0) (holds_at (λ k. is_last (k + 4) (get_or LASTS (k + 4) 0)) 508 (quarters - 4) all_lasts (omega arith)))

-- ---- the last index, four at a time

greatest_factor : quant_factor 127 < 2 ^ 34
unfolding quant_factor
greatest_factor = omega arith

pub all_reached : (quarters : ℕ) → 2 ^ 34 ≤ quarters → (q : ℕ) → q ≤ 127 → (quant_factor q ≤ quarters) ↔ (q ≤ 127)
all_reached quarters many = last_is 127 quarters (omega arith) (omega (arith, greatest_factor)) (λ lt. absurd (omega arith))

pub factor_at : (q : ℕ) → q < 128 → get_or FACTORS q 0 ≡ quant_factor q
factor_at q small = eqb-true _ _ (holds_at (λ q. eqb (get_or FACTORS q 0) (quant_factor q)) 128 q all_factors small)

-- the power of two that is at most so many quarters
pub some_power : (power quarters : ℕ) → quarters < 2 * 2 ^ power → 4 ≤ quarters → 2 ≤ power
some_power zero quarters above many = absurd (omega arith)
some_power (suc zero) quarters above many = absurd (omega arith)
some_power (suc (suc power)) quarters above many = omega arith

pub few_powers : (power quarters : ℕ) → 2 ^ power ≤ quarters → quarters < 2 ^ 34 → power < 34
few_powers power quarters below few =
    elim (cases_lt power 34) [
      | inl lt ↦ lt
      | inr many ↦ let more : 2 ^ 34 ≤ 2 ^ power = pow-le-pow_right (omega arith) {j = power} many in absurd (omega (arith, more))
    ]

power_at : (n : ℕ) → n < 32 → quant_factor (4 * n) ≡ 2 ^ (n + 2)
power_at n small = eqb-true _ _ (holds_at (λ n. eqb (quant_factor (4 * n)) (2 ^ (n + 2))) 32 n all_powers small)

pub first_reached : (power quarters : ℕ) → 2 ≤ power → power < 34 → 2 ^ power ≤ quarters → quant_factor (4 * (power - 2)) ≤ quarters
first_reached power quarters some few below = grind (arith, power_at)

pub fourth_not : (power quarters : ℕ) → 2 ≤ power → power < 33 → quarters < 2 * 2 ^ power → quarters < quant_factor (4 * (power - 2) + 4)
fourth_not power quarters some few above =
    let next : 4 * (power - 1) ≡ 4 * (power - 2) + 4 = omega arith in
    let same : power - 1 + 2 ≡ suc power = omega arith in
    omega (arith, sym (ap quant_factor next) ∙ power_at (power - 1) (omega arith) ∙ ap (λ (n : ℕ). 2 ^ n) same, pow-suc 2 power)

-- how many of the next three factors are reached
not_reached : (quarters factor is : ℕ) → (is ≡ 1) ↔ (factor ≤ quarters) → is ≤ 1 → quarters < factor → is ≡ 0
not_reached quarters factor is exactly few lt = grind arith

module _ (quarters first one two three : ℕ) (few : first ≤ 124) (from : quant_factor first ≤ quarters) (to : first < 124 → quarters < quant_factor (first + 4))
    (is_one : (one ≡ 1) ↔ (quant_factor (first + 1) ≤ quarters)) (is_two : (two ≡ 1) ↔ (quant_factor (first + 2) ≤ quarters)) (is_three : (three ≡ 1) ↔ (quant_factor (first + 3) ≤ quarters))
    (one_most : one ≤ 1) (two_most : two ≤ 1) (three_most : three ≤ 1) where
  reached_at : (n : ℕ) → n ≤ 3 → quant_factor (first + n) ≤ quarters → (first + n < 127 → quarters < quant_factor (first + n + 1)) → one + two + three ≡ n
      → (q : ℕ) → q ≤ 127 → (quant_factor q ≤ quarters) ↔ (q ≤ first + (one + two + three))
  reached_at n small here next sum = rw sum (last_is (first + n) quarters (omega arith) here next)

  beyond : (n m : ℕ) → n ≤ m → m ≤ 3 → quarters < quant_factor (first + n) → quarters < quant_factor (first + m)
  beyond n m le small lt = omega (arith, lt, rises (first + n) (first + m) (omega arith) (omega arith))

  within : (n m : ℕ) → n ≤ m → m ≤ 3 → quant_factor (first + m) ≤ quarters → quant_factor (first + n) ≤ quarters
  within n m le small h = omega (arith, h, rises (first + n) (first + m) (omega arith) (omega arith))

  after : (n m : ℕ) → n + 1 ≡ m → quarters < quant_factor (first + m) → quarters < quant_factor (first + n + 1)
  after n m next lt = let same : first + m ≡ first + n + 1 = omega arith in subst (λ (k : ℕ). quarters < quant_factor k) same lt

  pub reached : (q : ℕ) → q ≤ 127 → (quant_factor q ≤ quarters) ↔ (q ≤ first + (one + two + three))
  reached = grind (arith, not_reached, beyond, reached_at, after)

-- ---- digits of a quotient

-- so many digits where 1 is added are a quotient of at least so many ones
pub digits_are : (digits magnitude factor quotient : ℕ) → 1 ≤ digits → 0 < factor → quotient ≡ 4 * magnitude / (2 ^ digits - 1) → (2 ^ digits ≤ 4 * magnitude / factor + 1) ↔ (factor ≤ quotient)
digits_are digits magnitude factor quotient some large is =
    let two : 2 ≤ 2 ^ digits = pow-le-pow_right (omega arith) {i = 1} {j = digits} some in
    let least = 2 ^ digits - 1 in
    let by_factor = le-div_iff_mul-le {k = factor} {x = least} {y = 4 * magnitude} large in
    let by_least = le-div_iff_mul-le {k = least} {x = factor} {y = 4 * magnitude} (omega (arith, two)) in (
      (λ h. let one : least * factor ≤ 4 * magnitude = by_factor.0 (omega arith) in let other : factor ≤ 4 * magnitude / least = by_least.1 (omega (arith, one)) in omega (arith, is, other)),
      (λ h. let one : factor * least ≤ 4 * magnitude = by_least.0 (omega (arith, is)) in let other : least ≤ 4 * magnitude / factor = by_factor.1 (omega (arith, one)) in omega (arith, other, two)),
    )

pub some_quarters : (digits magnitude quotient : ℕ) → 1 ≤ digits → 2 ^ digits ≤ magnitude + 1 → quotient ≡ 4 * magnitude / (2 ^ digits - 1) → 4 ≤ quotient
some_quarters digits magnitude quotient some few is =
    let two : 2 ≤ 2 ^ digits = pow-le-pow_right (omega arith) {i = 1} {j = digits} some in
    let least = 2 ^ digits - 1 in
    let by_least = le-div_iff_mul-le {k = least} {x = 4} {y = 4 * magnitude} (omega (arith, two)) in
    omega (arith, is, by_least.1 (omega arith))

pub few_digits : (digits magnitude : ℕ) → 2 ^ digits ≤ magnitude + 1 → magnitude < 2 ^ 60 → digits ≤ 60
few_digits digits magnitude h small =
    elim (cases_lt 60 digits) [
      | inl lt ↦ let more : 2 ^ 61 ≤ 2 ^ digits = pow-le-pow_right (omega arith) {j = digits} lt in absurd (omega (arith, more))
      | inr le ↦ le
    ]

pub some_factor : (q : ℕ) → q ≤ 127 → 0 < quant_factor q
some_factor q few = let first : quant_factor 0 ≡ 4 = power_at 0 (omega arith) in omega (arith, rises 0 q (omega arith) few, first)

-- ---- offsets

all_offsets_rise : holds_below (λ q. leb (quant_offset q) (quant_offset (q + 1))) 127 ≡ true
unfolding quant_factor quant_offset
all_offsets_rise = refl

offset_rises : (q r : ℕ) → q ≤ r → r ≤ 127 → quant_offset q ≤ quant_offset r
offset_rises = table_rises quant_offset all_offsets_rise

second : quant_factor 1 ≡ 5
unfolding quant_factor
second = refl

-- half of the factor, less 1 at the first two indexes
pub offset_at : (q few : ℕ) → few ≤ 1 → (few ≡ 1) ↔ (q < 2) → (quant_factor q + 1) / 2 - few ≡ quant_offset q
unfolding quant_offset
offset_at q few most is = grind (arith, least, second)

-- what is narrow at an index is narrow at those below it
pub narrow_below : (magnitude q r : ℕ) → r ≤ q → q ≤ 127 → IsNarrow magnitude q → IsNarrow magnitude r
narrow_below magnitude q r le within narrow =
    let factors = rises r q le within in
    let times = mul-le-mul_left magnitude factors in
    (omega (arith, factors, narrow.0), omega (arith, times, offset_rises r q le within, narrow.1))
