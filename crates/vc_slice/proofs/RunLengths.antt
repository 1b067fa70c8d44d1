-- The code lengths of a run's numbers, by the thresholds that its coefficients reach.
use Rattle.std.proofs.Common.{◌≡◌, ℕ, zero, suc, ◌+◌, ◌-◌, ◌*◌, ◌/◌, ◌^◌, ◌<◌, ◌≤◌, Bool, false, cond, leb, ℤ, pos, unsigned_abs, List, [], ◌∷◌, ◌++◌, length, take, get_or, refl, sym, ap, subst, ◌∙◌, arith, inl, inr, All, count_by}
use Rattle.std.specs.Prelude.{◌↔◌}
use Rattle.std.specs.List.{list_any}
use Rattle.std.proofs.Math.Nat.{div-mul-le_self, mul-le-mul_right, pow-le-pow_right, pow-suc}
use Rattle.std.proofs.lemmas.Bool.{cases_lt, le-leb, lt-leb}
use Rattle.std.proofs.lemmas.List.Elements.{All-head, All-tail}
use Rattle.std.proofs.lemmas.List.Sums.{sum_by-cons, sum_by-le, sum_by_more, count_by-le-length}
use Rattle.std.proofs.lemmas.Nat.{le-div, pow_pos}
use Rattle.vc_types.specs.Codes.{sint_bits}
use Rattle.vc_types.specs.Lifting.{line_of}
use Rattle.vc_types.specs.Quantisation.{quant_factor, quantised}
use Rattle.vc_types.specs.Slices.{is_large}
use Rattle.vc_quant.proofs.Quotients.{factor_range, not_larger}
use Rattle.vc_slice.specs.Falls.{code_steps}
use Rattle.vc_slice.specs.Inside.{codes_behind, subband_numbers}
use Rattle.vc_slice.specs.Thresholds.{reaching, steps_of, more_bits}
use Rattle.vc_slice.proofs.BlockCodes.{behind_zero, length_other}
use Rattle.vc_slice.proofs.FallSums.{abs_quantised, first_step, length_steps, next_step, no_step, one_step, small_at, steps_none, steps_up}

-- ---- a threshold

-- a quotient reaches a number exactly where the dividend reaches the product
reached : (n factor product quarters : ℕ) → 0 < factor → product ≡ n * factor → (n ≤ quarters / factor) ↔ (product ≤ quarters)
reached n factor product quarters some is =
    (λ le. omega (arith, is, mul-le-mul_right factor le, div-mul-le_self quarters factor), λ le. le-div n quarters factor some (omega (arith, is, le)))

-- a number has so many digits, where 1 is added, exactly where the threshold is reached
has_digits : (digits factor threshold quarters : ℕ) → 0 < factor → threshold + factor ≡ 2 ^ digits * factor → (2 ^ digits ≤ quarters / factor + 1) ↔ (threshold ≤ quarters)
has_digits digits factor threshold quarters some is = by_one (2 ^ digits) (pow_pos digits) is
  where
    by_one : (power : ℕ) → 0 < power → threshold + factor ≡ power * factor → (power ≤ quarters / factor + 1) ↔ (threshold ≤ quarters)
    by_one zero other same = absurd (omega arith)
    by_one (suc n) other same =
        let own : threshold ≡ n * factor = omega (arith, same) in
        let both = reached n factor threshold quarters some own in
        (λ le. both.0 (omega (arith, le)), λ le. omega (arith, both.1 le))

pub next_threshold : (digits factor threshold : ℕ) → threshold + factor ≡ 2 ^ digits * factor → 2 * threshold + factor + factor ≡ 2 ^ (digits + 1) * factor
next_threshold digits factor threshold is =
    let next : digits + 1 ≡ suc digits = omega arith in
    let power = pow-suc 2 digits in
    rw next (rw power (omega (arith, is)))

pub few_digits : (digits factor threshold : ℕ) → 4 ≤ factor → factor < 2 ^ 34 → threshold < 2 ^ 36 → threshold + factor ≡ 2 ^ digits * factor → digits ≤ 60
few_digits digits factor threshold large small few is =
    elim (cases_lt digits 61) [
      | inl lt ↦ omega arith
      | inr le ↦ absurd (omega (arith, is, mul-le-mul_right factor (pow-le-pow_right {n = 2} (omega arith) {i = 61} {j = digits} le)))
    ]

-- ---- the bits of a code

-- the first threshold adds three
first_digit : (factor quarters : ℕ) → 0 < factor → code_steps 1 (quarters / factor + 1) ≡ 3 * cond (leb factor quarters) 1 0
first_digit factor quarters some =
    let one : factor ≡ 1 * factor = omega arith in
    let both = reached 1 factor factor quarters some one in
    elim (cases_lt quarters factor) [
      | inl lt ↦
          let none : quarters / factor + 1 < 2 = (elim (cases_lt (quarters / factor) 1) [ inl few ↦ omega (arith, few) | inr many ↦ absurd (omega (arith, lt, both.0 many)) ]) in
          one_step (quarters / factor + 1) none ∙ ap (λ (b : Bool). 3 * cond b 1 0) (sym (lt-leb factor quarters lt))
      | inr le ↦ first_step (quarters / factor + 1) (omega (arith, both.1 le)) ∙ ap (λ (b : Bool). 3 * cond b 1 0) (sym (le-leb factor quarters le))
    ]

-- each that follows adds two
next_digit : (digits factor threshold quarters : ℕ) → 1 ≤ digits → 0 < factor → threshold + factor ≡ 2 ^ (digits + 1) * factor
    → code_steps (digits + 1) (quarters / factor + 1) ≡ code_steps digits (quarters / factor + 1) + 2 * cond (leb threshold quarters) 1 0
next_digit digits factor threshold quarters other some is =
    let both = has_digits (digits + 1) factor threshold quarters some is in
    elim (cases_lt quarters threshold) [
      | inl lt ↦
          let few : quarters / factor + 1 < 2 ^ (digits + 1) = (elim (cases_lt (quarters / factor + 1) (2 ^ (digits + 1))) [ inl below ↦ below | inr over ↦ absurd (omega (arith, lt, both.0 over)) ]) in
          omega (arith, no_step digits (quarters / factor + 1) other few, ap (λ (b : Bool). 2 * cond b 1 0) (lt-leb threshold quarters lt))
      | inr le ↦ omega (arith, next_step digits (quarters / factor + 1) other (both.1 le), ap (λ (b : Bool). 2 * cond b 1 0) (le-leb threshold quarters le))
    ]

-- where no more is reached
last_digit : (digits factor threshold quarters : ℕ) → 1 ≤ digits → digits + 1 ≤ 60 → 0 < factor → threshold + factor ≡ 2 ^ (digits + 1) * factor → quarters < threshold
    → code_steps 60 (quarters / factor + 1) ≡ code_steps digits (quarters / factor + 1)
last_digit digits factor threshold quarters other few some is lt =
    let both = has_digits (digits + 1) factor threshold quarters some is in
    let below : quarters / factor + 1 < 2 ^ (digits + 1) = (elim (cases_lt (quarters / factor + 1) (2 ^ (digits + 1))) [ inl below ↦ below | inr over ↦ absurd (omega (arith, lt, both.0 over)) ]) in
    steps_up digits (quarters / factor + 1) other (omega (arith, few)) below

no_number : (factor quarters : ℕ) → 0 < factor → quarters < factor → quarters / factor ≡ 0
no_number factor quarters some lt =
    let one : factor ≡ 1 * factor = omega arith in
    elim (cases_lt (quarters / factor) 1) [
      | inl few ↦ omega (arith, few)
      | inr many ↦ absurd (omega (arith, lt, (reached 1 factor factor quarters some one).0 many))
    ]

few_steps : (k n : ℕ) → code_steps k n ≤ 2 * k + 1
unfolding code_steps
few_steps zero n = omega arith
few_steps (suc zero) n = elim (cases_lt n 2) [ inl lt ↦ rw (lt-leb 2 n lt) (omega arith) | inr le ↦ rw (le-leb 2 n le) (omega arith) ]
few_steps (suc (suc k)) n =
    elim (cases_lt n (2 ^ suc (suc k))) [
      | inl lt ↦ rw (lt-leb (2 ^ suc (suc k)) n lt) (omega (arith, few_steps (suc k) n))
      | inr le ↦ rw (le-leb (2 ^ suc (suc k)) n le) (omega (arith, few_steps (suc k) n))
    ]

-- ---- the bits of a run's codes

count_cons : (p : ℤ → Bool) (z : ℤ) (zs : List ℤ) → count_by p (z ∷ zs) ≡ cond (p z) 1 0 + count_by p zs
count_cons p z zs = sum_by-cons (λ y. cond (p y) 1 0) z zs

pub first_bits : (factor : ℕ) (zs : List ℤ) → 0 < factor → more_bits 1 factor zs ≡ 3 * reaching factor zs
first_bits factor [] some = refl
first_bits factor (z ∷ zs) some =
    omega (arith, sum_by-cons (steps_of 1 factor) z zs, count_cons (λ y. leb factor (4 * unsigned_abs y)) z zs, first_digit factor (4 * unsigned_abs z) some, first_bits factor zs some)

pub next_bits : (digits factor threshold : ℕ) (zs : List ℤ) → 1 ≤ digits → 0 < factor → threshold + factor ≡ 2 ^ (digits + 1) * factor
    → more_bits (digits + 1) factor zs ≡ more_bits digits factor zs + 2 * reaching threshold zs
next_bits digits factor threshold [] other some is = refl
next_bits digits factor threshold (z ∷ zs) other some is =
    omega (arith, sum_by-cons (steps_of (digits + 1) factor) z zs, sum_by-cons (steps_of digits factor) z zs, count_cons (λ y. leb threshold (4 * unsigned_abs y)) z zs, next_digit digits factor threshold (4 * unsigned_abs z) other some is, next_bits digits factor threshold zs other some is)

pub last_bits : (digits factor threshold most : ℕ) (zs : List ℤ) → 1 ≤ digits → digits + 1 ≤ 60 → 0 < factor → threshold + factor ≡ 2 ^ (digits + 1) * factor → 4 * most < threshold
    → All (λ z. unsigned_abs z ≤ most) zs → more_bits 60 factor zs ≡ more_bits digits factor zs
last_bits digits factor threshold most [] other few some is lt all = refl
last_bits digits factor threshold most (z ∷ zs) other few some is lt all =
    let own : unsigned_abs z ≤ most = All-head (λ (y : ℤ). unsigned_abs y ≤ most) z zs all in
    omega (
      arith,
      sum_by-cons (steps_of 60 factor) z zs,
      sum_by-cons (steps_of digits factor) z zs,
      last_digit digits factor threshold (4 * unsigned_abs z) other few some is (omega (arith, own, lt)),
      last_bits digits factor threshold most zs other few some is lt (All-tail (λ (y : ℤ). unsigned_abs y ≤ most) z zs all),
    )

pub no_bits : (factor most : ℕ) (zs : List ℤ) → 0 < factor → 4 * most < factor → All (λ z. unsigned_abs z ≤ most) zs → more_bits 60 factor zs ≡ 0
no_bits factor most [] some lt all = refl
no_bits factor most (z ∷ zs) some lt all =
    let own : unsigned_abs z ≤ most = All-head (λ (y : ℤ). unsigned_abs y ≤ most) z zs all in
    let none = no_number factor (4 * unsigned_abs z) some (omega (arith, own, lt)) in
    omega (arith, sum_by-cons (steps_of 60 factor) z zs, steps_none (4 * unsigned_abs z / factor + 1) (omega (arith, none)), no_bits factor most zs some lt (All-tail (λ (y : ℤ). unsigned_abs y ≤ most) z zs all))

pub few_bits : (digits factor : ℕ) (zs : List ℤ) → digits ≤ 60 → more_bits digits factor zs ≤ 121 * length zs
few_bits digits factor zs few =
    let each : All (λ (z : ℤ). steps_of digits factor z ≤ 121) zs = λ k d lt. omega (arith, few_steps digits (4 * unsigned_abs (get_or zs k d) / factor + 1), few) in
    omega (arith, sum_by-le (steps_of digits factor) 121 zs each)

-- ---- counting

pub few_reach : (quarters : ℕ) (zs : List ℤ) → reaching quarters zs ≤ length zs
few_reach quarters zs = count_by-le-length (λ z. leb quarters (4 * unsigned_abs z)) zs

pub none_counted : (quarters : ℕ) (zs : List ℤ) → 0 ≡ reaching quarters (take 0 zs)
none_counted quarters zs = refl

-- four times a magnitude reaches a number where the magnitude reaches its quarter
same_test : (quarters magnitude : ℕ) → ◌≡◌ {A = ℕ} (cond (leb ((quarters + 3) / 4) magnitude) 1 0) (cond (leb quarters (4 * magnitude)) 1 0)
same_test quarters magnitude =
    elim (cases_lt (4 * magnitude) quarters) [
      | inl lt ↦ rw (lt-leb ((quarters + 3) / 4) magnitude (omega (arith, lt)), lt-leb quarters (4 * magnitude) lt) refl
      | inr le ↦ rw (le-leb ((quarters + 3) / 4) magnitude (omega (arith, le)), le-leb quarters (4 * magnitude) le) refl
    ]

pub one_counted : (quarters i count more : ℕ) (zs : List ℤ) → i < length zs → more ≡ cond (leb ((quarters + 3) / 4) (unsigned_abs (line_of zs i))) 1 0
    → count ≡ reaching quarters (take i zs) → count + more ≡ reaching quarters (take (i + 1) zs)
one_counted quarters i count more zs lt is before =
    omega (arith, is, before, same_test quarters (unsigned_abs (line_of zs i)), sum_by_more (λ (z : ℤ). cond (leb quarters (4 * unsigned_abs z)) 1 0) zs i (pos 0) lt)

-- ---- the codes of a run

module _ (index : ℕ) (within : index ≤ 127) where
  abbrev factor : ℕ
  factor = quant_factor index

  some : 0 < factor
  some = omega (arith, (factor_range index within).0)

  zero_number : (z : ℤ) → 4 * unsigned_abs z < factor → unsigned_abs (quantised z index) ≡ 0
  zero_number z lt = omega (arith, abs_quantised z index, no_number factor (4 * unsigned_abs z) some lt)

  -- zeros wait
  pub zeros_wait : (n : ℕ) (zs more : List ℤ) → ((i : ℕ) → i < length zs → 4 * unsigned_abs (line_of zs i) < factor)
      → codes_behind n (subband_numbers index zs ++ more) ≡ codes_behind (n + length zs) more
  zeros_wait n [] more all = ap (λ (k : ℕ). codes_behind k more) (let e : n ≡ n + 0 = omega arith in e)
  zeros_wait n (z ∷ zs) more all =
      let next : n + 1 + length zs ≡ n + suc (length zs) = omega arith in
      behind_zero n (quantised z index) (subband_numbers index zs ++ more) (zero_number z (all 0 (omega arith)))
      ∙ zeros_wait (n + 1) zs more (λ i lt. all (suc i) (omega (arith, lt)))
      ∙ ap (λ (k : ℕ). codes_behind k more) next

  zeros_have_none : (zs : List ℤ) → ((i : ℕ) → i < length zs → 4 * unsigned_abs (line_of zs i) < factor) → more_bits 60 factor zs ≡ 0
  zeros_have_none [] all = refl
  zeros_have_none (z ∷ zs) all =
      let none = no_number factor (4 * unsigned_abs z) some (all 0 (omega arith)) in
      omega (arith, sum_by-cons (steps_of 60 factor) z zs, steps_none (4 * unsigned_abs z / factor + 1) (omega (arith, none)), zeros_have_none zs (λ i lt. all (suc i) (omega (arith, lt))))

  -- a number that isn't 0
  other_long : (z : ℤ) → 0 < unsigned_abs (quantised z index) → unsigned_abs z < 2 ^ 60 → length (sint_bits (quantised z index)) ≡ steps_of 60 factor z + 1
  other_long z other small =
      let size = abs_quantised z index in
      let few : unsigned_abs (quantised z index) < 2 ^ 60 = omega (arith, size, not_larger (unsigned_abs z) factor (factor_range index within).0, small) in
      length_steps (quantised z index) other few ∙ ap (λ (k : ℕ). code_steps 60 (k + 1) + 1) size

  -- the last that isn't 0 stands in a place
  pub codes_of_run : (k n : ℕ) (zs more : List ℤ) → k < length zs → factor ≤ 4 * unsigned_abs (line_of zs k)
      → ((i : ℕ) → k + 1 ≤ i → i < length zs → 4 * unsigned_abs (line_of zs i) < factor)
      → ((i : ℕ) → i < length zs → unsigned_abs (line_of zs i) < 2 ^ 60)
      → length (codes_behind n (subband_numbers index zs ++ more)) ≡ n + (k + 1) + more_bits 60 factor zs + length (codes_behind (length zs - (k + 1)) more)
  codes_of_run k n [] more within last zeros small = absurd (omega arith)
  codes_of_run zero n (z ∷ zs) more within last zeros small =
      let number = quantised z index in
      let one : factor ≡ 1 * factor = omega arith in
      let other : 0 < unsigned_abs number = omega (arith, abs_quantised z index, (reached 1 factor factor (4 * unsigned_abs z) some one).1 last) in
      let behind : (i : ℕ) → i < length zs → 4 * unsigned_abs (line_of zs i) < factor = λ i lt. zeros (suc i) (omega arith) (omega (arith, lt)) in
      let rest = ap length (zeros_wait 0 zs more behind) in
      let left : length (z ∷ zs) - (0 + 1) ≡ 0 + length zs = omega arith in
      let same = ap (λ (j : ℕ). length (codes_behind j more)) left in
      omega (arith, length_other n number (subband_numbers index zs ++ more) other, other_long z other (small 0 (omega arith)), rest, same, sum_by-cons (steps_of 60 factor) z zs, zeros_have_none zs behind)
  codes_of_run (suc k) n (z ∷ zs) more within last zeros small =
      let number = quantised z index in
      let behind : (i : ℕ) → k + 1 ≤ i → i < length zs → 4 * unsigned_abs (line_of zs i) < factor = λ i low lt. zeros (suc i) (omega (arith, low)) (omega (arith, lt)) in
      let fit : (i : ℕ) → i < length zs → unsigned_abs (line_of zs i) < 2 ^ 60 = λ i lt. small (suc i) (omega (arith, lt)) in
      let left : length (z ∷ zs) - (suc k + 1) ≡ length zs - (k + 1) = omega arith in
      let same = ap (λ (j : ℕ). length (codes_behind j more)) left in
      elim (cases_lt (4 * unsigned_abs z) factor) [
        | inl lt ↦
            let none = no_number factor (4 * unsigned_abs z) some lt in
            let rest = codes_of_run k (n + 1) zs more (omega (arith, within)) last behind fit in
            omega (arith, ap length (behind_zero n number (subband_numbers index zs ++ more) (zero_number z lt)), rest, same, sum_by-cons (steps_of 60 factor) z zs, steps_none (4 * unsigned_abs z / factor + 1) (omega (arith, none)))
        | inr le ↦
            let one : factor ≡ 1 * factor = omega arith in
            let other : 0 < unsigned_abs number = omega (arith, abs_quantised z index, (reached 1 factor factor (4 * unsigned_abs z) some one).1 le) in
            let rest = codes_of_run k 0 zs more (omega (arith, within)) last behind fit in
            omega (arith, length_other n number (subband_numbers index zs ++ more) other, other_long z other (small 0 (omega arith)), rest, same, sum_by-cons (steps_of 60 factor) z zs)
      ]

  -- by how many numbers there are up to it
  pub codes_of_used : (used n : ℕ) (zs more : List ℤ) → 0 < used → used ≤ length zs → factor ≤ 4 * unsigned_abs (line_of zs (used - 1))
      → ((i : ℕ) → used ≤ i → i < length zs → 4 * unsigned_abs (line_of zs i) < factor) → list_any is_large zs ≡ false
      → length (codes_behind n (subband_numbers index zs ++ more)) ≡ n + used + more_bits 60 factor zs + length (codes_behind (length zs - used) more)
  codes_of_used zero n zs more other within last zeros small = absurd (omega arith)
  codes_of_used (suc k) n zs more other within last zeros small =
      let next : k + 1 ≡ suc k = omega arith in
      let place : suc k - 1 ≡ k = omega arith in
      let here = subst (λ (j : ℕ). factor ≤ 4 * unsigned_abs (line_of zs j)) place last in
      let run = codes_of_run k n zs more (omega arith) here (λ i low lt. zeros i (omega (arith, low)) lt) (λ i lt. small_at i zs small lt) in
      omega (arith, run, ap (λ (j : ℕ). length (codes_behind (length zs - j) more)) next)
