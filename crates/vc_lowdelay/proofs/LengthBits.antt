-- The bits of a luma length.
use Rattle.std.proofs.Common.{◌≡◌, ℕ, zero, suc, List, ◌+◌, ◌-◌, ◌*◌, ◌^◌, ◌<◌, ◌≤◌, Bool, true, false, leb, length, get_or, sym, ap, ◌∙◌, arith, pow-suc, inl, inr}
use Rattle.std.specs.List.{range_with_len}
use Rattle.std.proofs.lemmas.Nat.{pow-add}
use Rattle.std.proofs.Math.Pow.{pow_mono}
use Rattle.std.proofs.lemmas.Bool.{cases_lt, le-leb}
use Rattle.std.proofs.lemmas.Bool.Decides.{nat_tests}
use Rattle.std.proofs.lemmas.List.FromFn.{get_or-range_with_len, length-range_with_len}
use Rattle.std.proofs.lemmas.List.Sums.{position_or_len_is}
use Rattle.vc_lowdelay.specs.LowDelay.{length_bits}

abbrev is_enough : ℕ → ℕ → Bool
is_enough bytes m = leb (8 * bytes - 7) (2 ^ m)

abbrev counts : List ℕ
counts = range_with_len 0 20

long : length counts ≡ 20
long = length-range_with_len 0 20

not_enough : (a b : ℕ) → b < a → leb a b ≡ false
not_enough a b h = grind (arith, nat_tests)

at_number : (bytes m : ℕ) → m < 20 → is_enough bytes (get_or counts m 0) ≡ is_enough bytes m
at_number bytes m below =
    let number : 0 + m ≡ m = omega arith in
    ap (is_enough bytes) (get_or-range_with_len 0 20 m 0 below ∙ number)

-- a power of two is above its exponent
above : (k : ℕ) → k < 2 ^ k
above zero = omega arith
above (suc k) = omega (arith, pow-suc 2 k, above k)

pub no_bits : (bytes : ℕ) → 1 ≤ bytes → 8 * bytes - 8 ≡ 0 → 0 ≡ length_bits bytes
unfolding length_bits
no_bits bytes some none =
    sym (position_or_len_is (is_enough bytes) counts 0 0 (omega (arith, long)) (λ k h. absurd (omega (arith, h)))
    (λ inside. at_number bytes 0 (omega arith) ∙ le-leb (8 * bytes - 7) (2 ^ 0) (omega (arith, some, none))))

module _ (bytes : ℕ) (few : bytes ≤ 2 ^ 16) (log : ℕ) (low : 2 ^ log ≤ 8 * bytes - 8) where
  pub small : log < 19
  small = elim (cases_lt log 19) [
    | inl lt ↦ lt
    | inr ge ↦ absurd (let more : 2 ^ 19 ≤ 2 ^ log = pow_mono ge in omega (arith, more, low, few))
  ]

  pub room : 7 + (log + 1) ≤ 8 * bytes
  room = omega (arith, above log, low)

  pub by_log : 8 * bytes - 8 < 2 * 2 ^ log → log + 1 ≡ length_bits bytes
  unfolding length_bits
  by_log next = sym (position_or_len_is (is_enough bytes) counts (log + 1) 0 (omega (arith, long, small)) fewer enough)
    where
      fewer : (k : ℕ) → k < log + 1 → is_enough bytes (get_or counts k 0) ≡ false
      fewer k below =
          let up : 2 ^ k ≤ 2 ^ log = pow_mono (let h : k ≤ log = omega (arith, below) in h) in
          at_number bytes k (omega (arith, below, small)) ∙ not_enough (8 * bytes - 7) (2 ^ k) (omega (arith, up, low, some))
        where
          some : 0 < 2 ^ log
          some = omega (arith, above log)

      enough : log + 1 < length counts → is_enough bytes (get_or counts (log + 1) 0) ≡ true
      enough inside =
          let twice : 2 ^ (log + 1) ≡ 2 ^ log * 2 = pow-add 2 log 1 in
          at_number bytes (log + 1) (omega (arith, small)) ∙ le-leb (8 * bytes - 7) (2 ^ (log + 1)) (omega (arith, next, twice))
