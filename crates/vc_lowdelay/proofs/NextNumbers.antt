-- The numbers of a block that are read one after another, and what they stand for.
use Rattle.std.proofs.Common.{◌≡◌, ℕ, suc, ◌+◌, ◌*◌, ◌<◌, Bool, true, List, ℤ, refl, sym, ap, ◌∙◌, arith}
use Rattle.vc_types.specs.Bounded.{bounded_sint}
use Rattle.vc_types.specs.Quantisation.{dequantised}
use Rattle.vc_types.specs.Slices.{is_large}
use Rattle.vc_golomb.specs.Numbers.{number_at}
use Rattle.vc_lowdelay.specs.Placed.{ReadsLarge, read_at}

pub first_number : (bits : List Bool) → number_at bits 0 ≡ (bounded_sint bits).0
unfolding number_at
first_number bits = refl

pub later_number : (bits : List Bool) (k : ℕ) → number_at bits (suc k) ≡ number_at (bounded_sint bits).1 k
unfolding number_at
later_number bits k = refl

-- the block from number i on
abbrev pub ReadTo : List Bool → ℕ → List Bool → Type 0
ReadTo first i block = (k : ℕ) → number_at first (i + k) ≡ number_at block k

pub none_read : (first block : List Bool) → block ≡ first → ReadTo first 0 block
none_read first block e k = (let same : 0 + k ≡ k = omega arith in ap (number_at first) same) ∙ ap (λ (bits : List Bool). number_at bits k) (sym e)

module _ (first old : List Bool) (i : ℕ) (read : ReadTo first i old) where
  pub one_more_read : (new : List Bool) → new ≡ (bounded_sint old).1 → ReadTo first (i + 1) new
  one_more_read new e k =
      (let same : i + 1 + k ≡ i + suc k = omega arith in ap (number_at first) same)
      ∙ read (suc k) ∙ later_number old k ∙ ap (λ (bits : List Bool). number_at bits k) (sym e)

  this_number : number_at first i ≡ (bounded_sint old).0
  this_number = (let same : i ≡ i + 0 = omega arith in ap (number_at first) same) ∙ read 0 ∙ first_number old

  pub value_is : (z : ℤ) (q : ℕ) → z ≡ dequantised (bounded_sint old).0 q → z ≡ read_at first q i
  value_is z q e = e ∙ ap (λ (n : ℤ). dequantised n q) (sym this_number)

  pub large_read : (q count : ℕ) → i < count → is_large (dequantised (bounded_sint old).0 q) ≡ true → ReadsLarge count first q
  large_read q count below large = record {
    place = i;
    below = below;
    large = ap (λ (n : ℤ). is_large (dequantised n q)) this_number ∙ large;
  }

-- a number more than twice as many
pub twice_more : (first new : List Bool) (i : ℕ) → ReadTo first (2 * i + 1 + 1) new → ReadTo first (2 * (i + 1)) new
twice_more first new i read k = (let same : 2 * (i + 1) + k ≡ 2 * i + 1 + 1 + k = omega arith in ap (number_at first) same) ∙ read k
