-- The codes of a block, number after number and subband after subband.
use Rattle.std.proofs.Common.{◌≡◌, ℕ, zero, suc, ◌+◌, ◌-◌, ◌<◌, ◌≤◌, ℤ, unsigned_abs, Bool, true, false, List, [], ◌∷◌, ◌++◌, length, take, drop, replicate, refl, sym, ap, ◌∙◌, arith, append_assoc, length-append, length-drop, inl, inr}
use Rattle.std.specs.Prelude.{slice_index_or, map, ◌||◌}
use Rattle.std.specs.List.{flat_map, list_any, zip}
use Rattle.std.proofs.lemmas.List.{length-replicate, take-append-drop}
use Rattle.std.proofs.lemmas.List.Folds.{list_any-append}
use Rattle.std.proofs.lemmas.Bool.{cases_eq, ne_eqb}
use Rattle.std.proofs.lemmas.Grind.{replicate_next}
use Rattle.vc_types.specs.declared.video.Component.{Component}
use Rattle.vc_types.specs.Codes.{uint_bits, spread_digits, sint_bits}
use Rattle.vc_types.specs.Quantisation.{subband_count, quantised}
use Rattle.vc_types.specs.Slices.{Coefficients, coefficients_of, is_large}
use Rattle.vc_types.specs.Subbands.{area, subband_at, slice_rectangle}
use Rattle.vc_types.specs.TransformParameters.{Parameters}
use Rattle.vc_types.specs.Encoding.{kept_before, without_last_zeros, quantised_numbers, block_bits, component_bits}
use Rattle.vc_types.specs.SliceCoefficients.{AreSliceCoefficients}
use Rattle.vc_slice.specs.Inside.{codes_behind, subband_numbers}
use Rattle.vc_slice.proofs.BlockCoefficients.{quantisers_from, quantisers_from-all, quantisers_from-none, quantisers_from-more, length-quantisers}

-- ---- zeros wait for a number that isn't 0

pub behind_zero : (n : ℕ) (z : ℤ) (zs : List ℤ) → unsigned_abs z ≡ 0 → codes_behind n (z ∷ zs) ≡ codes_behind (n + 1) zs
unfolding codes_behind
behind_zero n z zs none = rw none refl

pub behind_other : (n : ℕ) (z : ℤ) (zs : List ℤ) → 0 < unsigned_abs z → codes_behind n (z ∷ zs) ≡ replicate n true ++ sint_bits z ++ codes_behind 0 zs
unfolding codes_behind
behind_other n z zs some = rw (ne_eqb (unsigned_abs z) 0 (omega (arith, some))) refl

pub length_other : (n : ℕ) (z : ℤ) (zs : List ℤ) → 0 < unsigned_abs z → length (codes_behind n (z ∷ zs)) ≡ n + (length (sint_bits z) + length (codes_behind 0 zs))
length_other n z zs some = grind (arith, length-append, length-replicate, behind_other)

-- the zeros that waited and a number that isn't 0 are written
pub written_number : (n : ℕ) (z : ℤ) (zs : List ℤ) (old ones new : List Bool) → 0 < unsigned_abs z → ones ≡ old ++ replicate n true → new ≡ ones ++ sint_bits z → new ++ codes_behind 0 zs ≡ old ++ codes_behind n (z ∷ zs)
written_number n z zs old ones new some is_ones is_new = grind (arith, append_assoc, behind_other)

-- the codes of the numbers that are kept, where n zeros came just before
abbrev after_zeros : ℕ → List ℤ → List Bool
after_zeros n [] = []
after_zeros n (z ∷ zs) = replicate n true ++ flat_map sint_bits (z ∷ zs)

none_waits : (zs : List ℤ) → after_zeros 0 zs ≡ flat_map sint_bits zs
none_waits [] = refl
none_waits (z ∷ zs) = refl

zero_code : (z : ℤ) → unsigned_abs z ≡ 0 → true ∷ [] ≡ sint_bits z
unfolding sint_bits uint_bits spread_digits
zero_code z none = grind arith

one_waits : (n : ℕ) (z : ℤ) (zs : List ℤ) → unsigned_abs z ≡ 0 → after_zeros (n + 1) zs ≡ after_zeros n (kept_before zs z)
one_waits n z [] none = rw none refl
one_waits n z (x ∷ xs) none =
    ap (λ (bits : List Bool). bits ++ flat_map sint_bits (x ∷ xs)) (replicate_next n true)
    ∙ append_assoc (replicate n true) (true ∷ []) (flat_map sint_bits (x ∷ xs))
    ∙ ap (λ (bits : List Bool). replicate n true ++ (bits ++ flat_map sint_bits (x ∷ xs))) (zero_code z none)

pub kept_other : (z : ℤ) (zs : List ℤ) → 0 < unsigned_abs z → kept_before zs z ≡ z ∷ zs
kept_other z [] some = rw (ne_eqb (unsigned_abs z) 0 (omega (arith, some))) refl
kept_other z (x ∷ xs) some = refl

other_waits : (n : ℕ) (z : ℤ) (zs : List ℤ) → 0 < unsigned_abs z → replicate n true ++ sint_bits z ++ after_zeros 0 zs ≡ after_zeros n (kept_before zs z)
other_waits n z zs some = grind (arith, none_waits, append_assoc, kept_other)

behind_is : (n : ℕ) (zs : List ℤ) → codes_behind n zs ≡ after_zeros n (without_last_zeros zs)
unfolding codes_behind without_last_zeros
behind_is n [] = refl
behind_is n (z ∷ zs) =
    elim (cases_eq (unsigned_abs z) 0) [
      | inl none ↦ behind_zero n z zs none ∙ behind_is (n + 1) zs ∙ one_waits n z (without_last_zeros zs) none
      | inr some ↦ behind_other n z zs (omega arith) ∙ ap (λ (bits : List Bool). replicate n true ++ sint_bits z ++ bits) (behind_is 0 zs) ∙ other_waits n z (without_last_zeros zs) (omega arith)
    ]

all_codes : (zs : List ℤ) → codes_behind 0 zs ≡ flat_map sint_bits (without_last_zeros zs)
all_codes zs = behind_is 0 zs ∙ none_waits (without_last_zeros zs)

pub no_more_codes : (n : ℕ) → codes_behind n [] ≡ []
unfolding codes_behind
no_more_codes n = refl

-- ---- the numbers of coefficients, subband by subband

-- the number of each coefficient, by its quantisation index
abbrev numbers_by : List ℕ → List ℤ → List ℤ
numbers_by indices coefficients = map (λ (z : ℤ × ℕ). quantised z.0 z.1) (zip coefficients indices)

subband_first : (n index : ℕ) (indices : List ℕ) (zs : List ℤ) → n ≤ length zs → numbers_by (replicate n index ++ indices) zs ≡ subband_numbers index (take n zs) ++ numbers_by indices (drop n zs)
subband_first zero index indices zs within = refl
subband_first (suc n) index indices [] within = absurd (omega arith)
subband_first (suc n) index indices (z ∷ zs) within = ap (λ (xs : List ℤ). quantised z index ∷ xs) (subband_first n index indices zs (omega arith))

none_large : (a b : Bool) (zs : List ℤ) → list_any is_large zs ≡ (a || b) → list_any is_large zs ≡ false → (a ≡ false) × (b ≡ false)
none_large a b zs is none = grind arith

pub none_large-parts : (n : ℕ) (zs : List ℤ) → list_any is_large zs ≡ false → (list_any is_large (take n zs) ≡ false) × (list_any is_large (drop n zs) ≡ false)
none_large-parts n zs none = none_large (list_any is_large (take n zs)) (list_any is_large (drop n zs)) zs (ap (list_any is_large) (sym (take-append-drop n zs)) ∙ list_any-append is_large (take n zs) (drop n zs)) none

module _ (p : Parameters) (slice index : ℕ) (c : Component) where
  -- the numbers of coefficients that begin with those of subband b
  unfoldable pub numbers_from : ℕ → List ℤ → List ℤ
  numbers_from b zs = numbers_by (quantisers_from p c slice index b) zs

  -- coefficients that begin with those of subband b, and end with the slice
  pub record AreFrom (b : ℕ) (zs : List ℤ) : Type 0 where
    pub count : length zs ≡ length (quantisers_from p c slice index b)
    pub small : list_any is_large zs ≡ false

  pub all_from : (s : Coefficients) → AreSliceCoefficients p slice s → AreFrom 0 (coefficients_of s c)
  all_from s are = record { count = are.count c ∙ sym (length-quantisers p c slice index) ∙ ap length (sym (quantisers_from-all p c slice index)); small = are.small c }

  pub all_bits : (s : Coefficients) → codes_behind 0 (numbers_from 0 (coefficients_of s c)) ≡ component_bits p slice index s c
  unfolding numbers_from block_bits quantised_numbers
  all_bits s = all_codes (numbers_by (quantisers_from p c slice index 0) (coefficients_of s c)) ∙ ap (λ (qs : List ℕ). flat_map sint_bits (without_last_zeros (numbers_by qs (coefficients_of s c)))) (quantisers_from-all p c slice index)

  pub none_from : (b : ℕ) (zs : List ℤ) → b ≡ subband_count p.depth_ho p.depth → AreFrom b zs → numbers_from b zs ≡ []
  unfolding numbers_from
  none_from b [] last are = refl
  none_from b (z ∷ zs) last are = ap (λ (qs : List ℕ). numbers_by qs (z ∷ zs)) (quantisers_from-none p c slice index b last)

  length_more : (b : ℕ) → b < subband_count p.depth_ho p.depth → length (quantisers_from p c slice index b) ≡ area (slice_rectangle p c (subband_at p.depth_ho p.depth b) slice) + length (quantisers_from p c slice index (b + 1))
  length_more b h = ap length (quantisers_from-more p c slice index b h) ∙ length-append (replicate (area (slice_rectangle p c (subband_at p.depth_ho p.depth b) slice)) (index - slice_index_or p.matrix b 0)) _ ∙ ap (λ (k : ℕ). k + length (quantisers_from p c slice index (b + 1))) (length-replicate (area (slice_rectangle p c (subband_at p.depth_ho p.depth b) slice)) (index - slice_index_or p.matrix b 0))

  -- there are enough for the subband
  pub enough : (b n : ℕ) (zs : List ℤ) → b < subband_count p.depth_ho p.depth → n ≡ area (slice_rectangle p c (subband_at p.depth_ho p.depth b) slice) → AreFrom b zs → n ≤ length zs
  enough b n zs h count are = omega (arith, length_more b h, are.count)

  -- behind a subband
  pub rest_from : (b n : ℕ) (zs behind : List ℤ) → b < subband_count p.depth_ho p.depth → n ≡ area (slice_rectangle p c (subband_at p.depth_ho p.depth b) slice) → behind ≡ drop n zs → AreFrom b zs → AreFrom (b + 1) behind
  rest_from b n zs behind h count is are = rw is (record { count = omega (arith, length_more b h, are.count, length-drop n zs); small = (none_large-parts n zs are.small).1 })

  pub subband_from : (b n q : ℕ) (zs band behind : List ℤ) → b < subband_count p.depth_ho p.depth
      → n ≡ area (slice_rectangle p c (subband_at p.depth_ho p.depth b) slice) → q ≡ index - slice_index_or p.matrix b 0
      → band ≡ take n zs → behind ≡ drop n zs → AreFrom b zs
      → numbers_from b zs ≡ subband_numbers q band ++ numbers_from (b + 1) behind
  unfolding numbers_from
  subband_from b n q zs band behind h count quantiser front back are =
      grind (arith, quantisers_from-more, quantisers_from, subband_first, enough)
