-- Coefficients of a component that are read of its block one after another, and put behind others.
use Rattle.std.proofs.Common.{◌≡◌, ℕ, suc, ◌+◌, ◌*◌, ◌^◌, ◌<◌, Bool, List, [], ◌∷◌, ◌++◌, length, ℤ, pos, unsigned_abs, true, refl, sym, ap, subst, ◌∙◌, arith, length-append, inl, inr}
use Rattle.std.proofs.lemmas.Bool.{cases_lt}
use Rattle.std.proofs.lemmas.List.{get_or_append_left, get_or_push}
use Rattle.vc_types.specs.declared.video.Component.{Component}
use Rattle.vc_types.specs.declared.video.Component.TheVariants.{Y, C1, C2}
use Rattle.vc_types.specs.Bounded.{bounded_sint}
use Rattle.vc_types.specs.Quantisation.{dequantised}
use Rattle.vc_types.specs.Slices.{is_large}
use Rattle.vc_golomb.specs.Numbers.{number_at}
use Rattle.vc_lowdelay.specs.Components.{Follow, FollowsLarge, IsBehind}
use Rattle.vc_lowdelay.specs.Placed.{place_of_number, read_at}
use Rattle.vc_lowdelay.proofs.NextNumbers.{later_number}

-- ---- a place further in a block

pub behind_luma : (old new : List Bool) → new ≡ (bounded_sint old).1 → IsBehind Y 1 old new
behind_luma old new e k =
    (let same : 1 + k ≡ suc k = omega arith in ap (number_at old) same)
    ∙ later_number old k ∙ ap (λ (bits : List Bool). number_at bits k) (sym e)

two_later : (old next new : List Bool) → next ≡ (bounded_sint old).1 → new ≡ (bounded_sint next).1 → (k : ℕ) → number_at old (suc (suc k)) ≡ number_at new k
two_later old next new e f k =
    later_number old (suc k) ∙ ap (λ (bits : List Bool). number_at bits (suc k)) (sym e)
    ∙ later_number next k ∙ ap (λ (bits : List Bool). number_at bits k) (sym f)

pub behind_first : (old next new : List Bool) → next ≡ (bounded_sint old).1 → new ≡ (bounded_sint next).1 → IsBehind C1 1 old new
behind_first old next new e f k =
    (let same : 2 * (1 + k) ≡ suc (suc (2 * k)) = omega arith in ap (number_at old) same)
    ∙ two_later old next new e f (2 * k)

pub behind_second : (old next new : List Bool) → next ≡ (bounded_sint old).1 → new ≡ (bounded_sint next).1 → IsBehind C2 1 old new
behind_second old next new e f k =
    (let same : 2 * (1 + k) + 1 ≡ suc (suc (2 * k + 1)) = omega arith in ap (number_at old) same)
    ∙ two_later old next new e f (2 * k + 1)

pub none_behind : (c : Component) (first block : List Bool) → block ≡ first → IsBehind c 0 first block
none_behind c first block e k =
    (let same : 0 + k ≡ k = omega arith in ap (λ (n : ℕ). number_at first (place_of_number c n)) same)
    ∙ ap (λ (bits : List Bool). number_at bits (place_of_number c k)) (sym e)

pub further : (c : Component) (i n : ℕ) (first block new : List Bool) → IsBehind c i first block → IsBehind c n block new → IsBehind c (i + n) first new
further c i n first block new before more k =
    (let same : i + n + k ≡ i + (n + k) = omega arith in ap (λ (m : ℕ). number_at first (place_of_number c m)) same)
    ∙ before (n + k) ∙ more k

-- the number at the place that comes next
module _ (c : Component) (first block : List Bool) (i : ℕ) (behind : IsBehind c i first block) where
  pub number_there : (k : ℕ) → number_at block (place_of_number c k) ≡ number_at first (place_of_number c (i + k))
  number_there k = sym (behind k)

  pub read_there : (q k : ℕ) → read_at block q (place_of_number c k) ≡ read_at first q (place_of_number c (i + k))
  read_there q k = ap (λ (n : ℤ). dequantised n q) (number_there k)

  read_next : (q : ℕ) → read_at block q (place_of_number c 0) ≡ read_at first q (place_of_number c i)
  read_next q = read_there q 0 ∙ (let same : i + 0 ≡ i = omega arith in ap (λ (n : ℕ). read_at first q (place_of_number c n)) same)

  pub large_next : (q count : ℕ) → i < count → is_large (read_at block q (place_of_number c 0)) ≡ true → FollowsLarge c count first q
  large_next q count below large = record { place = i; below = below; large = ap is_large (sym (read_next q)) ∙ large }

  -- ---- a coefficient more

  module _ (q : ℕ) (start : List ℤ) where
    pub one_more_follows : (old : List ℤ) (z : ℤ) → Follow c i first q start old → z ≡ read_at block q (place_of_number c 0) → unsigned_abs z < 2 ^ 60
        → Follow c (i + 1) first q start (old ++ z ∷ [])
    one_more_follows old z follow is own = record {
      long = omega (arith, length-append old (z ∷ []), follow.long);
      before = λ k h. get_or_append_left old (z ∷ []) (pos 0) k (omega (arith, h, follow.long)) ∙ follow.before k h;
      each = λ k h. elim (cases_lt k i) [
        | inl lt ↦ get_or_append_left old (z ∷ []) (pos 0) (length start + k) (omega (arith, lt, follow.long)) ∙ follow.each k lt
        | inr ge ↦ (
            let same : i ≡ k = omega (arith, h, ge) in
            get_or_push old z (pos 0) (length start + k) (omega (arith, same, follow.long)) ∙ here
            ∙ ap (λ (n : ℕ). read_at first q (place_of_number c n)) same)
      ];
      small = λ k h. elim (cases_lt k i) [
        | inl lt ↦ follow.small k lt
        | inr ge ↦ (
            let same : i ≡ k = omega (arith, h, ge) in
            subst (λ (n : ℕ). unsigned_abs (read_at first q (place_of_number c n)) < 2 ^ 60) same
            (subst (λ (v : ℤ). unsigned_abs v < 2 ^ 60) here own))
      ];
    }
      where
        here : z ≡ read_at first q (place_of_number c i)
        here = is ∙ read_next q

pub none_follow : (c : Component) (first : List Bool) (q : ℕ) (start : List ℤ) → Follow c 0 first q start start
none_follow c first q start = record {
  long = omega arith;
  before = λ i h. refl;
  each = λ k h. absurd (omega (arith, h));
  small = λ k h. absurd (omega (arith, h));
}
