-- The coefficients of a slice, whose three blocks were read one behind the other.
use Rattle.std.proofs.Common.{◌≡◌, ℕ, ◌+◌, ◌<◌, ◌≤◌, List, ◌++◌, [], length, take, drop, ℤ, pos, true, false, arith, refl, sym, ap, ◌∙◌, append_assoc, length-append}
use Rattle.std.specs.Prelude.{Ok}
use Rattle.std.specs.List.{list_any}
use Rattle.std.proofs.Math.Seq.{take-append_seam, drop-append_seam, drop-append-add, take-length}
use Rattle.std.proofs.lemmas.List.{ext_get_or, get_or-take, get_or-drop, length-take-le, length-drop}
use Rattle.std.proofs.lemmas.List.Folds.{list_any-append}
use Rattle.vc_types.specs.Lifting.{line_of}
use Rattle.vc_types.specs.Slices.{Coefficients, in_range, is_large}
use Rattle.vc_slice.specs.OneBlock.{three_parts}

-- what is large in a list isn't in its front
pub large_behind : (front back : List ℤ) → list_any is_large front ≡ false → list_any is_large (front ++ back) ≡ true → list_any is_large back ≡ true
large_behind front back none some = sym (list_any-append is_large front back ∙ rw none refl) ∙ some

-- three lists are known
same_three : (y c1 c2 ys us vs : List ℤ) → y ≡ ys → c1 ≡ us → c2 ≡ vs → ◌≡◌ {A = Coefficients} (record { y = y; c1 = c1; c2 = c2 }) (record { y = ys; c1 = us; c2 = vs })
same_three y c1 c2 ys us vs e0 e1 e2 = rw e0 (rw e1 (rw e2 refl))

module _ (y c1 c2 : ℕ) (ys us vs : List ℤ) (hy : length ys ≡ y) (h1 : length us ≡ c1) (h2 : length vs ≡ c2) where
  -- in lists one behind the other
  pub parts_of_three : three_parts y c1 c2 (ys ++ (us ++ vs)) ≡ record { y = ys; c1 = us; c2 = vs }
  parts_of_three = grind (arith, same_three, take-append_seam, drop-append_seam, drop-append-add, take-length)

  all_three : (none first second third : List ℤ) → none ≡ [] → first ≡ none ++ ys → second ≡ first ++ us → third ≡ second ++ vs → third ≡ ys ++ (us ++ vs)
  all_three none first second third e0 e1 e2 e3 = e3 ∙ ap (λ (zs : List ℤ). zs ++ vs) (e2 ∙ ap (λ (zs : List ℤ). zs ++ us) (e1 ∙ ap (λ (zs : List ℤ). zs ++ ys) e0)) ∙ append_assoc ys us vs

  pub long_three : (none first second third : List ℤ) → none ≡ [] → first ≡ none ++ ys → second ≡ first ++ us → third ≡ second ++ vs → y + c1 + c2 ≤ length third
  long_three none first second third e0 e1 e2 e3 = grind (arith, all_three, length-append)

  -- read one behind the other, and none is large
  pub read_three : (none first second third : List ℤ) → none ≡ [] → first ≡ none ++ ys → second ≡ first ++ us → third ≡ second ++ vs → list_any is_large third ≡ false
      → Ok (three_parts y c1 c2 third) ≡ in_range (record { y = ys; c1 = us; c2 = vs })
  read_three none first second third e0 e1 e2 e3 small =
      grind (arith, all_three, append_assoc, parts_of_three)

  -- so many numbers stand there
  stand : (from n : ℕ) (numbers xs : List ℤ) → from + n ≤ length numbers → length xs ≡ n → ((i : ℕ) → i < n → line_of numbers (from + i) ≡ line_of xs i) → take n (drop from numbers) ≡ xs
  stand from n numbers xs room len each =
      let left = length-drop from numbers in
      let long = length-take-le n (drop from numbers) (omega (arith, left)) in
      ext_get_or (pos 0) (take n (drop from numbers)) xs (long ∙ sym len) (λ i h. (
      let within : i < n = omega (arith, long) in
      get_or-take n (drop from numbers) i (pos 0) within ∙ get_or-drop from numbers i (pos 0) ∙ each i within))

  -- the same, by places
  pub parts_by_place : (numbers : List ℤ) → y + c1 + c2 ≤ length numbers
      → ((i : ℕ) → i < y → line_of numbers i ≡ line_of ys i)
      → ((i : ℕ) → i < c1 → line_of numbers (y + i) ≡ line_of us i)
      → ((i : ℕ) → i < c2 → line_of numbers (y + c1 + i) ≡ line_of vs i)
      → three_parts y c1 c2 numbers ≡ record { y = ys; c1 = us; c2 = vs }
  parts_by_place numbers room at0 at1 at2 = same_three (take y numbers) (take c1 (drop y numbers)) (take c2 (drop (y + c1) numbers)) ys us vs
      (stand 0 y numbers ys (omega arith) hy (λ i h. ap (line_of numbers) (omega arith) ∙ at0 i h))
      (stand y c1 numbers us (omega arith) h1 at1)
      (stand (y + c1) c2 numbers vs (omega arith) h2 at2)
