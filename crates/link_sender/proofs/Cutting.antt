-- Slices that are cut from the front of bytes.
use Rattle.std.proofs.Common.{◌≡◌, ◌≤◌, ℕ, zero, suc, List, [], ◌∷◌, length, take, drop, Option, Some, None, Result, Ok, Err, refl, ap, sym, ◌∙◌, subst, arith, IsOk, lt-ltb}
use Rattle.std.proofs.lemmas.Grind.{common_steps}
use Rattle.link_model.specs.Kept.{cut_off, next_slice, next_slices}
use Rattle.vc_types.proofs.FieldCodecs.{and_then_ok}
use Rattle.vc_types.proofs.WholeSlices.{begins}
use Rattle.vc_types.specs.Slices.{CodedSlice, coded_slice, slice_length}
use Rattle.vc_types.specs.TransformParameters.{Parameters}

abbrev pub Cut : Type 0 → Type 0
Cut A = Result (A × List ℕ) (Unit {0})

pub cut_is : {A : Type 0} (x y : A × List ℕ) → ◌≡◌ {A = Cut A} (Ok x) (Ok y) → x ≡ y
cut_is x y h = cc

-- so many slices are cut: one, and the others
pub record CutsOne (p : Parameters) (n : ℕ) (bytes : List ℕ) (slices : List (List ℕ)) : Type 0 where
  pub slice : List ℕ
  pub behind : List ℕ
  pub others : List (List ℕ)
  pub first : next_slice p bytes ≡ Ok (slice, behind)
  pub rest : next_slices p n behind ≡ Ok (others, [])
  pub are : slices ≡ slice ∷ others

module _ (p : Parameters) where
  cuts_one : (n : ℕ) (bytes : List ℕ) (slices : List (List ℕ)) → next_slices p (suc n) bytes ≡ Ok (slices, []) → CutsOne p n bytes slices
  unfolding next_slices
  cuts_one n bytes slices e = grind (arith, common_steps, and_then_ok, cut_is)

  pub one_is_there : (n m : ℕ) (bytes : List ℕ) (slices : List (List ℕ)) → n ≡ suc m → next_slices p n bytes ≡ Ok (slices, []) → IsOk (next_slice p bytes)
  one_is_there n m bytes slices some e =
      let one = cuts_one m bytes slices (rw some at e) in
      rw one.first refl

  -- the slice that was cut, and the others behind it
  pub cut_off_front : (n m : ℕ) (bytes slice behind : List ℕ) (slices : List (List ℕ)) → n ≡ suc m → next_slices p n bytes ≡ Ok (slices, []) → next_slice p bytes ≡ Ok (slice, behind)
      → (others : List (List ℕ)) × (next_slices p m behind ≡ Ok (others, [])) × (slices ≡ slice ∷ others)
  cut_off_front n m bytes slice behind slices some e cut =
      let one = cuts_one m bytes slices (rw some at e) in
      let same = cut_is (one.slice, one.behind) (slice, behind) (sym one.first ∙ cut) in (
        one.others,
        ap (next_slices p m) (sym (ap (λ (x : List ℕ × List ℕ). x.1) same)) ∙ one.rest,
        one.are ∙ ap (λ (x : List ℕ × List ℕ). x.0 ∷ one.others) same,
      )

  pub none_is_left : (n : ℕ) (bytes : List ℕ) (slices : List (List ℕ)) → n ≡ 0 → next_slices p n bytes ≡ Ok (slices, []) → slices ≡ []
  unfolding next_slices
  none_is_left n bytes slices none e =
      let same = cut_is ([], bytes) (slices, []) (rw none at e) in
      sym (ap (λ (x : List (List ℕ) × List ℕ). x.0) same)

-- ---- a slice has its index

no_slice : (prefix scaler : ℕ) → coded_slice prefix scaler [] ≡ Err tt
unfolding coded_slice
no_slice zero scaler = refl
no_slice (suc n) scaler = rw (lt-ltb 0 (suc n) (omega arith)) refl

has_some : (prefix scaler : ℕ) (slice : List ℕ) (coded : CodedSlice) → coded_slice prefix scaler slice ≡ Ok (coded, []) → 1 ≤ length slice
has_some prefix scaler [] coded e = absurd (let none = sym (no_slice prefix scaler) ∙ e in cc)
has_some prefix scaler (b ∷ bytes) coded e = omega arith

by_length : (p : Parameters) (bytes slice behind : List ℕ) (found : Option ℕ) → slice_length p.prefix p.scaler bytes ≡ found → cut_off bytes found ≡ Ok (slice, behind) → 1 ≤ length slice
by_length p bytes slice behind None is e = absurd cc
by_length p bytes slice behind (Some len) is e =
    let own = begins p.prefix p.scaler bytes len is in
    let some = has_some p.prefix p.scaler (take len bytes) own.coded own.alone in
    let same = ap (λ (x : List ℕ × List ℕ). x.0) (cut_is (take len bytes, _) (slice, behind) e) in
    subst (λ (l : List ℕ). 1 ≤ length l) same some

pub some_bytes : (p : Parameters) (bytes slice behind : List ℕ) → next_slice p bytes ≡ Ok (slice, behind) → 1 ≤ length slice
unfolding next_slice
some_bytes p bytes slice behind e = by_length p bytes slice behind (slice_length p.prefix p.scaler bytes) refl e

-- ---- a slice by its length

pub cut_within : (prefix scaler len : ℕ) (bytes : List ℕ) → slice_length prefix scaler bytes ≡ Some len → len ≤ length bytes
cut_within prefix scaler len bytes e = (begins prefix scaler bytes len e).within

pub cut_to : (p : Parameters) (bytes : List ℕ) (len : ℕ) → slice_length p.prefix p.scaler bytes ≡ Some len → next_slice p bytes ≡ Ok (take len bytes, drop len bytes)
unfolding next_slice
cut_to p bytes len e = ap (cut_off bytes) e

pub never_cut : (p : Parameters) (bytes : List ℕ) → slice_length p.prefix p.scaler bytes ≡ None → next_slice p bytes ≡ Err tt
unfolding next_slice
never_cut p bytes e = ap (cut_off bytes) e
