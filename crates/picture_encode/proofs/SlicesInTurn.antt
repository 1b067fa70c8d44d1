-- Slices that are encoded one after another, from one up to another.
use Rattle.std.proofs.Common.{◌≡◌, ℕ, zero, suc, ◌+◌, ◌-◌, ◌<◌, ◌≤◌, Bool, List, [], ◌∷◌, ◌++◌, sym, ap, subst, ◌∙◌, arith}
use Rattle.std.specs.List.{AllZip, range_with_len}
use Rattle.picture_encode.specs.IndexedSlices.{IndexedSlice}
use Rattle.picture_encode.specs.Encoded.{Chooses, IsEncoded, IsRefusedSlice, AreSlices, RefusesSlices}
use Rattle.picture_encode.specs.declared.refusal.SliceRefusal.{SliceRefusal}
use Rattle.picture_encode.specs.declared.refusal.SliceRefusal.TheVariants.{SliceTooLarge, NoMemory}
use Rattle.vc_types.specs.Fields.{joined}
use Rattle.vc_types.specs.Planes.{Planes}
use Rattle.vc_types.specs.SenderSettings.{Sending}

-- ---- lists

zip_append : {A B : Type 0} (R : A → B → Type 0) (xs more : List A) (ys others : List B) → AllZip R xs ys → AllZip R more others → AllZip R (xs ++ more) (ys ++ others)
zip_append R [] more [] others h k = k
zip_append R [] more (b ∷ ys) others h k = absurd h
zip_append R (a ∷ xs) more [] others h k = absurd h
zip_append R (a ∷ xs) more (b ∷ ys) others h k = (h.0, zip_append R xs more ys others h.1 k)

range_append : (a m n : ℕ) → range_with_len a (m + n) ≡ range_with_len a m ++ range_with_len (a + m) n
range_append a zero n = grind arith
range_append a (suc m) n =
    let one : suc m + n ≡ suc (m + n) = omega arith in
    let next : a + 1 + m ≡ a + suc m = omega arith in
    ap (λ k. range_with_len a k) one
    ∙ ap (λ (l : List ℕ). a ∷ l) (range_append (a + 1) m n ∙ ap (λ k. range_with_len (a + 1) m ++ range_with_len k n) next)

-- ---- slices

module _ (choice : Chooses) (wanted : Bool) (s : Sending) (planes : Planes) where
  abbrev Encoded : ℕ → IndexedSlice → Type 0
  Encoded = IsEncoded choice wanted s planes

  pub none_encoded : (from to : ℕ) (slices : List IndexedSlice) → to ≤ from → slices ≡ [] → AreSlices choice wanted s planes from to slices
  none_encoded from to slices none empty =
      let no_number : to - from ≡ 0 = omega arith in
      subst (λ (n : ℕ). AllZip Encoded (range_with_len from n) slices) (sym no_number)
      (subst (λ (l : List IndexedSlice). AllZip Encoded (range_with_len from 0) l) (sym empty) tt)

  pub slices_joined : (from mid to : ℕ) (front back : List IndexedSlice) → from ≤ mid → mid ≤ to → AreSlices choice wanted s planes from mid front → AreSlices choice wanted s planes mid to back → AreSlices choice wanted s planes from to (front ++ back)
  slices_joined from mid to front back low high before behind =
      let many : to - from ≡ mid - from + (to - mid) = omega arith in
      let seam : from + (mid - from) ≡ mid = omega arith in
      let numbers : range_with_len from (to - from) ≡ range_with_len from (mid - from) ++ range_with_len mid (to - mid) =
      ap (λ (n : ℕ). range_with_len from n) many
      ∙ range_append from (mid - from) (to - mid)
      ∙ ap (λ (n : ℕ). range_with_len from (mid - from) ++ range_with_len n (to - mid)) seam in
      subst (λ (l : List ℕ). AllZip Encoded l (front ++ back)) (sym numbers)
      (zip_append Encoded (range_with_len from (mid - from)) (range_with_len mid (to - mid)) front back before behind)

  one_slice : (slice : ℕ) (e : IndexedSlice) → IsEncoded choice wanted s planes slice e → AreSlices choice wanted s planes slice (slice + 1) (e ∷ [])
  one_slice slice e is =
      let one : slice + 1 - slice ≡ 1 = omega arith in
      subst (λ (n : ℕ). AllZip Encoded (range_with_len slice n) (e ∷ [])) (sym one) (is, tt)

  pub one_more : (from slice : ℕ) (slices all : List IndexedSlice) (e : IndexedSlice) → from ≤ slice → AreSlices choice wanted s planes from slice slices → all ≡ slices ++ e ∷ [] → IsEncoded choice wanted s planes slice e → AreSlices choice wanted s planes from (slice + 1) all
  one_more from slice slices all e low before grown is =
      subst (λ (l : List IndexedSlice). AreSlices choice wanted s planes from (slice + 1) l) (sym grown)
      (slices_joined from slice (slice + 1) slices (e ∷ []) low (omega arith) before (one_slice slice e is))

  pub refused_here : (from to slice : ℕ) (slices : List IndexedSlice) (e : SliceRefusal) → from ≤ slice → slice < to → AreSlices choice wanted s planes from slice slices → IsRefusedSlice choice wanted s planes slice e → RefusesSlices choice wanted s planes from to e
  refused_here from to slice slices (SliceTooLarge n bytes) low below before is = record {
    slice = slice;
    within = (low, below);
    before = slices;
    encoded = before;
    refused = is;
  }
  refused_here from to slice slices NoMemory low below before is = tt

  pub one_run : (n : ℕ) (run : List IndexedSlice) (before runs : List (List IndexedSlice)) → before ≡ [] → joined runs ≡ joined before ++ run → AreSlices choice wanted s planes 0 n run → AreSlices choice wanted s planes 0 n (joined runs)
  one_run n run before runs none grown is = subst (λ (l : List IndexedSlice). AreSlices choice wanted s planes 0 n l) (sym (grown ∙ ap (λ (l : List (List IndexedSlice)). joined l ++ run) none)) is
