-- All slices of a picture, and those up to one that is refused.
use Rattle.std.proofs.Common.{◌≡◌, ℕ, zero, suc, ◌+◌, ◌-◌, ◌<◌, Bool, true, false, cond, List, [], ◌∷◌, ◌++◌, length, map, Some, None, Result, Ok, Err, refl, sym, ap, subst, ◌∙◌, arith}
use Rattle.std.specs.Prelude.{All, IfOk, IfErr}
use Rattle.std.specs.Global.{Vec}
use Rattle.std.specs.List.{AllZip, enumerate_from, range_with_len}
use Rattle.std.proofs.lemmas.List.Elements.{All-nil, All-cons}
use Rattle.std.proofs.lemmas.List.FromFn.{map-range_with_len_more, length-map-range_with_len}
use Rattle.link_model.specs.SendingFaults as faults
use Rattle.link_model.specs.SendingFaults.{SendFault, first_of_slices, is_too_large, slice_fault}
use Rattle.link_model.specs.SendingPictures.{Need, need_of, sent_parameters, sent_slice}
use Rattle.picture_encode.specs.IndexedSlices.{IndexedSlice}
use Rattle.picture_encode.specs.Encoded.{Chooses, IsSized, IsEncoded, IsRefusedSlice, AreSlices, RefusesSlices, EncodesRuns, AreFirstAnswers, AreFirstSlices, IsRefusedPicture, indices_of, bytes_of_slices}
use Rattle.picture_encode.specs.declared.refusal.SliceRefusal.{SliceRefusal}
use Rattle.picture_encode.specs.declared.refusal.SliceRefusal.TheVariants.{SliceTooLarge, NoMemory}
use Rattle.vc_types.specs.Fields.{joined}
use Rattle.vc_types.specs.Planes.{Planes}
use Rattle.vc_types.specs.SenderSettings.{Sending}
use Rattle.vc_types.specs.Subbands.{slice_count}

-- ---- lists

pub zip_more : {A B : Type 0} (R : A → B → Type 0) (xs : List A) (ys : List B) (x : A) (y : B) → AllZip R xs ys → R x y → AllZip R (xs ++ x ∷ []) (ys ++ y ∷ [])
zip_more R [] [] x y h k = (k, tt)
zip_more R [] (b ∷ ys) x y h k = absurd h
zip_more R (a ∷ xs) [] x y h k = absurd h
zip_more R (a ∷ xs) (b ∷ ys) x y h k = (h.0, zip_more R xs ys x y h.1 k)

pub zip_length : {A B : Type 0} (R : A → B → Type 0) (xs : List A) (ys : List B) → AllZip R xs ys → length xs ≡ length ys
zip_length R [] [] h = refl
zip_length R [] (b ∷ ys) h = absurd h
zip_length R (a ∷ xs) [] h = absurd h
zip_length R (a ∷ xs) (b ∷ ys) h = ap suc (zip_length R xs ys h.1)

pub enumerate_more : {A : Type 0} (n : ℕ) (xs : List A) (x : A) → enumerate_from n (xs ++ x ∷ []) ≡ enumerate_from n xs ++ (n + length xs, x) ∷ []
enumerate_more n [] x = let none : n ≡ n + 0 = omega arith in ap (λ k. (k, x) ∷ []) none
enumerate_more n (y ∷ xs) x =
    let next : n + 1 + length xs ≡ n + suc (length xs) = omega arith in
    ap (λ l. (n, y) ∷ l) (enumerate_more (n + 1) xs x ∙ ap (λ k. enumerate_from (n + 1) xs ++ (k, x) ∷ []) next)

-- ---- slices that fit, and one more

module _ (s : Sending) (planes : Planes) where
  one_fits : (z : ℕ × ℕ) (rest : List (ℕ × ℕ)) → is_too_large s planes z.0 z.1 ≡ false → first_of_slices s planes (z ∷ rest) ≡ first_of_slices s planes rest
  unfolding first_of_slices
  one_fits z rest h = ap (λ b. cond b (Some (slice_fault s planes z.0 z.1)) (first_of_slices s planes rest)) h

  one_is_large : (z : ℕ × ℕ) (rest : List (ℕ × ℕ)) → is_too_large s planes z.0 z.1 ≡ true → first_of_slices s planes (z ∷ rest) ≡ Some (slice_fault s planes z.0 z.1)
  unfolding first_of_slices
  one_is_large z rest h = ap (λ b. cond b (Some (slice_fault s planes z.0 z.1)) (first_of_slices s planes rest)) h

  none_left : first_of_slices s planes [] ≡ None
  unfolding first_of_slices
  none_left = refl

  pub behind : (zs rest : List (ℕ × ℕ)) → first_of_slices s planes zs ≡ None → first_of_slices s planes (zs ++ rest) ≡ first_of_slices s planes rest
  unfolding first_of_slices
  behind [] rest h = refl
  behind (z ∷ zs) rest h = first (is_too_large s planes z.0 z.1) (λ e. behind zs rest e) h
    where
      first : (b : Bool) → (first_of_slices s planes zs ≡ None → first_of_slices s planes (zs ++ rest) ≡ first_of_slices s planes rest) → cond b (Some (slice_fault s planes z.0 z.1)) (first_of_slices s planes zs) ≡ None
          → cond b (Some (slice_fault s planes z.0 z.1)) (first_of_slices s planes (zs ++ rest)) ≡ first_of_slices s planes rest
      first true more e = absurd cc
      first false more e = more e

  pub more_is_large : (n index : ℕ) (zs : List (ℕ × ℕ)) → first_of_slices s planes zs ≡ None → is_too_large s planes n index ≡ true → first_of_slices s planes (zs ++ (n, index) ∷ []) ≡ Some (slice_fault s planes n index)
  more_is_large n index zs h large = behind zs ((n, index) ∷ []) h ∙ one_is_large (n, index) [] large

module _ (choice : Chooses) (wanted : Bool) (s : Sending) (planes : Planes) where
  pub no_memory : IsRefusedPicture choice wanted s planes NoMemory
  no_memory = record { count = 0; indices = []; some = omega arith; answers = tt; fault = tt }

  -- ---- slices by their numbers

  abbrev Encoded : ℕ → IndexedSlice → Type 0
  Encoded = IsEncoded choice wanted s planes

  abbrev piece : ℕ × ℕ → List ℕ
  piece z = sent_slice (sent_parameters s) planes z.0 z.1

  answers_of : (numbers : List ℕ) (slices : List IndexedSlice) → AllZip Encoded numbers slices → AllZip choice (map (need_of s wanted planes) numbers) (indices_of slices)
  answers_of [] [] h = tt
  answers_of [] (e ∷ slices) h = absurd h
  answers_of (n ∷ numbers) [] h = absurd h
  answers_of (n ∷ numbers) (e ∷ slices) h = (h.0.answer, answers_of numbers slices h.1)

  sized_of : (numbers : List ℕ) (slices : List IndexedSlice) → AllZip Encoded numbers slices → All (IsSized s) (bytes_of_slices slices)
  sized_of [] [] h = All-nil (IsSized s)
  sized_of [] (e ∷ slices) h = absurd h
  sized_of (n ∷ numbers) [] h = absurd h
  sized_of (n ∷ numbers) (e ∷ slices) h = All-cons (IsSized s) e.bytes (bytes_of_slices slices) h.0.encoded.sized (sized_of numbers slices h.1)

  fit_of : (a n : ℕ) (slices : List IndexedSlice) → AllZip Encoded (range_with_len a n) slices → first_of_slices s planes (enumerate_from a (indices_of slices)) ≡ None
  fit_of a zero [] h = none_left s planes
  fit_of a zero (e ∷ slices) h = absurd h
  fit_of a (suc n) [] h = absurd h
  fit_of a (suc n) (e ∷ slices) h = one_fits s planes (a, e.index) (enumerate_from (a + 1) (indices_of slices)) h.0.encoded.fits ∙ fit_of (a + 1) n slices h.1

  bytes_of : (a n : ℕ) (slices : List IndexedSlice) → AllZip Encoded (range_with_len a n) slices → bytes_of_slices slices ≡ map piece (enumerate_from a (indices_of slices))
  bytes_of a zero [] h = refl
  bytes_of a zero (e ∷ slices) h = absurd h
  bytes_of a (suc n) [] h = absurd h
  bytes_of a (suc n) (e ∷ slices) h =
      let rest = bytes_of (a + 1) n slices h.1 in
      λ i. h.0.encoded.bytes_are i ∷ rest i

  first_slices : (n : ℕ) (slices : List IndexedSlice) → AreSlices choice wanted s planes 0 n slices → AreFirstSlices choice wanted s planes n slices
  first_slices n slices h =
      let same : n - 0 ≡ n = omega arith in
      let all : AllZip Encoded (range_with_len 0 n) slices = subst (λ (m : ℕ). AllZip Encoded (range_with_len 0 m) slices) same h in
      record {
        answers = answers_of (range_with_len 0 n) slices all;
        fit = fit_of 0 n slices all;
        sized = sized_of (range_with_len 0 n) slices all;
        bytes_are = bytes_of 0 n slices all;
      }

  -- ---- slices up to one that is refused

  module _ (n : ℕ) (slices : List IndexedSlice) (first : AreFirstSlices choice wanted s planes n slices) where
    abbrev needs : ℕ → List Need
    needs k = map (need_of s wanted planes) (range_with_len 0 k)

    count_is : length (indices_of slices) ≡ n
    count_is = sym (zip_length choice (needs n) (indices_of slices) first.answers) ∙ length-map-range_with_len (need_of s wanted planes) 0 n

    more_answers : (index : ℕ) → choice (need_of s wanted planes n) index → AreFirstAnswers choice wanted s planes (n + 1) (indices_of slices ++ index ∷ [])
    more_answers index answer =
        subst (λ l. AllZip choice l (indices_of slices ++ index ∷ [])) (sym (map-range_with_len_more (need_of s wanted planes) 0 n n (omega arith)))
        (zip_more choice (needs n) (indices_of slices) (need_of s wanted planes n) index first.answers answer)

    numbered : (index : ℕ) → enumerate_from 0 (indices_of slices ++ index ∷ []) ≡ enumerate_from 0 (indices_of slices) ++ (n, index) ∷ []
    numbered index =
        let at : 0 + length (indices_of slices) ≡ n = omega (arith, count_is) in
        enumerate_more 0 (indices_of slices) index ∙ ap (λ k. enumerate_from 0 (indices_of slices) ++ (k, index) ∷ []) at

    one_refused : (e : SliceRefusal) → n < slice_count (sent_parameters s) → IsRefusedSlice choice wanted s planes n e → IsRefusedPicture choice wanted s planes e
    one_refused (SliceTooLarge m bytes) h is =
        let large = is.2.1 in
        record {
          count = n + 1;
          indices = indices_of slices ++ is.0 ∷ [];
          some = omega arith;
          answers = more_answers is.0 is.1;
          fault =
              ap (first_of_slices s planes) (numbered is.0)
              ∙ more_is_large s planes n is.0 (enumerate_from 0 (indices_of slices)) first.fit large.too_large
              ∙ (λ i. Some (faults.SliceTooLarge (sym is.2.0 i) (sym large.needs i)));
        }
    one_refused NoMemory h is = no_memory

  picture_refused : (n : ℕ) (e : SliceRefusal) → n ≡ slice_count (sent_parameters s) → RefusesSlices choice wanted s planes 0 n e → IsRefusedPicture choice wanted s planes e
  picture_refused n (SliceTooLarge m bytes) all is =
      one_refused is.slice is.before (first_slices is.slice is.before is.encoded) (SliceTooLarge m bytes) (omega (arith, is.within.1, all)) is.refused
  picture_refused n NoMemory all is = no_memory

  -- ---- a picture

  pub picture_encoded : (n : ℕ) (r : Result (Vec (List IndexedSlice)) SliceRefusal) → EncodesRuns choice wanted s planes 0 n r → IfOk r (λ runs. AreFirstSlices choice wanted s planes n (joined runs.items))
  picture_encoded n (Ok runs) is = first_slices n (joined runs.items) is
  picture_encoded n (Err e) is = tt

  pub picture_not_encoded : (n : ℕ) (r : Result (Vec (List IndexedSlice)) SliceRefusal) → n ≡ slice_count (sent_parameters s) → EncodesRuns choice wanted s planes 0 n r → IfErr r (λ e. IsRefusedPicture choice wanted s planes e)
  picture_not_encoded n (Ok runs) all is = tt
  picture_not_encoded n (Err e) all is = picture_refused n e all is
