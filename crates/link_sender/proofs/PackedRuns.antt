-- Encoded slices in runs, which are packed one after another.
use Rattle.std.proofs.Common.{◌≡◌, ℕ, zero, suc, ◌+◌, ◌<◌, ◌≤◌, All, List, [], ◌∷◌, ◌++◌, get_or, length, take, take-suc, sym, ap, subst, ◌∙◌, arith}
use Rattle.std.proofs.lemmas.List.{length-append, map-append}
use Rattle.std.proofs.lemmas.List.Elements.{All-cons, All-head, All-nil, All-tail}
use Rattle.picture_encode.specs.IndexedSlices.{IndexedSlice}
use Rattle.picture_encode.specs.Encoded.{bytes_of_slices}
use Rattle.picture_encode.proofs.CodedRuns.{joined_more}
use Rattle.vc_types.specs.Fields.{joined}

-- ---- a slice of a run

pub next_slice : (slices : List (List ℕ)) (i : ℕ) → i < length slices → take (i + 1) slices ≡ take i slices ++ get_or slices i [] ∷ []
next_slice slices i below =
    let next : i + 1 ≡ suc i = omega arith in
    ap (λ k. take k slices) next ∙ take-suc slices i [] below

-- ---- a run of a picture

module _ (P : List ℕ → Type 0) where
  all_left : (xs ys : List (List ℕ)) → All P (xs ++ ys) → All P xs
  all_left [] ys h = All-nil P
  all_left (x ∷ xs) ys h = All-cons P x xs (All-head P x (xs ++ ys) h) (all_left xs ys (All-tail P x (xs ++ ys) h))

  all_right : (xs ys : List (List ℕ)) → All P (xs ++ ys) → All P ys
  all_right [] ys h = h
  all_right (x ∷ xs) ys h = all_right xs ys (All-tail P x (xs ++ ys) h)

  pub run_fits : (runs : List (List IndexedSlice)) (i : ℕ) (run : List IndexedSlice) → i < length runs → run ≡ get_or runs i run → All P (bytes_of_slices (joined runs)) → All P (bytes_of_slices run)
  run_fits [] i run below is all = absurd (omega (arith, below))
  run_fits (first ∷ runs) zero run below is all =
      subst (λ (l : List IndexedSlice). All P (bytes_of_slices l)) (sym is)
      (all_left (bytes_of_slices first) (bytes_of_slices (joined runs)) (subst (λ (l : List (List ℕ)). All P l) (map-append (λ (e : IndexedSlice). e.bytes) first (joined runs)) all))
  run_fits (first ∷ runs) (suc i) run below is all =
      run_fits runs i run (omega (arith, below)) is
      (all_right (bytes_of_slices first) (bytes_of_slices (joined runs)) (subst (λ (l : List (List ℕ)). All P l) (map-append (λ (e : IndexedSlice). e.bytes) first (joined runs)) all))

pub next_run : (runs : List (List IndexedSlice)) (i : ℕ) (run : List IndexedSlice) → i < length runs → run ≡ get_or runs i run → joined (take (i + 1) runs) ≡ joined (take i runs) ++ run
next_run runs i run below is =
    let next : i + 1 ≡ suc i = omega arith in
    ap (λ k. joined (take k runs)) next
    ∙ ap (λ (l : List (List IndexedSlice)). joined l) (take-suc runs i run below)
    ∙ joined_more (take i runs) (get_or runs i run)
    ∙ ap (λ (l : List IndexedSlice). joined (take i runs) ++ l) (sym is)

upto_all : (runs : List (List IndexedSlice)) (k : ℕ) → length (joined (take k runs)) ≤ length (joined runs)
upto_all runs zero = omega arith
upto_all [] (suc k) = omega arith
upto_all (run ∷ runs) (suc k) =
    let front = length-append run (joined (take k runs)) in
    let whole = length-append run (joined runs) in
    let rest = upto_all runs k in
    omega (arith, front, whole, rest)

-- the slices up to the end of a run are among all
pub next_within : (runs : List (List IndexedSlice)) (i : ℕ) (run : List IndexedSlice) → i < length runs → run ≡ get_or runs i run → length (joined (take i runs)) + length run ≤ length (joined runs)
next_within runs i run below is =
    let next = ap length (next_run runs i run below is) ∙ length-append (joined (take i runs)) run in
    let upto = upto_all runs (i + 1) in
    omega (arith, next, upto)

pub bytes_more : (front run all : List IndexedSlice) → all ≡ front ++ run → bytes_of_slices front ++ bytes_of_slices run ≡ bytes_of_slices all
bytes_more front run all is = sym (map-append (λ (e : IndexedSlice). e.bytes) front run) ∙ ap (λ (l : List IndexedSlice). bytes_of_slices l) (sym is)
