-- Matrices that are cut and filled: their values, and the form that code writes.
use Rattle.std.proofs.Common.{◌≡◌, ℕ, zero, suc, ◌+◌, ◌-◌, ◌*◌, ◌≤◌, ◌≢◌, Bool, true, Some, None, List, [], ◌∷◌, ◌++◌, length, take, drop, replicate, arith, refl, ◌∙◌, sym, ap}
use Rattle.std.specs.Prelude.{nat_le, ◌==◌, slice_index_or}
use Rattle.std.specs.List.{list_all}
use Rattle.std.proofs.lemmas.Bool.{and_parts, and_from, cond-false, ne_eqb}
use Rattle.std.proofs.lemmas.List.{take-replicate, drop-replicate, length-take-le}
use Rattle.std.proofs.lemmas.List.Folds.{list_all-append}
use Rattle.std.proofs.Math.Seq.{take-append-add}
use Rattle.vc_types.specs.Limits.{matrix_fits}
use Rattle.vc_types.specs.Quantisation.{filled_matrix, default_matrix, default_rows}

list_all-take : (p : ℕ → Bool) (n : ℕ) (xs : List ℕ) → list_all p xs ≡ true → list_all p (take n xs) ≡ true
list_all-take p zero xs h = refl
list_all-take p (suc n) [] h = refl
list_all-take p (suc n) (x ∷ xs) h =
    let parts = and_parts (p x) (list_all p xs) h in
    and_from (p x) (list_all p (take n xs)) parts.0 (list_all-take p n xs parts.1)

-- the values of a matrix that is cut
pub matrix_fits-take : (n : ℕ) (xs : List ℕ) → matrix_fits xs ≡ true → matrix_fits (take n xs) ≡ true
matrix_fits-take n xs h = list_all-take (λ value. nat_le value 127) n xs h

-- and of one that is filled
pub matrix_fits-filled : (xs : List ℕ) → matrix_fits xs ≡ true → matrix_fits (filled_matrix xs) ≡ true
matrix_fits-filled xs h =
    list_all-take (λ value. nat_le value 127) 16 (xs ++ replicate 16 0) (list_all-append (λ value. nat_le value 127) xs (replicate 16 0) ∙ and_from (matrix_fits xs) true h refl)

-- a matrix of zeros whose front is written over
pub filled-front : (xs : List ℕ) → length xs ≤ 16 → xs ++ drop (length xs) (replicate 16 0) ≡ filled_matrix xs
filled-front xs h =
    let split : 16 ≡ length xs + (16 - length xs) = omega arith in
    sym (ap (λ n. take n (xs ++ replicate 16 0)) split ∙ take-append-add xs (replicate 16 0) (16 - length xs) ∙ ap (λ ys. xs ++ ys) (take-replicate (16 - length xs) 16 0 (omega arith) ∙ sym (drop-replicate (length xs) 16 0)))

pub filled-cut : (front row : List ℕ) (used n : ℕ) → front ≡ take n row → used ≡ n → n ≤ length row → n ≤ 16 → front ++ drop used (replicate 16 0) ≡ filled_matrix (take n row)
filled-cut front row used n is same long short =
    let len : length front ≡ used = ap length is ∙ length-take-le n row long ∙ sym same in
    let few : length front ≤ 16 = omega arith in
    ap (λ k. front ++ drop k (replicate 16 0)) (sym len) ∙ filled-front front few ∙ ap filled_matrix is

pub default_matrix-none : (wavelet depth : ℕ) → depth ≡ 5 → default_matrix wavelet depth ≡ None
unfolding default_matrix
default_matrix-none wavelet depth e = rw e refl

pub default_matrix-some : (wavelet depth : ℕ) (row : List ℕ) → depth ≢ 5 → take (1 + 3 * depth) row ≡ take (1 + 3 * depth) (slice_index_or (default_rows depth) wavelet []) → default_matrix wavelet depth ≡ Some (filled_matrix (take (1 + 3 * depth) row))
unfolding default_matrix
default_matrix-some wavelet depth row some is = cond-false (depth == 5) None (Some (filled_matrix (take (1 + 3 * depth) (slice_index_or (default_rows depth) wavelet [])))) (ne_eqb depth 5 some) ∙ ap (λ entries. Some (filled_matrix entries)) (sym is)
