-- The entries of a matrix that no subband uses.
use Rattle.std.proofs.Common.{◌≡◌, ℕ, zero, suc, ◌+◌, ◌-◌, ◌*◌, ◌≤◌, Bool, true, false, cond, eqb, List, [], ◌∷◌, ◌++◌, length, take, drop, replicate, Some, None, refl, sym, ap, subst, ◌∙◌, length-append, arith}
use Rattle.std.specs.Prelude.{slice_index_or}
use Rattle.std.specs.List.{list_all}
use Rattle.std.proofs.lemmas.Bool.{and_parts, eqb-true}
use Rattle.std.proofs.lemmas.List.{take-append-drop, drop-replicate, length-take, length-take-le, length-drop, drop-drop}
use Rattle.std.proofs.lemmas.Option.{same_Some}
use Rattle.std.proofs.Math.Seq.{drop-append-add}
use Rattle.vc_types.specs.Quantisation.{filled_matrix, used_entries, default_matrix, default_rows}
use Rattle.vc_types.specs.TransformParameters.{same_across, default_of}
use Rattle.vc_types.proofs.Matrices.{filled-front}

abbrev zeros : List ℕ → Bool
zeros xs = list_all (λ value. eqb value 0) xs

zeros-replicate : (n : ℕ) → zeros (replicate n 0) ≡ true
zeros-replicate zero = refl
zeros-replicate (suc n) = zeros-replicate n

zeros-drop-replicate : (n m : ℕ) → n ≤ m → zeros (drop n (replicate m 0)) ≡ true
zeros-drop-replicate n m h = ap zeros (drop-replicate n m 0) ∙ zeros-replicate (m - n)

filled_ends : (n : ℕ) (xs : List ℕ) → length xs ≤ n → n ≤ 16 → zeros (drop n (filled_matrix xs)) ≡ true
filled_ends n xs short few =
    let whole : filled_matrix xs ≡ xs ++ drop (length xs) (replicate 16 0) = sym (filled-front xs (omega arith)) in
    let split : n ≡ length xs + (n - length xs) = omega arith in
    ap (λ (l : List ℕ). zeros (drop n l)) whole
    ∙ ap (λ (k : ℕ). zeros (drop k (xs ++ drop (length xs) (replicate 16 0)))) split
    ∙ ap zeros (drop-append-add xs (drop (length xs) (replicate 16 0)) (n - length xs) ∙ drop-drop (n - length xs) (length xs) (replicate 16 0))
    ∙ zeros-drop-replicate (length xs + (n - length xs)) 16 (omega arith)

all_zero : (xs : List ℕ) → zeros xs ≡ true → xs ≡ replicate (length xs) 0
all_zero [] h = refl
all_zero (x ∷ xs) h =
    let p = and_parts (eqb x 0) (zeros xs) h in
    ap (λ (n : ℕ). n ∷ xs) (eqb-true x 0 p.0) ∙ ap (λ (l : List ℕ). 0 ∷ l) (all_zero xs p.1)

-- A matrix that ends in zeros is what its used entries fill.
filled-ends : (depth : ℕ) (matrix : List ℕ) → depth ≤ 5 → length matrix ≡ 16 → zeros (drop (1 + 3 * depth) matrix) ≡ true → filled_matrix (used_entries 0 depth matrix) ≡ matrix
filled-ends depth matrix few len ends =
    let n : ℕ = 1 + 3 * depth in
    let used : length (take n matrix) ≡ n = length-take n matrix ∙ omega arith in
    let rest : drop n matrix ≡ drop n (replicate 16 0) = all_zero (drop n matrix) ends ∙ ap (λ (k : ℕ). replicate k 0) (length-drop n matrix ∙ omega arith) ∙ sym (drop-replicate n 16 0) in
    sym (filled-front (take n matrix) (omega arith)) ∙ ap (λ (k : ℕ). take n matrix ++ drop k (replicate 16 0)) used ∙ ap (λ (l : List ℕ). take n matrix ++ l) (sym rest) ∙ take-append-drop n matrix

-- A default matrix is what its used entries fill.
symmetric_filled : (wavelet depth : ℕ) (matrix : List ℕ) → depth ≤ 5 → default_matrix wavelet depth ≡ Some matrix → filled_matrix (used_entries 0 depth matrix) ≡ matrix
unfolding default_matrix
symmetric_filled wavelet depth matrix few h = chosen (eqb depth 5) h
  where
    row : List ℕ
    row = take (1 + 3 * depth) (slice_index_or (default_rows depth) wavelet [])

    long : length (filled_matrix row) ≡ 16
    long = length-take-le 16 (row ++ replicate 16 0) (omega (arith, length-append row (replicate 16 0)))

    ends : zeros (drop (1 + 3 * depth) (filled_matrix row)) ≡ true
    ends = filled_ends (1 + 3 * depth) row (omega (arith, length-take (1 + 3 * depth) (slice_index_or (default_rows depth) wavelet []))) (omega arith)

    chosen : (b : Bool) → cond b None (Some (filled_matrix row)) ≡ Some matrix → filled_matrix (used_entries 0 depth matrix) ≡ matrix
    chosen true e = absurd cc
    chosen false e = subst (λ (m : List ℕ). filled_matrix (used_entries 0 depth m) ≡ m) (same_Some (filled_matrix row) matrix e) (filled-ends depth (filled_matrix row) few long ends)

pub default_filled : (wavelet depth : ℕ) (across : ℕ × ℕ) (matrix : List ℕ) → depth ≤ 5 → default_of wavelet depth across ≡ Some matrix → filled_matrix (used_entries across.1 depth matrix) ≡ matrix
default_filled wavelet depth across matrix few h = chosen (same_across wavelet across) refl h
  where
    chosen : (b : Bool) → same_across wavelet across ≡ b → cond b (default_matrix wavelet depth) None ≡ Some matrix → filled_matrix (used_entries across.1 depth matrix) ≡ matrix
    chosen true same e =
        let none = eqb-true across.1 0 (and_parts (eqb across.0 wavelet) (eqb across.1 0) same).1 in
        ap (λ (n : ℕ). filled_matrix (used_entries n depth matrix)) none ∙ symmetric_filled wavelet depth matrix few e
    chosen false other e = absurd cc
