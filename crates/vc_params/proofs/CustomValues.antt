-- The values of a custom matrix that are read one after another, and the matrix that they fill.
use Rattle.std.proofs.Common.{◌≡◌, ℕ, suc, ◌+◌, ◌-◌, ◌<◌, ◌≤◌, Bool, true, leb, List, [], ◌∷◌, ◌++◌, length, take, drop, set, replicate, Result, Ok, Err, refl, sym, ap, subst, ◌∙◌, append_assoc, length-set, arith}
use Rattle.std.specs.Prelude.{IsTrue}
use Rattle.std.proofs.lemmas.Bool.{and_from, le-leb}
use Rattle.std.proofs.Math.Seq.{drop-drop}
use Rattle.std.proofs.lemmas.List.{append-nil, take_more_set, drop-set-lt, take-append-drop, length-take-le}
use Rattle.std.proofs.lemmas.List.Folds.{list_all-append}
use Rattle.vc_types.specs.Fields.{and_then}
use Rattle.vc_types.specs.Limits.{matrix_fits}
use Rattle.vc_types.specs.Quantisation.{filled_matrix}
use Rattle.vc_types.specs.TransformParameters.{matrix_value, matrix_values, custom_matrix}
use Rattle.vc_types.specs.declared.refusal.ParamsRefusal.{ParamsRefusal}
use Rattle.vc_types.proofs.Matrices.{matrix_fits-filled, filled-front}

abbrev Read : Type 0
Read = Result (List ℕ × List Bool) ParamsRefusal

-- values in front of those that are read
abbrev pub behind : List ℕ → Read → Read
behind front (Ok read) = Ok (front ++ read.0, read.1)
behind front (Err refusal) = Err refusal

joined_front : (front : List ℕ) (v : ℕ) (read : Read) → behind front (and_then read (λ r. Ok (v ∷ r.0, r.1))) ≡ behind (front ++ v ∷ []) read
joined_front front v (Ok read) = ap (λ (l : List ℕ). Ok (l, read.1)) (sym (append_assoc front (v ∷ []) read.0))
joined_front front v (Err refusal) = refl

next_value : (n : ℕ) (front : List ℕ) (v : ℕ) (left rest : List Bool) → matrix_value left ≡ Ok (v, rest) → behind front (matrix_values (suc n) left) ≡ behind (front ++ v ∷ []) (matrix_values n rest)
unfolding matrix_values
next_value n front v left rest h =
    ap (λ (r : Result (ℕ × List Bool) ParamsRefusal). behind front (and_then r (λ read. and_then (matrix_values n read.1) (λ more. Ok (read.0 ∷ more.0, more.1))))) h ∙ joined_front front v (matrix_values n rest)

no_value : (n : ℕ) (front : List ℕ) (left : List Bool) (refusal : ParamsRefusal) → matrix_value left ≡ Err refusal → behind front (matrix_values (suc n) left) ≡ Err refusal
unfolding matrix_values
no_value n front left refusal h =
    ap (λ (r : Result (ℕ × List Bool) ParamsRefusal). behind front (and_then r (λ read. and_then (matrix_values n read.1) (λ more. Ok (read.0 ∷ more.0, more.1))))) h

-- Up to a place the matrix has what was read, and 0 from there on.
pub record HoldsValues (count place : ℕ) (matrix : List ℕ) (left all : List Bool) : Type 0 where
  pub same : behind (take place matrix) (matrix_values (count - place) left) ≡ matrix_values count all
  pub zeros : drop place matrix ≡ drop place (replicate 16 0)
  pub small : IsTrue (matrix_fits (take place matrix))
  pub long : length matrix ≡ 16

pub one_more_held : (count place : ℕ) (matrix : List ℕ) (left all : List Bool) (v : ℕ) (rest : List Bool) → HoldsValues count place matrix left all → place < count → count ≤ 16 → v ≤ 127 → matrix_value left ≡ Ok (v, rest) → HoldsValues count (place + 1) (set matrix place v) rest all
one_more_held count place matrix left all v rest held more few small h =
    let len = held.long in
    let inside : place < length matrix = omega arith in
    let front : take (place + 1) (set matrix place v) ≡ take place matrix ++ v ∷ [] = take_more_set matrix place v inside in
    let counted : count - place ≡ suc (count - (place + 1)) = omega arith in
    let step : behind (take place matrix) (matrix_values (count - place) left) ≡ behind (take place matrix ++ v ∷ []) (matrix_values (count - (place + 1)) rest) =
    ap (λ (n : ℕ). behind (take place matrix) (matrix_values n left)) counted ∙ next_value (count - (place + 1)) (take place matrix) v left rest h in
    record {
      same = ap (λ (l : List ℕ). behind l (matrix_values (count - (place + 1)) rest)) front ∙ sym step ∙ held.same;
      zeros = drop-set-lt (place + 1) matrix place v (omega arith) ∙ next_zeros place matrix (replicate 16 0) held.zeros;
      small = ap matrix_fits front ∙ list_all-append (λ value. leb value 127) (take place matrix) (v ∷ []) ∙ and_from (matrix_fits (take place matrix)) (matrix_fits (v ∷ [])) held.small (and_from (leb v 127) true (le-leb v 127 small) refl);
      long = length-set matrix place v ∙ len;
    }
  where
    next_zeros : (n : ℕ) (xs ys : List ℕ) → drop n xs ≡ drop n ys → drop (n + 1) xs ≡ drop (n + 1) ys
    next_zeros n xs ys e = sym (drop-drop 1 n xs) ∙ ap (drop 1) e ∙ drop-drop 1 n ys

filled_is : (count : ℕ) (matrix : List ℕ) → drop count matrix ≡ drop count (replicate 16 0) → count ≤ 16 → length matrix ≡ 16 → filled_matrix (take count matrix) ≡ matrix
filled_is count matrix zeros few len =
    let front : List ℕ = take count matrix in
    let long : length front ≡ count = length-take-le count matrix (omega arith) in
    let behind : drop (length front) (replicate 16 0) ≡ drop count matrix = ap (λ (n : ℕ). drop n (replicate 16 0)) long ∙ sym zeros in
    sym (filled-front front (omega arith)) ∙ ap (λ (l : List ℕ). front ++ l) behind ∙ take-append-drop count matrix

all_read : (count : ℕ) (matrix : List ℕ) (left all : List Bool) → HoldsValues count count matrix left all → matrix_values count all ≡ Ok (take count matrix, left)
unfolding matrix_values
all_read count matrix left all held =
    let none : count - count ≡ 0 = omega arith in
    sym held.same ∙ ap (λ (n : ℕ). behind (take count matrix) (matrix_values n left)) none ∙ ap (λ (l : List ℕ). Ok (l, left)) (append-nil (take count matrix))

pub all_held : (count : ℕ) (matrix : List ℕ) (left all : List Bool) → HoldsValues count count matrix left all → count ≤ 16 → (custom_matrix count all ≡ Ok (matrix, left)) × IsTrue (matrix_fits matrix) × (filled_matrix (take count matrix) ≡ matrix)
all_held count matrix left all held few =
    let filled = filled_is count matrix held.zeros few held.long in
    let read : custom_matrix count all ≡ Ok (filled_matrix (take count matrix), left) = ap (λ (r : Read). and_then r (λ read. Ok (filled_matrix read.0, read.1))) (all_read count matrix left all held) in
    (read ∙ ap (λ (l : List ℕ). Ok (l, left)) filled, subst (λ (m : List ℕ). IsTrue (matrix_fits m)) filled (matrix_fits-filled (take count matrix) held.small), filled)

pub value_refused : (count place : ℕ) (matrix : List ℕ) (left all : List Bool) (refusal : ParamsRefusal) → HoldsValues count place matrix left all → place < count → matrix_value left ≡ Err refusal → custom_matrix count all ≡ Err refusal
value_refused count place matrix left all refusal held more h =
    let counted : count - place ≡ suc (count - (place + 1)) = omega arith in
    let refused : matrix_values count all ≡ Err refusal = sym held.same ∙ ap (λ (n : ℕ). behind (take place matrix) (matrix_values n left)) counted ∙ no_value (count - (place + 1)) (take place matrix) left refusal h in
    ap (λ (r : Read). and_then r (λ read. Ok (filled_matrix read.0, read.1))) refused
