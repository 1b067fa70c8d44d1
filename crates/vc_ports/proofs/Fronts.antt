-- The front of a list and what is behind it.
use Rattle.std.proofs.Common.{◌≡◌, ℕ, ◌+◌, ◌<◌, List, [], ◌++◌, length, take, drop, sym, ap, ◌∙◌, arith, take-append-drop}
use Rattle.std.proofs.lemmas.Grind.{common_steps}
use Rattle.std.proofs.lemmas.List.{drop-drop}
use Rattle.std.proofs.Math.Seq.{take-length}

-- what is left is the front that is taken, and what is left then
pub front_and_rest : {A : Type 0} (at n : ℕ) (xs : List A) → take n (drop at xs) ++ drop (at + n) xs ≡ drop at xs
front_and_rest {A = A} at n xs = ap (λ (rest : List A). take n (drop at xs) ++ rest) (sym (drop-drop n at xs)) ∙ take-append-drop n (drop at xs)

-- the front as long as the list is the list
pub take_whole : {A : Type 0} (xs : List A) → take (length xs) xs ≡ xs
take_whole xs = take-length xs

-- a front that is shorter than the one element of a list is nothing
pub none_of_one : {A : Type 0} (xs : List A) (n : ℕ) → length xs ≡ 1 → n < length xs → take n xs ≡ []
none_of_one xs n one short = grind (arith, common_steps)
