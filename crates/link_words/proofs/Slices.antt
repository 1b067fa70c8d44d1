-- What stands behind a list's end.
use Rattle.std.proofs.Common.{◌≡◌, ℕ, ◌<◌, ◌≤◌, List, length, drop, min, arith, ◌∙◌, sym, ap, ◌⊎◌, inl, inr}
use Rattle.std.proofs.lemmas.Bool.{cases_lt}
use Rattle.std.proofs.lemmas.List.{drop_all}

pub drop_held : (word : List ℕ) (count : ℕ) → drop (min count (length word)) word ≡ drop count word
drop_held word count = held (cases_lt (length word) count)
  where
    held : (length word < count) ⊎ (count ≤ length word) → drop (min count (length word)) word ≡ drop count word
    held (inl above) = drop_all (min count (length word)) word (omega arith) ∙ sym (drop_all count word (omega arith))
    held (inr fits) = let e : min count (length word) ≡ count = omega arith in ap (λ n. drop n word) e
