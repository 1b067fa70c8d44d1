-- The number of digits read one at a time.
use Rattle.std.proofs.Common.{◌≡◌, ℕ, ◌+◌, ◌-◌, ◌*◌, ◌<◌, List, length, take, get_or}
use Rattle.std.proofs.lemmas.List.Sums.{fold_more}
use Rattle.link_words.specs.Numbers.{digits_number}

pub next_digit : (digits : List ℕ) (i d : ℕ) → i < length digits → digits_number (take (i + 1) digits) ≡ 10 * digits_number (take i digits) + (get_or digits i d - 48)
next_digit digits i d h = fold_more (λ number digit. 10 * number + (digit - 48)) 0 digits i d h
