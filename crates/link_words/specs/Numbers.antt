-- Numbers in words: 0, or decimal digits without a sign of which the first is not 0.
use Rattle.std.specs.Prelude.{ℕ, ◌+◌, ◌-◌, ◌*◌, List, Bool, ◌&&◌, ◌||◌, not, ◌==◌, nat_lt, Option}
use Rattle.std.specs.Prelude.{Some, None, if◌then◌else◌, length, slice_index, fold}
use Rattle.std.specs.List.{list_all}
use Rattle.vc_types.specs.Settings.{within}

abbrev pub digits_number : List ℕ → ℕ
digits_number digits = fold (λ number digit. 10 * number + (digit - 48)) 0 digits

abbrev pub is_decimal : List ℕ → Bool
is_decimal word =
    nat_lt 0 (length word)
    && (length word == 1 || not (slice_index word 0 == 48))
    && list_all (within 48 57) word

-- the number that a word writes, where it is in a range
unfoldable pub number_within : ℕ → ℕ → List ℕ → Option ℕ
number_within low high word =
    let number = digits_number word in
    if is_decimal word && within low high number then Some number else None
