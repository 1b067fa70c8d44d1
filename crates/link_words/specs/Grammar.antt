-- Which words are a command with its options, and where the first bad word is.
use Rattle.std.specs.Prelude.{ℕ, zero, suc, ◌+◌, ◌-◌, ◌%◌, List, [], Bool, false, ◌&&◌, ◌||◌, not}
use Rattle.std.specs.Prelude.{◌==◌, nat_lt, Option, Some, None, if◌then◌else◌, length, slice_index_or}
use Rattle.std.specs.Prelude.{take, drop, position, unwrap_or, is_some, codes, ◌≤◌, IsAscii}
use Rattle.std.specs.List.{list_all}
use Rattle.std.specs.Str.{bytes_eq}
use Rattle.vc_types.specs.declared.video.Sampling.{Sampling}
use Rattle.vc_types.specs.declared.video.Sampling.TheVariants.{S444, S422, S420}
use Rattle.link_words.specs.Numbers.{number_within}
use Rattle.link_words.specs.Options.{option_row, names_of, name_in}
use Rattle.link_words.specs.declared.options.Values.{Values}
use Rattle.link_words.specs.declared.options.Values.TheVariants.{Number, Optional, Required}
use Rattle.link_words.specs.declared.options.Values.TheVariants.{Subsampling, Pair, Ratio, Address, Text}
use Rattle.link_words.specs.declared.options.Name.{Name}
use Rattle.link_words.specs.declared.options.Command.{Command}

abbrev pub word_at : List (List ℕ) → ℕ → List ℕ
word_at words place = slice_index_or words place []

-- the first of so many places from one on that passes a test; the place behind them where none does
abbrev pub first_place : (ℕ → Bool) → ℕ → ℕ → ℕ
first_place passes from zero = from
first_place passes from (suc count) =
    if passes from then from else first_place passes (from + 1) count

-- ---- values

unfoldable pub sampling_written : List ℕ → Option Sampling
sampling_written word =
    if bytes_eq word (codes "444") then Some S444
    else if bytes_eq word (codes "422") then Some S422
    else if bytes_eq word (codes "420") then Some S420
    else None

-- the place of the first such byte of a word, or its length
unfoldable pub mark_of : (mark : ℕ) → List ℕ → ℕ
mark_of mark word = unwrap_or (position (λ byte. byte == mark) word) (length word)

abbrev pub both : Option ℕ → Option ℕ → Option (ℕ × ℕ)
both (Some first) (Some second) = Some (first, second)
both (Some first) None = None
both None second = None

-- two numbers of 1 to a greatest with a mark between
unfoldable pub pair_written : (mark high : ℕ) → List ℕ → Option (ℕ × ℕ)
pair_written mark high word =
    let between = mark_of mark word in
    both (number_within 1 high (take between word)) (number_within 1 high (drop (between + 1) word))

-- how many slices, with x between
abbrev pub slices_written : List ℕ → Option (ℕ × ℕ)
slices_written word = pair_written 120 65535 word

-- a numerator and a denominator of 1 to a greatest, with : between
abbrev pub ratio_written : (high : ℕ) → List ℕ → Option (ℕ × ℕ)
ratio_written high word = pair_written 58 high word

-- 1 to 255 bytes of ASCII
unfoldable pub is_text : List ℕ → Bool
is_text word =
    nat_lt 0 (length word) && nat_lt (length word) 256 && list_all (λ byte. nat_lt byte 128) word

pub record IsText (word : List ℕ) : Type 0 where
  pub some : 1 ≤ length word
  pub counted : length word ≤ 255
  pub ascii : IsAscii word

abbrev pub accepts : Values → List ℕ → Bool
accepts (Number low high default) word = is_some (number_within low high word)
accepts (Optional low high) word = is_some (number_within low high word)
accepts (Required low high) word = is_some (number_within low high word)
accepts Subsampling word = is_some (sampling_written word)
accepts Pair word = is_some (slices_written word)
accepts (Ratio high) word = is_some (ratio_written high word)
accepts Address word = nat_lt 0 (length word)
accepts Text word = is_text word

abbrev pub accepts_as : Option Name → List ℕ → Bool
accepts_as (Some name) word = accepts (option_row name).1 word
accepts_as None word = false

-- ---- names

-- three ways to choose the indices of slices
abbrev pub is_choice : List ℕ → Bool
is_choice word = bytes_eq word (codes "--index") || bytes_eq word (codes "--fit")
    || bytes_eq word (codes "--budget")

-- two ways to say how fast frames follow one another
abbrev pub is_speed : List ℕ → Bool
is_speed word = bytes_eq word (codes "--tick") || bytes_eq word (codes "--rate")

-- of such names only one may be given, and only once
abbrev pub excludes : List ℕ → List ℕ → Bool
excludes earlier later = bytes_eq earlier later || (is_choice earlier && is_choice later)
    || (is_speed earlier && is_speed later)

-- names stand at the odd places; one that excludes this one stands before it
abbrev pub excluded_at : List (List ℕ) → ℕ → ℕ → Bool
excluded_at words place earlier =
    earlier % 2 == 1 && excludes (word_at words earlier) (word_at words place)

unfoldable pub is_given_before : List (List ℕ) → ℕ → Bool
is_given_before words place = nat_lt (first_place (excluded_at words place) 1 (place - 1)) place

-- ---- the first bad word

abbrev pub option_at : Command → List (List ℕ) → ℕ → Option Name
option_at command words place = name_in (names_of command) (word_at words place)

-- behind the command names stand at the odd places, and their values behind them
unfoldable pub word_fits : Command → List (List ℕ) → ℕ → Bool
word_fits command words place = if place % 2 == 1
    then is_some (option_at command words place) && not (is_given_before words place)
    else accepts_as (option_at command words (place - 1)) (word_at words place)

-- the place of the first bad word behind the command, or the number of words
unfoldable pub first_bad : Command → List (List ℕ) → ℕ
first_bad command words =
    first_place (λ place. not (word_fits command words place)) 1 (length words - 1)
