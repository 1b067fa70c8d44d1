use Rattle.std.proofs.Common.{◌≡◌, ◌^◌, min, take}
use Rattle.link_words.specs.Numbers.{digits_number}
use Rattle.link_words.proofs.numbers.capped_number.Given as goal

abbrev pub invariant-digits : goal.invariant-digits
invariant-digits l = l.number ≡ min (digits_number (take l.digit-index l.digits)) (2 ^ 32)
