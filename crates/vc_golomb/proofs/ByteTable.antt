-- The table says of each byte what its bits say.
use Rattle.std.proofs.Common.{rules, ◌≡◌, ℕ, ◌-◌, ◌*◌, ◌/◌, ◌%◌, ◌^◌, ◌<◌, ◌≤◌, Bool, true, false, eqb, leb, List, ◌++◌, length, get_or, take, drop, refl, sym, ap, ◌∙◌, arith}
use Rattle.std.specs.Prelude.{◌&&◌, ◌||◌}
use Rattle.std.proofs.lemmas.Bool.{and_parts, eqb-true, leb-true}
use Rattle.std.proofs.lemmas.Nat.{pow_below}
use Rattle.std.proofs.lemmas.List.{take-append-drop}
use Rattle.vc_types.proofs.Digits.{number_of-lt}
use Rattle.vc_types.specs.Bits.{byte_bits, number_of}
use Rattle.vc_types.specs.Bounded.{bounded}
use Rattle.vc_golomb.specs.Table.{pairs_of, IsLook}
use Rattle.vc_golomb.specs.declared.table.TheConstants.{TAKEN, DIGITS}
use Rattle.vc_types.proofs.Tables.{holds_below, holds_at}
use Rattle.vc_golomb.proofs.ByteRows.{same_bits, same}

-- ---- one byte

-- the digits of a number
abbrev digits_in : ℕ → ℕ → List Bool
digits_in count number = drop (8 - count) (byte_bits number)

abbrev is_look : ℕ → ℕ → ℕ → Bool
is_look byte taken digits =
    same_bits (take (2 * (taken / 2)) (byte_bits byte)) (pairs_of (digits_in (taken / 2) digits)) && (eqb (number_of (digits_in (taken / 2) digits)) digits
    && ((leb (taken) 8 && eqb (length (digits_in (taken / 2) digits)) (taken / 2)) && (eqb taken 8 || (eqb (taken % 2) 1 && get_or (byte_bits byte) (2 * (taken / 2)) false))))

all_looks : holds_below (λ byte. is_look byte (get_or TAKEN byte 0) (get_or DIGITS byte 0)) 256 ≡ true
unfolding byte_bits
all_looks = refl

-- a 1 that is surely there stands among the bits, whatever is read past them
set_bit : (bits : List Bool) (place : ℕ) → get_or bits place false ≡ true → bounded bits place ≡ true
set_bit bits place h = search rules

from_test : (byte taken digits : ℕ) → is_look byte taken digits ≡ true → IsLook byte taken digits
from_test byte taken digits test =
    let list = digits_in (taken / 2) digits in
    let parts = and_parts _ _ test in
    let more = and_parts _ _ parts.1 in
    let last = and_parts _ _ more.1 in
    let sizes = and_parts _ _ last.0 in
    let small : taken ≤ 8 = leb-true taken 8 sizes.0 in
    let count : length list ≡ taken / 2 = eqb-true _ _ sizes.1 in
    let front : take (2 * (taken / 2)) (byte_bits byte) ≡ pairs_of list = same _ _ parts.0 in
    record {
      list = list;
      rest = drop (2 * (taken / 2)) (byte_bits byte);
      front = sym (take-append-drop (2 * (taken / 2)) (byte_bits byte)) ∙ ap (λ (bits : List Bool). bits ++ drop (2 * (taken / 2)) (byte_bits byte)) front;
      number = eqb-true _ _ more.0;
      count = count;
      small = small;
      whole = λ all. omega (arith, count, small);
      ends = λ fewer.
          let odd : (eqb (taken % 2) 1 && get_or (byte_bits byte) (2 * (taken / 2)) false) ≡ true = or_right (eqb taken 8) _ (λ (eight : eqb taken 8 ≡ true). absurd (omega (arith, eqb-true taken 8 eight))) last.1 in
          let both : (eqb (taken % 2) 1 ≡ true) × (get_or (byte_bits byte) (2 * (taken / 2)) false ≡ true) = and_parts _ _ odd in
          let here : bounded (byte_bits byte) (2 * (taken / 2)) ≡ true = set_bit (byte_bits byte) (2 * (taken / 2)) both.1 in
          (omega (arith, count, eqb-true (taken % 2) 1 both.0), rw count here);
    }
  where
    or_right : (x y : Bool) → (x ≡ true → ⊥) → (x || y) ≡ true → y ≡ true
    or_right true y never h = absurd (never refl)
    or_right false y never h = h

-- each byte's row
pub looks : (byte : ℕ) → byte < 256 → IsLook byte (get_or TAKEN byte 0) (get_or DIGITS byte 0)
looks byte small = from_test byte (get_or TAKEN byte 0) (get_or DIGITS byte 0) (holds_at (λ byte. is_look byte (get_or TAKEN byte 0) (get_or DIGITS byte 0)) 256 byte all_looks small)

few_digits : (n number digits : ℕ) → n ≤ 4 → number < 2 ^ n → number ≡ digits → digits < 16
few_digits n number digits small below is = search (rules, pow_below)

pub looks_small : (byte : ℕ) → byte < 256 → (get_or TAKEN byte 0 ≤ 8) × (get_or DIGITS byte 0 < 16)
looks_small byte small =
    let row = looks byte small in
    (row.small, few_digits (length row.list) (number_of row.list) (get_or DIGITS byte 0) (omega (arith, row.count, row.small)) (number_of-lt row.list) row.number)
