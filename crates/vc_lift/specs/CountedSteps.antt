-- Lifting steps over samples that are counted in each parity: the form in which the code makes the
-- standard's steps.
use Rattle.std.specs.Prelude.{ℕ, zero, suc, ◌+◌, ◌-◌, ◌*◌, ◌/◌, ◌%◌, Bool, true, false, ◌&&◌, not, nat_lt}
use Rattle.std.specs.Prelude.{nat_le, ◌==◌, if◌then◌else◌, List, length, map, reverse, fold, slice_index_or}
use Rattle.std.specs.Prelude.{ℤ, pos, negsuc, ◌+ℤ◌, ◌-ℤ◌, ◌*ℤ◌, unsigned_abs, min}
use Rattle.std.specs.Int.{int_shr}
use Rattle.vc_types.specs.Lifting.{Line, Parity, even, odd, offset_of, LiftingStep, half_of, changed_by}

-- A step on the samples of one parity, 0 for the even and 1 for the odd ones. Beside sample number
-- n of that parity, tap j meets sample number n + j - back of the other parity.
pub record CountedStep : Type 0 where
  pub parity : ℕ
  pub adds : Bool
  pub taps : List ℤ
  pub back : ℕ
  pub shift : ℕ

-- how far back the first tap reaches, which D may not put ahead of its sample
abbrev pub back_of : Parity → ℤ → ℕ
back_of even first = unsigned_abs (pos 1 -ℤ first)
back_of odd first = unsigned_abs first

abbrev pub is_behind : Parity → ℤ → Bool
is_behind even (pos zero) = true
is_behind even (pos (suc zero)) = true
is_behind even (pos (suc (suc n))) = false
is_behind even (negsuc n) = true
is_behind odd (pos zero) = true
is_behind odd (pos (suc n)) = false
is_behind odd (negsuc n) = true

abbrev pub can_be_counted : LiftingStep → Bool
can_be_counted s = is_behind s.parity s.first

-- a step of the standard
abbrev pub counted_step : LiftingStep → CountedStep
counted_step s = record {
  parity = offset_of s.parity;
  adds = s.adds;
  taps = s.taps;
  back = back_of s.parity s.first;
  shift = s.shift;
}

-- f 0 + f 1 + .. + f (n - 1)
unfoldable pub sum_below : ℕ → (ℕ → ℤ) → ℤ
sum_below zero f = pos 0
sum_below (suc n) f = sum_below n f +ℤ f n

-- the place of the sample that tap j meets; a number past the first or the last of `half` samples
-- is held there
abbrev pub place_met : CountedStep → ℕ → ℕ → ℕ → ℕ
place_met s half n j = 2 * min (n + j - s.back) (half - 1) + (1 - s.parity)

unfoldable pub sum_met : CountedStep → ℕ → Line → ℕ → ℤ
sum_met s half x n =
    sum_below (length s.taps) (λ j. slice_index_or s.taps j (pos 0) *ℤ x (place_met s half n j))

unfoldable pub change_at : CountedStep → ℕ → Line → ℕ → ℤ
change_at s half x n = int_shr (sum_met s half x n +ℤ pos (half_of s.shift)) s.shift

-- a line of 2 * half samples after a step
unfoldable pub lift : CountedStep → ℕ → Line → Line
lift s half x k =
    if nat_lt (k / 2) half && (k % 2 == s.parity)
    then changed_by s.adds (x k) (change_at s half x (k / 2))
    else x k

-- the same on its samples number lo to hi - 1 alone
unfoldable pub lift_between : CountedStep → ℕ → ℕ → ℕ → Line → Line
lift_between s half lo hi x k =
    if (nat_le lo (k / 2) && nat_lt (k / 2) hi) && (k % 2 == s.parity)
    then changed_by s.adds (x k) (change_at s half x (k / 2))
    else x k

unfoldable pub lift_all : List CountedStep → ℕ → Line → Line
lift_all steps half x = fold (λ y s. lift s half y) x steps

abbrev pub opposite_counted : CountedStep → CountedStep
opposite_counted s = record s { adds = not s.adds }

-- the steps that take steps back
abbrev pub undone : List CountedStep → List CountedStep
undone steps = map opposite_counted (reverse steps)

abbrev pub in_order : Bool → List CountedStep → List CountedStep
in_order true steps = undone steps
in_order false steps = steps
