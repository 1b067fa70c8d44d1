-- A step on sample number n of lines that stand side by side: what it needs, and what it makes.
use Rattle.std.specs.Prelude.{ℕ, ◌+◌, ◌*◌, ◌^◌, ◌<◌, ◌≤◌, ◌≡◌, ◌⊎◌, List, ℤ, length}
use Rattle.vc_types.specs.Lifting.{line_of, changed_by}
use Rattle.vc_lift.specs.declared.halves.Halves.{Halves}
use Rattle.vc_lift.specs.CountedSteps.{CountedStep, place_met, change_at}
use Rattle.vc_lift.specs.Halves.{halves_place, line_in, AreLines, CanRun}
use Rattle.vc_lift.specs.Ranges.{HasRangeAt}

-- of line x alone
pub record CanWeigh (s : CountedStep) (h : Halves) (n x : ℕ) (cells : List ℤ) : Type 0 where
  pub small : h.half < 2 ^ 60
  pub at : n < h.half
  pub inside : (j : ℕ) → j < length s.taps → halves_place h (place_met s h.half n j) + x < length cells
  pub room : HasRangeAt (2 ^ 31) s h.half (line_in h cells x) n

-- of the first lines
pub record CanChange (s : CountedStep) (h : Halves) (n width : ℕ) (cells : List ℤ) : Type 0 where
  pub small : h.half < 2 ^ 60
  pub at : n < h.half
  pub run : CanRun s h n width (length cells)
  pub room : (x : ℕ) → x < width → HasRangeAt (2 ^ 31) s h.half (line_in h cells x) n

-- The same on samples number lo to hi - 1, one number after another.
pub record CanChangeEach (s : CountedStep) (h : Halves) (lo hi width : ℕ) (cells : List ℤ) : Type 0 where
  pub lines : AreLines h width (length cells)
  pub ordered : lo ≤ hi
  pub within : hi ≤ h.half
  pub room :
      (x n : ℕ) → x < width → lo ≤ n → n < hi →
      HasRangeAt (2 ^ 31) s h.half (line_in h cells x) n

pub record IsChanged (s : CountedStep) (h : Halves) (n width : ℕ) (old new : List ℤ) : Type 0 where
  pub on :
      (x : ℕ) → x < width →
      line_of new (halves_place h (2 * n + s.parity) + x)
      ≡ changed_by s.adds (line_of old (halves_place h (2 * n + s.parity) + x))
      (change_at s h.half (line_in h old x) n)
  pub off :
      (i : ℕ) →
      (i < halves_place h (2 * n + s.parity)) ⊎ (halves_place h (2 * n + s.parity) + width ≤ i) →
      line_of new i ≡ line_of old i
