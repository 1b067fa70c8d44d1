-- Whether steps stay in a width: bounds on magnitudes, carried through one step after another.
use Rattle.std.specs.Prelude.{ℕ, ◌+◌, ◌-◌, ◌*◌, ◌/◌, ◌^◌, ◌<◌, ◌≤◌, ◌≡◌, ◌&&◌, nat_lt, ◌==◌, if◌then◌else◌}
use Rattle.std.specs.Prelude.{max, List, [], ◌∷◌, length, map, unsigned_abs, Option, Some, None}
use Rattle.std.specs.Option.{option_and_then}
use Rattle.vc_types.specs.Lifting.{Line, half_of}
use Rattle.vc_types.specs.Wavelets.{synthesis_steps}
use Rattle.vc_lift.specs.CountedSteps.{CountedStep, counted_step, place_met, undone}
use Rattle.vc_lift.specs.Growth.{weight, IsWithin}

-- a bound on a step's rounded sums, from one on the samples that the taps meet
abbrev pub rounded_sum : CountedStep → ℕ → ℕ
rounded_sum s other = weight s * other + half_of s.shift

-- a bound on the samples that the step changes, after it, from one before it
abbrev pub stretched : CountedStep → ℕ → ℕ → ℕ
stretched s own other = own + rounded_sum s other / 2 ^ s.shift + 1

-- the same where all that the step reckons stays below the limit
abbrev pub stretched_below : ℕ → CountedStep → ℕ → ℕ → Option ℕ
stretched_below limit s own other =
    if nat_lt (rounded_sum s other) limit && nat_lt (stretched s own other) limit
    then Some (stretched s own other)
    else None

-- a bound on all samples after steps, from bounds on the even and on the odd ones
unfoldable pub bound_after : ℕ → List CountedStep → ℕ → ℕ → Option ℕ
bound_after limit [] even odd = Some (max even odd)
bound_after limit (s ∷ steps) even odd =
    if s.parity == 0
    then option_and_then
    (λ more. bound_after limit steps more odd) (stretched_below limit s even odd)
    else option_and_then
    (λ more. bound_after limit steps even more) (stretched_below limit s odd even)

-- the steps of synthesis
abbrev pub counted_synthesis : ℕ → List CountedStep
counted_synthesis wavelet = map counted_step (synthesis_steps wavelet)

-- a bound on all samples after synthesis in 32 bits, from one before it
abbrev pub narrow_bound : ℕ → ℕ → Option ℕ
narrow_bound wavelet most = bound_after (2 ^ 31) (counted_synthesis wavelet) most most

-- the steps of analysis
abbrev pub counted_analysis : ℕ → List CountedStep
counted_analysis wavelet = undone (counted_synthesis wavelet)

-- a bound on all samples after analysis in 32 bits, from one before it
abbrev pub narrow_analysis_bound : ℕ → ℕ → Option ℕ
narrow_analysis_bound wavelet most = bound_after (2 ^ 31) (counted_analysis wavelet) most most

-- bounds with which a step stays below the limit, on a line
pub record HasRange (limit : ℕ) (s : CountedStep) (half : ℕ) (x : Line) : Type 0 where
  pub own : ℕ
  pub other : ℕ
  pub changed : IsWithin x half s.parity own
  pub met : IsWithin x half (1 - s.parity) other
  pub sum : rounded_sum s other < limit
  pub result : stretched s own other < limit

-- the same beside its sample number n alone
pub record HasRangeAt (limit : ℕ) (s : CountedStep) (half : ℕ) (x : Line) (n : ℕ) : Type 0 where
  pub other : ℕ
  pub met : (j : ℕ) → j < length s.taps → unsigned_abs (x (place_met s half n j)) ≤ other
  pub sum : rounded_sum s other < limit
  pub result : stretched s (unsigned_abs (x (2 * n + s.parity))) other < limit

-- a bound on the samples of a line, and one that they keep in 32 bits while steps are made
pub record StaysNarrow (steps : List CountedStep) (half : ℕ) (x : Line) : Type 0 where
  pub most : ℕ
  pub after : ℕ
  pub small : (k : ℕ) → k < 2 * half → unsigned_abs (x k) ≤ most
  pub fits : bound_after (2 ^ 31) steps most most ≡ Some after
