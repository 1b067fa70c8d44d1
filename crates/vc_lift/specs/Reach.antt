-- How far synthesis reaches along a line, in pairs of samples, and what that means for a part of a line.
use Rattle.std.specs.Prelude.{ℕ, ◌+◌, ◌-◌, ◌<◌, ◌≤◌, ◌≡◌, ◌⊎◌, List, [], ◌∷◌, length}
use Rattle.vc_lift.specs.CountedSteps.{CountedStep}
use Rattle.vc_lift.specs.Ranges.{counted_synthesis}

-- how many pairs before a sample's own have a part in it after steps
unfoldable pub steps_back : List CountedStep → ℕ
steps_back [] = 0
steps_back (s ∷ steps) = s.back + steps_back steps

-- and how many behind it
unfoldable pub steps_ahead : List CountedStep → ℕ
steps_ahead [] = 0
steps_ahead (s ∷ steps) = length s.taps - s.back - 1 + steps_ahead steps

-- the same of a wavelet's synthesis
abbrev pub reach_back : ℕ → ℕ
reach_back wavelet = steps_back (counted_synthesis wavelet)

abbrev pub reach_ahead : ℕ → ℕ
reach_ahead wavelet = steps_ahead (counted_synthesis wavelet)

-- Of a line of h pairs, so many from the first one on are enough for those from one on and before
-- another: the part begins and ends where the line does, or as far outside as synthesis reaches.
pub record HoldsPairs (wavelet h from to first pairs : ℕ) : Type 0 where
  pub some : 0 < pairs
  pub inside : first + pairs ≤ h
  pub begins : first ≤ from
  pub ends : to ≤ first + pairs
  pub left : (first ≡ 0) ⊎ (first + reach_back wavelet ≤ from)
  pub right : (first + pairs ≡ h) ⊎ (to + reach_ahead wavelet ≤ first + pairs)
