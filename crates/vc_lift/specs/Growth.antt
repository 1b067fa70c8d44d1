-- How much steps may raise the magnitudes of a line's samples.
use Rattle.std.specs.Prelude.{ℕ, ◌+◌, ◌*◌, ◌/◌, ◌^◌, ◌<◌, ◌≤◌, Bool, ◌&&◌, nat_lt, nat_le, ◌==◌}
use Rattle.std.specs.Prelude.{if◌then◌else◌, List, [], ◌∷◌, length, unsigned_abs}
use Rattle.std.specs.List.{sum_by}
use Rattle.vc_types.specs.Lifting.{Line}
use Rattle.vc_lift.specs.CountedSteps.{CountedStep}

-- the samples of a parity have magnitudes of at most m
pub record IsWithin (x : Line) (half parity m : ℕ) : Type 0 where
  pub within : (n : ℕ) → n < half → unsigned_abs (x (2 * n + parity)) ≤ m

-- the magnitudes of all samples are at most m
pub record IsLittle (x : Line) (half m : ℕ) : Type 0 where
  pub even : IsWithin x half 0 m
  pub odd : IsWithin x half 1 m

-- the taps' magnitudes in sum
abbrev pub weight : CountedStep → ℕ
weight s = sum_by unsigned_abs s.taps

-- a step of a form that the code can take
pub record IsPlain (s : CountedStep) : Type 0 where
  pub parity : s.parity < 2
  pub few : length s.taps ≤ 8
  pub light : weight s < 2 ^ 14
  pub shift : s.shift ≤ 12

abbrev pub is_plain : CountedStep → Bool
is_plain s =
    nat_lt s.parity 2 && nat_le (length s.taps) 8 && nat_lt (weight s) (2 ^ 14) && nat_le s.shift 12

-- bounds on the even and on the odd samples, in 4096ths of a magnitude of at least 2 ^ 16, after a
-- step
abbrev pub raised : CountedStep → ℕ → ℕ → ℕ
raised s own other = own + weight s * other / 2 ^ s.shift + 2

-- from such bounds, no step takes any sample past `most` times that magnitude, and each step is
-- plain
abbrev pub stays_little : ℕ → List CountedStep → ℕ → ℕ → Bool
stays_little most [] even odd = nat_le even (4096 * most) && nat_le odd (4096 * most)
stays_little most (s ∷ steps) even odd =
    (nat_le even (4096 * most) && nat_le odd (4096 * most)) &&
    (is_plain s &&
    stays_little most steps
    (if s.parity == 0 then raised s even odd else even)
    (if s.parity == 0 then odd else raised s odd even))

abbrev pub grows_little : ℕ → List CountedStep → Bool
grows_little most steps = stays_little most steps 4096 4096
