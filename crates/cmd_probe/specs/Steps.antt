-- The differences of neighbouring pictures' timestamps, and how often each came.
use Rattle.std.specs.Prelude.{ℕ, Bool, ◌==◌, nat_lt, nat_le, if◌then◌else◌, List, [], ◌∷◌, ◌++◌, length, fold}
use Rattle.std.specs.Prelude.{position, Option, Some, None}
use Rattle.cmd_probe.specs.Changing.{changed_at}
use Rattle.cmd_probe.specs.Counting.{one_more}
use Rattle.cmd_probe.specs.declared.steps.Step.{Step}

abbrev pub has_ticks : ℕ → Step → Bool
has_ticks ticks step = step.ticks == ticks

abbrev pub once_more : Step → Step
once_more step = record step { times = one_more step.times }

-- a new one, while there are fewer than 16
abbrev pub with_new_step : List Step → ℕ → List Step
with_new_step steps ticks =
    if nat_lt (length steps) 16 then steps ++ record { ticks = ticks; times = 1 } ∷ [] else steps

abbrev pub step_at : List Step → (ticks : ℕ) → Option ℕ → List Step
step_at steps ticks (Some place) = changed_at once_more place steps
step_at steps ticks None = with_new_step steps ticks

-- one more: of those that came, or a new one
unfoldable pub with_step : List Step → (ticks : ℕ) → List Step
with_step steps ticks = step_at steps ticks (position (has_ticks ticks) steps)

-- the commoner one, the first of two
abbrev pub commoner_of : Option Step → Step → Option Step
commoner_of None step = Some step
commoner_of (Some best) step = if nat_le step.times best.times then Some best else Some step

-- the one that came most often, the first of several
abbrev pub commonest : List Step → Option Step
commonest steps = fold commoner_of None steps
