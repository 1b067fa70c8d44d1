-- The timestamps of pictures.
use Rattle.std.specs.Prelude.{ℕ, ◌+◌, ◌-◌, ◌%◌, ◌^◌, Bool, if◌then◌else◌, []}
use Rattle.cmd_probe.specs.Steps.{with_step}
use Rattle.cmd_probe.specs.declared.stamps.Stamps.{Stamps}

abbrev pub no_stamps : Stamps
no_stamps = record { first = 0; last = 0; steps = [] }

-- from one timestamp to another, modulo 2^32
abbrev pub ticks_to : (from to : ℕ) → ℕ
ticks_to from to = (to + 2 ^ 32 - from) % 2 ^ 32

-- one more: the first, or another, with its step
unfoldable pub with_stamp : Stamps → (is_first : Bool) → ℕ → Stamps
with_stamp s is_first timestamp =
    if is_first then record s { first = timestamp; last = timestamp }
    else record s { last = timestamp; steps = with_step s.steps (ticks_to s.last timestamp) }
