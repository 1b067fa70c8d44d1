-- What a core keeps, and what a step does to it.
use Rattle.std.specs.Prelude.{◌≡◌, ℕ, ◌≤◌, List, Some, Result, Ok, Err}
use Rattle.machine_model.specs.Interleavings.{machine_after, IsRun}
use Rattle.machine_model.specs.Machine.{Machine, Event, IsLegal, first_broken, happens}
use Rattle.link_core.specs.declared.event.StepRefusal.{StepRefusal}
use Rattle.link_core.specs.declared.event.StepRefusal.TheVariants.{NotLegal, NoMemory}

-- how many pictures of a session may be open at a time, and the machine
pub record CoreState : Type 0 where
  pub window : ℕ
  pub machine : Machine

-- legal events lead there, from so many places that nothing was put into
pub record IsReached (c : CoreState) : Type 0 where
  pub least : 2 ≤ c.window
  pub most : c.window ≤ 8
  pub places : ℕ
  pub events : List Event
  pub legal : IsRun c.window places events
  pub is : c.machine ≡ machine_after c.window places events

abbrev pub core_after : CoreState → Event → CoreState
core_after c e = record c { machine = happens c.window c.machine e }

-- The event happens, and is legal there; or the first of its conditions that is broken is told, and
-- nothing changes. Nor does it where memory runs out.
abbrev pub Steps : CoreState → Event → Result (Unit {0}) StepRefusal → CoreState → Type 0
Steps old e (Ok done) new = IsLegal old.window old.machine e × (new ≡ core_after old e)
Steps old e (Err (NotLegal condition)) new =
    (first_broken old.window old.machine e ≡ Some condition) × (new ≡ old)
Steps old e (Err NoMemory) new = new ≡ old
