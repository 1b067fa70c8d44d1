-- Events and refusals as the machine has them.
use Rattle.std.specs.Prelude.{ℕ, ◌+◌, Bool, not, List, position, Option, Some, None}
use Rattle.std.specs.Prelude.{Result, Ok, Err}
use Rattle.machine_model.specs.Machine as machine
use Rattle.link_core.specs.declared.event.Event.{Event}
use Rattle.link_core.specs.declared.event.Event.TheVariants.{Enter, Put, Claim, Complete, Take}
use Rattle.link_core.specs.declared.event.Event.TheVariants.{Withdraw, Leave, Redo, Release, Finish}
use Rattle.link_core.specs.declared.event.StepRefusal.{StepRefusal}
use Rattle.link_core.specs.declared.event.StepRefusal.TheVariants.{NotLegal}

abbrev pub machine_event : Event → machine.Event
machine_event (Enter datagram) = machine.Enter datagram
machine_event (Put place number index) = machine.Put place number index
machine_event (Claim worker place) = machine.Claim worker place
machine_event (Complete place serial) = machine.Complete place serial
machine_event (Take place) = machine.Take place
machine_event (Withdraw place) = machine.Withdraw place
machine_event (Leave place) = machine.Leave place
machine_event (Redo number index) = machine.Redo number index
machine_event (Release number) = machine.Release number
machine_event Finish = machine.Finish

abbrev pub refused_by : Option ℕ → Result (Unit {0}) StepRefusal
refused_by None = Ok tt
refused_by (Some k) = Err (NotLegal (k + 1))

-- the first condition that is broken, counted from 1
abbrev pub verdict : List Bool → Result (Unit {0}) StepRefusal
verdict conditions = refused_by (position not conditions)
