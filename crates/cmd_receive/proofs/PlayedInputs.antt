-- A playout that heard an input's datagrams.
use Rattle.std.proofs.Common.{ℕ, List, Option, Ok, Err}
use Rattle.std.specs.Prelude.{Result}
use Rattle.link_report.specs.declared.ending.Ending.{Ending}
use Rattle.link_report.specs.declared.ending.Ending.TheVariants.{NoMemory, OutputFailed}
use Rattle.vc_ports.specs.Changes.{InputChange}
use Rattle.link_hearing.specs.Hearing.{fault_ending}
use Rattle.link_hearing.specs.Inputs.{HeardSo, InputEnded, datagrams_in}
use Rattle.link_hearing.specs.declared.form.InputForm.{InputForm}
use Rattle.link_hearing.specs.declared.heard.HeardInput.{HeardInput}
use Rattle.cmd_receive.specs.Playouts.{PlayoutState, BreaksOff, Hears, IsWell, PlaysInput}

-- no slice is out at a place that isn't there
module _ (input : InputChange) (x y : PlayoutState) (ds : List (List ℕ)) (ended : Option Ending → Type 0)
    (w : IsWell x) where
  stays_well : (result : Result (Unit {0}) Ending)
      → HeardSo ds ended input (Hears x y) (λ datagrams fault. BreaksOff x y datagrams (fault_ending fault))
      ⊥ result → IsWell y
  stays_well (Ok done) so = so.0.goes.well w
  stays_well (Err NoMemory) so = so.goes.well w
  stays_well (Err OutputFailed) so = so.0.goes.well w
  stays_well (Err end) so = so.0.goes.well w

pub plays_well : (form : InputForm) (packets : ℕ) (input : InputChange) (x y : PlayoutState) (told : HeardInput)
    → PlaysInput form packets input x y told → IsWell x → IsWell y
plays_well form packets input x y told h w = stays_well input x y (datagrams_in form packets h.given)
    (λ end. InputEnded form packets end input h.given) w told.ended h.did
