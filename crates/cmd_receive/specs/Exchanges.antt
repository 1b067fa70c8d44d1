-- What a loop does with each datagram: it is sent, and then one is received and heard.
use Rattle.std.specs.Prelude.{◌≡◌, ◌⊎◌, ◌≤◌, ℕ, IsTrue, List, length, take, Option}
use Rattle.link_outside.specs.Passing.{Passes}
use Rattle.link_outside.specs.declared.outlet.OutletFault.{OutletFault}
use Rattle.link_outside.specs.declared.outlet.OutletFault.TheVariants as outlets
use Rattle.link_report.specs.declared.ending.Ending.TheVariants.{NoMemory, OutputFailed}
use Rattle.vc_ports.specs.Faults.{Rose}
use Rattle.vc_ports.specs.Wires.{WireTold, IsOver}
use Rattle.vc_slice.specs.Asked.{Told}
use Rattle.cmd_receive.specs.Playouts.{PlayoutState, BorrowsAs, BreaksOff, Hears, IsWell, playout_state}
use Rattle.cmd_receive.specs.declared.outlet.LoopOutlet.{LoopOutlet}

-- a receiver that listens to what comes from a wire
pub record LoopState : Type 0 where
  pub playout : PlayoutState
  pub told : WireTold
  pub wire_faults : ℕ

abbrev pub loop_state : {N H O P : Type 0} → (N → WireTold) → (N → ℕ) → (O → Option (List ℕ))
    → (O → ℕ) → (P → Option Told) → (P → ℕ) → LoopOutlet N H O P → LoopState
loop_state told wire_faults held faults asked bound x = record {
  playout = playout_state held faults asked bound x.playout;
  told = told x.inlet.wire.now;
  wire_faults = wire_faults x.inlet.wire.now;
}

-- it borrows the same wire, output and places
abbrev pub LoopsAs : {N H O P : Type 0} → LoopOutlet N H O P → LoopOutlet N H O P → Type 0
LoopsAs old new = (new.inlet.wire.ghost_name ≡ old.inlet.wire.ghost_name)
    × BorrowsAs old.playout new.playout

-- the wire listens and is aimed, and slices are out at places that there are
pub record IsReady (x : LoopState) : Type 0 where
  pub listens : IsTrue x.told.listens
  pub aimed : IsTrue x.told.aimed
  pub well : IsWell x.playout

-- these datagrams were sent and those were given, at most one for each
pub record Exchanged (x y : LoopState) (sent given : List (List ℕ)) : Type 0 where
  pub passes : Passes x.told y.told sent given
  pub few : length given ≤ length sent
  pub later : x.wire_faults ≤ y.wire_faults

-- as many were given as were sent, or no more will come
abbrev pub AreInTurn : WireTold → (sent given : List (List ℕ)) → Type 0
AreInTurn told sent given = (length given ≡ length sent) ⊎ IsOver told.coming

-- each was answered, and what came was heard
pub record HearsInTurn (x y : LoopState) (sent heard : List (List ℕ)) : Type 0 where
  pub exchanged : Exchanged x y sent heard
  pub hears : Hears x.playout y.playout heard
  pub in_turn : AreInTurn y.told sent heard

abbrev pub WereLooped : (x y : LoopState) → List (List ℕ) → Type 0
WereLooped x y sent = (heard : List (List ℕ)) × HearsInTurn x y sent heard

-- the first so many of these datagrams were sent, and then something failed
abbrev pub BrokeBehind : (x y : LoopState) → List (List ℕ) → List (List ℕ) → OutletFault → Type 0
BrokeBehind x y first given outlets.Wire = Exchanged x y first given
    × Hears x.playout y.playout given × Rose x.wire_faults y.wire_faults
BrokeBehind x y first given outlets.Output = Exchanged x y first given
    × BreaksOff x.playout y.playout given OutputFailed
BrokeBehind x y first given outlets.NoMemory = Exchanged x y first given
    × BreaksOff x.playout y.playout given NoMemory

pub record LoopBroke (x y : LoopState) (sent : List (List ℕ)) (fault : OutletFault) : Type 0 where
  pub count : ℕ
  pub within : count ≤ length sent
  pub given : List (List ℕ)
  pub broke : BrokeBehind x y (take count sent) given fault
