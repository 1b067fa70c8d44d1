-- A scribe with its output, and what it does with the datagrams that it is given. A relation says which
-- datagrams it has heard since it was as at first; a function, what is due of them.
use Rattle.std.specs.Prelude.{◌≡◌, ◌≤◌, ◌⊎◌, ◌^◌, ℕ, List, [], ◌++◌, length, true, false}
use Rattle.std.specs.Prelude.{Option, Result, Ok, Err}
use Rattle.link_hearing.specs.Hearing.{CanGoOn, fault_ending, has_broken}
use Rattle.link_hearing.specs.Inputs.{HearsInput}
use Rattle.link_hearing.specs.declared.form.InputForm.{InputForm}
use Rattle.link_hearing.specs.declared.heard.HeardInput.{HeardInput}
use Rattle.link_hearing.specs.declared.listener.ListenerFault.{ListenerFault}
use Rattle.link_hearing.specs.declared.listener.ListenerFault.TheVariants.{NoMemory, Output}
use Rattle.link_report.specs.declared.ending.Ending.{Ending}
use Rattle.vc_ports.specs.Changes.{InputChange}
use Rattle.vc_ports.specs.Faults.{Rose}
use Rattle.vc_ports.specs.Writing.{Grew, GrewBySome}
use Rattle.cmd_rtcp.specs.Due.{Due}
use Rattle.cmd_rtcp.specs.declared.writing.Writing.{Writing}

-- the scribe, what its output tells, and how many datagrams were heard
pub record WritingState (S : Type 0) : Type 0 where
  pub scribe : S
  pub held : Option (List ℕ)
  pub faults : ℕ
  pub datagrams : ℕ

abbrev pub writing_state : {S O : Type 0} → (O → Option (List ℕ)) → (O → ℕ) → Writing S O
    → WritingState S
writing_state held faults w = record {
  scribe = w.scribe.now;
  held = held w.output.now;
  faults = faults w.output.now;
  datagrams = w.datagrams;
}

-- it borrows the same scribe and the same output
abbrev pub BorrowsAs : {S O : Type 0} → Writing S O → Writing S O → Type 0
BorrowsAs old new = (new.scribe.ghost_name ≡ old.scribe.ghost_name)
    × (new.output.ghost_name ≡ old.output.ghost_name)

-- it has heard some datagrams, and has counted them
pub record CanHear {S : Type 0} (knows : S → S → List (List ℕ) → Type 0) (x : WritingState S) : Type 0
  where
    pub first : S
    pub heard : List (List ℕ)
    pub knows_so : knows first x.scribe heard
    pub count : x.datagrams ≡ length heard
    pub few : x.datagrams ≤ 2 ^ 32

-- ---- since it was as at first, and the output held so much

-- these datagrams were heard, and what is due of them so far was written
pub record HasHeardSince
    {S : Type 0} (knows : S → S → List (List ℕ) → Type 0) (due : S → Due) (first : S)
    (held : Option (List ℕ)) (x : WritingState S) (heard : List (List ℕ)) : Type 0 where
  pub knows_so : knows first x.scribe heard
  pub wrote : Grew held x.held ((due first).so_far heard)
  pub count : x.datagrams ≡ length heard

-- and their end: all that is due was written
pub record HasEndedSince
    {S : Type 0} (ended : S → S → List (List ℕ) → Type 0) (due : S → Due) (first : S)
    (held : Option (List ℕ)) (x : WritingState S) (heard : List (List ℕ)) : Type 0 where
  pub ended_so : ended first x.scribe heard
  pub wrote : Grew held x.held ((due first).in_all heard)
  pub count : x.datagrams ≡ length heard

-- ---- what its calls do

-- it heard these datagrams, whatever it had heard before
pub record Hears
    {S : Type 0} (knows : S → S → List (List ℕ) → Type 0) (due : S → Due) (x y : WritingState S)
    (heard : List (List ℕ)) : Type 0 where
  pub later : x.faults ≤ y.faults
  pub since : (first : S) (held : Option (List ℕ)) (before : List (List ℕ))
      → HasHeardSince knows due first held x before
      → HasHeardSince knows due first held y (before ++ heard)

-- it was given these, and a part of what is due of them was written
pub record Stumbles
    {S : Type 0} (knows : S → S → List (List ℕ) → Type 0) (due : S → Due) (x y : WritingState S)
    (given : List (List ℕ)) : Type 0 where
  pub later : x.faults ≤ y.faults
  pub since : (first : S) (held : Option (List ℕ)) (before : List (List ℕ))
      → HasHeardSince knows due first held x before
      → GrewBySome held y.held ((due first).in_all (before ++ given))

-- by how it broke off: it can hear nothing more
abbrev pub BreaksOff : {S : Type 0} → (knows : S → S → List (List ℕ) → Type 0) → (due : S → Due)
    → (x y : WritingState S) → List (List ℕ) → ListenerFault → Type 0
BreaksOff knows due x y given NoMemory = Stumbles knows due x y given
BreaksOff knows due x y given Output = Stumbles knows due x y given × Rose x.faults y.faults

-- it heard the end
pub record Drains
    {S : Type 0} (knows ended : S → S → List (List ℕ) → Type 0) (due : S → Due)
    (x y : WritingState S) : Type 0 where
  pub later : x.faults ≤ y.faults
  pub since : (first : S) (held : Option (List ℕ)) (heard : List (List ℕ))
      → HasHeardSince knows due first held x heard
      → HasEndedSince ended due first held y heard

abbrev pub TakesEnd : {S : Type 0} → (knows ended : S → S → List (List ℕ) → Type 0) → (due : S → Due)
    → (x y : WritingState S) → Result (Unit {0}) ListenerFault → Type 0
TakesEnd knows ended due x y (Ok done) = Drains knows ended due x y
TakesEnd knows ended due x y (Err fault) = BreaksOff knows due x y [] fault

-- ---- an input

-- its datagrams were heard
abbrev pub PutsInput : {S : Type 0} → (knows : S → S → List (List ℕ) → Type 0) → (due : S → Due)
    → InputForm → ℕ → InputChange → (x y : WritingState S) → HeardInput → Type 0
PutsInput knows due form packets input x y told =
    HearsInput form packets input (Hears knows due x y) (BreaksOff knows due x y) ⊥ told

-- it broke off so, at the last of these
abbrev pub BrokeBy : {S : Type 0} → (knows : S → S → List (List ℕ) → Type 0) → (due : S → Due)
    → (x y : WritingState S) → List (List ℕ) → Ending → Type 0
BrokeBy knows due x y given end =
    (fault : ListenerFault) × (end ≡ fault_ending fault) × BreaksOff knows due x y given fault

-- what was still due was written, or it broke off, before or then
abbrev pub Concludes : {S : Type 0} → (knows ended : S → S → List (List ℕ) → Type 0) → (due : S → Due)
    → (x y : WritingState S) → Result (Unit {0}) Ending → Result ℕ Ending → Type 0
Concludes knows ended due x y heard (Ok count) =
    (heard ≡ Ok tt) × Drains knows ended due x y × (count ≡ y.datagrams)
Concludes knows ended due x y heard (Err end) =
    ((heard ≡ Err end) × (has_broken end ≡ true) × (y ≡ x))
    ⊎ (((heard ≡ Err end) × (has_broken end ≡ false) × Drains knows ended due x y)
    ⊎ (CanGoOn heard × BrokeBy knows due x y [] end))
