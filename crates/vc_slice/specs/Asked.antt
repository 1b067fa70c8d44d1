-- What a form of places was asked to do, and what it answered.
use Rattle.std.specs.Prelude.{◌≡◌, ℕ, List, [], ◌∷◌, ◌++◌, ⊤, Option, None, Some, Result, Ok, Err}
use Rattle.vc_types.specs.declared.memory.NoMemory.{NoMemory}
use Rattle.vc_slice.specs.declared.run.RunDone.{RunDone}
use Rattle.vc_slice.specs.declared.run.RunJob.{RunJob}
use Rattle.vc_slice.specs.declared.run.RunLoad.{RunLoad}

-- a run that was offered, and the place that was answered
pub record Offer : Type 0 where
  pub job : RunJob
  pub place : Option ℕ

-- a decoded run that was given back, and the place that was asked
pub record Given : Type 0 where
  pub place : ℕ
  pub done : RunDone

-- the runs that were offered, the places that were asked, what was given back, the places that were
-- freed without a decoding, and the numbers of workers that were started: each list in the order of
-- the calls
pub record Told : Type 0 where
  pub offered : List Offer
  pub asked : List ℕ
  pub given : List Given
  pub freed : List ℕ
  pub started : List ℕ

abbrev pub nothing_told : Told
nothing_told = record { offered = []; asked = []; given = []; freed = []; started = [] }

abbrev pub told_more : Told → Told → Told
told_more old more = record {
  offered = old.offered ++ more.offered;
  asked = old.asked ++ more.asked;
  given = old.given ++ more.given;
  freed = old.freed ++ more.freed;
  started = old.started ++ more.started;
}

-- What is told grows by these. A form may stop telling, for good.
abbrev pub Grows : Option Told → Option Told → Told → Type 0
Grows None None more = ⊤
Grows None (Some new) more = ⊥
Grows (Some old) None more = ⊤
Grows (Some old) (Some new) more = new ≡ told_more old more

-- ---- what each call adds

abbrev pub one_offer : RunJob → Option ℕ → Told
one_offer job place = record nothing_told { offered = record { job = job; place = place } ∷ [] }

abbrev pub answered_place : Result ℕ RunLoad → Option ℕ
answered_place (Ok place) = Some place
answered_place (Err job) = None

abbrev pub offering : RunJob → Result ℕ RunLoad → Told
offering job answer = one_offer job (answered_place answer)

abbrev pub given_by : ℕ → Option RunDone → List Given
given_by place None = []
given_by place (Some done) = record { place = place; done = done } ∷ []

abbrev pub taking : ℕ → Option RunDone → Told
taking place answer = record nothing_told { asked = place ∷ []; given = given_by place answer }

abbrev pub freed_by : ℕ → Option RunLoad → List ℕ
freed_by place None = []
freed_by place (Some job) = place ∷ []

abbrev pub withdrawing : ℕ → Option RunLoad → Told
withdrawing place answer = record nothing_told { freed = freed_by place answer }

abbrev pub leaving : ℕ → Told
leaving place = record nothing_told { freed = place ∷ [] }

abbrev pub started_by : ℕ → Result (Unit {0}) NoMemory → List ℕ
started_by workers (Ok done) = workers ∷ []
started_by workers (Err e) = []

abbrev pub starting : ℕ → Result (Unit {0}) NoMemory → Told
starting workers answer = record nothing_told { started = started_by workers answer }
