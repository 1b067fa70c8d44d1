-- Calls of places one after another, none of which starts workers.
use Rattle.std.proofs.Common.{◌≡◌, ℕ, List, [], ◌∷◌, refl, Option, Ok, Err, sym, subst, ◌∙◌}
use Rattle.std.specs.Prelude.{Result, IfOk, OnErr}
use Rattle.receiver_model.specs.Receptions.{Reception, RunOut}
use Rattle.link_receiver.specs.Exchanged.{IsExchanged, KeepsPlaces}
use Rattle.link_receiver.specs.HeardLists.{AskedPlaces}
pub use Rattle.link_slices.proofs.Growing.{grows_none, grows_twice}
use Rattle.link_slices.specs.Calls.{PlaceCall, PlacesAreBelow, Puts, Takes, Withdraws, Makes, told_of, is_handed_back}
use Rattle.vc_slice.specs.Asked.{Told, Grows, nothing_told, told_more, taking, withdrawing}
use Rattle.vc_slice.specs.declared.run.RunDone.{RunDone}
use Rattle.vc_slice.specs.declared.run.RunJob.{RunJob}
use Rattle.vc_slice.specs.declared.run.RunLoad.{RunLoad}
use Rattle.vc_types.specs.declared.memory.NoMemory.{NoMemory}

pub asked_none : (told : Option Told) → AskedPlaces told told
asked_none told = record { more = nothing_told; grows = grows_none told; started = refl }

pub asked_twice : (a b c : Option Told) → AskedPlaces a b → AskedPlaces b c → AskedPlaces a c
asked_twice a b c first second = record {
  more = told_more first.more second.more;
  grows = grows_twice a b c first.more second.more first.grows second.grows;
  started = rw (first.started, second.started) refl;
}

-- calls of places start no workers
pub none_started : (calls : List PlaceCall) → (told_of calls).started ≡ []
none_started [] = refl
none_started (Puts run answer ∷ rest) = none_started rest
none_started (Takes place answer ∷ rest) = none_started rest
none_started (Withdraws place ∷ rest) = none_started rest
none_started (Makes dones ∷ rest) = none_started rest

pub asked_calls : (a b : Option Told) (r s : Reception) (calls : List PlaceCall)
    → IsExchanged a b r s calls → AskedPlaces a b
asked_calls a b r s calls h =
    record { more = told_of calls; grows = h.told; started = none_started calls }

pub asked_back : (a b : Option Told) (place : ℕ) (answer : Option RunLoad)
    → Grows a b (withdrawing place answer) → AskedPlaces a b
asked_back a b place answer grew =
    record { more = withdrawing place answer; grows = grew; started = refl }

pub asked_take : (a b : Option Told) (place : ℕ) (answer : Option RunDone)
    → Grows a b (taking place answer) → AskedPlaces a b
asked_take a b place answer grew =
    record { more = taking place answer; grows = grew; started = refl }

-- a run is put, or there was no memory for that
pub asked_put : {X : Type 0} (told : X → Option Told) (x y : X) {S : Type 0} (s t : S)
    (result : Result (Option RunLoad) NoMemory) (old new : Reception) (run : RunJob)
    → IfOk result (λ back. (answer : Option ℕ) × IsExchanged (told x) (told y) old new (Puts run answer ∷ [])
    × is_handed_back answer back)
    → OnErr result ((t ≡ s) × (y ≡ x)) → AskedPlaces (told x) (told y)
asked_put told x y s t (Ok back) old new run h e = asked_calls (told x) (told y) old new (Puts run h.0 ∷ []) h.1
asked_put told x y s t (Err fault) old new run h e =
    subst (λ z. AskedPlaces (told x) (told z)) (sym e.1) (asked_none (told x))

-- ---- with the bound, and what is out

module _ {P : Type 0} {told : P → Option Told} {bound : P → ℕ} {a : P} {out : List RunOut} where
  pub keeps_none : PlacesAreBelow (bound a) out → KeepsPlaces told bound a a out
  keeps_none below = record { asked = asked_none (told a); same_bound = refl; below = below }

  pub keeps_twice : {b c : P} {later : List RunOut} → KeepsPlaces told bound a b out
      → KeepsPlaces told bound b c later → KeepsPlaces told bound a c later
  keeps_twice {b} {c} first second = record {
    asked = asked_twice (told a) (told b) (told c) first.asked second.asked;
    same_bound = second.same_bound ∙ first.same_bound;
    below = second.below;
  }
