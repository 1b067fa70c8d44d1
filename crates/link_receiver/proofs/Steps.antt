-- What one step on a receiver's parts is on its value.
use Rattle.std.proofs.Common.{◌≡◌, ℕ, true, List, [], ◌∷◌, Option, Some, None, Result, Ok, Err, refl, ap, ◌∙◌, arith}
use Rattle.std.specs.Prelude.{filter, is_some, IfSome, IfOk}
use Rattle.std.specs.Option.{option_copied}
use denote.Ref.{Bor}
use Rattle.link_model.specs.Books.{Book}
use Rattle.link_model.specs.Windows.{Releasable}
use Rattle.receiver_model.specs.Exchanging.{Proposed, exchanged, takes_dones, not_at}
use Rattle.receiver_model.specs.Receptions.{Reception, RunOut, StandingSession}
use Rattle.receiver_model.specs.Releasing.{next_picture}
use Rattle.receiver_model.specs.WholeBooks.{IsWholeBook}
use Rattle.link_receiver.proofs.CallSteps.{OffersNothing}
use Rattle.link_receiver.proofs.Exchanges.{one_put, one_take, made_decodings, taken_over}
use Rattle.link_receiver.specs.Exchanged.{IsExchanged}
use Rattle.link_pictures.specs.Completing.{IsWholeBySome}
use Rattle.link_slices.specs.Calls.{Puts, Takes, Withdraws, Makes, out_exchanged, is_handed_back}
use Rattle.link_slices.specs.Jobs.{answered_run, jobs_of_run, made_run}
use Rattle.machine_model.specs.Places.{Job}
use Rattle.link_receiver.specs.Shown.{shown_bytes}
use Rattle.link_pictures.specs.Outputs.{released_output}
use Rattle.link_pictures.specs.declared.written.Written.{Written}
use Rattle.link_pictures.specs.declared.written.Written.TheVariants.{Frames, Filled, Units}
use Rattle.vc_slice.specs.Asked.{Told, Grows, one_offer, taking, leaving}
use Rattle.vc_slice.specs.declared.run.RunDone.{RunDone}
use Rattle.vc_slice.specs.declared.run.RunJob.{RunJob}
use Rattle.vc_slice.specs.declared.run.RunLoad.{RunLoad}
use Rattle.vc_types.specs.SequenceHeader.{Sequence}
use Rattle.vc_types.specs.declared.memory.NoMemory.{NoMemory}

pub whole_by_some : (s : Sequence) (o : Option (Bor Book))
    → IfSome o (λ book. IsWholeBook s book.now) → IsWholeBySome (option_copied o)
whole_by_some s None h = tt
whole_by_some s (Some book) h = (s, h)

module _ (r : Reception) (st : StandingSession) (picture : Releasable)
    (e : r.standing ≡ Some st) where
  pub shown_output : (written : Written)
      → shown_bytes written st r.answers r.field picture.number ≡ released_output written r picture
  shown_output Frames = rw e refl
  shown_output (Filled last) = rw e refl
  shown_output (Units w) = rw e refl

-- ---- a run is put

put_value : (old : Reception) (out : List RunOut) (jobs : List Job) (answer : Option ℕ)
    → out ≡ out_exchanged old.out (Proposed jobs answer)
    → (let new : Reception = record old { out = out } in new)
    ≡ exchanged old (Proposed jobs answer)
put_value old out jobs None e = rw e refl
put_value old out jobs (Some place) e = rw e refl

pub put_calls : (r : Result (Option RunLoad) NoMemory) (before behind : Option Told)
    (old : Reception) (out : List RunOut) (run : RunJob)
    → IfOk r (λ back. (answer : Option ℕ) × Grows before behind (one_offer run answer)
    × (out ≡ out_exchanged old.out (Proposed (jobs_of_run run) answer))
    × is_handed_back answer back)
    → IfOk r (λ back. (answer : Option ℕ)
    × IsExchanged before behind old (record old { out = out }) (Puts run answer ∷ [])
    × is_handed_back answer back)
put_calls (Err e) before behind old out run h = tt
put_calls (Ok back) before behind old out run h = (
  h.0,
  one_put before behind old (record old { out = out }) run h.0 h.1
      (put_value old out (jobs_of_run run) h.0 h.2),
  h.3,
)

-- ---- a place is asked

pub take_some : (before behind : Option Told) (old : Reception) (out : List RunOut)
    (new : Reception) (place : ℕ) (done : RunDone)
    → Grows before behind (taking place (Some done))
    → out ≡ filter (not_at place) old.out
    → new ≡ takes_dones (record old { out = out }) (answered_run done)
    → IsExchanged before behind old new (Takes place (Some done) ∷ [])
take_some before behind old out new place done told e value =
    one_take before behind old new place (Some done) told
    (value ∙ ap (λ (o : List RunOut). takes_dones (record old { out = o }) (answered_run done)) e)

pub take_none : (before behind : Option Told) (old : Reception) (out : List RunOut) (place : ℕ)
    → Grows before behind (taking place None) → out ≡ old.out
    → IsExchanged before behind old (record old { out = out }) (Takes place None ∷ [])
take_none before behind old out place told e = grind (arith, one_take)

-- ---- a run is taken back, and decoded here

pub takes_over : (before behind : Option Told) (old : Reception) (out : List RunOut)
    (new : Reception) (place : ℕ) (run : RunJob)
    → is_some (next_picture old) ≡ true
    → Grows before behind (leaving place) → out ≡ filter (not_at place) old.out
    → new ≡ takes_dones (record old { out = out }) (made_run run)
    → OffersNothing before behind old new
takes_over before behind old out new place run released told e value = (
  Withdraws place ∷ Makes (made_run run) ∷ [],
  taken_over before behind old new place (made_run run) released told (made_decodings run)
      (value ∙ ap (λ (o : List RunOut). takes_dones (record old { out = o }) (made_run run)) e),
  refl,
)
