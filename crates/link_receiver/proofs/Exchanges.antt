-- Calls of places, one after another.
use Rattle.std.proofs.Common.{◌≡◌, List, [], ◌∷◌, ◌++◌, Option, Some, None, refl, ap, subst, sym, ◌∙◌, append-nil, arith}
use Rattle.std.proofs.Common.{true, false, inl, inr}
use Rattle.std.proofs.lemmas.Bool.{false≢true}
use Rattle.std.proofs.lemmas.List.{map-append}
use Rattle.std.specs.Prelude.{ℕ, is_some, map}
use Rattle.std.specs.Option.{option_map}
use Rattle.machine_model.specs.Places.{Answered, Job, own_answer}
use Rattle.receiver_model.proofs.Exchanges.{decodings_then, exchanged_then}
use Rattle.receiver_model.specs.Exchanging.{Exchange, Proposed, Fetched, Withdrawn, Made, all_exchanged, back_from, dones_in, exchanged, takes_dones}
use Rattle.receiver_model.specs.Releasing.{next_picture}
use Rattle.receiver_model.specs.Receptions.{Reception}
use Rattle.receiver_model.specs.Standing.{AreDecodings}
use Rattle.link_slices.proofs.Growing.{told_assoc, grows_twice, grows_none}
use Rattle.link_slices.specs.Calls.{PlaceCall, Puts, Takes, Withdraws, Makes, told_by, told_of, exchange_by, exchanges_of}
use Rattle.link_slices.specs.Jobs.{answered_run, jobs_of_run, made_run}
use Rattle.link_slices.proofs.RunAnswers.{answers_are_own}
use Rattle.vc_slice.specs.Asked.{Told, nothing_told, told_more, Grows, one_offer, taking}
use Rattle.vc_slice.specs.declared.run.RunDone.{RunDone}
use Rattle.vc_slice.specs.declared.run.RunJob.{RunJob}
use Rattle.link_receiver.proofs.SameSession.{HaveSameSession, all_exchanged-session, same_next}
use Rattle.link_receiver.specs.Exchanged.{IsExchanged}
use Rattle.link_receiver.specs.Offers.{MakesHandedBack, proposed_in}

pub told_of-append : (a b : List PlaceCall) → told_of (a ++ b) ≡ told_more (told_of a) (told_of b)
told_of-append [] b = refl
told_of-append (call ∷ a) b = ap (told_more (told_by call)) (told_of-append a b)
    ∙ sym (told_assoc (told_by call) (told_of a) (told_of b))

pub exchanges_of-append : (a b : List PlaceCall)
    → exchanges_of (a ++ b) ≡ exchanges_of a ++ exchanges_of b
exchanges_of-append a b = map-append exchange_by a b

-- ---- what is decoded of a run that was handed back

handed_any : (handed : List Job) (es : List Exchange) → MakesHandedBack [] es
    → MakesHandedBack handed es
handed_any handed [] made = tt
handed_any handed (Proposed jobs None ∷ es) made = made
handed_any handed (Proposed jobs (Some place) ∷ es) made = made
handed_any handed (Fetched place answer ∷ es) made = handed_any handed es made
handed_any handed (Withdrawn place ∷ es) made = absurd made
handed_any handed (Made dones ∷ es) (inl none, made) = (inl none, handed_any handed es made)
handed_any handed (Made dones ∷ es) (inr none, made) = (inl none, handed_any handed es made)

handed_then : (handed : List Job) (a b : List Exchange) → MakesHandedBack handed a
    → MakesHandedBack [] b → MakesHandedBack handed (a ++ b)
handed_then handed [] b made more = handed_any handed b more
handed_then handed (Proposed jobs None ∷ a) b made more = handed_then jobs a b made more
handed_then handed (Proposed jobs (Some place) ∷ a) b made more = handed_then [] a b made more
handed_then handed (Fetched place answer ∷ a) b made more = handed_then handed a b made more
handed_then handed (Withdrawn place ∷ a) b made more = absurd made
handed_then handed (Made dones ∷ a) b (one, made) more = (one, handed_then handed a b made more)

-- behind calls that offer nothing
pub handed_on : (handed : List Job) (a b : List Exchange) → proposed_in a ≡ []
    → MakesHandedBack [] a → MakesHandedBack handed b → MakesHandedBack handed (a ++ b)
handed_on handed [] b none made more = more
handed_on handed (Proposed jobs place ∷ a) b none made more = absurd (cc none)
handed_on handed (Fetched place answer ∷ a) b none made more = handed_on handed a b none made more
handed_on handed (Withdrawn place ∷ a) b none made more = absurd made
handed_on handed (Made dones ∷ a) b none (inl empty, made) more =
    (inl empty, handed_on handed a b none made more)
handed_on handed (Made dones ∷ a) b none (inr empty, made) more =
    (inl empty, handed_on handed a b none made more)

-- ---- none, one and two

pub no_call : (told : Option Told) (r : Reception) → IsExchanged told told r r []
no_call told r =
    record { told = grows_none told; value = refl; decodings = tt; little = λ none. tt }

pub one_put : (before behind : Option Told) (old new : Reception) (run : RunJob)
    (answer : Option ℕ) → Grows before behind (one_offer run answer)
    → new ≡ exchanged old (Proposed (jobs_of_run run) answer)
    → IsExchanged before behind old new (Puts run answer ∷ [])
one_put before behind old new run answer told value = record {
  told = grind arith;
  value = value;
  decodings = tt;
  little = λ none. by_answer answer;
}
  where
    by_answer : (answer : Option ℕ)
        → MakesHandedBack [] (Proposed (jobs_of_run run) answer ∷ [])
    by_answer None = tt
    by_answer (Some place) = tt

own_decodings : (jobs : List Job) → AreDecodings (map own_answer jobs)
own_decodings [] = tt
own_decodings (job ∷ jobs) = (refl, own_decodings jobs)

-- what a run is decoded to are its jobs' decodings
pub made_decodings : (run : RunJob) → AreDecodings (made_run run)
made_decodings run = own_decodings (jobs_of_run run)

pub own_done : (done : RunDone) → AreDecodings (answered_run done)
own_done done = subst AreDecodings (answers_are_own done) (own_decodings (jobs_of_run done.job))

pub one_take : (before behind : Option Told) (old new : Reception) (place : ℕ)
    (done : Option RunDone) → Grows before behind (taking place done)
    → new ≡ exchanged old (Fetched place (option_map answered_run done))
    → IsExchanged before behind old new (Takes place done ∷ [])
one_take before behind old new place None told value =
    record { told = grind arith; value = value; decodings = tt; little = λ none. tt }
one_take before behind old new place (Some done) told value = record {
  told = grind arith;
  value = value;
  decodings = subst AreDecodings (sym (append-nil (answered_run done))) (own_done done);
  little = λ none. tt;
}

-- a run that is taken back and decoded here, where a picture may be released
pub taken_over : (before behind : Option Told) (old new : Reception) (place : ℕ) (dones : List Answered)
    → is_some (next_picture old) ≡ true
    → Grows before behind (record nothing_told { freed = place ∷ [] }) → AreDecodings dones
    → new ≡ takes_dones (back_from old place) dones
    → IsExchanged before behind old new (Withdraws place ∷ Makes dones ∷ [])
taken_over before behind old new place dones released told own value = record {
  told = told;
  value = value;
  decodings = subst AreDecodings (sym (append-nil dones)) own;
  little = λ none. absurd (false≢true (sym none ∙ released));
}

-- ---- one behind another

module _ (a b c : Option Told) (r s t : Reception) (first second : List PlaceCall) where
  told_then : Grows a b (told_of first) → Grows b c (told_of second) → Grows a c (told_of (first ++ second))
  told_then p q = subst (Grows a c) (sym (told_of-append first second))
      (grows_twice a b c (told_of first) (told_of second) p q)

  value_then : s ≡ all_exchanged r (exchanges_of first) → t ≡ all_exchanged s (exchanges_of second)
      → t ≡ all_exchanged r (exchanges_of (first ++ second))
  value_then p q = q ∙ ap (λ (x : Reception). all_exchanged x (exchanges_of second)) p
      ∙ sym (exchanged_then r (exchanges_of first) (exchanges_of second))
      ∙ ap (all_exchanged r) (sym (exchanges_of-append first second))

  own_then : AreDecodings (dones_in (exchanges_of first)) → AreDecodings (dones_in (exchanges_of second))
      → AreDecodings (dones_in (exchanges_of (first ++ second)))
  own_then p q = subst (λ (es : List Exchange). AreDecodings (dones_in es))
      (sym (exchanges_of-append first second))
      (decodings_then (exchanges_of first) (exchanges_of second) p q)

  same_picture : s ≡ all_exchanged r (exchanges_of first) → next_picture s ≡ next_picture r
  same_picture value = same_next r s
      (subst (HaveSameSession r) (sym value) (all_exchanged-session r (exchanges_of first)))

  pub calls_then : IsExchanged a b r s first → IsExchanged b c s t second
      → IsExchanged a c r t (first ++ second)
  calls_then p q = record {
    told = told_then p.told q.told;
    value = value_then p.value q.value;
    decodings = own_then p.decodings q.decodings;
    little = λ none. subst (MakesHandedBack []) (sym (exchanges_of-append first second))
        (handed_then [] (exchanges_of first) (exchanges_of second) (p.little none)
        (q.little (ap is_some (same_picture p.value) ∙ none)));
  }

-- a run that was handed back is decoded here
pub makes_behind : (a b : Option Told) (r s t : Reception) (calls : List PlaceCall) (run : RunJob)
    → IsExchanged a b r s calls
    → (is_some (next_picture r) ≡ false
    → MakesHandedBack [] (exchanges_of calls ++ Made (made_run run) ∷ []))
    → t ≡ takes_dones s (made_run run)
    → IsExchanged a b r t (calls ++ Makes (made_run run) ∷ [])
makes_behind a b r s t calls run h handing made =
    let last = Makes (made_run run) ∷ [] in
    record {
      told = told_then a b b r s t calls last h.told (grows_none b);
      value = value_then a b b r s t calls last h.value made;
      decodings = own_then a b b r s t calls last h.decodings
          (subst AreDecodings (sym (append-nil (made_run run))) (made_decodings run));
      little = λ none. subst (MakesHandedBack []) (sym (exchanges_of-append calls last)) (handing none);
    }
