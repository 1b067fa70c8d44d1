-- Calls of places, by the steps that make them.
use Rattle.std.proofs.Common.{◌≡◌, ℕ, suc, true, false, List, [], ◌∷◌, ◌++◌, take, Option, Some, None}
use Rattle.std.proofs.Common.{Result, Ok, Err, refl, ap, sym, ◌∙◌, subst, inl, inr, append-nil, append_assoc, arith}
use Rattle.std.specs.Prelude.{◌⊎◌, OnOk, is_some}
use Rattle.std.specs.List.{flat_map}
use Rattle.std.proofs.lemmas.Bool.{false≢true}
use Rattle.link_model.specs.Windows.{Releasable}
use Rattle.machine_model.specs.Places.{Job}
use Rattle.receiver_model.specs.Exchanging.{Exchange, Proposed, Made, takes_dones}
use Rattle.receiver_model.specs.Receptions.{Reception}
use Rattle.receiver_model.specs.Releasing.{next_picture}
use Rattle.link_receiver.proofs.Exchanges.{calls_then, exchanges_of-append, handed_on, makes_behind}
use Rattle.link_receiver.proofs.SameSession.{HaveSameSession, all_exchanged-session, same_next}
use Rattle.link_receiver.proofs.Offered.{proposed_in-append, offers_more}
use Rattle.link_receiver.proofs.Stays.{AreAskedOrIn, one_asked, all_asked, asked_before, asked_then}
use Rattle.link_receiver.specs.Exchanged.{IsExchanged}
use Rattle.link_receiver.specs.Offers.{AreOffersOf, AreRunOffers, IsOfferOf, MakesHandedBack, proposed_in, asked_in, asked_at, are_asked}
use Rattle.link_slices.specs.Calls.{PlaceCall, Makes, Puts, exchanges_of, is_handed_back}
use Rattle.link_slices.specs.Jobs.{jobs_of_run, made_run}
use Rattle.vc_slice.specs.Asked.{Told}
use Rattle.vc_slice.specs.declared.run.RunJob.{RunJob}
use Rattle.vc_slice.specs.declared.run.RunLoad.{RunLoad}
use Rattle.vc_types.specs.declared.memory.NoMemory.{NoMemory}

-- what is known whatever comes of a call is known where it answers
pub on_ok : {T E : Type 0} (r : Result T E) (P : Type 0) → P → OnOk r P
on_ok (Ok x) P known = known
on_ok (Err e) P known = tt

-- all that was proposed by two lists of calls
proposed_then : (x y : List PlaceCall) → proposed_in (exchanges_of (x ++ y))
    ≡ proposed_in (exchanges_of x) ++ proposed_in (exchanges_of y)
proposed_then x y = ap proposed_in (exchanges_of-append x y)
    ∙ proposed_in-append (exchanges_of x) (exchanges_of y)

pub calls_session : (a b : Option Told) (r s : Reception) (calls : List PlaceCall)
    → IsExchanged a b r s calls → HaveSameSession r s
calls_session a b r s calls h = subst (HaveSameSession r) (sym h.value)
    (all_exchanged-session r (exchanges_of calls))

pub same_next_picture : (a b : Option Told) (r s : Reception) (calls : List PlaceCall)
    → IsExchanged a b r s calls → next_picture s ≡ next_picture r
same_next_picture a b r s calls h = same_next r s (calls_session a b r s calls h)

-- ---- every place is asked, from the last slice on

abbrev pub IsAsking : Option Told → Option Told → Reception → Reception → ℕ → Type 0
IsAsking a b first now k = (calls : List PlaceCall)
    × IsExchanged a b first now calls
    × (proposed_in (exchanges_of calls) ≡ [])
    × AreAskedOrIn first.out (asked_in (exchanges_of calls)) (take k now.out)

abbrev pub AsksOne : Option Told → Option Told → Reception → Reception → ℕ → Type 0
AsksOne b c now behind i = (calls : List PlaceCall)
    × IsExchanged b c now behind calls
    × (proposed_in (exchanges_of calls) ≡ [])
    × (asked_in (exchanges_of calls) ≡ asked_at now.out i)

pub ask_step : (a b c : Option Told) (first now behind : Reception) (k i : ℕ) → k ≡ suc i
    → IsAsking a b first now k → AsksOne b c now behind i → IsAsking a c first behind i
ask_step a b c first now behind k i e h m = (
  h.0 ++ m.0,
  calls_then a b c first now behind h.0 m.0 h.1 m.1,
  proposed_then h.0 m.0
      ∙ ap (λ (l : List Exchange). l ++ proposed_in (exchanges_of m.0)) h.2 ∙ m.2,
  subst (λ (es : List Exchange). AreAskedOrIn first.out (asked_in es) (take i behind.out))
      (sym (exchanges_of-append h.0 m.0))
      (subst (λ (r : Reception). AreAskedOrIn first.out
      (asked_in (exchanges_of h.0 ++ exchanges_of m.0)) (take i r.out)) (sym m.1.value)
      (one_asked first.out now (exchanges_of h.0) (exchanges_of m.0) k i e h.3 m.2 m.3)),
)

pub asked_last : (a b : Option Told) (first now : Reception) (k : ℕ) → k ≡ 0
    → IsAsking a b first now k → (calls : List PlaceCall)
    × IsExchanged a b first now calls
    × (proposed_in (exchanges_of calls) ≡ [])
    × (are_asked first.out (exchanges_of calls) ≡ true)
asked_last a b first now k e h = grind (arith, all_asked, AreAskedOrIn)

-- ---- offers

abbrev pub OffersRun : Option Told → Option Told → Reception → Reception → List Job → Type 0
OffersRun a b old new jobs = (calls : List PlaceCall) × IsExchanged a b old new calls
    × IsOfferOf jobs (proposed_in (exchanges_of calls))

-- a run was put once
abbrev pub Proposes : Option Told → Option Told → Reception → Reception → RunJob
    → Option RunLoad → Type 0
Proposes a b old new run back = (answer : Option ℕ) × IsExchanged a b old new (Puts run answer ∷ [])
    × is_handed_back answer back

-- calls that offer nothing
abbrev pub OffersNothing : Option Told → Option Told → Reception → Reception → Type 0
OffersNothing a b old new = (calls : List PlaceCall) × IsExchanged a b old new calls
    × (proposed_in (exchanges_of calls) ≡ [])

-- and those behind them
behind_nothing : (x y : List PlaceCall) → proposed_in (exchanges_of x) ≡ []
    → proposed_in (exchanges_of (x ++ y)) ≡ proposed_in (exchanges_of y)
behind_nothing x y none = proposed_then x y
    ∙ ap (λ (l : List Exchange). l ++ proposed_in (exchanges_of y)) none

pub nothing_twice : (a b c : Option Told) (r s t : Reception) → OffersNothing a b r s
    → OffersNothing b c s t → OffersNothing a c r t
nothing_twice a b c r s t h m = (
  h.0 ++ m.0,
  calls_then a b c r s t h.0 m.0 h.1 m.1,
  behind_nothing h.0 m.0 h.2 ∙ m.2,
)

-- ---- a run that was handed back, and is decoded here or offered again

pub offered_once : (a b : Option Told) (r s : Reception) (run : RunJob) (back : Option RunLoad)
    → Proposes a b r s run back → OffersRun a b r s (jobs_of_run run)
offered_once a b r s run back (answer, h, is) = (Puts run answer ∷ [], h, inl (answer, refl))

-- it was put, and behind that places were asked
abbrev pub Hands : Option Told → Option Told → Reception → Reception → RunJob → Type 0
Hands a b old new run = (calls : List PlaceCall) × IsExchanged a b old new calls
    × (is_some (next_picture old) ≡ false → (rest : List Exchange)
    → MakesHandedBack (jobs_of_run run) rest → MakesHandedBack [] (exchanges_of calls ++ rest))
    × ((more : List PlaceCall) → proposed_in (exchanges_of (calls ++ more))
    ≡ Proposed (jobs_of_run run) None ∷ proposed_in (exchanges_of more))

pub hands_back : (a b : Option Told) (r s : Reception) (run : RunJob) (back : RunLoad)
    → Proposes a b r s run (Some back) → Hands a b r s run
hands_back a b r s run back (None, h, is) =
    (Puts run None ∷ [], h, λ none rest made. made, λ more. refl)
hands_back a b r s run back (Some place, h, is) = absurd (cc is)

pub hands_then : (a b c : Option Told) (r s t : Reception) (run : RunJob) → Hands a b r s run
    → OffersNothing b c s t → Hands a c r t run
hands_then a b c r s t run (calls, h, handing, puts) (asks, m, none) = (
  calls ++ asks,
  calls_then a b c r s t calls asks h m,
  λ not rest made. subst (MakesHandedBack []) (sym (both rest))
      (handing not (exchanges_of asks ++ rest)
      (handed_on (jobs_of_run run) (exchanges_of asks) rest none
      (m.little (ap is_some (same_next_picture a b r s calls h) ∙ not)) made)),
  λ more. ap (λ (l : List PlaceCall). proposed_in (exchanges_of l)) (append_assoc calls asks more)
      ∙ puts (asks ++ more)
      ∙ ap (λ (l : List Exchange). Proposed (jobs_of_run run) None ∷ l) (behind_nothing asks more none),
)
  where
    both : (rest : List Exchange) → exchanges_of (calls ++ asks) ++ rest
        ≡ exchanges_of calls ++ (exchanges_of asks ++ rest)
    both rest = ap (λ (l : List Exchange). l ++ rest) (exchanges_of-append calls asks)
        ∙ append_assoc (exchanges_of calls) (exchanges_of asks) rest

-- it is decoded here, or isn't
abbrev pub IsMade : Reception → Reception → RunJob → Type 0
IsMade old new run = (new ≡ old) ⊎ (new ≡ takes_dones old (made_run run))

abbrev HandsAndMakes : Option Told → Option Told → Reception → Reception → RunJob → Type 0
HandsAndMakes a b old new run = (calls : List PlaceCall) × IsExchanged a b old new calls
    × (proposed_in (exchanges_of calls) ≡ Proposed (jobs_of_run run) None ∷ [])

hands_only : (a b : Option Told) (r s : Reception) (run : RunJob) → Hands a b r s run
    → HandsAndMakes a b r s run
hands_only a b r s run (calls, h, handing, puts) = (
  calls,
  h,
  ap (λ (l : List PlaceCall). proposed_in (exchanges_of l)) (sym (append-nil calls)) ∙ puts [],
)

hands_made : (a b : Option Told) (r s t : Reception) (run : RunJob) → Hands a b r s run
    → IsMade s t run → HandsAndMakes a b r t run
hands_made a b r s t run h (inl same) =
    subst (λ (x : Reception). HandsAndMakes a b r x run) (sym same) (hands_only a b r s run h)
hands_made a b r s t run (calls, h, handing, puts) (inr made) = (
  calls ++ Makes (made_run run) ∷ [],
  makes_behind a b r s t calls run h (λ none. handing none (Made (made_run run) ∷ []) (inr refl, tt)) made,
  puts (Makes (made_run run) ∷ []),
)

pub made_once : (a b : Option Told) (r s t : Reception) (run : RunJob) → Hands a b r s run
    → IsMade s t run → OffersRun a b r t (jobs_of_run run)
made_once a b r s t run h m =
    let all = hands_made a b r s t run h m in (all.0, all.1, inl (None, all.2))

-- it is offered a second time, and may be decoded then
twice : (a b c : Option Told) (r s t : Reception) (run : RunJob) (place : Option ℕ)
    (more : List PlaceCall) → Hands a b r s run → IsExchanged b c s t more
    → proposed_in (exchanges_of more) ≡ Proposed (jobs_of_run run) place ∷ []
    → OffersRun a c r t (jobs_of_run run)
twice a b c r s t run place more (calls, h, handing, puts) m one = (
  calls ++ more,
  calls_then a b c r s t calls more h m,
  inr (
    place,
    puts more ∙ ap (λ (l : List Exchange). Proposed (jobs_of_run run) None ∷ l) one,
  ),
)

pub offered_twice : (a b c : Option Told) (r s t : Reception) (run : RunJob) (back : Option RunLoad)
    → Hands a b r s run → Proposes b c s t run back → OffersRun a c r t (jobs_of_run run)
offered_twice a b c r s t run back h (answer, m, is) =
    twice a b c r s t run answer (Puts run answer ∷ []) h m refl

pub made_twice : (a b c : Option Told) (r s t u : Reception) (run : RunJob) (back : RunLoad)
    → Hands a b r s run → Proposes b c s t run (Some back) → IsMade t u run
    → OffersRun a c r u (jobs_of_run run)
made_twice a b c r s t u run back h p m =
    let all = hands_made b c s t u run (hands_back b c s t run back p) m in
    twice a b c r s u run None all.0 h all.1 all.2

abbrev pub Offers : Option Told → Option Told → Reception → Reception → List RunJob → Type 0
Offers a b old new runs = (calls : List PlaceCall) × IsExchanged a b old new calls
    × AreRunOffers runs (proposed_in (exchanges_of calls))

pub offers_step : (a b c : Option Told) (r s t : Reception) (runs : List RunJob) (run : RunJob)
    → Offers a b r s runs → OffersRun b c s t (jobs_of_run run)
    → Offers a c r t (runs ++ run ∷ [])
offers_step a b c r s t runs run h m = (
  h.0 ++ m.0,
  calls_then a b c r s t h.0 m.0 h.1 m.1,
  subst (AreRunOffers (runs ++ run ∷ [])) (sym (proposed_then h.0 m.0))
      (offers_more runs (proposed_in (exchanges_of h.0)) run (proposed_in (exchanges_of m.0)) h.2 m.2),
)

-- the offers of runs are those of their jobs
abbrev pub OffersJobs : Option Told → Option Told → Reception → Reception → List Job → Type 0
OffersJobs a b old new jobs = (calls : List PlaceCall) × IsExchanged a b old new calls
    × AreOffersOf jobs (proposed_in (exchanges_of calls))

pub offers_all : (a b : Option Told) (old new : Reception) (runs : List RunJob) (jobs : List Job)
    → flat_map jobs_of_run runs ≡ jobs → Offers a b old new runs → OffersJobs a b old new jobs
offers_all a b old new runs jobs e h = (h.0, h.1, (runs, e, h.2))

-- ---- a whole exchange

abbrev pub Exchanges : Option Told → Option Told → Reception → Reception → List Job → Type 0
Exchanges a b old new jobs = (calls : List PlaceCall) × IsExchanged a b old new calls
    × AreOffersOf jobs (proposed_in (exchanges_of calls))
    × (is_some (next_picture old) ≡ true → are_asked old.out (exchanges_of calls) ≡ true)

none_is_next : (next : Option Releasable) → None ≡ next → is_some next ≡ true → ⊥
none_is_next next e s = false≢true (ap is_some e ∙ s)

abbrev pub TakesBack : Option Told → Option Told → Reception → Reception → Type 0
TakesBack a b old new = (calls : List PlaceCall) × IsExchanged a b old new calls
    × (proposed_in (exchanges_of calls) ≡ [])
    × (is_some (next_picture old) ≡ true → are_asked old.out (exchanges_of calls) ≡ true)

-- where no picture is next, some places may be asked
pub takes_some : (a b : Option Told) (r s : Reception) → None ≡ next_picture r
    → OffersNothing a b r s → TakesBack a b r s
takes_some a b r s e h =
    (h.0, h.1, h.2, λ some. absurd (none_is_next (next_picture r) e some))

-- what is out is asked, and nothing is offered behind that
abbrev pub AsksAll : Option Told → Option Told → Reception → Reception → Type 0
AsksAll a b old new = (calls : List PlaceCall) × IsExchanged a b old new calls
    × (proposed_in (exchanges_of calls) ≡ [])
    × (are_asked old.out (exchanges_of calls) ≡ true)

pub asks_then : (a b c : Option Told) (r s t : Reception) → AsksAll a b r s
    → OffersNothing b c s t → TakesBack a c r t
asks_then a b c r s t h m = (
  h.0 ++ m.0,
  calls_then a b c r s t h.0 m.0 h.1 m.1,
  behind_nothing h.0 m.0 h.2 ∙ m.2,
  λ some. subst (λ (es : List Exchange). are_asked r.out es ≡ true)
      (sym (exchanges_of-append h.0 m.0))
      (asked_before r.out (exchanges_of h.0) (exchanges_of m.0) h.3),
)

-- the picture that is next stays so
pub still_next : (a b : Option Told) (r s : Reception) → TakesBack a b r s
    → next_picture s ≡ next_picture r
still_next a b r s h = same_next_picture a b r s h.0 h.1

pub exchanges_then : {A : Type 0} (result : Result A NoMemory) (a b c : Option Told)
    (r s t : Reception) (jobs : List Job) → OffersJobs a b r s jobs
    → OnOk result (TakesBack b c s t) → OnOk result (Exchanges a c r t jobs)
exchanges_then (Err e) a b c r s t jobs h m = tt
exchanges_then (Ok done) a b c r s t jobs h m = (
  h.0 ++ m.0,
  calls_then a b c r s t h.0 m.0 h.1 m.1,
  subst (AreOffersOf jobs) (sym (proposed_then h.0 m.0
      ∙ ap (λ (l : List Exchange). proposed_in (exchanges_of h.0) ++ l) m.2
      ∙ append-nil (proposed_in (exchanges_of h.0)))) h.2,
  λ some. subst (λ (es : List Exchange). are_asked r.out es ≡ true)
      (sym (exchanges_of-append h.0 m.0))
      (asked_then r (exchanges_of h.0) (exchanges_of m.0)
      (subst (λ (x : Reception). are_asked x.out (exchanges_of m.0) ≡ true) h.1.value
      (m.3 (ap is_some (same_next_picture a b r s h.0 h.1) ∙ some)))),
)
