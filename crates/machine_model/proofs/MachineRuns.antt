-- The laws of the machine over every list of legal events.
use Rattle.std.proofs.Common.{◌≡◌, ℕ, ◌≤◌, Bool, true, false, cond, List, [], ◌∷◌, ◌++◌, Option}
use Rattle.std.proofs.Common.{Some, None, refl, ap, sym, ◌∙◌, arith, eqb-true}
use Rattle.std.specs.Prelude.{◌⊎◌, ◌↔◌, ◌==◌, ◌&&◌, ◌||◌, not, is_some, slice_get, fold}
use Rattle.std.specs.List.{flat_map, list_all}
use Rattle.std.specs.Option.{option_map_or}
use Rattle.std.proofs.lemmas.Bool.{and_parts, and_from, false≢true, not-true}
use Rattle.std.proofs.lemmas.List.{append-nil}
use Rattle.std.proofs.lemmas.List.Concat.{flat_map-append}
use Rattle.std.proofs.lemmas.Option.{none-some}
use Rattle.link_model.specs.Complete.{has_all_slices}
use Rattle.machine_model.specs.Feeders.{Feeder, EnteredSession, session_opening, keeps_of, kept_job}
use Rattle.machine_model.specs.Feeders.{slice_job, is_kept, releasable, next_to_release, is_decoded}
use Rattle.machine_model.specs.Feeders.{answer_in}
use Rattle.machine_model.specs.Feeding.{built_bytes, takes_answer, with_answer, has_job, is_same_job}
use Rattle.machine_model.specs.Feeding.{redoes_slice}
use Rattle.machine_model.specs.Feeders.{is_among}
use Rattle.machine_model.proofs.PicturesHeard.{let_go_rising}
use Rattle.machine_model.proofs.RisingLists.{IsRising, each_map, filter_rising, among_each}
use Rattle.machine_model.specs.Interleavings.{machine_after, IsRun, due, inputs, AreOwnAnswers}
use Rattle.link_model.specs.Kept.{Own, own_slice}
use Rattle.machine_model.specs.Machine.{Machine, new_machine, Event, Enter, Put, Claim, Complete, Take}
use Rattle.machine_model.specs.Machine.{Withdraw, Leave, Redo, Release, Finish}
use Rattle.machine_model.specs.Machine.{IsLegal, is_next, has_answers, happens, takes_from}
use Rattle.machine_model.specs.Machine.{run, AreLegal, is_legal_on_places, is_legal_for_feeder}
use Rattle.link_model.specs.Output.{full_output, output_so_far, IsPrefixOf}
use Rattle.machine_model.specs.Places.{Job, Answered, own_answer, decoding, Content, place_at, may_put}
use Rattle.machine_model.specs.Places.{stands_in, puts_job, AreApart, HaveOwnAnswers}
use Rattle.link_model.specs.Session.{HeardSession, sessions_of}
use Rattle.link_model.proofs.Growing.{sessions_of-append}
use Rattle.machine_model.proofs.MachineHalves.{legal_halves, halves_legal}
use Rattle.machine_model.proofs.MachineKept.{Holds, new_holds, hears_holds, finish_holds, answer_holds}
use Rattle.machine_model.proofs.MachineKept.{release_holds, left}
use Rattle.machine_model.proofs.SameJobs.{same_job}
use Rattle.machine_model.proofs.PicturesHeard.{picture_bytes, written_of, let_go_written}
use Rattle.machine_model.proofs.PicturesStay.{kept_slice, job_of_kept}
use Rattle.machine_model.proofs.PlacesKept.{puts_apart, puts_own, claims_apart, claims_own}
use Rattle.machine_model.proofs.PlacesKept.{completes_apart, completes_own, frees_apart, frees_own}
use Rattle.machine_model.proofs.PlacesKept.{unused_apart, unused_own}

abbrev HoldsFor : ℕ → Feeder → Type 0
HoldsFor window f = Holds window (sessions_of f.heard) f.has_ended f.decoded f.released f.written

pub record KeptBy (window : ℕ) (m : Machine) : Type 0 where
  pub feeder : HoldsFor window m.feeder
  pub own : HaveOwnAnswers m.places
  pub apart : AreApart m.places

-- ---- one event

module _ (window : ℕ) (small : window ≤ 8) where
  -- the job of a kept slice is of that slice
  job_slice : (hs : List HeardSession) (n i : ℕ) (job : Job) → kept_job window hs n i ≡ Some job → (job.number ≡ n) × (job.index ≡ i)
  job_slice hs n i job e = let k = kept_slice window hs n i job e in (sym (ap (λ (j : Job). j.number) k.is), sym (ap (λ (j : Job). j.index) k.is))

  job_itself : (hs : List HeardSession) (n i : ℕ) (job : Job) → kept_job window hs n i ≡ Some job → kept_job window hs job.number job.index ≡ Some job
  job_itself hs n i job e = let same = job_slice hs n i job e in
      ap (λ (k : ℕ). kept_job window hs k job.index) same.0 ∙ ap (kept_job window hs n) same.1 ∙ e

  module _ (f : Feeder) (holds : HoldsFor window f) where
    abbrev heard_sessions : List HeardSession
    heard_sessions = sessions_of f.heard

    enter_holds : (d : List ℕ) → f.has_ended ≡ false → Holds window (sessions_of (f.heard ++ d ∷ [])) f.has_ended f.decoded f.released f.written
    enter_holds d open_still = grind (arith, hears_holds, sessions_of-append)

    with_holds : (job : Job) (n i : ℕ) → kept_job window heard_sessions n i ≡ Some job → (done : Answered) → done.job ≡ job → done.answer ≡ decoding done.job → HoldsFor window (with_answer f done)
    with_holds job n i kept done same own = grind (arith, answer_holds, job_itself)

    redo_holds : (n i : ℕ) → HoldsFor window (redoes_slice window f n i)
    redo_holds n i = by_job (kept_job window heard_sessions n i) refl
      where
        by_job : (o : Option Job) → kept_job window heard_sessions n i ≡ o → HoldsFor window (option_map_or (λ job. with_answer f (own_answer job)) o f)
        by_job None kept = holds
        by_job (Some job) kept = with_holds job n i kept (own_answer job) refl refl

    take_holds : (done : Answered) → done.answer ≡ decoding done.job → HoldsFor window (takes_answer window f done)
    take_holds done own = by_test (has_job window f done.job && not (is_decoded f done.job.number done.job.index)) refl
      where
        by_job : (o : Option Job) → kept_job window heard_sessions done.job.number done.job.index ≡ o → option_map_or (is_same_job done.job) o false ≡ true → HoldsFor window (with_answer f done)
        by_job None kept e = absurd (false≢true e)
        by_job (Some job) kept e = with_holds job done.job.number done.job.index kept done (same_job done.job job e) own

        by_test : (b : Bool) → has_job window f done.job && not (is_decoded f done.job.number done.job.index) ≡ b → HoldsFor window (cond b (with_answer f done) f)
        by_test o is = grind (arith, by_job)

    first_is : (n : ℕ) → is_next window f n ≡ true → (more : List ℕ) × (holds.rest ≡ n ∷ more)
    first_is n e = by_rest holds.rest refl (ap (λ (l : List ℕ). option_map_or (λ m. m == n) (slice_get l 0) false) (sym (left window small heard_sessions f.decoded f.released f.written f.has_ended holds)) ∙ e)
      where
        by_rest : (l : List ℕ) → holds.rest ≡ l → option_map_or (λ m. m == n) (slice_get l 0) false ≡ true → (more : List ℕ) × (holds.rest ≡ n ∷ more)
        by_rest [] is e = absurd (false≢true e)
        by_rest (k ∷ more) is e = (more, is ∙ ap (λ (k : ℕ). k ∷ more) (eqb-true k n e))

    releasing_holds : (n : ℕ) → is_next window f n && has_answers window f n ≡ true
        → Holds window heard_sessions f.has_ended f.decoded (f.released ++ n ∷ []) (f.written ++ option_map_or (built_bytes f.decoded n) (session_opening window heard_sessions n) [])
    releasing_holds n e =
        let both = and_parts (is_next window f n) (has_answers window f n) e in
        let first = first_is n both.0 in
        release_holds window small heard_sessions f.decoded f.released f.written f.has_ended holds n first.0 first.1 both.1

  -- what every legal event keeps
  pub event_keeps : (m : Machine) → KeptBy window m → (e : Event) → IsLegal window m e → KeptBy window (happens window m e)
  event_keeps m kept (Enter d) legal = grind (arith, enter_holds, legal_halves)
  event_keeps m kept (Put place n i) legal = record {
    feeder = kept.feeder;
    own = put_own (slice_job window m.feeder n i);
    apart = put_apart (slice_job window m.feeder n i) refl;
  }
    where
      put_own : (o : Option Job) → HaveOwnAnswers (option_map_or (puts_job m.places place) o m.places)
      put_own None = kept.own
      put_own (Some job) = puts_own m.places place job kept.own

      put_apart : (o : Option Job) → slice_job window m.feeder n i ≡ o → AreApart (option_map_or (puts_job m.places place) o m.places)
      put_apart None is = kept.apart
      put_apart (Some job) is =
          let same = job_slice (sessions_of m.feeder.heard) n i job is in
          let nowhere = not-true (stands_in m.places n i) (and_parts (may_put m.places place) (not (stands_in m.places n i)) (legal_halves window m (Put place n i) legal).0).1 in
          puts_apart m.places place job
          (ap (λ (k : ℕ). stands_in m.places k job.index) same.0 ∙ ap (stands_in m.places n) same.1 ∙ nowhere)
          kept.apart
  event_keeps m kept (Claim worker place) legal = record { feeder = kept.feeder; own = claims_own m.places worker place kept.own; apart = claims_apart m.places worker place kept.apart }
  event_keeps m kept (Complete place serial) legal = record { feeder = kept.feeder; own = completes_own m.places place serial kept.own; apart = completes_apart m.places place serial kept.apart }
  event_keeps m kept (Take place) legal = grind (arith, frees_apart, frees_own, take_holds)
  event_keeps m kept (Withdraw place) legal = record { feeder = kept.feeder; own = frees_own m.places place kept.own; apart = frees_apart m.places place kept.apart }
  event_keeps m kept (Leave place) legal = record { feeder = kept.feeder; own = frees_own m.places place kept.own; apart = frees_apart m.places place kept.apart }
  event_keeps m kept (Redo n i) legal = record { feeder = redo_holds m.feeder kept.feeder n i; own = kept.own; apart = kept.apart }
  event_keeps m kept (Release n) legal = record { feeder = releasing_holds m.feeder kept.feeder n (legal_halves window m (Release n) legal).1; own = kept.own; apart = kept.apart }
  event_keeps m kept Finish legal = grind (arith, finish_holds)

  run_keeps : (events : List Event) (m : Machine) → KeptBy window m → AreLegal window m events → KeptBy window (run window m events)
  run_keeps [] m kept legal = kept
  run_keeps (e ∷ events) m kept legal = run_keeps events (happens window m e) (event_keeps m kept e legal.0) legal.1

  pub after_keeps : (places : ℕ) (events : List Event) → IsRun window places events → KeptBy window (machine_after window places events)
  after_keeps places events legal = run_keeps events (new_machine places) (record { feeder = new_holds window; own = unused_own places; apart = unused_apart places }) legal

-- ---- what is written

due_is : (window : ℕ) (f : Feeder) → due window f ≡ written_of window f.has_ended (sessions_of f.heard)
unfolding full_output output_so_far
due_is window f = grind (arith, written_of)

module _ (window : ℕ) (small : window ≤ 8) (f : Feeder) (holds : HoldsFor window f) where
  abbrev pieces : List ℕ → List ℕ
  pieces = flat_map (picture_bytes window (sessions_of f.heard))

  due_parts : due window f ≡ f.written ++ pieces holds.rest
  due_parts =
      due_is window f
      ∙ sym (let_go_written window small f.has_ended (sessions_of f.heard))
      ∙ ap pieces holds.order
      ∙ flat_map-append (picture_bytes window (sessions_of f.heard)) f.released holds.rest
      ∙ ap (λ (l : List ℕ). l ++ pieces holds.rest) (sym holds.bytes)

  nothing_left : next_to_release window f ≡ None → holds.rest ≡ []
  nothing_left e = by_rest holds.rest (ap (λ (l : List ℕ). slice_get l 0) (sym (left window small (sessions_of f.heard) f.decoded f.released f.written f.has_ended holds)) ∙ e)
    where
      by_rest : (l : List ℕ) → slice_get l 0 ≡ None → l ≡ []
      by_rest [] e = refl
      by_rest (k ∷ more) e = absurd (none-some k (sym e))

  all_written : next_to_release window f ≡ None → f.written ≡ due window f
  all_written e = sym (due_parts ∙ ap (λ (l : List ℕ). f.written ++ pieces l) (nothing_left e) ∙ append-nil f.written)

module _ (window places : ℕ) (events : List Event) (small : window ≤ 8) (legal : IsRun window places events) where
  abbrev end_of_run : Machine
  end_of_run = machine_after window places events

  pub written_begins : IsPrefixOf end_of_run.feeder.written (due window end_of_run.feeder)
  written_begins = let kept = after_keeps window small places events legal in
      (flat_map (picture_bytes window (sessions_of end_of_run.feeder.heard)) kept.feeder.rest, due_parts window small end_of_run.feeder kept.feeder)

  pub written_is : next_to_release window end_of_run.feeder ≡ None → end_of_run.feeder.written ≡ due window end_of_run.feeder
  written_is = all_written window small end_of_run.feeder (after_keeps window small places events legal).feeder

  pub own_decoded : AreOwnAnswers window (sessions_of end_of_run.feeder.heard) end_of_run.feeder.decoded
  own_decoded = (after_keeps window small places events legal).feeder.answers

  pub own_places : HaveOwnAnswers end_of_run.places
  own_places = (after_keeps window small places events legal).own

  pub apart_places : AreApart end_of_run.places
  apart_places = (after_keeps window small places events legal).apart

-- ---- the inputs alone decide what was heard

abbrev Inputs : Type 0
Inputs = List (List ℕ) × Bool

abbrev input_step : Inputs → Event → Inputs
input_step x (Enter d) = (x.0 ++ d ∷ [], x.1)
input_step x Finish = (x.0, true)
input_step x other = x

abbrev inputs_of : Feeder → Inputs
inputs_of f = (f.heard, f.has_ended)

module _ (window : ℕ) where
  takes_same : (f : Feeder) (content : Content) → inputs_of (takes_from window f content) ≡ inputs_of f
  takes_same f o = grind arith

  redo_same : (f : Feeder) (n i : ℕ) → inputs_of (redoes_slice window f n i) ≡ inputs_of f
  redo_same f n i = grind arith

  pub run_inputs : (events : List Event) (m : Machine) → inputs_of (run window m events).feeder ≡ fold input_step (inputs_of m.feeder) (inputs events)
  run_inputs [] m = refl
  run_inputs (Enter d ∷ events) m = run_inputs events (happens window m (Enter d))
  run_inputs (Put place n i ∷ events) m = run_inputs events (happens window m (Put place n i))
  run_inputs (Claim worker place ∷ events) m = run_inputs events (happens window m (Claim worker place))
  run_inputs (Complete place serial ∷ events) m = run_inputs events (happens window m (Complete place serial))
  run_inputs (Take place ∷ events) m = run_inputs events (happens window m (Take place)) ∙ ap (λ (x : Inputs). fold input_step x (inputs events)) (takes_same m.feeder (place_at m.places place).content)
  run_inputs (Withdraw place ∷ events) m = run_inputs events (happens window m (Withdraw place))
  run_inputs (Leave place ∷ events) m = run_inputs events (happens window m (Leave place))
  run_inputs (Redo n i ∷ events) m = run_inputs events (happens window m (Redo n i)) ∙ ap (λ (x : Inputs). fold input_step x (inputs events)) (redo_same m.feeder n i)
  run_inputs (Release n ∷ events) m = run_inputs events (happens window m (Release n))
  run_inputs (Finish ∷ events) m = run_inputs events (happens window m Finish)

pub same_written : (window places others : ℕ) (events different : List Event) → window ≤ 8 → IsRun window places events → IsRun window others different → inputs events ≡ inputs different
    → next_to_release window (machine_after window places events).feeder ≡ None → next_to_release window (machine_after window others different).feeder ≡ None
    → (machine_after window places events).feeder.written ≡ (machine_after window others different).feeder.written
same_written window places others events different small legal also same none nothing =
    grind (arith, run_inputs, written_is)

-- ---- never stuck

module _ (window : ℕ) (m : Machine) (n : ℕ) where
  abbrev hs : List HeardSession
  hs = sessions_of m.feeder.heard

  unanswered_slice : (e : EnteredSession) (kept : Own) → session_opening window hs n ≡ Some e → keeps_of e n ≡ Some kept → (is : List ℕ) → list_all (λ i. is_some (own_slice kept i)) is ≡ true
      → list_all (λ i. is_some (answer_in m.feeder.decoded n i)) is ≡ false → (i : ℕ) × IsLegal window m (Redo n i)
  unanswered_slice e kept found keeps [] all none = absurd (false≢true (sym none))
  unanswered_slice e kept found keeps (i ∷ is) all none =
      let both = and_parts (is_some (own_slice kept i)) (list_all (λ i. is_some (own_slice kept i)) is) all in
      by_slice (own_slice kept i) refl both.0 (is_decoded m.feeder n i) refl none (unanswered_slice e kept found keeps is both.1)
    where
      by_slice : (o : Option (List ℕ)) → own_slice kept i ≡ o → is_some o ≡ true → (b : Bool) → is_decoded m.feeder n i ≡ b → b && list_all (λ i. is_some (answer_in m.feeder.decoded n i)) is ≡ false
          → (list_all (λ i. is_some (answer_in m.feeder.decoded n i)) is ≡ false → (i : ℕ) × IsLegal window m (Redo n i)) → (i : ℕ) × IsLegal window m (Redo n i)
      by_slice None slice f b is none rest = absurd (false≢true f)
      by_slice (Some bytes) slice f true is none rest = rest none
      by_slice (Some bytes) slice f false is none rest =
          (i, halves_legal window m (Redo n i) (refl, and_from (is_kept window m.feeder n i) (not (is_decoded m.feeder n i)) (ap is_some (job_of_kept window hs n i e kept bytes found keeps slice)) (ap not is)))

  not_ready : (kept : Own) (a b : Bool) → not a || b ≡ false → (a ≡ true) × (b ≡ false)
  not_ready kept true b e = (refl, e)
  not_ready kept false b e = absurd (false≢true (sym e))

  redo_one : has_answers window m.feeder n ≡ false → (i : ℕ) × IsLegal window m (Redo n i)
  unfolding has_all_slices
  redo_one e = grind (arith, not_ready, unanswered_slice)

  pub never_stuck : next_to_release window m.feeder ≡ Some n → IsLegal window m (Release n) ⊎ ((i : ℕ) × IsLegal window m (Redo n i))
  never_stuck next = grind (arith, halves_legal, redo_one)

-- ---- the least

least_first : (xs : List ℕ) (n m : ℕ) → IsRising xs → slice_get xs 0 ≡ Some n → is_among xs m ≡ true → n ≤ m
least_first [] n m rising first among = absurd (none-some n first)
least_first (x ∷ xs) n m rising first among = grind (arith, among_each, each_map)

pub next_is_least : (window : ℕ) (f : Feeder) (n m : ℕ) → window ≤ 8 → next_to_release window f ≡ Some n → is_among (releasable window f) m ≡ true → n ≤ m
next_is_least window f n m small first among =
    grind (arith, filter_rising, least_first, let_go_rising)

pub two_halves : (window : ℕ) (m : Machine) (e : Event) → IsLegal window m e ↔ ((is_legal_on_places m.places e ≡ true) × (is_legal_for_feeder window m.feeder e ≡ true))
two_halves window m e = (legal_halves window m e, halves_legal window m e)

pub ruleset laws = (written_begins, written_is, same_written, own_decoded, own_places, apart_places, never_stuck, next_is_least, two_halves)
