-- A deed is the events of its name, one for each slice of its run.
use Rattle.std.proofs.Common.{◌≡◌, ◌≢◌, ℕ, zero, suc, ◌+◌, ◌*◌, ◌^◌, ◌<◌, ◌≤◌, true, List, length, map, set, sym, refl, ap, ◌∙◌, subst, arith, length-set, get_or-set_other, get_or-set_same, eq-eqb, ltb, inl, inr}
use Rattle.std.specs.List.{range_with_len}
use Rattle.std.specs.Option.{option_map, option_map_or}
use Rattle.std.specs.Prelude.{Option, None, Some, slice_get}
use Rattle.std.proofs.lemmas.Bool.{and_parts, and_from, cases_lt, ltb-true, lt-ltb}
use Rattle.std.proofs.lemmas.List.{length-map}
use Rattle.std.proofs.lemmas.Option.{slice_get-map, slice_get_past, get_or_from_slice_get}
use mathlib.Core.Logic.{dite}
use native.Mathlib.Decide.{ℕ_discrete}
use Rattle.link_slices.specs.Jobs.{answered_run, job_in_run, jobs_of_run}
use Rattle.link_slices.proofs.RunJobs.{done-at, done-length, job-at, run-length}
use Rattle.machine_model.specs.Feeders.{Feeder, slice_job}
use Rattle.machine_model.specs.Machine.{Event, Put, Claim, Complete, Take, Withdraw, Machine, happens, run}
use Rattle.machine_model.specs.Places as machine
use Rattle.machine_model.specs.Places.{Answered, Job, JobPlace, own_answer, puts_job, state_number, unused_place}
use Rattle.machine_model.specs.declared.place_state.PlaceState.TheVariants.{Empty}
use Rattle.vc_slice.specs.declared.run.RunDone.{RunDone}
use Rattle.vc_slice.specs.declared.run.RunJob.{RunJob}
use Rattle.claim_board.specs.declared.view.Deed.{Deed}
use Rattle.claim_board.specs.declared.view.Deed.TheVariants.{WasRead, WasFetched, WasPut, WasClaimed, WasCompleted, WasTaken, WasWithdrawn}
use Rattle.claim_board.specs.History.{after_deed, deed_place, standing, MayDo}
use Rattle.claim_board.specs.Laws.{AreItsEvents, AreLegal, IsOfFeeder, is_legal_on_board}
use Rattle.claim_board.specs.RunPlaces.{Content, Nothing, Offered, Claimed, Decoded, IsOfRun, RunPlace, ShowsRun, ShowRuns, content_of, is_free, is_in, machine_place, may_put, place_at, state_of}
use Rattle.claim_board.proofs.Histories.{claim_here, complete_here, elsewhere, empty_of_put, free_here, length_deed, put_here, there}

-- ---- events of one slice after another

-- the slices from number j on had their events
record Happened (window place : ℕ) (event : ℕ → Event) (change : ℕ → JobPlace → JobPlace) (ps : List JobPlace) (m : Machine) (j count : ℕ) : Type 0 where
  legal : AreLegal window m (map event (range_with_len j count))
  many : length (run window m (map event (range_with_len j count))).places ≡ length ps
  own : (k : ℕ) → j ≤ k → k < j + count
      → machine.place_at (run window m (map event (range_with_len j count))).places (machine_place place k) ≡ change k (machine.place_at ps (machine_place place k))
  others : (q : ℕ) → ((k : ℕ) → j ≤ k → k < j + count → q ≢ machine_place place k)
      → machine.place_at (run window m (map event (range_with_len j count))).places q ≡ machine.place_at m.places q

module _ (window place count : ℕ) (event : ℕ → Event) (change : ℕ → JobPlace → JobPlace) (ps : List JobPlace) (Keeps : Machine → Type 0) where
  -- the event of slice number k is legal, and changes its place, as long as nothing did
  abbrev HappensAlone : Type 0
  HappensAlone = (m : Machine) (k : ℕ) → k < count → Keeps m → length m.places ≡ length ps → machine.place_at m.places (machine_place place k) ≡ machine.place_at ps (machine_place place k)
      → (is_legal_on_board m.places (event k) ≡ true)
      × ((happens window m (event k)).places ≡ set m.places (machine_place place k) (change k (machine.place_at m.places (machine_place place k))))
      × Keeps (happens window m (event k))

  all_happened : HappensAlone → ((k : ℕ) → k < count → machine_place place k < length ps)
      → (m : Machine) (j n : ℕ) → j + n ≤ count → Keeps m → length m.places ≡ length ps
      → ((k : ℕ) → j ≤ k → k < j + n → machine.place_at m.places (machine_place place k) ≡ machine.place_at ps (machine_place place k))
      → Happened window place event change ps m j n
  all_happened alone within m j zero low keeps long same = record {
    legal = tt;
    many = long;
    own = λ k from to. absurd (omega arith);
    others = λ q none. refl;
  }
  all_happened alone within m j (suc n) low keeps long same =
      let here = same j (omega arith) (omega arith) in
      let one = alone m j (omega arith) keeps long here in
      let at : ℕ = machine_place place j in
      let next : Machine = happens window m (event j) in
      let wide : length next.places ≡ length ps = ap length one.1 ∙ length-set m.places at _ ∙ long in
      let rest : Happened window place event change ps next (j + 1) n = all_happened alone within next (j + 1) n (omega arith) one.2 wide
      (λ k from to. ap (λ (l : List JobPlace). machine.place_at l (machine_place place k)) one.1 ∙ get_or-set_other m.places at (machine_place place k) _ unused_place (λ e. omega arith) ∙ same k (omega arith) (omega arith)) in
      let in_places : at < length m.places = (let h = within j (omega arith) in omega arith) in
      record {
        legal = (one.0, rest.legal);
        many = rest.many;
        own = λ k from to. elim (cases_lt j k) [
          | inl lt ↦ rest.own k (omega arith) (omega arith)
          | inr ge ↦ (
              let first : j ≡ k = omega arith in
              subst (λ (i : ℕ). machine.place_at (run window m (map event (range_with_len j (suc n)))).places (machine_place place i) ≡ change i (machine.place_at ps (machine_place place i))) first
              (rest.others at (λ i from to e. omega arith)
              ∙ ap (λ (l : List JobPlace). machine.place_at l at) one.1
              ∙ get_or-set_same m.places at _ unused_place in_places
              ∙ ap (change j) here))
        ];
        others = λ q none.
            rest.others q (λ k from to. none k (omega arith) (omega arith))
            ∙ ap (λ (l : List JobPlace). machine.place_at l q) one.1
            ∙ get_or-set_other m.places at q _ unused_place (none j (omega arith) (omega arith));
      }

-- ---- what stands at the places of a run

-- how many places it takes
abbrev size : Content → ℕ
size Nothing = 0
size (Offered jobs) = length jobs
size (Claimed worker jobs) = length jobs
size (Decoded dones) = length dones

past : (c : Content) (k : ℕ) → size c ≤ k → content_of c k ≡ machine.Nothing
past Nothing k h = refl
past (Offered jobs) k h = ap (λ (o : Option Job). option_map_or machine.Offered o machine.Nothing) (slice_get_past jobs k h)
past (Claimed worker jobs) k h = ap (λ (o : Option Job). option_map_or (machine.Claimed worker) o machine.Nothing) (slice_get_past jobs k h)
past (Decoded dones) k h = ap (λ (o : Option Answered). option_map_or machine.Decoded o machine.Nothing) (slice_get_past dones k h)

claimed_slice : (seat : ℕ) (jobs : List Job) (k : ℕ) → machine.claimed_by seat (content_of (Offered jobs) k) ≡ content_of (Claimed seat jobs) k
claimed_slice seat jobs k = cases (slice_get jobs k)
  where
    cases : (o : Option Job) → machine.claimed_by seat (option_map_or machine.Offered o machine.Nothing) ≡ option_map_or (machine.Claimed seat) o machine.Nothing
    cases None = refl
    cases (Some job) = refl

decoded_slice : (seat : ℕ) (jobs : List Job) (k : ℕ) → machine.decoded_there (content_of (Claimed seat jobs) k) ≡ content_of (Decoded (map own_answer jobs)) k
decoded_slice seat jobs k =
    cases (slice_get jobs k) ∙ ap (λ (o : Option Answered). option_map_or machine.Decoded o machine.Nothing) (sym (slice_get-map own_answer jobs k))
  where
    cases : (o : Option Job) → machine.decoded_there (option_map_or (machine.Claimed seat) o machine.Nothing) ≡ option_map_or machine.Decoded (option_map own_answer o) machine.Nothing
    cases None = refl
    cases (Some job) = refl

-- ---- where they lead

module _ (m : Machine) (runs : List RunPlace) (shows : ShowRuns m.places runs) (place : ℕ) (here : place < length runs) where
  -- each of its slices has a place of the machine
  within : (k : ℕ) → k < 32 → machine_place place k < length m.places
  within k h = omega (arith, shows.many)

  -- the machine's places show the board's behind a change of one of these
  module _ (window count : ℕ) (event : ℕ → Event) (change : ℕ → JobPlace → JobPlace) (few : count ≤ 32) (h : Happened window place event change m.places m 0 count)
      (t u : ℕ) (before after : Content) (was : place_at runs place ≡ standing t before) (rises : t ≤ u) (of_run : IsOfRun after) (old : size before ≤ count) (new : size after ≤ count)
      (serials : (x : JobPlace) (k : ℕ) → x.serial ≤ t → (change k x).serial ≤ u)
      (contents : (x : JobPlace) (k : ℕ) → k < count → x.content ≡ content_of before k → (change k x).content ≡ content_of after k) where
    abbrev now : List JobPlace
    now = (run window m (map event (range_with_len 0 count))).places

    known : ShowsRun m.places place (standing t before)
    known = subst (ShowsRun m.places place) was (shows.each place here)

    own_place : ShowsRun now place (standing u after)
    own_place = record {
      of_run = of_run;
      serials = λ k in_run. elim (cases_lt k count) [
        | inl lt ↦ subst (λ (x : JobPlace). x.serial ≤ u) (sym (h.own k (omega arith) (omega arith))) (serials (machine.place_at m.places (machine_place place k)) k (known.serials k in_run))
        | inr ge ↦ (
            let low : (machine.place_at m.places (machine_place place k)).serial ≤ u = (let l = known.serials k in_run in omega arith) in
            subst (λ (x : JobPlace). x.serial ≤ u) (sym (h.others (machine_place place k) (λ i from to e. omega arith))) low)
      ];
      contents = λ k in_run. elim (cases_lt k count) [
        | inl lt ↦ ap (λ (x : JobPlace). x.content) (h.own k (omega arith) (omega arith)) ∙ contents (machine.place_at m.places (machine_place place k)) k lt (known.contents k in_run)
        | inr ge ↦ ap (λ (x : JobPlace). x.content) (h.others (machine_place place k) (λ i from to e. omega arith)) ∙ known.contents k in_run ∙ past before k (omega arith) ∙ sym (past after k (omega arith))
      ];
    }

    other_place : (q : ℕ) → q ≢ place → (p : RunPlace) → ShowsRun m.places q p → ShowsRun now q p
    other_place q ne p at = record {
      of_run = at.of_run;
      serials = λ k in_run. subst (λ (x : JobPlace). x.serial ≤ p.serial) (sym (h.others (machine_place q k) (λ i from to e. omega arith))) (at.serials k in_run);
      contents = λ k in_run. ap (λ (x : JobPlace). x.content) (h.others (machine_place q k) (λ i from to e. omega arith)) ∙ at.contents k in_run;
    }

    shown : (seat : ℕ) (d : Deed) → place ≡ deed_place d → place_at (after_deed runs seat d) place ≡ standing u after → ShowRuns now (after_deed runs seat d)
    shown seat d is at = record {
      many = h.many ∙ shows.many ∙ ap (λ (n : ℕ). 32 * n) (sym (length_deed runs seat d));
      each = λ q in_runs. dite (ℕ_discrete q place)
          (λ e. subst (λ (i : ℕ). ShowsRun now i (place_at (after_deed runs seat d) i)) (sym e) (subst (ShowsRun now place) (sym at) own_place))
          (λ ne. subst (ShowsRun now q) (sym (elsewhere runs seat d q (λ e. ne (e ∙ sym is)))) (other_place q ne (place_at runs q) (shows.each q (let l = length_deed runs seat d in omega arith))));
    }

-- ---- each kind of deed

-- a state by what stands there
state_of_slice : (x : JobPlace) (c : machine.Content) (n : ℕ) → x.content ≡ c → state_number (machine.state_of c) ≡ n → state_number (machine.state_of x.content) ≡ n
state_of_slice x c n e is = ap (λ (y : machine.Content). state_number (machine.state_of y)) e ∙ is

slice_may_be_put : (ps : List JobPlace) (q : ℕ) → q < length ps → (machine.place_at ps q).content ≡ machine.Nothing → (machine.place_at ps q).serial < 2 ^ 61 → machine.may_put ps q ≡ true
slice_may_be_put ps q h e small =
    and_from _ _ (lt-ltb q (length ps) h) (and_from _ _ (eq-eqb (state_number (machine.state_of (machine.place_at ps q).content)) 0 (state_of_slice (machine.place_at ps q) machine.Nothing 0 e refl)) (lt-ltb (machine.place_at ps q).serial (2 ^ 61) small))

empty_content : (c : Content) → state_number (state_of c) ≡ 0 → c ≡ Nothing
empty_content Nothing e = refl
empty_content c e = absurd (omega arith)

abbrev put_in : RunJob → ℕ → JobPlace → JobPlace
put_in job k x = record { serial = x.serial + 1; content = machine.Offered (job_in_run job k) }

abbrev changed : (machine.Content → machine.Content) → ℕ → JobPlace → JobPlace
changed f k x = record x { content = f x.content }

-- no machine is left out
abbrev any_machine : Machine → Type 0
any_machine m = Unit {0}

module _ (window : ℕ) (m : Machine) (runs : List RunPlace) (seat : ℕ) (shows : ShowRuns m.places runs) where
  of_put : (p : ℕ) (job : RunJob) → may_put runs p ≡ true → IsOfFeeder window m (WasPut p job) → AreItsEvents window m runs seat (WasPut p job)
  of_put p job may of =
      let count : ℕ = length job.slices.items in
      let test = and_parts (ltb p (length runs)) (is_free (place_at runs p)) may in
      let here = ltb-true p (length runs) test.0 in
      let t : ℕ = (place_at runs p).serial in
      let small : t < 2 ^ 61 = ltb-true t (2 ^ 61) (and_parts (is_in Empty (place_at runs p)) (ltb t (2 ^ 61)) test.1).1 in
      let was : place_at runs p ≡ standing t Nothing = ap (λ (c : Content). standing t c) (empty_content (place_at runs p).content (empty_of_put runs p may)) in
      let known : ShowsRun m.places p (standing t Nothing) = subst (ShowsRun m.places p) was (shows.each p here) in
      let long = run-length job in
      let few : count ≤ 32 = job.few in
      let some : 0 < count = job.some in
      let event : ℕ → Event = λ k. Put (machine_place p k) job.number (job.first + k) in
      let alone : HappensAlone window p count event (put_in job) m.places (λ (n : Machine). n.feeder ≡ m.feeder) =
      λ n k h keeps same_length same. (
        slice_may_be_put n.places (machine_place p k) (let w = within m runs shows p here k (omega arith) in omega arith)
            (ap (λ (x : JobPlace). x.content) same ∙ known.contents k (omega arith))
            (let e = ap (λ (x : JobPlace). x.serial) same in let l = known.serials k (omega arith) in omega arith),
        (let is : slice_job window n.feeder job.number (job.first + k) ≡ Some (job_in_run job k) =
            ap (λ (f : Feeder). slice_job window f job.number (job.first + k)) keeps
            ∙ subst (λ (j : Job). slice_job window m.feeder j.number j.index ≡ Some j) (get_or_from_slice_get (jobs_of_run job) k (job_in_run job k) (job_in_run job k) (job-at job k h)) (of k (job_in_run job k) (omega arith)) in
            ap (λ (o : Option Job). option_map_or (puts_job n.places (machine_place p k)) o n.places) is),
        keeps,
      ) in
      let all = all_happened window p count event (put_in job) m.places (λ (n : Machine). n.feeder ≡ m.feeder) alone (λ k h. within m runs shows p here k (omega arith)) m 0 count (omega arith) refl refl (λ k from to. refl) in
      record {
        legal = all.legal;
        leads = shown m runs shows p here window count event (put_in job) few all t (t + 1) Nothing (Offered (jobs_of_run job)) was (omega arith) (omega arith, omega arith) (omega arith) (omega arith)
            (λ x k low. omega arith)
            (λ x k h e. ap (λ (o : Option Job). option_map_or machine.Offered o machine.Nothing) (sym (job-at job k h)))
            seat (WasPut p job) refl (put_here runs p t Nothing (jobs_of_run job) here was);
      }

  of_claim : (p t : ℕ) (job : RunJob) → place_at runs p ≡ standing t (Offered (jobs_of_run job)) → AreItsEvents window m runs seat (WasClaimed p t job)
  of_claim p t job was =
      let count : ℕ = length job.slices.items in
      let here = there runs p t (Offered (jobs_of_run job)) was (omega arith) in
      let known : ShowsRun m.places p (standing t (Offered (jobs_of_run job))) = subst (ShowsRun m.places p) was (shows.each p here) in
      let long = run-length job in
      let few : count ≤ 32 = job.few in
      let event : ℕ → Event = λ k. Claim seat (machine_place p k) in
      let alone : HappensAlone window p count event (changed (machine.claimed_by seat)) m.places any_machine =
      λ n k h keeps same_length same. (
        eq-eqb (state_number (machine.state_of (machine.place_at n.places (machine_place p k)).content)) 1
            (state_of_slice (machine.place_at n.places (machine_place p k)) (machine.Offered (job_in_run job k)) 1
            (ap (λ (x : JobPlace). x.content) same ∙ known.contents k (omega arith) ∙ ap (λ (o : Option Job). option_map_or machine.Offered o machine.Nothing) (job-at job k h)) refl),
        refl,
        tt,
      ) in
      let all = all_happened window p count event (changed (machine.claimed_by seat)) m.places any_machine alone (λ k h. within m runs shows p here k (omega arith)) m 0 count (omega arith) tt refl (λ k from to. refl) in
      record {
        legal = all.legal;
        leads = shown m runs shows p here window count event (changed (machine.claimed_by seat)) few all t t (Offered (jobs_of_run job)) (Claimed seat (jobs_of_run job)) was (omega arith) known.of_run (omega arith) (omega arith)
            (λ x k low. low)
            (λ x k h e. ap (machine.claimed_by seat) e ∙ claimed_slice seat (jobs_of_run job) k)
            seat (WasClaimed p t job) refl (claim_here runs p t seat (jobs_of_run job) here was);
      }

  of_completion : (p t : ℕ) (done : RunDone) → place_at runs p ≡ standing t (Claimed seat (jobs_of_run done.job)) → AreItsEvents window m runs seat (WasCompleted p t done)
  of_completion p t done was =
      let job = done.job in
      let count : ℕ = length job.slices.items in
      let here = there runs p t (Claimed seat (jobs_of_run job)) was (omega arith) in
      let known : ShowsRun m.places p (standing t (Claimed seat (jobs_of_run job))) = subst (ShowsRun m.places p) was (shows.each p here) in
      let long = run-length job in
      let more : length (map own_answer (jobs_of_run job)) ≡ count = length-map (jobs_of_run job) own_answer ∙ long in
      let few : count ≤ 32 = job.few in
      let some : 0 < count = job.some in
      let event : ℕ → Event = λ k. Complete (machine_place p k) (machine.place_at m.places (machine_place p k)).serial in
      let alone : HappensAlone window p count event (changed machine.decoded_there) m.places any_machine =
      λ n k h keeps same_length same. (
        refl,
        (rw (eq-eqb (machine.place_at n.places (machine_place p k)).serial (machine.place_at m.places (machine_place p k)).serial (ap (λ (x : JobPlace). x.serial) same)) refl),
        tt,
      ) in
      let all = all_happened window p count event (changed machine.decoded_there) m.places any_machine alone (λ k h. within m runs shows p here k (omega arith)) m 0 count (omega arith) tt refl (λ k from to. refl) in
      record {
        legal = all.legal;
        leads = shown m runs shows p here window count event (changed machine.decoded_there) few all t t (Claimed seat (jobs_of_run job)) (Decoded (map own_answer (jobs_of_run job))) was (omega arith) (omega arith, omega arith) (omega arith) (omega arith)
            (λ x k low. low)
            (λ x k h e. ap machine.decoded_there e ∙ decoded_slice seat (jobs_of_run job) k)
            seat (WasCompleted p t done) refl (complete_here runs p t seat (jobs_of_run job) here was);
      }

  of_take : (p t : ℕ) (done : RunDone) → place_at runs p ≡ standing t (Decoded (answered_run done)) → AreItsEvents window m runs seat (WasTaken p t done)
  of_take p t done was =
      let count : ℕ = length done.job.slices.items in
      let here = there runs p t (Decoded (answered_run done)) was (omega arith) in
      let known : ShowsRun m.places p (standing t (Decoded (answered_run done))) = subst (ShowsRun m.places p) was (shows.each p here) in
      let long = done-length done in
      let few : count ≤ 32 = done.job.few in
      let event : ℕ → Event = λ k. Take (machine_place p k) in
      let alone : HappensAlone window p count event (changed (λ (c : machine.Content). machine.Nothing)) m.places any_machine =
      λ n k h keeps same_length same. (
        eq-eqb (state_number (machine.state_of (machine.place_at n.places (machine_place p k)).content)) 3
            (state_of_slice (machine.place_at n.places (machine_place p k)) (machine.Decoded (own_answer (job_in_run done.job k))) 3
            (ap (λ (x : JobPlace). x.content) same ∙ known.contents k (omega arith) ∙ ap (λ (o : Option Answered). option_map_or machine.Decoded o machine.Nothing) (done-at done k h)) refl),
        refl,
        tt,
      ) in
      let all = all_happened window p count event (changed (λ (c : machine.Content). machine.Nothing)) m.places any_machine alone (λ k h. within m runs shows p here k (omega arith)) m 0 count (omega arith) tt refl (λ k from to. refl) in
      record {
        legal = all.legal;
        leads = shown m runs shows p here window count event (changed (λ (c : machine.Content). machine.Nothing)) few all t t (Decoded (answered_run done)) Nothing was (omega arith) tt (omega arith) (omega arith)
            (λ x k low. low)
            (λ x k h e. refl)
            seat (WasTaken p t done) refl (free_here runs p t (Decoded (answered_run done)) here was);
      }

  of_withdrawal : (p t : ℕ) (job : RunJob) → place_at runs p ≡ standing t (Offered (jobs_of_run job)) → AreItsEvents window m runs seat (WasWithdrawn p t job)
  of_withdrawal p t job was =
      let count : ℕ = length job.slices.items in
      let here = there runs p t (Offered (jobs_of_run job)) was (omega arith) in
      let known : ShowsRun m.places p (standing t (Offered (jobs_of_run job))) = subst (ShowsRun m.places p) was (shows.each p here) in
      let long = run-length job in
      let few : count ≤ 32 = job.few in
      let event : ℕ → Event = λ k. Withdraw (machine_place p k) in
      let alone : HappensAlone window p count event (changed (λ (c : machine.Content). machine.Nothing)) m.places any_machine =
      λ n k h keeps same_length same. (
        eq-eqb (state_number (machine.state_of (machine.place_at n.places (machine_place p k)).content)) 1
            (state_of_slice (machine.place_at n.places (machine_place p k)) (machine.Offered (job_in_run job k)) 1
            (ap (λ (x : JobPlace). x.content) same ∙ known.contents k (omega arith) ∙ ap (λ (o : Option Job). option_map_or machine.Offered o machine.Nothing) (job-at job k h)) refl),
        refl,
        tt,
      ) in
      let all = all_happened window p count event (changed (λ (c : machine.Content). machine.Nothing)) m.places any_machine alone (λ k h. within m runs shows p here k (omega arith)) m 0 count (omega arith) tt refl (λ k from to. refl) in
      record {
        legal = all.legal;
        leads = shown m runs shows p here window count event (changed (λ (c : machine.Content). machine.Nothing)) few all t t (Offered (jobs_of_run job)) Nothing was (omega arith) tt (omega arith) (omega arith)
            (λ x k low. low)
            (λ x k h e. refl)
            seat (WasWithdrawn p t job) refl (free_here runs p t (Offered (jobs_of_run job)) here was);
      }

  pub are_events : (d : Deed) → MayDo runs seat d → IsOfFeeder window m d → AreItsEvents window m runs seat d
  are_events (WasRead p word) may of = record { legal = tt; leads = shows }
  are_events (WasFetched p) may of = record { legal = tt; leads = shows }
  are_events (WasPut p job) may of = of_put p job may of
  are_events (WasClaimed p t job) may of = of_claim p t job may
  are_events (WasCompleted p t done) may of = of_completion p t done may
  are_events (WasTaken p t done) may of = of_take p t done may
  are_events (WasWithdrawn p t job) may of = of_withdrawal p t job may
