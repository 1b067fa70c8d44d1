-- The slices that are out are such as a picture keeps, whatever becomes of their runs, so that the
-- slice of a job that a datagram offers isn't out.
use Rattle.std.proofs.Common.{◌≡◌, ◌≢◌, ℕ, zero, suc, ◌≤◌, Bool, true, false, cond, refl, ap, sym, subst, ◌∙◌, eqb, eqb-true, ne_eqb}
use Rattle.std.proofs.Common.{List, [], ◌∷◌, ◌++◌, Option, Some, None, arith}
use Rattle.std.specs.Prelude.{◌&&◌, is_some, filter, map}
use Rattle.std.specs.List.{list_all, list_any}
use Rattle.std.proofs.lemmas.Bool.{and_parts, and_from, false≢true}
use Rattle.machine_model.specs.Feeders.{kept_job}
use Rattle.machine_model.specs.Places.{Job, Answered}
use Rattle.link_model.specs.Session.{HeardSession, hears, sessions_of}
use Rattle.link_model.specs.Windows.{Releasable}
use Rattle.link_model.proofs.Hearing.{sessions_of_more}
use Rattle.receiver_model.specs.Entering.{before_releases, datagram_jobs}
use Rattle.receiver_model.specs.Entering.{takes_datagram, takes_end}
use Rattle.receiver_model.specs.Exchanging.{Exchange, Proposed, Fetched, Withdrawn, Made, all_exchanged}
use Rattle.receiver_model.specs.Exchanging.{back_from, is_job_among, jobs_number, not_at, out_at, takes_done}
use Rattle.receiver_model.specs.Exchanging.{takes_dones}
use Rattle.receiver_model.specs.Judging.{keeps_datagram, session_opened}
use Rattle.receiver_model.specs.Receptions.{Reception, RunOut}
use Rattle.receiver_model.specs.Releasing.{book_count, releases_all}
use Rattle.receiver_model.specs.Releasing.{releases_picture_of, releases_up_to}
use Rattle.receiver_model.specs.SlicesOut.{AreOutKept, ArePutsOf, is_job_out, is_put_of}
use Rattle.receiver_model.specs.Standing.{StandsForHeard}
use Rattle.receiver_model.proofs.Followed.{opened_same}
use Rattle.receiver_model.proofs.DatagramJobs.{only_jobs}
use Rattle.receiver_model.proofs.SessionPictures.{job_stays}

-- an answer that is taken leaves what is out
pub takes_done-out : (r : Reception) (done : Answered) → (takes_done r done).out ≡ r.out
unfolding takes_done
takes_done-out r done = grind arith

pub takes_dones-out : (r : Reception) (dones : List Answered) → (takes_dones r dones).out ≡ r.out
takes_dones-out r [] = refl
takes_dones-out r (done ∷ dones) = takes_dones-out (takes_done r done) dones ∙ takes_done-out r done

module _ (size : ℕ) (hs : List HeardSession) where
  abbrev IsKeptSlice : ℕ → ℕ → Type 0
  IsKeptSlice n i = is_some (kept_job size hs n i) ≡ true

  -- ---- fewer, and one more

  kept_filter : (test : RunOut → Bool) (out : List RunOut) → AreOutKept size hs out
      → AreOutKept size hs (filter test out)
  kept_filter test [] kept = tt
  kept_filter test (run ∷ rest) kept = by_test (test run) (kept_filter test rest kept.1)
    where
      by_test : (b : Bool) → AreOutKept size hs (filter test rest)
          → AreOutKept size hs (cond b (run ∷ filter test rest) (filter test rest))
      by_test true left = (kept.0, left)
      by_test false left = left

  abbrev IsKeptRun : ℕ → List ℕ → Type 0
  IsKeptRun n indices = list_all (λ i. is_some (kept_job size hs n i)) indices ≡ true

  kept_more : (out : List RunOut) (run : RunOut) → AreOutKept size hs out
      → IsKeptRun run.number run.indices → AreOutKept size hs (out ++ run ∷ [])
  kept_more [] run kept its = (its, tt)
  kept_more (first ∷ rest) run kept its = (kept.0, kept_more rest run kept.1 its)

  -- a run of jobs that may be put
  kept_run : (jobs : List Job) (n : ℕ)
      → ((job : Job) → is_job_among jobs job ≡ true → IsKeptSlice job.number job.index)
      → (run : List Job) → list_all (is_put_of jobs n) run ≡ true
      → IsKeptRun n (map (λ (job : Job). job.index) run)
  kept_run jobs n each [] puts = refl
  kept_run jobs n each (job ∷ run) puts =
      let both = and_parts (is_put_of jobs n job) (list_all (is_put_of jobs n) run) puts in
      let own = and_parts (is_job_among jobs job) (eqb job.number n) both.0 in
      let its : IsKeptSlice n job.index =
      subst (λ (m : ℕ). IsKeptSlice m job.index) (eqb-true job.number n own.1) (each job own.0) in
      and_from _ _ its (kept_run jobs n each run both.1)

  -- ---- calls to the places

  pub exchanges_kept : (jobs : List Job)
      → ((job : Job) → is_job_among jobs job ≡ true → IsKeptSlice job.number job.index)
      → (xs : List Exchange) (r : Reception) → AreOutKept size hs r.out → ArePutsOf jobs xs
      → AreOutKept size hs (all_exchanged r xs).out
  exchanges_kept jobs each [] r kept offers = kept
  exchanges_kept jobs each (Proposed run None ∷ xs) r kept offers =
      exchanges_kept jobs each xs r kept offers.1
  exchanges_kept jobs each (Proposed run (Some place) ∷ xs) r kept offers =
      exchanges_kept jobs each xs (record r { out = r.out ++ out_at run place ∷ [] })
      (kept_more r.out (out_at run place) kept (kept_run jobs (jobs_number run) each run offers.0)) offers.1
  exchanges_kept jobs each (Fetched place None ∷ xs) r kept offers =
      exchanges_kept jobs each xs r kept offers
  exchanges_kept jobs each (Fetched place (Some dones) ∷ xs) r kept offers =
      exchanges_kept jobs each xs (takes_dones (back_from r place) dones)
      (subst (AreOutKept size hs) (sym (takes_dones-out (back_from r place) dones))
      (kept_filter (not_at place) r.out kept)) offers
  exchanges_kept jobs each (Withdrawn place ∷ xs) r kept offers =
      exchanges_kept jobs each xs (back_from r place) (kept_filter (not_at place) r.out kept) offers
  exchanges_kept jobs each (Made dones ∷ xs) r kept offers =
      exchanges_kept jobs each xs (takes_dones r dones)
      (subst (AreOutKept size hs) (sym (takes_dones-out r dones)) kept) offers

  -- ---- releases

  release_kept : (r : Reception) (picture : Releasable) → AreOutKept size hs r.out
      → AreOutKept size hs (releases_picture_of r picture).out
  release_kept r picture kept = grind (arith, kept_filter)

  pub releases_kept : (k : ℕ) (r : Reception) → AreOutKept size hs r.out
      → AreOutKept size hs (releases_up_to k r).out
  unfolding releases_up_to
  releases_kept zero r kept = kept
  releases_kept (suc k) r kept = grind (arith, release_kept, releases_kept k)

  -- ---- the end of the input, where nothing is offered

  pub end_out_kept : (r : Reception) → AreOutKept size hs r.out → (exchanges : List Exchange)
      → ArePutsOf [] exchanges → AreOutKept size hs (takes_end r exchanges).out
  unfolding takes_end
  end_out_kept r kept exchanges offers = grind (arith, exchanges_kept, releases_kept)

  -- ---- one that no picture keeps isn't out

  not_of_run : (job : Job) → kept_job size hs job.number job.index ≡ None → (n : ℕ) (indices : List ℕ)
      → IsKeptRun n indices → (eqb n job.number && list_any (λ (i : ℕ). eqb i job.index) indices) ≡ false
  not_of_run job none n indices kept = by_number (eqb n job.number) refl
    where
      not_among : (is : List ℕ) → IsKeptRun job.number is → list_any (λ (i : ℕ). eqb i job.index) is ≡ false
      not_among [] kept = refl
      not_among (i ∷ is) kept =
          let both = and_parts (is_some (kept_job size hs job.number i)) (list_all (λ (k : ℕ). is_some (kept_job size hs job.number k)) is) kept in
          let other : i ≢ job.index = (λ e. false≢true (sym (ap is_some none) ∙ subst (λ (k : ℕ). is_some (kept_job size hs job.number k) ≡ true) e both.0)) in
          rw (ne_eqb i job.index other) (not_among is both.1)

      by_number : (b : Bool) → eqb n job.number ≡ b → (b && list_any (λ (i : ℕ). eqb i job.index) indices) ≡ false
      by_number true e = not_among indices (subst (λ (m : ℕ). IsKeptRun m indices) (eqb-true n job.number e) kept)
      by_number false e = refl

  unkept_not_out : (job : Job) → kept_job size hs job.number job.index ≡ None
      → (out : List RunOut) → AreOutKept size hs out → is_job_out out job ≡ false
  unkept_not_out job none [] kept = refl
  unkept_not_out job none (run ∷ rest) kept =
      grind (arith, not_of_run job none run.number run.indices kept.0, unkept_not_out job none rest kept.1)

  -- ---- what is kept stays so

  more_heard : size ≤ 8 → (d : List ℕ) (out : List RunOut) → AreOutKept size hs out
      → AreOutKept size (hears hs d) out
  more_heard small d [] kept = tt
  more_heard small d (run ∷ rest) kept = (stay run.indices kept.0, more_heard small d rest kept.1)
    where
      stay : (is : List ℕ) → IsKeptRun run.number is
          → list_all (λ i. is_some (kept_job size (hears hs d) run.number i)) is ≡ true
      stay [] its = refl
      stay (i ∷ is) its =
          let both = and_parts (is_some (kept_job size hs run.number i)) (list_all (λ (k : ℕ). is_some (kept_job size hs run.number k)) is) its in
          let now : is_some (kept_job size (hears hs d) run.number i) ≡ true = (let was = both.0 in grind (arith, job_stays)) in
          and_from _ _ now (stay is both.1)

-- ---- a datagram

module _ (r : Reception) (size : ℕ) (datagrams : List (List ℕ)) (d : List ℕ) (small : size ≤ 8)
    (stands : StandsForHeard r size datagrams false)
    (kept : AreOutKept size (sessions_of datagrams) r.out) where
  abbrev longer : List HeardSession
  longer = sessions_of (datagrams ++ d ∷ [])

  pub offered_not_out : (job : Job) → is_job_among (datagram_jobs r d) job ≡ true
      → is_job_out r.out job ≡ false
  offered_not_out job there = unkept_not_out size (sessions_of datagrams) job
      (only_jobs r size datagrams d stands small job there).1 r.out kept

  kept_longer : AreOutKept size longer r.out
  kept_longer = grind (arith, more_heard, sessions_of_more)

  pub datagram_out_kept : (exchanges : List Exchange) → ArePutsOf (datagram_jobs r d) exchanges
      → AreOutKept size longer (takes_datagram r d exchanges).out
  unfolding takes_datagram keeps_datagram
  datagram_out_kept exchanges offers =
      let behind = before_releases r d exchanges in
      subst (AreOutKept size longer)
      (sym (opened_same (session_opened r d) (releases_all behind)))
      (releases_kept size longer (book_count behind) behind
      (exchanges_kept size longer (datagram_jobs r d)
      (λ job there. ap (λ (o : Option Job). is_some o)
      (only_jobs r size datagrams d stands small job there).0)
      exchanges (keeps_datagram r d) kept_longer offers))
