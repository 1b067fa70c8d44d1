-- The jobs that a datagram offers are those of the slices that it newly brings: the pictures of the
-- longer list keep them, and those of the shorter one don't.
use Rattle.std.proofs.Common.{◌≡◌, ℕ, ◌≤◌, Bool, true, false, refl, ap, sym, ◌∙◌}
use Rattle.std.proofs.Common.{List, [], ◌∷◌, ◌++◌, Option, Some, None, inl, inr, arith}
use Rattle.std.specs.Prelude.{◌||◌}
use Rattle.std.proofs.lemmas.Bool.{cases_Bool, both_ways, false≢true, false_from_ne_true}
use Rattle.std.proofs.lemmas.Option.{none-some}
use Rattle.machine_model.specs.Feeders.{kept_job}
use Rattle.link_model.specs.Numbers.{Numbered, is_closed, is_opened}
use Rattle.link_model.specs.Output.{entered_behind, is_opened_in, is_closed_in}
use Rattle.machine_model.specs.Places.{Job}
use Rattle.link_model.specs.Session.{Session, Fragment, HeardSession, just_opened, with_datagram}
use Rattle.link_model.specs.Session.{hears, sessions_of, begins, fragment_in, opens_behind}
use Rattle.link_model.specs.Windows.{WindowPast}
use Rattle.link_model.proofs.Apart.{sessions_apart}
use Rattle.link_model.proofs.Hearing.{sessions_of_more, hears_new, hears_on}
use Rattle.link_model.proofs.WindowNumbers.{session_enters, session_stays}
use Rattle.receiver_model.specs.Entering.{jobs_before, jobs_of_fragment, datagram_jobs}
use Rattle.receiver_model.specs.Exchanging.{is_job_among}
use Rattle.receiver_model.specs.Judging.{opens_after, session_opened}
use Rattle.receiver_model.specs.Receptions.{StandingSession, Reception}
use Rattle.receiver_model.specs.Standing.{StandsForHeard, standing_of, standing_with, all_released}
use Rattle.receiver_model.specs.Standing.{last_past}
use Rattle.receiver_model.proofs.JudgedOutcomes.{resting_stands, opens_same}
use Rattle.receiver_model.proofs.KeptJobs.{entered_job, job_opened, last_job, earlier_job}
use Rattle.receiver_model.proofs.KeptJobs.{no_job, shut_before, same_session_job, unopened_job}
use Rattle.receiver_model.proofs.NewlyKept.{newly_offered, newly_open, only_newly}
use Rattle.receiver_model.proofs.SessionPictures.{session_none, session_opens}

-- ---- within a session

module _ (size : ℕ) (h : HeardSession) (hs : List HeardSession) (d : List ℕ) where
  abbrev past : WindowPast
  past = all_released (last_past size false hs h)

  abbrev st : StandingSession
  st = standing_with h past

  abbrev h_now : HeardSession
  h_now = with_datagram h d

  abbrev old : List Numbered
  old = entered_behind size hs h

  abbrev new : List Numbered
  new = entered_behind size hs h_now

  -- what the last session's pictures keep
  abbrev job_before : ℕ → ℕ → Option Job
  job_before n i = entered_job h.session.sequence old n i

  abbrev job_behind : ℕ → ℕ → Option Job
  job_behind n i = entered_job h.session.sequence new n i

  abbrev offered : List Job
  offered = jobs_of_fragment st (fragment_in h.session d)

  session_offers : (n i : ℕ) (job : Job) → job_before n i ≡ None → job_behind n i ≡ Some job
      → is_job_among offered job ≡ true
  session_offers n i job none is = by_fragment (fragment_in h.session d) refl
    where
      by_fragment : (o : Option Fragment) → fragment_in h.session d ≡ o
          → is_job_among (jobs_of_fragment st o) job ≡ true
      by_fragment None at = grind (arith, entered_job, session_stays)
      by_fragment (Some f) at = newly_offered st.window past
          (resting_stands (last_past size false hs h)) refl f n i job none
          (ap (λ (p : WindowPast). entered_job h.session.sequence p.entries n i)
          (session_enters size hs h past.released d f at)
          ∙ is)

  session_only : (job : Job) → is_job_among offered job ≡ true
      → (job_behind job.number job.index ≡ Some job) × (job_before job.number job.index ≡ None)
  session_only job there = by_fragment (fragment_in h.session d) refl there
    where
      by_fragment : (o : Option Fragment) → fragment_in h.session d ≡ o
          → is_job_among (jobs_of_fragment st o) job ≡ true
          → (job_behind job.number job.index ≡ Some job)
          × (job_before job.number job.index ≡ None)
      by_fragment None at e = absurd (false≢true e)
      by_fragment (Some f) at e =
          let both = only_newly st.window past (resting_stands (last_past size false hs h)) refl f
          job e in (
            ap (λ (p : WindowPast).
                entered_job h.session.sequence p.entries job.number job.index)
                (sym (session_enters size hs h past.released d f at))
                ∙ both.0,
            both.1,
          )

  -- by all sessions
  all_offer : (n i : ℕ) (job : Job) → kept_job size (h ∷ hs) n i ≡ None
      → kept_job size (h_now ∷ hs) n i ≡ Some job → is_job_among offered job ≡ true
  all_offer n i job none is =
      grind (arith, earlier_job, job_opened, last_job, no_job, session_offers, shut_before)

  not_earlier : size ≤ 8 → (n : ℕ) → is_opened new n ≡ true → is_opened_in size hs n ≡ false
  not_earlier small n opened = false_from_ne_true (is_opened_in size hs n) (λ earlier.
      both_ways (is_opened new n) (sessions_apart size hs h_now n small earlier) opened)

  only_offer : size ≤ 8 → (job : Job) → is_job_among offered job ≡ true
      → (kept_job size (h_now ∷ hs) job.number job.index ≡ Some job)
      × (kept_job size (h ∷ hs) job.number job.index ≡ None)
  only_offer small job there =
      let n = job.number in
      let i = job.index in
      let both = session_only job there in
      let opened = job_opened h.session.sequence new n i job both.0 in (
        last_job size h_now hs n i opened ∙ both.0,
        elim (cases_Bool (is_opened old n)) [
          | inl was ↦ last_job size h hs n i was ∙ both.1
          | inr shut ↦ earlier_job size h hs n i shut ∙ unopened_job size n i hs
              (session_none size hs n (not_earlier small n opened))
        ],
      )

  session_open : 1 ≤ size → (n i : ℕ) (job : Job) → job_before n i ≡ None
      → job_behind n i ≡ Some job → is_closed size new n ≡ false
  session_open some n i job none is = by_fragment (fragment_in h.session d) refl
    where
      by_fragment : (o : Option Fragment) → fragment_in h.session d ≡ o
          → is_closed size new n ≡ false
      by_fragment None at = grind (arith, entered_job, session_stays)
      by_fragment (Some f) at =
          let enters = session_enters size hs h past.released d f at in
          ap (λ (p : WindowPast). is_closed size p.entries n) (sym enters)
          ∙ newly_open st.window past (resting_stands (last_past size false hs h)) refl f some n i
          job none
          (ap (λ (p : WindowPast). entered_job h.session.sequence p.entries n i) enters ∙ is)

  open_offer : 1 ≤ size → size ≤ 8 → (job : Job) → is_job_among offered job ≡ true
      → is_closed_in size (h_now ∷ hs) job.number ≡ false
  open_offer some small job there =
      let n = job.number in
      let i = job.index in
      let both = session_only job there in
      ap (λ (b : Bool). b || is_closed size new n)
      (not_earlier small n (job_opened h.session.sequence new n i job both.0))
      ∙ session_open some n i job both.1 both.0

-- ---- of a receiver

module _ (r : Reception) (size : ℕ) (datagrams : List (List ℕ)) (d : List ℕ)
    (stands : StandsForHeard r size datagrams false) where
  abbrev longer : List HeardSession
  longer = sessions_of (datagrams ++ d ∷ [])

  module _ (h : HeardSession) (hs : List HeardSession) (at : sessions_of datagrams ≡ h ∷ hs) where
    abbrev st_there : StandingSession
    st_there = standing_with h (all_released (last_past size false hs h))

    standing_is : r.standing ≡ Some st_there
    standing_is = stands.session ∙ ap (standing_of size false) at

    opened_is : session_opened r d ≡ opens_behind h (begins d)
    opened_is = ap (λ (o : Option StandingSession). opens_after o (begins d)) standing_is
        ∙ opens_same size h hs (begins d)

    jobs_are : (o : Option Session) → opens_behind h (begins d) ≡ o
        → datagram_jobs r d ≡ jobs_before o st_there d
    unfolding datagram_jobs
    jobs_are o is = grind (arith, opened_is, standing_is)

    longer_on : opens_behind h (begins d) ≡ None → longer ≡ with_datagram h d ∷ hs
    longer_on none = sessions_of_more datagrams d ∙ ap (λ (l : List HeardSession). hears l d) at
        ∙ hears_on (h ∷ hs) d none

    longer_next : (s : Session) → opens_behind h (begins d) ≡ Some s
        → longer ≡ just_opened s ∷ h ∷ hs
    longer_next s opens = sessions_of_more datagrams d
        ∙ ap (λ (l : List HeardSession). hears l d) at ∙ hears_new (h ∷ hs) d s opens

    -- one that opens a session leaves what is kept
    same_next : (s : Session) (n i : ℕ)
        → kept_job size (just_opened s ∷ h ∷ hs) n i ≡ kept_job size (h ∷ hs) n i
    same_next s n i = same_session_job size n i (just_opened s ∷ h ∷ hs) (h ∷ hs)
        (session_opens size s (h ∷ hs) n)

    all_there : (n i : ℕ) (job : Job) → kept_job size (sessions_of datagrams) n i ≡ None
        → kept_job size longer n i ≡ Some job → is_job_among (datagram_jobs r d) job ≡ true
    all_there n i job none is = by_next (opens_behind h (begins d)) refl
      where
        by_next : (o : Option Session) → opens_behind h (begins d) ≡ o
            → is_job_among (datagram_jobs r d) job ≡ true
        by_next None on = ap (λ (l : List Job). is_job_among l job) (jobs_are None on)
            ∙ all_offer size h hs d n i job
            (sym (ap (λ (l : List HeardSession). kept_job size l n i) at) ∙ none)
            (sym (ap (λ (l : List HeardSession). kept_job size l n i) (longer_on on)) ∙ is)
        by_next (Some s) opens = grind (arith, same_next, longer_next)

    only_there : size ≤ 8 → (job : Job) → is_job_among (datagram_jobs r d) job ≡ true
        → (kept_job size longer job.number job.index ≡ Some job)
        × (kept_job size (sessions_of datagrams) job.number job.index ≡ None)
    only_there small job there = by_next (opens_behind h (begins d)) refl
      where
        among : (o : Option Session) → opens_behind h (begins d) ≡ o
            → is_job_among (jobs_before o st_there d) job ≡ true
        among o is = sym (ap (λ (l : List Job). is_job_among l job) (jobs_are o is)) ∙ there

        by_next : (o : Option Session) → opens_behind h (begins d) ≡ o
            → (kept_job size longer job.number job.index ≡ Some job)
            × (kept_job size (sessions_of datagrams) job.number job.index ≡ None)
        by_next None on =
            let both = only_offer size h hs d small job (among None on) in (
              ap (λ (l : List HeardSession). kept_job size l job.number job.index)
                  (longer_on on) ∙ both.0,
              ap (λ (l : List HeardSession). kept_job size l job.number job.index) at ∙ both.1,
            )
        by_next (Some s) opens = absurd (false≢true (among (Some s) opens))

    open_there : 1 ≤ size → size ≤ 8 → (job : Job) → is_job_among (datagram_jobs r d) job ≡ true
        → is_closed_in size longer job.number ≡ false
    open_there some small job there = by_next (opens_behind h (begins d)) refl
      where
        among : (o : Option Session) → opens_behind h (begins d) ≡ o
            → is_job_among (jobs_before o st_there d) job ≡ true
        among o is = sym (ap (λ (l : List Job). is_job_among l job) (jobs_are o is)) ∙ there

        by_next : (o : Option Session) → opens_behind h (begins d) ≡ o
            → is_closed_in size longer job.number ≡ false
        by_next None on =
            ap (λ (l : List HeardSession). is_closed_in size l job.number) (longer_on on)
            ∙ open_offer size h hs d some small job (among None on)
        by_next (Some s) opens = absurd (false≢true (among (Some s) opens))

  -- ---- before a session stands nothing is kept, and nothing is offered

  module _ (at : sessions_of datagrams ≡ []) where
    no_jobs : datagram_jobs r d ≡ []
    unfolding datagram_jobs
    no_jobs = grind arith

    first_keeps_none : (n i : ℕ) → kept_job size longer n i ≡ None
    first_keeps_none n i =
        grind (
          arith,
          hears_new,
          hears_on,
          session_none,
          session_opens,
          sessions_of_more,
          unopened_job,
        )

  pub all_jobs : (n i : ℕ) (job : Job) → kept_job size (sessions_of datagrams) n i ≡ None
      → kept_job size longer n i ≡ Some job → is_job_among (datagram_jobs r d) job ≡ true
  all_jobs n i job none is = grind (arith, all_there, first_keeps_none)

  pub only_jobs : size ≤ 8 → (job : Job) → is_job_among (datagram_jobs r d) job ≡ true
      → (kept_job size longer job.number job.index ≡ Some job)
      × (kept_job size (sessions_of datagrams) job.number job.index ≡ None)
  only_jobs small job there = by_sessions (sessions_of datagrams) refl
    where
      by_sessions : (l : List HeardSession) → sessions_of datagrams ≡ l
          → (kept_job size longer job.number job.index ≡ Some job)
          × (kept_job size (sessions_of datagrams) job.number job.index ≡ None)
      by_sessions [] at = absurd (false≢true
          (sym (ap (λ (l : List Job). is_job_among l job) (no_jobs at)) ∙ there))
      by_sessions (h ∷ hs) at = only_there h hs at small job there

  pub open_jobs : 1 ≤ size → size ≤ 8 → (job : Job) → is_job_among (datagram_jobs r d) job ≡ true
      → is_closed_in size longer job.number ≡ false
  open_jobs some small job there = grind (arith, no_jobs, open_there)
