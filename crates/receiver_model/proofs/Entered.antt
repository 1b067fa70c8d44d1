-- A datagram and the end of the input: the receiver stands for what was heard, and it wrote what is
-- due.
use Rattle.std.proofs.Common.{◌≡◌, ℕ, ◌≤◌, true, false, refl, ap, sym, ◌∙◌}
use Rattle.std.proofs.Common.{List, [], ◌∷◌, ◌++◌, Option, Some, None, subst, arith}
use Rattle.std.specs.List.{flat_map}
use Rattle.std.proofs.lemmas.List.Sums.{fold-append}
use Rattle.machine_model.specs.Feeders.{Feeder, releasable}
use Rattle.machine_model.specs.Feeding.{hears_datagram, hears_end, takes_answer}
use Rattle.machine_model.specs.Machine.{Enter, Finish}
use Rattle.machine_model.specs.Next.{feeder_run, all_releasing, taken_back, next_feeder, releasing}
use Rattle.machine_model.specs.Places.{Answered}
use Rattle.link_model.specs.Session.{Session, HeardSession, sessions_of, opens_behind, begins}
use Rattle.link_model.specs.Windows.{WindowPast}
use Rattle.link_model.specs.declared.tally.Tally.{Tally}
use Rattle.receiver_model.specs.Entering.{opens_session, before_releases, takes_datagram}
use Rattle.receiver_model.specs.Entering.{datagram_bytes, takes_end, end_bytes}
use Rattle.receiver_model.specs.Exchanging.{Exchange, all_exchanged, dones_in}
use Rattle.receiver_model.specs.Judging.{is_over, keeps_datagram, ends_input}
use Rattle.receiver_model.specs.Receptions.{StandingSession, Reception}
use Rattle.receiver_model.specs.Releasing.{releases_all, all_released_bytes}
use Rattle.receiver_model.specs.Standing.{StandsFor, AreDecodings, all_released, out_without}
use Rattle.receiver_model.proofs.Followed.{FollowsDatagram, FollowsEnd}
use Rattle.receiver_model.proofs.Redone.{redone, redo_run}
use Rattle.receiver_model.proofs.ReleaseRuns.{all_run, releasable_are}
use Rattle.receiver_model.proofs.Resting.{rest_stands, next_stands, end_stands}
use Rattle.receiver_model.proofs.Starting.{datagram_works, next_works, end_works, past_at_rest}
use Rattle.receiver_model.proofs.Starting.{st_at_rest, h_now, sessions_now}
use Rattle.receiver_model.proofs.Starting.{sessions_next, tally_behind}
use Rattle.receiver_model.proofs.Working.{IsWorking, all_working}

-- ---- answers change nothing else

pub record HasMoreAnswers (f g : Feeder) : Type 0 where
  pub heard : g.heard ≡ f.heard
  pub ended : g.has_ended ≡ f.has_ended
  pub written : g.written ≡ f.written

more_answers : (size : ℕ) (dones : List Answered) (f : Feeder)
    → HasMoreAnswers f (taken_back size f dones)
more_answers size [] f = record { heard = refl; ended = refl; written = refl }
more_answers size (done ∷ dones) f = grind (arith, more_answers size dones (takes_answer size f done))

-- ---- what was heard

module _ (size : ℕ) (f : Feeder) where
  one_release : (g : Feeder) (n : ℕ)
      → ((feeder_run size g (releasing size f n)).heard ≡ g.heard)
      × ((feeder_run size g (releasing size f n)).has_ended ≡ g.has_ended)
  one_release g n = grind (arith, fold-append, redo_run, redone)

  releases_heard : (ns : List ℕ) (g : Feeder)
      → ((feeder_run size g (flat_map (releasing size f) ns)).heard ≡ g.heard)
      × ((feeder_run size g (flat_map (releasing size f) ns)).has_ended ≡ g.has_ended)
  releases_heard [] g = (refl, refl)
  releases_heard (n ∷ ns) g =
      grind (arith, fold-append, one_release, releases_heard ns (feeder_run size g (releasing size f n)))

module _ (size : ℕ) (f : Feeder) where
  pub heard_again : (d : List ℕ) (xs : List Exchange)
      → ((next_feeder size f (Enter d) (dones_in xs)).heard ≡ f.heard ++ d ∷ [])
      × ((next_feeder size f (Enter d) (dones_in xs)).has_ended ≡ f.has_ended)
  unfolding next_feeder
  heard_again d xs = grind (arith, more_answers, releases_heard)

  pub heard_still : (xs : List Exchange)
      → ((next_feeder size f Finish (dones_in xs)).heard ≡ f.heard)
      × ((next_feeder size f Finish (dones_in xs)).has_ended ≡ true)
  unfolding next_feeder
  heard_still xs = grind (arith, more_answers, releases_heard)

-- ---- all that may be released is

-- the receiver and the feeder after the releases
record Done (size : ℕ) (hs : List HeardSession) (t : Tally) (r : Reception) (f : Feeder)
    (st : StandingSession) (p : WindowPast) : Type 0 where
  pub standing : StandingSession
  pub works : IsWorking (releases_all r) size (feeder_run size f (all_releasing size f)) hs
      (all_released p) standing t
  pub session : standing.session ≡ st.session
  pub has_ended : standing.has_ended ≡ st.has_ended
  pub written : (feeder_run size f (all_releasing size f)).written
      ≡ f.written ++ all_released_bytes r
  pub heard : (feeder_run size f (all_releasing size f)).heard ≡ f.heard
  pub over : (feeder_run size f (all_releasing size f)).has_ended ≡ f.has_ended
  pub out : (releases_all r).out ≡ out_without (releasable size f) r.out

all_done : (size : ℕ) (hs : List HeardSession) (t : Tally) (r : Reception) (f : Feeder)
    (st : StandingSession) (p : WindowPast) → IsWorking r size f hs p st t
    → Done size hs t r f st p
all_done size hs t r f st p works =
    let ran = all_run size hs t r f p st works in
    record {
      standing = ran.standing;
      works = subst (λ (l : List ℕ). IsWorking (releases_all r) size
          (feeder_run size f (all_releasing size f)) hs (record p { released = l })
          ran.standing t) (sym works.window.in_order) ran.works;
      session = ran.session;
      has_ended = ran.has_ended;
      written = ran.written;
      heard = ran.heard;
      over = ran.over;
      out = ran.out ∙ ap (λ (ns : List ℕ). out_without ns r.out)
          (sym (releasable_are size hs t r f p st works));
    }

-- ---- with a session that stands

module _ (r : Reception) (size : ℕ) (small : size ≤ 8) (f : Feeder) (stands : StandsFor r size f)
    (runs : f.has_ended ≡ false) (h : HeardSession) (hs : List HeardSession)
    (at : sessions_of f.heard ≡ h ∷ hs) (xs : List Exchange) (right : AreDecodings (dones_in xs))
  where
    abbrev dones : List Answered
    dones = dones_in xs

    -- all is exchanged, and all that may be released is
    ran : {st : StandingSession} {p : WindowPast} {t : Tally} (kept : Reception) (g : Feeder)
        → IsWorking kept size g hs p st t
        → Done size hs t (all_exchanged kept xs) (taken_back size g dones) st p
    ran {st} {p} {t} kept g works = all_done size hs t (all_exchanged kept xs)
        (taken_back size g dones) st p (all_working size hs p st t xs kept g works right)

    module _ (d : List ℕ) where
      abbrev taken : Feeder
      taken = taken_back size (hears_datagram f d) dones

      abbrev tally : Tally
      tally = tally_behind size hs (f.heard ++ d ∷ [])

      taken_more : HasMoreAnswers (hears_datagram f d) taken
      taken_more = more_answers size dones (hears_datagram f d)

      -- whatever opens
      module _ {st : StandingSession} {p : WindowPast}
          (done : Done size hs tally (before_releases r d xs) taken st p) where
        heard_then : (next_feeder size f (Enter d) dones).heard ≡ f.heard ++ d ∷ []
        unfolding next_feeder
        heard_then = done.heard ∙ taken_more.heard

        writes_then : (next_feeder size f (Enter d) dones).written
            ≡ f.written ++ datagram_bytes r d xs
        unfolding next_feeder datagram_bytes
        writes_then = grind (arith, taken_more)

        follows_then : (o : Option Session) → opens_behind h (begins d) ≡ o
            → StandsFor (opens_session o (releases_all (before_releases r d xs))) size
            (feeder_run size taken (all_releasing size taken)) → FollowsDatagram r size f xs d
        unfolding next_feeder takes_datagram
        follows_then o opening stands_then = grind (arith, writes_then)

      -- it goes on, or the next session opens
      pub follows : (o : Option Session) → opens_behind h (begins d) ≡ o
          → FollowsDatagram r size f xs d
      unfolding next_feeder
      follows None none =
          let done = ran (keeps_datagram r d) (hears_datagram f d)
          (datagram_works r size small f stands runs h hs at d none) in
          follows_then done None none (rest_stands (releases_all (before_releases r d xs)) size
          (feeder_run size taken (all_releasing size taken))
          (h_now r size small f stands runs h hs at d none) hs false done.standing tally
          done.works done.session done.has_ended
          (ap (tally_behind size hs) (sym (heard_then done)))
          (ap sessions_of (heard_then done)
          ∙ sessions_now r size small f stands runs h hs at d none)
          refl (done.over ∙ taken_more.ended ∙ runs))
      follows (Some s) opens =
          let done = ran (keeps_datagram r d) (hears_datagram f d)
          (next_works r size small f stands runs h hs at d s opens) in
          follows_then done (Some s) opens (next_stands (releases_all (before_releases r d xs)) size
          (feeder_run size taken (all_releasing size taken)) h hs true done.standing tally
          done.works done.session done.has_ended
          (ap (tally_behind size hs) (sym (heard_then done))) refl s
          (ap sessions_of (heard_then done)
          ∙ sessions_next r size small f stands runs h hs at d s opens)
          (done.over ∙ taken_more.ended ∙ runs))

    -- ---- the end of the input

    abbrev taken_end : Feeder
    taken_end = taken_back size (hears_end f) dones

    end_more : HasMoreAnswers (hears_end f) taken_end
    end_more = more_answers size dones (hears_end f)

    done_end : Done size hs (tally_behind size hs f.heard) (all_exchanged (ends_input r) xs)
        taken_end (is_over (st_at_rest r size small f stands runs h hs at))
        (record (past_at_rest r size small f stands runs h hs at) { is_ended = true })
    done_end = ran (ends_input r) (hears_end f) (end_works r size small f stands runs h hs at)

    heard_end : (next_feeder size f Finish dones).heard ≡ f.heard
    unfolding next_feeder
    heard_end = done_end.heard ∙ end_more.heard

    pub follows_end : FollowsEnd r size f xs
    unfolding next_feeder takes_end end_bytes
    follows_end = record {
      stands = end_stands (releases_all (all_exchanged (ends_input r) xs)) size
          (feeder_run size taken_end (all_releasing size taken_end)) h hs true done_end.standing
          (tally_behind size hs f.heard) done_end.works done_end.session done_end.has_ended
          (ap (tally_behind size hs) (sym heard_end)) refl (ap sessions_of heard_end ∙ at)
          (done_end.over ∙ end_more.ended);
      writes = grind (arith, done_end, end_more);
      out = done_end.out;
    }
