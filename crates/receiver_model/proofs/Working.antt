-- A receiver at work: its window isn't done with all pictures that are let go. It uses an answer
-- where the feeder does.
use Rattle.std.proofs.Common.{◌≡◌, ℕ, ◌<◌, Bool, true, false, refl, ap, sym, subst, List, [], ◌∷◌, ◌++◌}
use Rattle.std.proofs.Common.{length, Option, Some, None, ◌∙◌, arith, cond}
use Rattle.std.specs.Prelude.{◌&&◌, ◌||◌, ◌⊎◌, not}
use Rattle.std.specs.List.{flat_map, last_or}
use Rattle.std.specs.Option.{option_and_then, option_map_or}
use Rattle.std.proofs.lemmas.Bool.{and_parts, or_parts, false≢true, not-true, or_right}
use Rattle.std.proofs.lemmas.Grind.{common_steps}
use Rattle.std.proofs.lemmas.List.Sums.{fold-append}
use Rattle.link_model.specs.Books.{Book, book_of}
use Rattle.machine_model.specs.Feeders.{Feeder, EnteredSession, session_opening}
use Rattle.machine_model.specs.Feeders.{kept_job, picture_keeps, heard_pictures, let_go_pictures}
use Rattle.machine_model.specs.Feeders.{is_among, answer_in, has_released, slice_job, is_decoded}
use Rattle.machine_model.specs.Feeding.{is_same_job, has_job, takes_answer, with_answer}
use Rattle.link_model.specs.Kept.{Own}
use Rattle.link_model.specs.Numbers.{is_closed, is_opened, parts_of}
use Rattle.link_model.specs.Output.{frame_bytes_at, all_output}
use Rattle.machine_model.specs.Next.{taken_back}
use Rattle.machine_model.specs.Places.{Job, Answered, decoding}
use Rattle.link_model.specs.Session.{HeardSession, sessions_of}
use Rattle.link_model.specs.Windows.{Window, WindowPast, StandsForPast, past_let_go, window_of}
use Rattle.link_model.specs.Windows.{book_at, is_needed, released_up_to}
use Rattle.link_model.specs.declared.tally.Tally.{Tally}
use Rattle.link_model.proofs.WindowStands.{book_is}
use Rattle.vc_types.specs.Subbands.{slice_count}
use Rattle.receiver_model.specs.Exchanging.{book_job, window_job, own_job, is_wanted, takes_done}
use Rattle.receiver_model.specs.Exchanging.{Exchange, Proposed, Fetched, Withdrawn, Made, out_at}
use Rattle.receiver_model.specs.Exchanging.{all_exchanged, back_from, dones_in, takes_dones}
use Rattle.receiver_model.specs.Receptions.{StandingSession, Reception, FirstField, RunOut}
use Rattle.receiver_model.specs.Receptions.{answers_at, kept_answer, keeps_answer}
use Rattle.receiver_model.specs.Standing.{past_fields, past_counts}
use Rattle.machine_model.specs.Interleavings.{AreOwnAnswers}
use Rattle.receiver_model.specs.Standing.{HasSlots, answered_planes, AreDecodings}
use Rattle.machine_model.proofs.SameJobs.{same_job}
use Rattle.receiver_model.proofs.KeptAnswers.{answers_before, keeps_own}
use Rattle.receiver_model.proofs.KeptAnswers.{keeps_others, keeps_found, room_of_none, room_stays}
use Rattle.receiver_model.proofs.ReleasedNumbers.{released_is}
use Rattle.receiver_model.proofs.SessionPictures.{among_append}
use Rattle.receiver_model.proofs.SliceJobs.{other_answer, same_planes_by, book_job_is}
use Rattle.receiver_model.proofs.SliceJobs.{kept_job_is}
use Rattle.receiver_model.proofs.WaitingFields.{waiting_is}

abbrev pub entered_of : WindowPast → EnteredSession
entered_of p = record { sequence = p.sequence; entries = p.entries }

-- The window's past is that of the session on which the receiver works, after these sessions, all
-- of whose pictures were released. The tally is that of what came before the session's pictures.
pub record IsWorking (r : Reception) (size : ℕ) (f : Feeder) (hs : List HeardSession)
    (p : WindowPast) (st : StandingSession) (t : Tally) : Type 0 where
  pub open_pictures : r.size ≡ size
  pub ended : r.has_ended ≡ f.has_ended
  pub stands : r.standing ≡ Some st
  pub sequence : st.session.sequence ≡ p.sequence
  pub window : StandsForPast st.window p
  pub let_go : let_go_pictures size f.has_ended (sessions_of f.heard)
      ≡ heard_pictures size hs ++ past_let_go p
  pub released : f.released ≡ heard_pictures size hs ++ p.released
  pub opened : (n : ℕ) → is_opened p.entries n ≡ true
      → session_opening size (sessions_of f.heard) n ≡ Some (entered_of p)
  pub others : (n : ℕ) → is_opened p.entries n ≡ false
      → (is_among (heard_pictures size hs) n ≡ true)
      ⊎ (session_opening size (sessions_of f.heard) n ≡ None)
  pub apart : (n : ℕ) → is_opened p.entries n ≡ true → is_among (heard_pictures size hs) n ≡ false
  pub written : f.written
      ≡ all_output size hs ++ flat_map (frame_bytes_at p.sequence p.entries) p.released
  pub own : AreOwnAnswers size (sessions_of f.heard) f.decoded
  pub answers : (n i : ℕ) → has_released f n ≡ false
      → kept_answer r.answers n i ≡ answer_in f.decoded n i
  pub room : (n : ℕ) → HasSlots size (sessions_of f.heard) n (answers_at r.answers n)
  pub first_field : (w : FirstField) → r.field ≡ Some w
      → answered_planes size (sessions_of f.heard) f.decoded w.number ≡ Some w.planes
  pub waiting : r.field ≡ (past_fields p).waiting
  pub counted : r.counts ≡ past_counts p t

module _ (r : Reception) (size : ℕ) (f : Feeder) (hs : List HeardSession) (p : WindowPast)
    (st : StandingSession) (t : Tally) (works : IsWorking r size f hs p st t) where
  pub released_parts : (n : ℕ)
      → has_released f n ≡ (is_among (heard_pictures size hs) n || is_among p.released n)
  released_parts n = ap (λ (l : List ℕ). is_among l n) works.released
      ∙ among_append (heard_pictures size hs) p.released n

  pub last_released_is : st.window.last_released ≡ last_or None p.released
  unfolding window_of
  last_released_is = ap (λ (w : Window). w.last_released) works.window.value

  unopened_job : (n i : ℕ) → is_opened p.entries n ≡ false → window_job st.window n i ≡ None
  unopened_job n i shut =
      ap (option_and_then (λ (book : Book). book_job book n i)) (book_is st.window p works.window n
      ∙ ap (λ (b : Bool). cond (b && is_needed p n)
      (Some (book_of p.sequence (parts_of n p.entries))) None) shut)

  -- a picture that is opened and isn't released has its book
  pub book_of_unreleased : (n : ℕ) → is_opened p.entries n ≡ true
      → released_up_to (last_or None p.released) n ≡ false
      → book_at st.window.books n ≡ Some (book_of p.sequence (parts_of n p.entries))
  book_of_unreleased n opened above =
      book_is st.window p works.window n
      ∙ by_tests (is_opened p.entries n) opened (p.is_ended || is_closed p.size p.entries n)
      (released_up_to (last_or None p.released) n) above
    where
      by_tests : (was : Bool) → was ≡ true → (closed low : Bool) → low ≡ false
          → cond (was && not (closed && low))
          (Some (book_of p.sequence (parts_of n p.entries))) None
          ≡ Some (book_of p.sequence (parts_of n p.entries))
      by_tests true is true false away = refl
      by_tests true is false low away = refl
      by_tests true is true true away = absurd (false≢true (sym away))
      by_tests false is closed low away = absurd (false≢true is)

  own_job_by : (n i : ℕ) → own_job r n i
      ≡ cond (released_up_to (last_or None p.released) n) None (window_job st.window n i)
  own_job_by n i = grind (arith, last_released_is)

  -- a released picture has no job
  pub own_job_gone : (n i : ℕ) → has_released f n ≡ true → own_job r n i ≡ None
  own_job_gone n i gone = grind (arith, own_job_by, released_is, released_parts, unopened_job)

  -- and one that isn't released has the feeder's
  pub own_job_is : (n i : ℕ) → has_released f n ≡ false → own_job r n i ≡ slice_job size f n i
  unfolding kept_job
  own_job_is n i stays =
      grind (
        arith,
        book_job_is,
        book_of_unreleased,
        or_parts,
        own_job_by,
        released_is,
        released_parts,
        unopened_job,
      )

  -- ---- a decoded slice that is given back

  -- it is used where the feeder uses it
  pub wanted_is : (done : Answered) → is_wanted r done
      ≡ (has_job size f done.job && not (is_decoded f done.job.number done.job.index))
  wanted_is done = grind (arith, own_job_gone, own_job_is)

  -- a first field that waits was released
  pub waiting_released : (w : FirstField) → r.field ≡ Some w → has_released f w.number ≡ true
  waiting_released w is =
      let found = waiting_is p.sequence p.entries w p.released (sym works.waiting ∙ is) in
      released_parts w.number
      ∙ or_right (is_among (heard_pictures size hs) w.number) (is_among p.released w.number)
      (ap (is_among p.released) found.2.number ∙ found.1)

  module _ (done : Answered) (right : done.answer ≡ decoding done.job)
      (wanted : is_wanted r done ≡ true) where
    abbrev n : ℕ
    n = done.job.number

    abbrev i : ℕ
    i = done.job.index

    tests : (has_job size f done.job ≡ true) × (not (is_decoded f n i) ≡ true)
    tests = and_parts (has_job size f done.job) (not (is_decoded f n i))
        (sym (wanted_is done) ∙ wanted)

    halves : (not (has_released f n) ≡ true)
        × (option_map_or (is_same_job done.job) (slice_job size f n i) false ≡ true)
    halves = and_parts (not (has_released f n))
        (option_map_or (is_same_job done.job) (slice_job size f n i) false) tests.0

    unreleased : has_released f n ≡ false
    unreleased = not-true (has_released f n) halves.0

    its_job : slice_job size f n i ≡ Some done.job
    its_job = by_job (slice_job size f n i) refl halves.1
      where
        by_job : (o : Option Job) → slice_job size f n i ≡ o
            → option_map_or (is_same_job done.job) o false ≡ true
            → slice_job size f n i ≡ Some done.job
        by_job None at e = absurd (false≢true e)
        by_job (Some job) at e = at ∙ sym (ap Some (same_job done.job job e))

    kept_there : (kept : Own) × (picture_keeps size (sessions_of f.heard) n ≡ Some kept)
        × (done.job.plan ≡ kept.plan.parameters) × (i < slice_count kept.plan.parameters)
    kept_there = kept_job_is size (sessions_of f.heard) n i done.job its_job

    slots : ((answers_before done r.answers).parameters ≡ done.job.plan)
        × (length (answers_before done r.answers).slices
        ≡ slice_count kept_there.0.plan.parameters)
    slots = grind (arith, common_steps, kept_there, room_of_none)

    room_for_it : i < length (answers_before done r.answers).slices
    room_for_it = omega (arith, slots.1, kept_there.3)

    room_behind : (m : ℕ) → HasSlots size (sessions_of f.heard) m
        (answers_at (keeps_answer r.answers done) m)
    room_behind m = grind (arith, keeps_own, slots, room_stays, keeps_others)

    pub with_one_answer : IsWorking (record r { answers = keeps_answer r.answers done }) size
        (with_answer f done) hs p st t
    with_one_answer =
        grind (
          arith,
          its_job,
          keeps_found,
          other_answer,
          room_behind,
          room_for_it,
          same_planes_by,
          slots,
          unreleased,
          waiting_released,
        )

  pub takes_working : (done : Answered) → done.answer ≡ decoding done.job
      → IsWorking (takes_done r done) size (takes_answer size f done) hs p st t
  unfolding takes_done
  takes_working done right = grind (arith, wanted_is, with_one_answer)

  -- ---- slices that are out

  pub with_out : (out : List RunOut) → IsWorking (record r { out = out }) size f hs p st t
  with_out out = grind arith

-- ---- one call to the places after another

dones_working : (size : ℕ) (hs : List HeardSession) (p : WindowPast) (st : StandingSession) (t : Tally)
    (dones : List Answered) (r : Reception) (f : Feeder) → IsWorking r size f hs p st t
    → AreDecodings dones → IsWorking (takes_dones r dones) size (taken_back size f dones) hs p st t
dones_working size hs p st t [] r f works right = works
dones_working size hs p st t (done ∷ dones) r f works right =
    dones_working size hs p st t dones (takes_done r done) (takes_answer size f done)
    (takes_working r size f hs p st t works done right.0) right.1

both_right : (ds es : List Answered) → AreDecodings (ds ++ es) → AreDecodings ds × AreDecodings es
both_right [] es right = (tt, right)
both_right (d ∷ ds) es right = let rest = both_right ds es right.1 in ((right.0, rest.0), rest.1)

taken_then : (size : ℕ) (f : Feeder) (ds es : List Answered)
    → taken_back size f (ds ++ es) ≡ taken_back size (taken_back size f ds) es
taken_then size f ds es = fold-append (takes_answer size) f ds es

pub all_working : (size : ℕ) (hs : List HeardSession) (p : WindowPast) (st : StandingSession)
    (t : Tally) (xs : List Exchange) (r : Reception) (f : Feeder)
    → IsWorking r size f hs p st t → AreDecodings (dones_in xs)
    → IsWorking (all_exchanged r xs) size (taken_back size f (dones_in xs)) hs p st t
all_working size hs p st t [] r f works right = works
all_working size hs p st t (Proposed jobs None ∷ xs) r f works right =
    all_working size hs p st t xs r f works right
all_working size hs p st t (Proposed jobs (Some place) ∷ xs) r f works right =
    all_working size hs p st t xs (record r { out = r.out ++ out_at jobs place ∷ [] }) f
    (with_out r size f hs p st t works (r.out ++ out_at jobs place ∷ [])) right
all_working size hs p st t (Fetched place None ∷ xs) r f works right =
    all_working size hs p st t xs r f works right
all_working size hs p st t (Fetched place (Some dones) ∷ xs) r f works right =
    let both = both_right dones (dones_in xs) right in
    let back : IsWorking (back_from r place) size f hs p st t =
    with_out r size f hs p st t works (back_from r place).out in
    subst (λ (g : Feeder). IsWorking (all_exchanged (takes_dones (back_from r place) dones) xs) size g hs p st t)
    (sym (taken_then size f dones (dones_in xs)))
    (all_working size hs p st t xs (takes_dones (back_from r place) dones) (taken_back size f dones)
    (dones_working size hs p st t dones (back_from r place) f back both.0) both.1)
all_working size hs p st t (Withdrawn place ∷ xs) r f works right =
    all_working size hs p st t xs (back_from r place) f
    (with_out r size f hs p st t works (back_from r place).out) right
all_working size hs p st t (Made dones ∷ xs) r f works right =
    let both = both_right dones (dones_in xs) right in
    subst (λ (g : Feeder). IsWorking (all_exchanged (takes_dones r dones) xs) size g hs p st t)
    (sym (taken_then size f dones (dones_in xs)))
    (all_working size hs p st t xs (takes_dones r dones) (taken_back size f dones)
    (dones_working size hs p st t dones r f works both.0) both.1)
