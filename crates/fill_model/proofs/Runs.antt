-- All pictures that may be released, one after another: what is written is their frames.
use Rattle.std.proofs.Common.{◌≡◌, ℕ, zero, suc, ◌≤◌, refl, ap, sym, ◌∙◌, List, [], ◌∷◌, ◌++◌}
use Rattle.std.proofs.Common.{length, Option, Some, None, arith}
use Rattle.std.specs.List.{flat_map}
use Rattle.std.specs.Option.{option_map_or}
use Rattle.machine_model.specs.Feeders.{Feeder}
use Rattle.machine_model.specs.Next.{taken_back}
use Rattle.link_model.specs.Session.{HeardSession}
use Rattle.link_model.specs.Windows.{WindowPast, Releasable, past_releases, window_of}
use Rattle.link_model.specs.Windows.{releasable_numbers, first_of, as_releasable}
use Rattle.link_model.specs.declared.tally.Tally.{Tally}
use Rattle.link_model.proofs.WindowStands.{releasable_next}
use Rattle.receiver_model.specs.Exchanging.{Exchange, all_exchanged, dones_in}
use Rattle.receiver_model.specs.Receptions.{StandingSession, Reception}
use Rattle.receiver_model.specs.Releasing.{book_count, releases_picture_of, next_picture}
use Rattle.receiver_model.specs.Standing.{AreDecodings}
use Rattle.receiver_model.proofs.ReleasedNumbers.{books_enough}
use Rattle.receiver_model.proofs.ReleaseRuns.{nothing_next}
use Rattle.receiver_model.proofs.Releases.{receiver_then, receiver_then_is, feeder_then}
use Rattle.receiver_model.proofs.Releases.{works_then, standing_then, next_picture_is}
use Rattle.receiver_model.proofs.Working.{IsWorking, all_working}
use Rattle.fill_model.proofs.Releases.{frames_are}
use Rattle.fill_model.specs.Filled.{WrittenFrame}
use Rattle.fill_model.specs.FilledSessions.{frame_written}
use Rattle.fill_model.specs.ReleasedFrames.{released_frames, frames_up_to, all_released_frames}

pub no_frames : (r : Reception) → frames_up_to 0 r ≡ []
unfolding frames_up_to
no_frames r = refl

pub frames_on : (k : ℕ) (r : Reception) (picture : Releasable) → next_picture r ≡ Some picture
    → frames_up_to (suc k) r
    ≡ released_frames r picture ++ frames_up_to k (releases_picture_of r picture)
unfolding frames_up_to
frames_on k r picture is = ap (λ (o : Option Releasable). option_map_or (λ picture.
    released_frames r picture ++ frames_up_to k (releases_picture_of r picture)) o []) is

pub frames_stop : (k : ℕ) (r : Reception) → next_picture r ≡ None → frames_up_to k r ≡ []
unfolding frames_up_to
frames_stop zero r none = refl
frames_stop (suc k) r none = ap (λ (o : Option Releasable). option_map_or (λ picture.
    released_frames r picture ++ frames_up_to k (releases_picture_of r picture)) o []) none

-- nothing is written while no session stands
pub idle_frames : (r : Reception) → r.standing ≡ None → all_released_frames r ≡ []
idle_frames r none = ap (λ (o : Option StandingSession). frames_up_to
    (option_map_or (λ st. length st.window.books) o 0) r) none ∙ no_frames r

abbrev tail_of : List ℕ → List ℕ
tail_of [] = []
tail_of (n ∷ ns) = ns

module _ (size : ℕ) (hs : List HeardSession) (t : Tally) where
  frames_run : (ns : List ℕ) (k : ℕ) (r : Reception) (f : Feeder) (p : WindowPast)
      (st : StandingSession) → IsWorking r size f hs p st t → releasable_numbers p ≡ ns
      → length ns ≤ k → frames_up_to k r ≡ flat_map (frame_written p.sequence p.entries) ns
  frames_run [] k r f p st works are enough =
      frames_stop k r (nothing_next size hs t r f p st works are)
  frames_run (n ∷ ns) zero r f p st works are enough = absurd (omega (arith, enough))
  frames_run (n ∷ ns) (suc k) r f p st works are enough =
      let next = ap first_of are in
      let rest : releasable_numbers (past_releases p n) ≡ ns =
      ap tail_of (sym (releasable_next st.window p works.window n next) ∙ are) in
      let then = receiver_then r size f hs p st t works n next in
      let later = frames_run ns k then (feeder_then r size f hs p st t works n next)
      (past_releases p n) (standing_then r size f hs p st t works n next)
      (works_then r size f hs p st t works n next) rest (omega (arith, enough)) in
      frames_on k r (as_releasable p n) (next_picture_is r size f hs p st t works n next)
      ∙ ap (λ (v : Reception). released_frames r (as_releasable p n) ++ frames_up_to k v)
      (receiver_then_is r size f hs p st t works n next)
      ∙ ap (λ (l : List WrittenFrame). l ++ frames_up_to k then)
      (frames_are r size f hs p st t works n next)
      ∙ ap (λ (l : List WrittenFrame). frame_written p.sequence p.entries n ++ l) later

  books_are : (r : Reception) (f : Feeder) (p : WindowPast) (st : StandingSession)
      → IsWorking r size f hs p st t → book_count r ≡ length (window_of p).books
  books_are r f p st works = grind arith

  -- all that may be released
  all_frames : (r : Reception) (f : Feeder) (p : WindowPast) (st : StandingSession)
      → IsWorking r size f hs p st t → all_released_frames r
      ≡ flat_map (frame_written p.sequence p.entries) (releasable_numbers p)
  all_frames r f p st works = frames_run (releasable_numbers p) (book_count r) r f p st works refl
      (omega (arith, books_are r f p st works, books_enough p works.window.in_order))

  -- and behind exchanges
  pub exchanged_frames : {kept : Reception} {f : Feeder} {p : WindowPast} {st : StandingSession}
      → IsWorking kept size f hs p st t → (xs : List Exchange) → AreDecodings (dones_in xs)
      → all_released_frames (all_exchanged kept xs)
      ≡ flat_map (frame_written p.sequence p.entries) (releasable_numbers p)
  exchanged_frames {kept} {f} {p} {st} works xs right =
      all_frames (all_exchanged kept xs) (taken_back size f (dones_in xs)) p st
      (all_working size hs p st t xs kept f works right)
