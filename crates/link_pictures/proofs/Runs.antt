-- All pictures that may be released, one after another: the stream goes on by the pictures of their
-- frames.
use Rattle.std.proofs.Common.{◌≡◌, ℕ, zero, suc, ◌≤◌, false, refl, ap, sym, subst, ◌∙◌}
use Rattle.std.proofs.Common.{List, [], ◌∷◌, ◌++◌, length, arith}
use Rattle.std.specs.List.{flat_map}
use Rattle.machine_model.specs.Feeders.{Feeder}
use Rattle.machine_model.specs.Next.{taken_back}
use Rattle.link_model.specs.Session.{HeardSession}
use Rattle.link_model.specs.Windows.{WindowPast, past_releases, window_of}
use Rattle.link_model.specs.Windows.{releasable_numbers, first_of, as_releasable}
use Rattle.link_model.specs.declared.tally.Tally.{Tally}
use Rattle.link_model.proofs.WindowStands.{releasable_next}
use Rattle.receiver_model.specs.Exchanging.{Exchange, all_exchanged, dones_in}
use Rattle.receiver_model.specs.Receptions.{StandingSession, Reception}
use Rattle.receiver_model.specs.Releasing.{releases_up_to, book_count}
use Rattle.receiver_model.specs.Releasing.{releases_picture_of}
use Rattle.receiver_model.specs.Standing.{AreDecodings}
use Rattle.receiver_model.proofs.ReleasedNumbers.{books_enough}
use Rattle.receiver_model.proofs.ReleaseRuns.{nothing_next}
use Rattle.receiver_model.proofs.ReleaseSteps.{step_on, stops}
use Rattle.receiver_model.proofs.Releases.{receiver_then, receiver_then_is, feeder_then}
use Rattle.receiver_model.proofs.Releases.{works_then, standing_then, next_picture_is}
use Rattle.receiver_model.proofs.Working.{IsWorking, all_working}
use Rattle.stream_model.specs.Streams.{units_behind, frame_units}
use Rattle.vc_types.specs.DataUnits.{DataUnit}
use Rattle.link_pictures.specs.Writing.{WrittenStream, units_next, length_behind, bytes_next}
use Rattle.link_pictures.specs.Writing.{behind_picture}
use Rattle.link_pictures.specs.Receiving.{streams_up_to, streamed_up_to, streams_picture, picture_from}
use Rattle.link_pictures.specs.Standing.{waiting_bytes}
use Rattle.link_pictures.proofs.Releases.{pictures_are, stream_then, bytes_then, field_then}
use Rattle.link_pictures.proofs.Steps.{stream_on, bytes_on, stream_stops, bytes_stop}
use Rattle.link_pictures.proofs.UnitLists.{next_bytes-append, next_length-append}

-- a stream behind units that went out
pub record GoesOn (before after : WrittenStream) (pictures : List DataUnit) : Type 0 where
  pub header : after.header ≡ before.header
  pub over : after.is_over ≡ before.is_over
  pub previous : after.previous ≡ length_behind before.previous (units_next before pictures)

nothing_more : (w : WrittenStream) → GoesOn w w []
nothing_more w = grind arith

nothing_written : (w : WrittenStream) → bytes_next w [] ≡ []
unfolding units_behind
nothing_written w = grind arith

module _ (size : ℕ) (hs : List HeardSession) (t : Tally) where
  -- after at most so many releases, of these pictures
  pub record Streamed (k : ℕ) (r : Reception) (w : WrittenStream) (p : WindowPast) (ns : List ℕ)
      : Type 0 where
    pub bytes : streamed_up_to k r w
        ≡ bytes_next w (flat_map (frame_units p.sequence p.entries) ns)
    pub goes_on : GoesOn w (streams_up_to k r w) (flat_map (frame_units p.sequence p.entries) ns)
    pub field : (streams_up_to k r w).field
        ≡ waiting_bytes p.sequence p.entries (releases_up_to k r).field

  abbrev tail_of : List ℕ → List ℕ
  tail_of [] = []
  tail_of (n ∷ ns) = ns

  pub stream_run : (ns : List ℕ) (k : ℕ) (r : Reception) (f : Feeder) (p : WindowPast)
      (st : StandingSession) → IsWorking r size f hs p st t → releasable_numbers p ≡ ns
      → length ns ≤ k → (w : WrittenStream) → w.is_over ≡ false
      → w.field ≡ waiting_bytes p.sequence p.entries r.field → Streamed k r w p ns
  stream_run [] k r f p st works are enough w on field =
      let none = nothing_next size hs t r f p st works are in
      let same = stream_stops k r w none in
      record {
        bytes = bytes_stop k r w none ∙ sym (nothing_written w);
        goes_on = subst (λ (v : WrittenStream). GoesOn w v []) (sym same) (nothing_more w);
        field =
            ap (λ (v : WrittenStream). v.field) same
            ∙ field
            ∙ ap (λ (v : Reception). waiting_bytes p.sequence p.entries v.field)
            (sym (stops k r none));
      }
  stream_run (n ∷ ns) zero r f p st works are enough w on field = absurd (omega (arith, enough))
  stream_run (n ∷ ns) (suc k) r f p st works are enough w on field =
      let next = ap first_of are in
      let rest : releasable_numbers (past_releases p n) ≡ ns =
      ap tail_of (sym (releasable_next st.window p works.window n next) ∙ are) in
      let then = receiver_then r size f hs p st t works n next in
      let next_of = next_picture_is r size f hs p st t works n next in
      let received = receiver_then_is r size f hs p st t works n next in
      let us = frame_units p.sequence p.entries n in
      let more = flat_map (frame_units p.sequence p.entries) ns in
      let pictures = pictures_are r size f hs p st t works n next w field in
      let now : WrittenStream = behind_picture w (picture_from r n st) in
      let after : WrittenStream = record now {
        previous = length_behind w.previous (units_next w us);
      } in
      let is_after : now ≡ after = ap (λ (l : List DataUnit). (let v : WrittenStream = record now {
        previous = length_behind w.previous (units_next w l);
      } in v)) pictures in
      let streamed : streams_picture r (as_releasable p n) w ≡ after =
      stream_then r size f hs p st t works n next w field on ∙ is_after in
      let later = stream_run ns k then (feeder_then r size f hs p st t works n next)
      (past_releases p n) (standing_then r size f hs p st t works n next)
      (works_then r size f hs p st t works n next) rest (omega (arith, enough)) after on
      (sym (ap (λ (v : WrittenStream). v.field) is_after)
      ∙ field_then r size f hs p st t works n next w field on) in
      let stream : streams_up_to (suc k) r w ≡ streams_up_to k then after =
      stream_on k r w (as_releasable p n) next_of
      ∙ ap (λ (v : Reception). streams_up_to k v (streams_picture r (as_releasable p n) w)) received
      ∙ ap (streams_up_to k then) streamed in
      record {
        bytes =
            bytes_on k r w (as_releasable p n) next_of
            ∙ ap (λ (l : List ℕ). l ++ streamed_up_to k
            (releases_picture_of r (as_releasable p n)) (streams_picture r (as_releasable p n) w))
            (bytes_then r size f hs p st t works n next w field on)
            ∙ ap (λ (v : Reception). bytes_next w us
            ++ streamed_up_to k v (streams_picture r (as_releasable p n) w)) received
            ∙ ap (λ (v : WrittenStream). bytes_next w us ++ streamed_up_to k then v) streamed
            ∙ ap (λ (l : List ℕ). bytes_next w us ++ l) later.bytes
            ∙ sym (next_bytes-append w us more);
        goes_on = subst (λ (v : WrittenStream). GoesOn w v (us ++ more)) (sym stream) (record {
          header = later.goes_on.header;
          over = later.goes_on.over;
          previous = later.goes_on.previous ∙ sym (next_length-append w us more);
        });
        field =
            ap (λ (v : WrittenStream). v.field) stream
            ∙ later.field
            ∙ ap (λ (v : Reception). waiting_bytes p.sequence p.entries v.field)
            (sym (step_on k r (as_releasable p n) next_of
            ∙ ap (releases_up_to k) received));
      }

  books_are : (r : Reception) (f : Feeder) (p : WindowPast) (st : StandingSession)
      → IsWorking r size f hs p st t → book_count r ≡ length (window_of p).books
  books_are r f p st works = grind arith

  -- all that may be released
  pub all_streamed : (r : Reception) (f : Feeder) (p : WindowPast) (st : StandingSession)
      → IsWorking r size f hs p st t → (w : WrittenStream) → w.is_over ≡ false
      → w.field ≡ waiting_bytes p.sequence p.entries r.field
      → Streamed (book_count r) r w p (releasable_numbers p)
  all_streamed r f p st works w on field =
      stream_run (releasable_numbers p) (book_count r) r f p st works refl
      (omega (arith, books_are r f p st works, books_enough p works.window.in_order))
      w on field

  -- and behind exchanges
  pub exchanged_streamed : {kept : Reception} {f : Feeder} {p : WindowPast} {st : StandingSession}
      → IsWorking kept size f hs p st t → (xs : List Exchange) → AreDecodings (dones_in xs)
      → (w : WrittenStream) → w.is_over ≡ false
      → w.field ≡ waiting_bytes p.sequence p.entries kept.field
      → Streamed (book_count (all_exchanged kept xs)) (all_exchanged kept xs) w p
      (releasable_numbers p)
  exchanged_streamed {kept} {f} {p} {st} works xs right w on field =
      let behind = all_working size hs p st t xs kept f works right in
      all_streamed (all_exchanged kept xs) (taken_back size f (dones_in xs)) p st behind w on
      (field ∙ ap (waiting_bytes p.sequence p.entries) (works.waiting ∙ sym behind.waiting))
