-- A datagram and the end of the input, by their steps.
use Rattle.std.proofs.Common.{◌≡◌, ℕ, zero, suc, Bool, true, List, [], ◌++◌, Option, Some, None, refl, ap, sym, ◌∙◌, subst, append-nil, arith}
use Rattle.std.specs.Prelude.{map, is_some, is_none}
use Rattle.std.specs.Option.{option_map}
use Rattle.machine_model.specs.Places.{Job}
use Rattle.fill_model.specs.ReleasedFrames.{datagram_filled, datagram_frames, end_filled, last_behind}
use Rattle.link_model.specs.Session.{Session}
use Rattle.link_model.specs.Windows.{Releasable}
use Rattle.link_model.specs.declared.outcome.Outcome.{Outcome}
use Rattle.receiver_model.specs.Entering.{datagram_jobs, opens_session, takes_datagram, datagram_bytes, before_releases, takes_end, end_bytes, gives_up_field}
use Rattle.receiver_model.specs.Exchanging.{Exchange, all_exchanged, dones_in}
use Rattle.receiver_model.specs.Judging.{judged, keeps_datagram, session_opened, stands_on, ends_input, is_over}
use Rattle.receiver_model.specs.Receptions.{Reception, StandingSession, FirstField, RunOut}
use Rattle.receiver_model.specs.Releasing.{next_picture, releases_all, releases_up_to, releases_picture_of, book_count}
use Rattle.receiver_model.specs.Standing.{AreDecodings}
use Rattle.receiver_model.specs.WholeBooks.{ArePicturePlanes}
use Rattle.link_window.specs.Openings.{session_of}
use Rattle.link_window.specs.declared.heard.Opening.{Opening}
use Rattle.link_receiver.proofs.CallSteps.{Exchanges, TakesBack, calls_session}
use Rattle.link_receiver.proofs.SameSession.{HaveSameSession}
use Rattle.link_receiver.specs.Entered.{IsEntered, IsDrained}
use Rattle.link_receiver.specs.Freeing.{all_freed_places}
use Rattle.link_receiver.specs.Offers.{AreOffersOf, proposed_in, are_asked}
use Rattle.link_receiver.specs.Released.{AreReleased}
use Rattle.link_receiver.specs.States.{IsRunning, WaitsForSecond, IsReceiving}
use Rattle.link_slices.proofs.Growing.{grows_twice}
use Rattle.link_slices.specs.Calls.{PlaceCall, told_of, exchanges_of, freeing}
use Rattle.link_slices.specs.Jobs.{job_of}
use Rattle.link_pictures.specs.Outputs.{all_released_output, written_behind_all, written_behind_opening, datagram_output, written_behind_datagram, end_output, written_at_end}
use Rattle.link_pictures.specs.Receiving.{stream_takes, datagram_units, opens_stream_for, stream_takes_end, end_units}
use Rattle.link_pictures.specs.declared.written.Written.{Written}
use Rattle.link_pictures.specs.declared.written.Written.TheVariants.{Frames, Filled, Units}
use Rattle.vc_ports.proofs.Growing.{Grew-then, GrewBySome-all, GrewBySome-none, GrewBySome-then, GrewBySome-front}
use Rattle.vc_ports.specs.Writing.{Grew, GrewBySome}
use Rattle.vc_slice.specs.Asked.{Told, told_more, Grows}
use Rattle.vc_slice.specs.declared.job.SliceJob.{SliceJob}

-- ---- what a datagram leaves

module _ (r : Reception) (d : List ℕ) where
  kept-size : (keeps_datagram r d).size ≡ r.size
  unfolding keeps_datagram
  kept-size = refl

  kept-out : (keeps_datagram r d).out ≡ r.out
  unfolding keeps_datagram
  kept-out = refl

  kept-has_ended : (keeps_datagram r d).has_ended ≡ r.has_ended
  unfolding keeps_datagram
  kept-has_ended = refl

waits_on : (f : StandingSession → StandingSession)
    → ((st : StandingSession) → (f st).session ≡ st.session)
    → (standing : Option StandingSession) (field : Option FirstField)
    → WaitsForSecond standing field → WaitsForSecond (option_map f standing) field
waits_on f same None None h = tt
waits_on f same (Some st) None h = tt
waits_on f same None (Some w) h = absurd h
waits_on f same (Some st) (Some w) h =
    subst (λ (s : Session). ArePicturePlanes s.sequence w.planes) (sym (same st)) h

same_session : (o : Option Session) (d : List ℕ) (st : StandingSession)
    → (stands_on o st d).session ≡ st.session
same_session None d st = refl
same_session (Some s) d st = refl

pub waits_kept : (r : Reception) (d : List ℕ) → WaitsForSecond r.standing r.field
    → WaitsForSecond (keeps_datagram r d).standing (keeps_datagram r d).field
unfolding keeps_datagram
waits_kept r d h = waits_on (λ (st : StandingSession). stands_on (session_opened r d) st d)
    (same_session (session_opened r d) d) r.standing r.field h

pub waits_same : (r s : Reception) → HaveSameSession r s → WaitsForSecond r.standing r.field
    → WaitsForSecond s.standing s.field
waits_same r s same h = subst (λ (o : Option StandingSession). WaitsForSecond o s.field)
    (sym same.standing) (subst (WaitsForSecond r.standing) (sym same.field) h)

-- ---- what releases leave

record StaysOpen (r s : Reception) : Type 0 where
  size : s.size ≡ r.size
  has_ended : s.has_ended ≡ r.has_ended
  running : IsRunning r.standing → IsRunning s.standing

opens_same : (r : Reception) → StaysOpen r r
opens_same r = record { size = refl; has_ended = refl; running = λ h. h }

opens_then : (r s t : Reception) → StaysOpen r s → StaysOpen s t → StaysOpen r t
opens_then r s t p q = grind arith

one_release : (r : Reception) (picture : Releasable) → StaysOpen r (releases_picture_of r picture)
one_release r picture = grind (arith, opens_same)

releases_open : (k : ℕ) (r : Reception) → StaysOpen r (releases_up_to k r)
unfolding releases_up_to
releases_open zero r = opens_same r
releases_open (suc k) r = grind (arith, opens_same, opens_then, one_release, releases_open k)

-- ---- what goes out, and what is kept of it

datagram_output_is : (written : Written) (r : Reception) (d : List ℕ)
    (es : List Exchange) → all_released_output written (before_releases r d es)
    ≡ datagram_output written r d es
unfolding datagram_bytes datagram_filled datagram_frames datagram_units
datagram_output_is Frames r d es = refl
datagram_output_is (Filled last) r d es = refl
datagram_output_is (Units w) r d es = refl

written_behind_is : (written : Written) (r : Reception) (d : List ℕ)
    (es : List Exchange)
    → written_behind_opening (session_opened r d) (is_none r.standing) d
    (written_behind_all written (before_releases r d es)) ≡ written_behind_datagram written r d es
unfolding stream_takes last_behind datagram_frames
written_behind_is Frames r d es = refl
written_behind_is (Filled last) r d es = refl
written_behind_is (Units w) r d es = refl

end_output_is : (written : Written) (r : Reception) (es : List Exchange)
    → (let last = all_exchanged (ends_input r) es in
    all_released_output written last ++ written_at_end (written_behind_all written last))
    ≡ end_output written r es
unfolding end_bytes end_filled end_units stream_takes_end
end_output_is Frames r es =
    append-nil (all_released_output Frames (all_exchanged (ends_input r) es))
end_output_is (Filled last) r es =
    append-nil (all_released_output (Filled last) (all_exchanged (ends_input r) es))
end_output_is (Units w) r es = refl

-- before anything went out
pub fails_early : (written : Written) (r : Reception) (d : List ℕ)
    (held : Option (List ℕ)) → (es : List Exchange) × AreDecodings (dones_in es)
    × GrewBySome held held (datagram_output written r d es)
fails_early written r d held = ([], tt, GrewBySome-none held (datagram_output written r d []))

-- ---- up to the releases, and behind them

module _ {a b : Option Told} (old : Reception) {kept exchanged : Reception} (d : List ℕ)
    (jobs : List SliceJob) (k : kept ≡ keeps_datagram old d)
    (x : Exchanges a b kept exchanged (map job_of jobs)) where
  same : HaveSameSession kept exchanged
  same = calls_session a b kept exchanged x.0 x.1

  pub waits_exchanged : WaitsForSecond old.standing old.field
      → WaitsForSecond exchanged.standing exchanged.field
  waits_exchanged h = waits_same kept exchanged same
      (subst (λ (r : Reception). WaitsForSecond r.standing r.field) (sym k) (waits_kept old d h))

  value : exchanged ≡ before_releases old d (exchanges_of x.0)
  value = x.1.value ∙ ap (λ (r : Reception). all_exchanged r (exchanges_of x.0)) k

  pub size_exchanged : exchanged.size ≡ old.size
  size_exchanged = same.size ∙ ap (λ (r : Reception). r.size) k ∙ kept-size old d

  has_ended_exchanged : exchanged.has_ended ≡ old.has_ended
  has_ended_exchanged = same.has_ended ∙ ap (λ (r : Reception). r.has_ended) k
      ∙ kept-has_ended old d

  output_exchanged : (written : Written) → all_released_output written exchanged
      ≡ datagram_output written old d (exchanges_of x.0)
  output_exchanged written = ap (all_released_output written) value
      ∙ datagram_output_is written old d (exchanges_of x.0)

  pub fails_in : (written : Written) (before behind : Option (List ℕ))
      → GrewBySome before behind (all_released_output written exchanged)
      → (es : List Exchange) × AreDecodings (dones_in es)
      × GrewBySome before behind (datagram_output written old d es)
  fails_in written before behind some = grind (arith, output_exchanged)

  module _ {c : Option Told} {before behind : Option (List ℕ)}
      {first mid : Written} {released : Reception}
      (all : AreReleased b c before behind first mid exchanged released) where
    pub fails_released : (es : List Exchange) × AreDecodings (dones_in es)
        × GrewBySome before behind (datagram_output first old d es)
    fails_released = fails_in first before behind
        (GrewBySome-all before behind (all_released_output first exchanged) all.written)

    pub size_released : released.size ≡ old.size
    size_released = ap (λ (r : Reception). r.size) all.value
        ∙ (releases_open (book_count exchanged) exchanged).size ∙ size_exchanged

    has_ended_released : released.has_ended ≡ old.has_ended
    has_ended_released = ap (λ (r : Reception). r.has_ended) all.value
        ∙ (releases_open (book_count exchanged) exchanged).has_ended ∙ has_ended_exchanged

    running_released : IsRunning kept.standing → IsRunning released.standing
    running_released h = grind (arith, value, releases_open, same)

    opened-has_ended : (o : Option Session)
        → (opens_session o released).has_ended ≡ released.has_ended
    opened-has_ended None = refl
    opened-has_ended (Some s) = refl

    pub has_ended_behind : (o : Option Session) {new : Reception}
        → new ≡ opens_session o released → new.has_ended ≡ old.has_ended
    has_ended_behind o n = ap (λ (r : Reception). r.has_ended) n ∙ opened-has_ended o
        ∙ has_ended_released

    opens : IsReceiving old → WaitsForSecond released.standing released.field
        → (o : Option Opening) → (o ≡ None → IsRunning kept.standing)
        → IsReceiving (opens_session (option_map session_of o) released)
    opens old_goes waits None running = grind (arith, size_released, running_released)
    opens old_goes waits (Some opening) running = grind (arith, size_released)

    pub goes_on_behind : IsReceiving old → WaitsForSecond released.standing released.field
        → (o : Option Opening) → (o ≡ None → IsRunning kept.standing) → {new : Reception}
        → new ≡ opens_session (option_map session_of o) released → IsReceiving new
    goes_on_behind old_goes waits o running n =
        subst IsReceiving (sym n) (opens old_goes waits o running)

    module _ {outcome : Outcome} {o : Option Session} {new : Reception}
        {last : Written} {is_first : Bool} {datagram : List ℕ}
        (same_first : is_first ≡ is_none old.standing) (same_datagram : datagram ≡ d)
        (j : map job_of jobs ≡ datagram_jobs old d) (out : outcome ≡ judged old d)
        (opening : o ≡ session_opened old d) (n : new ≡ opens_session o released)
        (t : last ≡ written_behind_opening o is_first datagram mid) where
      new_value : new ≡ takes_datagram old d (exchanges_of x.0)
      unfolding takes_datagram
      new_value = n ∙ ap (λ (s : Option Session). opens_session s released) opening
          ∙ ap (opens_session (session_opened old d)) (all.value ∙ ap releases_all value)

      new_written : Grew before behind (datagram_output first old d (exchanges_of x.0))
      new_written = subst (Grew before behind) (output_exchanged first) all.written

      new_written_kept : last ≡ written_behind_datagram first old d (exchanges_of x.0)
      new_written_kept = grind (arith, value, written_behind_is)

      asked_for : is_some (next_picture (keeps_datagram old d)) ≡ true
          → are_asked old.out (exchanges_of x.0) ≡ true
      asked_for some = grind (arith, kept-out)

      pub enters : (calls : List PlaceCall) × IsEntered (record {
        told_before = a;
        told_behind = c;
        held_before = before;
        held_behind = behind;
        written_before = first;
        written_behind = last;
      }) old new d outcome calls
      enters = (
        x.0,
        record {
          told = subst (λ (r : Reception). Grows a c
              (told_more (told_of x.0) (freeing (all_freed_places r)))) value
              (grows_twice a b c (told_of x.0) (freeing (all_freed_places exchanged)) x.1.told
              all.told);
          value = new_value;
          kept = new_written_kept;
          written = new_written;
          judgement = out;
          decodings = x.1.decodings;
          offered = subst (λ (l : List Job). AreOffersOf l (proposed_in (exchanges_of x.0))) j x.2;
          asked = asked_for;
          little = λ none. x.1.little
              (ap (λ (r : Reception). is_some (next_picture r)) k ∙ none);
        },
      )

-- ---- the end of the input

waits_over : (r : Reception) → WaitsForSecond r.standing r.field
    → WaitsForSecond (ends_input r).standing (ends_input r).field
waits_over r h = waits_on is_over (λ st. refl) r.standing r.field h

module _ {a b : Option Told} (old : Reception) {ended exchanged : Reception}
    (k : ended ≡ ends_input old) (x : TakesBack a b ended exchanged) where
  same_at_end : HaveSameSession ended exchanged
  same_at_end = calls_session a b ended exchanged x.0 x.1

  pub waits_at_end : WaitsForSecond old.standing old.field
      → WaitsForSecond exchanged.standing exchanged.field
  waits_at_end h = waits_same ended exchanged same_at_end
      (subst (λ (r : Reception). WaitsForSecond r.standing r.field) (sym k) (waits_over old h))

  value_at_end : exchanged ≡ all_exchanged (ends_input old) (exchanges_of x.0)
  value_at_end = x.1.value ∙ ap (λ (r : Reception). all_exchanged r (exchanges_of x.0)) k

  output_at_end : (written : Written)
      → all_released_output written exchanged ++ written_at_end (written_behind_all written exchanged)
      ≡ end_output written old (exchanges_of x.0)
  output_at_end written = grind (arith, value_at_end, end_output_is)

  abbrev FailsAtEnd : (written : Written) (before behind : Option (List ℕ)) → Type 0
  FailsAtEnd written before behind = (es : List Exchange) × AreDecodings (dones_in es)
      × GrewBySome before behind (end_output written old es)

  some_at_end : (written : Written) (before behind : Option (List ℕ))
      → GrewBySome before behind
      (all_released_output written exchanged ++ written_at_end (written_behind_all written exchanged))
      → FailsAtEnd written before behind
  some_at_end written before behind some = grind (arith, output_at_end)

  -- in the releases, or behind them
  pub fails_at_end : (written : Written) (before behind : Option (List ℕ))
      → GrewBySome before behind (all_released_output written exchanged)
      → FailsAtEnd written before behind
  fails_at_end written before behind some = grind (arith, some_at_end, GrewBySome-front)

  module _ {c : Option Told} {before middle : Option (List ℕ)}
      {first last : Written} {released : Reception}
      (all : AreReleased b c before middle first last exchanged released) where
    pub fails_released_at_end : FailsAtEnd first before middle
    fails_released_at_end = fails_at_end first before middle
        (GrewBySome-all before middle (all_released_output first exchanged) all.written)

    -- at the very end
    pub fails_last : (behind : Option (List ℕ)) → GrewBySome middle behind (written_at_end last)
        → FailsAtEnd first before behind
    fails_last behind some = grind (arith, some_at_end, GrewBySome-then)

    module _ {new : Reception} (n : new ≡ gives_up_field released) where
      pub ended_behind : new.has_ended ≡ true
      ended_behind = grind (arith, value, releases_open, same_at_end)

      new_end : new ≡ takes_end old (exchanges_of x.0)
      unfolding takes_end
      new_end = n ∙ ap gives_up_field (all.value ∙ ap releases_all value_at_end)

      module _ (behind : Option (List ℕ)) (ends : Grew middle behind (written_at_end last)) where
        output_written : Grew before behind (end_output first old (exchanges_of x.0))
        output_written = subst (Grew before behind) (output_at_end first)
            (Grew-then before middle behind (all_released_output first exchanged)
            (written_at_end (written_behind_all first exchanged)) all.written
            (subst (λ (o : Written). Grew middle behind (written_at_end o)) all.kept
            ends))

        pub drains : (calls : List PlaceCall) × IsDrained (record {
          told_before = a;
          told_behind = c;
          held_before = before;
          held_behind = behind;
          written_before = first;
          written_behind = last;
        }) old new calls
        drains = (
          x.0,
          record {
            told = subst (λ (r : Reception). Grows a c
                (told_more (told_of x.0) (freeing (all_freed_places r)))) value_at_end
                (grows_twice a b c (told_of x.0) (freeing (all_freed_places exchanged)) x.1.told
                all.told);
            value = new_end;
            written = output_written;
            decodings = x.1.decodings;
            offered = x.2;
            asked = λ some. subst (λ (r : List RunOut). are_asked r (exchanges_of x.0) ≡ true)
                (ap (λ (r : Reception). r.out) k)
                (x.3 (ap (λ (r : Reception). is_some (next_picture r)) k ∙ some));
            little = λ none. x.1.little
                (ap (λ (r : Reception). is_some (next_picture r)) k ∙ none);
          },
        )
