-- What a command came to: datagrams were heard since workers were started, and then the end.
use Rattle.std.proofs.Common.{◌≡◌, Bool, true, false, ◌≤◌, ℕ, List, [], ◌∷◌, Option, None, Some, Ok, Err, refl, ap, ◌∙◌, subst, sym, arith, inl, inr}
use Rattle.std.specs.Prelude.{Result, ◌⊎◌}
use Rattle.link_model.specs.Judgement.{no_counts, outcomes_behind, tally_of, with_sessions}
use Rattle.fill_model.specs.FilledSessions.{all_filled, filled_output}
use Rattle.link_model.specs.Output.{all_output, full_output}
use Rattle.link_model.specs.declared.tally.Tally.{Tally}
use Rattle.link_receiver.proofs.Asked.{grows_twice}
use Rattle.link_receiver.proofs.Hired.{started}
use Rattle.link_receiver.specs.HeardLists.{OutputForm, HasHeard, due_in_all, frames_form}
use Rattle.link_receiver.specs.StartedWorkers.{HasStarted}
use Rattle.link_report.specs.declared.answer.Answer.{Answer}
use Rattle.link_report.specs.declared.answer.Answer.TheVariants.{Done, Drained, WithRecords, Stopped}
use Rattle.link_report.specs.declared.ending.Ending.{Ending}
use Rattle.link_report.specs.declared.ending.Ending.TheVariants.{InputFailed, NoMemory, OutputFailed, PacketLimit, WireFailed}
use Rattle.link_report.specs.declared.summary.Summary.{Summary}
use Rattle.link_report.specs.declared.summary.Summary.TheVariants.{Judged}
use Rattle.vc_ports.proofs.Given.{Gave-none}
use Rattle.vc_ports.proofs.Growing.{Grew-none, GrewBySome-none}
use Rattle.vc_ports.specs.Changes.{Change, InputChange, OutputChange, WireChange, HasRisen, Stays, changed, output_of, wire_of}
use Rattle.vc_ports.specs.Wires.{WireTold}
use Rattle.vc_slice.specs.Asked.{Told, Grows, starting, told_more}
use Rattle.cmd_receive.proofs.Asking.{nothing_offered}
use Rattle.link_hearing.proofs.HeardInputs.{failed_so, read_all, read_until, so_breaks, so_hears}
use Rattle.cmd_receive.proofs.HeardWire.{wire_breaks, wire_hears}
use Rattle.cmd_receive.proofs.Listened.{breaks_at_end, heard_all, heard_part}
use Rattle.link_hearing.specs.Inputs.{InputEnded, datagrams_in, records_in}
use Rattle.link_hearing.specs.declared.form.InputForm.{InputForm}
use Rattle.link_hearing.specs.declared.heard.HeardInput.{HeardInput}
use Rattle.link_hearing.specs.declared.heard.RecordCounts.{RecordCounts}
use Rattle.cmd_receive.specs.Decoding.{HasGivenWork, InputTaken, StartsWorkers, TakesInput, counted_so, has_failed_input}
use Rattle.link_hearing.specs.Hearing.{CanGoOn, fault_ending, has_broken}
use Rattle.cmd_receive.specs.Concluding.{Concludes, with_record_counts}
use Rattle.cmd_receive.specs.WireInletLaws.{told_between}
use Rattle.cmd_receive.specs.Playouts.{PlayoutState, BreaksOff, HandsWereOffered, HasEndedSince, Hears, PlaysInput, Stumbles}
use Rattle.cmd_receive.specs.Receiving.{IsJudged, ReceivesFrom, RecvEnded}
use Rattle.link_hearing.specs.FromWire.{HeardAt, HeardToEnd, Listening, begun_at, has_failed_wire}
use Rattle.cmd_receive.specs.Sessions.{HearsWire, WireHeard}

-- ---- workers

-- they were started, and then slices were offered
pub gave_work : {window workers : ℕ} {ds : List (List ℕ)} {before mid after : Option Told}
    → Grows before mid (starting workers (Ok tt))
    → HandsWereOffered window ds (record { before = mid; after = after })
    → HasGivenWork window workers (record { before = before; after = after }) ds
gave_work {workers = workers} {before = before} {mid = mid} {after = after} grew told = record {
  more = told_more (starting workers (Ok tt)) told.more;
  grows = grows_twice before mid after (starting workers (Ok tt)) told.more grew told.grows;
  started = ap (λ (l : List ℕ). workers ∷ l) told.started;
  offered = told.offered;
}

-- and nothing was offered
pub just_started : {workers : ℕ} {before after : Option Told}
    → Grows before after (starting workers (Ok tt))
    → HasStarted workers (record { before = before; after = after })
just_started {workers = workers} grew =
    record { more = starting workers (Ok tt); grows = grew; started = refl }

-- ---- the end

-- by the answer, since the receiver had heard nothing
abbrev pub CameTo : OutputForm → ℕ → (x y : PlayoutState) → List (List ℕ) → Result (Unit {0}) Ending
    → Answer → Type 0
CameTo form window x y ds heard (Done (Judged tally)) =
    (heard ≡ Ok tt) × HasEndedSince form window x.held x.asked y ds tally
CameTo form window x y ds heard (Drained (Judged tally) end) = (heard ≡ Err end) × (has_broken end ≡ false)
    × HasEndedSince form window x.held x.asked y ds tally
CameTo form window x y ds heard (Stopped end) = BreaksOff x y ds end
CameTo form window x y ds heard answer = ⊥

module _ {form : OutputForm} {window : ℕ} {x mid : PlayoutState} (y : PlayoutState) {ds : List (List ℕ)}
    (new : HasHeard form x.receiver window []) (heard : Result (Unit {0}) Ending)
    (hears : CanGoOn heard → Hears x mid ds)
    (breaks : (end : Ending) → has_broken end ≡ true → heard ≡ Err end → BreaksOff x mid ds end) where
  pub came_to : (answer : Answer) → Concludes mid y heard answer → CameTo form window x y ds heard answer
  came_to (Done (Judged tally)) c =
      (c.0, c.1.since form window x.held x.asked ds (heard_all new (hears (rw c.0 tt))))
  came_to (Drained (Judged tally) end) c = (
    c.0,
    c.1,
    c.2.since form window x.held x.asked ds (heard_all new (hears (rw c.0 c.1))),
  )
  came_to (Stopped end) (inl c) = rw c.2 (breaks end c.1 c.0)
  came_to (Stopped end) (inr c) = breaks_at_end x mid y ds end (hears c.0) c.1
  came_to answer c = absurd c

-- it read no further, whatever it says
drained_so : (form : OutputForm) (window : ℕ) (x y : PlayoutState) (ds : List (List ℕ))
    (heard : Result (Unit {0}) Ending) (summary : Summary) (end : Ending)
    → CameTo form window x y ds heard (Drained summary end) → heard ≡ Err end
drained_so form window x y ds heard (Judged tally) end c = c.0
drained_so form window x y ds heard summary end c = absurd c

abbrev pub output : (x y : PlayoutState) → OutputChange
output x y = record {
  held = record { before = x.held; after = y.held };
  faults = record { before = x.faults; after = y.faults };
}

abbrev pub hands : Option Told → PlayoutState → Change (Option Told)
hands before y = record { before = before; after = y.asked }

module _ (form : OutputForm) (window workers : ℕ) (before : Option Told) (x y : PlayoutState)
    (ds : List (List ℕ)) (heard : Result (Unit {0}) Ending)
    (new : HasHeard form x.receiver window []) (grew : Grows before x.asked (starting workers (Ok tt))) where
  has_started : {given : List (List ℕ)} → Stumbles x y given → HasStarted workers (hands before y)
  has_started s = started workers before x.asked y.asked grew s.goes.asked

  workers_did : (answer : Answer) → CameTo form window x y ds heard answer
      → StartsWorkers window workers answer (hands before y) ds
  workers_did (Done (Judged tally)) c = gave_work grew c.1.offered
  workers_did (Drained (Judged tally) end) c = gave_work grew c.2.offered
  workers_did (Stopped NoMemory) c = inl (has_started c)
  workers_did (Stopped OutputFailed) c = has_started c.0
  workers_did (Stopped end) c = tt
  workers_did answer c = absurd c

  output_did : (answer : Answer) → CameTo form window x y ds heard answer
      → answer ≡ Stopped OutputFailed → HasRisen (output x y).faults
  output_did answer c is = (rw is at c).1

  -- ---- an input

  -- the counts of records change nothing of it
  offers_so : (counts : Option RecordCounts) (answer : Answer)
      → StartsWorkers window workers answer (hands before y) ds
      → StartsWorkers window workers (with_record_counts counts answer) (hands before y) ds
  offers_so None answer started = started
  offers_so (Some counts) (Done summary) started = started
  offers_so (Some counts) (Drained summary end) started = started
  offers_so (Some counts) (Stopped end) started = started
  offers_so (Some counts) (WithRecords summary records other end) started = started

  module _ {mid : PlayoutState} (source : InputForm) (packets : ℕ) (input : InputChange) (told : HeardInput)
      (h : PlaysInput source packets input x mid told) (ended_is : told.ended ≡ heard)
      (is_of : datagrams_in source packets h.given ≡ ds) where
    abbrev Taken : Answer → Type 0
    Taken answer = InputTaken form window packets source answer input (output x y) h.given

    tally_is : (tally : Tally) → tally ≡ tally_of window ds
        → tally ≡ tally_of window (datagrams_in source packets h.given)
    tally_is tally is = is ∙ ap (tally_of window) (sym is_of)

    -- to the end
    done_so : (tally : Tally) → (heard ≡ Ok tt) × HasEndedSince form window x.held x.asked y ds tally
        → (counts : Option RecordCounts) → counts ≡ records_in source packets h.given
        → Taken (with_record_counts counts (Done (Judged tally)))
    done_so tally c None none = record {
      end = None;
      reading = read_all packets input h (ended_is ∙ c.0);
      wrote = rw is_of c.1.wrote;
      counted = ap (λ (r : Option RecordCounts). counted_so r tally None) none
          ∙ ap (λ (t : Tally). counted_so (records_in source packets h.given) t None) (tally_is tally c.1.counted);
    }
    done_so tally c (Some counts) some = record {
      end = None;
      reading = read_all packets input h (ended_is ∙ c.0);
      wrote = rw is_of c.1.wrote;
      counted = ap (λ (r : Option RecordCounts). counted_so r tally None) some
          ∙ ap (λ (t : Tally). counted_so (records_in source packets h.given) t None) (tally_is tally c.1.counted);
    }

    -- up to an ending
    drained_so_far : (tally : Tally) (end : Ending) → (heard ≡ Err end) × (has_broken end ≡ false)
        × HasEndedSince form window x.held x.asked y ds tally
        → (counts : Option RecordCounts) → counts ≡ records_in source packets h.given
        → Taken (with_record_counts counts (Drained (Judged tally) end))
    drained_so_far tally end c None none = record {
      end = Some end;
      reading = read_until packets input h end c.1 (ended_is ∙ c.0);
      wrote = rw is_of c.2.wrote;
      counted = ap (λ (r : Option RecordCounts). counted_so r tally (Some end)) none
          ∙ ap (λ (t : Tally). counted_so (records_in source packets h.given) t (Some end)) (tally_is tally c.2.counted);
    }
    drained_so_far tally end c (Some counts) some = record {
      end = Some end;
      reading = read_until packets input h end c.1 (ended_is ∙ c.0);
      wrote = rw is_of c.2.wrote;
      counted = ap (λ (r : Option RecordCounts). counted_so r tally (Some end)) some
          ∙ ap (λ (t : Tally). counted_so (records_in source packets h.given) t (Some end)) (tally_is tally c.2.counted);
    }

    stopped_so : (end : Ending) → BreaksOff x y ds end → Taken (Stopped end)
    stopped_so NoMemory c = rw is_of (heard_part new c)
    stopped_so OutputFailed c = rw is_of (heard_part new c.0)
    stopped_so end c = absurd c

    stopped_with : (counts : Option RecordCounts) (end : Ending) → Taken (Stopped end)
        → Taken (with_record_counts counts (Stopped end))
    stopped_with None end t = t
    stopped_with (Some counts) end t = t

    ended : (answer : Answer) → CameTo form window x y ds heard answer
        → Taken (with_record_counts told.records answer)
    ended (Done (Judged tally)) c = done_so tally c told.records h.counted
    ended (Drained (Judged tally) end) c = drained_so_far tally end c told.records h.counted
    ended (Stopped end) c = stopped_with told.records end (stopped_so end c)
    ended answer c = absurd c

    by_counts : (counts : Option RecordCounts) (answer : Answer) → CameTo form window x y ds heard answer
        → has_failed_input (with_record_counts counts answer) → heard ≡ Err InputFailed
    by_counts None (Drained summary end) c failed =
        let is : end ≡ InputFailed = cc failed in drained_so form window x y ds heard summary end c ∙ ap Err is
    by_counts (Some counts) (Drained summary end) c failed =
        let is : end ≡ InputFailed = cc failed in drained_so form window x y ds heard summary end c ∙ ap Err is
    by_counts None (Done summary) c failed = absurd (cc failed)
    by_counts (Some counts) (Done summary) c failed = absurd (cc failed)
    by_counts None (Stopped end) c failed = absurd (cc failed)
    by_counts (Some counts) (Stopped end) c failed = absurd (cc failed)
    by_counts counts (WithRecords summary records other end) c failed = absurd c

    writing_did : (counts : Option RecordCounts) (answer : Answer) → CameTo form window x y ds heard answer
        → with_record_counts counts answer ≡ Stopped OutputFailed → HasRisen (output x y).faults
    writing_did None answer c is = output_did answer c is
    writing_did (Some counts) (Done summary) c is = absurd cc
    writing_did (Some counts) (Drained summary end) c is = absurd cc
    writing_did (Some counts) (Stopped end) c is = output_did (Stopped end) c is
    writing_did (Some counts) (WithRecords summary records other end) c is = absurd c

    input_taken : (answer : Answer) → CameTo form window x y ds heard answer
        → TakesInput form window workers packets source (with_record_counts told.records answer) input
        (output x y) (hands before y)
    input_taken answer c = record {
      given = h.given;
      took = h.took;
      ended = ended answer c;
      input_failed = λ failed. failed_so packets input h (ended_is ∙ by_counts told.records answer c failed);
      output_failed = writing_did told.records answer c;
      workers_started = rw is_of (offers_so told.records answer (workers_did answer c));
    }

  -- ---- a wire

  module _ {mid : PlayoutState} (packets sessions : ℕ) (at : Listening) (told listens after : WireTold)
      (i j k : ℕ) (is : listens ≡ begun_at at told) (later : i ≤ j)
      (h : HearsWire packets sessions (told_between listens after j k) x mid heard)
      (is_of : h.datagrams ≡ ds) where
    abbrev wire : WireChange
    wire = told_between told after i k

    passed : HeardAt at wire ds
    passed = rw (← is, ← is_of) h.given.passes

    judged : {tally : Tally} → HasEndedSince form window x.held x.asked y ds tally
        → IsJudged form window tally (output x y) ds
    judged e = record { wrote = e.wrote; tally_is = e.counted }

    drained : (tally : Tally) (end : Ending) → has_broken end ≡ false
        → WireHeard packets sessions (told_between listens after j k) x mid ds (Err end)
        → IsJudged form window tally (output x y) ds
        → RecvEnded form window packets sessions at (Drained (Judged tally) end) wire (output x y) ds
    drained tally WireFailed not so e = (inl passed, e)
    drained tally (PacketLimit limit) not so e = (passed, so.1, e)
    drained tally NoMemory not so e = absurd cc
    drained tally OutputFailed not so e = absurd cc
    drained tally end not so e = absurd so

    so : WireHeard packets sessions (told_between listens after j k) x mid ds heard
    so = rw is_of at h.heard

    wire_did : (answer : Answer) → CameTo form window x y ds heard answer
        → has_failed_wire answer → HasRisen wire.faults
    wire_did answer c failed =
        let drained = drained_so form window x y ds heard failed.0 WireFailed (rw failed.1 at c) in
        omega (arith, later, (rw drained at so).1)

    to_end : HeardToEnd packets sessions (told_between listens after j k) ds
        → HeardToEnd packets sessions wire ds
    to_end ended = subst (λ (t : WireTold). HeardToEnd packets sessions (told_between t after j k) ds) is ended

    recv_ended : HasHeard form x.receiver window [] → (answer : Answer)
        → CameTo form window x y ds heard answer
        → RecvEnded form window packets sessions at answer wire (output x y) ds
    recv_ended new (Done (Judged tally)) c = (passed, to_end (rw c.0 at so).1, judged c.1)
    recv_ended new (Drained (Judged tally) end) c = drained tally end c.1 (rw c.0 at so) (judged c.2)
    recv_ended new (Stopped NoMemory) c = (inl passed, heard_part new c)
    recv_ended new (Stopped OutputFailed) c = (passed, heard_part new c.0)
    recv_ended new (Stopped end) c = absurd c
    recv_ended new answer c = absurd c

-- all of an input was taken
pub took_input : (form : OutputForm) (window workers packets : ℕ) (source : InputForm) (input : InputChange)
    (before : Option Told) (x mid y : PlayoutState) (told : HeardInput) (answer : Answer)
    → HasHeard form x.receiver window [] → Grows before x.asked (starting workers (Ok tt))
    → PlaysInput source packets input x mid told → Concludes mid y told.ended answer
    → TakesInput form window workers packets source (with_record_counts told.records answer) input
    (output x y) (hands before y)
took_input form window workers packets source input before x mid y told answer new grew h c =
    input_taken form window workers before x y (datagrams_in source packets h.given) told.ended new grew source
    packets input told h refl refl
    answer (came_to y new told.ended hears breaks answer c)
  where
    hears : CanGoOn told.ended → Hears x mid (datagrams_in source packets h.given)
    hears can = so_hears (Hears x mid) (λ l fault. BreaksOff x mid l (fault_ending fault)) ⊥ input (datagrams_in source packets h.given)
        (λ end. InputEnded source packets end input h.given) told.ended can h.did

    breaks : (end : Ending) → has_broken end ≡ true → told.ended ≡ Err end
        → BreaksOff x mid (datagrams_in source packets h.given) end
    breaks end broken is =
        let b = so_breaks (Hears x mid) (λ l fault. BreaksOff x mid l (fault_ending fault)) ⊥ input (datagrams_in source packets h.given)
        (λ end. InputEnded source packets end input h.given) end broken (rw is at h.did) in
        rw b.1 b.2

-- what was lent comes back as it was left
module _ (O P : Type 0) (held : O → Option (List ℕ)) (faults : O → ℕ) (asked : P → Option Told)
    (o_old o_first o_left o_end : O) (p_old p_left p_end : P) where
  pub input_back : (form : OutputForm) (window workers packets : ℕ) (source : InputForm)
      (input : InputChange) (answer : Answer) → TakesInput form window workers packets source answer input
      (output_of held faults o_first o_left) (changed asked p_old p_left)
      → o_first ≡ o_old → o_end ≡ o_left → p_end ≡ p_left
      → TakesInput form window workers packets source answer input
      (output_of held faults o_old o_end) (changed asked p_old p_end)
  input_back form window workers packets source input answer took first o_is p_is =
      rw (← first, o_is, p_is) took

  module _ (N : Type 0) (told : N → WireTold) (wire_faults : N → ℕ) (n_old n_left n_end : N) where
    pub datagrams_back : (fill : Bool) (window workers packets sessions : ℕ) (at : Listening) (answer : Answer)
        → ReceivesFrom fill window workers packets sessions at answer (wire_of told wire_faults n_old n_left)
        (output_of held faults o_first o_left) (changed asked p_old p_left)
        → o_first ≡ o_old → o_end ≡ o_left → p_end ≡ p_left → n_end ≡ n_left
        → ReceivesFrom fill window workers packets sessions at answer (wire_of told wire_faults n_old n_end)
        (output_of held faults o_old o_end) (changed asked p_old p_end)
    datagrams_back fill window workers packets sessions at answer took first o_is p_is n_is =
        rw (← first, o_is, p_is, n_is) took

-- all of a wire's datagrams were
pub took_datagrams : (fill : Bool) (window workers packets sessions : ℕ) (at : Listening) (told listens after : WireTold)
    (i j k : ℕ) (before : Option Told) (x mid y : PlayoutState) (heard : Result (Unit {0}) Ending)
    (answer : Answer) → HasHeard (frames_form fill) x.receiver window []
    → Grows before x.asked (starting workers (Ok tt))
    → listens ≡ begun_at at told → i ≤ j
    → HearsWire packets sessions (told_between listens after j k) x mid heard
    → Concludes mid y heard answer
    → ReceivesFrom fill window workers packets sessions at answer (told_between told after i k)
    (output x y) (hands before y)
took_datagrams fill window workers packets sessions at told listens after i j k before x mid y heard answer new
    grew is later h c =
    let wire = told_between listens after j k in
    let came = came_to y new heard
    (λ can. wire_hears packets sessions wire x mid h.datagrams heard can h.heard)
    (λ end broken ended. wire_breaks packets sessions wire x mid h.datagrams end broken
    (rw ended at h.heard)) answer c in
    record {
      heard = h.datagrams;
      few = h.few;
      ended = recv_ended (frames_form fill) window workers before x y h.datagrams heard new grew packets sessions
          at told listens after i j k is later h refl new answer came;
      wire_failed = wire_did (frames_form fill) window workers before x y h.datagrams heard new grew packets
          sessions at told listens after i j k is later h refl answer came;
      output_failed = output_did (frames_form fill) window workers before x y h.datagrams heard new grew answer came;
      workers_started = workers_did (frames_form fill) window workers before x y h.datagrams heard new grew
          answer came;
    }

-- ---- nothing was begun

-- no workers were started
pub not_started : (form : OutputForm) (window workers packets : ℕ) (source : InputForm)
    (input : InputChange) (output : OutputChange) (hands : Change (Option Told)) → Stays input.left
    → Stays output.held → Stays hands
    → TakesInput form window workers packets source (Stopped NoMemory) input output hands
not_started form window workers packets source input output hands input_stays output_stays hands_stay = record {
  given = [];
  took = rw input_stays (Gave-none input.left.before);
  ended = rw output_stays (GrewBySome-none output.held.before _);
  input_failed = λ failed. absurd (cc failed);
  output_failed = λ failed. absurd cc;
  workers_started = inr hands_stay;
}

-- there was no memory
pub not_begun : (fill : Bool) (window workers packets sessions : ℕ) (at : Listening) (wire : WireChange)
    (output : OutputChange) (hands : Change (Option Told)) → Stays wire.told → Stays output.held
    → HasStarted workers hands ⊎ Stays hands
    → ReceivesFrom fill window workers packets sessions at (Stopped NoMemory) wire output hands
not_begun fill window workers packets sessions at wire output hands wire_stays output_stays at_most = record {
  heard = [];
  few = omega arith;
  ended = (inr (refl, wire_stays), rw output_stays (GrewBySome-none output.held.before _));
  wire_failed = λ failed. absurd (cc failed.1);
  output_failed = λ failed. absurd cc;
  workers_started = at_most;
}

nothing_written : (fill : Bool) (window : ℕ) → due_in_all (frames_form fill) window [] ≡ []
unfolding full_output all_output filled_output all_filled
nothing_written false window = refl
nothing_written true window = refl

nothing_counted : (window : ℕ) → no_counts ≡ tally_of window []
unfolding tally_of with_sessions outcomes_behind
nothing_counted window = refl

-- the wire didn't come to listen
pub not_listening : (fill : Bool) (window workers packets sessions : ℕ) (at : Listening) (wire : WireChange)
    (output : OutputChange) (before after : Option Told) (tally : Tally) → Stays wire.told
    → Stays output.held → tally ≡ no_counts → HasRisen wire.faults
    → Grows before after (starting workers (Ok tt))
    → ReceivesFrom fill window workers packets sessions at (Drained (Judged tally) WireFailed) wire output
    (record { before = before; after = after })
not_listening fill window workers packets sessions at wire output before after tally wire_stays output_stays none
    rose grew = record {
      heard = [];
      few = omega arith;
      ended = (
        inr (refl, wire_stays),
        record {
          wrote = rw (nothing_written fill window, output_stays) (Grew-none output.held.before);
          tally_is = none ∙ nothing_counted window;
        },
      );
      wire_failed = λ failed. rose;
      output_failed = λ failed. absurd cc;
      workers_started = gave_work grew (nothing_offered window after);
    }
