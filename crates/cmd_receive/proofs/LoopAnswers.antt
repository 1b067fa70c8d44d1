-- The whole command: workers are started, the wire listens and is aimed, frames are sent and heard, and the answer made.
use Rattle.std.proofs.Common.{◌≡◌, ℕ, ◌≤◌, true, false, List, [], length, take, Option, Ok, Err, refl, sym, ap, ◌∙◌, arith, inl, inr}
use Rattle.std.specs.Prelude.{Result, ◌⊎◌}
use Rattle.std.proofs.lemmas.Bool.{false≢true}
use Rattle.cmd_send.proofs.Carrying.{sends_at, sends_weaker}
use Rattle.cmd_send.specs.Sends.{SendsFrames}
use Rattle.link_model.specs.declared.tally.Tally.{Tally}
use Rattle.link_outside.specs.Passing.{Passes}
use Rattle.link_outside.specs.declared.outlet.OutletFault.{OutletFault}
use Rattle.link_outside.specs.declared.outlet.OutletFault.TheVariants as outlets
use Rattle.link_receiver.proofs.Hired.{started}
use Rattle.link_receiver.specs.HeardLists.{AsFrames}
use Rattle.link_receiver.specs.StartedWorkers.{HasStarted}
use Rattle.link_report.specs.declared.ending.Ending.{Ending}
use Rattle.link_report.specs.declared.ending.Ending.TheVariants as endings
use Rattle.link_report.specs.declared.summary.Summary.{Summary}
use Rattle.link_report.specs.declared.summary.Summary.TheVariants as summaries
use Rattle.vc_ports.specs.Changes.{Change, InputChange, OutputChange, WireChange, HasRisen, Stays, changed, output_of, wire_of}
use Rattle.vc_ports.specs.Faults.{Rose}
use Rattle.vc_ports.specs.Wires.{WireTold, listening}
use Rattle.vc_slice.specs.Asked.{Told, Grows, starting}
use Rattle.vc_types.specs.SenderSettings.{Sending}
use Rattle.cmd_receive.proofs.Asking.{nothing_offered}
use Rattle.cmd_receive.proofs.Concluded.{gave_work}
use Rattle.cmd_receive.proofs.Listened.{breaks_at_end, heard_all, heard_part}
use Rattle.cmd_receive.proofs.Outcomes.{Outcome, outcome_of}
use Rattle.cmd_receive.specs.Decoding.{HasGivenWork}
use Rattle.link_hearing.specs.Hearing.{has_broken}
use Rattle.cmd_receive.specs.HearingLaws.{so_far}
use Rattle.cmd_receive.specs.Exchanges.{BrokeBehind, HearsInTurn, LoopBroke, LoopState, WereLooped}
use Rattle.cmd_receive.specs.Playouts.{PlayoutState, BreaksOff, Drains, HasEndedSince, Hears}
use Rattle.cmd_receive.specs.Looping.{GivesWork, HasBegun, LoopWrote, LoopsBack, LoopsBetween, SentInTurn, SentSome}

-- ---- what was heard is fixed

abbrev pub Broke : (x y : LoopState) → (heard : List (List ℕ)) → List (List ℕ) → OutletFault → Type 0
Broke x y heard sent fault = (count : ℕ) × (count ≤ length sent) × BrokeBehind x y (take count sent) heard fault

abbrev pub Went : (x y : LoopState) → (heard : List (List ℕ)) → List (List ℕ) → Type 0
Went x y heard sent = HearsInTurn x y sent heard

pub fixed : (N : Type 0) (s : Sending) (most : ℕ) (input : InputChange) (x y : LoopState)
    (sending : Result Summary Ending)
    → SendsFrames s most sending input (λ ds. N × WereLooped x y ds) (λ ds fault. N × LoopBroke x y ds fault)
    → (heard : List (List ℕ)) × SendsFrames s most sending input (Went x y heard) (Broke x y heard)
fixed N s most input x y sending sent =
    sends_at (List (List ℕ)) s most input (λ ds. N × WereLooped x y ds) (Went x y)
    (λ ds fault. N × LoopBroke x y ds fault) (Broke x y)
    (λ ds w. (w.1.0, w.1.1)) (λ ds fault w. (w.1.given, (w.1.count, w.1.within, w.1.broke))) sending sent

module _ (s : Sending) (most : ℕ) (input : InputChange) (x y : LoopState) (heard : List (List ℕ))
    (sending : Result Summary Ending)
    (did : SendsFrames s most sending input (Went x y heard) (Broke x y heard)) where
  -- ---- what sending came to

  outcome_at : (answer : Result Summary Ending) → sending ≡ answer
      → Outcome (Went x y heard) (Broke x y heard) answer
  outcome_at answer is = rw is at
      (outcome_of (Went x y heard) (Broke x y heard) s most input sending did)

  abbrev pub Kept : Type 0
  Kept = Hears x.playout y.playout heard

  pub kept_all : (frames datagrams bytes : ℕ) → sending ≡ Ok (summaries.Sent frames datagrams bytes)
      → Kept
  kept_all frames datagrams bytes is =
      (outcome_at (Ok (summaries.Sent frames datagrams bytes)) is).1.hears

  pub kept : (end : Ending) → has_broken end ≡ false → sending ≡ Err end → Kept
  kept end not is = by_end end not (outcome_at (Err end) is)
    where
      by_end : (end : Ending) → has_broken end ≡ false
          → Outcome (Went x y heard) (Broke x y heard) (Err end) → Kept
      by_end endings.NoMemory not o = absurd cc
      by_end endings.OutputFailed not o = absurd cc
      by_end endings.WireFailed not o = o.1.2.1
      by_end end not o = o.1.hears

  pub breaks : (end : Ending) → has_broken end ≡ true → sending ≡ Err end
      → BreaksOff x.playout y.playout heard end
  breaks end broken is = by_end end broken (outcome_at (Err end) is)
    where
      by_end : (end : Ending) → has_broken end ≡ true
          → Outcome (Went x y heard) (Broke x y heard) (Err end)
          → BreaksOff x.playout y.playout heard end
      by_end endings.NoMemory broken (sent, inl went) = so_far went.hears
      by_end endings.NoMemory broken (sent, inr broke) = broke.2.1
      by_end endings.OutputFailed broken o = o.1.2.1
      by_end end broken o = absurd cc

  -- ---- the end of the receiver's input

  module _ (z : PlayoutState) where
    abbrev pub after : LoopState
    after = record { playout = z; told = y.told; wire_faults = y.wire_faults }

    module _ (window workers : ℕ) (at : List ℕ) (told : WireTold) (faults : ℕ) (asked : Option Told)
        (b : HasBegun window workers at told faults asked x) where
      abbrev wire : WireChange
      wire = record {
        told = record { before = told; after = y.told };
        faults = record { before = faults; after = y.wire_faults };
      }

      abbrev output : OutputChange
      output = record {
        held = record { before = x.playout.held; after = z.held };
        faults = record { before = x.playout.faults; after = z.faults };
      }

      abbrev hands : Change (Option Told)
      hands = record { before = asked; after = z.asked }

      passes_of : (first : List (List ℕ)) (fault : OutletFault) → BrokeBehind x y first heard fault
          → Passes x.told y.told first heard
      passes_of first outlets.Wire e = e.0.passes
      passes_of first outlets.Output e = e.0.passes
      passes_of first outlets.NoMemory e = e.0.passes

      sends : SendsFrames s most sending input (SentInTurn at wire heard) (SentSome at wire heard)
      sends = sends_weaker s most input (Went x y heard) (SentInTurn at wire heard)
          (Broke x y heard) (SentSome at wire heard)
          (λ ds w. record { passes = rw b.ready at w.exchanged.passes; in_turn = w.in_turn })
          (λ ds fault w. record {
            count = w.0;
            within = w.1;
            passes = rw b.ready at (passes_of (take w.0 ds) fault w.2);
          }) sending did

      broken : (end : Ending) → BreaksOff x.playout z heard end
          → LoopsBack s most window workers at (Err end) input output wire hands
      broken endings.NoMemory e = record {
        heard = heard;
        did = inl (record { sending = sending; sends = sends; wrote = heard_part b.new e });
        input_failed = λ is. absurd cc;
        output_failed = λ is. absurd cc;
        wire_failed = λ is. absurd cc;
        workers_started = inl (started workers asked x.playout.asked z.asked b.started e.goes.asked);
      }
      broken endings.OutputFailed e = record {
        heard = heard;
        did = inl (record { sending = sending; sends = sends; wrote = heard_part b.new e.0 });
        input_failed = λ is. absurd cc;
        output_failed = λ is. e.1;
        wire_failed = λ is. absurd cc;
        workers_started = started workers asked x.playout.asked z.asked b.started e.0.goes.asked;
      }
      broken end e = absurd e

      module _ {tally : Tally}
          (e : HasEndedSince AsFrames window x.playout.held x.playout.asked z heard tally) where
        worked : HasGivenWork window workers hands heard
        worked = gave_work b.started e.offered

        sent_all : (frames datagrams bytes : ℕ) → sending ≡ Ok (summaries.Sent frames datagrams bytes)
            → LoopsBack s most window workers at (Ok (summaries.Looped frames datagrams bytes tally))
            input output wire hands
        sent_all frames datagrams bytes is = record {
          heard = heard;
          did = inl (record {
            sending = sending;
            sends = sends;
            wrote = (is, record { wrote = e.wrote; tally_is = e.counted });
          });
          input_failed = λ same. absurd cc;
          output_failed = λ same. absurd cc;
          wire_failed = λ same. absurd cc;
          workers_started = worked;
        }

        wrote_by : (end : Ending) → has_broken end ≡ false → sending ≡ Err end
            → LoopWrote window sending (Err end) output heard
        wrote_by endings.NoMemory not is = absurd cc
        wrote_by endings.OutputFailed not is = absurd cc
        wrote_by end not is = (is, e.wrote)

        work_by : (end : Ending) → has_broken end ≡ false
            → GivesWork window workers (Err end) hands heard
        work_by endings.NoMemory not = absurd cc
        work_by endings.OutputFailed not = absurd cc
        work_by end not = worked

        rose_by_wire : sending ≡ Err endings.WireFailed → Rose faults y.wire_faults
        rose_by_wire is =
            let rose : Rose x.wire_faults y.wire_faults = (outcome_at (Err endings.WireFailed) is).1.2.2 in
            omega (arith, b.later, rose)

        stopped : (end : Ending) → has_broken end ≡ false → sending ≡ Err end
            → LoopsBack s most window workers at (Err end) input output wire hands
        stopped end not is = record {
          heard = heard;
          did = inl (record { sending = sending; sends = sends; wrote = wrote_by end not is });
          input_failed = λ same. did.input_failed (is ∙ same);
          output_failed = λ same.
              let out : end ≡ endings.OutputFailed = cc same in
              absurd (false≢true (sym not ∙ ap has_broken out));
          wire_failed = λ same. rose_by_wire (is ∙ same);
          workers_started = work_by end not;
        }

    pub broke_off : (end : Ending) → BreaksOff x.playout z heard end
        → LoopsBetween s most (Err end) input x after
    broke_off end e = λ window workers at told faults asked b.
        broken window workers at told faults asked b end e

    pub all_sent : (frames datagrams bytes : ℕ) (tally : Tally)
        → sending ≡ Ok (summaries.Sent frames datagrams bytes) → Drains y.playout z tally
        → (summary : Summary) → summary ≡ summaries.Looped frames datagrams bytes tally
        → LoopsBetween s most (Ok summary) input x after
    all_sent frames datagrams bytes tally is d summary same = λ window workers at told faults asked b.
        rw same (sent_all window workers at told faults asked b
        (d.since AsFrames window x.playout.held x.playout.asked heard
        (heard_all b.new (kept_all frames datagrams bytes is))) frames datagrams bytes is)

    pub all_stopped : (end : Ending) (tally : Tally) → has_broken end ≡ false → sending ≡ Err end
        → Drains y.playout z tally → (answer : Result Summary Ending) → answer ≡ Err end
        → LoopsBetween s most answer input x after
    all_stopped end tally not is d answer same = λ window workers at told faults asked b.
        rw same (stopped window workers at told faults asked b
        (d.since AsFrames window x.playout.held x.playout.asked heard
        (heard_all b.new (kept end not is))) end not is)

    module _ (end : Ending) (answer : Result Summary Ending) (same : answer ≡ Err end)
        (e : BreaksOff y.playout z [] end) where
      undrained : Kept → LoopsBetween s most answer input x after
      undrained k = rw same (broke_off end (breaks_at_end x.playout y.playout z heard end k e))

      pub sent_undrained : (frames datagrams bytes : ℕ)
          → sending ≡ Ok (summaries.Sent frames datagrams bytes)
          → LoopsBetween s most answer input x after
      sent_undrained frames datagrams bytes is = undrained (kept_all frames datagrams bytes is)

      pub stopped_undrained : (first : Ending) → has_broken first ≡ false → sending ≡ Err first
          → LoopsBetween s most answer input x after
      stopped_undrained first not is = undrained (kept first not is)

-- what was lent comes back as it was left
module _ (O N P : Type 0) (held : O → Option (List ℕ)) (output_faults : O → ℕ) (told : N → WireTold)
    (wire_faults : N → ℕ) (asked : P → Option Told) (s : Sending) (most window workers : ℕ)
    (at : List ℕ) (answer : Result Summary Ending) (input : InputChange)
    (output_old output_first output_left output_end : O) (wire_old wire_left wire_end : N)
    (hands_old hands_left hands_end : P) where
  pub given_back : LoopsBack s most window workers at answer input
      (output_of held output_faults output_first output_left)
      (wire_of told wire_faults wire_old wire_left) (changed asked hands_old hands_left)
      → output_first ≡ output_old → output_end ≡ output_left → wire_end ≡ wire_left → hands_end ≡ hands_left
      → LoopsBack s most window workers at answer input
      (output_of held output_faults output_old output_end)
      (wire_of told wire_faults wire_old wire_end) (changed asked hands_old hands_end)
  given_back loops first output_is wire_is hands_is =
      rw (← first, output_is, wire_is, hands_is) loops

-- ---- nothing was begun

module _ (s : Sending) (most window workers : ℕ) (at : List ℕ) (input : InputChange) (output : OutputChange)
    (wire : WireChange) (hands : Change (Option Told)) (unread : Stays input.left)
    (unwritten : Stays output.held) where
  -- there was no memory
  pub no_memory : Stays wire.told → HasStarted workers hands ⊎ Stays hands
      → LoopsBack s most window workers at (Err endings.NoMemory) input output wire hands
  no_memory same hands_so = record {
    heard = [];
    did = inr (record { unready = same; unread = unread; unwritten = unwritten; nothing = refl });
    input_failed = λ e. absurd cc;
    output_failed = λ e. absurd cc;
    wire_failed = λ e. absurd cc;
    workers_started = hands_so;
  }

  -- the wire didn't come to listen, or to aim
  pub no_wire : Stays wire.told ⊎ (wire.told.after ≡ listening wire.told.before at) → HasRisen wire.faults
      → Grows hands.before hands.after (starting workers (Ok tt))
      → LoopsBack s most window workers at (Err endings.WireFailed) input output wire hands
  no_wire so rose grew = record {
    heard = [];
    did = inr (record { unready = so; unread = unread; unwritten = unwritten; nothing = refl });
    input_failed = λ e. absurd cc;
    output_failed = λ e. absurd cc;
    wire_failed = λ e. rose;
    workers_started = gave_work grew (nothing_offered window hands.after);
  }
