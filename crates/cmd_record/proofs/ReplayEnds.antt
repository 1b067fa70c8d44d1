-- What replaying came to, by what was heard of the capture.
use Rattle.std.proofs.Common.{◌≡◌, ℕ, ◌+◌, ◌*◌, ◌≤◌, ◌<◌, ◌^◌, List, [], ◌∷◌, length, take, Option, Some, None, Ok, Err, refl, ap, ◌∙◌, subst, arith, inl, inr, length-append}
use Rattle.std.specs.Prelude.{Result, sum_by, ◌⊎◌}
use Rattle.std.proofs.lemmas.List.Sums.{sum_by-cons}
use Rattle.link_capture.proofs.Heads.{length-entry}
use Rattle.link_capture.specs.Capture.{entry}
use Rattle.link_hearing.specs.Capture.{CaptureSplit, HasEnded, ReadingEnded, capture_split}
use Rattle.link_hearing.specs.Inputs.{HeardSo, HearsInput}
use Rattle.link_hearing.specs.declared.form.InputForm.TheVariants.{Capture}
use Rattle.link_hearing.specs.declared.heard.HeardInput.{HeardInput}
use Rattle.link_outside.specs.Outlets.{capture_of}
use Rattle.link_outside.specs.Passing.{Passes}
use Rattle.link_report.specs.declared.answer.Answer.{Answer}
use Rattle.link_report.specs.declared.answer.Answer.TheVariants.{Stopped, Drained}
use Rattle.link_report.specs.declared.ending.Ending.{Ending}
use Rattle.link_report.specs.declared.ending.Ending.TheVariants.{InputFailed, NoMemory, OutputFailed, StreamBad, WireFailed}
use Rattle.link_report.specs.declared.summary.Summary.{Summary}
use Rattle.link_report.specs.declared.summary.Summary.TheVariants.{Replayed}
use Rattle.vc_ports.proofs.Given.{Gave-none}
use Rattle.vc_ports.specs.Changes.{InputChange, WireChange, HasRisen, Stays, wire_of}
use Rattle.vc_ports.specs.Wires.{WireTold, aiming}
use Rattle.cmd_record.specs.Replayers.{ReplayState, BreaksOff, DoesNotSendAgain, SendsAgain, counts_of, replay_answer, unsent_answer}
use Rattle.cmd_record.specs.Replaying.{IsReplayed, ReplayEnded, Replays, SentTo, has_failed_input}

-- an entry has two bytes more than its datagram
capture_length : (ds : List (List ℕ)) → length (capture_of ds) ≡ sum_by length ds + 2 * length ds
capture_length [] = refl
capture_length (d ∷ ds) =
    let whole : length (capture_of (d ∷ ds)) ≡ length (entry d) + length (capture_of ds) = length-append (entry d) (capture_of ds) in
    omega (arith, whole, length-entry d, capture_length ds, sum_by-cons length d ds)

-- ---- by what was heard

module _ (packets : ℕ) (to : List ℕ) (input : InputChange) (told : WireTold) (i : ℕ) (x y : ReplayState)
    (aimed : x.told ≡ aiming told to) (later : i ≤ x.faults) (no_datagrams : x.datagrams ≡ 0) (no_bytes : x.bytes ≡ 0)
    (small : packets < 2 ^ 32) (heard : HeardInput)
    (h : HearsInput Capture packets input (SendsAgain x y) (BreaksOff x y) (2 ^ 32 ≤ y.datagrams) heard) where
  abbrev wire : WireChange
  wire = record {
    told = record { before = told; after = y.told };
    faults = record { before = i; after = y.faults };
  }

  abbrev s : CaptureSplit
  s = capture_split packets h.given

  abbrev Did : Result (Unit {0}) Ending → Type 0
  Did did = HeardSo s.datagrams (λ end. ReadingEnded packets end input s) input (SendsAgain x y) (BreaksOff x y) (2 ^ 32 ≤ y.datagrams) did

  sent_to : (sent : List (List ℕ)) → Passes x.told y.told sent [] → SentTo to wire sent
  sent_to sent passes = subst (λ (t : WireTold). Passes t y.told sent []) aimed passes

  replayed : (sent : List (List ℕ)) → SendsAgain x y sent → IsReplayed to (counts_of y) wire sent
  replayed sent p =
      let count : y.datagrams ≡ length sent = omega (arith, p.datagrams_are, no_datagrams) in
      let bytes : y.bytes ≡ sum_by length sent = omega (arith, p.bytes_are, no_bytes) in
      record {
        went = sent_to sent p.sent.passes;
        summary_is = ap (λ (n : ℕ). Replayed n y.bytes) count ∙ ap (λ (n : ℕ). Replayed (length sent) n) bytes;
      }

  -- a replayer never has enough of so few
  to_its_end : SendsAgain x y s.datagrams → ReadingEnded packets None input s ⊎ (2 ^ 32 ≤ y.datagrams) → HasEnded input s
  to_its_end p (inl ended) = ended
  to_its_end p (inr enough) = absurd (omega (arith, h.few, p.datagrams_are, no_datagrams, enough, small))

  unsent : (long_at : Option ℕ) → DoesNotSendAgain long_at x y s.datagrams → ReplayEnded packets to (unsent_answer long_at (counts_of y)) input wire s
  unsent None p = inl (record { count = p.count; within = p.within; went = sent_to (take p.count s.datagrams) p.passes })
  unsent (Some place) p = record {
    others = p.others;
    last = p.last;
    datagrams_are = p.are;
    too_long = p.too_long;
    begins = omega (arith, p.place_is, p.sends.datagrams_are, no_datagrams, p.sends.bytes_are, no_bytes, capture_length p.others);
    replayed = replayed p.others p.sends;
  }

  by_result : (did : Result (Unit {0}) Ending) → heard.ended ≡ did → ReplayEnded packets to (replay_answer y did) input wire s
  by_result (Ok done) is =
      let d : Did (Ok done) = subst Did is h.did in (to_its_end d.0 d.1, replayed s.datagrams d.0)
  by_result (Err NoMemory) is =
      let p : Did (Err NoMemory) = subst Did is h.did in
      record { most = p.most; lost = p.lost; datagrams_are = p.are; few = p.few; went = sent_to p.most p.sends.sent.passes }
  by_result (Err OutputFailed) is = unsent y.long_at (subst Did is h.did)
  by_result (Err (StreamBad place)) is =
      let d : Did (Err (StreamBad place)) = subst Did is h.did in absurd d.1
  by_result (Err end) is =
      let d : Did (Err end) = subst Did is h.did in (d.1, replayed s.datagrams d.0)

  -- ---- what failed

  not_input : (long_at : Option ℕ) (counts summary : Summary) → unsent_answer long_at counts ≡ Drained summary InputFailed → ⊥
  not_input None counts summary is = absurd cc
  not_input (Some place) counts summary is = absurd cc

  by_input : (did : Result (Unit {0}) Ending) → heard.ended ≡ did → has_failed_input (replay_answer y did) → HasRisen input.faults
  by_input (Err InputFailed) is failed =
      let d : Did (Err InputFailed) = subst Did is h.did in d.2 refl
  by_input (Ok done) is failed = absurd (cc failed.1)
  by_input (Err NoMemory) is failed = absurd (cc failed.1)
  by_input (Err OutputFailed) is failed = absurd (not_input y.long_at (counts_of y) failed.0 failed.1)
  by_input (Err end) is failed = absurd (cc failed.1)

  wire_rose : (long_at : Option ℕ) → DoesNotSendAgain long_at x y s.datagrams → unsent_answer long_at (counts_of y) ≡ Stopped WireFailed → HasRisen wire.faults
  wire_rose None p is = omega (arith, later, p.rose)
  wire_rose (Some place) p is = absurd cc

  by_wire : (did : Result (Unit {0}) Ending) → heard.ended ≡ did → replay_answer y did ≡ Stopped WireFailed → HasRisen wire.faults
  by_wire (Err OutputFailed) is failed = wire_rose y.long_at (subst Did is h.did) failed
  by_wire (Ok done) is failed = absurd (cc failed)
  by_wire (Err NoMemory) is failed = absurd (cc failed)
  by_wire (Err end) is failed = absurd (cc failed)

  pub replays : Replays packets to (replay_answer y heard.ended) input wire
  replays = record {
    given = h.given;
    took = h.took;
    ended = by_result heard.ended refl;
    input_failed = by_input heard.ended refl;
    wire_failed = by_wire heard.ended refl;
  }

-- what was lent comes back as it was left
pub wire_back : {N : Type 0} (told : N → WireTold) (faults : N → ℕ) (old left end : N) (packets : ℕ) (to : List ℕ) (answer : Answer)
    (input : InputChange) → Replays packets to answer input (wire_of told faults old left) → end ≡ left
    → Replays packets to answer input (wire_of told faults old end)
wire_back told faults old left end packets to answer input r is = rw is r

-- it couldn't be aimed
pub not_aimed : (packets : ℕ) (to : List ℕ) (input : InputChange) (wire : WireChange) → Stays input.left → Stays input.faults
    → Stays wire.told → HasRisen wire.faults → Replays packets to (Stopped WireFailed) input wire
not_aimed packets to input wire unread sound untouched rose = record {
  given = [];
  took = rw unread (Gave-none input.left.before);
  ended = inr (record { unread = unread; sound = sound; untouched = untouched });
  input_failed = λ failed. absurd (cc failed.1);
  wire_failed = λ failed. rose;
}
