-- What recording came to, by what its loop did and what the command said of it.
use Rattle.std.proofs.Common.{◌≡◌, ℕ, ◌-◌, ◌≤◌, true, false, List, [], length, Err, refl, sym, ap, ◌∙◌, subst, arith, inl, inr}
use Rattle.std.specs.Prelude.{Result}
use Rattle.std.proofs.lemmas.Bool.{false≢true}
use Rattle.link_hearing.specs.FromWire.{HeardAt, HeardToEnd, Listening, begun_at}
use Rattle.link_hearing.specs.Hearing.{has_broken}
use Rattle.link_hearing.specs.Sessions.{ended_sessions}
use Rattle.link_outside.specs.Passing.{Passes}
use Rattle.link_report.specs.declared.answer.Answer.{Answer}
use Rattle.link_report.specs.declared.answer.Answer.TheVariants.{Done, Stopped, Drained, WithRecords}
use Rattle.link_report.specs.declared.ending.Ending.{Ending}
use Rattle.link_report.specs.declared.ending.Ending.TheVariants.{NoMemory, OutputFailed, PacketLimit, WireFailed}
use Rattle.link_report.specs.declared.summary.Summary.{Summary}
use Rattle.link_report.specs.declared.summary.Summary.TheVariants.{Recorded}
use Rattle.vc_ports.proofs.Growing.{Grew-none}
use Rattle.vc_ports.specs.Changes.{OutputChange, WireChange, HasRisen, Stays}
use Rattle.vc_ports.specs.Wires.{WireTold}
use Rattle.cmd_record.proofs.RecordLoop.{told_between}
use Rattle.cmd_record.specs.Recorders.{HasCounted, HasRecorded, RecordedUntil, RecordsEach, StopsRecording, WereKept, counts_of}
use Rattle.cmd_record.specs.Recording.{IsRecorded, RecordEnded, Records}
use Rattle.cmd_record.specs.declared.recorder.Recorder.{Recorder}

counts_are : (r : Recorder) (sessions : ℕ) (heard : List (List ℕ)) → HasCounted r sessions heard
    → counts_of r ≡ Recorded (length heard) (ended_sessions heard)
counts_are r sessions heard counted =
    let ended : r.sessions - r.watch.left ≡ ended_sessions heard = omega (arith, counted.sessions_are, counted.watches.left_are) in
    ap (λ (n : ℕ). Recorded n (r.sessions - r.watch.left)) counted.datagrams_are
    ∙ ap (λ (n : ℕ). Recorded (length heard) n) ended

is_recorded : (r : Recorder) (sessions : ℕ) (wire since : WireChange) (output : OutputChange) (heard : List (List ℕ)) (summary : Summary)
    → HasRecorded r sessions wire output heard → WereKept since heard → summary ≡ counts_of r → IsRecorded summary since output heard
is_recorded r sessions wire since output heard summary has kept is = record {
  wrote = has.wrote;
  kept = kept;
  summary_is = is ∙ counts_are r sessions heard has.counted;
}

module _ (packets sessions : ℕ) (at : Listening) (told listens after : WireTold) (i j k : ℕ) (output : OutputChange) (r : Recorder)
    (result : Result (Unit {0}) Ending) (is : listens ≡ begun_at at told) (later : i ≤ j)
    (e : RecordsEach packets sessions r result (told_between listens after j k) output) where
  abbrev wire : WireChange
  wire = told_between told after i k

  abbrev Until : Result (Unit {0}) Ending → Type 0
  Until did = RecordedUntil packets sessions r did (told_between listens after j k) output e.heard

  gave : HeardAt at wire e.heard
  gave = subst (λ (t : WireTold). Passes t after [] e.heard) is e.gave

  recorded : (summary : Summary) → HasRecorded r sessions (told_between listens after j k) output e.heard → summary ≡ counts_of r
      → IsRecorded summary wire output e.heard
  recorded summary has counts =
      let kept = subst (λ (t : WireTold). WereKept (told_between t after i k) e.heard) is has.kept in
      is_recorded r sessions (told_between listens after j k) wire output e.heard summary has kept counts

  to_end : HeardToEnd packets sessions (told_between listens after j k) e.heard → HeardToEnd packets sessions wire e.heard
  to_end ended = subst (λ (t : WireTold). HeardToEnd packets sessions (told_between t after j k) e.heard) is ended

  by_end : (end : Ending) (summary : Summary) → has_broken end ≡ false → summary ≡ counts_of r → Until (Err end)
      → RecordEnded packets sessions at (Drained summary end) wire output e.heard
  by_end (PacketLimit limit) summary not counts u = (gave, u.0, recorded summary u.1 counts)
  by_end WireFailed summary not counts u = (inl gave, recorded summary u.1 counts)
  by_end OutputFailed summary not counts u = absurd (false≢true (sym not))
  by_end end summary not counts u = absurd u

  by_stop : (end : Ending) → has_broken end ≡ true → Until (Err end)
      → RecordEnded packets sessions at (Stopped end) wire output e.heard
  by_stop OutputFailed broken u = (gave, u.1)
  by_stop (PacketLimit limit) broken u = absurd (false≢true broken)
  by_stop WireFailed broken u = absurd (false≢true broken)
  by_stop end broken u = absurd u

  by_answer : (answer : Answer) → StopsRecording r result answer → RecordEnded packets sessions at answer wire output e.heard
  by_answer (Done summary) s =
      let u = subst Until s.0 e.ended in (gave, to_end u.0, recorded summary u.1 s.1)
  by_answer (Drained summary end) s = by_end end summary s.1 s.2 (subst Until s.0 e.ended)
  by_answer (Stopped end) s = by_stop end s.1 (subst Until s.0 e.ended)
  by_answer (WithRecords summary records other end) s = absurd s

  pub recorded_until : (answer : Answer) → StopsRecording r result answer
      → Records packets sessions at answer wire output
  recorded_until answer s = record {
    heard = e.heard;
    few = e.few;
    ended = by_answer answer s;
    wire_failed = λ failed.
        let stops = subst (StopsRecording r result) failed.1 s in
        let u = subst Until stops.0 e.ended in omega (arith, later, u.0);
    output_failed = λ failed.
        let stops = subst (StopsRecording r result) failed s in
        let u = subst Until stops.0 e.ended in u.0;
  }

-- ---- nothing was begun

-- there was no memory
pub not_begun : (packets sessions : ℕ) (at : Listening) (wire : WireChange) (output : OutputChange) → Stays wire.told
    → Stays output.held → Records packets sessions at (Stopped NoMemory) wire output
not_begun packets sessions at wire output wire_stays output_stays = record {
  heard = [];
  few = omega arith;
  ended = (refl, wire_stays, output_stays);
  wire_failed = λ failed. absurd (cc failed.1);
  output_failed = λ failed. absurd cc;
}

-- the wire didn't come to listen
pub not_listening : (packets sessions : ℕ) (at : Listening) (wire : WireChange) (output : OutputChange) (r : Recorder) (summary : Summary)
    → Stays wire.told → Stays output.held → HasRisen wire.faults → summary ≡ counts_of r → HasCounted r r.sessions []
    → Records packets sessions at (Drained summary WireFailed) wire output
not_listening packets sessions at wire output r summary wire_stays output_stays rose is counted = record {
  heard = [];
  few = omega arith;
  ended = (
    inr (refl, wire_stays),
    record {
      wrote = rw output_stays (Grew-none output.held.before);
      kept = rw wire_stays (record { least = omega arith; most = omega arith });
      summary_is = is ∙ counts_are r r.sessions [] counted;
    },
  );
  wire_failed = λ failed. rose;
  output_failed = λ failed. absurd cc;
}
