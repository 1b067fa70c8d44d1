-- Where no fault came, a capture of at most so many entries that ends at an edge, each short enough to be sent, is
-- replayed to its end, unless memory runs out.
use Rattle.std.proofs.Common.{◌≡◌, ℕ, zero, suc, ◌<◌, List, [], ◌∷◌, ◌++◌, length, Option, Some, None, IsSomeAnd, refl, ap, ◌∙◌, subst, arith, inl, inr, append_assoc}
use Rattle.std.specs.Prelude.{◌⊎◌}
use Rattle.link_capture.proofs.Entries.{within-part}
use Rattle.link_capture.proofs.Heads.{first_entry-append}
use Rattle.link_capture.specs.Capture.{entries_within, first_entry}
use Rattle.link_hearing.proofs.WholeCaptures.{cut_by, past_by}
use Rattle.link_hearing.specs.Capture.{IsWholeCapture, capture_split}
use Rattle.link_report.specs.Answers.{answer_status}
use Rattle.link_report.specs.declared.answer.Answer.{Answer}
use Rattle.link_report.specs.declared.answer.Answer.TheVariants.{Done, Stopped, Drained, WithRecords}
use Rattle.link_report.specs.declared.ending.Ending.TheVariants.{CaptureCut, InputFailed, NoMemory, PacketLimit, StreamBad, WireFailed}
use Rattle.vc_ports.proofs.Given.{behind_given}
use Rattle.vc_ports.specs.Changes.{InputChange, WireChange, HasRisen, Took}
use Rattle.cmd_record.specs.Replaying.{AreShort, IsReplayable, Replays}

-- ---- entries, and bytes behind them

abbrev BeginsWithAll : ℕ → List ℕ → List ℕ → Type 0
BeginsWithAll most bytes more = (rest : List (List ℕ)) × ((entries_within most (bytes ++ more)).0 ≡ (entries_within most bytes).0 ++ rest)

none_asked : (bytes : List ℕ) → entries_within zero bytes ≡ ([], bytes)
unfolding entries_within
none_asked bytes = refl

one_asked : (most : ℕ) (bytes : List ℕ) (first : List ℕ × List ℕ) → first_entry bytes ≡ Some first
    → entries_within (suc most) bytes ≡ (first.0 ∷ (entries_within most first.1).0, (entries_within most first.1).1)
unfolding entries_within
one_asked most bytes first is = rw is refl

front_of : (most : ℕ) (bytes more : List ℕ) → BeginsWithAll most bytes more
front_of zero bytes more = ((entries_within zero (bytes ++ more)).0, rw (none_asked bytes) refl)
front_of (suc most) bytes more = by_first (first_entry bytes) refl (λ rest. front_of most rest more)
  where
    by_first : (found : Option (List ℕ × List ℕ)) → first_entry bytes ≡ found → ((rest : List ℕ) → BeginsWithAll most rest more)
        → BeginsWithAll (suc most) bytes more
    by_first None is deeper = ((entries_within (suc most) (bytes ++ more)).0, rw (within-part (suc most) bytes is) refl)
    by_first (Some first) is deeper =
        let behind = deeper first.1 in (
          behind.0,
          rw (
            one_asked most bytes first is,
            one_asked most (bytes ++ more) (first.0, first.1 ++ more) (first_entry-append bytes more first is),
          ) (ap (λ (l : List (List ℕ)). first.0 ∷ l) behind.1),
        )

-- ---- none is too long

one_long : (others : List (List ℕ)) (last : List ℕ) (rest : List (List ℕ)) → AreShort (others ++ last ∷ rest) → 65507 < length last → ⊥
one_long [] last rest short long = omega (arith, short.0, long)
one_long (d ∷ others) last rest short long = one_long others last rest short.1 long

module _ (packets : ℕ) (to : List ℕ) (input : InputChange) (wire : WireChange) (sound_input : HasRisen input.faults → ⊥)
    (sound_wire : HasRisen wire.faults → ⊥) (replayable : IsSomeAnd input.left.before (IsReplayable packets)) where
  whole_of : (left : Option (List ℕ)) → IsSomeAnd left (IsReplayable packets) → IsSomeAnd left (IsWholeCapture packets)
  whole_of None is = is
  whole_of (Some bytes) is = is.whole

  whole : IsSomeAnd input.left.before (IsWholeCapture packets)
  whole = whole_of input.left.before replayable

  long_by : (given : List ℕ) → Took input given → (others : List (List ℕ)) (last : List ℕ)
      → (capture_split packets given).datagrams ≡ others ++ last ∷ [] → 65507 < length last → ⊥
  long_by given took others last are long =
      let behind = behind_given (IsReplayable packets) given input.left.before input.left.after took replayable in
      let front = front_of packets given behind.0 in
      let all : (capture_split packets (given ++ behind.0)).datagrams ≡ others ++ last ∷ front.0 =
      front.1 ∙ ap (λ (l : List (List ℕ)). l ++ front.0) are ∙ append_assoc others (last ∷ []) front.0 in
      one_long others last front.0 (subst AreShort all behind.2.short) long

  pub replay_completes : (answer : Answer) → Replays packets to answer input wire
      → (answer_status answer ≡ 0) ⊎ (answer_status answer ≡ 3)
  replay_completes (Done summary) r = inl refl
  replay_completes (Stopped NoMemory) r = inr refl
  replay_completes (Stopped WireFailed) r = absurd (sound_wire (r.wire_failed refl))
  replay_completes (Stopped end) r = absurd r.ended
  replay_completes (WithRecords summary records other end) r = absurd r.ended
  replay_completes (Drained summary (StreamBad place)) r =
      absurd (long_by r.given r.took r.ended.others r.ended.last r.ended.datagrams_are r.ended.too_long)
  replay_completes (Drained summary InputFailed) r = absurd (sound_input (r.input_failed (summary, refl)))
  replay_completes (Drained summary (CaptureCut place)) r =
      absurd (cut_by packets r.given input r.took whole r.ended.0.ended r.ended.0.part)
  replay_completes (Drained summary (PacketLimit limit)) r =
      absurd (past_by packets r.given input r.took whole limit r.ended.0)
  replay_completes (Drained summary end) r = absurd r.ended.0
