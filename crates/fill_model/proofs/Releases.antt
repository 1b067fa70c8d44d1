-- A release: what the receiver writes of a picture is its frame, by its number.
use Rattle.std.proofs.Common.{◌≡◌, ℕ, Bool, true, false, refl, ap, sym, ◌∙◌, List, [], ◌∷◌}
use Rattle.std.proofs.Common.{Option, Some, None, arith}
use Rattle.std.specs.Prelude.{is_some}
use Rattle.std.specs.Option.{option_map_or}
use Rattle.std.proofs.lemmas.Bool.{false≢true}
use Rattle.machine_model.specs.Feeders.{Feeder}
use Rattle.link_model.specs.Judgement.{has_frame}
use Rattle.link_model.specs.Numbers.{Numbered}
use Rattle.link_model.specs.Output.{frame_at, frame_bytes_at, raw_bytes}
use Rattle.link_model.specs.Session.{HeardSession}
use Rattle.link_model.specs.Windows.{WindowPast, releasable_numbers, first_of, as_releasable}
use Rattle.link_model.specs.declared.tally.Tally.{Tally}
use Rattle.receiver_model.specs.Receptions.{StandingSession, Reception}
use Rattle.receiver_model.specs.Releasing.{released_planes, released_frame, one_if, bytes_from}
use Rattle.receiver_model.specs.Standing.{with_released}
use Rattle.receiver_model.proofs.ReleaseLists.{count_push}
use Rattle.receiver_model.proofs.Releases.{works_then, bytes_are}
use Rattle.receiver_model.proofs.Working.{IsWorking}
use Rattle.vc_types.specs.Planes.{Planes}
use Rattle.vc_types.specs.SequenceHeader.{Sequence}
use Rattle.fill_model.specs.Filled.{WrittenFrame}
use Rattle.fill_model.specs.FilledSessions.{frame_number, written_frame, frame_written}
use Rattle.fill_model.specs.ReleasedFrames.{frame_from, released_frames}

same_ones : (a b : Bool) → one_if a ≡ one_if b → a ≡ b
same_ones a b e = grind arith

same_written : (s : Sequence) (n : ℕ) (a b : Option Planes) → is_some a ≡ is_some b
    → raw_bytes s a ≡ raw_bytes s b → written_frame s n a ≡ written_frame s n b
same_written s n None None there bytes = refl
same_written s n None (Some b) there bytes = absurd (false≢true there)
same_written s n (Some a) None there bytes = absurd (false≢true (sym there))
same_written s n (Some a) (Some b) there bytes = ap (λ (l : List ℕ).
    (let frame : WrittenFrame = record { number = frame_number s n; bytes = l } in frame ∷ [])) bytes

module _ (r : Reception) (size : ℕ) (f : Feeder) (hs : List HeardSession) (p : WindowPast)
    (st : StandingSession) (t : Tally) (works : IsWorking r size f hs p st t)
    (n : ℕ) (next : first_of (releasable_numbers p) ≡ Some n) where
  abbrev s : Sequence
  s = p.sequence

  abbrev es : List Numbered
  es = p.entries

  abbrev frame : Option Planes
  frame = released_frame st.session.sequence r.field n (released_planes r.answers st.window n)

  -- the receiver counts a frame exactly where there is one
  counted_frame : one_if (is_some frame) ≡ one_if (has_frame s es n)
  unfolding with_released
  counted_frame =
      let then = ap (λ (c : Tally). c.frames) (works_then r size f hs p st t works n next).counted in
      let before = ap (λ (c : Tally). c.frames) works.counted in
      omega (arith, then, before, count_push (has_frame s es) p.released n)

  frame_is : is_some frame ≡ is_some (frame_at s es n)
  frame_is = same_ones (is_some frame) (is_some (frame_at s es n)) counted_frame

  bytes_same : raw_bytes s frame ≡ raw_bytes s (frame_at s es n)
  unfolding frame_bytes_at
  bytes_same =
      ap (λ (q : Sequence). raw_bytes q frame) (sym works.sequence)
      ∙ sym (ap (λ (o : Option StandingSession). option_map_or (bytes_from r n) o []) works.stands)
      ∙ bytes_are r size f hs p st t works n next

  pub frames_are : released_frames r (as_releasable p n) ≡ frame_written s es n
  frames_are =
      ap (λ (o : Option StandingSession). option_map_or (frame_from r n) o []) works.stands
      ∙ ap (λ (q : Sequence). written_frame q n frame) works.sequence
      ∙ same_written s n frame (frame_at s es n) frame_is bytes_same
