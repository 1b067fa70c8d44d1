-- A picture more: what is kept, and what is written.
use Rattle.std.proofs.Common.{◌≡◌, ℕ, Bool, true, false, List, [], ◌∷◌, ◌++◌, length, map, Option, Some, None, refl, sym, ap, ◌∙◌, arith}
use Rattle.std.proofs.lemmas.List.{map-append}
use Rattle.std.specs.Prelude.{if◌then◌else◌}
use Rattle.std.proofs.lemmas.List.Concat.{flat_map-append}
use Rattle.std.proofs.lemmas.Grind.{common_steps}
use Rattle.vc_types.specs.RawFrames.{is_wide, frame_bytes}
use Rattle.vc_types.specs.Planes.{Planes}
use Rattle.vc_types.specs.SequenceHeader.{Sequence, picture_shape}
use Rattle.vc_types.specs.declared.presentation.Presentation.{Presentation}
use Rattle.cmd_stream.specs.declared.coding.Coding.{Coding}
use Rattle.cmd_stream.specs.Stream.{Stream, StreamPicture, begun_with, with_picture, paired_frames, stream_frames, raw_frames, played}
use Rattle.cmd_stream.specs.PlaySteps.{PlayState, completed, next_waiting, new_frames, shown, waiting_in, stream_state}
use Rattle.cmd_stream.proofs.Following.{paired-more, waiting-more}

abbrev frames_with : Sequence → Bool → List StreamPicture → List Planes
frames_with s fields pictures = if fields then paired_frames s.top_first pictures else map (λ q. q.planes) pictures

abbrev waiting_with : Bool → List StreamPicture → Option StreamPicture
waiting_with fields pictures = if fields then waiting_in pictures else None

module _ (s : Sequence) (p : StreamPicture) where
  abbrev new_with : Bool → Option StreamPicture → List Planes
  new_with fields waiting = if fields then completed s waiting p else p.planes ∷ []

  frames-by : (fields : Bool) (pictures : List StreamPicture) → frames_with s fields (pictures ++ p ∷ []) ≡ frames_with s fields pictures ++ new_with fields (waiting_with fields pictures)
  frames-by true pictures = paired-more s p pictures
  frames-by false pictures = map-append (λ (q : StreamPicture). q.planes) pictures (p ∷ [])

  waiting-by : (fields : Bool) (pictures : List StreamPicture) → (if fields then next_waiting (waiting_with fields pictures) p else waiting_with fields pictures) ≡ waiting_with fields (pictures ++ p ∷ [])
  waiting-by true pictures = sym (waiting-more s p pictures)
  waiting-by false pictures = refl

module _ (stream : Stream) (p : StreamPicture) where
  -- the frames that it brings come last
  pub frames-more : stream_frames (with_picture stream p) ≡ stream_frames stream ++ new_frames stream.sequence (stream_state stream).waiting p
  frames-more = frames-by stream.sequence p stream.sequence.fields stream.pictures

  same_kept : (c : Coding) (s : Sequence) (p : Presentation) (w v : Option StreamPicture) (n m f g : ℕ) → w ≡ v → n ≡ m → f ≡ g
      → ◌≡◌ {A = PlayState} (record { coding = c; sequence = s; presentation = p; waiting = w; pictures = n; frames = f }) (record { coding = c; sequence = s; presentation = p; waiting = v; pictures = m; frames = g })
  same_kept c s p w v n m f g e h i = rw (e, h, i) refl

  pub shown-kept : shown (stream_state stream) p ≡ stream_state (with_picture stream p)
  shown-kept = grind (arith, common_steps, frames-more, same_kept, waiting-by)

  -- and their bytes
  pub played-more : played (Some (with_picture stream p)) ≡ played (Some stream) ++ raw_frames stream.sequence (new_frames stream.sequence (stream_state stream).waiting p)
  played-more =
      ap (raw_frames stream.sequence) frames-more
      ∙ flat_map-append (λ frame. frame_bytes frame (is_wide (picture_shape stream.sequence))) (stream_frames stream) (new_frames stream.sequence (stream_state stream).waiting p)

-- ---- no picture yet

abbrev none_of : Coding → Sequence → Presentation → Option StreamPicture → ℕ → PlayState
none_of c s p waiting frames = record { coding = c; sequence = s; presentation = p; waiting = waiting; pictures = 0; frames = frames }

begun-by : (c : Coding) (s : Sequence) (p : Presentation) (fields : Bool) → none_of c s p None 0 ≡ none_of c s p (waiting_with fields []) (length (frames_with s fields []))
unfolding paired_frames waiting_in
begun-by c s p true = refl
begun-by c s p false = refl

pub begun : (c : Coding) (s : Sequence) (p : Presentation) → none_of c s p None 0 ≡ stream_state (begun_with c (s, p))
begun c s p = begun-by c s p s.fields
