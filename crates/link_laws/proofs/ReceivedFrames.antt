-- A frame of which all is there in time is written as it was sent.
use Rattle.std.proofs.Common.{◌≡◌, ◌<◌, ◌≤◌, ℕ, ◌+◌, ◌*◌, ◌^◌, Bool, true, List, [], ◌∷◌, ◌++◌, Some, sym, ap, subst, ◌∙◌, arith, inl, inr, slice_get, ◌==◌, ◌||◌, flat_map}
use Rattle.std.proofs.lemmas.Bool.{cases_Bool, eqb-true}
use Rattle.std.proofs.lemmas.List.Concat.{flat_map-append, flat_map-cons}
use Rattle.link_laws.specs.FramesToSend.{AreFramesToSend}
use Rattle.link_laws.specs.HeardStreams.{IsHeardOf, entered_of}
use Rattle.link_laws.specs.IndexZero.{IsFrameHeard, IsWritten, last_picture, raw_frame}
use Rattle.link_laws.proofs.Among.{IsAmong, among_first, among_later}
use Rattle.link_laws.proofs.FramePictures.{all_pictures, first_picture_at, picture_at, some_pictures}
use Rattle.link_laws.proofs.ReceivedPictures.{entries_are, number_is, whole_received}
use Rattle.link_laws.proofs.WholeFrames.{AreWholePictures, IsFrameBack, bytes_back, frame_back}
use Rattle.machine_model.specs.Feeders.{is_among}
use Rattle.link_model.specs.Numbers.{Numbered, is_opened, opened_numbers}
use Rattle.link_model.specs.Output.{all_frames, all_output, frame_bytes_at, full_output}
use Rattle.link_model.specs.Sending.{pictures_of, pictures_per_frame, sent_stream}
use Rattle.link_model.specs.Session.{HeardSession, sessions_of}
use Rattle.machine_model.proofs.PicturesHeard.{among_opened}
use Rattle.vc_types.specs.declared.settings.SendSettings.{SendSettings}
use Rattle.vc_types.specs.Planes.{Planes}
use Rattle.vc_types.specs.SenderSettings.{Sending, sending_view}
use Rattle.vc_types.specs.SequenceHeader.{Sequence}

-- ---- of lists of numbers

among_numbers : (numbers : List ℕ) (n : ℕ) → is_among numbers n ≡ true → IsAmong numbers n
among_numbers [] n is = absurd cc
among_numbers (m ∷ numbers) n is = elim (cases_Bool (m == n)) [
  | inl same ↦ subst (λ (k : ℕ). IsAmong (m ∷ numbers) k) (eqb-true m n same) (among_first m numbers)
  | inr other ↦ among_later m n numbers (among_numbers numbers n (sym (ap (λ (b : Bool). b || is_among numbers n) other) ∙ is))
]

-- what is written of the frame with a number stands among what is written
pub written_among : (window : ℕ) (datagrams : List (List ℕ)) (h : HeardSession) (n : ℕ) → sessions_of datagrams ≡ h ∷ [] → is_opened (entered_of window h) n ≡ true
    → (before : List ℕ) × (behind : List ℕ) × (full_output window datagrams ≡ before ++ (frame_bytes_at h.session.sequence (entered_of window h) n ++ behind))
unfolding full_output all_output all_frames
written_among window datagrams h n one opened =
    let es : List Numbered = entered_of window h in
    let bytes : ℕ → List ℕ = frame_bytes_at h.session.sequence es in
    let among = among_numbers (opened_numbers es) n (among_opened es n opened) in (
      flat_map bytes among.0,
      flat_map bytes among.1,
      ap (all_output window) one
          ∙ ap (flat_map bytes) among.2
          ∙ flat_map-append bytes among.0 (n ∷ among.1)
          ∙ ap (λ (l : List ℕ). flat_map bytes among.0 ++ l) (flat_map-cons bytes n among.1),
    )

module _ (settings : SendSettings) (small : settings.ssrc < 2 ^ 32) (window : ℕ) (some : 1 ≤ window) (indices : List ℕ) (frames : List Planes) (can : AreFramesToSend (sending_view settings) indices frames) (datagrams : List (List ℕ)) (h : HeardSession) (heard : IsHeardOf (sending_view settings) (sent_stream (sending_view settings) indices frames) datagrams h) (f number : ℕ) (frame : Planes) (at : slice_get frames f ≡ Some frame) (time : IsFrameHeard window (sending_view settings) indices frames datagrams h f number) where
  abbrev s : Sending
  s = sending_view settings

  abbrev es : List Numbered
  es = entered_of window h

  abbrev place : ℕ → ℕ
  place i = f * pictures_per_frame s + i

  there : (i : ℕ) (planes : Planes) → i < pictures_per_frame s → slice_get (pictures_of s frame) i ≡ Some planes → slice_get (all_pictures s frames) (place i) ≡ Some planes
  there i planes below is = picture_at s frames f i frame at below ∙ is

  abbrev first : ℕ
  first = (entries_are settings small indices frames can.sound can.few window some datagrams h heard).first

  -- the number of its first picture
  first_number : number ≡ first + place 0
  first_number =
      let same : f * pictures_per_frame s ≡ place 0 = omega arith in
      let picture = first_picture_at s frame in
      grind (arith, (some_pictures s), number_is, there)

  wholes : AreWholePictures s indices f number frame es
  wholes = grind (arith, first_number, there, whole_received)

  pub frame_is_written : IsWritten window (sending_view settings) datagrams h number frame
  frame_is_written =
      let back : IsFrameBack s number frame es = frame_back settings indices frames can f number frame at es wholes in
      let all = written_among window datagrams h (last_picture s number) heard.one back.opened in
      let raw : frame_bytes_at h.session.sequence es (last_picture s number) ≡ raw_frame s frame =
      ap (λ (q : Sequence). frame_bytes_at q es (last_picture s number)) heard.sequence ∙ bytes_back settings indices frames can f number frame at es wholes in
      record {
        is = back.is;
        opened = back.opened;
        before = all.0;
        behind = all.1;
        bytes = all.2 ∙ ap (λ (l : List ℕ). all.0 ++ (l ++ all.1)) raw;
      }
