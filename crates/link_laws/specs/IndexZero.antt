-- What was sent at quantisation index 0 and came in time is received as it was sent, whatever else
-- of the stream is lost, repeated, or out of order.
use Rattle.std.specs.Prelude.{◌≡◌, ◌<◌, ◌≤◌, ℕ, ◌+◌, ◌-◌, ◌*◌, ◌^◌, true, List, ◌++◌, slice_get, Some}
use Rattle.std.specs.List.{flat_map}
use Rattle.link_laws.specs.FramesToSend.{AreAtIndexZero, AreFramesToSend, IsAtIndexZero}
use Rattle.link_laws.specs.FramesToSend.{IsPictureToSend, indices_from, pictures_of_all}
use Rattle.link_laws.specs.HeardStreams.{IsHeardInTime, IsHeardOf, IsNumberOf, entered_of}
use Rattle.link_model.specs.Complete.{whole_picture}
use Rattle.link_model.specs.Numbers.{is_opened, parts_of}
use Rattle.link_model.specs.Output.{frame_at, full_output}
use Rattle.link_model.specs.Sending.{pictures_per_frame, sent_stream}
use Rattle.link_model.specs.SendingPictures.{sent_parameter_bytes, sent_parameters}
use Rattle.link_model.specs.SendingPictures.{sent_sequence, sent_slices}
use Rattle.link_model.specs.Session.{HeardSession}
use Rattle.vc_types.specs.declared.settings.SendSettings.{SendSettings}
use Rattle.vc_types.specs.Fields.{joined}
use Rattle.vc_types.specs.Planes.{Planes, decoded_planes}
use Rattle.vc_types.specs.RawFrames.{frame_bytes, is_wide}
use Rattle.vc_types.specs.SenderSettings.{Sending, sending_view}
use Rattle.vc_types.specs.SequenceHeader.{picture_shape}

-- the whole bytes of a picture as it is sent: its parameters, and after them its slices
abbrev pub sent_picture_bytes : Sending → List ℕ → ℕ → Planes → List ℕ
sent_picture_bytes s indices picture planes = sent_parameter_bytes s
    ++ joined (sent_slices (sent_parameters s) planes (indices_from s picture indices))

-- A picture at index 0 decodes from its whole bytes to its planes.
abbrev pub PicturesComeBack : Type 0
PicturesComeBack = (settings : SendSettings) (indices : List ℕ) (planes : Planes)
    → IsPictureToSend (sending_view settings) indices planes
    → IsAtIndexZero (sending_view settings) indices 0
    → decoded_planes (sent_sequence (sending_view settings))
    (sent_picture_bytes (sending_view settings) indices 0 planes)
    ≡ Some planes

-- A picture at index 0, of which all is there in time, is complete, and has the bytes that were
-- sent of it.
abbrev pub PicturesAreReceived : Type 0
PicturesAreReceived = (settings : SendSettings) (window : ℕ) (indices : List ℕ)
    (frames : List Planes) (datagrams : List (List ℕ)) (h : HeardSession)
    (picture number : ℕ) (planes : Planes)
    → settings.ssrc < 2 ^ 32 → 1 ≤ window
    → AreFramesToSend (sending_view settings) indices frames
    → IsHeardOf (sending_view settings) (sent_stream (sending_view settings) indices frames)
    datagrams h
    → slice_get (pictures_of_all (sending_view settings) frames) picture ≡ Some planes
    → IsAtIndexZero (sending_view settings) indices picture
    → IsNumberOf (sending_view settings) (entered_of window h) picture number
    → IsHeardInTime window (sending_view settings) indices frames datagrams picture number
    → whole_picture (sent_sequence (sending_view settings)) (parts_of number (entered_of window h))
    ≡ Some (sent_picture_bytes (sending_view settings) indices picture planes)

-- ---- frames

-- A frame has index 0 throughout, and all of it is there in time; its first picture has this
-- number.
pub record IsFrameHeard (window : ℕ) (s : Sending) (indices : List ℕ) (frames : List Planes)
    (datagrams : List (List ℕ)) (h : HeardSession) (f number : ℕ) : Type 0 where
  pub first : IsNumberOf s (entered_of window h) (f * pictures_per_frame s) number
  pub zero : (i : ℕ) → i < pictures_per_frame s
      → IsAtIndexZero s indices (f * pictures_per_frame s + i)
  pub each : (i : ℕ) → i < pictures_per_frame s
      → IsHeardInTime window s indices frames datagrams (f * pictures_per_frame s + i) (number + i)

-- the number of a frame's last picture
abbrev pub last_picture : Sending → ℕ → ℕ
last_picture s number = number + (pictures_per_frame s - 1)

-- the raw bytes of a frame
abbrev pub raw_frame : Sending → Planes → List ℕ
raw_frame s frame = frame_bytes frame (is_wide (picture_shape (sent_sequence s)))

-- a frame is one of those that are written, and its raw bytes stand in what is written
pub record IsWritten (window : ℕ) (s : Sending) (datagrams : List (List ℕ)) (h : HeardSession)
    (number : ℕ) (frame : Planes) : Type 0 where
  pub is : frame_at (sent_sequence s) (entered_of window h) (last_picture s number) ≡ Some frame
  pub opened : is_opened (entered_of window h) (last_picture s number) ≡ true
  pub before : List ℕ
  pub behind : List ℕ
  pub bytes : full_output window datagrams ≡ before ++ (raw_frame s frame ++ behind)

-- What was sent of a frame at index 0, and came in time, is written as it was.
abbrev pub IndexZeroIsLossless : Type 0
IndexZeroIsLossless = (settings : SendSettings) (window : ℕ) (indices : List ℕ)
    (frames : List Planes) (datagrams : List (List ℕ)) (h : HeardSession) (f number : ℕ)
    (frame : Planes)
    → settings.ssrc < 2 ^ 32 → 1 ≤ window
    → AreFramesToSend (sending_view settings) indices frames
    → IsHeardOf (sending_view settings) (sent_stream (sending_view settings) indices frames)
    datagrams h
    → slice_get frames f ≡ Some frame
    → IsFrameHeard window (sending_view settings) indices frames datagrams h f number
    → IsWritten window (sending_view settings) datagrams h number frame

-- ---- the sender's own list

-- the raw bytes of frames, one after another
abbrev pub raw_video : Sending → List Planes → List ℕ
raw_video s frames = flat_map (raw_frame s) frames

-- A list that is the sender's own, at index 0 throughout, is written as all its frames.
abbrev pub SentStreamsComeBack : Type 0
SentStreamsComeBack = (settings : SendSettings) (window : ℕ) (indices : List ℕ)
    (frames : List Planes)
    → settings.ssrc < 2 ^ 32 → 1 ≤ window
    → AreFramesToSend (sending_view settings) indices frames
    → AreAtIndexZero (sending_view settings) indices frames
    → full_output window (sent_stream (sending_view settings) indices frames)
    ≡ raw_video (sending_view settings) frames
