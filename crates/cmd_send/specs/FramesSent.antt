-- The frames that raw input holds, and what is sent of them.
use Rattle.std.specs.Prelude.{◌≡◌, ℕ, false, List, All, length, Option, None}
use Rattle.std.specs.List.{flat_map, sum_by}
use Rattle.link_model.specs.Sending.{frames_indices, pictures_of, sent_datagrams, sent_stream}
use Rattle.link_model.specs.SendingFaults.{SendFault, send_fault}
use Rattle.link_model.specs.SendingPictures.{chosen_indices, sent_sequence}
use Rattle.vc_types.specs.declared.shape.Shape.{Shape}
use Rattle.vc_types.specs.Planes.{Planes}
use Rattle.vc_types.specs.SenderSettings.{Sending}
use Rattle.vc_types.specs.SequenceHeader.{picture_shape}

-- a frame's planes have the sizes that a picture's would have with frame coding
abbrev pub frame_shape : Sending → Shape
frame_shape s = picture_shape (record (sent_sequence s) { fields = false })

-- the indices of a frame's slices, as the settings choose them
abbrev pub frame_indices : Sending → Planes → List ℕ
frame_indices s frame = flat_map (chosen_indices s) (pictures_of s frame)

-- why a frame isn't sent at these indices, if it isn't
abbrev pub frame_fault : Sending → Planes → Option SendFault
frame_fault s frame = send_fault s (frame_indices s frame) frame

-- none of these frames is refused
abbrev pub AreSendable : Sending → List Planes → Type 0
AreSendable s frames = All (λ frame. frame_fault s frame ≡ None) frames

-- the datagrams of frames
abbrev pub frames_sent : Sending → List Planes → List (List ℕ)
frames_sent s frames = sent_datagrams s (frames_indices s frames) frames

-- the same, and behind them the end of the sequence
abbrev pub stream_sent : Sending → List Planes → List (List ℕ)
stream_sent s frames = sent_stream s (frames_indices s frames) frames

-- how many bytes datagrams have
abbrev pub bytes_in : List (List ℕ) → ℕ
bytes_in datagrams = sum_by length datagrams
