-- What sending a frame does.
use Rattle.std.specs.Prelude.{◌≡◌, ◌+◌, ◌-◌, ◌*◌, ◌%◌, ◌^◌, ℕ, All, Bool, List, [], ◌∷◌, ◌++◌}
use Rattle.std.specs.Prelude.{length, map, Option, Some, None, Result, Ok, Err}
use Rattle.std.specs.Global.{Vec}
use Rattle.std.specs.List.{AllZip, flat_map}
use Rattle.link_model.specs.Sending.{Outgoing, HeaderContent, ParametersContent, SlicesContent}
use Rattle.link_model.specs.Sending.{frame_datagrams, frame_needs, outgoing, pictures_of}
use Rattle.link_model.specs.Sending.{pictures_per_frame, runs_of_slices, timestamp_of}
use Rattle.link_model.specs.SendingFaults.{first_slice_fault, send_fault}
use Rattle.link_model.specs.SendingPictures.{Need, picture_needs, sent_parameters, slice_room}
use Rattle.link_sender.specs.declared.datagram.Datagram.{Datagram}
use Rattle.link_sender.specs.declared.encoding.FrameSlices.{FrameSlices}
use Rattle.link_sender.specs.declared.refusal.SendRefusal.{SendRefusal}
use Rattle.link_sender.specs.Packing.{bytes_of_all}
use Rattle.link_sender.specs.Refusals.{SaysFault}
use Rattle.picture_encode.specs.IndexedSlices.{IndexedSlice}
use Rattle.picture_encode.specs.declared.refusal.SliceRefusal.{SliceRefusal}
use Rattle.picture_encode.specs.Encoded.{Chooses, AreFirstSlices, IsSized, bytes_of_slices}
use Rattle.picture_encode.specs.Refusals.{Tells}
use Rattle.vc_types.specs.Fields.{joined}
use Rattle.vc_types.specs.Planes.{Planes}
use Rattle.vc_types.specs.SenderSettings.{Sending}
use Rattle.vc_types.specs.Subbands.{slice_count}

-- ---- the encoded slices of a frame's pictures

-- those of the second picture, if there is one
abbrev pub second_pictures : Option (Vec (List IndexedSlice)) → List (List IndexedSlice)
second_pictures None = []
second_pictures (Some runs) = joined runs.items ∷ []

abbrev pub slices_by_picture : FrameSlices → List (List IndexedSlice)
slices_by_picture e = joined e.first.items ∷ second_pictures e.second

-- pictures were encoded, each at answers on the needs of all its slices
abbrev pub AreEncoded : Chooses → Bool → Sending → List Planes → List (List IndexedSlice) → Type 0
AreEncoded choice wanted s pictures coded = AllZip
    (λ planes slices.
    AreFirstSlices choice wanted s planes (slice_count (sent_parameters s)) slices)
    pictures coded

-- one of some pictures has a slice that is too large, the first, at answers on the needs of the
-- slices up to it
pub record OneIsTooLarge (choice : Chooses) (wanted : Bool) (s : Sending) (pictures : List Planes)
    (e : SliceRefusal) : Type 0 where
  pub asked : List Need
  pub rest : List Need
  pub indices : List ℕ
  pub needs : flat_map (picture_needs s wanted) pictures ≡ asked ++ rest
  pub answers : AllZip choice asked indices
  pub fault : Tells (first_slice_fault s indices pictures) e

abbrev pub EncodesFrame : Chooses → Bool → Sending → Planes → Result FrameSlices SliceRefusal
    → Type 0
EncodesFrame choice wanted s frame (Ok coded) =
    AreEncoded choice wanted s (pictures_of s frame) (slices_by_picture coded)
EncodesFrame choice wanted s frame (Err e) =
    OneIsTooLarge choice wanted s (pictures_of s frame) e

-- ---- their datagrams

-- encoded slices are a picture's, and each fits a datagram
pub record IsPicture (s : Sending) (slices : List IndexedSlice) : Type 0 where
  pub count : length slices ≡ s.across * s.down
  pub sized : All (IsSized s) (bytes_of_slices slices)

pub record ArePictures (s : Sending) (coded : FrameSlices) : Type 0 where
  pub many : length (slices_by_picture coded) ≡ pictures_per_frame s
  pub each : All (IsPicture s) (slices_by_picture coded)

-- what is sent of a picture that has these slices
abbrev pub coded_outgoing : Sending → ℕ → List (List ℕ) → List Outgoing
coded_outgoing s picture slices = map (outgoing picture)
    (HeaderContent ∷ ParametersContent
    ∷ map SlicesContent (runs_of_slices (slice_room s) slices))

-- of pictures one after another, from one on
abbrev pub coded_pictures_outgoing : Sending → ℕ → List (List IndexedSlice) → List Outgoing
coded_pictures_outgoing s picture [] = []
coded_pictures_outgoing s picture (slices ∷ pictures) =
    coded_outgoing s picture (bytes_of_slices slices)
    ++ coded_pictures_outgoing s (picture + 1) pictures

-- of frame f
abbrev pub coded_frame_outgoing : Sending → ℕ → FrameSlices → List Outgoing
coded_frame_outgoing s f coded =
    coded_pictures_outgoing s (f * pictures_per_frame s) (slices_by_picture coded)

-- ---- a frame

-- what a sender goes on with: the numbers of the next frame, modulo 2 ^ 63, and of the next datagram,
-- modulo 2 ^ 32, and the timestamp of the last
pub record Numbers : Type 0 where
  pub frame : ℕ
  pub number : ℕ
  pub timestamp : ℕ

-- the numbers behind a frame of so many datagrams
abbrev pub numbers_behind : Sending → Numbers → ℕ → Numbers
numbers_behind s n datagrams = record {
  frame = (n.frame + 1) % 2 ^ 63;
  number = (n.number + datagrams) % 2 ^ 32;
  timestamp = timestamp_of s (n.frame * pictures_per_frame s + (pictures_per_frame s - 1));
}

-- a frame's datagrams, at answers on the needs of all its slices
pub record IsSent (choice : Chooses) (wanted : Bool) (s : Sending) (frame : Planes)
    (old new : Numbers) (datagrams : List Datagram) : Type 0 where
  pub indices : List ℕ
  pub answers : AllZip choice (frame_needs s wanted frame) indices
  pub sound : send_fault s indices frame ≡ None
  pub datagrams_are :
      bytes_of_all datagrams ≡ frame_datagrams s old.frame old.number indices frame
  pub numbers_are : new ≡ numbers_behind s old (length datagrams)

-- a frame's fault, at answers on the needs of its first slices, up to the one that is too large
pub record IsRefused (choice : Chooses) (wanted : Bool) (s : Sending) (frame : Planes)
    (e : SendRefusal) : Type 0 where
  pub asked : List Need
  pub rest : List Need
  pub indices : List ℕ
  pub needs : frame_needs s wanted frame ≡ asked ++ rest
  pub answers : AllZip choice asked indices
  pub fault : SaysFault (send_fault s indices frame) e

-- the datagrams and the next numbers, or a refusal that leaves the numbers
abbrev pub SendsFrame : Chooses → Bool → Sending → Planes → Numbers → Numbers
    → Result (Vec Datagram) SendRefusal → Type 0
SendsFrame choice wanted s frame old new (Ok datagrams) =
    IsSent choice wanted s frame old new datagrams.items
SendsFrame choice wanted s frame old new (Err e) =
    IsRefused choice wanted s frame e × (new ≡ old)
