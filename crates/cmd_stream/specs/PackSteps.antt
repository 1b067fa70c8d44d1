-- What is done with a unit.
use Rattle.std.specs.Prelude.{◌≡◌, ◌≤◌, ◌+◌, ℕ, ⊤, List, [], ◌∷◌, ◌++◌, length, take}
use Rattle.std.specs.Prelude.{drop, Option, Some, None, Result, Ok, Err}
use Rattle.std.specs.Global.{Vec}
use Rattle.cmd_send.specs.FramesSent.{bytes_in}
use Rattle.link_outside.specs.Outlets.{capture_of}
use Rattle.cmd_stream.specs.Counted.{counted_in_64}
use Rattle.link_model.specs.Kept.{next_slices}
use Rattle.link_report.specs.declared.ending.Ending.{Ending}
use Rattle.link_report.specs.declared.ending.Ending.TheVariants as endings
use Rattle.link_report.specs.declared.summary.Summary.{Summary}
use Rattle.link_report.specs.declared.summary.Summary.TheVariants as summaries
use Rattle.stream_model.specs.Packed.{BadUnit, PackStream, PartTooLarge, packs_header}
use Rattle.stream_model.specs.Packed.{packs_unit, picture_to_pack, pictures_packed}
use Rattle.stream_model.specs.Packed.{settings_for, stream_packed, whole_packed, with_packed}
use Rattle.stream_model.specs.Packing.{PackedPicture, first_large_part}
use Rattle.stream_model.specs.Packing.{packed_datagrams, packed_picture, slices_in}
use Rattle.cmd_stream.specs.declared.pack_fault.UnitRefusal.{UnitRefusal}
use Rattle.cmd_stream.specs.declared.pack_fault.UnitRefusal.TheVariants as refusals
use Rattle.cmd_stream.specs.declared.opened.Opened.{Opened}
use Rattle.cmd_stream.specs.declared.stream.StreamPacker.{StreamPacker}
use Rattle.cmd_stream.specs.PackViews.{IsBehindPictures, IsBehindUnits}
use Rattle.link_sender.specs.declared.datagram.Datagram.{Datagram}
use Rattle.link_sender.specs.declared.refusal.SendRefusal.{SendRefusal}
use Rattle.link_sender.specs.declared.refusal.SendRefusal.TheVariants as sending
use Rattle.link_sender.specs.Packing.{bytes_of_all}
use Rattle.vc_ports.specs.Writing.{Grew, GrewBySome}
use Rattle.vc_types.specs.DataUnits.{DataUnit}
use Rattle.vc_types.specs.SenderSettings.{Packing}
use Rattle.vc_types.specs.SequenceHeader.{coded_header}
use Rattle.vc_types.specs.Subbands.{slice_count}
use Rattle.vc_types.specs.TransformParameters.{Parameters}

-- the refusal of a unit whose picture isn't packed
abbrev pub of_refusal : SendRefusal → UnitRefusal
of_refusal (sending.SampleRange plane place value) = refusals.NoMemory
of_refusal (sending.SliceTooLarge slice bytes) = refusals.TooLarge slice bytes
of_refusal sending.NoMemory = refusals.NoMemory

-- a picture's slices are these first bytes, or not all of them are there
abbrev pub EndsSlices : Parameters → List ℕ → Option ℕ → Type 0
EndsSlices p bytes None = next_slices p (slice_count p) bytes ≡ Err tt
EndsSlices p bytes (Some n) =
    (n ≤ length bytes)
    × (next_slices p (slice_count p) bytes ≡ Ok (slices_in p (take n bytes), drop n bytes))
    × (next_slices p (slice_count p) (take n bytes) ≡ Ok (slices_in p (take n bytes), []))

-- the datagrams of a picture behind those of a stream
abbrev pub next_packed : Packing → PackStream → PackedPicture → List (List ℕ)
next_packed s t p =
    packed_picture (settings_for s (Some t)) (length t.pictures)
    ((settings_for s (Some t)).seq
    + length (packed_datagrams (settings_for s (Some t)) t.pictures)) p

-- a picture was packed behind those of a stream
pub record IsPackedBehind
    (s : Packing) (t : PackStream) (body : List ℕ) (new : Opened) (datagrams : Vec Datagram)
    : Type 0 where
  pub picture : PackedPicture
  pub read : picture_to_pack t body ≡ Some picture
  pub fits : first_large_part (settings_for s (Some t)) picture ≡ None
  pub behind : IsBehindPictures s (with_packed t picture) new
  pub datagrams_are : bytes_of_all datagrams.items ≡ next_packed s t picture

-- a part of a picture has no room
pub record IsLargeBehind (s : Packing) (t : PackStream) (body : List ℕ) (slice bytes : ℕ)
    : Type 0 where
  pub picture : PackedPicture
  pub read : picture_to_pack t body ≡ Some picture
  pub part : first_large_part (settings_for s (Some t)) picture
      ≡ Some (record { slice = slice; bytes = bytes })

-- what a picture's body came to
abbrev pub PacksBody : Packing → PackStream → List ℕ → Opened → Result (Vec Datagram) UnitRefusal
    → Type 0
PacksBody s t body new (Ok datagrams) = IsPackedBehind s t body new datagrams
PacksBody s t body new (Err refusals.Bad) = picture_to_pack t body ≡ None
PacksBody s t body new (Err (refusals.TooLarge slice bytes)) = IsLargeBehind s t body slice bytes
PacksBody s t body new (Err refusals.WriteFault) = ⊥
PacksBody s t body new (Err refusals.NoMemory) = ⊤

-- ---- a unit

-- a unit was packed, and the datagrams due for it
pub record BringsUnit (s : Packing) (stream : Option PackStream) (u : DataUnit) : Type 0 where
  pub next : Option PackStream
  pub due : List (List ℕ)
  pub taken : packs_unit s stream u ≡ Ok next
  pub grows : stream_packed s next ≡ stream_packed s stream ++ due

-- what a unit behind a stream came to, and what was written of it
abbrev pub TakesUnit : Packing → Option PackStream → DataUnit → StreamPacker → Option (List ℕ)
    → Option (List ℕ) → Result (Unit {0}) UnitRefusal → Type 0
TakesUnit s stream u new before after (Ok done) =
    (b : BringsUnit s stream u) × IsBehindUnits s b.next new
    × Grew before after (capture_of b.due)
TakesUnit s stream u new before after (Err refusals.Bad) =
    (packs_unit s stream u ≡ Err BadUnit) × (after ≡ before)
TakesUnit s stream u new before after (Err (refusals.TooLarge slice bytes)) =
    (packs_unit s stream u ≡ Err (PartTooLarge (record { slice = slice; bytes = bytes })))
    × (after ≡ before)
TakesUnit s stream u new before after (Err refusals.WriteFault) =
    (b : BringsUnit s stream u) × GrewBySome before after (capture_of b.due)
TakesUnit s stream u new before after (Err refusals.NoMemory) = after ≡ before

-- what a header behind a stream came to
abbrev pub TakesHeader : Packing → Option PackStream → List ℕ → StreamPacker
    → Result (Unit {0}) UnitRefusal → Type 0
TakesHeader s stream body new (Ok done) =
    (next : Option PackStream) × (packs_header stream body (coded_header body) ≡ Ok next)
    × IsBehindUnits s next new
TakesHeader s stream body new (Err refusals.Bad) =
    packs_header stream body (coded_header body) ≡ Err BadUnit
TakesHeader s stream body new (Err other) = ⊥

-- ---- the end

-- the end of the sequence was written, and this is said of the stream
pub record HasFinished
    (s : Packing) (stream : Option PackStream) (before after : Option (List ℕ))
    (pictures datagrams bytes : ℕ)
    : Type 0 where
  pub end : List ℕ
  pub grows : whole_packed s stream ≡ stream_packed s stream ++ end ∷ []
  pub grew : Grew before after (capture_of (end ∷ []))
  pub pictures_are : pictures ≡ length (pictures_packed stream)
  pub datagrams_are : datagrams ≡ counted_in_64 (length (whole_packed s stream))
  pub bytes_are : bytes ≡ counted_in_64 (bytes_in (whole_packed s stream))

-- or a write of it failed
pub record CouldNotFinish
    (s : Packing) (stream : Option PackStream) (before after : Option (List ℕ)) : Type 0 where
  pub end : List ℕ
  pub grows : whole_packed s stream ≡ stream_packed s stream ++ end ∷ []
  pub grew : GrewBySome before after (capture_of (end ∷ []))

abbrev pub FinishesStream : Packing → Option PackStream → Option (List ℕ) → Option (List ℕ)
    → Result Summary Ending → Type 0
FinishesStream s stream before after (Ok (summaries.Packed pictures datagrams bytes)) =
    HasFinished s stream before after pictures datagrams bytes
FinishesStream s stream before after (Err endings.OutputFailed) =
    CouldNotFinish s stream before after
FinishesStream s stream before after (Err endings.NoMemory) = after ≡ before
FinishesStream s stream before after answer = ⊥
