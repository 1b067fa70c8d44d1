-- A frame whose pictures are whole is the frame that was sent.
use Rattle.std.proofs.Common.{◌≡◌, ◌<◌, ℕ, ◌+◌, ◌-◌, ◌*◌, ◌%◌, ◌^◌, Bool, true, false, cond, List, [], ◌++◌, drop, Option, Some, None, refl, sym, ap, ◌∙◌, arith, slice_get, is_some, option_and_then}
use Rattle.std.proofs.lemmas.Bool.{cond-true, cond-false}
use Rattle.field_pairs.proofs.Fields.{woven-fields_of}
use Rattle.field_pairs.specs.Sizes.{AreWhole}
use Rattle.link_laws.specs.FramesToSend.{AreFramesToSend, IsAtIndexZero, IsPictureToSend}
use Rattle.link_laws.specs.IndexZero.{last_picture, raw_frame}
use Rattle.link_laws.proofs.Among.{among_all, among_from}
use Rattle.link_laws.proofs.FieldPlanes.{field_samples, field_whole, field_sides, frame_sides, even_rows}
use Rattle.link_laws.proofs.FramePictures.{all_pictures, no_slice_fault, one_picture, two_pictures, picture_at}
use Rattle.link_laws.proofs.PicturesBack.{picture_back}
use Rattle.link_laws.proofs.SentStream.{are_sound, faultless, count}
use Rattle.link_model.specs.Complete.{whole_picture}
use Rattle.link_model.specs.Numbers.{Numbered, is_opened, parts_of}
use Rattle.link_model.specs.Output.{complete_at, field_frame_at, frame_at, frame_bytes_at, planes_at, raw_bytes}
use Rattle.link_model.specs.Sending.{number_bits, pictures_of, pictures_per_frame}
use Rattle.link_model.specs.SendingFaults.{first_sample_fault, first_of_slices}
use Rattle.link_model.specs.SendingPictures.{IsFrame, sent_sequence, sent_parameters, sent_parameter_bytes, sent_slices, slices_with_indices}
use Rattle.link_model.proofs.Leaving.{complete_opened}
use Rattle.vc_types.specs.declared.settings.SendSettings.{SendSettings}
use Rattle.vc_types.specs.FieldPairs.{every_other_row, on_each, fields_of, woven}
use Rattle.vc_types.specs.Fields.{joined}
use Rattle.vc_types.specs.Planes.{Planes, decoded_planes}
use Rattle.vc_types.specs.SenderSettings.{Sending, sending_view}
use Rattle.vc_types.specs.SequenceHeader.{Sequence}
use Rattle.vc_types.specs.Settings.{first_picture_fits}

-- ---- frames of pictures

frame_of_two : (sequence : Sequence) (es : List Numbered) (n : ℕ) (earlier later : Planes) → sequence.fields ≡ true → (n + 1) % 2 ≡ 1 → planes_at sequence es n ≡ Some earlier → planes_at sequence es (n + 1) ≡ Some later
    → frame_at sequence es (n + 1) ≡ Some (woven sequence.top_first earlier later)
unfolding frame_at
frame_of_two sequence es n earlier later fields odd first second = grind (arith, odd)

pub even_start : (fields : Bool) (picture : ℕ) → first_picture_fits fields picture ≡ true → fields ≡ true → picture % 2 ≡ 0
even_start fields picture fits is = grind arith

-- the even one of two fields has no frame
pub none_at_even : (sequence : Sequence) (es : List Numbered) (n : ℕ) → sequence.fields ≡ true → n % 2 ≡ 0 → frame_bytes_at sequence es n ≡ []
unfolding frame_at frame_bytes_at
none_at_even sequence es n fields even =
    cc (cond-true sequence.fields (field_frame_at sequence es n) (planes_at sequence es n) fields)

pub coded_fields : (s : Sending) → (sent_sequence s).fields ≡ s.frames.fields
unfolding sent_sequence
coded_fields s = refl

pub one_each : (s : Sending) → s.frames.fields ≡ false → pictures_per_frame s ≡ 1
one_each s is = ap (λ (b : Bool). (let n : ℕ = cond b 2 1 in n)) is

pub two_each : (s : Sending) → s.frames.fields ≡ true → pictures_per_frame s ≡ 2
two_each s is = ap (λ (b : Bool). (let n : ℕ = cond b 2 1 in n)) is

-- the whole bytes of a picture, by its place
abbrev pub sent_bytes : Sending → List ℕ → ℕ → Planes → List ℕ
sent_bytes s indices place planes = sent_parameter_bytes s ++ joined (sent_slices (sent_parameters s) planes (drop (place * count s) indices))

-- all pictures of a frame are whole, in what was entered, the first by this number
pub record AreWholePictures (s : Sending) (indices : List ℕ) (f number : ℕ) (frame : Planes) (es : List Numbered) : Type 0 where
  pub bits : number % 2 ^ 32 ≡ number_bits s (f * pictures_per_frame s)
  pub zero : (i : ℕ) → i < pictures_per_frame s → IsAtIndexZero s indices (f * pictures_per_frame s + i)
  pub each : (i : ℕ) (planes : Planes) → i < pictures_per_frame s → slice_get (pictures_of s frame) i ≡ Some planes
      → whole_picture (sent_sequence s) (parts_of (number + i) es) ≡ Some (sent_bytes s indices (f * pictures_per_frame s + i) planes)

-- it is the frame by its last picture
pub record IsFrameBack (s : Sending) (number : ℕ) (frame : Planes) (es : List Numbered) : Type 0 where
  pub is : frame_at (sent_sequence s) es (last_picture s number) ≡ Some frame
  pub opened : is_opened es (last_picture s number) ≡ true

module _ (settings : SendSettings) (indices : List ℕ) (frames : List Planes) (can : AreFramesToSend (sending_view settings) indices frames) (f number : ℕ) (frame : Planes) (at : slice_get frames f ≡ Some frame) (es : List Numbered) (are : AreWholePictures (sending_view settings) indices f number frame es) where
  abbrev s : Sending
  s = sending_view settings

  abbrev sequence : Sequence
  sequence = sent_sequence s

  abbrev place : ℕ → ℕ
  place i = f * pictures_per_frame s + i

  is_frame : IsFrame s frame
  is_frame = among_all (IsFrame s) frame frames can.sizes (among_from frame frames f at)

  is_whole : AreWhole frame
  is_whole = among_all AreWhole frame frames can.whole (among_from frame frames f at)

  no_sample : first_sample_fault s frame ≡ None
  no_sample = (faultless s (drop (f * (pictures_per_frame s * count s)) indices) frame (can.sound f frame at)).0

  slices_sound : (i : ℕ) (planes : Planes) → slice_get (all_pictures s frames) (place i) ≡ Some planes → first_of_slices s planes (slices_with_indices (sent_parameters s) (drop (place i * count s) indices)) ≡ None
  slices_sound i planes there = are_sound s indices (all_pictures s frames) (no_slice_fault s indices frames can.sound) (place i) planes there

  there : (i : ℕ) (planes : Planes) → i < pictures_per_frame s → slice_get (pictures_of s frame) i ≡ Some planes → slice_get (all_pictures s frames) (place i) ≡ Some planes
  there i planes below is = picture_at s frames f i frame at below ∙ is

  abbrev indices_of : ℕ → List ℕ
  indices_of i = drop (place i * count s) indices

  module _ (i : ℕ) (planes : Planes) (below : i < pictures_per_frame s) (is : slice_get (pictures_of s frame) i ≡ Some planes) where
    abbrev bytes : List ℕ
    bytes = sent_parameter_bytes s ++ joined (sent_slices (sent_parameters s) planes (indices_of i))

    whole_there : whole_picture sequence (parts_of (number + i) es) ≡ Some bytes
    whole_there = are.each i planes below is

    opened_there : is_opened es (number + i) ≡ true
    unfolding complete_at
    opened_there = complete_opened sequence es (number + i) (ap (λ (o : Option (List ℕ)). is_some o) whole_there)

    planes_there : IsPictureToSend s (indices_of i) planes → planes_at sequence es (number + i) ≡ Some planes
    unfolding planes_at
    planes_there picture = ap (option_and_then (decoded_planes sequence)) whole_there ∙ (picture_back settings planes (indices_of i) picture (are.zero i below))

  -- ---- with frame coding

  module _ (fields : s.frames.fields ≡ false) where
    alone : slice_get (pictures_of s frame) 0 ≡ Some frame
    alone = ap (λ (l : List Planes). slice_get l 0) (one_picture s frame fields)

    one_below : 0 < pictures_per_frame s
    one_below = omega (arith, one_each s fields)

    picture_of_frame : IsPictureToSend s (indices_of 0) frame
    picture_of_frame = record {
      sizes = frame_sides s frame fields is_frame;
      whole = is_whole;
      samples = no_sample;
      slices = slices_sound 0 frame (there 0 frame one_below alone);
    }

    frame_there : frame_at sequence es (number + 0) ≡ Some frame
    unfolding frame_at
    frame_there = (cond-false sequence.fields (field_frame_at sequence es (number + 0)) (planes_at sequence es (number + 0)) (coded_fields s ∙ fields)) ∙ planes_there 0 frame one_below alone picture_of_frame

  -- ---- with field coding

  module _ (fields : s.frames.fields ≡ true) where
    abbrev earlier : Planes
    earlier = (fields_of s.frames.top frame).0

    abbrev later : Planes
    later = (fields_of s.frames.top frame).1

    earlier_at : slice_get (pictures_of s frame) 0 ≡ Some (fields_of s.frames.top frame).0
    earlier_at = ap (λ (l : List Planes). slice_get l 0) (two_pictures s frame fields)

    later_at : slice_get (pictures_of s frame) 1 ≡ Some (fields_of s.frames.top frame).1
    later_at = ap (λ (l : List Planes). slice_get l 1) (two_pictures s frame fields)

    earlier_below : 0 < pictures_per_frame s
    earlier_below = omega (arith, two_each s fields)

    later_below : 1 < pictures_per_frame s
    later_below = omega (arith, two_each s fields)

    as_field : (parity : ℕ) (own : List ℕ) → first_of_slices s (on_each (every_other_row parity) frame) (slices_with_indices (sent_parameters s) own) ≡ None → IsPictureToSend s own (on_each (every_other_row parity) frame)
    as_field parity own none = record {
      sizes = field_sides s frame parity fields is_frame;
      whole = field_whole s frame parity;
      samples = field_samples s frame parity no_sample;
      slices = none;
    }

    earlier_is : (top : Bool) (own : List ℕ) → first_of_slices s (fields_of top frame).0 (slices_with_indices (sent_parameters s) own) ≡ None → IsPictureToSend s own (fields_of top frame).0
    earlier_is top own none = grind (arith, as_field)

    later_is : (top : Bool) (own : List ℕ) → first_of_slices s (fields_of top frame).1 (slices_with_indices (sent_parameters s) own) ≡ None → IsPictureToSend s own (fields_of top frame).1
    later_is top own none = grind (arith, as_field)

    earlier_there : planes_at sequence es (number + 0) ≡ Some earlier
    earlier_there = planes_there 0 earlier earlier_below earlier_at (earlier_is s.frames.top (indices_of 0) (slices_sound 0 earlier (there 0 earlier earlier_below earlier_at)))

    later_there : planes_at sequence es (number + 1) ≡ Some later
    later_there = planes_there 1 later later_below later_at (later_is s.frames.top (indices_of 1) (slices_sound 1 later (there 1 later later_below later_at)))

    no_more : number + 0 ≡ number
    no_more = omega arith

    odd : (number + 1) % 2 ≡ 1
    odd = grind (arith, even_start, two_each)

    pair_there : frame_at sequence es (number + 1) ≡ Some frame
    unfolding sent_sequence
    pair_there =
        frame_of_two sequence es number earlier later (coded_fields s ∙ fields) odd (sym (ap (planes_at sequence es) no_more) ∙ earlier_there) later_there
        ∙ ap Some (ap (λ (top : Bool). woven top earlier later) (refl) ∙ woven-fields_of s.frames.top frame (even_rows settings frame fields is_frame) is_whole)

    pair_opened : is_opened es (number + 1) ≡ true
    pair_opened = opened_there 1 later later_below later_at

  pub frame_back : IsFrameBack (sending_view settings) number frame es
  frame_back =
      grind (arith, frame_there, pair_opened, pair_there, one_each, opened_there, one_below, alone, two_each)

  -- and its raw bytes are those of the frame
  pub bytes_back : frame_bytes_at (sent_sequence (sending_view settings)) es (last_picture (sending_view settings) number) ≡ raw_frame (sending_view settings) frame
  unfolding frame_bytes_at
  bytes_back = ap (raw_bytes sequence) frame_back.is
