-- The sender's own list at index 0 is written as all its frames.
use Rattle.std.proofs.Common.{◌≡◌, ◌<◌, ◌≤◌, ℕ, suc, ◌+◌, ◌*◌, ◌^◌, true, false, List, [], ◌∷◌, ◌++◌, length, map, Some, refl, sym, ap, ◌∙◌, arith, All, inl, inr, slice_get, mul-le-mul_right, suc-mul, add-zero}
use Rattle.std.specs.List.{flat_map, range_with_len}
use Rattle.std.proofs.lemmas.Bool.{cases_Bool}
use Rattle.std.proofs.lemmas.List.Elements.{All-cons, All-map, All-weaker}
use Rattle.std.proofs.lemmas.Option.{slice_get_within}
use Rattle.link_laws.specs.FramesToSend.{AreAtIndexZero, AreFramesToSend}
use Rattle.link_laws.specs.HeardStreams.{entered_of}
use Rattle.link_laws.specs.IndexZero.{last_picture, raw_frame, raw_video}
use Rattle.link_laws.proofs.Among.{IsAmong, among_later, among_map}
use Rattle.link_laws.proofs.FramePictures.{all_pictures, length-all_pictures, picture_at, pictures_begin}
use Rattle.link_laws.proofs.InOrder.{entered_in_order, entries_from, first, opened_in_order, parts_in}
use Rattle.link_laws.proofs.InTime.{entered_is}
use Rattle.link_laws.proofs.OwnParts.{IsOwnPart}
use Rattle.link_laws.proofs.OwnSession.{IsOwnSession, all_have_parts, length-parts_from, none_heard, own_session_heard, parts_at, parts_from, parts_sent, run_part}
use Rattle.link_laws.proofs.ReceivedPictures.{few_pictures, fits, whole_from_parts}
use Rattle.link_laws.proofs.SentStream.{all_among, runs_at}
use Rattle.link_laws.proofs.WholeFrames.{AreWholePictures, bytes_back, coded_fields, even_start, none_at_even, one_each, sent_bytes, two_each}
use Rattle.link_model.specs.Complete.{whole_picture}
use Rattle.link_model.specs.Kept.{SliceRun}
use Rattle.link_model.specs.Numbers.{Numbered, parts_of}
use Rattle.link_model.specs.Output.{all_frames, all_output, frame_bytes_at, full_output}
use Rattle.link_model.specs.Sending.{pictures_per_frame, sent_stream}
use Rattle.link_model.specs.SendingPictures.{sent_parameter_bytes, sent_parameters, sent_sequence}
use Rattle.link_model.specs.Session.{HeardSession, ParamsPart, Part}
use Rattle.vc_types.specs.declared.settings.SendSettings.{SendSettings}
use Rattle.vc_types.specs.Planes.{Planes}
use Rattle.vc_types.specs.SenderSettings.{Sending, sending_view}
use Rattle.vc_types.specs.SequenceHeader.{Sequence}

-- ---- what is written of frames, number by number

over_ones : (g : ℕ → List ℕ) (raw : Planes → List ℕ) (n : ℕ) (frames : List Planes) → ((f : ℕ) (frame : Planes) → slice_get frames f ≡ Some frame → g (n + f) ≡ raw frame)
    → flat_map g (range_with_len n (length frames)) ≡ flat_map raw frames
over_ones g raw n [] each = refl
over_ones g raw n (frame ∷ frames) each =
    let here : g n ≡ raw frame = ap g (sym (add-zero n)) ∙ each 0 frame refl in
    (λ i. here i ++ over_ones g raw (n + 1) frames (λ f own at. ap g (omega arith) ∙ each (suc f) own at) i)

over_pairs : (g : ℕ → List ℕ) (raw : Planes → List ℕ) (n : ℕ) (frames : List Planes) → ((f : ℕ) (frame : Planes) → slice_get frames f ≡ Some frame → (g (n + f * 2) ≡ []) × (g (n + f * 2 + 1) ≡ raw frame))
    → flat_map g (range_with_len n (length frames * 2)) ≡ flat_map raw frames
over_pairs g raw n [] each = refl
over_pairs g raw n (frame ∷ frames) each =
    let two : suc (length frames) * 2 ≡ suc (suc (length frames * 2)) = omega arith in
    let pair = each 0 frame refl in
    let earlier : g n ≡ [] = ap g (omega arith) ∙ pair.0 in
    let later : g (n + 1) ≡ raw frame = ap g (omega arith) ∙ pair.1 in
    let rest = over_pairs g raw (n + 1 + 1) frames (λ f own at. (ap g (omega arith) ∙ (each (suc f) own at).0, ap g (omega arith) ∙ (each (suc f) own at).1)) in
    ap (λ (k : ℕ). flat_map g (range_with_len n k)) two ∙ (λ i. earlier i ++ (later i ++ rest i))

module _ (settings : SendSettings) (small : settings.ssrc < 2 ^ 32) (window : ℕ) (some : 1 ≤ window) (indices : List ℕ) (frames : List Planes) (can : AreFramesToSend (sending_view settings) indices frames) (zeros : AreAtIndexZero (sending_view settings) indices frames) where
  abbrev s : Sending
  s = sending_view settings

  abbrev sequence : Sequence
  sequence = sent_sequence s

  abbrev pictures : List Planes
  pictures = all_pictures s frames

  abbrev parts : List (List Part)
  parts = parts_from s indices pictures

  abbrev es : List Numbered
  es = entries_from (first s) parts

  many : length pictures < 2 ^ 31
  many = few_pictures settings small indices frames can.sound can.few

  -- ---- its pictures are whole

  module _ (j : ℕ) (planes : Planes) (at : slice_get pictures j ≡ Some planes) where
    abbrev runs : List SliceRun
    runs = runs_at s indices j planes

    parts_are : parts_of (first s + j) es ≡ parts_sent s runs
    parts_are = parts_in (first s) parts j (parts_sent s runs) (parts_at s indices pictures j planes at)

    inside : j < length frames * pictures_per_frame s
    inside = omega (arith, slice_get_within pictures j planes at, length-all_pictures s frames)

    abbrev Own : Part → Type 0
    Own = IsOwnPart (sent_parameters s) (sent_parameter_bytes s) runs

    all_own : All Own (parts_sent s runs)
    all_own = All-cons Own (ParamsPart (sent_parameter_bytes s)) (map (run_part s) runs) (inl refl)
        (All-map Own (run_part s) runs (All-weaker (IsAmong runs) (λ run. Own (run_part s run)) (λ run is. inr (run, is, refl)) runs (all_among runs)))

    is_whole : whole_picture sequence (parts_of (first s + j) es) ≡ Some (sent_bytes s indices j planes)
    is_whole =
        ap (whole_picture sequence) parts_are
        ∙ whole_from_parts settings small indices frames can.sound can.few j planes at (zeros j inside) [] (map (run_part s) runs) all_own (omega arith)
        (λ run among. among_later (ParamsPart (sent_parameter_bytes s)) (run_part s run) (map (run_part s) runs) (among_map (run_part s) run runs among))

  -- ---- its frames

  abbrev written : ℕ → List ℕ
  written n = frame_bytes_at sequence es n

  module _ (f : ℕ) (frame : Planes) (at : slice_get frames f ≡ Some frame) where
    abbrev number : ℕ
    number = first s + f * pictures_per_frame s

    place_inside : (i : ℕ) → i < pictures_per_frame s → f * pictures_per_frame s + i < length frames * pictures_per_frame s
    place_inside i below = omega (arith, below, mul-le-mul_right {m = suc f} {n = length frames} (pictures_per_frame s) (slice_get_within frames f frame at), suc-mul f (pictures_per_frame s))

    wholes : AreWholePictures s indices f number frame es
    wholes = record {
      bits = omega arith;
      zero = λ i below. zeros (f * pictures_per_frame s + i) (place_inside i below);
      each = λ i planes below is.
          ap (λ (n : ℕ). whole_picture sequence (parts_of n es)) (omega arith) ∙ is_whole (f * pictures_per_frame s + i) planes (picture_at s frames f i frame at below ∙ is);
    }

    frame_written : written (last_picture s number) ≡ raw_frame s frame
    frame_written = bytes_back settings indices frames can f number frame at es wholes

    one_written : s.frames.fields ≡ false → written (first s + f) ≡ raw_frame s frame
    one_written fields = grind (arith, first, frame_written, one_each)

    pair_written : s.frames.fields ≡ true → (written (first s + f * 2) ≡ []) × (written (first s + f * 2 + 1) ≡ raw_frame s frame)
    pair_written fields =
        grind (arith, coded_fields, even_start, first, frame_written, none_at_even, two_each)

  all_written : flat_map written (range_with_len (first s) (length parts)) ≡ raw_video s frames
  all_written = elim (cases_Bool s.frames.fields) [
    | inl fields ↦ (
        let two = ap (λ (n : ℕ). length frames * n) (two_each s fields) in
        let long : length parts ≡ length frames * 2 = omega (arith, two, length-parts_from s indices pictures, length-all_pictures s frames) in
        ap (λ (n : ℕ). flat_map written (range_with_len (first s) n)) long ∙ over_pairs written (raw_frame s) (first s) frames (λ f frame at. pair_written f frame at fields))
    | inr fields ↦ (
        let one = ap (λ (n : ℕ). length frames * n) (one_each s fields) in
        let long : length parts ≡ length frames = omega (arith, one, length-parts_from s indices pictures, length-all_pictures s frames) in
        ap (λ (n : ℕ). flat_map written (range_with_len (first s) n)) long ∙ over_ones written (raw_frame s) (first s) frames (λ f frame at. one_written f frame at fields))
  ]

  -- ---- its session

  module _ (h : HeardSession) (own : IsOwnSession settings small indices pictures many (fits settings small indices frames can.sound can.few) frames refl h) where
    entries_are : entered_of window h ≡ es
    entries_are = grind (arith, all_have_parts, entered_in_order, entered_is, length-parts_from, many)

    frames_of_session : full_output window (sent_stream s indices frames) ≡ raw_video s frames
    unfolding full_output all_output all_frames
    frames_of_session = grind (arith, all_have_parts, all_written, entries_are, first, opened_in_order)

  pub stream_back : full_output window (sent_stream (sending_view settings) indices frames) ≡ raw_video (sending_view settings) frames
  unfolding full_output all_output
  stream_back = by_frames frames refl
    where
      by_frames : (l : List Planes) → frames ≡ l → full_output window (sent_stream s indices frames) ≡ raw_video s frames
      by_frames [] none = grind (arith, none_heard, many, fits, all_pictures)
      by_frames (frame ∷ more) are =
          let begins = pictures_begin s frame more in
          let session = own_session_heard settings small indices pictures many (fits settings small indices frames can.sound can.few) frames refl begins.0 begins.1 (ap (all_pictures s) are ∙ begins.2) in
          frames_of_session session.0 session.1
