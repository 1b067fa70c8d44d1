-- A picture of which all is there in time is complete, and its whole bytes are those that were sent.
use Rattle.std.proofs.Common.{◌≡◌, ◌<◌, ◌≤◌, ℕ, ◌+◌, ◌*◌, ◌^◌, List, ◌∷◌, ◌++◌, length, drop, map, Some, refl, sym, ap, subst, ◌∙◌, arith, All, inl, inr, slice_get, filter_map, zero-add}
use Rattle.std.proofs.lemmas.List.Elements.{All-weaker}
use Rattle.std.proofs.lemmas.Option.{same_Some, slice_get_within}
use Rattle.link_laws.specs.HeardStreams.{IsHeardOf, IsHeardInTime, IsNumberOf, entered_of}
use Rattle.link_laws.proofs.Among.{IsAmong, among_first, among_later, among_map, among_at}
use Rattle.link_laws.proofs.EnteredNumbers.{IsSentFragment, AreEntries, entered_are, opened_number, parts_are}
use Rattle.link_laws.proofs.FittingRuns.{run_fits, all_slices, run_taken_again}
use Rattle.link_laws.proofs.FramePictures.{all_pictures, length-all_pictures, no_slice_fault, AreFaultless}
use Rattle.link_laws.proofs.HeardFragments.{IsPartOf, heard_as_own, own_session, all_heard}
use Rattle.link_laws.proofs.InTime.{entered_is, in_time}
use Rattle.link_laws.proofs.OwnParts.{IsOwnPart, whole_picture-own, sent_part}
use Rattle.link_laws.proofs.SentStream.{AreSoundPictures, are_sound, IsOfPicture, IsContent, among_pictures, count, runs_at}
use Rattle.link_laws.proofs.SentFragments.{parameters_heard, slices_heard}
use Rattle.link_sender.proofs.Heads.{short_parameters_of}
use Rattle.link_model.specs.Complete.{whole_picture}
use Rattle.link_model.specs.Kept.{SliceRun, part_slices, waiting_limit}
use Rattle.link_model.specs.Numbers.{Numbered, is_opened, entered, parts_of}
use Rattle.link_model.specs.Sending.{DatagramContent, ParametersContent, SlicesContent, HeaderContent, EndContent, Outgoing, outgoing, frames_outgoing, number_bits, pictures_per_frame, sent_datagram, sent_stream, FitsDatagram}
use Rattle.link_model.specs.SendingPictures.{sent_sequence, sent_parameters, sent_parameter_bytes, sent_slices, slice_room}
use Rattle.link_model.specs.Session.{Part, ParamsPart, SlicesPart, HeardSession, fragment_in}
use Rattle.link_model.proofs.SentDatagrams.{are_settings}
use Rattle.link_model.proofs.SentHeads.{coded_parameters-sent}
use Rattle.vc_types.specs.declared.settings.SendSettings.{SendSettings}
use Rattle.vc_types.specs.Fields.{joined}
use Rattle.vc_types.specs.Planes.{Planes}
use Rattle.vc_types.specs.SenderSettings.{Sending, sending_view}
use Rattle.vc_types.specs.Subbands.{slice_count}
use Rattle.vc_types.specs.TransformParameters.{Parameters}

module _ (settings : SendSettings) (small : settings.ssrc < 2 ^ 32) (indices : List ℕ) (frames : List Planes) (faultless : AreFaultless (sending_view settings) indices frames) (few : length frames * pictures_per_frame (sending_view settings) < 2 ^ 31) where
  abbrev s : Sending
  s = sending_view settings

  abbrev p : Parameters
  p = sent_parameters s

  abbrev bytes : List ℕ
  bytes = sent_parameter_bytes s

  abbrev pictures : List Planes
  pictures = all_pictures s frames

  pub few_pictures : length pictures < 2 ^ 31
  few_pictures = omega (arith, few, length-all_pictures s frames)

  sound : AreSoundPictures s indices pictures
  sound = are_sound s indices pictures (no_slice_fault s indices frames faultless)

  -- all that is sent fits its datagrams
  content_fits : (c : DatagramContent) (number : ℕ) (planes : Planes) → slice_get pictures number ≡ Some planes → IsContent s (runs_at s indices number planes) c → FitsDatagram s c
  content_fits HeaderContent number planes at is = tt
  content_fits ParametersContent number planes at is = omega (arith, short_parameters_of settings)
  content_fits (SlicesContent run) number planes at is = run_fits settings planes (drop (number * count s) indices) (sound number planes at) run is
  content_fits EndContent number planes at is = absurd is

  pub fits : (o : Outgoing) → IsOfPicture s 0 indices pictures o → FitsDatagram s o.content
  fits o is = content_fits o.content is.number is.planes is.at is.content

  abbrev pub IsPart : ℕ → Part → Type 0
  IsPart = IsPartOf settings small indices pictures few_pictures fits

  module _ (window : ℕ) (some : 1 ≤ window) (datagrams : List (List ℕ)) (h : HeardSession) (heard : IsHeardOf s (sent_stream s indices frames) datagrams h) where
    pub fragments_sent : All (IsSentFragment s IsPart) h.fragments
    fragments_sent = all_heard settings small indices pictures few_pictures fits frames refl datagrams h heard

    pub entries_are : AreEntries s IsPart (entered (2 ^ 32) window h.fragments)
    entries_are = entered_are s IsPart window h.fragments fragments_sent

  module _ (j : ℕ) (planes : Planes) (at : slice_get pictures j ≡ Some planes) (zeros : (k : ℕ) → k < slice_count p → slice_get (drop (j * count s) indices) k ≡ Some 0) where
    abbrev own_indices : List ℕ
    own_indices = drop (j * count s) indices

    abbrev runs : List SliceRun
    runs = runs_at s indices j planes

    pub j_few : j < 2 ^ 31
    j_few = omega (arith, few_pictures, slice_get_within pictures j planes at)

    -- ---- from its parts

    pub whole_from_parts : (front rest : List Part) → All (IsOwnPart p bytes runs) (front ++ ParamsPart bytes ∷ rest) → length (filter_map part_slices front) ≤ waiting_limit
        → ((run : SliceRun) → IsAmong runs run → IsAmong (front ++ ParamsPart bytes ∷ rest) (SlicesPart (sent_part p run)))
        → whole_picture (sent_sequence s) (front ++ ParamsPart bytes ∷ rest) ≡ Some (bytes ++ joined (sent_slices p planes own_indices))
    whole_from_parts front rest all short each = whole_picture-own (sent_sequence s) p bytes (coded_parameters-sent settings) runs
        (run_taken_again settings planes own_indices (sound j planes at) zeros) (slice_room s) (sent_slices p planes own_indices) refl
        (all_slices settings planes own_indices (sound j planes at) zeros) front rest all short each

    -- ---- from datagrams

    sent_place : (c : DatagramContent) → IsAmong (HeaderContent ∷ ParametersContent ∷ map SlicesContent runs) c → (k : ℕ) × (slice_get (frames_outgoing s indices frames) k ≡ Some (outgoing j c))
    sent_place c is =
        let among : IsAmong (frames_outgoing s indices frames) (outgoing j c) =
        subst (λ (n : ℕ). IsAmong (frames_outgoing s indices frames) (outgoing n c)) (zero-add j)
        (among_pictures s 0 indices pictures j planes at c is) in
        (length among.0, among_at (outgoing j c) (frames_outgoing s indices frames) among)

    slices_place : (run : SliceRun) → IsAmong runs run → (k : ℕ) × (slice_get (frames_outgoing s indices frames) k ≡ Some (outgoing j (SlicesContent run)))
    slices_place run is = sent_place (SlicesContent run) (among_later HeaderContent (SlicesContent run) (ParametersContent ∷ map SlicesContent runs) (among_later ParametersContent (SlicesContent run) (map SlicesContent runs) (among_map SlicesContent run runs is)))

    module _ (window : ℕ) (some : 1 ≤ window) (datagrams : List (List ℕ)) (h : HeardSession) (heard : IsHeardOf s (sent_stream s indices frames) datagrams h) where
      abbrev pub all_sent_fragments : All (IsSentFragment s IsPart) h.fragments
      all_sent_fragments = fragments_sent window some datagrams h heard

      abbrev pub are : AreEntries s IsPart (entered (2 ^ 32) window h.fragments)
      are = entries_are window some datagrams h heard

      abbrev parts : List Part
      parts = parts_of (are.first + j) (entered (2 ^ 32) window h.fragments)

      abbrev part_sent : (part : Part) → IsOwnPart p bytes runs part → IsSentFragment s IsPart (record { number = number_bits s j; part = part })
      part_sent part own = record { picture = j; few = j_few; number = refl; part = (planes, at, own) }

      heard_as : (k : ℕ) (c : DatagramContent) (part : Part) → fragment_in (own_session settings small indices pictures few_pictures fits) (sent_datagram s (s.seq + k) (outgoing j c)) ≡ Some (record { number = number_bits s j; part = part })
          → fragment_in h.session (sent_datagram s (s.seq + k) (outgoing j c)) ≡ Some (record { number = number_bits s j; part = part })
      heard_as k c part is = heard_as_own settings small indices pictures few_pictures fits frames refl datagrams h heard (sent_datagram s (s.seq + k) (outgoing j c)) ∙ is

      own_parts : All (IsOwnPart p bytes runs) parts
      own_parts = All-weaker (IsPart j) (IsOwnPart p bytes runs)
          (λ part is. subst (λ (q : Planes). IsOwnPart p bytes (runs_at s indices j q) part) (same_Some is.0 planes (sym is.1 ∙ at)) is.2)
          parts (parts_are s IsPart are.first are.bits (entered (2 ^ 32) window h.fragments) j are.all)

      module _ (time : IsHeardInTime window s indices frames datagrams j (are.first + j)) where
        parameters_there : (front : List Part) × (rest : List Part) × (parts ≡ front ++ ParamsPart bytes ∷ rest) × (length (filter_map part_slices front) ≤ waiting_limit)
        parameters_there =
            let k = (sent_place ParametersContent (among_later HeaderContent ParametersContent (ParametersContent ∷ map SlicesContent runs) (among_first ParametersContent (map SlicesContent runs)))) in
            let t = time.parameters k.0 k.1 in
            let part : Part = ParamsPart bytes in
            let is = heard_as k.0 ParametersContent part (parameters_heard settings (are_settings settings small) (s.seq + k.0) j (omega (arith, short_parameters_of settings))) in
            let e = in_time s IsPart window some datagrams h heard.one all_sent_fragments are.first are.bits are.low are.all
            (sent_datagram s (s.seq + k.0) (outgoing j ParametersContent)) (record { number = number_bits s j; part = part }) is (part_sent part (inl refl)) t.0 t.1 in
            (e.front, e.rest, e.is, omega (arith, e.few, t.2))

        slices_there : (run : SliceRun) → IsAmong runs run → IsAmong parts (SlicesPart (sent_part p run))
        slices_there run among =
            let k = slices_place run among in
            let t = time.slices k.0 run k.1 in
            let part : Part = SlicesPart (sent_part p run) in
            let is = heard_as k.0 (SlicesContent run) part (slices_heard settings (are_settings settings small) (s.seq + k.0) j run (run_fits settings planes own_indices (sound j planes at) run among)) in
            let e = in_time s IsPart window some datagrams h heard.one all_sent_fragments are.first are.bits are.low are.all
            (sent_datagram s (s.seq + k.0) (outgoing j (SlicesContent run))) (record { number = number_bits s j; part = part }) is (part_sent part (inr (run, among, refl))) t.0 t.1 in
            (e.front, e.rest, e.is)

        whole_first : whole_picture (sent_sequence s) parts ≡ Some (bytes ++ joined (sent_slices p planes own_indices))
        whole_first =
            let there = parameters_there in
            ap (whole_picture (sent_sequence s)) there.2
            ∙ whole_from_parts there.0 there.1 (subst (λ (l : List Part). All (IsOwnPart p bytes runs) l) there.2 own_parts) there.3
            (λ run among. subst (λ (l : List Part). IsAmong l (SlicesPart (sent_part p run))) there.2 (slices_there run among))

      -- the number that it has
      pub number_is : (number : ℕ) → IsNumberOf s (entered_of window h) j number → number ≡ are.first + j
      number_is number is = opened_number s IsPart are.first are.bits (entered (2 ^ 32) window h.fragments) number j are.all
          (ap (λ (l : List Numbered). is_opened l number) (sym (entered_is window h)) ∙ is.opened) j_few is.bits

      -- so the picture is whole, by any number that is its own
      pub whole_received : (number : ℕ) → number ≡ are.first + j → IsHeardInTime window s indices frames datagrams j number
          → whole_picture (sent_sequence s) (parts_of number (entered_of window h)) ≡ Some (bytes ++ joined (sent_slices p planes own_indices))
      whole_received number same time = grind (arith, entered_is, whole_first)
