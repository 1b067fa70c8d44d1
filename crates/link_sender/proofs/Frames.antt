-- The pictures of a frame, encoded one after another, and what is sent of them.
use Rattle.std.proofs.Common.{◌≡◌, ℕ, ◌+◌, ◌*◌, ◌≤◌, Bool, List, [], ◌∷◌, ◌++◌, length, map, take, drop, Option, None, refl, sym, ap, subst, ◌∙◌, arith, append_assoc, All, true, false}
use Rattle.std.specs.List.{AllZip, enumerate_from, flat_map, range_with_len}
use Rattle.std.specs.Option.{option_or}
use Rattle.std.proofs.lemmas.List.{length-map, take_all, take-append-drop}
use Rattle.std.proofs.lemmas.List.Concat.{flat_map-cons}
use Rattle.std.proofs.lemmas.List.Elements.{All-nil, All-cons}
use Rattle.std.proofs.lemmas.List.FromFn.{length-map-range_with_len, take-map-range_with_len}
use Rattle.std.proofs.lemmas.Slice.Zip.{AllZip-long}
use Rattle.std.proofs.Math.Seq.{take-append_seam, drop-append_seam}
use Rattle.std.proofs.lemmas.Grind.{common_steps}
use Rattle.link_model.specs.Sending.{Outgoing, datagrams_from, frame_datagrams, frame_needs, picture_outgoing, pictures_of, pictures_outgoing, pictures_per_frame}
use Rattle.link_model.specs.SendingFaults.{SendFault, first_of_slices, first_sample_fault, first_slice_fault, send_fault}
use Rattle.link_model.specs.SendingPictures.{Need, need_of, picture_needs, sent_parameters, sent_slice, sent_slices, IsFrame}
use Rattle.link_sender.specs.declared.datagram.Datagram.{Datagram}
use Rattle.link_sender.specs.declared.encoding.FrameSlices.{FrameSlices}
use Rattle.link_sender.specs.declared.refusal.SendRefusal.{SendRefusal}
use Rattle.link_sender.specs.declared.refusal.SendRefusal.TheVariants as sender
use Rattle.link_sender.specs.Packing.{bytes_of_all}
use Rattle.link_sender.specs.Refusals.{SaysFault, of_slices}
use Rattle.link_sender.specs.Sent.{AreEncoded, ArePictures, IsPicture, IsRefused, IsSent, Numbers, OneIsTooLarge, coded_frame_outgoing, coded_outgoing, coded_pictures_outgoing, numbers_behind, slices_by_picture}
use Rattle.link_sender.proofs.SampleFaults.{none_rest, says_first, says_rest}
use Rattle.picture_encode.specs.declared.refusal.SliceRefusal.{SliceRefusal}
use Rattle.picture_encode.specs.declared.refusal.SliceRefusal.TheVariants.{SliceTooLarge, NoMemory}
use Rattle.picture_encode.specs.IndexedSlices.{IndexedSlice}
use Rattle.picture_encode.specs.Encoded.{Chooses, AreFirstAnswers, AreFirstSlices, IsRefusedPicture, indices_of, bytes_of_slices}
use Rattle.picture_encode.specs.Refusals.{Tells}
use Rattle.vc_types.specs.Planes.{Planes}
use Rattle.vc_types.specs.SenderSettings.{Sending}
use Rattle.vc_types.specs.Subbands.{slice_count}
use Rattle.link_sender.proofs.FramePictures.{whole_frame, one_picture, earlier_can, later_can, two_pictures}
use Rattle.picture_encode.specs.Shapes.{CanBeTransformed}
use Rattle.vc_types.specs.FieldPairs.{fields_of}
use Rattle.vc_types.specs.TransformParameters.{Parameters}

zip_join : {A B : Type 0} (R : A → B → Type 0) (xs : List A) (ys : List B) (us : List A) (vs : List B) → AllZip R xs ys → AllZip R us vs → AllZip R (xs ++ us) (ys ++ vs)
zip_join R [] [] us vs h k = k
zip_join R [] (y ∷ ys) us vs h k = absurd h
zip_join R (x ∷ xs) [] us vs h k = absurd h
zip_join R (x ∷ xs) (y ∷ ys) us vs h k = (h.0, zip_join R xs ys us vs h.1 k)

module _ (choice : Chooses) (wanted : Bool) (s : Sending) where
  abbrev count : ℕ
  count = slice_count (sent_parameters s)

  abbrev needs : Planes → List Need
  needs planes = picture_needs s wanted planes

  needs_are : (planes : Planes) → needs planes ≡ map (need_of s wanted planes) (range_with_len 0 count)
  unfolding picture_needs
  needs_are planes = refl

  how_many : (planes : Planes) (n : ℕ) (indices : List ℕ) → AreFirstAnswers choice wanted s planes n indices → length indices ≡ n
  how_many planes n indices answers = AllZip-long choice (map (need_of s wanted planes) (range_with_len 0 n)) indices answers ∙ length-map-range_with_len (need_of s wanted planes) 0 n

  -- ---- indices of a picture, and those of the pictures behind it

  module _ (planes : Planes) (own more : List ℕ) (whole : length own ≡ count) where
    taken : take count (own ++ more) ≡ own
    taken = ap (λ n. take n (own ++ more)) (sym whole) ∙ take-append_seam own more

    left : drop count (own ++ more) ≡ more
    left = ap (λ n. drop n (own ++ more)) (sym whole) ∙ drop-append_seam own more

    next_fault : (pictures : List Planes) → first_of_slices s planes (enumerate_from 0 own) ≡ None → first_slice_fault s (own ++ more) (planes ∷ pictures) ≡ first_slice_fault s more pictures
    unfolding first_slice_fault
    next_fault pictures none =
        (λ i. option_or (first_of_slices s planes (enumerate_from 0 (taken i))) (first_slice_fault s (left i) pictures))
        ∙ ap (λ (o : Option SendFault). option_or o (first_slice_fault s more pictures)) none

    slices_are : (bytes : List (List ℕ)) → bytes ≡ map (λ z. sent_slice (sent_parameters s) planes z.0 z.1) (enumerate_from 0 own) → bytes ≡ sent_slices (sent_parameters s) planes (own ++ more)
    unfolding sent_slices
    slices_are bytes is = is ∙ ap (λ l. map (λ z. sent_slice (sent_parameters s) planes z.0 z.1) (enumerate_from 0 l)) (sym taken)

    next_outgoing : (picture : ℕ) (pictures : List Planes) (bytes : List (List ℕ)) (rest : List Outgoing) → bytes ≡ map (λ z. sent_slice (sent_parameters s) planes z.0 z.1) (enumerate_from 0 own) → rest ≡ pictures_outgoing s (picture + 1) more pictures
        → coded_outgoing s picture bytes ++ rest ≡ pictures_outgoing s picture (own ++ more) (planes ∷ pictures)
    unfolding pictures_outgoing picture_outgoing
    next_outgoing picture pictures bytes rest is behind = λ i. coded_outgoing s picture (slices_are bytes is i) ++ (behind ∙ ap (λ l. pictures_outgoing s (picture + 1) l pictures) (sym left)) i

  -- ---- all pictures

  record AreAnswered (pictures : List Planes) (coded : List (List IndexedSlice)) : Type 0 where
    indices : List ℕ
    answers : AllZip choice (flat_map needs pictures) indices
    fit : first_slice_fault s indices pictures ≡ None
    outgoing_are : (picture : ℕ) → coded_pictures_outgoing s picture coded ≡ pictures_outgoing s picture indices pictures

  no_picture : AreAnswered [] []
  unfolding first_slice_fault pictures_outgoing
  no_picture = record { indices = []; answers = tt; fit = refl; outgoing_are = λ picture. refl }

  all_answered : (pictures : List Planes) (coded : List (List IndexedSlice)) → AreEncoded choice wanted s pictures coded → AreAnswered pictures coded
  all_answered [] [] are = no_picture
  all_answered [] (slices ∷ coded) are = absurd are
  all_answered (planes ∷ pictures) [] are = absurd are
  all_answered (planes ∷ pictures) (slices ∷ coded) are =
      let first : AreFirstSlices choice wanted s planes count slices = are.0 in
      let rest = all_answered pictures coded are.1 in
      let own = indices_of slices in
      let whole = how_many planes count own first.answers in
      record {
        indices = own ++ rest.indices;
        answers =
            subst (λ l. AllZip choice l (own ++ rest.indices)) (sym (flat_map-cons needs planes pictures))
            (zip_join choice (needs planes) own (flat_map needs pictures) rest.indices (subst (λ l. AllZip choice l own) (sym (needs_are planes)) first.answers) rest.answers);
        fit = next_fault planes own rest.indices whole pictures first.fit ∙ rest.fit;
        outgoing_are = λ picture. next_outgoing planes own rest.indices whole picture pictures (bytes_of_slices slices) (coded_pictures_outgoing s (picture + 1) coded) first.bytes_are (rest.outgoing_are (picture + 1));
      }

  -- ---- a picture that is refused

  told : (planes : Planes) (pictures : List Planes) (indices : List ℕ) (e : SliceRefusal) → length indices ≤ count → Tells (first_of_slices s planes (enumerate_from 0 indices)) e → Tells (first_slice_fault s indices (planes ∷ pictures)) e
  unfolding first_slice_fault
  told planes pictures indices (SliceTooLarge slice bytes) few is =
      ap (λ l. option_or (first_of_slices s planes (enumerate_from 0 l)) (first_slice_fault s (drop count indices) pictures)) (take_all count indices few)
      ∙ ap (λ (o : Option SendFault). option_or o (first_slice_fault s (drop count indices) pictures)) is
  told planes pictures indices NoMemory few is = tt

  behind_told : (planes : Planes) (pictures : List Planes) (own more : List ℕ) (e : SliceRefusal) → length own ≡ count → first_of_slices s planes (enumerate_from 0 own) ≡ None → Tells (first_slice_fault s more pictures) e → Tells (first_slice_fault s (own ++ more) (planes ∷ pictures)) e
  behind_told planes pictures own more (SliceTooLarge slice bytes) whole none is = next_fault planes own more whole pictures none ∙ is
  behind_told planes pictures own more NoMemory whole none is = tt

  pub first_refused : (planes : Planes) (pictures : List Planes) (e : SliceRefusal) → IsRefusedPicture choice wanted s planes e → OneIsTooLarge choice wanted s (planes ∷ pictures) e
  first_refused planes pictures e is =
      let need = need_of s wanted planes in
      let asked = map need (range_with_len 0 is.count) in
      let few : length is.indices ≤ count = (let long = how_many planes is.count is.indices is.answers in omega (arith, long, is.some)) in
      let parts : needs planes ≡ asked ++ drop is.count (needs planes) =
      sym (take-append-drop is.count (needs planes))
      ∙ ap (λ l. l ++ drop is.count (needs planes)) (ap (take is.count) (needs_are planes) ∙ take-map-range_with_len need 0 count is.count is.some) in
      record {
        asked = asked;
        rest = drop is.count (needs planes) ++ flat_map needs pictures;
        indices = is.indices;
        needs =
            flat_map-cons needs planes pictures
            ∙ ap (λ l. l ++ flat_map needs pictures) parts
            ∙ append_assoc asked (drop is.count (needs planes)) (flat_map needs pictures);
        answers = is.answers;
        fault = told planes pictures is.indices e few is.fault;
      }

  pub later_refused : (planes : Planes) (slices : List IndexedSlice) (pictures : List Planes) (e : SliceRefusal) → AreFirstSlices choice wanted s planes count slices → OneIsTooLarge choice wanted s pictures e → OneIsTooLarge choice wanted s (planes ∷ pictures) e
  later_refused planes slices pictures e first is =
      let own = indices_of slices in
      record {
        asked = needs planes ++ is.asked;
        rest = is.rest;
        indices = own ++ is.indices;
        needs =
            flat_map-cons needs planes pictures
            ∙ ap (λ l. needs planes ++ l) is.needs
            ∙ sym (append_assoc (needs planes) is.asked is.rest);
        answers = zip_join choice (needs planes) own is.asked is.indices (subst (λ l. AllZip choice l own) (sym (needs_are planes)) first.answers) is.answers;
        fault = behind_told planes pictures own is.indices e (how_many planes count own first.answers) first.fit is.fault;
      }

  pub none_for_slices : (pictures : List Planes) → OneIsTooLarge choice wanted s pictures NoMemory
  none_for_slices pictures = record { asked = []; rest = flat_map needs pictures; indices = []; needs = refl; answers = tt; fault = tt }

  -- ---- what the code needs of encoded pictures

  count_is : count ≡ s.across * s.down
  unfolding sent_parameters
  count_is = refl

  pub is_picture : (planes : Planes) (slices : List IndexedSlice) → AreFirstSlices choice wanted s planes count slices → IsPicture s slices
  is_picture planes slices first = grind (arith, common_steps, length-map, how_many, count_is)

  each_picture : (pictures : List Planes) (coded : List (List IndexedSlice)) → AreEncoded choice wanted s pictures coded → All (IsPicture s) coded
  each_picture [] [] are = All-nil (IsPicture s)
  each_picture [] (slices ∷ coded) are = absurd are
  each_picture (planes ∷ pictures) [] are = absurd are
  each_picture (planes ∷ pictures) (slices ∷ coded) are = All-cons (IsPicture s) slices coded (is_picture planes slices are.0) (each_picture pictures coded are.1)

  how_many_pictures : (frame : Planes) → length (pictures_of s frame) ≡ pictures_per_frame s
  unfolding pictures_of
  how_many_pictures frame = grind (arith, common_steps)

  module _ (frame : Planes) (coded : FrameSlices) (are : AreEncoded choice wanted s (pictures_of s frame) (slices_by_picture coded)) where
    pub are_pictures : ArePictures s coded
    are_pictures = record {
      many = AllZip-long (λ planes slices. AreFirstSlices choice wanted s planes count slices) (pictures_of s frame) (slices_by_picture coded) are ∙ how_many_pictures frame;
      each = each_picture (pictures_of s frame) (slices_by_picture coded) are;
    }

    pub is_sent : (old new : Numbers) (datagrams : List Datagram) → first_sample_fault s frame ≡ None
        → bytes_of_all datagrams ≡ datagrams_from s old.number (coded_frame_outgoing s old.frame coded)
        → new ≡ numbers_behind s old (length datagrams) → IsSent choice wanted s frame old new datagrams
    unfolding frame_needs frame_datagrams send_fault
    is_sent old new datagrams samples sent behind = grind (arith, common_steps, all_answered, none_rest)

  -- ---- a frame that is refused

  said : (fault : Option SendFault) (e : SliceRefusal) → Tells fault e → SaysFault fault (of_slices e)
  said fault (SliceTooLarge slice bytes) is = is
  said fault NoMemory is = tt

  pub slices_refuse : (frame : Planes) (e : SliceRefusal) → first_sample_fault s frame ≡ None → OneIsTooLarge choice wanted s (pictures_of s frame) e → IsRefused choice wanted s frame (of_slices e)
  unfolding frame_needs send_fault
  slices_refuse frame e samples is = grind (arith, common_steps, says_rest, said)

  pub samples_refuse : (frame : Planes) (e : SendRefusal) → SaysFault (first_sample_fault s frame) e → IsRefused choice wanted s frame e
  unfolding send_fault
  samples_refuse frame e is = record {
    asked = [];
    rest = frame_needs s wanted frame;
    indices = [];
    needs = refl;
    answers = tt;
    fault = says_first (first_sample_fault s frame) (first_slice_fault s [] (pictures_of s frame)) e is;
  }

  pub none_for_frame : (frame : Planes) → IsRefused choice wanted s frame sender.NoMemory
  none_for_frame frame = record { asked = []; rest = frame_needs s wanted frame; indices = []; needs = refl; answers = tt; fault = tt }

-- ---- encoded frames

module _ (choice : Chooses) (wanted : Bool) (s : Sending) (frame : Planes) (is : IsFrame s frame) (sound : first_sample_fault s frame ≡ None) (p : Parameters) (own : p ≡ sent_parameters s) where
  abbrev Encoded : Planes → List IndexedSlice → Type 0
  Encoded planes slices = AreFirstSlices choice wanted s planes (slice_count p) slices

  of_settings : (planes : Planes) (slices : List IndexedSlice) → Encoded planes slices → AreFirstSlices choice wanted s planes (slice_count (sent_parameters s)) slices
  of_settings planes slices are = subst (λ (q : Parameters). AreFirstSlices choice wanted s planes (slice_count q) slices) own are

  by_plan : (planes : Planes) → CanBeTransformed (sent_parameters s) planes → CanBeTransformed p planes
  by_plan planes can = subst (λ (q : Parameters). CanBeTransformed q planes) (sym own) can

  pub none : OneIsTooLarge choice wanted s (pictures_of s frame) NoMemory
  none = none_for_slices choice wanted s (pictures_of s frame)

  -- ---- a frame that is one picture

  module _ (single : s.frames.fields ≡ false) where
    pub whole_can : CanBeTransformed p frame
    whole_can = by_plan frame (whole_frame s frame is sound single)

    pub whole_refused : (e : SliceRefusal) → IsRefusedPicture choice wanted s frame e → OneIsTooLarge choice wanted s (pictures_of s frame) e
    whole_refused e refused = subst (λ (l : List Planes). OneIsTooLarge choice wanted s l e) (sym (one_picture s frame is sound single)) (first_refused choice wanted s frame [] e refused)

    pub whole_encoded : (slices : List IndexedSlice) → Encoded frame slices → AreEncoded choice wanted s (pictures_of s frame) (slices ∷ [])
    whole_encoded slices are = subst (λ (l : List Planes). AreEncoded choice wanted s l (slices ∷ [])) (sym (one_picture s frame is sound single)) (of_settings frame slices are, tt)

  -- ---- a frame of two fields

  module _ (earlier later : Planes) (double : s.frames.fields ≡ true) (are : (earlier, later) ≡ fields_of s.frames.top frame) where
    pub first_can : CanBeTransformed p earlier
    first_can = by_plan earlier (earlier_can s frame is sound earlier later double are)

    pub second_can : CanBeTransformed p later
    second_can = by_plan later (later_can s frame is sound earlier later double are)

    pictures : pictures_of s frame ≡ earlier ∷ later ∷ []
    pictures = two_pictures s frame is sound earlier later double are

    pub first_field_refused : (e : SliceRefusal) → IsRefusedPicture choice wanted s earlier e → OneIsTooLarge choice wanted s (pictures_of s frame) e
    first_field_refused e refused = subst (λ (l : List Planes). OneIsTooLarge choice wanted s l e) (sym pictures) (first_refused choice wanted s earlier (later ∷ []) e refused)

    pub second_field_refused : (first : List IndexedSlice) (e : SliceRefusal) → Encoded earlier first → IsRefusedPicture choice wanted s later e → OneIsTooLarge choice wanted s (pictures_of s frame) e
    second_field_refused first e encoded refused =
        subst (λ (l : List Planes). OneIsTooLarge choice wanted s l e) (sym pictures)
        (later_refused choice wanted s earlier first (later ∷ []) e (of_settings earlier first encoded) (first_refused choice wanted s later [] e refused))

    pub fields_encoded : (first second : List IndexedSlice) → Encoded earlier first → Encoded later second → AreEncoded choice wanted s (pictures_of s frame) (first ∷ second ∷ [])
    fields_encoded first second one two =
        subst (λ (l : List Planes). AreEncoded choice wanted s l (first ∷ second ∷ [])) (sym pictures) (of_settings earlier first one, (of_settings later second two, tt))
