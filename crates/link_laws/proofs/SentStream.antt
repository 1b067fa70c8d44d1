-- What is in a sender's stream: the datagrams of its pictures, one picture after another, and the end.
use Rattle.std.proofs.Common.{◌≡◌, ℕ, zero, suc, ◌+◌, ◌-◌, ◌*◌, List, [], ◌∷◌, ◌++◌, map, drop, length, Some, refl, sym, ap, ◌∙◌, subst, arith, All, inl, inr, ◌⊎◌, slice_get, drop-drop, suc-mul, add-zero, zero-mul, ◌<◌, ◌≤◌, false, take, get_or, Option, None, nat_lt}
use Rattle.std.specs.List.{enumerate_from, flat_map}
use Rattle.std.proofs.lemmas.List.Elements.{All-append, All-cons, All-nil, All-head, All-tail, All-map, All-weaker}
use Rattle.std.proofs.lemmas.Option.{none-some, same_Some}
use Rattle.link_model.specs.Kept.{SliceRun}
use Rattle.link_model.specs.Sending.{Outgoing, outgoing, DatagramContent, HeaderContent, ParametersContent, SlicesContent, EndContent, picture_runs, picture_outgoing, pictures_outgoing, pictures_of, pictures_per_frame, datagrams_from, frames_outgoing, sent_datagram, sent_datagrams, end_datagram, last_datagram, sent_stream}
use Rattle.link_model.specs.SendingPictures.{sent_parameters, sent_coefficients, sent_length, sent_slice, sent_slices, slices_with_indices, slice_room}
use Rattle.link_laws.proofs.Among.{IsAmong, among_first, among_later, among_before, among_behind, among_map}
use Rattle.vc_types.specs.Planes.{Planes}
use Rattle.vc_types.specs.SenderSettings.{Sending}
use Rattle.vc_types.specs.Subbands.{slice_count}
use Rattle.std.specs.Option.{option_or}
use Rattle.std.proofs.lemmas.Bool.{or_parts, ltb-false, cond-true, cond-false}
use Rattle.std.proofs.lemmas.List.{length-map}
use Rattle.std.proofs.lemmas.List.FromFn.{length-enumerate_from}
use Rattle.link_model.specs.SendingFaults.{first_outside, is_too_large, first_of_slices, first_slice_fault, send_fault, first_sample_fault}
use Rattle.link_model.proofs.PackedBits.{length-packed_bits}
use Rattle.vc_slice.proofs.EncodedSlices.{length_slice}
use Rattle.vc_types.specs.Encoding.{encoded_length, is_too_long}

-- ---- the stream

pub all_among : {A : Type 0} (xs : List A) → All (IsAmong xs) xs
all_among [] = All-nil (IsAmong [])
all_among (x ∷ xs) = All-cons (IsAmong (x ∷ xs)) x xs (among_first x xs) (All-weaker (IsAmong xs) (IsAmong (x ∷ xs)) (λ y is. among_later x y xs is) xs (all_among xs))

pub all_enumerated : {A : Type 0} (P : A → Type 0) (n : ℕ) (xs : List A) → All P xs → All (λ (z : ℕ × A). P z.1) (enumerate_from n xs)
all_enumerated {A} P n [] all = All-nil (λ (z : ℕ × A). P z.1)
all_enumerated {A} P n (x ∷ xs) all = All-cons (λ (z : ℕ × A). P z.1) (n, x) (enumerate_from (n + 1) xs) (All-head P x xs all) (all_enumerated P (n + 1) xs (All-tail P x xs all))

one_more : (number count : ℕ) → count + number * count ≡ suc number * count
one_more number count = omega (arith, suc-mul number count)

next_number : (first number : ℕ) → first + 1 + number ≡ first + suc number
next_number first number = omega arith

module _ (s : Sending) where
  abbrev pub count : ℕ
  count = slice_count (sent_parameters s)

  -- the runs of a picture's slices, by its place
  abbrev pub runs_at : List ℕ → ℕ → Planes → List SliceRun
  runs_at indices number planes = picture_runs s (drop (number * count) indices) planes

  pub runs_later : (indices : List ℕ) (number : ℕ) (planes : Planes) → runs_at (drop count indices) number planes ≡ runs_at indices (suc number) planes
  runs_later indices number planes = ap (λ (l : List ℕ). picture_runs s l planes) (drop-drop (number * count) count indices ∙ ap (λ (n : ℕ). drop n indices) (one_more number count))

  abbrev pub IsContent : List SliceRun → DatagramContent → Type 0
  IsContent runs HeaderContent = Unit {0}
  IsContent runs ParametersContent = Unit {0}
  IsContent runs (SlicesContent run) = IsAmong runs run
  IsContent runs EndContent = ⊥

  -- it is sent of a picture, of some pictures whose first has this number
  pub record IsOfPicture (first : ℕ) (indices : List ℕ) (pictures : List Planes) (o : Outgoing) : Type 0 where
    pub number : ℕ
    pub planes : Planes
    pub at : slice_get pictures number ≡ Some planes
    pub picture : o.picture ≡ first + number
    pub content : IsContent (runs_at indices number planes) o.content

  pub more_outgoing : (first : ℕ) (indices : List ℕ) (planes : Planes) (pictures : List Planes) → pictures_outgoing s first indices (planes ∷ pictures) ≡ picture_outgoing s first indices planes ++ pictures_outgoing s (first + 1) (drop count indices) pictures
  unfolding pictures_outgoing
  more_outgoing first indices planes pictures = refl

  pub none_outgoing : (first : ℕ) (indices : List ℕ) → pictures_outgoing s first indices [] ≡ []
  unfolding pictures_outgoing
  none_outgoing first indices = refl

  abbrev pub contents : List SliceRun → List DatagramContent
  contents runs = HeaderContent ∷ ParametersContent ∷ map SlicesContent runs

  pub picture_contents : (first : ℕ) (indices : List ℕ) (planes : Planes) → picture_outgoing s first indices planes ≡ map (outgoing first) (contents (picture_runs s indices planes))
  unfolding picture_outgoing
  picture_contents first indices planes = refl

  all_contents : (runs : List SliceRun) → All (IsContent runs) (contents runs)
  all_contents runs = All-cons (IsContent runs) HeaderContent (ParametersContent ∷ map SlicesContent runs) tt
      (All-cons (IsContent runs) ParametersContent (map SlicesContent runs) tt (All-map (IsContent runs) SlicesContent runs (all_among runs)))

  first_of : (first : ℕ) (indices : List ℕ) (planes : Planes) (pictures : List Planes) (c : DatagramContent) → IsContent (picture_runs s indices planes) c → IsOfPicture first indices (planes ∷ pictures) (outgoing first c)
  first_of first indices planes pictures c is = record {
    number = 0;
    planes = planes;
    at = refl;
    picture = sym (add-zero first);
    content = subst (λ (l : List ℕ). IsContent (picture_runs s l planes) c)
        (ap (λ (n : ℕ). drop n indices) (sym (zero-mul count))) is;
  }

  later_of : (first : ℕ) (indices : List ℕ) (planes : Planes) (pictures : List Planes) (o : Outgoing) → IsOfPicture (first + 1) (drop count indices) pictures o → IsOfPicture first indices (planes ∷ pictures) o
  later_of first indices planes pictures o is = record {
    number = suc is.number;
    planes = is.planes;
    at = is.at;
    picture = is.picture ∙ next_number first is.number;
    content = subst (λ (l : List SliceRun). IsContent l o.content) (runs_later indices is.number is.planes) is.content;
  }

  pub all_of_pictures : (first : ℕ) (indices : List ℕ) (pictures : List Planes) → All (IsOfPicture first indices pictures) (pictures_outgoing s first indices pictures)
  all_of_pictures first indices [] = subst (λ (l : List Outgoing). All (IsOfPicture first indices []) l) (sym (none_outgoing first indices)) (All-nil (IsOfPicture first indices []))
  all_of_pictures first indices (planes ∷ pictures) =
      let Is = IsOfPicture first indices (planes ∷ pictures) in
      let front : All Is (map (outgoing first) (contents (picture_runs s indices planes))) =
      All-map Is (outgoing first) (contents (picture_runs s indices planes)) (All-weaker (IsContent (picture_runs s indices planes)) (λ c. Is (outgoing first c)) (first_of first indices planes pictures) (contents (picture_runs s indices planes)) (all_contents (picture_runs s indices planes))) in
      let rest : All Is (pictures_outgoing s (first + 1) (drop count indices) pictures) = All-weaker (IsOfPicture (first + 1) (drop count indices) pictures) Is (later_of first indices planes pictures) (pictures_outgoing s (first + 1) (drop count indices) pictures) (all_of_pictures (first + 1) (drop count indices) pictures) in
      subst (λ (l : List Outgoing). All Is l) (sym (more_outgoing first indices planes pictures))
      (All-append Is (picture_outgoing s first indices planes) (pictures_outgoing s (first + 1) (drop count indices) pictures) (subst (λ (l : List Outgoing). All Is l) (sym (picture_contents first indices planes)) front) rest)

  -- and all that is to be sent of a picture is among it
  pub among_pictures : (first : ℕ) (indices : List ℕ) (pictures : List Planes) (number : ℕ) (planes : Planes) → slice_get pictures number ≡ Some planes
      → (c : DatagramContent) → IsAmong (contents (runs_at indices number planes)) c → IsAmong (pictures_outgoing s first indices pictures) (outgoing (first + number) c)
  among_pictures first indices [] number planes at c is = absurd (none-some planes at)
  among_pictures first indices (own ∷ pictures) zero planes at c is =
      let same : own ≡ planes = same_Some own planes at in
      let here : IsAmong (contents (picture_runs s indices own)) c = subst (λ (q : Planes). IsAmong (contents (picture_runs s indices q)) c) (sym same) (subst (λ (l : List ℕ). IsAmong (contents (picture_runs s l planes)) c) (ap (λ (n : ℕ). drop n indices) (zero-mul count)) is) in
      subst (λ (l : List Outgoing). IsAmong l (outgoing (first + 0) c)) (sym (more_outgoing first indices own pictures))
      (among_before (outgoing (first + 0) c) (picture_outgoing s first indices own) (pictures_outgoing s (first + 1) (drop count indices) pictures)
      (subst (λ (l : List Outgoing). IsAmong l (outgoing (first + 0) c)) (sym (picture_contents first indices own))
      (subst (λ (n : ℕ). IsAmong (map (outgoing first) (contents (picture_runs s indices own))) (outgoing n c))
      (sym (add-zero first)) (among_map (outgoing first) c (contents (picture_runs s indices own)) here))))
  among_pictures first indices (own ∷ pictures) (suc number) planes at c is =
      let there = among_pictures (first + 1) (drop count indices) pictures number planes at c (subst (λ (l : List SliceRun). IsAmong (contents l) c) (sym (runs_later indices number planes)) is) in
      subst (λ (l : List Outgoing). IsAmong l (outgoing (first + suc number) c)) (sym (more_outgoing first indices own pictures))
      (among_behind (outgoing (first + suc number) c) (picture_outgoing s first indices own) (pictures_outgoing s (first + 1) (drop count indices) pictures)
      (subst (λ (n : ℕ). IsAmong (pictures_outgoing s (first + 1) (drop count indices) pictures) (outgoing n c)) (next_number first number) there))

  -- ---- datagrams

  -- a datagram is one of a picture, or the end of the sequence
  pub record IsSent (indices : List ℕ) (pictures : List Planes) (d : List ℕ) : Type 0 where
    pub number : ℕ
    pub o : Outgoing
    pub is : d ≡ sent_datagram s number o
    pub content : IsOfPicture 0 indices pictures o ⊎ (o.content ≡ EndContent)

  of_all : (indices : List ℕ) (pictures : List Planes) (n : ℕ) (os : List Outgoing) → All (IsOfPicture 0 indices pictures) os → All (IsSent indices pictures) (datagrams_from s n os)
  unfolding datagrams_from
  of_all indices pictures n os all = All-map (IsSent indices pictures) (λ (z : ℕ × Outgoing). sent_datagram s z.0 z.1) (enumerate_from n os)
      (All-weaker (λ (z : ℕ × Outgoing). IsOfPicture 0 indices pictures z.1) (λ (z : ℕ × Outgoing). IsSent indices pictures (sent_datagram s z.0 z.1))
      (λ z is. record { number = z.0; o = z.1; is = refl; content = inl is }) (enumerate_from n os) (all_enumerated (IsOfPicture 0 indices pictures) n os all))

  module _ (indices : List ℕ) (frames pictures : List Planes) (are : pictures ≡ flat_map (pictures_of s) frames) where
    end_is : IsSent indices pictures (last_datagram s indices frames)
    unfolding last_datagram end_datagram
    end_is = record { number = s.seq + length (frames_outgoing s indices frames); o = outgoing (length frames * pictures_per_frame s - 1) EndContent; is = refl; content = inr refl }

    all_datagrams : All (IsSent indices pictures) (sent_datagrams s indices frames)
    unfolding sent_datagrams
    all_datagrams = of_all indices pictures s.seq (frames_outgoing s indices frames)
        (subst (λ (l : List Planes). All (IsOfPicture 0 indices pictures) (pictures_outgoing s 0 indices l)) are (all_of_pictures 0 indices pictures))

    pub all_sent : All (IsSent indices pictures) (sent_stream s indices frames)
    unfolding sent_stream
    all_sent = All-append (IsSent indices pictures) (sent_datagrams s indices frames) (last_datagram s indices frames ∷ []) all_datagrams
        (All-cons (IsSent indices pictures) (last_datagram s indices frames) [] end_is (All-nil (IsSent indices pictures)))

-- ---- frames without a fault

-- ---- neither of two

pub neither : {A : Type 0} (a b : Option A) → option_or a b ≡ None → (a ≡ None) × (b ≡ None)
neither a b none = grind (arith, none-some)

-- ---- samples

outside_found : (limit place sample : ℕ) (samples : List ℕ) → nat_lt sample limit ≡ false → first_outside limit place (sample ∷ samples) ≡ None → ⊥
unfolding first_outside
outside_found limit place sample samples outside none = grind (arith, cond-false, none-some)

pub all_inside : (limit place : ℕ) (samples : List ℕ) → 0 < limit → first_outside limit place samples ≡ None → (k : ℕ) → get_or samples k 0 < limit
unfolding first_outside
all_inside limit place [] some none k = some
all_inside limit place (sample ∷ samples) some none zero = grind (arith, outside_found)
all_inside limit place (sample ∷ samples) some none (suc k) =
    grind (arith, outside_found, all_inside limit (place + 1) samples some, cond-true)

-- ---- slices

module _ (s : Sending) (planes : Planes) where
  abbrev pub IsSmall : ℕ × ℕ → Type 0
  IsSmall z = is_too_large s planes z.0 z.1 ≡ false

  pub none_too_large : (zs : List (ℕ × ℕ)) → first_of_slices s planes zs ≡ None → All IsSmall zs
  unfolding first_of_slices
  none_too_large [] none = All-nil IsSmall
  none_too_large (z ∷ zs) none = grind (arith, none_too_large zs, cond-true, none-some, planes, cond-false)

  pub not_too_long : (slice index : ℕ) → is_too_large s planes slice index ≡ false → is_too_long (sent_parameters s) slice index (sent_coefficients (sent_parameters s) planes slice) ≡ false
  unfolding is_too_large
  not_too_long slice index fits = (or_parts (is_too_long (sent_parameters s) slice index (sent_coefficients (sent_parameters s) planes slice)) (nat_lt (slice_room s) (sent_length (sent_parameters s) planes slice index)) fits).0

  in_room : (slice index : ℕ) → is_too_large s planes slice index ≡ false → sent_length (sent_parameters s) planes slice index ≤ slice_room s
  unfolding is_too_large
  in_room slice index fits = ltb-false (slice_room s) (sent_length (sent_parameters s) planes slice index) (or_parts (is_too_long (sent_parameters s) slice index (sent_coefficients (sent_parameters s) planes slice)) (nat_lt (slice_room s) (sent_length (sent_parameters s) planes slice index)) fits).1

  module _ (some : 0 < (sent_parameters s).scaler) where
    -- a slice is as long as is told
    length-sent_slice : (slice index : ℕ) → length (sent_slice (sent_parameters s) planes slice index) ≡ sent_length (sent_parameters s) planes slice index
    unfolding sent_slice sent_length
    length-sent_slice slice index = grind (arith, length-packed_bits, length_slice)

    some_length : (slice index : ℕ) → 1 ≤ sent_length (sent_parameters s) planes slice index
    unfolding sent_length encoded_length
    some_length slice index = omega arith

    -- bytes, but no more than the room
    pub record HasBytes (slice : List ℕ) : Type 0 where
      pub any : 1 ≤ length slice
      pub few : length slice ≤ slice_room s

    pub all_have_bytes : (indices : List ℕ) → first_of_slices s planes (slices_with_indices (sent_parameters s) indices) ≡ None → All HasBytes (sent_slices (sent_parameters s) planes indices)
    unfolding sent_slices
    all_have_bytes indices none = All-map HasBytes (λ z. sent_slice (sent_parameters s) planes z.0 z.1) (slices_with_indices (sent_parameters s) indices)
        (All-weaker IsSmall (λ z. HasBytes (sent_slice (sent_parameters s) planes z.0 z.1))
        (λ z fits. record { any = omega (arith, length-sent_slice z.0 z.1, some_length z.0 z.1); few = omega (arith, length-sent_slice z.0 z.1, in_room z.0 z.1 fits) })
        (slices_with_indices (sent_parameters s) indices) (none_too_large (slices_with_indices (sent_parameters s) indices) none))

  pub length-sent_slices : (indices : List ℕ) → length (sent_slices (sent_parameters s) planes indices) ≡ length (take (slice_count (sent_parameters s)) indices)
  unfolding sent_slices
  length-sent_slices indices = length-map (slices_with_indices (sent_parameters s) indices) (λ z. sent_slice (sent_parameters s) planes z.0 z.1) ∙ length-enumerate_from 0 (take (slice_count (sent_parameters s)) indices)

-- ---- pictures one after another

module _ (s : Sending) where
  -- the slices of each picture fit at its own indices
  abbrev pub AreSoundPictures : List ℕ → List Planes → Type 0
  AreSoundPictures indices pictures = (j : ℕ) (planes : Planes) → slice_get pictures j ≡ Some planes
      → first_of_slices s planes (slices_with_indices (sent_parameters s) (drop (j * count s) indices)) ≡ None

  fault_more : (indices : List ℕ) (planes : Planes) (pictures : List Planes) → first_slice_fault s indices (planes ∷ pictures) ≡ option_or (first_of_slices s planes (slices_with_indices (sent_parameters s) indices)) (first_slice_fault s (drop (count s) indices) pictures)
  unfolding first_slice_fault
  fault_more indices planes pictures = refl

  later : (j : ℕ) (indices : List ℕ) → drop (j * count s) (drop (count s) indices) ≡ drop (suc j * count s) indices
  later j indices = grind (arith, count, drop-drop, suc-mul)

  pub are_sound : (indices : List ℕ) (pictures : List Planes) → first_slice_fault s indices pictures ≡ None → AreSoundPictures indices pictures
  are_sound indices [] none j planes at = absurd (none-some planes at)
  are_sound indices (own ∷ pictures) none zero planes at = grind (arith, count, fault_more, neither)
  are_sound indices (own ∷ pictures) none (suc j) planes at =
      let both = neither _ _ (sym (fault_more indices own pictures) ∙ none) in
      ap (λ (l : List ℕ). first_of_slices s planes (slices_with_indices (sent_parameters s) l)) (sym (later j indices))
      ∙ are_sound (drop (count s) indices) pictures both.1 j planes at

  pub both_sound : (indices : List ℕ) (first second : List Planes) → first_slice_fault s indices first ≡ None → first_slice_fault s (drop (length first * count s) indices) second ≡ None → first_slice_fault s indices (first ++ second) ≡ None
  both_sound indices [] second none also = grind (arith, count)
  both_sound indices (planes ∷ first) second none also =
      grind (arith, fault_more, later, both_sound (drop (count s) indices) first second)

  pub faultless : (indices : List ℕ) (frame : Planes) → send_fault s indices frame ≡ None → (first_sample_fault s frame ≡ None) × (first_slice_fault s indices (pictures_of s frame) ≡ None)
  unfolding send_fault
  faultless indices frame none = neither (first_sample_fault s frame) (first_slice_fault s indices (pictures_of s frame)) none
