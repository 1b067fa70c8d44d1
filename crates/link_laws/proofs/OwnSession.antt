-- Of the sender's own list one session is heard, the sender's, with the fragments of all pictures in their order.
use Rattle.std.proofs.Common.{◌≡◌, ◌<◌, ℕ, zero, suc, ◌+◌, ◌-◌, ◌*◌, ◌^◌, List, [], ◌∷◌, ◌++◌, length, drop, map, Option, Some, None, refl, sym, ap, ◌∙◌, subst, arith, All, inl, inr, ◌⊎◌, filter_map, fold, slice_get, append-nil}
use Rattle.std.specs.List.{cons_option, enumerate_from, flat_map}
use Rattle.std.proofs.lemmas.Bool.{and_right}
use Rattle.std.proofs.lemmas.Grind.{common_steps}
use Rattle.std.proofs.lemmas.List.Elements.{All-cons, All-head, All-nil, All-tail, All-weaker, filter_map-append}
use Rattle.std.proofs.lemmas.Option.{none-some}
use Rattle.link_laws.proofs.HeardFragments.{own_session}
use Rattle.link_laws.proofs.InOrder.{HasParts, fragment_of, fragments_of, fragments_from}
use Rattle.link_laws.proofs.OneSession.{stays}
use Rattle.link_laws.proofs.OwnParts.{itself, sent_part}
use Rattle.link_laws.proofs.SentFragments.{end_begins_none, end_unheard, header_begins, header_unheard, parameters_begin_none, parameters_heard, slices_begin_none, slices_heard}
use Rattle.link_laws.proofs.SentStream.{IsOfPicture, IsSent, all_of_pictures, all_sent, count, more_outgoing, none_outgoing, picture_contents, runs_at, runs_later}
use Rattle.link_model.specs.Kept.{SliceRun}
use Rattle.link_model.specs.Sending.{DatagramContent, EndContent, FitsDatagram, HeaderContent, Outgoing, ParametersContent, SlicesContent, datagrams_from, end_datagram, frames_outgoing, last_datagram, outgoing, picture_runs, pictures_of, pictures_outgoing, pictures_per_frame, sent_datagram, sent_datagrams, sent_stream}
use Rattle.link_model.specs.SendingPictures.{sent_parameter_bytes, sent_parameters}
use Rattle.link_model.specs.Session.{Fragment, HeardSession, ParamsPart, Part, Session, SlicesPart, begins, fragment_in, hears, just_opened, sessions_of, with_datagram}
use Rattle.link_model.proofs.Hearing.{hears_new, hears_on}
use Rattle.link_model.proofs.SentDatagrams.{are_settings}
use Rattle.vc_types.specs.declared.settings.SendSettings.{SendSettings}
use Rattle.vc_types.specs.Planes.{Planes}
use Rattle.vc_types.proofs.SameValues.{sequences_exactly}
use Rattle.vc_types.specs.SenderSettings.{Sending, sending_view}
use Rattle.vc_types.specs.TransformParameters.{Parameters}

-- ---- the parts that are sent of pictures

module _ (s : Sending) where
  abbrev p : Parameters
  p = sent_parameters s

  abbrev pub run_part : SliceRun → Part
  run_part run = SlicesPart (sent_part p run)

  abbrev pub parts_sent : List SliceRun → List Part
  parts_sent runs = ParamsPart (sent_parameter_bytes s) ∷ map run_part runs

  abbrev pub parts_from : List ℕ → List Planes → List (List Part)
  parts_from indices [] = []
  parts_from indices (planes ∷ pictures) = parts_sent (picture_runs s indices planes) ∷ parts_from (drop (count s) indices) pictures

  pub all_have_parts : (indices : List ℕ) (pictures : List Planes) → All HasParts (parts_from indices pictures)
  all_have_parts indices [] = All-nil HasParts
  all_have_parts indices (planes ∷ pictures) = All-cons HasParts (parts_sent (picture_runs s indices planes)) (parts_from (drop (count s) indices) pictures) (omega arith) (all_have_parts (drop (count s) indices) pictures)

  pub length-parts_from : (indices : List ℕ) (pictures : List Planes) → length (parts_from indices pictures) ≡ length pictures
  length-parts_from indices [] = refl
  length-parts_from indices (planes ∷ pictures) = ap suc (length-parts_from (drop (count s) indices) pictures)

  pub parts_at : (indices : List ℕ) (pictures : List Planes) (j : ℕ) (planes : Planes) → slice_get pictures j ≡ Some planes → slice_get (parts_from indices pictures) j ≡ Some (parts_sent (runs_at s indices j planes))
  parts_at indices [] j planes at = absurd (none-some planes at)
  parts_at indices (own ∷ pictures) zero planes at = grind (arith, count)
  parts_at indices (own ∷ pictures) (suc j) planes at = parts_at (drop (count s) indices) pictures j planes at ∙ ap (λ (runs : List SliceRun). Some (parts_sent runs)) (runs_later s indices j planes)

  -- what a datagram is heard as, by what it carries
  abbrev told_by : ℕ → DatagramContent → Option Fragment
  told_by picture HeaderContent = None
  told_by picture ParametersContent = Some (fragment_of s picture (ParamsPart (sent_parameter_bytes s)))
  told_by picture (SlicesContent run) = Some (fragment_of s picture (run_part run))
  told_by picture EndContent = None

  abbrev told : Outgoing → Option Fragment
  told o = told_by o.picture o.content

  told_runs : (j : ℕ) (runs : List SliceRun) → filter_map told (map (outgoing j) (map SlicesContent runs)) ≡ fragments_of s j (map run_part runs)
  told_runs j [] = refl
  told_runs j (run ∷ runs) = ap (λ (l : List Fragment). fragment_of s j (run_part run) ∷ l) (told_runs j runs)

  pub told_pictures : (j : ℕ) (indices : List ℕ) (pictures : List Planes) → filter_map told (pictures_outgoing s j indices pictures) ≡ fragments_from s j (parts_from indices pictures)
  told_pictures j indices [] = ap (filter_map told) (none_outgoing s j indices)
  told_pictures j indices (planes ∷ pictures) =
      grind (
        arith,
        more_outgoing,
        picture_contents,
        filter_map-append,
        told_pictures (j + 1) (drop (count s) indices) pictures,
        told_runs,
      )

-- ---- the session

module _ (settings : SendSettings) (small : settings.ssrc < 2 ^ 32) (indices : List ℕ) (pictures : List Planes) (few : length pictures < 2 ^ 31) (fits : (o : Outgoing) → IsOfPicture (sending_view settings) 0 indices pictures o → FitsDatagram (sending_view settings) o.content) where
  abbrev s : Sending
  s = sending_view settings

  abbrev own : Session
  own = own_session settings small indices pictures few fits

  abbrev BeginsOwn : List ℕ → Type 0
  BeginsOwn d = (begins d ≡ None) ⊎ (begins d ≡ Some own)

  content_begins : (number picture : ℕ) (c : DatagramContent) → IsOfPicture s 0 indices pictures (outgoing picture c) ⊎ (c ≡ EndContent) → BeginsOwn (sent_datagram s number (outgoing picture c))
  content_begins number picture HeaderContent is = inr (header_begins settings (are_settings settings small) number picture)
  content_begins number picture ParametersContent (inl is) = inl (parameters_begin_none settings (are_settings settings small) number picture (fits (outgoing picture ParametersContent) is))
  content_begins number picture (SlicesContent run) (inl is) = inl (slices_begin_none settings (are_settings settings small) number picture run (fits (outgoing picture (SlicesContent run)) is))
  content_begins number picture EndContent is = inl (end_begins_none settings (are_settings settings small) number picture)
  content_begins number picture c (inr last) = absurd cc

  sent_begins : (d : List ℕ) → IsSent s indices pictures d → BeginsOwn d
  sent_begins d sent = subst BeginsOwn (sym sent.is) (content_begins sent.number sent.o.picture sent.o.content sent.content)

  -- a session goes on
  hears_own : (h : HeardSession) (d : List ℕ) → h.session ≡ own → BeginsOwn d → hears (h ∷ []) d ≡ with_datagram h d ∷ []
  hears_own h d same o = grind (arith, and_right, hears_on, itself, sequences_exactly)

  goes_on : (h : HeardSession) (ds : List (List ℕ)) → h.session ≡ own → All BeginsOwn ds → (new : HeardSession) × (fold hears (h ∷ []) ds ≡ new ∷ [])
  goes_on h [] same all = (h, refl)
  goes_on h (d ∷ ds) same all =
      grind (arith, hears_own, All-head, goes_on (with_datagram h d) ds same (All-tail BeginsOwn d ds all))

  -- ---- its fragments

  heard_told : (number : ℕ) (picture : ℕ) (c : DatagramContent) → FitsDatagram s c → fragment_in own (sent_datagram s number (outgoing picture c)) ≡ told_by s picture c
  heard_told number picture c are =
      grind (arith, are_settings, end_unheard, header_unheard, parameters_heard, slices_heard)

  abbrev Fits : Outgoing → Type 0
  Fits o = FitsDatagram s o.content

  all_told : (number : ℕ) (os : List Outgoing) → All Fits os → filter_map (fragment_in own) (map (λ (z : ℕ × Outgoing). sent_datagram s z.0 z.1) (enumerate_from number os)) ≡ filter_map (told s) os
  all_told number [] all = refl
  all_told number (o ∷ os) all = (λ i. cons_option (heard_told number o.picture o.content (All-head Fits o os all) i) (all_told (number + 1) os (All-tail Fits o os all) i))

  module _ (frames : List Planes) (are : pictures ≡ flat_map (pictures_of s) frames) where
    all_fit : All Fits (frames_outgoing s indices frames)
    all_fit = subst (λ (l : List Planes). All Fits (pictures_outgoing s 0 indices l)) are
        (All-weaker (IsOfPicture s 0 indices pictures) Fits fits (pictures_outgoing s 0 indices pictures) (all_of_pictures s 0 indices pictures))

    end_told : fragment_in own (last_datagram s indices frames) ≡ None
    unfolding last_datagram end_datagram
    end_told = end_unheard settings (are_settings settings small) (s.seq + length (frames_outgoing s indices frames)) (length frames * pictures_per_frame s - 1)

    datagrams_told : filter_map (fragment_in own) (sent_datagrams s indices frames) ≡ fragments_from s 0 (parts_from s indices pictures)
    unfolding sent_datagrams datagrams_from
    datagrams_told =
        all_told s.seq (frames_outgoing s indices frames) all_fit
        ∙ ap (λ (l : List Planes). filter_map (told s) (pictures_outgoing s 0 indices l)) (sym are)
        ∙ told_pictures s 0 indices pictures

    stream_told : filter_map (fragment_in own) (sent_stream s indices frames) ≡ fragments_from s 0 (parts_from s indices pictures)
    unfolding sent_stream
    stream_told =
        grind (arith, common_steps, append-nil, datagrams_told, end_told, filter_map-append, fragments_from)

    all_begin : All BeginsOwn (sent_stream s indices frames)
    all_begin = All-weaker (IsSent s indices pictures) BeginsOwn sent_begins (sent_stream s indices frames) (all_sent s indices frames pictures are)

    -- the session that is heard of the list
    pub record IsOwnSession (h : HeardSession) : Type 0 where
      pub one : sessions_of (sent_stream s indices frames) ≡ h ∷ []
      pub session : h.session ≡ own
      pub fragments : h.fragments ≡ fragments_from s 0 (parts_from s indices pictures)

    abbrev header : List ℕ
    header = sent_datagram s s.seq (outgoing 0 HeaderContent)

    of_header : (rest : List (List ℕ)) → sent_stream s indices frames ≡ header ∷ rest → (h : HeardSession) × IsOwnSession h
    of_header rest is =
        let opened = hears_new [] header own (header_begins settings (are_settings settings small) s.seq 0) in
        let on = goes_on (just_opened own) rest refl (All-tail BeginsOwn header rest (subst (λ (l : List (List ℕ)). All BeginsOwn l) is all_begin)) in
        let kept = stays (just_opened own) on.0 rest on.1 in
        let header_told = header_unheard settings (are_settings settings small) s.seq 0 in (
          on.0,
          record {
            one = ap sessions_of is ∙ ap (λ (hs : List HeardSession). fold hears hs rest) opened ∙ on.1;
            session = kept.session;
            fragments = grind (arith, stream_told);
          },
        )

    -- with a picture the list begins with its header
    header_first : (planes : Planes) (more : List Planes) → pictures ≡ planes ∷ more → (rest : List (List ℕ)) × (sent_stream s indices frames ≡ header ∷ rest)
    unfolding sent_stream sent_datagrams datagrams_from
    header_first planes more some =
        let later : List Outgoing = map (outgoing 0) (ParametersContent ∷ map SlicesContent (picture_runs s indices planes)) ++ pictures_outgoing s 1 (drop (count s) indices) more in
        let first : frames_outgoing s indices frames ≡ outgoing 0 HeaderContent ∷ later =
        ap (λ (l : List Planes). pictures_outgoing s 0 indices l) (sym are ∙ some)
        ∙ more_outgoing s 0 indices planes more
        ∙ ap (λ (l : List Outgoing). l ++ pictures_outgoing s 1 (drop (count s) indices) more) (picture_contents s 0 indices planes) in (
          map (λ (z : ℕ × Outgoing). sent_datagram s z.0 z.1) (enumerate_from (s.seq + 1) later) ++ last_datagram s indices frames ∷ [],
          ap (λ (l : List Outgoing). map (λ (z : ℕ × Outgoing). sent_datagram s z.0 z.1) (enumerate_from s.seq l) ++ last_datagram s indices frames ∷ []) first,
        )

    pub own_session_heard : (planes : Planes) (more : List Planes) → pictures ≡ planes ∷ more → (h : HeardSession) × IsOwnSession h
    own_session_heard planes more some = (let first = header_first planes more some in of_header first.0 first.1)

    -- without one no session is heard
    pub none_heard : pictures ≡ [] → sessions_of (sent_stream s indices frames) ≡ []
    unfolding sent_stream sent_datagrams datagrams_from last_datagram end_datagram
    none_heard none = grind (arith, are_settings, end_begins_none, hears_on, none_outgoing)
