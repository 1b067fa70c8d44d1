-- Every fragment that is heard of a sender's stream is one of a picture that was sent.
use Rattle.std.proofs.Common.{◌≡◌, ◌<◌, ◌≤◌, ℕ, ◌^◌, Bool, true, false, List, [], ◌∷◌, ◌++◌, length, take, cond, Option, Some, None, Result, Ok, Err, ◌==◌, refl, sym, ap, ◌∙◌, subst, arith, All, inl, inr, ◌⊎◌, slice_get, filter_map, append_assoc}
use Rattle.std.specs.List.{flat_map, cons_option}
use Rattle.std.proofs.lemmas.Bool.{false≢true}
use Rattle.std.proofs.lemmas.List.Elements.{All-cons, All-nil, All-contains}
use Rattle.std.proofs.lemmas.Option.{none-some, slice_get_within}
use Rattle.link_laws.specs.HeardStreams.{IsHeardOf}
use Rattle.link_laws.proofs.Among.{IsAmong, among_at, among_first, among_later, front_of}
use Rattle.link_laws.proofs.EnteredNumbers.{IsSentFragment}
use Rattle.link_laws.proofs.OneSession.{opens_once}
use Rattle.link_laws.proofs.OwnParts.{IsOwnPart, sent_part}
use Rattle.link_laws.proofs.SentFragments.{header_unheard, end_unheard, parameters_heard, slices_heard}
use Rattle.link_laws.proofs.SentStream.{IsOfPicture, IsSent, all_sent, runs_at}
use Rattle.link_model.specs.Sending.{Outgoing, outgoing, DatagramContent, HeaderContent, ParametersContent, SlicesContent, EndContent, number_bits, pictures_of, sent_datagram, sent_stream, FitsDatagram}
use Rattle.link_model.specs.SendingPictures.{sent_sequence, shown_presentation, sent_parameters, sent_parameter_bytes}
use Rattle.link_model.specs.Session.{DatagramRefusal, Received, received, Session, Part, ParamsPart, SlicesPart, Fragment, HeardSession, fragment_by, fragment_from, fragment_in, sessions_of}
use Rattle.link_model.proofs.SentDatagrams.{are_settings}
use Rattle.vc_types.specs.declared.settings.SendSettings.{SendSettings}
use Rattle.vc_types.specs.Planes.{Planes}
use Rattle.vc_types.specs.SenderSettings.{Sending, sending_view}

-- what a datagram has a fragment of was read
pub received_of : (session : Session) (d : List ℕ) (f : Fragment) → fragment_in session d ≡ Some f → (r : Received) × (received d ≡ Ok r) × (r.ssrc ≡ session.ssrc)
unfolding fragment_in
received_of session d f is = grind arith

-- fragments are those of a source, whatever its header says
same_source : (a b : Session) (d : List ℕ) → a.ssrc ≡ b.ssrc → fragment_in a d ≡ fragment_in b d
unfolding fragment_in
same_source a b d same = by_received (received d)
  where
    by_received : (r : Result Received DatagramRefusal) → fragment_from a r ≡ fragment_from b r
    by_received (Ok r) = ap (λ (n : ℕ). cond (r.ssrc == n) (fragment_by r.value) None) same
    by_received (Err refusal) = refl

all_found : {A B : Type 0} (P : B → Type 0) (h : A → Option B) (xs : List A) → ((x : A) (y : B) → IsAmong xs x → h x ≡ Some y → P y) → All P (filter_map h xs)
all_found P h [] each = All-nil P
all_found {A} {B} P h (x ∷ xs) each = by_first (h x) refl (all_found P h xs (λ z y is found. each z y (among_later x z xs is) found))
  where
    by_first : (o : Option B) → h x ≡ o → All P (filter_map h xs) → All P (cons_option o (filter_map h xs))
    by_first o is rest = grind (arith, All-cons, among_first)

abbrev is_end_content : DatagramContent → Bool
is_end_content HeaderContent = false
is_end_content ParametersContent = false
is_end_content (SlicesContent run) = false
is_end_content EndContent = true

module _ (settings : SendSettings) (small : settings.ssrc < 2 ^ 32) (indices : List ℕ) (pictures : List Planes) (few : length pictures < 2 ^ 31) (fits : (o : Outgoing) → IsOfPicture (sending_view settings) 0 indices pictures o → FitsDatagram (sending_view settings) o.content) where
  abbrev s : Sending
  s = sending_view settings

  abbrev pub own_session : Session
  own_session = record { ssrc = settings.ssrc; sequence = sent_sequence s; presentation = shown_presentation s }

  -- a part of a picture that was sent, by its place
  abbrev pub IsPartOf : ℕ → Part → Type 0
  IsPartOf j part = (planes : Planes) × (slice_get pictures j ≡ Some planes) × IsOwnPart (sent_parameters s) (sent_parameter_bytes s) (runs_at s indices j planes) part

  module _ (number picture : ℕ) (f : Fragment) where
    of_picture : (c : DatagramContent) (own : IsOfPicture s 0 indices pictures (outgoing picture c)) (part : Part) → IsOwnPart (sent_parameters s) (sent_parameter_bytes s) (runs_at s indices own.number own.planes) part
        → Some (record { number = number_bits s picture; part = part }) ≡ Some f → IsSentFragment s IsPartOf f
    of_picture c own part is same = grind (arith, slice_get_within)

    of_content : (c : DatagramContent) → IsOfPicture s 0 indices pictures (outgoing picture c) ⊎ (c ≡ EndContent) → fragment_in own_session (sent_datagram s number (outgoing picture c)) ≡ Some f → IsSentFragment s IsPartOf f
    of_content HeaderContent own is = absurd (none-some f (sym (header_unheard settings (are_settings settings small) number picture) ∙ is))
    of_content EndContent own is = absurd (none-some f (sym (end_unheard settings (are_settings settings small) number picture) ∙ is))
    of_content ParametersContent (inl own) is = of_picture ParametersContent own (ParamsPart (sent_parameter_bytes s)) (inl refl)
        (sym (parameters_heard settings (are_settings settings small) number picture (fits (outgoing picture ParametersContent) own)) ∙ is)
    of_content (SlicesContent run) (inl own) is = of_picture (SlicesContent run) own (SlicesPart (sent_part (sent_parameters s) run)) (inr (run, own.content, refl))
        (sym (slices_heard settings (are_settings settings small) number picture run (fits (outgoing picture (SlicesContent run)) own)) ∙ is)
    of_content c (inr last) is = absurd (false≢true (ap is_end_content last))

  pub sent_fragment : (d : List ℕ) (f : Fragment) → IsSent s indices pictures d → fragment_in own_session d ≡ Some f → IsSentFragment s IsPartOf f
  sent_fragment d f sent is = of_content sent.number sent.o.picture f sent.o.content sent.content (ap (fragment_in own_session) (sym sent.is) ∙ is)

  module _ (frames : List Planes) (are : pictures ≡ flat_map (pictures_of s) frames) (datagrams : List (List ℕ)) (h : HeardSession) (heard : IsHeardOf s (sent_stream s indices frames) datagrams h) where
    pub heard_as_own : (d : List ℕ) → fragment_in h.session d ≡ fragment_in own_session d
    heard_as_own d = same_source h.session own_session d heard.ssrc

    each_heard : (d : List ℕ) (f : Fragment) (among : IsAmong datagrams d) → 1 ≤ length (sessions_of among.0) → fragment_in h.session d ≡ Some f → IsSentFragment s IsPartOf f
    each_heard d f among opened is =
        let read = received_of h.session d f is in
        let behind : 1 ≤ length (sessions_of (take (length among.0) datagrams)) = rw (front_of d datagrams among) opened in
        let there = heard.sent (length among.0) d read.0 (among_at d datagrams among) behind read.1 (read.2 ∙ heard.ssrc) in
        sent_fragment d f (All-contains (IsSent s indices pictures) (sent_stream s indices frames) d (all_sent s indices frames pictures are) there) (sym (heard_as_own d) ∙ is)

    pub all_heard : All (IsSentFragment s IsPartOf) h.fragments
    all_heard =
        let opens = opens_once h datagrams heard.one in
        subst (λ (l : List Fragment). All (IsSentFragment s IsPartOf) l) (sym opens.fragments)
        (all_found (IsSentFragment s IsPartOf) (fragment_in h.session) opens.behind
        (λ d f among is. each_heard d f (
          opens.before ++ opens.header ∷ among.0,
          among.1,
          opens.is
              ∙ ap (λ (l : List (List ℕ)). opens.before ++ opens.header ∷ l) among.2
              ∙ sym (append_assoc opens.before (opens.header ∷ among.0) (d ∷ among.1)),
        ) (opens.opened among.0) is))
