-- The header of the first session is read again from the bytes that stand for it.
use Rattle.std.proofs.Common.{◌≡◌, ℕ, Bool, List, [], ◌∷◌, ◌++◌, take, Option, Some, None, cond, Result, Ok, Err, refl, sym, ap, ◌∙◌, append-nil, is_some, fold, subst, arith}
use Rattle.std.specs.Option.{option_map_or}
use Rattle.std.proofs.lemmas.Grind.{common_steps}
use Rattle.link_model.specs.Packets.{PayloadValue}
use Rattle.link_model.specs.Session.{DatagramRefusal, HeardSession, Received, Session, begins, hears, just_opened, last_with, opens_next, received, session_by, session_from, session_with, sessions_of}
use Rattle.link_model.proofs.Hearing.{hears_new, hears_nothing}
use Rattle.link_model.proofs.WholeHeaders.{value_alone, value_of_whole}
use Rattle.stream_model.specs.Streams.{first_header, header_in, header_of_payload, header_of_received, used_bytes}
use Rattle.vc_types.specs.Bits.{bits_of}
use Rattle.vc_types.specs.HeaderSpelling.{header_bits}
use Rattle.vc_types.specs.SequenceHeader.{Sequence, bytes_used, coded_header, coded_whole_header_of, high_quality_profile, sequence_header, with_bytes_used}
use Rattle.vc_types.specs.declared.presentation.Presentation.{Presentation}
use Rattle.vc_types.specs.declared.refusal.HeaderRefusal.{HeaderRefusal}
use Rattle.vc_types.proofs.FieldCodecs.{ok_is}
use Rattle.vc_types.proofs.HeaderCodecs.{header_is}
use Rattle.vc_types.proofs.OwnBits.{ReadsOwn}
use Rattle.vc_types.proofs.OwnBytes.{read_again}

-- ---- a header, from the bytes that it takes

header_own : ReadsOwn sequence_header
header_own = record {
  own = λ all s rest read.
      let taken = header_is.takes all s rest read in
      (header_bits taken.0, taken.3, λ more. header_is.again taken.0 more taken.1 ∙ ap (λ (t : Sequence). Ok (t, more)) taken.2);
}

-- these bytes begin with the header of this sequence
abbrev pub IsHeaderOf : List ℕ → Sequence → Type 0
IsHeaderOf bytes s = (used : ℕ) × (coded_header bytes ≡ Ok (s, used))

module _ (body : List ℕ) (s : Sequence) (used : ℕ) where
  -- the bits that are left
  abbrev Left : Type 0
  Left = (left : List Bool) × (sequence_header (bits_of body) ≡ Ok (s, left)) × (used ≡ bytes_used body left)

  left_behind : (read : Result (Sequence × List Bool) HeaderRefusal) → sequence_header (bits_of body) ≡ read → with_bytes_used body read ≡ Ok (s, used) → Left
  left_behind read is told = grind (arith, ok_is)

  pub used_again : coded_header body ≡ Ok (s, used) → IsHeaderOf (take used body) s
  used_again told =
      let left = left_behind (sequence_header (bits_of body)) refl told in
      let bytes = take (bytes_used body left.0) body in
      let again = read_again sequence_header header_own body s left.0 left.1 [] in
      let alone : coded_header (bytes ++ []) ≡ Ok (s, bytes_used (bytes ++ []) again.left) = ap (with_bytes_used (bytes ++ [])) again.read in (
        bytes_used (bytes ++ []) again.left,
        ap (λ (n : ℕ). coded_header (take n body)) left.2 ∙ ap coded_header (sym (append-nil bytes)) ∙ alone,
      )

-- what these bytes say of how the frames of this sequence are shown
module _ (bytes : List ℕ) (s : Sequence) (used : ℕ) where
  abbrev Whole : Type 0
  Whole = (said : Presentation) × (coded_whole_header_of high_quality_profile bytes ≡ Ok ((s, said), used))

  whole_by : (read : Result ((Sequence × Presentation) × ℕ) HeaderRefusal) → coded_whole_header_of high_quality_profile bytes ≡ read → value_alone read ≡ Ok (s, used) → Whole
  whole_by (Ok read) is told =
      let same : (read.0.0, read.1) ≡ (s, used) = ok_is {E = HeaderRefusal} (read.0.0, read.1) (s, used) told in
      (read.0.1, is ∙ ap (λ (z : Sequence × ℕ). Ok ((z.0, read.0.1), z.1)) same)
  whole_by (Err refusal) is told = absurd cc

  pub whole_is : coded_header bytes ≡ Ok (s, used) → Whole
  whole_is told = whole_by (coded_whole_header_of high_quality_profile bytes) refl (sym (value_of_whole high_quality_profile bytes) ∙ told)

-- ---- a datagram that begins a session

module _ (t : Session) where
  of_read : (ssrc : ℕ) (body : List ℕ) (read : Result ((Sequence × Presentation) × ℕ) HeaderRefusal) → coded_header body ≡ value_alone read → session_with ssrc read ≡ Some t
      → IsHeaderOf (used_bytes body (value_alone read)) t.sequence
  of_read ssrc body read is told = grind (arith, common_steps, used_again)

  of_body : (ssrc : ℕ) (body : List ℕ) → session_with ssrc (coded_whole_header_of high_quality_profile body) ≡ Some t → IsHeaderOf (used_bytes body (coded_header body)) t.sequence
  of_body ssrc body told =
      let same = value_of_whole high_quality_profile body in
      subst (λ (read : Result (Sequence × ℕ) HeaderRefusal). IsHeaderOf (used_bytes body read) t.sequence) (sym same)
      (of_read ssrc body (coded_whole_header_of high_quality_profile body) same told)

  of_value : (ssrc : ℕ) (value : PayloadValue) → session_by ssrc value ≡ Some t → IsHeaderOf (header_of_payload value) t.sequence
  of_value ssrc value told = grind (arith, common_steps, of_body)

  of_received : (r : Result Received DatagramRefusal) → session_from r ≡ Some t → IsHeaderOf (header_of_received r) t.sequence
  of_received r told = grind (arith, of_value)

  pub header_begins : (d : List ℕ) → begins d ≡ Some t → IsHeaderOf (header_in d) t.sequence
  unfolding begins header_in
  header_begins d told = of_received (received d) told

-- ---- the first of the sessions

-- where the last one comes first
abbrev pub first_of : List HeardSession → Option Session
first_of [] = None
first_of (h ∷ []) = Some h.session
first_of (h ∷ g ∷ hs) = first_of (g ∷ hs)

module _ (t : Session) where
  last_stays : (hs : List HeardSession) (d : List ℕ) → first_of hs ≡ Some t → first_of (last_with hs d) ≡ Some t
  last_stays hs d is = grind arith

  next_stays : (hs : List HeardSession) (s : Session) → first_of hs ≡ Some t → first_of (just_opened s ∷ hs) ≡ Some t
  next_stays hs s is = grind arith

  one_stays : (hs : List HeardSession) (d : List ℕ) → first_of hs ≡ Some t → first_of (hears hs d) ≡ Some t
  unfolding hears
  one_stays hs d is = by_next (opens_next hs (begins d))
    where
      by_next : (o : Option Session) → first_of (option_map_or (λ s. just_opened s ∷ hs) o (last_with hs d)) ≡ Some t
      by_next o = grind (arith, last_stays, next_stays)

  pub first_stays : (datagrams : List (List ℕ)) (hs : List HeardSession) → first_of hs ≡ Some t → first_of (fold hears hs datagrams) ≡ Some t
  first_stays [] hs is = is
  first_stays (d ∷ datagrams) hs is = first_stays datagrams (hears hs d) (one_stays hs d is)

pub first_header_is : (datagrams : List (List ℕ)) (t : Session) → first_of (sessions_of datagrams) ≡ Some t → IsHeaderOf (first_header datagrams) t.sequence
unfolding first_header
first_header_is [] t is = absurd cc
first_header_is (d ∷ datagrams) t is = by_first (begins d) refl (first_header_is datagrams t)
  where
    by_first : (o : Option Session) → begins d ≡ o → (first_of (sessions_of datagrams) ≡ Some t → IsHeaderOf (first_header datagrams) t.sequence)
        → IsHeaderOf (cond (is_some o) (header_in d) (first_header datagrams)) t.sequence
    by_first None none later = later (sym (ap (λ (hs : List HeardSession). first_of (fold hears hs datagrams)) (hears_nothing d none)) ∙ is)
    by_first (Some s) opens later =
        let stays : first_of (fold hears (hears [] d) datagrams) ≡ Some s =
        ap (λ (hs : List HeardSession). first_of (fold hears hs datagrams)) (hears_new [] d s opens) ∙ first_stays s datagrams (just_opened s ∷ []) refl in
        let same : s ≡ t = cc (sym stays ∙ is) in
        let header = header_begins s d opens in
        (header.0, header.1 ∙ ap (λ (u : Session). Ok (u.sequence, header.0)) same)
