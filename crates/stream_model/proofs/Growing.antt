-- A stream so far begins the later ones.
use Rattle.std.proofs.Common.{◌≡◌, ℕ, Bool, true, false, refl, ap, sym, subst, ◌∙◌}
use Rattle.std.proofs.Common.{List, [], ◌∷◌, ◌++◌, Option, Some, None, arith}
use Rattle.std.specs.Prelude.{is_some, fold}
use Rattle.std.specs.List.{flat_map, list_any}
use Rattle.std.specs.Option.{option_map_or}
use Rattle.std.proofs.lemmas.Bool.{false≢true}
use Rattle.std.proofs.lemmas.List.{append_assoc, append-nil}
use Rattle.link_model.specs.Output.{IsPrefixOf, entered_behind}
use Rattle.link_model.specs.Session.{Session, HeardSession, just_opened, opens_next, with_datagram}
use Rattle.link_model.specs.Session.{last_with, hears, sessions_of, begins}
use Rattle.link_model.proofs.Growing.{sessions_of-append}
use Rattle.link_model.proofs.Following.{no_session}
use Rattle.vc_types.specs.DataUnits.{DataUnit}
use Rattle.stream_model.specs.Streams.{units_behind, last_length, behind_header, with_end, frame_units}
use Rattle.stream_model.specs.Streams.{first_header, first_pictures, first_pictures_so_far}
use Rattle.stream_model.specs.Streams.{stream_units, units_so_far, stream_of, stream_so_far}
use Rattle.stream_model.proofs.FirstPictures.{datagram_shows, end_shows}
use Rattle.stream_model.proofs.Units.{units_behind-append, behind_header-append, with_end-is}
use Rattle.stream_model.proofs.Units.{following, ending}

-- the one begins the other
abbrev pub Begins : List DataUnit → List DataUnit → Type 0
Begins front all = (rest : List DataUnit) × (all ≡ front ++ rest)

begins_itself : (l : List DataUnit) → Begins l l
begins_itself l = ([], sym (append-nil l))

begins_longer : (a b c : List DataUnit) → Begins a b → Begins b c → Begins a c
begins_longer a b c first second = grind (arith, append_assoc)

-- ---- the pictures

module _ (window : ℕ) where
  pub so_far_begins_all : (hs : List HeardSession)
      → Begins (first_pictures_so_far window hs) (first_pictures window hs)
  unfolding first_pictures first_pictures_so_far
  so_far_begins_all [] = begins_itself []
  so_far_begins_all (h ∷ []) = let left = end_shows window h in
      (flat_map (frame_units h.session.sequence (entered_behind window [] h)) left.0, left.2)
  so_far_begins_all (h ∷ g ∷ hs) = begins_itself (first_pictures window (g ∷ hs))

  last_grows : (hs : List HeardSession) (d : List ℕ)
      → Begins (first_pictures_so_far window hs) (first_pictures_so_far window (last_with hs d))
  unfolding first_pictures_so_far
  last_grows [] d = begins_itself []
  last_grows (h ∷ []) d = let more = datagram_shows window h d in (
    flat_map (frame_units h.session.sequence (entered_behind window [] (with_datagram h d))) more.0,
    more.2,
  )
  last_grows (h ∷ g ∷ hs) d = begins_itself (first_pictures window (g ∷ hs))

  next_grows : (hs : List HeardSession) (s : Session)
      → Begins (first_pictures_so_far window hs) (first_pictures_so_far window (just_opened s ∷ hs))
  unfolding first_pictures_so_far
  next_grows [] s = (first_pictures_so_far window (just_opened s ∷ []), refl)
  next_grows (h ∷ hs) s = so_far_begins_all (h ∷ hs)

  pub hears_grows : (hs : List HeardSession) (d : List ℕ)
      → Begins (first_pictures_so_far window hs) (first_pictures_so_far window (hears hs d))
  unfolding hears
  hears_grows hs d = by_next (opens_next hs (begins d))
    where
      by_next : (o : Option Session) → Begins (first_pictures_so_far window hs)
          (first_pictures_so_far window (option_map_or (λ s. just_opened s ∷ hs) o (last_with hs d)))
      by_next None = last_grows hs d
      by_next (Some s) = next_grows hs s

  pictures_grow : (hs : List HeardSession) (more : List (List ℕ))
      → Begins (first_pictures_so_far window hs) (first_pictures_so_far window (fold hears hs more))
  pictures_grow hs [] = begins_itself (first_pictures_so_far window hs)
  pictures_grow hs (d ∷ more) = begins_longer (first_pictures_so_far window hs)
      (first_pictures_so_far window (hears hs d))
      (first_pictures_so_far window (fold hears (hears hs d) more)) (hears_grows hs d)
      (pictures_grow (hears hs d) more)

-- ---- their header

-- once a session has begun, the first header stays
pub header_stays : (datagrams more : List (List ℕ))
    → list_any (λ d. is_some (begins d)) datagrams ≡ true
    → first_header (datagrams ++ more) ≡ first_header datagrams
unfolding first_header
header_stays [] more has = absurd (false≢true has)
header_stays (d ∷ datagrams) more has = grind (arith, header_stays datagrams more)

-- pictures grow after the first header
module _ (datagrams more : List (List ℕ)) (now later : List DataUnit) (grow : Begins now later)
    (none : list_any (λ d. is_some (begins d)) datagrams ≡ false → now ≡ []) where
  pub behind_grow : Begins (behind_header (first_header datagrams) now)
      (behind_header (first_header (datagrams ++ more)) later)
  behind_grow = by_session (list_any (λ d. is_some (begins d)) datagrams) refl
    where
      by_session : (b : Bool) → list_any (λ d. is_some (begins d)) datagrams ≡ b
          → Begins (behind_header (first_header datagrams) now)
          (behind_header (first_header (datagrams ++ more)) later)
      by_session false is = subst (λ (l : List DataUnit).
          Begins (behind_header (first_header datagrams) l)
          (behind_header (first_header (datagrams ++ more)) later)) (sym (none is))
          (behind_header (first_header (datagrams ++ more)) later, refl)
      by_session true is = (
        following (first_header datagrams) now grow.0,
        ap (λ (header : List ℕ). behind_header header later) (header_stays datagrams more is)
            ∙ ap (behind_header (first_header datagrams)) grow.1
            ∙ behind_header-append (first_header datagrams) now grow.0,
      )

-- ---- the stream

module _ (window : ℕ) (datagrams more : List (List ℕ)) where
  no_pictures : list_any (λ d. is_some (begins d)) datagrams ≡ false
      → first_pictures_so_far window (sessions_of datagrams) ≡ []
  unfolding first_pictures_so_far
  no_pictures none = ap (first_pictures_so_far window) (no_session datagrams none)

  pictures_later : Begins (first_pictures_so_far window (sessions_of datagrams))
      (first_pictures_so_far window (sessions_of (datagrams ++ more)))
  pictures_later = subst (λ (hs : List HeardSession).
      Begins (first_pictures_so_far window (sessions_of datagrams))
      (first_pictures_so_far window hs)) (sym (sessions_of-append datagrams more))
      (pictures_grow window (sessions_of datagrams) more)

  pub units_grow : Begins (units_so_far window datagrams)
      (units_so_far window (datagrams ++ more))
  units_grow = behind_grow datagrams more (first_pictures_so_far window (sessions_of datagrams))
      (first_pictures_so_far window (sessions_of (datagrams ++ more))) pictures_later no_pictures

  pub units_begin_all : Begins (units_so_far window datagrams)
      (stream_units window (datagrams ++ more))
  units_begin_all =
      let all : List DataUnit = behind_header (first_header (datagrams ++ more))
      (first_pictures window (sessions_of (datagrams ++ more))) in
      begins_longer (units_so_far window datagrams) all (with_end all)
      (behind_grow datagrams more (first_pictures_so_far window (sessions_of datagrams))
      (first_pictures window (sessions_of (datagrams ++ more)))
      (begins_longer (first_pictures_so_far window (sessions_of datagrams))
      (first_pictures_so_far window (sessions_of (datagrams ++ more)))
      (first_pictures window (sessions_of (datagrams ++ more))) pictures_later
      (so_far_begins_all window (sessions_of (datagrams ++ more)))) no_pictures)
      (ending all, with_end-is all)

  bytes_grow : (front all : List DataUnit) → Begins front all
      → IsPrefixOf (units_behind 0 front) (units_behind 0 all)
  bytes_grow front all begins = (
    units_behind (last_length 0 front) begins.0,
    ap (units_behind 0) begins.1 ∙ units_behind-append 0 front begins.0,
  )

  pub so_far_grows : IsPrefixOf (stream_so_far window datagrams)
      (stream_so_far window (datagrams ++ more))
  unfolding stream_so_far
  so_far_grows = bytes_grow (units_so_far window datagrams)
      (units_so_far window (datagrams ++ more)) units_grow

  pub so_far_begins_stream : IsPrefixOf (stream_so_far window datagrams)
      (stream_of window (datagrams ++ more))
  unfolding stream_so_far stream_of
  so_far_begins_stream = bytes_grow (units_so_far window datagrams)
      (stream_units window (datagrams ++ more)) units_begin_all

pub ruleset laws = (so_far_grows, so_far_begins_stream)
