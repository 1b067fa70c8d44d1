-- The elementary stream of datagrams is played to what is written of their first session.
use Rattle.std.proofs.Common.{◌≡◌, ℕ, ◌+◌, ◌-◌, ◌*◌, Bool, false, cond, List, [], ◌∷◌, ◌++◌, length, Option, Some, None, Ok, refl, sym, ap, subst, ◌∙◌, append-nil, inl, arith}
use Rattle.std.specs.Option.{option_map_or}
use Rattle.std.proofs.lemmas.List.Elements.{All-cons}
use Rattle.link_model.specs.Numbers.{opened_numbers}
use Rattle.link_model.specs.Session.{HeardSession, Session, sessions_of}
use Rattle.stream_model.specs.Streams.{behind_header, end_unit, first_header, first_pictures, header_unit, stream_of, units_behind, with_end}
use Rattle.cmd_stream.specs.Playing.{UnitSplit, frames_due, so_far, unit_split}
use Rattle.cmd_stream.specs.Stream.{Stream, StreamPicture, StreamSoFar, all_taken, at_start, paired_frames, played, raw_frames, takes, units_taken, unpaired_in}
use Rattle.vc_types.specs.DataUnits.{DataUnit, unit_length}
use Rattle.vc_types.specs.Presentations.{presentation_of}
use Rattle.vc_types.specs.SequenceHeader.{Sequence, coded_whole_header_of, high_quality_profile}
use Rattle.vc_types.specs.declared.presentation.Presentation.{Presentation}
use Rattle.vc_units.specs.Units.{units_within}
use Rattle.link_laws.specs.Playback.{AreReadable, IsPlayedTo, StreamsArePlayedBack, first_output}
use Rattle.link_laws.proofs.FirstHeader.{IsHeaderOf, first_header_is, first_of, whole_is}
use Rattle.link_laws.proofs.FirstSession.{by_number, nothing_first}
use Rattle.link_laws.proofs.ReadUnits.{IsInside, nothing_read, units_read}
use Rattle.link_laws.proofs.ShownFrames.{AreShownAs, left_over, numbers_shown, played_as, so_far_with}

-- ---- units that are read whole

module _ (packets : ℕ) (units : List DataUnit) (read : units_within packets (units_behind 0 units) ≡ (units, [])) where
  abbrev stream : List ℕ
  stream = units_behind 0 units

  abbrev whole : UnitSplit
  whole = record { units = units; rest = [] }

  split_is : unit_split packets stream ≡ whole
  split_is = ap (λ (split : List DataUnit × List ℕ). record { units = split.0; rest = split.1 }) read

  -- what they bring is what is played
  pub read_played : (h : StreamSoFar) (bytes : List ℕ) → units_taken units ≡ (h, false) → played h.stream ≡ bytes → unpaired_in h.stream ≡ 0 → IsPlayedTo packets stream bytes
  read_played h bytes taken is paired = record {
    playable = record {
      accepted = ap (λ (s : UnitSplit). (units_taken s.units).1) split_is ∙ ap (λ (t : StreamSoFar × Bool). t.1) taken;
      ended = inl (ap (λ (s : UnitSplit). s.rest) split_is);
    };
    written = ap frames_due split_is ∙ ap (λ (t : StreamSoFar × Bool). played t.0.stream) taken ∙ is;
    paired = ap (λ (s : UnitSplit). unpaired_in (so_far s).stream) split_is ∙ ap (λ (t : StreamSoFar × Bool). unpaired_in t.0.stream) taken ∙ paired;
  }

nothing_played_back : (packets : ℕ) → IsPlayedTo packets (units_behind 0 []) []
unfolding all_taken
nothing_played_back packets = read_played packets [] (nothing_read packets 0) at_start [] refl refl refl

-- ---- a stream without pictures

nothing_played : (s : Sequence) → played_as s [] ≡ []
unfolding paired_frames
nothing_played s = by_mode s.fields
  where
    by_mode : (fields : Bool) → raw_frames s (cond fields (paired_frames s.top_first []) []) ≡ []
    by_mode fields = grind arith

nothing_left : (s : Sequence) → left_over s [] ≡ 0
unfolding paired_frames
nothing_left s = by_mode s.fields
  where
    by_mode : (fields : Bool) → cond fields (0 - 2 * length (cond fields (paired_frames s.top_first []) [])) 0 ≡ 0
    by_mode fields = grind arith

-- ---- a stream of pictures

module _ (packets : ℕ) (header : List ℕ) (s : Sequence) (begins : IsHeaderOf header s) where
  abbrev said : (shown : Presentation) × (coded_whole_header_of high_quality_profile header ≡ Ok ((s, shown), begins.0))
  said = whole_is header s begins.0 begins.1

  header_taken : (more : List DataUnit) → all_taken at_start (header_unit header ∷ more) ≡ all_taken (so_far_with s said.0 [] (0 + unit_length (header_unit header))) more
  unfolding all_taken takes
  header_taken more = rw said.1 refl

  end_taken : (pictures : List StreamPicture) (place : ℕ) → all_taken (so_far_with s said.0 pictures place) (end_unit ∷ []) ≡ (so_far_with s said.0 pictures (place + unit_length end_unit), false)
  unfolding all_taken takes
  end_taken pictures place = refl

  header_inside : IsInside (header_unit header)
  header_inside = record { known = refl; goes_on = refl }

  module _ (units : List DataUnit) (bytes : List ℕ) (shown : AreShownAs s units bytes) where
    abbrev all : List DataUnit
    all = (header_unit header ∷ units) ++ end_unit ∷ []

    own_played : played_as s shown.pictures ≡ bytes
    own_played = cc (append-nil shown.pictures, shown.played [], nothing_played s, append-nil bytes)

    none_left : left_over s shown.pictures ≡ 0
    none_left = ap (left_over s) (sym (append-nil shown.pictures)) ∙ shown.paired [] ∙ nothing_left s

    -- its pictures are there, and nothing else
    pictures_played : AreReadable packets all → IsPlayedTo packets (units_behind 0 all) bytes
    pictures_played readable =
        let inside = All-cons IsInside (header_unit header) units header_inside shown.inside in
        let read = units_read (header_unit header ∷ units) packets 0 inside readable.lengths readable.few in
        let place : ℕ = 0 + unit_length (header_unit header) in
        let pictures = shown.taken said.0 [] place (end_unit ∷ []) in
        grind (arith, end_taken, header_taken, none_left, own_played, read_played, shown)

  -- without units there are no pictures
  no_pictures : (bytes : List ℕ) → AreShownAs s [] bytes → bytes ≡ []
  unfolding all_taken
  no_pictures bytes shown =
      let taken = shown.taken (presentation_of 0) [] 0 [] in
      let none : shown.pictures ≡ [] = sym (ap (λ (t : StreamSoFar × Bool). option_map_or (λ (stream : Stream). stream.pictures) t.0.stream []) taken.1) in
      sym (own_played [] bytes shown) ∙ ap (played_as s) none ∙ nothing_played s

  pub stream_played : (units : List DataUnit) (bytes : List ℕ) → AreShownAs s units bytes → AreReadable packets (with_end (behind_header header units)) → IsPlayedTo packets (units_behind 0 (with_end (behind_header header units))) bytes
  stream_played [] bytes shown readable = subst (IsPlayedTo packets (units_behind 0 [])) (sym (no_pictures bytes shown)) (nothing_played_back packets)
  stream_played (u ∷ units) bytes shown readable = pictures_played (u ∷ units) bytes shown readable

-- ---- the law

module _ (window packets : ℕ) (datagrams : List (List ℕ)) where
  -- of sessions of these datagrams
  abbrev units_of : List HeardSession → List DataUnit
  units_of hs = with_end (behind_header (first_header datagrams) (first_pictures window hs))

  abbrev ArePlayed : List HeardSession → Type 0
  ArePlayed hs = IsPlayedTo packets (units_behind 0 (units_of hs)) (first_output window hs)

  none_played : ArePlayed []
  unfolding first_pictures first_output
  none_played = nothing_played_back packets

  shown : (t : Session) → first_of (sessions_of datagrams) ≡ Some t → AreShownAs t.sequence (first_pictures window (sessions_of datagrams)) (first_output window (sessions_of datagrams))
  shown t is =
      let own = by_number window (sessions_of datagrams) t is in
      let s = t.sequence in
      let numbers = opened_numbers own.entered in
      grind (arith, numbers_shown)

  by_first : AreReadable packets (units_of (sessions_of datagrams)) → (o : Option Session) → first_of (sessions_of datagrams) ≡ o → ArePlayed (sessions_of datagrams)
  by_first readable None none = subst ArePlayed (sym (nothing_first (sessions_of datagrams) none)) none_played
  by_first readable (Some t) is = stream_played packets (first_header datagrams) t.sequence (first_header_is datagrams t is)
      (first_pictures window (sessions_of datagrams)) (first_output window (sessions_of datagrams)) (shown t is) readable

pub streams_are_played_back : StreamsArePlayedBack
unfolding stream_of
streams_are_played_back window packets datagrams readable = by_first window packets datagrams readable (first_of (sessions_of datagrams)) refl
