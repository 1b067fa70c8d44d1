-- A datagram: the stream that is written stands for what was heard, and it grows as the stream so
-- far does.
use Rattle.std.proofs.Common.{◌≡◌, ℕ, ◌≤◌, Bool, true, false, refl, ap, sym, subst, ◌∙◌}
use Rattle.std.proofs.Common.{List, [], ◌∷◌, ◌++◌, length, Option, Some, None, arith}
use Rattle.std.specs.Prelude.{drop, is_none, unwrap_or, filter_map}
use Rattle.std.specs.List.{flat_map}
use Rattle.std.specs.Option.{option_map_or}
use Rattle.std.proofs.lemmas.Grind.{common_steps}
use Rattle.std.proofs.lemmas.List.{append-nil}
use Rattle.std.proofs.Math.Seq.{drop-append_seam}
use Rattle.link_model.specs.Complete.{whole_picture}
use Rattle.machine_model.specs.Feeders.{Feeder}
use Rattle.machine_model.specs.Feeding.{hears_datagram}
use Rattle.link_model.specs.Numbers.{Numbered, base_above, parts_of, opened_numbers}
use Rattle.link_model.specs.Output.{let_go_numbers, entered_behind, greatest_of}
use Rattle.link_model.specs.Session.{Session, HeardSession, just_opened, with_datagram, opens_behind}
use Rattle.link_model.specs.Session.{sessions_of, begins, hears, fragment_in}
use Rattle.link_model.specs.Windows.{WindowPast, releasable_numbers}
use Rattle.link_model.proofs.Hearing.{sessions_of_more, hears_nothing, hears_new, hears_on}
use Rattle.link_model.proofs.Numbering.{Follows, entered_follows}
use Rattle.link_model.proofs.Releasing.{whole_same}
use Rattle.receiver_model.specs.Entering.{opens_session, before_releases, takes_datagram}
use Rattle.receiver_model.specs.Exchanging.{Exchange, dones_in}
use Rattle.receiver_model.specs.Judging.{session_opened, opens_after, goes_on, is_over}
use Rattle.receiver_model.specs.Judging.{keeps_datagram}
use Rattle.receiver_model.specs.Receptions.{StandingSession, Reception, FirstField}
use Rattle.receiver_model.specs.Releasing.{releases_all, book_count}
use Rattle.receiver_model.specs.Standing.{StandsFor, AreDecodings, last_past}
use Rattle.receiver_model.proofs.Idle.{none_stands, idle_exchanged}
use Rattle.receiver_model.proofs.JudgedOutcomes.{resting_stands}
use Rattle.receiver_model.proofs.ReleasedNumbers.{released_gone}
use Rattle.receiver_model.proofs.Starting.{past_at_rest, st_at_rest, standing_at_rest, at_rest_works}
use Rattle.receiver_model.proofs.Starting.{opened_is, h_now, past_now, sessions_now, datagram_works}
use Rattle.receiver_model.proofs.Starting.{past_over, sessions_next, next_works, tally_behind}
use Rattle.receiver_model.proofs.WaitingFields.{waiting_is}
use Rattle.receiver_model.proofs.Working.{IsWorking}
use Rattle.stream_model.specs.Streams.{units_behind, behind_header, frame_units}
use Rattle.stream_model.specs.Streams.{first_header, first_pictures, first_pictures_so_far}
use Rattle.stream_model.specs.Streams.{units_so_far, stream_so_far}
use Rattle.stream_model.proofs.FirstPictures.{opening_shows_nothing, datagram_shows, end_shows}
use Rattle.stream_model.proofs.Growing.{header_stays}
use Rattle.vc_types.specs.DataUnits.{DataUnit}
use Rattle.vc_types.specs.SequenceHeader.{Sequence}
use Rattle.link_pictures.specs.Writing.{WrittenStream, units_next, length_behind, bytes_next}
use Rattle.link_pictures.specs.Writing.{opens_stream}
use Rattle.link_pictures.specs.Receiving.{streams_up_to, streamed_up_to, streams_all}
use Rattle.link_pictures.specs.Receiving.{all_streamed_bytes, opens_stream_for, stream_takes}
use Rattle.link_pictures.specs.Receiving.{datagram_units}
use Rattle.link_pictures.specs.Standing.{has_next, waiting_bytes, HasField, StreamsFor}
use Rattle.link_pictures.proofs.Begun.{none_begun, one_begun, first_behind, no_header}
use Rattle.link_pictures.proofs.Begun.{header_of_first}
use Rattle.link_pictures.proofs.Runs.{Streamed, exchanged_streamed}
use Rattle.link_pictures.proofs.Steps.{none_streamed, no_bytes, over_stays, over_writes_nothing}
use Rattle.link_pictures.proofs.UnitLists.{bytes-append, length-append}

-- ---- pictures behind those of a stream so far

more_units : (header own : List ℕ) (previous : Option ℕ) (pictures more : List DataUnit)
    → own ≡ header → previous ≡ length_behind None (behind_header header pictures)
    → behind_header header (pictures ++ more) ≡ behind_header header pictures
    ++ option_map_or (λ previous. more) previous (behind_header own more)
more_units header own previous pictures more same is = grind arith

-- what a stream so far and its pictures come to with more pictures
module _ (header : List ℕ) (w : WrittenStream) (pictures more : List DataUnit)
    (same : w.header ≡ header)
    (is : w.previous ≡ length_behind None (behind_header header pictures)) where
  pub units_more : behind_header header (pictures ++ more)
      ≡ behind_header header pictures ++ units_next w more
  units_more = more_units header w.header w.previous pictures more same is

  pub bytes_more : units_behind 0 (behind_header header (pictures ++ more))
      ≡ units_behind 0 (behind_header header pictures) ++ bytes_next w more
  bytes_more =
      ap (units_behind 0) units_more
      ∙ bytes-append None (behind_header header pictures) (units_next w more)
      ∙ ap (λ (o : Option ℕ). units_behind 0 (behind_header header pictures)
      ++ units_behind (unwrap_or o 0) (units_next w more)) (sym is)

  pub length_more : length_behind None (behind_header header (pictures ++ more))
      ≡ length_behind w.previous (units_next w more)
  length_more = grind (arith, common_steps, length-append, units_more)

-- nothing is written while no session stands
pub idle_stream : (r : Reception) (w : WrittenStream) → r.standing ≡ None → streams_all r w ≡ w
idle_stream r w none = ap (λ (o : Option StandingSession). streams_up_to
    (option_map_or (λ st. length st.window.books) o 0) r w) none ∙ none_streamed r w

pub idle_bytes : (r : Reception) (w : WrittenStream) → r.standing ≡ None
    → all_streamed_bytes r w ≡ []
idle_bytes r w none = ap (λ (o : Option StandingSession). streamed_up_to
    (option_map_or (λ st. length st.window.books) o 0) r w) none ∙ no_bytes r w

module _ (r : Reception) (size : ℕ) (f : Feeder) (small : size ≤ 8) (stands : StandsFor r size f)
    (runs : f.has_ended ≡ false) (w : WrittenStream) (streams : StreamsFor r w size f.heard)
    (xs : List Exchange) (right : AreDecodings (dones_in xs)) (d : List ℕ) where
  abbrev then : Reception
  then = takes_datagram r d xs

  abbrev before : Reception
  before = before_releases r d xs

  abbrev now : List (List ℕ)
  now = f.heard ++ d ∷ []

  pub record Grown : Type 0 where
    pub follows : StreamsFor then (stream_takes r d xs w) size now
    pub bytes : stream_so_far size now ≡ stream_so_far size f.heard ++ datagram_units r d xs w

  abbrev pictures_before : List DataUnit
  pictures_before = first_pictures_so_far size (sessions_of f.heard)

  abbrev pictures_now : List DataUnit
  pictures_now = first_pictures_so_far size (sessions_of now)

  -- the stream's units grow by those of these pictures
  units_are : (more : List DataUnit) → first_header now ≡ first_header f.heard
      → pictures_now ≡ pictures_before ++ more
      → units_so_far size now ≡ behind_header (first_header f.heard) (pictures_before ++ more)
  units_are more header grown = grind (arith, grown)

  bytes_are : (more : List DataUnit) → first_header now ≡ first_header f.heard
      → pictures_now ≡ pictures_before ++ more
      → stream_so_far size now ≡ stream_so_far size f.heard ++ bytes_next w more
  unfolding stream_so_far
  bytes_are more header grown = grind (arith, bytes_more, grown, units_are)

  length_is : (more : List DataUnit) → first_header now ≡ first_header f.heard
      → pictures_now ≡ pictures_before ++ more
      → length_behind w.previous (units_next w more) ≡ length_behind None (units_so_far size now)
  length_is more header grown = grind (arith, grown, length_more, units_are)

  -- where nothing comes to it
  same_bytes : first_header now ≡ first_header f.heard → pictures_now ≡ pictures_before
      → stream_so_far size now ≡ stream_so_far size f.heard ++ []
  unfolding stream_so_far
  same_bytes header same = grind (arith, common_steps, append-nil)

  same_length : first_header now ≡ first_header f.heard → pictures_now ≡ pictures_before
      → w.previous ≡ length_behind None (units_so_far size now)
  same_length header same = grind arith

  -- ---- before a session stands

  module _ (at : sessions_of f.heard ≡ []) where
    none_began : first_header now ≡ first_header (d ∷ [])
    none_began = first_behind f.heard (d ∷ []) (none_begun f.heard at)

    nothing_before : first_header f.heard ≡ []
    nothing_before = no_header f.heard (none_begun f.heard at)

    no_pictures : pictures_before ≡ []
    unfolding first_pictures_so_far
    no_pictures = ap (first_pictures_so_far size) at

    none_standing : r.standing ≡ None
    none_standing = none_stands r size f stands runs at

    still_none : before.standing ≡ None
    unfolding keeps_datagram
    still_none = grind (arith, idle_exchanged, none_standing)

    opened_first : session_opened r d ≡ begins d
    opened_first = ap (λ (o : Option StandingSession). opens_after o (begins d)) none_standing

    heard_first : sessions_of now ≡ hears [] d
    heard_first = sessions_of_more f.heard d ∙ ap (λ (l : List HeardSession). hears l d) at

    takes_is : (o : Option Session) → begins d ≡ o
        → stream_takes r d xs w ≡ opens_stream_for o (is_none r.standing) d w
    unfolding stream_takes
    takes_is o is = grind (arith, idle_stream, opened_first, still_none)

    writes_none : datagram_units r d xs w ≡ []
    unfolding datagram_units
    writes_none = idle_bytes before w still_none

    no_length : w.previous ≡ None
    no_length = streams.previous ∙ ap (λ (l : List DataUnit).
        length_behind None (behind_header (first_header f.heard) l)) no_pictures

    empty_so_far : pictures_now ≡ [] → stream_so_far size now
        ≡ stream_so_far size f.heard ++ datagram_units r d xs w
    unfolding stream_so_far
    empty_so_far none = grind (arith, common_steps, append-nil, no_pictures, writes_none)

    empty_length : pictures_now ≡ []
        → w.previous ≡ length_behind None (units_so_far size now)
    empty_length none = no_length ∙ sym (ap (λ (l : List DataUnit).
        length_behind None (behind_header (first_header now) l)) none)

    -- and none opens
    module _ (none : begins d ≡ None) where
      sessions_none : sessions_of now ≡ []
      sessions_none = heard_first ∙ hears_nothing d none

      pictures_none : pictures_now ≡ []
      unfolding first_pictures_so_far
      pictures_none = ap (first_pictures_so_far size) sessions_none

      stays : StreamsFor then w size now
      stays = record {
        header = streams.header ∙ nothing_before
            ∙ sym (none_began ∙ header_of_first d None none);
        over = streams.over ∙ ap has_next at ∙ sym (ap has_next sessions_none);
        field = subst (λ (l : List HeardSession). HasField size l then.field w.field)
            (sym sessions_none)
            (subst (λ (l : List HeardSession). HasField size l r.field w.field) at streams.field);
        previous = empty_length pictures_none;
      }

      pub early : Grown
      early = record {
        follows = subst (λ (v : WrittenStream). StreamsFor then v size now)
            (sym (takes_is None none)) stays;
        bytes = empty_so_far pictures_none;
      }

    -- or the first one opens
    module _ (s : Session) (opens : begins d ≡ Some s) where
      sessions_first : sessions_of now ≡ just_opened s ∷ []
      sessions_first = heard_first ∙ hears_new [] d s opens

      pictures_first : pictures_now ≡ []
      pictures_first = ap (first_pictures_so_far size) sessions_first ∙ opening_shows_nothing size s

      takes_header : stream_takes r d xs w ≡ opens_stream w true d
      takes_header = takes_is (Some s) opens
          ∙ ap (λ (o : Option StandingSession). opens_stream w (is_none o) d) none_standing

      no_field : then.field ≡ None
      unfolding takes_datagram
      no_field = ap (λ (o : Option Session). (opens_session o (releases_all before)).field)
          (opened_first ∙ opens)

      opened : StreamsFor then (opens_stream w true d) size now
      opened = record {
        header = sym (none_began ∙ header_of_first d (Some s) opens);
        over = streams.over ∙ ap has_next at ∙ sym (ap has_next sessions_first);
        field = subst (λ (l : List HeardSession). HasField size l then.field None)
            (sym sessions_first)
            (sym (ap (waiting_bytes s.sequence (entered_behind size [] (just_opened s))) no_field));
        previous = empty_length pictures_first;
      }

      pub first : Grown
      first = record {
        follows = subst (λ (v : WrittenStream). StreamsFor then v size now) (sym takes_header)
            opened;
        bytes = empty_so_far pictures_first;
      }

  -- ---- with a session that stands

  module _ (h : HeardSession) (hs : List HeardSession) (at : sessions_of f.heard ≡ h ∷ hs) where
    header_same : first_header now ≡ first_header f.heard
    header_same = header_stays f.heard (d ∷ []) (one_begun f.heard h hs at)

    standing_is : is_none r.standing ≡ false
    standing_is = ap (λ (o : Option StandingSession). is_none o)
        (standing_at_rest r size small f stands runs h hs at)

    takes_by : (o : Option Session) → opens_behind h (begins d) ≡ o
        → stream_takes r d xs w ≡ opens_stream_for o (is_none r.standing) d (streams_all before w)
    unfolding stream_takes
    takes_by o is = ap (λ (o : Option Session).
        opens_stream_for o (is_none r.standing) d (streams_all before w))
        (opened_is r size small f stands runs h hs at d ∙ is)

    takes_next : (s : Session) → opens_behind h (begins d) ≡ Some s
        → stream_takes r d xs w ≡ opens_stream (streams_all before w) false d
    takes_next s is = takes_by (Some s) is
        ∙ ap (λ (b : Bool). opens_stream (streams_all before w) b d) standing_is

    -- its releases wrote all pictures that came to it
    wrote_all : (more : List DataUnit) → all_streamed_bytes before w ≡ bytes_next w more
        → pictures_now ≡ pictures_before ++ more
        → stream_so_far size now ≡ stream_so_far size f.heard ++ datagram_units r d xs w
    unfolding datagram_units
    wrote_all more wrote grown = grind (arith, bytes_are, grown, header_same)

    -- ---- behind the first

    module _ (over : w.is_over ≡ true) (same : pictures_now ≡ pictures_before)
        (several : has_next (sessions_of now) ≡ true)
        (any : (v : Option (List ℕ)) → HasField size (sessions_of now) then.field v) where
      nothing_goes : streams_all before w ≡ w
      nothing_goes = over_stays w over (book_count before) before

      stays_over : (v : WrittenStream) → v.header ≡ w.header → v.is_over ≡ true
          → v.previous ≡ w.previous → StreamsFor then v size now
      stays_over v header is previous = grind (arith, header_same, same_length)

      over_bytes : stream_so_far size now ≡ stream_so_far size f.heard ++ datagram_units r d xs w
      unfolding datagram_units
      over_bytes = grind (arith, header_same, over_writes_nothing, same_bytes)

      pub behind : (o : Option Session) → opens_behind h (begins d) ≡ o → Grown
      behind None is = record {
        follows = subst (λ (v : WrittenStream). StreamsFor then v size now)
            (sym (takes_by None is ∙ nothing_goes)) (stays_over w refl over refl);
        bytes = over_bytes;
      }
      behind (Some s) is = record {
        follows = subst (λ (v : WrittenStream). StreamsFor then v size now)
            (sym (takes_next s is ∙ ap (λ (v : WrittenStream). opens_stream v false d)
            nothing_goes))
            (stays_over (opens_stream w false d) refl refl refl);
        bytes = over_bytes;
      }

  -- ---- while the first one stands

  module _ (h : HeardSession) (at : sessions_of f.heard ≡ h ∷ []) where
    abbrev s : Sequence
    s = h.session.sequence

    abbrev old : List Numbered
    old = entered_behind size [] h

    abbrev past : WindowPast
    past = past_at_rest r size small f stands runs h [] at

    still_first : w.is_over ≡ false
    still_first = streams.over ∙ ap has_next at

    field_before : w.field ≡ waiting_bytes s old r.field
    field_before = subst (λ (l : List HeardSession). HasField size l r.field w.field) at
        streams.field

    shown_before : pictures_before ≡ first_pictures_so_far size (h ∷ [])
    shown_before = ap (first_pictures_so_far size) at

    -- it goes on
    module _ (none : opens_behind h (begins d) ≡ None) where
      abbrev h_then : HeardSession
      h_then = h_now r size small f stands runs h [] at d none

      abbrev new : List Numbered
      new = entered_behind size [] h_then

      abbrev past_then : WindowPast
      past_then = past_now r size small f stands runs h [] at d none

      sessions_then : sessions_of now ≡ h_then ∷ []
      sessions_then = sessions_now r size small f stands runs h [] at d none

      kept_works : IsWorking (keeps_datagram r d) size (hears_datagram f d) [] past_then
          (goes_on (st_at_rest r size small f stands runs h [] at) d) (tally_behind size [] now)
      kept_works = datagram_works r size small f stands runs h [] at d none

      follows : Follows size old new
      follows = entered_follows (base_above (greatest_of size [])) size h.fragments
          (filter_map (fragment_in h.session) (d ∷ []))

      bytes_stay : (o : Option FirstField) → r.field ≡ o
          → waiting_bytes s old o ≡ waiting_bytes s new o
      bytes_stay None is = refl
      bytes_stay (Some field) is =
          let one = waiting_is s old field past.released
          (sym (at_rest_works r size small f stands runs h [] at).waiting ∙ is) in
          let gone = released_gone past (resting_stands (last_past size false [] h)).in_order
          one.0 one.1 in
          ap (λ k. whole_picture s (parts_of k old)) one.2.number
          ∙ sym (whole_same size s old new follows one.0 gone)
          ∙ ap (λ k. whole_picture s (parts_of k new)) (sym one.2.number)

      ran : Streamed size [] (tally_behind size [] now) (book_count before) before w past_then
          (releasable_numbers past_then)
      unfolding keeps_datagram
      ran = exchanged_streamed size [] (tally_behind size [] now) kept_works xs right w still_first
          (field_before ∙ bytes_stay r.field refl)

      shown : (rest : List ℕ)
          × (let_go_numbers size s new ≡ let_go_numbers size s old ++ rest)
          × (first_pictures_so_far size (h_then ∷ [])
          ≡ first_pictures_so_far size (h ∷ []) ++ flat_map (frame_units s new) rest)
      shown = datagram_shows size h d

      released : releasable_numbers past_then ≡ shown.0
      released = ap (drop (length (let_go_numbers size s old))) shown.1
          ∙ drop-append_seam (let_go_numbers size s old) shown.0

      abbrev more : List DataUnit
      more = flat_map (frame_units s new) (releasable_numbers past_then)

      grown : pictures_now ≡ pictures_before ++ more
      grown = grind (arith, released, sessions_then, shown, shown_before)

      then_is : then.field ≡ (releases_all before).field
      unfolding takes_datagram
      then_is = ap (λ (o : Option Session). (opens_session o (releases_all before)).field)
          (opened_is r size small f stands runs h [] at d ∙ none)

      goes : StreamsFor then (streams_all before w) size now
      goes = grind (arith, grown, header_same, length_is, ran, sessions_then, still_first, then_is)

      pub on : Grown
      on = record {
        follows = subst (λ (v : WrittenStream). StreamsFor then v size now)
            (sym (takes_by h [] at None none)) goes;
        bytes = wrote_all h [] at more ran.bytes grown;
      }

    -- or the next one opens
    module _ (t : Session) (opens : opens_behind h (begins d) ≡ Some t) where
      abbrev past_end : WindowPast
      past_end = past_over r size small f stands runs h [] at d t opens

      sessions_two : sessions_of now ≡ just_opened t ∷ h ∷ []
      sessions_two = sessions_next r size small f stands runs h [] at d t opens

      kept_over : IsWorking (keeps_datagram r d) size (hears_datagram f d) [] past_end
          (is_over (st_at_rest r size small f stands runs h [] at)) (tally_behind size [] now)
      kept_over = next_works r size small f stands runs h [] at d t opens

      ran_over : Streamed size [] (tally_behind size [] now) (book_count before) before w past_end
          (releasable_numbers past_end)
      unfolding keeps_datagram
      ran_over = exchanged_streamed size [] (tally_behind size [] now) kept_over xs right w
          still_first field_before

      left : (rest : List ℕ)
          × (opened_numbers old ≡ let_go_numbers size s old ++ rest)
          × (first_pictures size (h ∷ [])
          ≡ first_pictures_so_far size (h ∷ []) ++ flat_map (frame_units s old) rest)
      left = end_shows size h

      released_over : releasable_numbers past_end ≡ left.0
      released_over = ap (drop (length (let_go_numbers size s old))) left.1
          ∙ drop-append_seam (let_go_numbers size s old) left.0

      abbrev more_over : List DataUnit
      more_over = flat_map (frame_units s old) (releasable_numbers past_end)

      grown_over : pictures_now ≡ pictures_before ++ more_over
      unfolding first_pictures_so_far
      grown_over = grind (arith, left, released_over, sessions_two, shown_before)

      closes : StreamsFor then (opens_stream (streams_all before w) false d) size now
      closes = grind (arith, grown_over, header_same, length_is, ran_over, sessions_two)

      pub next : Grown
      next = grind (arith, closes, follows, grown_over, ran_over, takes_next, wrote_all)

  -- ---- whatever stands

  module _ (h g : HeardSession) (hs : List HeardSession)
      (at : sessions_of f.heard ≡ h ∷ g ∷ hs) where
    later_over : w.is_over ≡ true
    later_over = streams.over ∙ ap has_next at

    later_heard : sessions_of now ≡ hears (h ∷ g ∷ hs) d
    later_heard = sessions_of_more f.heard d ∙ ap (λ (l : List HeardSession). hears l d) at

    pub later : Grown
    unfolding first_pictures_so_far first_pictures
    later = by_next (opens_behind h (begins d)) refl
      where
        by_last : (l k : HeardSession) (ls : List HeardSession) → sessions_of now ≡ l ∷ k ∷ ls
            → first_pictures_so_far size (l ∷ k ∷ ls) ≡ first_pictures_so_far size (h ∷ g ∷ hs)
            → (o : Option Session) → opens_behind h (begins d) ≡ o → Grown
        by_last l k ls sessions same = behind h (g ∷ hs) at later_over
            (ap (first_pictures_so_far size) sessions ∙ same
            ∙ sym (ap (first_pictures_so_far size) at))
            (ap has_next sessions)
            (λ v. subst (λ (l : List HeardSession). HasField size l then.field v) (sym sessions) tt)

        by_next : (o : Option Session) → opens_behind h (begins d) ≡ o → Grown
        by_next None is = by_last (with_datagram h d) g hs
            (later_heard ∙ hears_on (h ∷ g ∷ hs) d is) refl None is
        by_next (Some s) is = by_last (just_opened s) h (g ∷ hs)
            (later_heard ∙ hears_new (h ∷ g ∷ hs) d s is) refl (Some s) is

  pub grows : Grown
  grows = by_sessions (sessions_of f.heard) refl
    where
      by_first : sessions_of f.heard ≡ [] → (o : Option Session) → begins d ≡ o → Grown
      by_first at None none = early at none
      by_first at (Some s) opens = first at s opens

      by_next : (h : HeardSession) → sessions_of f.heard ≡ h ∷ [] → (o : Option Session)
          → opens_behind h (begins d) ≡ o → Grown
      by_next h at None none = on h at none
      by_next h at (Some s) opens = next h at s opens

      by_sessions : (l : List HeardSession) → sessions_of f.heard ≡ l → Grown
      by_sessions [] at = by_first at (begins d) refl
      by_sessions (h ∷ []) at = by_next h at (opens_behind h (begins d)) refl
      by_sessions (h ∷ g ∷ hs) at = later h g hs at
