-- The end of the input: what is written then is the rest of the stream.
use Rattle.std.proofs.Common.{◌≡◌, ℕ, ◌≤◌, ◌%◌, ◌^◌, true, false, refl, ap, sym, subst, ◌∙◌}
use Rattle.std.proofs.Common.{List, [], ◌∷◌, ◌++◌, length, Option, None, arith}
use Rattle.std.specs.Prelude.{drop}
use Rattle.std.specs.List.{flat_map}
use Rattle.std.specs.Option.{option_map, option_map_or}
use Rattle.std.proofs.lemmas.List.{append-nil, append_assoc}
use Rattle.std.proofs.Math.Seq.{drop-append_seam}
use Rattle.machine_model.specs.Feeders.{Feeder}
use Rattle.machine_model.specs.Feeding.{hears_end}
use Rattle.link_model.specs.Numbers.{Numbered, opened_numbers}
use Rattle.link_model.specs.Output.{let_go_numbers, entered_behind}
use Rattle.link_model.specs.Session.{HeardSession, sessions_of}
use Rattle.link_model.specs.Windows.{WindowPast, releasable_numbers, past_finishes}
use Rattle.receiver_model.specs.Exchanging.{Exchange, all_exchanged, dones_in}
use Rattle.receiver_model.specs.Judging.{is_over, ends_input}
use Rattle.receiver_model.specs.Receptions.{Reception}
use Rattle.receiver_model.specs.Releasing.{book_count}
use Rattle.receiver_model.specs.Standing.{StandsFor, AreDecodings}
use Rattle.receiver_model.proofs.Idle.{none_stands, idle_exchanged}
use Rattle.receiver_model.proofs.Starting.{past_at_rest, st_at_rest, end_works, tally_behind}
use Rattle.receiver_model.proofs.Working.{IsWorking}
use Rattle.stream_model.specs.Streams.{units_behind, last_length, behind_header, with_end, end_unit}
use Rattle.stream_model.specs.Streams.{frame_units, first_header, first_pictures}
use Rattle.stream_model.specs.Streams.{first_pictures_so_far, stream_of, stream_so_far}
use Rattle.stream_model.proofs.FirstPictures.{end_shows}
use Rattle.vc_types.specs.DataUnits.{DataUnit, unit_bytes}
use Rattle.vc_types.specs.ParseCodes.{end_code}
use Rattle.vc_types.specs.SequenceHeader.{Sequence}
use Rattle.link_pictures.specs.Writing.{WrittenStream, length_behind, bytes_next, end_of_stream}
use Rattle.link_pictures.specs.Writing.{units_next}
use Rattle.link_pictures.specs.Receiving.{streams_all, all_streamed_bytes, stream_takes_end, end_units}
use Rattle.link_pictures.specs.Standing.{has_next, HasField, StreamsFor}
use Rattle.link_pictures.proofs.Datagrams.{bytes_more, length_more}
use Rattle.link_pictures.proofs.Datagrams.{idle_stream, idle_bytes}
use Rattle.link_pictures.proofs.Runs.{Streamed, exchanged_streamed}
use Rattle.link_pictures.proofs.Steps.{over_stays, over_writes_nothing}
use Rattle.link_pictures.proofs.UnitLists.{bytes-append}

-- an end of sequence behind units, if there are any
abbrev end_behind : Option ℕ → List ℕ
end_behind previous = option_map_or (λ previous. unit_bytes end_code [] previous) previous []

end_bytes : (units : List DataUnit) → units_behind 0 (with_end units)
    ≡ units_behind 0 units ++ end_behind (length_behind None units)
unfolding units_behind
end_bytes [] = refl
end_bytes (u ∷ units) =
    bytes-append None (u ∷ units) (end_unit ∷ [])
    ∙ ap (λ (l : List ℕ). units_behind 0 (u ∷ units) ++ l)
    (append-nil (unit_bytes end_code [] (last_length 0 (u ∷ units) % 2 ^ 32)))

module _ (r : Reception) (size : ℕ) (f : Feeder) (small : size ≤ 8) (stands : StandsFor r size f)
    (runs : f.has_ended ≡ false) (w : WrittenStream) (streams : StreamsFor r w size f.heard)
    (xs : List Exchange) (right : AreDecodings (dones_in xs)) where
  abbrev last : Reception
  last = all_exchanged (ends_input r) xs

  abbrev all_pictures : List DataUnit
  all_pictures = first_pictures size (sessions_of f.heard)

  abbrev pictures_so_far : List DataUnit
  pictures_so_far = first_pictures_so_far size (sessions_of f.heard)

  abbrev header : List ℕ
  header = first_header f.heard

  -- the stream, by the pictures that are left
  stream_is : (more : List DataUnit) → all_pictures ≡ pictures_so_far ++ more
      → stream_of size f.heard ≡ stream_so_far size f.heard ++ (bytes_next w more
      ++ end_behind (length_behind w.previous (units_next w more)))
  unfolding stream_of stream_so_far
  stream_is more grown =
      let all = behind_header header (pictures_so_far ++ more) in
      ap (λ (l : List DataUnit). units_behind 0 (with_end (behind_header header l))) grown
      ∙ end_bytes all
      ∙ ap (λ (l : List ℕ). l ++ end_behind (length_behind None all))
      (bytes_more header w pictures_so_far more streams.header streams.previous)
      ∙ ap (λ (o : Option ℕ). (units_behind 0 (behind_header header pictures_so_far)
      ++ bytes_next w more) ++ end_behind o)
      (length_more header w pictures_so_far more streams.header streams.previous)
      ∙ append_assoc (units_behind 0 (behind_header header pictures_so_far)) (bytes_next w more)
      (end_behind (length_behind w.previous (units_next w more)))

  -- where nothing is left
  same_stream : all_pictures ≡ pictures_so_far
      → stream_of size f.heard ≡ stream_so_far size f.heard ++ end_of_stream w
  unfolding stream_of stream_so_far
  same_stream same = grind (arith, end_bytes)

  writes : (bytes : List ℕ) (then : WrittenStream) → all_streamed_bytes last w ≡ bytes
      → streams_all last w ≡ then
      → end_units r xs w ≡ bytes ++ end_of_stream then
  unfolding end_units stream_takes_end
  writes bytes then is stream = grind arith

  abbrev Goal : Type 0
  Goal = stream_of size f.heard ≡ stream_so_far size f.heard ++ end_units r xs w

  -- no session came
  none : sessions_of f.heard ≡ [] → Goal
  unfolding first_pictures first_pictures_so_far
  none at =
      let idle : (ends_input r).standing ≡ None =
      ap (option_map is_over) (none_stands r size f stands runs at) in
      let still : last.standing ≡ None = (idle_exchanged xs (ends_input r) idle).standing ∙ idle in
      same_stream (ap (first_pictures size) at ∙ sym (ap (first_pictures_so_far size) at))
      ∙ ap (λ (l : List ℕ). stream_so_far size f.heard ++ l)
      (sym (writes [] w (idle_bytes last w still) (idle_stream last w still)))

  -- others came behind the first
  several : (h g : HeardSession) (hs : List HeardSession) → sessions_of f.heard ≡ h ∷ g ∷ hs
      → Goal
  unfolding first_pictures first_pictures_so_far
  several h g hs at =
      let over : w.is_over ≡ true = streams.over ∙ ap has_next at in
      same_stream (ap (first_pictures size) at ∙ sym (ap (first_pictures_so_far size) at))
      ∙ ap (λ (l : List ℕ). stream_so_far size f.heard ++ l)
      (sym (writes [] w (over_writes_nothing w over (book_count last) last)
      (over_stays w over (book_count last) last)))

  -- the first one stands
  module _ (h : HeardSession) (at : sessions_of f.heard ≡ h ∷ []) where
    abbrev s : Sequence
    s = h.session.sequence

    abbrev es : List Numbered
    es = entered_behind size [] h

    abbrev past : WindowPast
    past = past_finishes (past_at_rest r size small f stands runs h [] at)

    ended_works : IsWorking (ends_input r) size (hears_end f) [] past
        (is_over (st_at_rest r size small f stands runs h [] at)) (tally_behind size [] f.heard)
    ended_works = end_works r size small f stands runs h [] at

    ran : Streamed size [] (tally_behind size [] f.heard) (book_count last) last w past
        (releasable_numbers past)
    ran = exchanged_streamed size [] (tally_behind size [] f.heard) ended_works xs right w
        (streams.over ∙ ap has_next at)
        (subst (λ (l : List HeardSession). HasField size l r.field w.field) at streams.field)

    left : (rest : List ℕ)
        × (opened_numbers es ≡ let_go_numbers size s es ++ rest)
        × (first_pictures size (h ∷ [])
        ≡ first_pictures_so_far size (h ∷ []) ++ flat_map (frame_units s es) rest)
    left = end_shows size h

    released : releasable_numbers past ≡ left.0
    released = ap (drop (length (let_go_numbers size s es))) left.1
        ∙ drop-append_seam (let_go_numbers size s es) left.0

    abbrev more : List DataUnit
    more = flat_map (frame_units s es) (releasable_numbers past)

    grown : all_pictures ≡ pictures_so_far ++ more
    grown = grind (arith, left, released)

    one : Goal
    one =
        stream_is more grown
        ∙ ap (λ (l : List ℕ). stream_so_far size f.heard ++ l)
        (ap (λ (o : Option ℕ). bytes_next w more ++ end_behind o) (sym ran.goes_on.previous)
        ∙ sym (writes (bytes_next w more) (streams_all last w) ran.bytes refl))

  pub ends : Goal
  ends = grind (arith, none, one, several)
