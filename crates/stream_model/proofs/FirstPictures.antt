-- The pictures of the first session: those that are let go stay as they are, and more follow.
use Rattle.std.proofs.Common.{◌≡◌, ℕ, ◌-◌, ◌%◌, Bool, true, false, refl, ap, ◌∙◌}
use Rattle.std.proofs.Common.{List, [], ◌∷◌, ◌++◌, Option, None, cond, arith}
use Rattle.std.specs.Prelude.{◌==◌, filter, filter_map, unwrap_or}
use Rattle.std.specs.List.{flat_map}
use Rattle.std.proofs.lemmas.List.Concat.{flat_map-append}
use Rattle.link_model.specs.Numbers.{Numbered, base_above, parts_of, opened_numbers, greatest, least}
use Rattle.link_model.specs.Output.{planes_at, frame_at, woven_fields, is_let_go, let_go_numbers}
use Rattle.link_model.specs.Output.{greatest_of, entered_behind}
use Rattle.link_model.specs.Session.{Session, HeardSession, just_opened, with_datagram, fragment_in}
use Rattle.link_model.proofs.Leaving.{let_go_numbers_grow, opened_grow}
use Rattle.link_model.proofs.Numbering.{Follows, entered_follows}
use Rattle.link_model.proofs.Releasing.{let_go_before, planes_same, whole_same}
use Rattle.vc_types.specs.DataUnits.{DataUnit}
use Rattle.vc_types.specs.Planes.{Planes}
use Rattle.vc_types.specs.SequenceHeader.{Sequence}
use Rattle.stream_model.specs.Streams.{picture_unit, picture_unit_at, frame_units}
use Rattle.stream_model.specs.Streams.{first_pictures, first_pictures_so_far}

flat_map_same : (f g : ℕ → List DataUnit) (test : ℕ → Bool)
    → ((n : ℕ) → test n ≡ true → f n ≡ g n) → (ns : List ℕ)
    → flat_map f (filter test ns) ≡ flat_map g (filter test ns)
flat_map_same f g test same [] = refl
flat_map_same f g test same (n ∷ ns) = grind (arith, flat_map_same f g test same ns)

-- ---- pictures that are let go stay as they are

module _ (window : ℕ) (s : Sequence) (old new : List Numbered) (later : Follows window old new) where
  frame_stays : (n : ℕ) → is_let_go window s old n ≡ true → frame_at s new n ≡ frame_at s old n
  unfolding frame_at
  frame_stays n gone = by_mode s.fields (n % 2 == 1)
    where
      frame_of : List Numbered → Bool → Bool → Option Planes
      frame_of es fields odd = cond fields (cond odd
          (woven_fields s.top_first (planes_at s es (n - 1)) (planes_at s es n)) None)
          (planes_at s es n)

      by_mode : (fields odd : Bool) → frame_of new fields odd ≡ frame_of old fields odd
      by_mode true true =
          ap (λ (p : Option Planes). woven_fields s.top_first p (planes_at s new n))
          (planes_same window s old new later (n - 1)
          (let_go_before window s old n (n - 1) (omega arith) gone))
          ∙ ap (woven_fields s.top_first (planes_at s old (n - 1)))
          (planes_same window s old new later n gone)
      by_mode true false = refl
      by_mode false odd = planes_same window s old new later n gone

  unit_stays : (n : ℕ) → is_let_go window s old n ≡ true
      → picture_unit_at s new n ≡ picture_unit_at s old n
  unit_stays n gone = ap (λ (o : Option (List ℕ)). picture_unit n (unwrap_or o []))
      (whole_same window s old new later n gone)

  units_stay : (n : ℕ) → is_let_go window s old n ≡ true
      → frame_units s new n ≡ frame_units s old n
  unfolding frame_units
  units_stay n gone = grind (arith, frame_stays, let_go_before, unit_stays)

  -- and more follow
  pub more_let_go : (rest : List ℕ)
      × (let_go_numbers window s new ≡ let_go_numbers window s old ++ rest)
      × (flat_map (frame_units s new) (let_go_numbers window s new)
      ≡ flat_map (frame_units s old) (let_go_numbers window s old)
      ++ flat_map (frame_units s new) rest)
  unfolding let_go_numbers
  more_let_go =
      let grown = let_go_numbers_grow window s old new later in (
        grown.0,
        grown.1,
        ap (flat_map (frame_units s new)) grown.1
            ∙ flat_map-append (frame_units s new) (let_go_numbers window s old) grown.0
            ∙ ap (λ (l : List DataUnit). l ++ flat_map (frame_units s new) grown.0)
            (flat_map_same (frame_units s new) (frame_units s old) (is_let_go window s old)
            units_stay (opened_numbers old)),
      )

-- those that are left when the input ends
pub all_let_go : (window : ℕ) (s : Sequence) (es : List Numbered) → (rest : List ℕ)
    × (opened_numbers es ≡ let_go_numbers window s es ++ rest)
    × (flat_map (frame_units s es) (opened_numbers es)
    ≡ flat_map (frame_units s es) (let_go_numbers window s es) ++ flat_map (frame_units s es) rest)
all_let_go window s es = let grown = opened_grow window s es in (
  grown.0,
  grown.1,
  ap (flat_map (frame_units s es)) grown.1
      ∙ flat_map-append (frame_units s es) (let_go_numbers window s es) grown.0,
)

-- ---- the first session

-- nothing is entered of a session that has just opened
nothing_let_go : (window : ℕ) (s : Sequence) → let_go_numbers window s [] ≡ []
unfolding let_go_numbers opened_numbers greatest least parts_of
nothing_let_go window s = refl

module _ (window : ℕ) where
  pub opening_shows_nothing : (s : Session) → first_pictures_so_far window (just_opened s ∷ []) ≡ []
  unfolding first_pictures_so_far
  opening_shows_nothing s = ap (flat_map (frame_units s.sequence []))
      (nothing_let_go window s.sequence)

  module _ (h : HeardSession) where
    abbrev s : Sequence
    s = h.session.sequence

    abbrev entered_with : List ℕ → List Numbered
    entered_with d = entered_behind window [] (with_datagram h d)

    -- a datagram of it brings the pictures of frames that it lets go
    pub datagram_shows : (d : List ℕ) → (rest : List ℕ)
        × (let_go_numbers window s (entered_with d)
        ≡ let_go_numbers window s (entered_behind window [] h) ++ rest)
        × (first_pictures_so_far window (with_datagram h d ∷ [])
        ≡ first_pictures_so_far window (h ∷ []) ++ flat_map (frame_units s (entered_with d)) rest)
    unfolding first_pictures_so_far
    datagram_shows d = more_let_go window s (entered_behind window [] h) (entered_with d)
        (entered_follows (base_above (greatest_of window [])) window h.fragments
        (filter_map (fragment_in h.session) (d ∷ [])))

    -- its end brings the rest
    pub end_shows : (rest : List ℕ)
        × (opened_numbers (entered_behind window [] h)
        ≡ let_go_numbers window s (entered_behind window [] h) ++ rest)
        × (first_pictures window (h ∷ []) ≡ first_pictures_so_far window (h ∷ [])
        ++ flat_map (frame_units s (entered_behind window [] h)) rest)
    unfolding first_pictures first_pictures_so_far
    end_shows = all_let_go window s (entered_behind window [] h)
