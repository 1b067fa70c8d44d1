-- The frames of a session: those that are let go stay as they are, and more follow.
use Rattle.std.proofs.Common.{◌≡◌, ℕ, ◌-◌, ◌%◌, Bool, true, false, refl, ap, ◌∙◌, arith}
use Rattle.std.proofs.Common.{List, [], ◌∷◌, ◌++◌, Option, None, cond}
use Rattle.std.specs.Prelude.{◌==◌, filter}
use Rattle.std.specs.List.{flat_map}
use Rattle.std.proofs.lemmas.List.Concat.{flat_map-append}
use Rattle.link_model.specs.Numbers.{Numbered, opened_numbers, greatest, least, parts_of}
use Rattle.link_model.specs.Output.{planes_at, frame_at, woven_fields, is_let_go, let_go_numbers}
use Rattle.link_model.proofs.Leaving.{let_go_numbers_grow, opened_grow}
use Rattle.link_model.proofs.Numbering.{Follows}
use Rattle.link_model.proofs.Releasing.{let_go_before, planes_same}
use Rattle.vc_types.specs.Planes.{Planes}
use Rattle.vc_types.specs.SequenceHeader.{Sequence}
use Rattle.fill_model.specs.Filled.{WrittenFrame}
use Rattle.fill_model.specs.FilledSessions.{written_frame, frame_written, all_written, written_so_far}

flat_map_same : (f g : ℕ → List WrittenFrame) (test : ℕ → Bool)
    → ((n : ℕ) → test n ≡ true → f n ≡ g n) → (ns : List ℕ)
    → flat_map f (filter test ns) ≡ flat_map g (filter test ns)
flat_map_same f g test same [] = refl
flat_map_same f g test same (n ∷ ns) = grind (arith, flat_map_same f g test same ns)

module _ (window : ℕ) (s : Sequence) (old new : List Numbered) (later : Follows window old new) where
  frame_stays : (n : ℕ) → is_let_go window s old n ≡ true → frame_at s new n ≡ frame_at s old n
  unfolding frame_at
  frame_stays n gone = by_mode s.fields (n % 2 == 1)
    where
      frame_of : List Numbered → Bool → Bool → Option Planes
      frame_of es fields odd = cond fields (cond odd
          (woven_fields s.top_first (planes_at s es (n - 1)) (planes_at s es n)) None)
          (planes_at s es n)

      by_mode : (fields odd : Bool) → frame_of new fields odd ≡ frame_of old fields odd
      by_mode true true =
          ap (λ (p : Option Planes). woven_fields s.top_first p (planes_at s new n))
          (planes_same window s old new later (n - 1)
          (let_go_before window s old n (n - 1) (omega arith) gone))
          ∙ ap (woven_fields s.top_first (planes_at s old (n - 1)))
          (planes_same window s old new later n gone)
      by_mode true false = refl
      by_mode false odd = planes_same window s old new later n gone

  written_stays : (n : ℕ) → is_let_go window s old n ≡ true
      → frame_written s new n ≡ frame_written s old n
  written_stays n gone = ap (written_frame s n) (frame_stays n gone)

  -- with more datagrams of the session
  pub more_written : (rest : List ℕ)
      × (let_go_numbers window s new ≡ let_go_numbers window s old ++ rest)
      × (written_so_far window s new
      ≡ written_so_far window s old ++ flat_map (frame_written s new) rest)
  unfolding written_so_far let_go_numbers
  more_written =
      let grown = let_go_numbers_grow window s old new later in (
        grown.0,
        grown.1,
        ap (flat_map (frame_written s new)) grown.1
            ∙ flat_map-append (frame_written s new) (let_go_numbers window s old) grown.0
            ∙ ap (λ (l : List WrittenFrame). l ++ flat_map (frame_written s new) grown.0)
            (flat_map_same (frame_written s new) (frame_written s old) (is_let_go window s old)
            written_stays (opened_numbers old)),
      )

-- those that are left when it ends
pub rest_written : (window : ℕ) (s : Sequence) (es : List Numbered) → (rest : List ℕ)
    × (opened_numbers es ≡ let_go_numbers window s es ++ rest)
    × (all_written s es ≡ written_so_far window s es ++ flat_map (frame_written s es) rest)
unfolding all_written written_so_far
rest_written window s es = let grown = opened_grow window s es in (
  grown.0,
  grown.1,
  ap (flat_map (frame_written s es)) grown.1
      ∙ flat_map-append (frame_written s es) (let_go_numbers window s es) grown.0,
)

-- nothing is entered of a session that has just opened
pub nothing_written : (window : ℕ) (s : Sequence) → written_so_far window s [] ≡ []
unfolding written_so_far let_go_numbers opened_numbers greatest least parts_of
nothing_written window s = refl
