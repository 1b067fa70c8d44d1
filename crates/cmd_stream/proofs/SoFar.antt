-- What units bring, a unit more.
use Rattle.std.proofs.Common.{◌≡◌, ℕ, Bool, true, false, List, [], ◌∷◌, ◌++◌, Option, Some, None, refl, sym, ap, ◌∙◌, append-nil}
use Rattle.std.specs.Prelude.{option_and_then, if◌then◌else◌, ◌==◌, ◌||◌}
use Rattle.std.specs.Option.{option_map}
use Rattle.vc_types.specs.DataUnits.{DataUnit}
use Rattle.vc_types.specs.ParseCodes.{header_code, low_delay_code, picture_code}
use Rattle.vc_ports.proofs.Given.{some_is}
use Rattle.cmd_stream.specs.Stream.{Stream, StreamPicture, StreamSoFar, at_start, picture_code_of, with_header, with_picture, picture_in, shows, takes, all_taken, units_taken, after_unit, played}
use Rattle.cmd_stream.specs.Taking.{BringsDue}
use Rattle.cmd_stream.proofs.PlayBringing.{played-header}
use Rattle.cmd_stream.proofs.Showing.{played-more}

-- a unit behind others that are taken
behind-others : (start : StreamSoFar) (units : List DataUnit) (u : DataUnit) (h : StreamSoFar) → all_taken start units ≡ (h, false) → all_taken start (units ++ u ∷ []) ≡ all_taken h (u ∷ [])
unfolding all_taken
behind-others start [] u h e = ap (λ (x : StreamSoFar × Bool). all_taken x.0 (u ∷ [])) e
behind-others start (first ∷ units) u h e = go (takes start.stream first) refl (λ next k. behind-others (after_unit start first next) units u h k)
  where
    none_is : ◌≡◌ {A = StreamSoFar × Bool} (start, true) (h, false) → ⊥
    none_is k = (let other = ap (λ (x : StreamSoFar × Bool). x.1) k in cc)

    go : (found : Option (Option Stream)) → takes start.stream first ≡ found
        → ((next : Option Stream) → all_taken (after_unit start first next) units ≡ (h, false) → all_taken (after_unit start first next) (units ++ u ∷ []) ≡ all_taken h (u ∷ []))
        → all_taken start ((first ∷ units) ++ u ∷ []) ≡ all_taken h (u ∷ [])
    go None is rest = absurd (none_is (rw is at e))
    go (Some next) is rest = rw is (rest next (rw is at e))

-- it is taken
pub so_far-taken : (units : List DataUnit) (u : DataUnit) (h : StreamSoFar) (stream : Option Stream) → units_taken units ≡ (h, false) → takes h.stream u ≡ Some stream → units_taken (units ++ u ∷ []) ≡ (after_unit h u stream, false)
unfolding all_taken
so_far-taken units u h stream e t = behind-others at_start units u h e ∙ rw t refl

-- it is refused
pub so_far-refused : (units : List DataUnit) (u : DataUnit) (h : StreamSoFar) → units_taken units ≡ (h, false) → takes h.stream u ≡ None → units_taken (units ++ u ∷ []) ≡ (h, true)
unfolding all_taken
so_far-refused units u h e t = behind-others at_start units u h e ∙ rw t refl

-- ---- what is written only grows

abbrev Grows : Option Stream → Option Stream → Type 0
Grows old new = (more : List ℕ) × (played new ≡ played old ++ more)

abbrev nested : Option Stream → Option (Option Stream)
nested stream = option_map (λ next. Some next) stream

header-grows : (stream new found : Option Stream) (u : DataUnit) → with_header stream u.body ≡ found → nested found ≡ Some new → Grows stream new
header-grows stream new None u is e = absurd cc
header-grows stream new (Some next) u is e =
    let same = some_is (Some next) new e in
    ([], ap played (sym same) ∙ played-header stream u.body next is ∙ sym (append-nil (played stream)))

picture-grows : (s : Stream) (new : Option Stream) (p : Option StreamPicture) → nested (option_map (with_picture s) p) ≡ Some new → Grows (Some s) new
picture-grows s new None e = absurd cc
picture-grows s new (Some p) e = (_, ap played (sym (some_is (Some (with_picture s p)) new e)) ∙ played-more s p)

coded-grows : (s : Stream) (new : Option Stream) (p : Option StreamPicture) (same : Bool) → nested (if same then option_map (with_picture s) p else None) ≡ Some new → Grows (Some s) new
coded-grows s new p true e = picture-grows s new p e
coded-grows s new p false e = absurd cc

shown-grows : (stream new : Option Stream) (u : DataUnit) → nested (option_and_then (shows u) stream) ≡ Some new → Grows stream new
shown-grows None new u e = absurd cc
shown-grows (Some s) new u e = coded-grows s new (picture_in s.coding s.sequence u.body) (u.code == picture_code_of s.coding) e

-- a unit that is taken, and what is due for it
pub taken-grows : (stream new : Option Stream) (u : DataUnit) → takes stream u ≡ Some new → BringsDue stream u
unfolding takes
taken-grows stream new u e =
    let grows = by_tests (u.code == header_code) (u.code == picture_code || u.code == low_delay_code) e in
    record { next = new; due = grows.0; taken = e; grows = grows.1 }
  where
    by_tests : (header picture : Bool) → (if header then nested (with_header stream u.body) else if picture then nested (option_and_then (shows u) stream) else Some stream) ≡ Some new → Grows stream new
    by_tests true picture e = header-grows stream new (with_header stream u.body) u refl e
    by_tests false true e = shown-grows stream new u e
    by_tests false false e = ([], ap played (sym (some_is stream new e)) ∙ sym (append-nil (played stream)))
