-- The rectangles of a run, one after another.
use Rattle.std.proofs.Common.{◌≡◌, ℕ, ◌+◌, ◌-◌, ◌<◌, ◌≤◌, List, length, set, arith, ap, ◌∙◌}
use Rattle.std.specs.Prelude.{slice_index_or}
use Rattle.std.proofs.lemmas.List.{get_or-set_same, get_or-set_other}
use Rattle.vc_types.specs.declared.rect.Rect.{Rect}
use Rattle.vc_types.specs.declared.video.Component.{Component}
use Rattle.vc_types.specs.Subbands.{rect, subband_at, slice_rectangle, padded_width, padded_height}
use Rattle.vc_types.specs.TransformParameters.{Parameters}
use Rattle.vc_geometry.specs.Runs.{IsRun, AreRunParts, run_rectangle}
use Rattle.vc_geometry.proofs.RunPlaces.{ends-ordered, run-ends}

module _ (p : Parameters) (c : Component) (first count : ℕ) (run : IsRun p first count) (b k : ℕ) (last : k + 1 ≡ count) (one end : Rect)
    (first_is : one ≡ slice_rectangle p c (subband_at p.depth_ho p.depth b) first) (last_is : end ≡ slice_rectangle p c (subband_at p.depth_ho p.depth b) (first + k)) where
  pub ordered : one.x ≤ end.x + end.width
  ordered =
      let e = ends-ordered p c first count run k last (subband_at p.depth_ho p.depth b) in
      let f = ap (λ (r : Rect). r.x) first_is in
      let x = ap (λ (r : Rect). r.x) last_is in
      let w = ap (λ (r : Rect). r.width) last_is in
      omega (arith, e, f, x, w)

  abbrev pub whole : Rect
  whole = rect one.x one.y (end.x + end.width - one.x) one.height

  own : whole ≡ run_rectangle p c first count (subband_at p.depth_ho p.depth b)
  own = ap (λ (r : Rect). rect r.x r.y (end.x + end.width - r.x) r.height) first_is
      ∙ ap (λ (r : Rect). rect (slice_rectangle p c (subband_at p.depth_ho p.depth b) first).x (slice_rectangle p c (subband_at p.depth_ho p.depth b) first).y (r.x + r.width - (slice_rectangle p c (subband_at p.depth_ho p.depth b) first).x) (slice_rectangle p c (subband_at p.depth_ho p.depth b) first).height) last_is
      ∙ run-ends p c first count run k last (subband_at p.depth_ho p.depth b)

  module _ (rects : List Rect) (inside : b < length rects) (right : end.x + end.width ≤ padded_width p c) (bottom : one.y + one.height ≤ padded_height p c)
      (few : (end.x + end.width ≤ 8192) × (one.y + one.height ≤ 8192)) (before : AreRunParts p c first count b rects) where
    at : (P : ℕ → Rect → Type 0) → P b whole → ((k : ℕ) (none : Rect) → k < b → P k (slice_index_or rects k none)) → (k : ℕ) (none : Rect) → k < b + 1 → P k (slice_index_or (set rects b whole) k none)
    at P here earlier k none h = grind (arith, get_or-set_same, get_or-set_other)

    pub run_part_more : AreRunParts p c first count (b + 1) (set rects b whole)
    run_part_more = record {
      parts = at (λ k q. q ≡ run_rectangle p c first count (subband_at p.depth_ho p.depth k)) own before.parts;
      right = at (λ k q. q.x + q.width ≤ padded_width p c) (omega (arith, ordered, right)) before.right;
      bottom = at (λ k q. q.y + q.height ≤ padded_height p c) bottom before.bottom;
      small = at (λ k q. (q.x + q.width ≤ 8192) × (q.y + q.height ≤ 8192)) (omega (arith, ordered, few.0), few.1) before.small;
    }
