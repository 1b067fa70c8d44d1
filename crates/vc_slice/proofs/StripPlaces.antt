-- Where a slice's coefficients stand in the strip of its run, subband by subband.
use Rattle.std.proofs.Common.{◌≡◌, ◌≢◌, ℕ, ◌+◌, ◌-◌, ◌*◌, ◌/◌, ◌%◌, ◌<◌, ◌≤◌, List, ◌++◌, ℤ, pos, take, drop, length, arith, ap, refl, sym, subst, ◌∙◌, inl, inr}
use Rattle.std.proofs.lemmas.Bool.{cases_lt}
use Rattle.std.proofs.lemmas.List.{get_or-append_right, get_or_append_left, get_or-take, get_or-drop, length-take, length-drop, drop_all, take_all, append-nil}
use Rattle.std.proofs.Math.Nat.{mul-le-mul_left}
use Rattle.vc_types.specs.declared.plan.Plan.{Plan}
use Rattle.vc_types.specs.declared.rect.Rect.{Rect}
use Rattle.vc_types.specs.declared.video.Component.{Component}
use Rattle.vc_types.specs.Lifting.{line_of}
use Rattle.vc_types.specs.Quantisation.{subband_count}
use Rattle.vc_types.specs.Subbands.{area, place_in, subband, LL, subbands, subband_at, slice_rectangle, slice_coefficient_count}
use Rattle.vc_types.specs.TransformParameters.{Parameters, parameters_of}
use Rattle.vc_types.proofs.RectangleWalk.{rectangle, walked-below}
use Rattle.vc_types.proofs.SliceCounts.{some_across, some_down}
use Rattle.vc_types.proofs.SliceRectangles.{coefficients_before, coefficients_before-more, coefficients_before-all}
use Rattle.vc_types.proofs.SubbandOrder.{length-subbands}
use Rattle.vc_geometry.specs.Runs.{IsRun, IsOfRun, run_rectangle, strip_number, cell_of}
use Rattle.vc_geometry.proofs.RunPlaces.{IsPartOf, walk, part-of-run, strip-apart-of}
use Rattle.vc_geometry.proofs.RunWalk.{run_before, run_before-more, run_before-within}
use Rattle.vc_slice.specs.declared.bands.SliceParts.{SliceParts}
use Rattle.vc_slice.specs.declared.run_parts.RunParts.{RunParts}
use Rattle.vc_slice.specs.Bands as parts_of
use Rattle.vc_slice.specs.RunSlices.{ArePartsOfRun, place_in_strip, strip_length}

-- slice n of parameters q in the strip of a run of parameters p, which are the same
pub record StandsInStrip (p q : Parameters) (c : Component) (first count n : ℕ) : Type 0 where
  pub bands : subband_count q.depth_ho q.depth ≡ subband_count p.depth_ho p.depth
  pub one_place : (i j : ℕ) → i < slice_coefficient_count q c n → j < slice_coefficient_count q c n → strip_number p c first count n i ≡ strip_number p c first count n j → i ≡ j
  pub inside : (b : ℕ) → IsPartOf (rectangle q c n b) (run_rectangle p c first count (subband_at p.depth_ho p.depth b))
  pub cell : (b j : ℕ) → b < subband_count p.depth_ho p.depth → j < area (rectangle q c n b)
      → run_before p c first count b + cell_of (run_rectangle p c first count (subband_at p.depth_ho p.depth b)) (place_in (rectangle q c n b) j) ≡ strip_number p c first count n (coefficients_before q c n b + j)

pub stands : (p : Parameters) (c : Component) (first count n : ℕ) → IsRun p first count → IsOfRun first count n → 0 < p.slices_x → 0 < p.slices_y → StandsInStrip p p c first count n
unfolding strip_number coefficients_before run_before
stands p c first count n run of some_x some_y = record {
  bands = refl;
  one_place = λ i j hi hj e. (strip-apart-of p c first count run some_x some_y n n of of i j hi hj e).1;
  inside = λ b. part-of-run p c first count run n of (subband_at p.depth_ho p.depth b);
  cell = λ b j h lt.
      let many = length-subbands p.depth_ho p.depth in
      sym (walk (run_rectangle p c first count) (λ s. slice_rectangle p c s n) (subband 0 LL) (subbands p.depth_ho p.depth) b j (omega (arith, many)) lt);
}

module _ (run : RunParts) (parts : SliceParts) (own : ArePartsOfRun run parts) (c : Component) where
  abbrev pub p : Parameters
  p = parameters_of run.plan

  abbrev pub q : Parameters
  q = parameters_of parts.plan

  same_plan : q ≡ p
  same_plan = ap (λ (plan : Plan). parameters_of plan) own.plan

  facts : StandsInStrip p q c run.first run.count parts.slice
  facts = subst (λ r. StandsInStrip p r c run.first run.count parts.slice) (sym same_plan)
      (stands p c run.first run.count parts.slice run.run own.slice (some_across run.plan.slices_x run.plan.slices_y run.plan.slices) (some_down run.plan.slices_x run.plan.slices_y run.plan.slices))

  pub same_bands : parts_of.band_count parts ≡ subband_count run.plan.depth_ho run.plan.depth
  same_bands = facts.bands

  -- no two coefficients have one place
  pub strip_apart : (i j : ℕ) → i < parts_of.coefficient_count parts c → j < parts_of.coefficient_count parts c → place_in_strip run parts c i ≡ place_in_strip run parts c j → i ≡ j
  strip_apart = facts.one_place

  module _ (b from base : ℕ) (part whole : Rect) (below : b < subband_count run.plan.depth_ho run.plan.depth) (is : part ≡ parts_of.rectangle parts c b)
      (whole_is : whole ≡ run_rectangle p c run.first run.count (subband_at p.depth_ho p.depth b)) (at : from ≡ coefficients_before q c parts.slice b) (base_is : base ≡ run_before p c run.first run.count b) where
    below_own : b < parts_of.band_count parts
    below_own = omega (arith, same_bands, below)

    pub part_in : IsPartOf part whole
    part_in = subst (λ r. IsPartOf r whole) (sym is) (subst (IsPartOf (parts_of.rectangle parts c b)) (sym whole_is) (facts.inside b))

    pub part_within : from + area part ≤ parts_of.coefficient_count parts c
    part_within = omega (arith, walked-below q c parts.slice b below_own, ap area is, at)

    pub from_more : from + area part ≡ coefficients_before q c parts.slice (b + 1)
    from_more = omega (arith, coefficients_before-more q c parts.slice b below_own, ap area is, at)

    pub base_more : base + area whole ≡ run_before p c run.first run.count (b + 1)
    base_more = omega (arith, run_before-more p c run.first run.count b below, ap area whole_is, base_is)

    pub base_within : base + area whole ≤ strip_length run c
    base_within = omega (arith, base_more, run_before-within p c run.first run.count (b + 1))

    pub there : (j : ℕ) → j < area part → base + cell_of whole (place_in part j) ≡ place_in_strip run parts c (from + j)
    there j lt =
        let here : j < area (parts_of.rectangle parts c b) = subst (λ r. j < area r) is lt in
        ap (λ r. base + cell_of r (place_in part j)) whole_is
        ∙ ap (λ r. base + cell_of (run_rectangle p c run.first run.count (subband_at p.depth_ho p.depth b)) (place_in r j)) is
        ∙ ap (λ n. n + cell_of (run_rectangle p c run.first run.count (subband_at p.depth_ho p.depth b)) (place_in (parts_of.rectangle parts c b) j)) base_is
        ∙ facts.cell b j below here
        ∙ ap (λ n. place_in_strip run parts c (n + j)) (sym at)

  pub all_before : (b from : ℕ) → b ≡ subband_count run.plan.depth_ho run.plan.depth → from ≡ coefficients_before q c parts.slice b → from ≡ parts_of.coefficient_count parts c
  all_before b from e at = at ∙ coefficients_before-all q c parts.slice b (e ∙ sym same_bands)

-- a cell of a part, as one of the whole
pub part-cell : (part whole : Rect) (j : ℕ) → whole.x ≤ part.x → whole.y ≤ part.y
    → (part.y - whole.y + j / part.width) * whole.width + (part.x - whole.x + j % part.width) ≡ cell_of whole (place_in part j)
part-cell part whole j left top =
    let row : part.y - whole.y + j / part.width ≡ part.y + j / part.width - whole.y = omega arith in
    let column : part.x - whole.x + j % part.width ≡ part.x + j % part.width - whole.x = omega arith in
    ap (λ n. n * whole.width + (part.x - whole.x + j % part.width)) row ∙ ap (λ n. (part.y + j / part.width - whole.y) * whole.width + n) column

-- the numbers from one on that were changed
module _ (base : ℕ) (old back : List ℤ) (fits : base ≤ length old) where
  pub in-back : (j : ℕ) → line_of (take base old ++ back) (base + j) ≡ line_of back j
  in-back j =
      let long = length-take base old in
      let same : base + j - base ≡ j = omega arith in
      get_or-append_right (take base old) back base (base + j) (pos 0) (omega (arith, long)) (omega arith) ∙ ap (line_of back) same

  pub in-front : (m : ℕ) → m < base → line_of (take base old ++ back) m ≡ line_of old m
  in-front m h =
      let long = length-take base old in
      get_or_append_left (take base old) back (pos 0) m (omega (arith, long)) ∙ get_or-take base old m (pos 0) h

  pub off-back : (cell : ℕ → ℕ) (n : ℕ) → ((m : ℕ) → ((j : ℕ) → j < n → m ≢ cell j) → line_of back m ≡ line_of (drop base old) m)
      → (k : ℕ) → ((j : ℕ) → j < n → k ≢ base + cell j) → line_of (take base old ++ back) k ≡ line_of old k
  off-back cell n off k none = elim (cases_lt k base) [
    | inl lt ↦ in-front k lt
    | inr ge ↦ (
        let number : base + (k - base) ≡ k = omega arith in
        ap (line_of (take base old ++ back)) (sym number) ∙ in-back (k - base) ∙ off (k - base) (λ j h e. none j h (omega (arith, e))) ∙ get_or-drop base old (k - base) (pos 0) ∙ ap (line_of old) number)
  ]

  -- as code sees the rest behind them: there is none
  pub nothing-behind : take base old ++ (back ++ drop (length old - base) (drop base old)) ≡ take base old ++ back
  nothing-behind =
      let long = length-drop base old in
      ap (λ rest. take base old ++ (back ++ rest)) (drop_all (length old - base) (drop base old) (omega (arith, long))) ∙ ap (λ rest. take base old ++ rest) (append-nil back)

  pub all-of-it : take (length old - base) (drop base old) ≡ drop base old
  all-of-it = let long = length-drop base old in take_all (length old - base) (drop base old) (omega (arith, long))

-- a part's last row lies in the whole
pub part-fits : (part whole : Rect) (length : ℕ) → part.y + part.height ≤ whole.y + whole.height → whole.y ≤ part.y → area whole ≤ length → (part.y - whole.y + part.height) * whole.width ≤ length
part-fits part whole length bottom top room =
    let rows : part.y - whole.y + part.height ≤ whole.height = omega arith in
    let more = mul-le-mul_left whole.width rows in
    omega (arith, more)
