-- The coefficients of a component, read subband by subband.
use Rattle.std.proofs.Common.{◌≡◌, ℕ, ◌+◌, ◌-◌, ◌^◌, ◌<◌, ◌≤◌, Bool, List, length, ℤ, unsigned_abs, refl, sym, ap, subst, ◌∙◌, arith, inl, inr}
use Rattle.std.specs.Prelude.{slice_index_or}
use Rattle.std.proofs.lemmas.Bool.{cases_lt}
use Rattle.vc_types.specs.declared.video.Component.{Component}
use Rattle.vc_types.specs.Lifting.{line_of}
use Rattle.vc_types.specs.Quantisation.{dequantised, subband_count}
use Rattle.vc_types.specs.Slices.{is_large}
use Rattle.vc_types.specs.Subbands.{area, slice_rectangle, subband_at}
use Rattle.vc_types.specs.TransformParameters.{Parameters}
use Rattle.vc_types.proofs.SliceRectangles.{coefficients_before, coefficients_before-none, coefficients_before-all}
use Rattle.vc_golomb.specs.Numbers.{number_at}
use Rattle.vc_slice.specs.declared.bands.SliceBands.{SliceBands}
use Rattle.vc_slice.proofs.NarrowRuns.{index_in, run_more, run_within}
use Rattle.vc_lowdelay.specs.Components.{AreGrown, AreRead, Follow, FollowsLarge, IsBehind, ReadsLargeOf}
use Rattle.vc_lowdelay.specs.OfBands.{lowest_at, lowest_count, parameters_in, read_in}
use Rattle.vc_lowdelay.specs.Placed.{place_of_number, read_at}
use Rattle.vc_types.specs.Transforms.{Cells}
use Rattle.vc_lowdelay.proofs.Following.{none_behind, further, read_there}
use Rattle.vc_lowdelay.proofs.GrownValues.{put_first}

module _ (bands : SliceBands) (c : Component) (bits : List Bool) where
  abbrev p : Parameters
  p = parameters_in bands

  abbrev n : ℕ
  n = bands.parts.now.slice

  -- the coefficients of the first subbands were read
  pub record ReadUpTo (b : ℕ) (coefficients : List ℤ) (left : List Bool) : Type 0 where
    pub count : length coefficients ≡ coefficients_before p c n b
    pub each : (i : ℕ) → i < coefficients_before p c n b → line_of coefficients i ≡ read_in bands c bits i
    pub small : (i : ℕ) → i < coefficients_before p c n b → unsigned_abs (read_in bands c bits i) < 2 ^ 60
    pub rest : IsBehind c (coefficients_before p c n b) bits left

  pub none_read : (coefficients : List ℤ) (left : List Bool) → length coefficients ≡ 0 → left ≡ bits → ReadUpTo 0 coefficients left
  none_read coefficients left none e =
      let before = coefficients_before-none p c n in
      record {
        count = omega (arith, none, before);
        each = λ i h. absurd (omega (arith, h, before));
        small = λ i h. absurd (omega (arith, h, before));
        rest = subst (λ (k : ℕ). IsBehind c k bits left) (sym before) (none_behind c bits left e);
      }

  module _ (b m q : ℕ) (in_plan : b < subband_count p.depth_ho p.depth) (count : m ≡ area (slice_rectangle p c (subband_at p.depth_ho p.depth b) n))
      (index : q ≡ bands.index - slice_index_or p.matrix b 0) (old : List ℤ) (left : List Bool) (up_to : ReadUpTo b old left) where
    abbrev from : ℕ
    from = coefficients_before p c n b

    more : from + m ≡ coefficients_before p c n (b + 1)
    more = run_more p c n bands.index b from m in_plan refl count

    -- a coefficient of this subband
    own : (k : ℕ) → k < m → read_in bands c bits (from + k) ≡ read_at left q (place_of_number c k)
    own k h =
        ap (dequantised (number_at bits (place_of_number c (from + k))))
        (index_in p c n bands.index b (from + k) from (from + m) in_plan refl (ap (λ (a : ℕ). from + a) count) (omega arith) (omega (arith, h)) ∙ sym index)
        ∙ sym (read_there c bits left from up_to.rest q k)

    pub subband_read : (new : List ℤ) (behind : List Bool) → Follow c m left q old new → IsBehind c m left behind → ReadUpTo (b + 1) new behind
    subband_read new behind follow rest = record {
      count = omega (arith, follow.long, up_to.count, more);
      each = λ i h. elim (cases_lt i from) [
        | inl lt ↦ follow.before i (omega (arith, lt, up_to.count)) ∙ up_to.each i lt
        | inr ge ↦ (
            let k = i - from in
            let below : k < m = omega (arith, h, ge, more) in
            let place : i ≡ length old + k = omega (arith, ge, up_to.count) in
            let same : from + k ≡ i = omega (arith, ge) in
            ap (line_of new) place ∙ follow.each k below ∙ sym (own k below) ∙ ap (read_in bands c bits) same)
      ];
      small = λ i h. elim (cases_lt i from) [
        | inl lt ↦ up_to.small i lt
        | inr ge ↦ (
            let k = i - from in
            let below : k < m = omega (arith, h, ge, more) in
            let same : from + k ≡ i = omega (arith, ge) in
            subst (λ (j : ℕ). unsigned_abs (read_in bands c bits j) < 2 ^ 60) same
            (subst (λ (z : ℤ). unsigned_abs z < 2 ^ 60) (sym (own k below)) (follow.small k below)))
      ];
      rest = subst (λ (k : ℕ). IsBehind c k bits behind) more (further c from m bits left behind up_to.rest rest);
    }

    pub subband_large : FollowsLarge c m left q → ReadsLargeOf bands c bits
    subband_large has =
        let within = run_within p c n bands.index b from m in_plan refl count in
        record {
          place = from + has.place;
          below = omega (arith, has.below, within);
          large = ap is_large (own has.place has.below) ∙ has.large;
        }

  pub all_read : (b : ℕ) (coefficients : List ℤ) (left : List Bool) → b ≡ subband_count p.depth_ho p.depth → ReadUpTo b coefficients left → AreRead bands c bits coefficients
  all_read b coefficients left e up_to =
      let all = coefficients_before-all p c n b e in
      record {
        count = omega (arith, all, up_to.count);
        each = λ i h. up_to.each i (omega (arith, h, all));
        small = λ i h. up_to.small i (omega (arith, h, all));
      }

  -- LL is put to their front
  pub with_lowest_put : (lowest : Cells) (old new : List ℤ) → AreRead bands c bits old → length new ≡ length old
      → ((i : ℕ) → i < lowest_count bands c → line_of new i ≡ lowest_at bands c lowest i)
      → ((i : ℕ) → lowest_count bands c ≤ i → line_of new i ≡ line_of old i)
      → AreGrown bands c bits lowest new
  with_lowest_put lowest old new read long on off = record {
    count = long ∙ read.count;
    each = λ i h. put_first p c n lowest (read_in bands c bits) old new i on off (read.each i h);
    small = read.small;
  }
