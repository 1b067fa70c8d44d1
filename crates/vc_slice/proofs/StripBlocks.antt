-- What is cut out of the strip of a run.
use Rattle.std.proofs.Common.{◌≡◌, ◌≢◌, ℕ, ◌+◌, ◌<◌, List, length, ℤ, pos, false, arith, ap, sym, ◌∙◌}
use Rattle.std.specs.Prelude.{Result, Ok, Err, OnOk, Bool, nat_lt, if◌then◌else◌}
use Rattle.std.proofs.lemmas.List.{ext_get_or}
use Rattle.std.proofs.lemmas.List.FromFn.{length-map-range_with_len, get_or-map-range_with_len}
use Rattle.vc_types.specs.declared.video.Component.{Component}
use Rattle.vc_types.specs.declared.video.Component.TheVariants.{Y, C1, C2}
use Rattle.vc_types.specs.declared.refusal.Unsound.TheVariants.{IndexRange}
use Rattle.vc_types.specs.Lifting.{line_of}
use Rattle.vc_types.specs.Slices.{CodedSlice, Coefficients, all_coefficients, decoded_slice, in_range, slice_coefficients}
use Rattle.vc_types.specs.Subbands.{slice_coefficient_count}
use Rattle.vc_types.specs.TransformParameters.{Parameters}
use Rattle.vc_geometry.specs.Runs.{IsRun, strip_number}
use Rattle.vc_geometry.proofs.RunPlaces.{strip-apart}
use Rattle.vc_slice.specs.FilledCells.{ChangesAt, FillsAt}
use Rattle.vc_slice.specs.Strips.{strip_component, strip_slice}
use Rattle.vc_slice.proofs.NarrowRuns.{length-block}

module _ (p : Parameters) (first count : ℕ) where
  module _ (c : Component) (n : ℕ) (strip : List ℤ) where
    pub cut-length : length (strip_component p c first count strip n) ≡ slice_coefficient_count p c n
    cut-length = length-map-range_with_len (λ i. line_of strip (strip_number p c first count n i)) 0 (slice_coefficient_count p c n)

    pub cut-at : (i : ℕ) → i < slice_coefficient_count p c n → line_of (strip_component p c first count strip n) i ≡ line_of strip (strip_number p c first count n i)
    cut-at i h = get_or-map-range_with_len (λ i. line_of strip (strip_number p c first count n i)) 0 (slice_coefficient_count p c n) i i (pos 0) h (omega arith)

    pub cut-is : (zs : List ℤ) → length zs ≡ slice_coefficient_count p c n → ((i : ℕ) → i < slice_coefficient_count p c n → line_of strip (strip_number p c first count n i) ≡ line_of zs i) → strip_component p c first count strip n ≡ zs
    cut-is zs long at =
        let own = cut-length in
        ext_get_or (pos 0) (strip_component p c first count strip n) zs (own ∙ sym long)
        (λ i h. (let below : i < slice_coefficient_count p c n = omega (arith, own, h) in cut-at i below ∙ at i below))

  -- another slice of the run stays
  cut-stays : (run : IsRun p first count) (some_across : 0 < p.slices_x) (some_down : 0 < p.slices_y) (c : Component) (k l : ℕ) (old new : List ℤ) → k < count → l < count → k ≢ l
      → ChangesAt (slice_coefficient_count p c (first + l)) (strip_number p c first count (first + l)) old new → strip_component p c first count new (first + k) ≡ strip_component p c first count old (first + k)
  cut-stays run some_across some_down c k l old new hk hl other only =
      cut-is c (first + k) new (strip_component p c first count old (first + k)) (cut-length c (first + k) old)
      (λ i h. only.others (strip_number p c first count (first + k) i) (λ j g e. other ((strip-apart p c first count run some_across some_down k i l j hk h hl g e).0)) ∙ sym (cut-at c (first + k) old i h))

  same_three : {a b d e f g : List ℤ} → a ≡ e → b ≡ f → d ≡ g → ◌≡◌ {A = Coefficients} (record { y = a; c1 = b; c2 = d }) (record { y = e; c1 = f; c2 = g })
  same_three h i j = cc

  pub slice-is : (n : ℕ) (y c1 c2 : List ℤ) (s : Coefficients) → length s.y ≡ slice_coefficient_count p Y n → length s.c1 ≡ slice_coefficient_count p C1 n → length s.c2 ≡ slice_coefficient_count p C2 n
      → ((i : ℕ) → i < slice_coefficient_count p Y n → line_of y (strip_number p Y first count n i) ≡ line_of s.y i)
      → ((i : ℕ) → i < slice_coefficient_count p C1 n → line_of c1 (strip_number p C1 first count n i) ≡ line_of s.c1 i)
      → ((i : ℕ) → i < slice_coefficient_count p C2 n → line_of c2 (strip_number p C2 first count n i) ≡ line_of s.c2 i)
      → strip_slice p first count (record { y = y; c1 = c1; c2 = c2 }) n ≡ s
  unfolding strip_slice
  slice-is n y c1 c2 s ly l1 l2 ey e1 e2 = same_three (cut-is Y n y s.y ly ey) (cut-is C1 n c1 s.c1 l1 e1) (cut-is C2 n c2 s.c2 l2 e2)

  pub slice-stays : (run : IsRun p first count) (some_across : 0 < p.slices_x) (some_down : 0 < p.slices_y) (k l : ℕ) (y c1 c2 y2 c12 c22 : List ℤ) → k < count → l < count → k ≢ l
      → ChangesAt (slice_coefficient_count p Y (first + l)) (strip_number p Y first count (first + l)) y y2 → ChangesAt (slice_coefficient_count p C1 (first + l)) (strip_number p C1 first count (first + l)) c1 c12 → ChangesAt (slice_coefficient_count p C2 (first + l)) (strip_number p C2 first count (first + l)) c2 c22
      → strip_slice p first count (record { y = y2; c1 = c12; c2 = c22 }) (first + k) ≡ strip_slice p first count (record { y = y; c1 = c1; c2 = c2 }) (first + k)
  unfolding strip_slice
  slice-stays run some_across some_down k l y c1 c2 y2 c12 c22 hk hl other ty t1 t2 =
      same_three (cut-stays run some_across some_down Y k l y y2 hk hl other ty) (cut-stays run some_across some_down C1 k l c1 c12 hk hl other t1) (cut-stays run some_across some_down C2 k l c2 c22 hk hl other t2)

-- a slice that is sound and narrow, in the strip
pub one-decoded : (p : Parameters) (first count n : ℕ) (coded : CodedSlice) (y c1 c2 y2 c12 c22 : List ℤ) (bytes : List ℕ) {E : Type 0} (done : Result (Unit {0}) E) → nat_lt 127 coded.index ≡ false
    → slice_coefficients p n bytes ≡ decoded_slice p n coded
    → OnOk done (FillsAt (slice_coefficient_count p Y n) (strip_number p Y first count n) (all_coefficients p n coded).y y y2 × FillsAt (slice_coefficient_count p C1 n) (strip_number p C1 first count n) (all_coefficients p n coded).c1 c1 c12 × FillsAt (slice_coefficient_count p C2 n) (strip_number p C2 first count n) (all_coefficients p n coded).c2 c2 c22)
    → OnOk done (in_range (all_coefficients p n coded) ≡ Ok (all_coefficients p n coded))
    → OnOk done (slice_coefficients p n bytes ≡ Ok (strip_slice p first count (record { y = y2; c1 = c12; c2 = c22 }) n))
unfolding decoded_slice
one-decoded p first count n coded y c1 c2 y2 c12 c22 bytes (Ok all) low read filled sound =
    let s = all_coefficients p n coded in
    read ∙ ap (λ (b : Bool). if b then Err IndexRange else in_range s) low ∙ sound
    ∙ ap (λ (t : Coefficients). Ok t) (sym (slice-is p first count n y2 c12 c22 s (length-block p Y n coded.index coded.y) (length-block p C1 n coded.index coded.c1) (length-block p C2 n coded.index coded.c2) filled.0.own filled.1.own filled.2.own))
one-decoded p first count n coded y c1 c2 y2 c12 c22 bytes (Err e) low read filled sound = filled
