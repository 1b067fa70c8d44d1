-- What the slices of a run decode to, one after another.
use Rattle.std.proofs.Common.{◌≡◌, ℕ, zero, suc, ◌+◌, ◌<◌, ◌≤◌, List, [], ◌∷◌, ◌++◌, length, map, take, drop, ℤ, arith, ap, refl, sym, subst, ◌∙◌, inl, inr}
use Rattle.std.specs.Prelude.{slice_index_or, Result, Ok, Err, OnOk}
use Rattle.std.proofs.lemmas.Bool.{cases_lt}
use Rattle.std.proofs.lemmas.List.{ext_get_or, get_or-map, length-map, append_assoc}
use Rattle.std.proofs.Math.Seq.{take-append_seam, drop-append_seam, drop-append-add}
use Rattle.std.proofs.lemmas.List.FromFn.{length-map-range_with_len, get_or-map-range_with_len}
use Rattle.vc_types.specs.declared.refusal.Unsound.{Unsound}
use Rattle.vc_types.specs.declared.refusal.Unsound.TheVariants.{IndexRange}
use Rattle.vc_types.specs.declared.video.Component.{Component}
use Rattle.vc_types.specs.declared.video.Component.TheVariants.{Y, C1, C2}
use Rattle.vc_types.specs.Slices.{Coefficients, slice_coefficients}
use Rattle.vc_types.specs.TransformParameters.{Parameters}
use Rattle.vc_types.specs.Subbands.{slice_coefficient_count}
use Rattle.vc_geometry.specs.Runs.{IsRun, run_coefficient_count, strip_number}
use Rattle.vc_slice.specs.OneBlock.{three_parts}
use Rattle.vc_slice.specs.FilledCells.{ChangesAt}
use Rattle.vc_slice.specs.Strips.{IsStripOf, decodings, strip_slice, strip_slices}
use Rattle.vc_slice.proofs.ColourParts.{run_colour_counts}
use Rattle.vc_slice.proofs.StripBlocks.{slice-stays}

abbrev Answer : Type 0
Answer = Result Coefficients Unsound

module _ (p : Parameters) where
  pub decodings-length : (n : ℕ) (slices : List (List ℕ)) → length (decodings p n slices) ≡ length slices
  unfolding decodings
  decodings-length n [] = refl
  decodings-length n (bytes ∷ slices) = ap suc (decodings-length (n + 1) slices)

  pub decodings-at : (n : ℕ) (slices : List (List ℕ)) (k : ℕ) (d : Answer) → k < length slices → slice_index_or (decodings p n slices) k d ≡ slice_coefficients p (n + k) (slice_index_or slices k [])
  unfolding decodings
  decodings-at n [] k d h = absurd (omega (arith, h))
  decodings-at n (bytes ∷ slices) zero d h = ap (λ m. slice_coefficients p m bytes) (omega arith)
  decodings-at n (bytes ∷ slices) (suc k) d h =
      decodings-at (n + 1) slices k d (omega (arith, h)) ∙ ap (λ m. slice_coefficients p m (slice_index_or slices k [])) (omega arith)

  -- one slice more
  pub decodings-more : (n : ℕ) (slices : List (List ℕ)) (k : ℕ) → k < length slices
      → decodings p n (take (k + 1) slices) ≡ decodings p n (take k slices) ++ slice_coefficients p (n + k) (slice_index_or slices k []) ∷ []
  unfolding decodings
  decodings-more n [] k h = absurd (omega (arith, h))
  decodings-more n (bytes ∷ slices) zero h = ap (λ m. slice_coefficients p m bytes ∷ []) (omega arith)
  decodings-more n (bytes ∷ slices) (suc k) h =
      let next : suc k + 1 ≡ suc (k + 1) = omega arith in
      ap (λ m. decodings p n (take m (bytes ∷ slices))) next
      ∙ ap (λ (rest : List Answer). slice_coefficients p n bytes ∷ rest) (decodings-more (n + 1) slices k (omega (arith, h)) ∙ ap (λ m. decodings p (n + 1) (take k slices) ++ slice_coefficients p m (slice_index_or slices k []) ∷ []) (omega arith))

  -- a strip that has each slice's coefficients
  pub strip-decoded : (first count : ℕ) (slices : List (List ℕ)) (strip : Coefficients) → count ≡ length slices
      → ((k : ℕ) → k < count → slice_coefficients p (first + k) (slice_index_or slices k []) ≡ Ok (strip_slice p first count strip (first + k)))
      → map Ok (strip_slices p first count strip) ≡ decodings p first slices
  strip-decoded first count slices strip all each =
      let none = strip_slice p first count strip 0 in
      let long = length-map-range_with_len (strip_slice p first count strip) first count in
      let own : length (map Ok (strip_slices p first count strip)) ≡ count = length-map (strip_slices p first count strip) (λ (s : Coefficients). Ok s) ∙ long in
      ext_get_or (Err IndexRange) (map Ok (strip_slices p first count strip)) (decodings p first slices) (own ∙ all ∙ sym (decodings-length first slices))
      (λ k h. (
      let below : k < count = omega (arith, own, h) in
      get_or-map (λ (s : Coefficients). Ok s) (strip_slices p first count strip) k none (Err IndexRange) (omega (arith, long, below))
      ∙ ap (λ (s : Coefficients). Ok s) (get_or-map-range_with_len (strip_slice p first count strip) first count k (first + k) none below refl)
      ∙ sym (each k below) ∙ sym (decodings-at first slices k (Err IndexRange) (omega (arith, all, below)))))

  -- the first slices of a run stand in the strip
  abbrev pub FirstDecoded : ℕ → ℕ → List (List ℕ) → List ℤ → List ℤ → List ℤ → ℕ → Type 0
  FirstDecoded first count slices y c1 c2 n = (k : ℕ) → k < n → slice_coefficients p (first + k) (slice_index_or slices k []) ≡ Ok (strip_slice p first count (record { y = y; c1 = c1; c2 = c2 }) (first + k))

  pub decoded-more : (some_across : 0 < p.slices_x) (some_down : 0 < p.slices_y) (first count : ℕ) (slices : List (List ℕ)) → IsRun p first count → (l : ℕ) → l < count
      → (y c1 c2 y2 c12 c22 : List ℤ)
      → ChangesAt (slice_coefficient_count p Y (first + l)) (strip_number p Y first count (first + l)) y y2
      → ChangesAt (slice_coefficient_count p C1 (first + l)) (strip_number p C1 first count (first + l)) c1 c12
      → ChangesAt (slice_coefficient_count p C2 (first + l)) (strip_number p C2 first count (first + l)) c2 c22
      → slice_coefficients p (first + l) (slice_index_or slices l []) ≡ Ok (strip_slice p first count (record { y = y2; c1 = c12; c2 = c22 }) (first + l))
      → FirstDecoded first count slices y c1 c2 l → FirstDecoded first count slices y2 c12 c22 (l + 1)
  decoded-more some_across some_down first count slices run l lt y c1 c2 y2 c12 c22 ty t1 t2 here before k h = elim (cases_lt k l) [
    | inl low ↦ before k low ∙ ap (λ (s : Coefficients). Ok s) (sym (slice-stays p first count run some_across some_down k l y c1 c2 y2 c12 c22 (omega (arith, low, lt)) lt (λ e. omega (arith, low, e)) ty t1 t2))
    | inr ge ↦ (let e : l ≡ k = omega (arith, ge, h) in subst (λ m. slice_coefficients p (first + m) (slice_index_or slices m []) ≡ Ok (strip_slice p first count (record { y = y2; c1 = c12; c2 = c22 }) (first + m))) e here)
  ]

-- three parts, one behind the other, and more behind them
pub three-joined : (y c : ℕ) (a b d rest : List ℤ) → length a ≡ y → length b ≡ c → length d ≡ c → three_parts y c c ((a ++ (b ++ d)) ++ rest) ≡ record { y = a; c1 = b; c2 = d }
three-joined y c a b d rest la lb ld =
    let whole : (a ++ (b ++ d)) ++ rest ≡ a ++ (b ++ (d ++ rest)) = append_assoc a (b ++ d) rest ∙ ap (λ (zs : List ℤ). a ++ zs) (append_assoc b d rest) in
    let front = ap (λ n. take n (a ++ (b ++ (d ++ rest)))) (sym la) ∙ take-append_seam a (b ++ (d ++ rest)) in
    let behind = ap (λ n. drop n (a ++ (b ++ (d ++ rest)))) (sym la) ∙ drop-append_seam a (b ++ (d ++ rest)) in
    let middle = ap (λ (zs : List ℤ). take c zs) behind ∙ ap (λ n. take n (b ++ (d ++ rest))) (sym lb) ∙ take-append_seam b (d ++ rest) in
    let further = ap (λ n. drop (n + c) (a ++ (b ++ (d ++ rest)))) (sym la) ∙ drop-append-add a (b ++ (d ++ rest)) c ∙ ap (λ n. drop n (b ++ (d ++ rest))) (sym lb) ∙ drop-append_seam b (d ++ rest) in
    let last = ap (λ (zs : List ℤ). take c zs) further ∙ ap (λ n. take n (d ++ rest)) (sym ld) ∙ take-append_seam d rest in
    ap (three_parts y c c) whole ∙ three (take y (a ++ (b ++ (d ++ rest)))) (take c (drop y (a ++ (b ++ (d ++ rest))))) (take c (drop (y + c) (a ++ (b ++ (d ++ rest))))) a b d front middle last
  where
    three : (e f g u v w : List ℤ) → e ≡ u → f ≡ v → g ≡ w → ◌≡◌ {A = Coefficients} (record { y = e; c1 = f; c2 = g }) (record { y = u; c1 = v; c2 = w })
    three e f g u v w h i j = cc

pub room-for : (p : Parameters) (first count y c room : ℕ) → y ≡ run_coefficient_count p Y first count → c ≡ run_coefficient_count p C1 first count → y + c + 8 ≤ room
    → (k : Component) → run_coefficient_count p k first count + 8 ≤ room
room-for p first count y c room hy hc fits Y = omega (arith, hy, fits)
room-for p first count y c room hy hc fits C1 = omega (arith, hc, fits)
room-for p first count y c room hy hc fits C2 = let both = run_colour_counts p first count in omega (arith, both, hc, fits)

pub joined-value : (p : Parameters) (first count : ℕ) (slices : List (List ℕ)) (y c : ℕ) (a b d rest : List ℤ) → length a ≡ y → length b ≡ c → length d ≡ c → {E : Type 0} (done : Result (Unit {0}) E)
    → OnOk done (map Ok (strip_slices p first count (record { y = a; c1 = b; c2 = d })) ≡ decodings p first slices)
    → OnOk done (map Ok (strip_slices p first count (three_parts y c c ((a ++ (b ++ d)) ++ rest))) ≡ decodings p first slices)
joined-value p first count slices y c a b d rest la lb ld (Ok all) value =
    ap (λ (s : Coefficients). map Ok (strip_slices p first count s)) (three-joined y c a b d rest la lb ld) ∙ value
joined-value p first count slices y c a b d rest la lb ld (Err e) value = value

-- a strip of these lengths
pub strip-whole : (p : Parameters) (first count y c : ℕ) → y ≡ run_coefficient_count p Y first count → c ≡ run_coefficient_count p C1 first count
    → (strip : Coefficients) → length strip.y ≡ y → length strip.c1 ≡ c → length strip.c2 ≡ c → IsStripOf p first count strip
strip-whole p first count y c hy hc strip ly l1 l2 Y = ly ∙ hy
strip-whole p first count y c hy hc strip ly l1 l2 C1 = l1 ∙ hc
strip-whole p first count y c hy hc strip ly l1 l2 C2 = l2 ∙ hc ∙ sym (run_colour_counts p first count)

-- each slice of a run that was decoded together
pub together-each : (p : Parameters) (first : ℕ) (slices : List (List ℕ)) (strip : Coefficients) → map Ok (strip_slices p first (length slices) strip) ≡ decodings p first slices
    → (k : ℕ) → k < length slices → slice_coefficients p (first + k) (slice_index_or slices k []) ≡ Ok (strip_slice p first (length slices) strip (first + k))
together-each p first slices strip e k h =
    let none = strip_slice p first (length slices) strip 0 in
    let long = length-map-range_with_len (strip_slice p first (length slices) strip) first (length slices) in
    sym (decodings-at p first slices k (Err IndexRange) h)
    ∙ ap (λ (answers : List Answer). slice_index_or answers k (Err IndexRange)) (sym e)
    ∙ get_or-map (λ (s : Coefficients). Ok s) (strip_slices p first (length slices) strip) k none (Err IndexRange) (omega (arith, long, h))
    ∙ ap (λ (s : Coefficients). Ok s) (get_or-map-range_with_len (strip_slice p first (length slices) strip) first (length slices) k (first + k) none h refl)
