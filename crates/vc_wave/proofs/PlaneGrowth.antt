-- How much the transform of a plane may raise its magnitudes.
use Rattle.std.proofs.Common.{◌≡◌, ℕ, zero, suc, ◌+◌, ◌-◌, ◌*◌, ◌^◌, ◌<◌, ◌≤◌, ℤ, pos, negsuc, ◌+ℤ◌}
use Rattle.std.proofs.Common.{unsigned_abs, arith, refl, subst, sym, ◌∙◌, Bool, false}
use Rattle.std.specs.Int.{int_shr}
use mathlib.Core.Path.{fun_ext}
use Rattle.std.proofs.lemmas.Int.{ints}
use Rattle.std.proofs.lemmas.Nat.{pow-add}
use Rattle.std.proofs.Math.Nat.{mul-le-mul_left}
use Rattle.std.proofs.Math.Pow.{pow_mono}
use Rattle.vc_types.specs.Lifting.{Line}
use Rattle.vc_types.specs.Transforms.{Cells, source_of, on_columns, on_rows, halved, doubled, level_across}
use Rattle.vc_types.specs.Transforms.{inverse_level, forward_level, levels_across, inverse_levels}
use Rattle.vc_types.specs.Transforms.{forward_levels}
use Rattle.vc_types.specs.Wavelets.{is_shifted, synthesised, analysed, GrowsAtMost}
use Rattle.vc_lift.proofs.LineLaws.{synthesis_grows_little, analysis_grows_less, synthesis_past}
use Rattle.vc_lift.proofs.LineLaws.{analysis_past}
use Rattle.vc_wave.specs.declared.pass.Direction.{Direction}
use Rattle.vc_wave.specs.declared.pass.Direction.TheVariants.{Synthesis, Analysis}
use Rattle.vc_wave.specs.Planes.{AreBelow}
use Rattle.vc_wave.specs.Remade.{half_place, rearranged, halves_together, on_samples, merged, parted, remade}
use Rattle.vc_wave.proofs.PlaneLines.{LeavesPast, column_in, column_out, row_in, row_out, rearranged_in}
use Rattle.vc_wave.proofs.PlaneLines.{rearranged_past}
use Rattle.vc_wave.proofs.Weaving.{level_across_remade, inverse_level_remade, forward_level_remade}

pub below_more : (i j : ℕ) (c : Cells) → i ≤ j → AreBelow (2 ^ i) c → AreBelow (2 ^ j) c
below_more i j c le small x y = let more : 2 ^ i ≤ 2 ^ j = pow_mono le in omega (arith, more, small x y)

-- ---- lines

-- a function of lines that raises a bound on all samples of a line from m to n
abbrev pub Raises : ℕ → ℕ → (Line → Line) → Type 0
Raises m n f = (l : Line) → ((k : ℕ) → unsigned_abs (l k) < m) → (k : ℕ) → unsigned_abs (f l k) < n

raised : (m most a : ℕ) → 0 < most → a < m → a < most * m
raised m most a more h = let k = mul-le-mul_left m more in omega (arith, k)

line_raises : (make : ℕ → Line → Line) (most half m : ℕ) → 0 < most → GrowsAtMost most make
    → LeavesPast (2 * half) (make (2 * half)) → 2 ^ 16 ≤ m → Raises m (most * m) (make (2 * half))
line_raises make most half m more grow past large l small k = grind (arith, raised)

rearranged_raises : (n : ℕ) (source : ℕ → ℕ) (m : ℕ) → Raises m m (rearranged n source)
rearranged_raises n source m l small k = grind (arith, rearranged_in, rearranged_past)

merged_raises : (wavelet half m : ℕ) → 2 ^ 16 ≤ m → Raises m (16 * m) (merged wavelet half)
merged_raises wavelet half m large l small =
    line_raises (synthesised wavelet) 16 half m (omega arith) (synthesis_grows_little wavelet)
    (synthesis_past wavelet half) large (halves_together half l)
    (rearranged_raises (2 * half) (half_place half) m l small)

parted_raises : (wavelet half m : ℕ) → 2 ^ 16 ≤ m → Raises m (8 * m) (parted wavelet half)
parted_raises wavelet half m large l small =
    rearranged_raises (2 * half) (source_of half) (8 * m) (analysed wavelet (2 * half) l)
    (line_raises (analysed wavelet) 8 half m (omega arith) (analysis_grows_less wavelet)
    (analysis_past wavelet half) large l small)

shifted_below : (z : ℤ) (n : ℕ) → unsigned_abs z ≤ n + 1 → unsigned_abs (int_shr z 1) ≤ n + 1
shifted_below (pos k) n h = omega arith
shifted_below (negsuc k) n h = omega arith

halved_pos_below : (n : ℕ) → unsigned_abs (halved (pos n)) ≤ n
halved_pos_below n = omega arith

halved_neg_below : (n : ℕ) (z : ℤ) → z ≡ negsuc n +ℤ pos 1 → unsigned_abs (int_shr z 1) ≤ n + 1
halved_neg_below n z e = shifted_below z n (omega (arith, ints))

halved_below : (m : ℕ) (z : ℤ) → unsigned_abs z < m → unsigned_abs (halved z) < m
halved_below m (pos n) h = omega (arith, halved_pos_below n)
halved_below m (negsuc n) h = omega (arith, halved_neg_below n (negsuc n +ℤ pos 1) refl)

pub doubled_below : (m : ℕ) (z : ℤ) → unsigned_abs z < m → unsigned_abs (doubled z) < 2 * m
doubled_below m z h = omega (arith, ints)

on_samples_raises : (f : ℤ → ℤ) (wanted : Bool) (n m b : ℕ)
    → ((z : ℤ) → unsigned_abs z < m → unsigned_abs (f z) < b) → m ≤ b → Raises m b (on_samples f wanted n)
unfolding on_samples
on_samples_raises f wanted n m b grow le l small k = grind arith

remade_raises : (d : Direction) (wavelet : ℕ) (shifted : Bool) (half m : ℕ) → 2 ^ 16 ≤ m
    → Raises m (16 * m) (remade d wavelet shifted half)
remade_raises Synthesis wavelet shifted half m large l small k =
    on_samples_raises halved shifted (2 * half) (16 * m) (16 * m) (halved_below (16 * m)) (omega arith)
    (merged wavelet half l) (merged_raises wavelet half m large l small) k
remade_raises Analysis wavelet shifted half m large l small k =
    let a = parted_raises wavelet half (2 * m) (omega arith) (on_samples doubled shifted (2 * half) l)
    (on_samples_raises doubled shifted (2 * half) m (2 * m) (doubled_below m) (omega arith) l small) k in
    omega (arith, a)

-- ---- planes

-- a function of planes raises a bound on magnitudes by so many bits
abbrev pub GrowsBy : ℕ → (Cells → Cells) → Type 0
GrowsBy bits f = (n : ℕ) (c : Cells) → 16 ≤ n → AreBelow (2 ^ n) c → AreBelow (2 ^ (n + bits)) (f c)

none_grows : (bits : ℕ) → GrowsBy bits (λ c. c)
none_grows bits n c large small = below_more n (n + bits) c (omega arith) small

-- one after another
both_grow : (i j bits : ℕ) (f g : Cells → Cells) → i + j ≡ bits → GrowsBy i f → GrowsBy j g
    → GrowsBy bits (λ c. f (g c))
both_grow i j bits f g sum p q n c large small =
    below_more (n + j + i) (n + bits) (f (g c)) (omega arith)
    (p (n + j) (g c) (omega arith) (q n c large small))

four_more : (n : ℕ) → 2 ^ (n + 4) ≡ 16 * 2 ^ n
four_more n = pow-add 2 n 4 ∙ omega arith

-- each pass over lines raises it by four bits
module _ (d : Direction) (wavelet : ℕ) (shifted : Bool) (half lines : ℕ) where
  raises : (n : ℕ) → 16 ≤ n → Raises (2 ^ n) (2 ^ (n + 4)) (remade d wavelet shifted half)
  raises n large = rw (four_more n) (remade_raises d wavelet shifted half (2 ^ n) (pow_mono large))

  pub columns_grow : GrowsBy 4 (on_columns (remade d wavelet shifted half) lines)
  columns_grow n c large small x y =
      let made = raises n large in
      let kept = none_grows 4 n c large small in
      grind (arith, column_in, made, column_out, kept)

  pub rows_grow : GrowsBy 4 (on_rows (remade d wavelet shifted half) lines)
  rows_grow n c large small x y =
      let made = raises n large in
      let kept = none_grows 4 n c large small in
      grind (arith, row_in, made, row_out, kept)

level_across_grows : (wavelet w h : ℕ) → GrowsBy 4 (level_across wavelet w h)
level_across_grows wavelet w h =
    subst (GrowsBy 4) (fun_ext (λ c. sym (level_across_remade wavelet w h c)))
    (rows_grow Synthesis wavelet (is_shifted wavelet) w h)

inverse_level_grows : (vertical horizontal w h : ℕ) → GrowsBy 8 (inverse_level vertical horizontal w h)
inverse_level_grows vertical horizontal w h =
    subst (GrowsBy 8) (fun_ext (λ c. sym (inverse_level_remade vertical horizontal w h c)))
    (both_grow 4 4 8 (on_rows (remade Synthesis horizontal (is_shifted horizontal) w) (2 * h))
    (on_columns (remade Synthesis vertical false h) (2 * w)) (omega arith)
    (rows_grow Synthesis horizontal (is_shifted horizontal) w (2 * h))
    (columns_grow Synthesis vertical false h (2 * w)))

pub forward_level_grows : (wavelet w h : ℕ) → GrowsBy 8 (forward_level wavelet w h)
forward_level_grows wavelet w h =
    subst (GrowsBy 8) (fun_ext (λ c. sym (forward_level_remade wavelet w h c)))
    (both_grow 4 4 8 (on_columns (remade Analysis wavelet false h) (2 * w))
    (on_rows (remade Analysis wavelet (is_shifted wavelet) w) (2 * h)) (omega arith)
    (columns_grow Analysis wavelet false h (2 * w))
    (rows_grow Analysis wavelet (is_shifted wavelet) w (2 * h)))

-- ---- all levels

pub levels_across_grow : (wavelet e w h : ℕ) → GrowsBy (4 * e) (levels_across wavelet e w h)
unfolding levels_across
levels_across_grow wavelet zero w h = none_grows (4 * 0)
levels_across_grow wavelet (suc e) w h =
    both_grow 4 (4 * e) (4 * suc e) (level_across wavelet (w * 2 ^ e) h) (levels_across wavelet e w h)
    (omega arith)
    (level_across_grows wavelet (w * 2 ^ e) h) (levels_across_grow wavelet e w h)

pub inverse_levels_grow : (vertical horizontal d w h : ℕ)
    → GrowsBy (8 * d) (inverse_levels vertical horizontal d w h)
unfolding inverse_levels
inverse_levels_grow vertical horizontal zero w h = none_grows (8 * 0)
inverse_levels_grow vertical horizontal (suc d) w h =
    both_grow 8 (8 * d) (8 * suc d) (inverse_level vertical horizontal (w * 2 ^ d) (h * 2 ^ d))
    (inverse_levels vertical horizontal d w h) (omega arith)
    (inverse_level_grows vertical horizontal (w * 2 ^ d) (h * 2 ^ d))
    (inverse_levels_grow vertical horizontal d w h)

pub forward_levels_grow : (wavelet d w h : ℕ) → GrowsBy (8 * d) (forward_levels wavelet d w h)
unfolding forward_levels
forward_levels_grow wavelet zero w h = none_grows (8 * 0)
forward_levels_grow wavelet (suc d) w h =
    both_grow (8 * d) 8 (8 * suc d) (forward_levels wavelet d w h)
    (forward_level wavelet (w * 2 ^ d) (h * 2 ^ d))
    (omega arith) (forward_levels_grow wavelet d w h) (forward_level_grows wavelet (w * 2 ^ d) (h * 2 ^ d))

-- five levels in all, from coefficients below 2 ^ 60
pub across_below : (wavelet e d w h : ℕ) (first second : Cells) → d + e ≤ 5
    → second ≡ levels_across wavelet e w h first
    → AreBelow (2 ^ 60) first → AreBelow (2 ^ (100 - 8 * d)) second
across_below wavelet e d w h first second few is small =
    rw is (below_more (60 + 4 * e) (100 - 8 * d) (levels_across wavelet e w h first) (omega arith)
    (levels_across_grow wavelet e w h 60 first (omega arith) small))

pub all_below : (vertical horizontal d w h : ℕ) (second last : Cells) → d ≤ 5
    → last ≡ inverse_levels vertical horizontal d w h second → AreBelow (2 ^ (100 - 8 * d)) second
    → AreBelow (2 ^ 100) last
all_below vertical horizontal d w h second last few is small =
    rw is (below_more (100 - 8 * d + 8 * d) 100 (inverse_levels vertical horizontal d w h second)
    (omega arith)
    (inverse_levels_grow vertical horizontal d w h (100 - 8 * d) second (omega arith) small))

pub forward_below : (wavelet d w h : ℕ) (first last : Cells) → d ≤ 5
    → last ≡ forward_levels wavelet d w h first
    → AreBelow (2 ^ 16) first → AreBelow (2 ^ 60) last
forward_below wavelet d w h first last few is small =
    rw is (below_more (16 + 8 * d) 60 (forward_levels wavelet d w h first) (omega arith)
    (forward_levels_grow wavelet d w h 16 first (omega arith) small))
