-- The transforms of a part of the plane read that part alone, and leave all other cells.
use Rattle.std.proofs.Common.{◌≡◌, ℕ, zero, suc, ◌*◌, ◌^◌, ◌<◌, ◌≤◌, ◌⊎◌, arith, sym, ap, subst, refl, ◌∙◌}
use Rattle.std.proofs.Common.{false, ◌+◌, ◌/◌}
use mathlib.Core.Path.{fun_ext}
use Rattle.std.proofs.lemmas.Nat.{pow-add}
use Rattle.std.proofs.Math.Nat.{div-mul-le_self, mul-le-mul_left, mul-le-mul_right, pow-suc}
use Rattle.std.proofs.Math.Pow.{pow_pos}
use Rattle.vc_types.specs.declared.video.Component.{Component}
use Rattle.vc_types.specs.Lifting.{Line}
use Rattle.vc_types.specs.Subbands.{padded_width, padded_height}
use Rattle.vc_types.specs.TransformParameters.{Parameters}
use Rattle.vc_types.specs.Transforms.{Cells, on_columns, on_rows, level_across, inverse_level, forward_level}
use Rattle.vc_types.specs.Transforms.{levels_across, inverse_levels, forward_levels, inverse_transform}
use Rattle.vc_types.specs.Transforms.{lowest_width, lowest_height}
use Rattle.vc_types.specs.Wavelets.{is_shifted}
use Rattle.vc_wave.specs.declared.pass.Direction.TheVariants.{Synthesis, Analysis}
use Rattle.vc_wave.proofs.PlaneLines.{LeavesPast, ReadsBelow, IsPass, column_in, column_out, row_in, row_out}
use Rattle.vc_wave.proofs.Weaving.{remade_pass, level_across_remade, inverse_level_remade}
use Rattle.vc_wave.proofs.Weaving.{forward_level_remade}

-- two planes are the same in the first columns and rows
abbrev pub Agree : ℕ → ℕ → Cells → Cells → Type 0
Agree width height c d = (x y : ℕ) → x < width → y < height → c x y ≡ d x y

-- a function of planes leaves all but the first columns and rows, and reads nothing else for those
pub record StaysIn (width height : ℕ) (f : Cells → Cells) : Type 0 where
  pub past : (c : Cells) (x y : ℕ) → (width ≤ x) ⊎ (height ≤ y) → f c x y ≡ c x y
  pub agrees : (c d : Cells) → Agree width height c d → Agree width height (f c) (f d)

module _ (width height : ℕ) where
  none_stays : StaysIn width height (λ c. c)
  none_stays = record { past = λ c x y out. refl; agrees = λ c d same. same }

  -- one after another
  pub both_stay : (f g : Cells → Cells) → StaysIn width height f → StaysIn width height g
      → StaysIn width height (λ c. f (g c))
  both_stay f g p q = record {
    past = λ c x y out. p.past (g c) x y out ∙ q.past c x y out;
    agrees = λ c d same. p.agrees (g c) (g d) (q.agrees c d same);
  }

  -- lines of m samples, in the first n columns or rows
  module _ (f : Line → Line) (n m : ℕ) (past : LeavesPast m f) (reads : ReadsBelow m f) (c d : Cells) where
    columns_left : n ≤ width → m ≤ height → (x y : ℕ) → (width ≤ x) ⊎ (height ≤ y)
        → on_columns f n c x y ≡ c x y
    columns_left wide high x y out = grind (arith, column_in, column_out)

    rows_left : m ≤ width → n ≤ height → (x y : ℕ) → (width ≤ x) ⊎ (height ≤ y) → on_rows f n c x y ≡ c x y
    rows_left wide high x y out = grind (arith, row_in, row_out)

    module _ (same : Agree width height c d) where
      columns_agree : n ≤ width → m ≤ height → Agree width height (on_columns f n c) (on_columns f n d)
      columns_agree wide high x y h lt = grind (arith, column_in, column_out)

      rows_agree : m ≤ width → n ≤ height → Agree width height (on_rows f n c) (on_rows f n d)
      rows_agree wide high x y h lt = grind (arith, row_in, row_out)

  module _ (f : Line → Line) (n m : ℕ) (pass : IsPass m f) where
    pub columns_stay : n ≤ width → m ≤ height → StaysIn width height (on_columns f n)
    columns_stay wide high = record {
      past = λ c. columns_left f n m pass.past pass.reads c c wide high;
      agrees = λ c d same. columns_agree f n m pass.past pass.reads c d same wide high;
    }

    pub rows_stay : m ≤ width → n ≤ height → StaysIn width height (on_rows f n)
    rows_stay wide high = record {
      past = λ c. rows_left f n m pass.past pass.reads c c wide high;
      agrees = λ c d same. rows_agree f n m pass.past pass.reads c d same wide high;
    }

  -- ---- a level

  abbrev Stays : (Cells → Cells) → Type 0
  Stays f = StaysIn width height f

  pub level_across_stays : (wavelet w h : ℕ) → 2 * w ≤ width → h ≤ height → Stays (level_across wavelet w h)
  level_across_stays wavelet w h wide high =
      subst Stays (fun_ext (λ c. sym (level_across_remade wavelet w h c)))
      (rows_stay _ h (2 * w) (remade_pass Synthesis wavelet (is_shifted wavelet) w) wide high)

  module _ (w h : ℕ) (wide : 2 * w ≤ width) (high : 2 * h ≤ height) where
    pub inverse_level_stays : (vertical horizontal : ℕ) → Stays (inverse_level vertical horizontal w h)
    inverse_level_stays vertical horizontal =
        subst Stays (fun_ext (λ c. sym (inverse_level_remade vertical horizontal w h c)))
        (both_stay _ _
        (rows_stay _ (2 * h) (2 * w) (remade_pass Synthesis horizontal (is_shifted horizontal) w) wide high)
        (columns_stay _ (2 * w) (2 * h) (remade_pass Synthesis vertical false h) wide high))

    pub forward_level_stays : (wavelet : ℕ) → Stays (forward_level wavelet w h)
    forward_level_stays wavelet =
        subst Stays (fun_ext (λ c. sym (forward_level_remade wavelet w h c)))
        (both_stay _ _
        (columns_stay _ (2 * w) (2 * h) (remade_pass Analysis wavelet false h) wide high)
        (rows_stay _ (2 * h) (2 * w) (remade_pass Analysis wavelet (is_shifted wavelet) w) wide high))

-- ---- all levels

side_twice : (w d n : ℕ) → w * 2 ^ suc d ≤ n → 2 * (w * 2 ^ d) ≤ n
side_twice w d n h = omega (arith, ap (λ p. w * p) (pow-suc 2 d))

side_once : (w d n : ℕ) → w * 2 ^ suc d ≤ n → w * 2 ^ d ≤ n
side_once w d n h = omega (arith, side_twice w d n h)

module _ (w h width height : ℕ) where
  pub levels_across_stay : (wavelet e : ℕ) → w * 2 ^ e ≤ width → h ≤ height
      → StaysIn width height (levels_across wavelet e w h)
  unfolding levels_across
  levels_across_stay wavelet zero wide high = none_stays width height
  levels_across_stay wavelet (suc e) wide high =
      both_stay width height (level_across wavelet (w * 2 ^ e) h) (levels_across wavelet e w h)
      (level_across_stays width height wavelet (w * 2 ^ e) h (side_twice w e width wide) high)
      (levels_across_stay wavelet e (side_once w e width wide) high)

  inverse_levels_stay : (vertical horizontal d : ℕ) → w * 2 ^ d ≤ width → h * 2 ^ d ≤ height
      → StaysIn width height (inverse_levels vertical horizontal d w h)
  unfolding inverse_levels
  inverse_levels_stay vertical horizontal zero wide high = none_stays width height
  inverse_levels_stay vertical horizontal (suc d) wide high =
      both_stay width height (inverse_level vertical horizontal (w * 2 ^ d) (h * 2 ^ d))
      (inverse_levels vertical horizontal d w h)
      (inverse_level_stays width height (w * 2 ^ d) (h * 2 ^ d) (side_twice w d width wide)
      (side_twice h d height high)
      vertical horizontal)
      (inverse_levels_stay vertical horizontal d (side_once w d width wide) (side_once h d height high))

  pub forward_levels_stay : (wavelet d : ℕ) → w * 2 ^ d ≤ width → h * 2 ^ d ≤ height
      → StaysIn width height (forward_levels wavelet d w h)
  unfolding forward_levels
  forward_levels_stay wavelet zero wide high = none_stays width height
  forward_levels_stay wavelet (suc d) wide high =
      both_stay width height (forward_levels wavelet d w h) (forward_level wavelet (w * 2 ^ d) (h * 2 ^ d))
      (forward_levels_stay wavelet d (side_once w d width wide) (side_once h d height high))
      (forward_level_stays width height (w * 2 ^ d) (h * 2 ^ d) (side_twice w d width wide)
      (side_twice h d height high)
      wavelet)

-- the lowest width, and the levels of both kinds
pub side_parts : (w d e : ℕ) → w * 2 ^ e * 2 ^ d ≡ w * 2 ^ (d + e)
side_parts w d e = let parts = pow-add 2 d e in rw parts (omega arith)

pub side_whole : (n d e : ℕ) → n / 2 ^ (d + e) * 2 ^ e * 2 ^ d ≤ n
side_whole n d e = rw (side_parts (n / 2 ^ (d + e)) d e) (div-mul-le_self n (2 ^ (d + e)))

pub less : (w d n : ℕ) → w * 2 ^ d ≤ n → w ≤ n
less w d n h = let more : w * 1 ≤ w * 2 ^ d = mul-le-mul_left w (pow_pos d) in omega (arith, more)

without : (w e d n : ℕ) → w * 2 ^ e * 2 ^ d ≤ n → w * 2 ^ d ≤ n
without w e d n h = grind (arith, mul-le-mul_left, pow_pos, mul-le-mul_right)

-- in the padded size
module _ (p : Parameters) (c : Component) (a b : Cells)
    (same : Agree (padded_width p c) (padded_height p c) a b) where
  wide : lowest_width p c * 2 ^ p.depth_ho * 2 ^ p.depth ≤ padded_width p c
  wide = side_whole (padded_width p c) p.depth p.depth_ho

  high : lowest_height p c * 2 ^ p.depth ≤ padded_height p c
  high = div-mul-le_self (padded_height p c) (2 ^ p.depth)

  pub inverse_transform_agrees :
      Agree (padded_width p c) (padded_height p c) (inverse_transform p c a) (inverse_transform p c b)
  unfolding inverse_transform
  inverse_transform_agrees =
      let w = lowest_width p c in
      let h = lowest_height p c in
      let across = levels_across_stay w h (padded_width p c) (padded_height p c) p.wavelet_ho p.depth_ho
      (less (w * 2 ^ p.depth_ho) p.depth (padded_width p c) wide) (less h p.depth (padded_height p c) high) in
      (inverse_levels_stay (w * 2 ^ p.depth_ho) h (padded_width p c)
      (padded_height p c) p.wavelet p.wavelet_ho p.depth
      wide high).agrees
      (levels_across p.wavelet_ho p.depth_ho w h a) (levels_across p.wavelet_ho p.depth_ho w h b)
      (across.agrees a b same)

  pub forward_levels_agrees :
      Agree (padded_width p c) (padded_height p c)
      (forward_levels p.wavelet p.depth (lowest_width p c) (lowest_height p c) a)
      (forward_levels p.wavelet p.depth (lowest_width p c) (lowest_height p c) b)
  forward_levels_agrees =
      (forward_levels_stay (lowest_width p c) (lowest_height p c) (padded_width p c)
      (padded_height p c) p.wavelet p.depth
      (without (lowest_width p c) p.depth_ho p.depth (padded_width p c) wide) high).agrees a b same
