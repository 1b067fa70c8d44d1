-- The standard's lines: synthesis undoes analysis, magnitudes grow little, and a line depends on itself
-- alone.
use Rattle.std.proofs.Common.{◌≡◌, ℕ, ◌*◌, ◌/◌, ◌%◌, ◌^◌, ◌<◌, ◌≤◌, ℤ, arith, sym, ap, ◌∙◌, unsigned_abs}
use Rattle.std.proofs.Common.{true}
use Rattle.vc_types.specs.Wavelets.{synthesised, analysed, GrowsAtMost, IsLocal}
use Rattle.vc_lift.specs.CountedSteps.{undone}
use Rattle.vc_lift.proofs.CountedSteps.{counted_steps, synthesised_counted, analysed_counted}
use Rattle.vc_lift.specs.Growth.{grows_little}
use Rattle.vc_lift.proofs.LineGrowth.{grows, synthesis_little, analysis_little, analysis_lower}
use Rattle.vc_lift.proofs.LineLocality.{same_lift_all, lift_all_past}
use Rattle.vc_lift.proofs.LineUndoing.{lift_all-undone, parities}

even_size : (size : ℕ) → size % 2 ≡ 0 → size ≡ 2 * (size / 2)
even_size size e = omega arith

pub undone_lines : (w half : ℕ) (x : ℕ → ℤ) → synthesised w (2 * half) (analysed w (2 * half) x) ≡ x
undone_lines w half x =
    grind (arith, synthesised_counted, counted_steps, analysed_counted, lift_all-undone, parities)

pub synthesis_undoes_analysis : (w size : ℕ) (x : ℕ → ℤ) → size % 2 ≡ 0
    → synthesised w size (analysed w size x) ≡ x
synthesis_undoes_analysis w size x e = ap (λ n. synthesised w n (analysed w n x)) (even_size size e)
    ∙ undone_lines w (size / 2) x

lines_grow : (most : ℕ) (make : ℕ → (ℕ → ℤ) → ℕ → ℤ)
    → ((half m : ℕ) (x : ℕ → ℤ) → 0 < half → 2 ^ 16 ≤ m → ((k : ℕ) → k < 2 * half → unsigned_abs (x k) < m)
    → (k : ℕ) → k < 2 * half → unsigned_abs (make (2 * half) x k) < most * m) → GrowsAtMost most make
lines_grow most make grow size m x e large small k h = grind (arith, even_size)

analysis_grows : (most w : ℕ) → 0 < most → grows_little most (undone (counted_steps w)) ≡ true
    → GrowsAtMost most (analysed w)
analysis_grows most w more little =
    lines_grow most (analysed w)
    (λ half m x some large small k h. rw (ap (λ f. f k) (analysed_counted w half x))
    (grows most (undone (counted_steps w)) more little half m x some large small k h))

pub synthesis_grows_little : (w : ℕ) → GrowsAtMost 16 (synthesised w)
synthesis_grows_little w =
    lines_grow 16 (synthesised w)
    (λ half m x some large small k h. rw (ap (λ f. f k) (synthesised_counted w half x))
    (grows 16 (counted_steps w) (omega arith) (synthesis_little w) half m x some large small k h))

pub analysis_grows_little : (w : ℕ) → GrowsAtMost 16 (analysed w)
analysis_grows_little w = analysis_grows 16 w (omega arith) (analysis_little w)

pub analysis_grows_less : (w : ℕ) → GrowsAtMost 8 (analysed w)
analysis_grows_less w = analysis_grows 8 w (omega arith) (analysis_lower w)

lines_local : (make : ℕ → (ℕ → ℤ) → ℕ → ℤ)
    → ((half : ℕ) (x y : ℕ → ℤ) → 0 < half → ((k : ℕ) → k < 2 * half → x k ≡ y k) → (k : ℕ) → k < 2 * half
    → make (2 * half) x k ≡ make (2 * half) y k) → IsLocal make
lines_local make own size x y e same k h = grind (arith, even_size)

pub synthesis_is_local : (w : ℕ) → IsLocal (synthesised w)
synthesis_is_local w =
    lines_local (synthesised w)
    (λ half x y some same k h. ap (λ f. f k) (synthesised_counted w half x)
    ∙ same_lift_all half some (counted_steps w) x y same k h
    ∙ sym (ap (λ f. f k) (synthesised_counted w half y)))

pub analysis_is_local : (w : ℕ) → IsLocal (analysed w)
analysis_is_local w =
    lines_local (analysed w)
    (λ half x y some same k h. ap (λ f. f k) (analysed_counted w half x)
    ∙ same_lift_all half some (undone (counted_steps w)) x y same k h
    ∙ sym (ap (λ f. f k) (analysed_counted w half y)))

-- past the end of a line of 2 * half samples nothing changes
pub synthesis_past : (w half : ℕ) (x : ℕ → ℤ) (k : ℕ) → 2 * half ≤ k → synthesised w (2 * half) x k ≡ x k
synthesis_past w half x k h = ap (λ f. f k) (synthesised_counted w half x)
    ∙ lift_all_past (counted_steps w) half x k h

pub analysis_past : (w half : ℕ) (x : ℕ → ℤ) (k : ℕ) → 2 * half ≤ k → analysed w (2 * half) x k ≡ x k
analysis_past w half x k h = ap (λ f. f k) (analysed_counted w half x)
    ∙ lift_all_past (undone (counted_steps w)) half x k h
