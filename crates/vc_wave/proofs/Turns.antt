-- The row of a cell once rows are taken in turn, level by level.
use Rattle.std.proofs.Common.{◌≡◌, ℕ, suc, ◌+◌, ◌-◌, ◌*◌, ◌^◌, ◌<◌, arith, ap, sym, ◌∙◌}
use Rattle.std.specs.Prelude.{if◌then◌else◌}
use Rattle.std.proofs.Math.Nat.{pow-suc}
use Rattle.vc_types.specs.Transforms.{is_within, source_of}
use Rattle.vc_wave.specs.Layout.{row_in_turn}
use Rattle.vc_wave.proofs.LayoutLaws.{turned, row_step, row_end}
use Rattle.vc_wave.proofs.Levels.{twice_side}

pub twice_power : (h n : ℕ) → 2 * h * 2 ^ n ≡ h * 2 ^ suc n
twice_power h n = omega (arith, ap (λ p. h * p) (pow-suc 2 n))

-- ---- a level more

pub one_level : (levels level w h x row next columns rows first : ℕ) → level < levels
    → columns ≡ w * 2 ^ level → rows ≡ h * 2 ^ level
    → next ≡ (if is_within (2 * columns) (2 * rows) x row then source_of rows row else row)
    → row_in_turn (levels - level) (w * 2 ^ level) (h * 2 ^ level) x row ≡ first
    → row_in_turn (levels - (level + 1)) (w * 2 ^ (level + 1)) (h * 2 ^ (level + 1)) x next ≡ first
unfolding turned
one_level levels level w h x row next columns rows first lt across down is so_far =
    let left = levels - (level + 1) in
    let rest : suc left ≡ levels - level = omega arith in
    let taken : next ≡ turned (w * 2 ^ level) (h * 2 ^ level) x row = rw (across, down) at is in
    rw (twice_side w level, twice_side h level, taken)
    (rw (← rest, row_step left (w * 2 ^ level) (h * 2 ^ level) x row) at so_far)

pub all_turned : (levels level w h x row first : ℕ) → level ≡ levels
    → row_in_turn (levels - level) (w * 2 ^ level) (h * 2 ^ level) x row ≡ first → row ≡ first
all_turned levels level w h x row first e so_far =
    let none : 0 ≡ levels - level = omega arith in
    sym (row_end (w * 2 ^ level) (h * 2 ^ level) x row)
    ∙ ap (λ n. row_in_turn n (w * 2 ^ level) (h * 2 ^ level) x row) none ∙ so_far
