-- What is predicted of a value, by the row and the column that it stands in.
use Rattle.std.proofs.Common.{◌≡◌, ℕ, zero, suc, ◌-◌, ◌<◌, ℤ, pos, refl, ap, ◌∙◌, arith}
use Rattle.vc_types.specs.Transforms.{Cells}
use Rattle.vc_lowdelay.specs.Bands.{prediction_in}
use Rattle.vc_lowdelay.specs.LowDelay.{mean_of}

pub at_corner : (f : Cells) (x y : ℕ) → x ≡ 0 → y ≡ 0 → prediction_in f x y ≡ pos 0
unfolding prediction_in
at_corner f zero zero ex ey = refl
at_corner f (suc x) y ex ey = absurd (omega (arith, ex))
at_corner f zero (suc y) ex ey = absurd (omega (arith, ey))

pub in_first_row : (f : Cells) (x y : ℕ) → 0 < x → y ≡ 0 → prediction_in f x y ≡ f (x - 1) 0
unfolding prediction_in
in_first_row f zero y some ey = absurd (omega (arith, some))
in_first_row f (suc x) (suc y) some ey = absurd (omega (arith, ey))
in_first_row f (suc x) zero some ey = ap (λ (n : ℕ). f n 0) (omega arith)

pub in_first_column : (f : Cells) (x y : ℕ) → x ≡ 0 → 0 < y → prediction_in f x y ≡ f 0 (y - 1)
unfolding prediction_in
in_first_column f (suc x) y ex some = absurd (omega (arith, ex))
in_first_column f zero zero ex some = absurd (omega (arith, some))
in_first_column f zero (suc y) ex some = ap (f 0) (omega arith)

pub elsewhere : (f : Cells) (x y : ℕ) → 0 < x → 0 < y → prediction_in f x y ≡ mean_of (f (x - 1) y) (f (x - 1) (y - 1)) (f x (y - 1))
unfolding prediction_in
elsewhere f zero y some down = absurd (omega (arith, some))
elsewhere f (suc x) zero some down = absurd (omega (arith, down))
elsewhere f (suc x) (suc y) some down =
    let across : x ≡ suc x - 1 = omega arith in
    let above : y ≡ suc y - 1 = omega arith in
    ap (λ (n : ℕ). mean_of (f n (suc y)) (f n y) (f (suc x) y)) across
    ∙ ap (λ (n : ℕ). mean_of (f (suc x - 1) (suc y)) (f (suc x - 1) n) (f (suc x) n)) above

pub ruleset predictions = (at_corner, in_first_row, in_first_column, elsewhere)

pub mean_same : (a b d x y z : ℤ) → a ≡ x → b ≡ y → d ≡ z → mean_of a b d ≡ mean_of x y z
mean_same a b d x y z e f g = rw e (rw f (rw g refl))
