-- So many columns more, or one row more, of a plane that is kept row by row.
use Rattle.std.proofs.Common.{◌≡◌, ◌≢◌, ℕ, suc, ◌+◌, ◌-◌, ◌*◌, ◌/◌, ◌%◌, ◌<◌, ◌≤◌, List, ℤ, pos, arith, ap}
use Rattle.std.proofs.Common.{sym, ◌∙◌, ◌⊎◌}
use Rattle.std.proofs.Common.{inl, inr, unsigned_abs, Option, subst}
use mathlib.Core.Path.{fun_ext}
use Rattle.std.proofs.lemmas.Bool.{cases_lt, cases_eq}
use Rattle.std.proofs.lemmas.Bool.Decides.{nat_tests}
use Rattle.std.proofs.lemmas.Nat.{same_from_place}
use Rattle.std.proofs.Math.Nat.{mul-le-mul_right}
use Rattle.vc_types.specs.Lifting.{Line, line_of}
use Rattle.vc_types.specs.Transforms.{Cells, on_columns, on_rows}
use Rattle.vc_wave.specs.Lines.{row_from, IsMade, IsRowMade}
use Rattle.vc_wave.specs.NarrowBounds.{HasBound, RowHasBound}
use Rattle.vc_wave.specs.Planes.{plane_of}
use Rattle.vc_wave.proofs.PlaneLines.{LeavesPast, IsPass, column_in, column_out, row_in, row_out}

pub plane_in : (stride : ℕ) (cells : List ℤ) (x y : ℕ) → x < stride
    → plane_of stride cells x y ≡ line_of cells (y * stride + x)
unfolding plane_of
plane_in stride cells x y h = grind (arith, nat_tests)

pub plane_out : (stride : ℕ) (cells : List ℤ) (x y : ℕ) → stride ≤ x → plane_of stride cells x y ≡ pos 0
unfolding plane_of
plane_out stride cells x y h = grind (arith, nat_tests)

-- how large a plane's cells are, by their places
pub plane_small : (pitch m : ℕ) (cells : List ℤ) → ((i : ℕ) → unsigned_abs (line_of cells i) ≤ m)
    → (x y : ℕ) → unsigned_abs (plane_of pitch cells x y) ≤ m
plane_small pitch m cells small x y = grind (arith, plane_in, plane_out)

pub cells_small : (pitch m : ℕ) (cells : List ℤ) → 0 < pitch
    → ((x y : ℕ) → unsigned_abs (plane_of pitch cells x y) ≤ m) → (i : ℕ) → unsigned_abs (line_of cells i) ≤ m
cells_small pitch m cells some small i =
    let column : i % pitch < pitch = omega arith in
    let place : i / pitch * pitch + i % pitch ≡ i = omega arith in
    subst (λ j. unsigned_abs (line_of cells j) ≤ m) place
    (subst (λ z. unsigned_abs z ≤ m) (plane_in pitch cells (i % pitch) (i / pitch) column)
    (small (i % pitch) (i / pitch)))

pub columns_none : (f : Line → Line) (g : Cells) → g ≡ on_columns f 0 g
columns_none f g = fun_ext (λ x. fun_ext (λ y. sym (column_out f 0 g x y (omega arith))))

pub rows_none : (f : Line → Line) (g : Cells) → g ≡ on_rows f 0 g
rows_none f g = fun_ext (λ x. fun_ext (λ y. sym (row_out f 0 g x y (omega arith))))

module _ (f : Line → Line) (stride n b m : ℕ) (g : Cells) (old : List ℤ) (wide : n + b ≤ stride)
    (done : plane_of stride old ≡ on_columns f n g) where
  old_at : (x y : ℕ) → plane_of stride old x y ≡ on_columns f n g x y
  old_at x y = ap (λ p. p x y) done

  -- a column that is still as it was
  pub column_left : (x : ℕ) → x < b
      → ◌≡◌ {A = ℕ → ℤ} (λ k. line_of old (n + k * stride + x)) (λ k. g (n + x) k)
  column_left x h = fun_ext
      (λ k. (let place : n + k * stride + x ≡ k * stride + (n + x) = omega arith in ap (line_of old) place)
      ∙ sym (plane_in stride old (n + x) k (omega arith)) ∙ old_at (n + x) k
      ∙ column_out f n g (n + x) k (omega arith))

  module _ (new : List ℤ) (past : LeavesPast m f)
      (on : (x k : ℕ) → x < b → k < m
      → line_of new (n + k * stride + x) ≡ f (λ j. line_of old (n + j * stride + x)) k)
      (off : (i : ℕ) → ((x k : ℕ) → x < b → k < m → i ≢ n + k * stride + x)
      → line_of new i ≡ line_of old i) where
    same_column : (x y x' k : ℕ) → x < stride → x' < b → y * stride + x ≡ n + k * stride + x'
        → (y ≡ k) × (x ≡ n + x')
    same_column x y x' k h lt e = same_from_place y x k (n + x') stride h (omega arith) (omega arith)

    in_new : (x y : ℕ) → x < b → (y < m) ⊎ (m ≤ y) → plane_of stride new (n + x) y ≡ f (λ k. g (n + x) k) y
    in_new x y h (inl lt) =
        plane_in stride new (n + x) y (omega arith)
        ∙ (let place : y * stride + (n + x) ≡ n + y * stride + x = omega arith in ap (line_of new) place)
        ∙ on x y h lt ∙ ap (λ l. f l y) (column_left x h)
    in_new x y h (inr ge) =
        plane_in stride new (n + x) y (omega arith)
        ∙ off (y * stride + (n + x))
        (λ x' k lt below e. (let same = same_column (n + x) y x' k (omega arith) lt e in
        omega (arith, same)))
        ∙ sym (plane_in stride old (n + x) y (omega arith)) ∙ old_at (n + x) y
        ∙ column_out f n g (n + x) y (omega arith) ∙ sym (past (λ k. g (n + x) k) y ge)

    kept : (x y : ℕ) → (x < stride) ⊎ (stride ≤ x) → (x < n) ⊎ (n + b ≤ x)
        → plane_of stride new x y ≡ on_columns f n g x y
    kept x y (inl h) apart =
        plane_in stride new x y h
        ∙ off (y * stride + x)
        (λ x' k lt below e. (let same = same_column x y x' k h lt e in not_there x x' lt apart same.1))
        ∙ sym (plane_in stride old x y h) ∙ old_at x y
      where
        not_there : (x x' : ℕ) → x' < b → (x < n) ⊎ (n + b ≤ x) → x ≢ n + x'
        not_there x x' lt (inl before) e = omega arith
        not_there x x' lt (inr after) e = omega arith
    kept x y (inr h) apart = plane_out stride new x y h ∙ sym (plane_out stride old x y h) ∙ old_at x y

    more_at : (x y : ℕ) → (x < n) ⊎ (n ≤ x) → (x < n + b) ⊎ (n + b ≤ x)
        → plane_of stride new x y ≡ on_columns f (n + b) g x y
    more_at x y (inl before) second = kept x y (cases_lt x stride) (inl before) ∙ column_in f n g x y before
        ∙ sym (column_in f (n + b) g x y (omega arith))
    more_at x y (inr from) (inr after) = kept x y (cases_lt x stride) (inr after) ∙ column_out f n g x y from
        ∙ sym (column_out f (n + b) g x y after)
    more_at x y (inr from) (inl within) =
        let place : x ≡ n + (x - n) = omega arith in
        ap (λ u. plane_of stride new u y) place ∙ in_new (x - n) y (omega arith) (cases_lt y m)
        ∙ ap (λ u. f (λ k. g u k) y) (sym place) ∙ sym (column_in f (n + b) g x y within)

    pub columns_more : plane_of stride new ≡ on_columns f (n + b) g
    columns_more = fun_ext (λ x. fun_ext (λ y. more_at x y (cases_lt x n) (cases_lt x (n + b))))

-- ---- rows

-- a line by itself that is made is a row that is made
pub row_of_line : (f : Line → Line) (start half : ℕ) (old new : List ℤ)
    → IsMade f (record { start = start; step = 1; width = 1; half = half }) old new
    → IsRowMade f start (2 * half) old new
row_of_line f start half old new made = record {
  on = λ k h. ap (line_of new) (place k) ∙ made.on 0 k (omega arith) h
      ∙ ap (λ l. f l k) (fun_ext (λ j. ap (line_of old) (sym (place j))));
  off = λ i out. made.off i (λ x k one h e. apart i x k one h e out);
}
  where
    place : (k : ℕ) → start + k ≡ start + k * 1 + 0
    place k = omega arith

    apart : (i x k : ℕ) → x < 1 → k < 2 * half → i ≡ start + k * 1 + x → (i < start) ⊎ (start + 2 * half ≤ i)
        → ⊥
    apart i x k one h e (inl before) = omega arith
    apart i x k one h e (inr after) = omega arith

module _ (f : Line → Line) (stride n m : ℕ) (first old : List ℤ) (pass : IsPass m f) (wide : m ≤ stride)
    (done : plane_of stride old ≡ on_rows f n (plane_of stride first)) where
  abbrev before : Cells
  before = plane_of stride first

  -- a row that is still as it was
  pub row_left : (k : ℕ) → k < m → row_from old (n * stride) k ≡ before k n
  row_left k h =
      sym (plane_in stride old k n (omega arith)) ∙ ap (λ p. p k n) done
      ∙ row_out f n before k n (omega arith)

  -- and a bound on it
  pub row_bound : (carry : ℕ → Option ℕ) → HasBound carry first → RowHasBound carry old (n * stride) m
  row_bound carry bound = record {
    most = bound.most;
    after = bound.after;
    small = λ k h. rw (row_left k h) (plane_small stride bound.most first bound.small k n);
    fits = bound.fits;
  }

  module _ (new : List ℤ) (made : IsRowMade f (n * stride) m old new) where
    outside : (x y : ℕ) → x < stride → (y < n) ⊎ (n ≤ y) → (y ≢ n) ⊎ (m ≤ x)
        → (y * stride + x < n * stride) ⊎ (n * stride + m ≤ y * stride + x)
    outside x y h (inl up) any =
        (let below : suc y * stride ≤ n * stride = mul-le-mul_right stride up in inl (omega (arith, below)))
    outside x y h (inr from) (inl ne) =
        (let above : suc n * stride ≤ y * stride = mul-le-mul_right stride (omega arith) in
        inr (omega (arith, above)))
    outside x y h (inr from) (inr past) =
        (let above : n * stride ≤ y * stride = mul-le-mul_right stride from in inr (omega (arith, above)))

    row_kept : (x y : ℕ) → (x < stride) ⊎ (stride ≤ x) → (y ≢ n) ⊎ (m ≤ x)
        → plane_of stride new x y ≡ on_rows f n before x y
    row_kept x y (inl h) apart =
        plane_in stride new x y h ∙ made.off (y * stride + x) (outside x y h (cases_lt y n) apart)
        ∙ sym (plane_in stride old x y h) ∙ ap (λ p. p x y) done
    row_kept x y (inr h) apart = plane_out stride new x y h ∙ sym (plane_out stride old x y h)
        ∙ ap (λ p. p x y) done

    in_row : (x : ℕ) → (x < m) ⊎ (m ≤ x) → plane_of stride new x n ≡ f (λ k. before k n) x
    in_row x (inl h) =
        plane_in stride new x n (omega arith) ∙ made.on x h
        ∙ pass.reads (row_from old (n * stride)) (λ k. before k n) row_left x h
    in_row x (inr h) =
        row_kept x n (cases_lt x stride) (inr h) ∙ row_out f n before x n (omega arith)
        ∙ sym (pass.past (λ k. before k n) x h)

    next_rows : (x y : ℕ) → y ≢ n → on_rows f n before x y ≡ on_rows f (n + 1) before x y
    unfolding on_rows
    next_rows x y ne = grind (arith, nat_tests)

    pub rows_more : plane_of stride new ≡ on_rows f (n + 1) before
    rows_more = fun_ext (λ x. fun_ext (λ y. elim (cases_eq y n) [
      | inl e ↦ rw e (in_row x (cases_lt x m) ∙ sym (row_in f (n + 1) before x n (omega arith)))
      | inr ne ↦ row_kept x y (cases_lt x stride) (inl ne) ∙ next_rows x y ne
    ]))
