-- Functions of lines on the columns and rows of a plane: at a place, one after another, and in either order.
use Rattle.std.proofs.Common.{◌≡◌, ℕ, ◌<◌, ◌≤◌, ℤ, sym, ap, refl, ◌∙◌, ◌⊎◌, Bool, true, false, arith}
use Rattle.std.specs.Prelude.{if◌then◌else◌, nat_lt, ◌&&◌}
use mathlib.Core.Path.{fun_ext}
use Rattle.std.proofs.lemmas.Bool.{cases_lt}
use Rattle.std.proofs.lemmas.Bool.Decides.{nat_tests}
use Rattle.vc_types.specs.Lifting.{Line}
use Rattle.vc_types.specs.Transforms.{Cells, on_columns, on_rows, on_cells}
use Rattle.vc_wave.specs.Remade.{rearranged, on_samples}

-- past n places it leaves a line as it is
abbrev pub LeavesPast : ℕ → (Line → Line) → Type 0
LeavesPast n f = (l : ℕ → ℤ) (k : ℕ) → n ≤ k → f l k ≡ l k

-- what it makes of the first n places depends on them alone
abbrev pub ReadsBelow : ℕ → (Line → Line) → Type 0
ReadsBelow n f = (l m : ℕ → ℤ) → ((k : ℕ) → k < n → l k ≡ m k) → (k : ℕ) → k < n → f l k ≡ f m k

-- a function of lines of n samples
pub record IsPass (n : ℕ) (f : Line → Line) : Type 0 where
  pub past : LeavesPast n f
  pub reads : ReadsBelow n f

-- one after another
pub both_passes : (n : ℕ) (f g : Line → Line) → IsPass n f → IsPass n g → IsPass n (λ l. f (g l))
both_passes n f g p q = record {
  past = λ l k h. p.past (g l) k h ∙ q.past l k h;
  reads = λ l m e. p.reads (g l) (g m) (q.reads l m e);
}

-- ---- at a place

pub column_in : (f : Line → Line) (n : ℕ) (g : Cells) (x y : ℕ) → x < n
    → on_columns f n g x y ≡ f (λ k. g x k) y
unfolding on_columns
column_in f n g x y h = grind (arith, nat_tests)

pub column_out : (f : Line → Line) (n : ℕ) (g : Cells) (x y : ℕ) → n ≤ x → on_columns f n g x y ≡ g x y
unfolding on_columns
column_out f n g x y h = grind (arith, nat_tests)

pub row_in : (f : Line → Line) (n : ℕ) (g : Cells) (x y : ℕ) → y < n → on_rows f n g x y ≡ f (λ k. g k y) x
unfolding on_rows
row_in f n g x y h = grind (arith, nat_tests)

pub row_out : (f : Line → Line) (n : ℕ) (g : Cells) (x y : ℕ) → n ≤ y → on_rows f n g x y ≡ g x y
unfolding on_rows
row_out f n g x y h = grind (arith, nat_tests)

-- ---- one after another

columns_after : (f g : Line → Line) (c : Cells) (x y : ℕ) (test : Bool)
    → (if test then f (λ k. if test then g (λ j. c x j) k else c x k) y else
    (if test then g (λ j. c x j) y else c x y)) ≡ (if test then f (g (λ k. c x k)) y else c x y)
columns_after f g c x y true = refl
columns_after f g c x y false = refl

pub on_columns-on_columns : (f g : Line → Line) (n : ℕ) (c : Cells)
    → on_columns f n (on_columns g n c) ≡ on_columns (λ l. f (g l)) n c
unfolding on_columns
on_columns-on_columns f g n c = fun_ext (λ x. fun_ext (λ y. columns_after f g c x y (nat_lt x n)))

pub on_rows-on_rows : (f g : Line → Line) (n : ℕ) (c : Cells)
    → on_rows f n (on_rows g n c) ≡ on_rows (λ l. f (g l)) n c
unfolding on_rows
on_rows-on_rows f g n c = fun_ext (λ x. fun_ext (λ y. columns_after f g (λ u v. c v u) y x (nat_lt y n)))

same_columns : (f : Line → Line) (c : Cells) (x y : ℕ) (test : Bool) → ((l : ℕ → ℤ) → f l ≡ l)
    → (if test then f (λ k. c x k) y else c x y) ≡ c x y
same_columns f c x y true same = ap (λ l. l y) (same (λ k. c x k))
same_columns f c x y false same = refl

-- a function that leaves each line as it is
pub on_columns-same : (f : Line → Line) (n : ℕ) (c : Cells) → ((l : ℕ → ℤ) → f l ≡ l) → on_columns f n c ≡ c
unfolding on_columns
on_columns-same f n c same = fun_ext (λ x. fun_ext (λ y. same_columns f c x y (nat_lt x n) same))

pub on_rows-same : (f : Line → Line) (n : ℕ) (c : Cells) → ((l : ℕ → ℤ) → f l ≡ l) → on_rows f n c ≡ c
unfolding on_rows
on_rows-same f n c same = fun_ext (λ x. fun_ext (λ y. same_columns f (λ u v. c v u) y x (nat_lt y n) same))

-- ---- samples that are moved, and samples that are changed

pub rearranged_in : (n : ℕ) (source : ℕ → ℕ) (l : ℕ → ℤ) (k : ℕ) → k < n
    → rearranged n source l k ≡ l (source k)
unfolding rearranged
rearranged_in n source l k h = grind (arith, nat_tests)

pub rearranged_past : (n : ℕ) (source : ℕ → ℕ) → LeavesPast n (rearranged n source)
unfolding rearranged
rearranged_past n source l k h = grind (arith, nat_tests)

-- the sources lie among the first n
abbrev pub StaysBelow : ℕ → (ℕ → ℕ) → Type 0
StaysBelow n source = (k : ℕ) → k < n → source k < n

pub rearranged_pass : (n : ℕ) (source : ℕ → ℕ) → StaysBelow n source → IsPass n (rearranged n source)
rearranged_pass n source stays = record {
  past = rearranged_past n source;
  reads = λ l m e k h.
      rearranged_in n source l k h ∙ e (source k) (stays k h) ∙ sym (rearranged_in n source m k h);
}

module _ (f : Line → Line) (m n : ℕ) (source : ℕ → ℕ) (pass : IsPass m f) (stays : StaysBelow n source)
    (c : Cells) where
  rows_first : Cells
  rows_first = on_rows (rearranged n source) m c

  moved_in : (x k : ℕ) → x < n → k < m → rows_first x k ≡ c (source x) k
  unfolding rows_first
  moved_in x k h lt = row_in (rearranged n source) m c x k lt ∙ rearranged_in n source (λ j. c j k) x h

  moved_past : (x k : ℕ) → n ≤ x → rows_first x k ≡ c x k
  unfolding rows_first
  moved_past x k h = grind (arith, row_in, rearranged_past, row_out)

  at_place : (x y : ℕ) → (x < n) ⊎ (n ≤ x) → (y < m) ⊎ (m ≤ y)
      → on_columns f n rows_first x y ≡ on_rows (rearranged n source) m (on_columns f n c) x y
  unfolding rows_first
  at_place x y h g =
      let past : LeavesPast m f = pass.past in
      let reads : ReadsBelow m f = pass.reads in
      grind (
        arith,
        column_in,
        rows_first,
        moved_in,
        row_in,
        rearranged_in,
        past,
        row_out,
        column_out,
        moved_past,
        rearranged_past,
      )

  -- rows may be rearranged before the columns or after them
  pub on_columns-rearranged : on_columns f n (on_rows (rearranged n source) m c)
      ≡ on_rows (rearranged n source) m (on_columns f n c)
  unfolding rows_first
  on_columns-rearranged = fun_ext (λ x. fun_ext (λ y. at_place x y (cases_lt x n) (cases_lt y m)))

-- samples that are changed where they stand
pub on_samples_in : (f : ℤ → ℤ) (wanted : Bool) (n : ℕ) (l : Line) (k : ℕ) → k < n
    → on_samples f wanted n l k ≡ (if wanted then f (l k) else l k)
unfolding on_samples
on_samples_in f wanted n l k h = grind arith

pub on_samples_past : (f : ℤ → ℤ) (wanted : Bool) (n : ℕ) → LeavesPast n (on_samples f wanted n)
unfolding on_samples
on_samples_past f wanted n l k h = grind arith

pub on_samples_pass : (f : ℤ → ℤ) (wanted : Bool) (n : ℕ) → IsPass n (on_samples f wanted n)
unfolding on_samples
on_samples_pass f wanted n = record {
  past = on_samples_past f wanted n;
  reads = λ l m e k h. ap (λ z. if wanted && nat_lt k n then f z else z) (e k h);
}

rows_changed : (f : ℤ → ℤ) (wanted inside above : Bool) (a : ℤ)
    → (if wanted && (inside && above) then f a else a)
    ≡ (if above then (if wanted && inside then f a else a) else a)
rows_changed f wanted inside above a = grind arith

-- the cells of a part of the plane, row by row
pub on_cells_rows : (f : ℤ → ℤ) (wanted : Bool) (width height : ℕ) (c : Cells)
    → on_cells f wanted width height c ≡ on_rows (on_samples f wanted width) height c
unfolding on_cells on_rows on_samples
on_cells_rows f wanted width height c =
    fun_ext (λ x. fun_ext (λ y. rows_changed f wanted (nat_lt x width) (nat_lt y height) (c x y)))
