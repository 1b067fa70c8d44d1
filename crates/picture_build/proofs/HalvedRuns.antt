-- Runs that come to their places in the upper rows of a component's cells and in the lower ones by themselves.
use Rattle.std.proofs.Common.{◌≡◌, ◌≢◌, ℕ, suc, ◌+◌, ◌-◌, ◌*◌, ◌<◌, ◌≤◌, ◌⊎◌, List, [], ◌∷◌, ◌++◌, ℤ, pos, length, arith, refl, sym, ap, subst, ◌∙◌, inl, inr}
use Rattle.std.proofs.lemmas.Bool.{cases_lt}
use Rattle.std.proofs.lemmas.Nat.{mul-add-lt}
use Rattle.std.proofs.lemmas.List.{length-append, get_or_append_left, get_or-append-add, get_or_past}
use Rattle.vc_types.specs.declared.video.Component.{Component}
use Rattle.vc_types.specs.Lifting.{Line, line_of}
use Rattle.vc_types.specs.Slices.{coefficients_of}
use Rattle.vc_types.specs.declared.rect.Rect.{Rect}
use Rattle.vc_types.specs.Subbands.{slice_count, slice_coefficient_count, coefficient_place, padded_width, padded_height, area, place_in}
use Rattle.vc_geometry.specs.CellRects.{cell_number}
use Rattle.vc_types.specs.TransformParameters.{Parameters}
use Rattle.vc_geometry.specs.Runs.{IsRun, strip_number}
use Rattle.vc_geometry.proofs.CoefficientPlaces.{place-inside}
use Rattle.vc_geometry.proofs.RunPlaces.{numbered}
use Rattle.picture_build.specs.declared.waiting.WaitingRun.{WaitingRun}
use Rattle.picture_build.specs.Halves.{LiesAmong, FillsRunIn, FillsRunsIn}
use Rattle.picture_build.specs.Kept.{kept_at, FillsRun}
use Rattle.picture_build.specs.Waiting.{AreWaitingRuns, FillsRuns}

-- cells that begin with this one
abbrev pub line_from : ℕ → List ℤ → Line
line_from base cells m = line_of cells (m - base)

-- a rectangle of cells whose rows are as many as the component's are wide
module _ (stride wide top len : ℕ) (same : stride ≡ wide) (old new numbers : List ℤ) (from : ℕ) (r : Rect) where
  pub seen-on : ((j m : ℕ) → j < area r → m < len → top * stride + m ≡ cell_number stride (place_in r j) → line_of new m ≡ line_of numbers (from + j))
      → (j : ℕ) → j < area r → LiesAmong (top * wide) len (cell_number wide (place_in r j)) → line_from (top * wide) new (cell_number wide (place_in r j)) ≡ line_of numbers (from + j)
  seen-on on j h seen =
      let own : (j m : ℕ) → j < area r → m < len → top * wide + m ≡ cell_number wide (place_in r j) → line_of new m ≡ line_of numbers (from + j) =
      subst (λ (n : ℕ). (j m : ℕ) → j < area r → m < len → top * n + m ≡ cell_number n (place_in r j) → line_of new m ≡ line_of numbers (from + j)) same on in
      own j (cell_number wide (place_in r j) - top * wide) h (omega (arith, seen.from, seen.before)) (omega (arith, seen.from))

  pub seen-off : ((m : ℕ) → ((j : ℕ) → j < area r → top * stride + m ≢ cell_number stride (place_in r j)) → line_of new m ≡ line_of old m)
      → (m : ℕ) → LiesAmong (top * wide) len m → ((j : ℕ) → j < area r → m ≢ cell_number wide (place_in r j)) → line_from (top * wide) new m ≡ line_from (top * wide) old m
  seen-off off m seen none =
      let own : (m : ℕ) → ((j : ℕ) → j < area r → top * wide + m ≢ cell_number wide (place_in r j)) → line_of new m ≡ line_of old m =
      subst (λ (n : ℕ). (m : ℕ) → ((j : ℕ) → j < area r → top * n + m ≢ cell_number n (place_in r j)) → line_of new m ≡ line_of old m) same off in
      own (m - top * wide) (λ j h e. none j h (omega (arith, e, seen.from)))

-- the cells below the first rows
pub rows_below : (rows above width len all : ℕ) → all ≡ rows * width → above ≤ rows → len + above * width ≡ all → (len ≡ (rows - above) * width) × (above * width + len ≡ all)
rows_below rows above width len all whole less is =
    let sum : rows - above + above ≡ rows = omega (arith, less) in
    let split : (rows - above + above) * width ≡ rows * width = ap (λ n. n * width) sum in
    (omega (arith, split, whole, is), omega (arith, split, whole, is))

-- ---- one more at the end

pub fills-in-more : (p : Parameters) (c : Component) (base : ℕ) (runs : List WaitingRun) (run : WaitingRun) (old mid new : List ℤ)
    → FillsRunsIn p c base runs old mid → FillsRunIn p c run.first run.count base (coefficients_of run.strip c) mid new → FillsRunsIn p c base (runs ++ run ∷ []) old new
unfolding FillsRunsIn
fills-in-more p c base [] run old mid new before one = (new, subst (λ (cells : List ℤ). FillsRunIn p c run.first run.count base (coefficients_of run.strip c) cells new) before one, refl)
fills-in-more p c base (first ∷ runs) run old mid new before one = (before.0, before.1, fills-in-more p c base runs run before.0 mid new before.2 one)

pub fills-in-length : (p : Parameters) (c : Component) (base : ℕ) (runs : List WaitingRun) (old new : List ℤ) → FillsRunsIn p c base runs old new → length new ≡ length old
unfolding FillsRunsIn
fills-in-length p c base [] old new same = ap length same
fills-in-length p c base (run ∷ runs) old new filled = fills-in-length p c base runs filled.0 new filled.2 ∙ filled.1.length

pub fills-in-none : (p : Parameters) (c : Component) (base : ℕ) (old : List ℤ) → FillsRunsIn p c base [] old old
unfolding FillsRunsIn
fills-in-none p c base old = refl

-- ---- both halves

upper_line : (u l : List ℤ) (m : ℕ) → m < length u → line_of (u ++ l) m ≡ line_of u (m - 0)
upper_line u l m h =
    let same : m ≡ m - 0 = omega arith in
    get_or_append_left u l (pos 0) m h ∙ ap (line_of u) same

lower_line : (u l : List ℤ) (m n : ℕ) → n ≡ length u → n ≤ m → line_of (u ++ l) m ≡ line_of l (m - n)
lower_line u l m n same h =
    let at : m ≡ length u + (m - n) = omega (arith, same, h) in
    ap (line_of (u ++ l)) at ∙ get_or-append-add u l (m - n) (pos 0)

module _ (p : Parameters) (c : Component) (some_across : 0 < p.slices_x) (n : ℕ) where
  kept_inside : (s i : ℕ) → s < slice_count p → i < slice_coefficient_count p c s → kept_at p c s i < padded_height p c * padded_width p c
  kept_inside s i hs hi =
      let inside = place-inside p c some_across s i hs hi in
      let below = mul-add-lt (coefficient_place p c s i).1 (padded_width p c) (coefficient_place p c s i).0 (padded_height p c) inside.1 inside.0 in
      omega (arith, below)

  -- of a run
  module _ (first count : ℕ) (run : IsRun p first count) (strip u u2 l l2 : List ℤ) (upper : n ≡ length u) (all : length u + length l ≡ padded_height p c * padded_width p c)
      (up : FillsRunIn p c first count 0 strip u u2) (low : FillsRunIn p c first count n strip l l2) where
    lower : n ≡ length u2
    lower = upper ∙ sym up.length

    both-others : (m : ℕ) → ((k i : ℕ) → k < count → i < slice_coefficient_count p c (first + k) → m ≢ kept_at p c (first + k) i) → line_of (u2 ++ l2) m ≡ line_of (u ++ l) m
    both-others m none = elim (cases_lt m n) [
      | inl lt ↦ (
          let here : LiesAmong 0 (length u) m = record { from = omega arith; before = omega (arith, lt, upper) } in
          upper_line u2 l2 m (omega (arith, lt, lower)) ∙ up.others m here none ∙ sym (upper_line u l m (omega (arith, lt, upper))))
      | inr ge ↦ lower_line u2 l2 m n lower ge ∙ behind (cases_lt m (n + length l)) ge ∙ sym (lower_line u l m n upper ge)
    ]
      where
        behind : (m < n + length l) ⊎ (n + length l ≤ m) → n ≤ m → line_of l2 (m - n) ≡ line_of l (m - n)
        behind (inl lt) ge = low.others m (record { from = ge; before = lt }) none
        behind (inr past) ge =
            get_or_past l2 (m - n) (pos 0) (omega (arith, low.length, past)) ∙ sym (get_or_past l (m - n) (pos 0) (omega (arith, past)))

    both-own : (k i : ℕ) → k < count → i < slice_coefficient_count p c (first + k) → line_of (u2 ++ l2) (kept_at p c (first + k) i) ≡ line_of strip (strip_number p c first count (first + k) i)
    both-own k i hk hi = elim (cases_lt (kept_at p c (first + k) i) n) [
      | inl lt ↦ (
          let here : LiesAmong 0 (length u) (kept_at p c (first + k) i) = record { from = omega arith; before = omega (arith, lt, upper) } in
          upper_line u2 l2 (kept_at p c (first + k) i) (omega (arith, lt, lower)) ∙ up.own k i hk hi here)
      | inr ge ↦ (
          let inside = kept_inside (first + k) i (numbered p c first count run k hk) hi in
          let here : LiesAmong n (length l) (kept_at p c (first + k) i) = record { from = ge; before = omega (arith, inside, all, upper) } in
          lower_line u2 l2 (kept_at p c (first + k) i) n lower ge ∙ low.own k i hk hi here)
    ]

    pub both-halves : FillsRun p c first count strip (u ++ l) (u2 ++ l2)
    both-halves = record {
      only = record {
        length = (let new = length-append u2 l2 in let old = length-append u l in omega (arith, new, old, up.length, low.length));
        others = both-others;
      };
      own = both-own;
    }

  -- of runs, one after another
  pub all-halves : (runs : List WaitingRun) (u u2 l l2 : List ℤ) → AreWaitingRuns p runs → n ≡ length u → length u + length l ≡ padded_height p c * padded_width p c
      → FillsRunsIn p c 0 runs u u2 → FillsRunsIn p c n runs l l2 → FillsRuns p c runs (u ++ l) (u2 ++ l2)
  unfolding FillsRunsIn FillsRuns
  all-halves [] u u2 l l2 are upper all up low = ap (λ (zs : List ℤ). zs ++ l2) up ∙ ap (λ (zs : List ℤ). u ++ zs) low
  all-halves (run ∷ runs) u u2 l l2 are upper all up low =
      let one = are 0 run (omega arith) in (
        up.0 ++ low.0,
        both-halves run.first run.count one.run (coefficients_of run.strip c) u up.0 l low.0 upper all up.1 low.1,
        all-halves runs up.0 u2 low.0 l2 (λ k d h. are (suc k) d (omega (arith, h))) (upper ∙ sym up.1.length) (let a = up.1.length in let b = low.1.length in omega (arith, a, b, all)) up.2 low.2,
      )
