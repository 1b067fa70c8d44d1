-- Runs that wait: what one more changes, what a slice that comes by itself changes beside them, and what they leave in cells.
use Rattle.std.proofs.Common.{◌≡◌, ◌≢◌, ℕ, suc, zero, ◌+◌, ◌-◌, ◌<◌, ◌≤◌, ◌⊎◌, Bool, true, false, List, [], ◌∷◌, ◌++◌, length, ℤ, Some, None, arith, refl, sym, ap, subst, ◌∙◌, inl, inr, slice_set, length-set, replicate}
use Rattle.std.specs.Prelude.{slice_index_or, Option, Result, Err}
use Rattle.std.specs.Option.{is_some}
use Rattle.std.proofs.lemmas.Bool.{cases_lt, cases_eq}
use Rattle.std.proofs.lemmas.List.{get_or-set_same, get_or-set_other, get_or-replicate, get_or_past, length-replicate, set_comm}
use Rattle.std.proofs.lemmas.List.FromFn.{length-map-range_with_len}
use Rattle.std.proofs.lemmas.List.Sums.{fold-append}
use Rattle.vc_types.specs.declared.refusal.Unsound.{Unsound}
use Rattle.vc_types.specs.declared.video.Component.{Component}
use Rattle.vc_types.specs.declared.video.Component.TheVariants.{Y, C1, C2}
use Rattle.vc_types.specs.Slices.{Coefficients, coefficients_of}
use Rattle.vc_types.specs.Subbands.{slice_count}
use Rattle.vc_types.specs.TransformParameters.{Parameters}
use Rattle.vc_slice.specs.Strips.{strip_slice, strip_slices}
use Rattle.picture_build.specs.declared.builder.NotPut.{NotPut}
use Rattle.picture_build.specs.declared.builder.NotPut.TheVariants as not_put
use Rattle.picture_build.specs.declared.waiting.WaitingRun.{WaitingRun}
use Rattle.picture_build.specs.Kept.{PartPicture, no_slices, slice_that_came, with_slice, with_run, IsKept, FillsRun}
use Rattle.picture_build.specs.Marks.{MarksRun, MarksRuns, AreInside}
use Rattle.picture_build.specs.Puts.{Puts}
use Rattle.picture_build.specs.Waiting.{with_waiting, with_runs, IsWaitingRun, AreWaitingRuns, MayCome, MayAllCome, AreWaiting, FillsRuns}
use Rattle.picture_build.proofs.KeptRuns.{run-parameters, run-length, run-off, run-on, run-inside, seen_run, kept_seen}
use Rattle.picture_build.proofs.SeenSlices.{seen}

-- the slices of a run
abbrev cuts : PartPicture → WaitingRun → List Coefficients
cuts picture run = strip_slices picture.parameters run.first run.count run.strip

cuts-count : (picture : PartPicture) (run : WaitingRun) → length (strip_slices picture.parameters run.first run.count run.strip) ≡ run.count
cuts-count picture run = length-map-range_with_len (strip_slice picture.parameters run.first run.count run.strip) run.first run.count

pub runs-parameters : (picture : PartPicture) (runs : List WaitingRun) → (with_runs picture runs).parameters ≡ picture.parameters
runs-parameters picture [] = refl
runs-parameters picture (run ∷ runs) = runs-parameters (with_waiting picture run) runs ∙ run-parameters picture run.first (cuts picture run)

pub runs-length : (picture : PartPicture) (runs : List WaitingRun) → length (with_runs picture runs).slices ≡ length picture.slices
runs-length picture [] = refl
runs-length picture (run ∷ runs) = runs-length (with_waiting picture run) runs ∙ run-length picture run.first (cuts picture run)

-- each is a run of the plan
pub runs-of : (picture : PartPicture) (runs : List WaitingRun) → MayAllCome picture runs → AreWaitingRuns picture.parameters runs
unfolding MayAllCome
runs-of picture [] all k d below = absurd (omega (arith, below))
runs-of picture (run ∷ runs) all zero d below = all.0.is_run
runs-of picture (run ∷ runs) all (suc k) d below =
    subst (λ (q : Parameters). IsWaitingRun q (slice_index_or runs k d)) (run-parameters picture run.first (cuts picture run))
    (runs-of (with_waiting picture run) runs all.1 k d (omega (arith, below)))

pub runs-inside : (p : Parameters) (runs : List WaitingRun) (len : ℕ) → len ≡ slice_count p → AreWaitingRuns p runs → AreInside len runs
runs-inside p runs len all of_plan k d below =
    let run = slice_index_or runs k d in
    let inside = run-inside p run.first run.count (of_plan k d below).run in
    omega (arith, inside, all)

-- ---- one more at the end

pub may-more : (picture : PartPicture) (runs : List WaitingRun) (run : WaitingRun) → MayAllCome picture runs → MayCome (with_runs picture runs) run → MayAllCome picture (runs ++ run ∷ [])
unfolding MayAllCome
may-more picture [] run all one = (one, tt)
may-more picture (first ∷ runs) run all one = (all.0, may-more (with_waiting picture first) runs run all.1 one)

pub runs-more : (picture : PartPicture) (runs : List WaitingRun) (run : WaitingRun) → with_runs picture (runs ++ run ∷ []) ≡ with_runs (with_runs picture runs) (run ∷ [])
runs-more picture runs run = fold-append with_waiting picture runs (run ∷ [])

pub fills-more : (p : Parameters) (c : Component) (runs : List WaitingRun) (run : WaitingRun) (old mid new : List ℤ)
    → FillsRuns p c runs old mid → FillsRun p c run.first run.count (coefficients_of run.strip c) mid new → FillsRuns p c (runs ++ run ∷ []) old new
unfolding FillsRuns
fills-more p c [] run old mid new before one = (new, subst (λ (cells : List ℤ). FillsRun p c run.first run.count (coefficients_of run.strip c) cells new) before one, refl)
fills-more p c (first ∷ runs) run old mid new before one = (before.0, before.1, fills-more p c runs run before.0 mid new before.2 one)

pub fills-length : (p : Parameters) (c : Component) (runs : List WaitingRun) (old new : List ℤ) → FillsRuns p c runs old new → length new ≡ length old
unfolding FillsRuns
fills-length p c [] old new same = ap length same
fills-length p c (run ∷ runs) old new filled = fills-length p c runs filled.0 new filled.2 ∙ filled.1.only.length

pub fills-none : (p : Parameters) (c : Component) (old : List ℤ) → FillsRuns p c [] old old
unfolding FillsRuns
fills-none p c old = refl

pub marks-more : (runs : List WaitingRun) (run : WaitingRun) (old mid new : List Bool) → MarksRuns runs old mid → MarksRun run.first run.count mid new → MarksRuns (runs ++ run ∷ []) old new
unfolding MarksRuns
marks-more [] run old mid new before one = (new, subst (λ (came : List Bool). MarksRun run.first run.count came new) before one, refl)
marks-more (first ∷ runs) run old mid new before one = (before.0, before.1, marks-more runs run before.0 mid new before.2 one)

pub marks-length : (runs : List WaitingRun) (old new : List Bool) → MarksRuns runs old new → length new ≡ length old
unfolding MarksRuns
marks-length [] old new same = ap length same
marks-length (run ∷ runs) old new marked = marks-length runs marked.0 new marked.2 ∙ marked.1.length

pub marks-none : (old : List Bool) → MarksRuns [] old old
unfolding MarksRuns
marks-none old = refl

-- ---- runs that come to their places

module _ (p : Parameters) (some_across : 0 < p.slices_x) (some_down : 0 < p.slices_y) (room : ℕ) where
  pub runs-placed : (runs : List WaitingRun) (came came2 : List Bool) (y c1 c2 y2 c12 c22 : List ℤ) → IsKept p came y c1 c2 room → MayAllCome (seen p came y c1 c2) runs
      → FillsRuns p Y runs y y2 → FillsRuns p C1 runs c1 c12 → FillsRuns p C2 runs c2 c22 → MarksRuns runs came came2
      → IsKept p came2 y2 c12 c22 room × (seen p came2 y2 c12 c22 ≡ with_runs (seen p came y c1 c2) runs)
  unfolding MayAllCome FillsRuns MarksRuns
  runs-placed [] came came2 y c1 c2 y2 c12 c22 kept all fy f1 f2 marked = (
    subst (λ (bs : List Bool). IsKept p bs y2 c12 c22 room) (sym marked)
        (subst (λ (zs : List ℤ). IsKept p came zs c12 c22 room) (sym fy)
        (subst (λ (zs : List ℤ). IsKept p came y zs c22 room) (sym f1)
        (subst (λ (zs : List ℤ). IsKept p came y c1 zs room) (sym f2) kept))),
    ap (λ (bs : List Bool). seen p bs y2 c12 c22) marked
        ∙ ap (λ (zs : List ℤ). seen p came zs c12 c22) fy
        ∙ ap (λ (zs : List ℤ). seen p came y zs c22) f1
        ∙ ap (λ (zs : List ℤ). seen p came y c1 zs) f2,
  )
  runs-placed (run ∷ runs) came came2 y c1 c2 y2 c12 c22 kept all fy f1 f2 marked =
      let now : PartPicture = seen p came y c1 c2 in
      let one = all.0 in
      let is = seen_run p some_across some_down came y c1 c2 room kept now refl run.first run.count one.is_run.run one.once
      marked.0 fy.0 f1.0 f2.0 run.strip fy.1 f1.1 f2.1 marked.1.on marked.1.off marked.1.length in
      let still = kept_seen p some_across some_down came y c1 c2 room kept now refl run.first run.count one.is_run.run one.once
      marked.0 fy.0 f1.0 f2.0 run.strip fy.1 f1.1 f2.1 marked.1.on marked.1.off marked.1.length one.sound room refl in
      let rest = runs-placed runs marked.0 came2 fy.0 f1.0 f2.0 y2 c12 c22 still (subst (λ (q : PartPicture). MayAllCome q runs) (sym is) all.1) fy.2 f1.2 f2.2 marked.2 in
      (rest.0, rest.1 ∙ ap (λ (q : PartPicture). with_runs q runs) is)

-- ---- a slice that comes by itself, beside runs that wait

-- it is a slice of none of these runs
pub IsApart : ℕ → List WaitingRun → Type 0
IsApart n [] = Unit {0}
IsApart n (run ∷ runs) = ((n < run.first) ⊎ (run.first + run.count ≤ n)) × IsApart n runs

slices_as : PartPicture → List (Option Coefficients) → PartPicture
slices_as picture slices = record { parameters = picture.parameters; slices = slices }

swap-slices : (picture : PartPicture) (n m : ℕ) (s t : Coefficients) → n ≢ m → with_slice (with_slice picture n s) m t ≡ with_slice (with_slice picture m t) n s
unfolding slices_as
swap-slices picture n m s t other = ap (slices_as picture) (set_comm picture.slices n m (Some s) (Some t) other)

swap-run : (picture : PartPicture) (first : ℕ) (slices : List Coefficients) (n : ℕ) (s : Coefficients) → (n < first) ⊎ (first + length slices ≤ n)
    → with_run (with_slice picture n s) first slices ≡ with_slice (with_run picture first slices) n s
unfolding with_run
swap-run picture first [] n s apart = refl
swap-run picture first (t ∷ slices) n s (inl low) =
    ap (λ (q : PartPicture). with_run q (first + 1) slices) (swap-slices picture n first s t (λ e. omega (arith, low, e)))
    ∙ swap-run (with_slice picture first t) (first + 1) slices n s (inl (omega (arith, low)))
swap-run picture first (t ∷ slices) n s (inr high) =
    ap (λ (q : PartPicture). with_run q (first + 1) slices) (swap-slices picture n first s t (λ e. omega (arith, high, e)))
    ∙ swap-run (with_slice picture first t) (first + 1) slices n s (inr (omega (arith, high)))

swap-waiting : (picture : PartPicture) (run : WaitingRun) (n : ℕ) (s : Coefficients) → (n < run.first) ⊎ (run.first + run.count ≤ n)
    → with_waiting (with_slice picture n s) run ≡ with_slice (with_waiting picture run) n s
swap-waiting picture run n s apart =
    swap-run picture run.first (cuts picture run) n s (subst (λ (count : ℕ). (n < run.first) ⊎ (run.first + count ≤ n)) (sym (cuts-count picture run)) apart)

-- the slice may as well come first
pub swap-runs : (picture : PartPicture) (runs : List WaitingRun) (n : ℕ) (s : Coefficients) → IsApart n runs → with_runs (with_slice picture n s) runs ≡ with_slice (with_runs picture runs) n s
unfolding IsApart
swap-runs picture [] n s apart = refl
swap-runs picture (run ∷ runs) n s apart =
    ap (λ (q : PartPicture). with_runs q runs) (swap-waiting picture run n s apart.0)
    ∙ swap-runs (with_waiting picture run) runs n s apart.1

-- and the runs may come still
pub still-may : (picture : PartPicture) (runs : List WaitingRun) (n : ℕ) (s : Coefficients) → IsApart n runs → MayAllCome picture runs → MayAllCome (with_slice picture n s) runs
unfolding IsApart MayAllCome
still-may picture [] n s apart all = tt
still-may picture (run ∷ runs) n s apart all =
    let one = all.0 in (
      record {
        is_run = one.is_run;
        once = λ k h. get_or-set_other picture.slices n (run.first + k) (Some s) None (λ e. away apart.0 k h e) ∙ one.once k h;
        sound = one.sound;
      },
      subst (λ (q : PartPicture). MayAllCome q runs) (sym (swap-waiting picture run n s apart.0)) (still-may (with_waiting picture run) runs n s apart.1 all.1),
    )
  where
    away : (n < run.first) ⊎ (run.first + run.count ≤ n) → (k : ℕ) → k < run.count → run.first + k ≡ n → ⊥
    away (inl low) k h e = omega (arith, low, e)
    away (inr high) k h e = omega (arith, high, h, e)

-- a slice that isn't there once the runs have come is none of theirs, and isn't there before
module _ (picture : PartPicture) (run : WaitingRun) (long : length picture.slices ≡ slice_count picture.parameters) (one : MayCome picture run) (n : ℕ) where
  within : run.first + run.count ≤ length picture.slices
  within = (let inside = run-inside picture.parameters run.first run.count one.is_run.run in omega (arith, inside, long))

  pub run-leaves : (n < run.first) ⊎ (run.first + run.count ≤ n) → slice_that_came (with_waiting picture run) n ≡ slice_that_came picture n
  run-leaves apart = run-off picture run.first (cuts picture run) n (subst (λ (count : ℕ). (n < run.first) ⊎ (run.first + count ≤ n)) (sym (cuts-count picture run)) apart)

  pub run-brings : (k : ℕ) → k < run.count → is_some (slice_that_came (with_waiting picture run) (run.first + k)) ≡ true
  run-brings k h =
      let count = cuts-count picture run in
      let d : Coefficients = strip_slice picture.parameters run.first run.count run.strip 0 in
      ap (λ (o : Option Coefficients). is_some o) (run-on picture run.first (cuts picture run) k d (omega (arith, count, h)) (omega (arith, count, within)))

  pub beside : slice_that_came (with_waiting picture run) n ≡ None → (n < run.first) ⊎ (run.first + run.count ≤ n)
  beside none = elim (cases_lt n run.first) [
    | inl low ↦ inl low
    | inr past ↦ elim (cases_lt n (run.first + run.count)) [
      | inl inside ↦ absurd (
          let k = n - run.first in
          let at : run.first + k ≡ n = omega (arith, past) in
          let some : is_some (slice_that_came (with_waiting picture run) n) ≡ true =
          subst (λ (m : ℕ). is_some (slice_that_came (with_waiting picture run) m) ≡ true) at (run-brings k (omega (arith, past, inside))) in
          let both : true ≡ false = sym some ∙ ap (λ (o : Option Coefficients). is_some o) none in cc)
      | inr high ↦ inr high
    ]
  ]

pub none-before : (picture : PartPicture) (runs : List WaitingRun) (n : ℕ) → length picture.slices ≡ slice_count picture.parameters → MayAllCome picture runs
    → slice_that_came (with_runs picture runs) n ≡ None → IsApart n runs × (slice_that_came picture n ≡ None)
unfolding IsApart MayAllCome
none-before picture [] n long all none = (tt, none)
none-before picture (run ∷ runs) n long all none =
    let still : length (with_waiting picture run).slices ≡ slice_count (with_waiting picture run).parameters =
    run-length picture run.first (cuts picture run) ∙ long ∙ ap slice_count (sym (run-parameters picture run.first (cuts picture run))) in
    let later = none-before (with_waiting picture run) runs n still all.1 none in
    let apart = beside picture run long all.0 n later.1 in
    ((apart, later.0), sym (run-leaves picture run long all.0 n apart) ∙ later.1)

-- ---- what is true of a builder

pub waiting-none : (p : Parameters) (came : List Bool) → came ≡ replicate (slice_count p) false → AreWaiting (no_slices p) [] came
unfolding MayAllCome
waiting-none p came none = record {
  slices = length-replicate (slice_count p) None;
  entries = ap length none ∙ length-replicate (slice_count p) false;
  may_come = tt;
  marked = λ n. ap (λ (bs : List Bool). slice_index_or bs n false) none ∙ each n;
}
  where
    each : (n : ℕ) → slice_index_or (replicate (slice_count p) false) n false ≡ is_some (slice_that_came (no_slices p) n)
    each n = elim (cases_lt n (slice_count p)) [
      | inl lt ↦ get_or-replicate (slice_count p) n false false lt ∙ sym (ap (λ (o : Option Coefficients). is_some o) (get_or-replicate (slice_count p) n None None lt))
      | inr ge ↦ (
          let short = length-replicate (slice_count p) false in
          let few : length (no_slices p).slices ≡ slice_count p = length-replicate (slice_count p) None in
          get_or_past (replicate (slice_count p) false) n false (omega (arith, short, ge))
          ∙ sym (ap (λ (o : Option Coefficients). is_some o) (get_or_past (no_slices p).slices n None (omega (arith, few, ge)))))
    ]

module _ (placed : PartPicture) (runs : List WaitingRun) (came : List Bool) (waiting : AreWaiting placed runs came) where
  -- a run more
  module _ (run : WaitingRun) (may : MayCome (with_runs placed runs) run) (came2 : List Bool) (marks : MarksRun run.first run.count came came2) where
    all-long : length (with_runs placed runs).slices ≡ slice_count (with_runs placed runs).parameters
    all-long = runs-length placed runs ∙ waiting.slices ∙ ap slice_count (sym (runs-parameters placed runs))

    pub waiting-more : AreWaiting placed (runs ++ run ∷ []) came2
    waiting-more = record {
      slices = waiting.slices;
      entries = marks.length ∙ waiting.entries;
      may_come = may-more placed runs run waiting.may_come may;
      marked = λ n. each n ∙ ap (λ (q : PartPicture). is_some (slice_that_came q n)) (sym (runs-more placed runs run));
    }
      where
        apart : (n : ℕ) → (n < run.first) ⊎ (run.first + run.count ≤ n) → slice_index_or came2 n false ≡ is_some (slice_that_came (with_waiting (with_runs placed runs) run) n)
        apart n out = marks.off n out ∙ waiting.marked n ∙ ap (λ (o : Option Coefficients). is_some o) (sym (run-leaves (with_runs placed runs) run all-long may n out))

        each : (n : ℕ) → slice_index_or came2 n false ≡ is_some (slice_that_came (with_waiting (with_runs placed runs) run) n)
        each n = elim (cases_lt n run.first) [
          | inl low ↦ apart n (inl low)
          | inr past ↦ elim (cases_lt n (run.first + run.count)) [
            | inl inside ↦ (
                let k = n - run.first in
                let at : run.first + k ≡ n = omega (arith, past) in
                let below : k < run.count = omega (arith, past, inside) in
                subst (λ (m : ℕ). slice_index_or came2 m false ≡ is_some (slice_that_came (with_waiting (with_runs placed runs) run) m)) at
                (marks.on k below ∙ sym (run-brings (with_runs placed runs) run all-long may n k below)))
            | inr high ↦ apart n (inr high)
          ]
        ]

  -- the runs have come to their places
  pub waiting-placed : AreWaiting (with_runs placed runs) [] came
  unfolding MayAllCome
  waiting-placed = record {
    slices = runs-length placed runs ∙ waiting.slices ∙ ap slice_count (sym (runs-parameters placed runs));
    entries = waiting.entries ∙ ap slice_count (sym (runs-parameters placed runs));
    may_come = tt;
    marked = waiting.marked;
  }

  -- a slice more, by itself
  module _ (n : ℕ) (in_plan : n < slice_count (with_runs placed runs).parameters) (once : slice_that_came (with_runs placed runs) n ≡ None) where
    pub slice-apart : IsApart n runs
    slice-apart = (none-before placed runs n waiting.slices waiting.may_come once).0

    pub slice-once : slice_that_came placed n ≡ None
    slice-once = (none-before placed runs n waiting.slices waiting.may_come once).1

    pub slice-in_plan : n < slice_count placed.parameters
    slice-in_plan = subst (λ (p : Parameters). n < slice_count p) (runs-parameters placed runs) in_plan

    pub slice-entry : n < length came
    slice-entry = omega (arith, waiting.entries, slice-in_plan)

    pub waiting-slice : (s : Coefficients) → AreWaiting (with_slice placed n s) runs (slice_set came n true)
    waiting-slice s = record {
      slices = length-set placed.slices n (Some s) ∙ waiting.slices;
      entries = length-set came n true ∙ waiting.entries;
      may_come = still-may placed runs n s slice-apart waiting.may_come;
      marked = λ m. each m ∙ ap (λ (q : PartPicture). is_some (slice_that_came q m)) (sym (swap-runs placed runs n s slice-apart));
    }
      where
        long : n < length (with_runs placed runs).slices
        long = (let same = runs-length placed runs in omega (arith, same, waiting.slices, slice-in_plan))

        each : (m : ℕ) → slice_index_or (slice_set came n true) m false ≡ is_some (slice_that_came (with_slice (with_runs placed runs) n s) m)
        each m = elim (cases_eq m n) [
          | inl e ↦ subst (λ (k : ℕ). slice_index_or (slice_set came n true) k false ≡ is_some (slice_that_came (with_slice (with_runs placed runs) n s) k)) (sym e)
              (get_or-set_same came n true false slice-entry ∙ sym (ap (λ (o : Option Coefficients). is_some o) (get_or-set_same (with_runs placed runs).slices n (Some s) None long)))
          | inr ne ↦ (
              get_or-set_other came n m true false ne ∙ waiting.marked m
              ∙ ap (λ (o : Option Coefficients). is_some o) (sym (get_or-set_other (with_runs placed runs).slices n m (Some s) None ne)))
        ]

-- ---- as a caller sees it

-- a picture that begins
module _ (p : Parameters) (placed : PartPicture) (runs : List WaitingRun) (came : List Bool) (n : ℕ) (begun : placed ≡ no_slices p) (none : runs ≡ []) (marks : came ≡ replicate n false) (all : n ≡ slice_count p) where
  pub waiting-begun : AreWaiting placed runs came
  waiting-begun =
      subst (λ (q : PartPicture). AreWaiting q runs came) (sym begun)
      (subst (λ (rs : List WaitingRun). AreWaiting (no_slices p) rs came) (sym none)
      (waiting-none p came (marks ∙ ap (λ (m : ℕ). replicate m false) all)))

  pub seen-begun : with_runs placed runs ≡ no_slices p
  seen-begun = ap (λ (q : PartPicture). with_runs q runs) begun ∙ ap (λ (rs : List WaitingRun). with_runs (no_slices p) rs) none

module _ (placed : PartPicture) (runs : List WaitingRun) (came : List Bool) (waiting : AreWaiting placed runs came) (now : PartPicture) (view : with_runs placed runs ≡ now) where
  pub seen-parameters : placed.parameters ≡ now.parameters
  seen-parameters = sym (runs-parameters placed runs) ∙ ap (λ (q : PartPicture). q.parameters) view

  pub seen-count : length came ≡ slice_count now.parameters
  seen-count = waiting.entries ∙ ap slice_count seen-parameters

  pub seen-marked : (n : ℕ) → slice_index_or came n false ≡ is_some (slice_that_came now n)
  seen-marked n = waiting.marked n ∙ ap (λ (q : PartPicture). is_some (slice_that_came q n)) view

  -- all runs come to their places
  module _ (placed2 : PartPicture) (all : placed2 ≡ with_runs placed runs) (runs2 : List WaitingRun) (none : runs2 ≡ []) where
    pub all-placed : AreWaiting placed2 runs2 came
    all-placed =
        subst (λ (rs : List WaitingRun). AreWaiting placed2 rs came) (sym none)
        (subst (λ (q : PartPicture). AreWaiting q [] came) (sym all) (waiting-placed placed runs came waiting))

    pub seen-all : with_runs placed2 runs2 ≡ now
    seen-all = ap (λ (rs : List WaitingRun). with_runs placed2 rs) none ∙ all ∙ view

  -- a slice by itself
  module _ (n : ℕ) (in_plan : n < slice_count now.parameters) (once : slice_that_came now n ≡ None) where
    own-in_plan : n < slice_count (with_runs placed runs).parameters
    own-in_plan = subst (λ (q : PartPicture). n < slice_count q.parameters) (sym view) in_plan

    own-once : slice_that_came (with_runs placed runs) n ≡ None
    own-once = subst (λ (q : PartPicture). slice_that_came q n ≡ None) (sym view) once

    pub seen-in_plan : n < slice_count placed.parameters
    seen-in_plan = slice-in_plan placed runs came waiting n own-in_plan own-once

    pub seen-once : slice_that_came placed n ≡ None
    seen-once = slice-once placed runs came waiting n own-in_plan own-once

    pub seen-entry : n < length came
    seen-entry = slice-entry placed runs came waiting n own-in_plan own-once

    module _ (s : Coefficients) (placed2 : PartPicture) (is : placed2 ≡ with_slice placed n s) where
      pub seen-slice : with_runs placed2 runs ≡ with_slice now n s
      seen-slice =
          ap (λ (q : PartPicture). with_runs q runs) is
          ∙ swap-runs placed runs n s (slice-apart placed runs came waiting n own-in_plan own-once)
          ∙ ap (λ (q : PartPicture). with_slice q n s) view

      pub slice-waiting : AreWaiting placed2 runs (slice_set came n true)
      slice-waiting = subst (λ (q : PartPicture). AreWaiting q runs (slice_set came n true)) (sym is) (waiting-slice placed runs came waiting n own-in_plan own-once s)

    -- or a refusal
    module _ (decoded : Result Coefficients Unsound) (placed2 : PartPicture) (why : NotPut) (refused : Puts decoded n placed placed2 (Err why)) where
      same : placed2 ≡ placed
      same = by why refused
        where
          by : (why : NotPut) → Puts decoded n placed placed2 (Err why) → placed2 ≡ placed
          by (not_put.Unsound reason) h = h.1
          by not_put.Wide h = h

      pub seen-refused : Puts decoded n now (with_runs placed2 runs) (Err why)
      seen-refused = by why refused
        where
          by : (why : NotPut) → Puts decoded n placed placed2 (Err why) → Puts decoded n now (with_runs placed2 runs) (Err why)
          by (not_put.Unsound reason) h = (h.0, ap (λ (q : PartPicture). with_runs q runs) same ∙ view)
          by not_put.Wide h = ap (λ (q : PartPicture). with_runs q runs) same ∙ view

      pub refused-waiting : AreWaiting placed2 runs came
      refused-waiting = subst (λ (q : PartPicture). AreWaiting q runs came) (sym same) waiting

  -- a run
  module _ (run : WaitingRun) (may : MayCome now run) (came2 : List Bool) (marks : MarksRun run.first run.count came came2) where
    own-may : MayCome (with_runs placed runs) run
    own-may = subst (λ (q : PartPicture). MayCome q run) (sym view) may

    -- it waits
    module _ (runs2 : List WaitingRun) (more : runs2 ≡ runs ++ run ∷ []) where
      pub run-waiting : AreWaiting placed runs2 came2
      run-waiting = subst (λ (rs : List WaitingRun). AreWaiting placed rs came2) (sym more) (waiting-more placed runs came waiting run own-may came2 marks)

      pub seen-run : with_runs placed runs2 ≡ with_waiting now run
      seen-run =
          ap (λ (rs : List WaitingRun). with_runs placed rs) more ∙ runs-more placed runs run
          ∙ ap (λ (q : PartPicture). with_waiting q run) view

    -- all runs come to their places, and then this one
    module _ (mid : PartPicture) (all : mid ≡ with_runs placed runs) where
      pub may-follow : MayAllCome mid (run ∷ [])
      unfolding MayAllCome
      may-follow = (subst (λ (q : PartPicture). MayCome q run) (sym all) own-may, tt)

      module _ (placed2 : PartPicture) (is : placed2 ≡ with_runs mid (run ∷ [])) (runs2 : List WaitingRun) (none : runs2 ≡ []) where
        last-is : placed2 ≡ with_runs placed (runs ++ run ∷ [])
        last-is = is ∙ ap (λ (q : PartPicture). with_runs q (run ∷ [])) all ∙ sym (runs-more placed runs run)

        pub run-placed : AreWaiting placed2 runs2 came2
        run-placed =
            subst (λ (rs : List WaitingRun). AreWaiting placed2 rs came2) (sym none)
            (subst (λ (q : PartPicture). AreWaiting q [] came2) (sym last-is)
            (waiting-placed placed (runs ++ run ∷ []) came2 (waiting-more placed runs came waiting run own-may came2 marks)))

        pub seen-last : with_runs placed2 runs2 ≡ with_waiting now run
        seen-last =
            ap (λ (rs : List WaitingRun). with_runs placed2 rs) none ∙ is
            ∙ ap (λ (q : PartPicture). with_waiting q run) (all ∙ view)
