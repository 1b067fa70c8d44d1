-- A fragment more in a window: the jobs that it offers are those of the slices that its session's
-- pictures newly keep.
use Rattle.std.proofs.Common.{◌≡◌, ℕ, ◌≤◌, Bool, true, false, refl, ap, sym, ◌∙◌, arith}
use Rattle.std.proofs.Common.{List, [], ◌∷◌, Option, Some, None, inl, inr}
use Rattle.std.specs.Prelude.{◌==◌, ◌&&◌, ◌||◌}
use Rattle.std.specs.List.{last_or}
use Rattle.std.proofs.lemmas.Bool.{cases_Bool, false≢true, leb-true, eq-eqb, or_right}
use Rattle.std.proofs.lemmas.Option.{none-some}
use Rattle.machine_model.specs.Feeders.{is_among}
use Rattle.link_model.specs.Numbers.{base_above, greatest, is_closed, is_late}
use Rattle.link_model.specs.Numbers.{picture_number}
use Rattle.machine_model.specs.Places.{Job}
use Rattle.link_model.specs.Session.{Fragment}
use Rattle.link_model.specs.Windows.{Window, WindowPast, StandsForPast, window_enters, past_enters}
use Rattle.link_model.specs.Windows.{released_up_to}
use Rattle.link_model.proofs.Numbering.{early_enters, early_is, greatest-append}
use Rattle.link_model.proofs.Numbering.{late_changes_nothing}
use Rattle.link_model.proofs.WindowBounds.{opened_at_most}
use Rattle.link_model.proofs.WindowStands.{enters_stands}
use Rattle.receiver_model.specs.Exchanging.{window_job, offered_jobs, is_job_among}
use Rattle.receiver_model.proofs.KeptJobs.{no_job, entered_job, is_forgotten}
use Rattle.receiver_model.proofs.KeptJobs.{window_keeps, unforgotten, forgotten}
use Rattle.receiver_model.proofs.OfferedJobs.{other_parts, closed_later, all_offered, only_offered}
use Rattle.receiver_model.proofs.ReleasedNumbers.{released_opened}

-- ---- numbers up to the last of some

module _ (n bound : ℕ) where
  below_last : (k : ℕ) (ns : List ℕ) → k ≤ bound
      → ((j : ℕ) → is_among ns j ≡ true → j ≤ bound)
      → released_up_to (last_or (Some k) ns) n ≡ true → n ≤ bound
  below_last k [] first rest low = omega (arith, leb-true n k low, first)
  below_last k (j ∷ ns) first rest low = below_last j ns
      (rest j (ap (λ (b : Bool). b || is_among ns j) (eq-eqb j j refl)))
      (λ i there. rest i (or_right (j == i) _ there)) low

  below_all : (ns : List ℕ) → ((j : ℕ) → is_among ns j ≡ true → j ≤ bound)
      → released_up_to (last_or None ns) n ≡ true → n ≤ bound
  below_all [] each low = absurd (false≢true low)
  below_all (k ∷ ns) each low = below_last k ns
      (each k (ap (λ (b : Bool). b || is_among ns k) (eq-eqb k k refl)))
      (λ i there. each i (or_right (k == i) _ there)) low

-- ---- a fragment more

module _ (w : Window) (p : WindowPast) (stands : StandsForPast w p) (runs : p.is_ended ≡ false)
    (f : Fragment) where
  abbrev m : ℕ
  m = picture_number (base_above p.before) p.entries f.number

  abbrev later : WindowPast
  later = past_enters p f

  later_stands : StandsForPast (window_enters w f) later
  later_stands = enters_stands w p stands runs f

  low_is_small : (n : ℕ) → released_up_to (last_or None p.released) n ≡ true
      → n ≤ greatest p.entries
  low_is_small n low = below_all n (greatest p.entries) p.released
      (λ j there. opened_at_most p.entries j (released_opened p stands.in_order j there)) low

  -- the window has the picture of a fragment that isn't late
  stays_here : is_late p.size p.entries m ≡ false → is_forgotten (window_enters w f) later
      later_stands m 0 ≡ false
  unfolding is_closed greatest
  stays_here early = grind (arith, early_enters, early_is, greatest-append, low_is_small)

  abbrev job_before : ℕ → ℕ → Option Job
  job_before n i = entered_job p.sequence p.entries n i

  abbrev job_behind : ℕ → ℕ → Option Job
  job_behind n i = entered_job p.sequence later.entries n i

  -- a slice that is newly kept is of the fragment's picture, which isn't late
  newly_here : (n i : ℕ) (job : Job) → job_before n i ≡ None → job_behind n i ≡ Some job
      → (n ≡ m) × (is_late p.size p.entries m ≡ false)
  newly_here n i job none is = grind (arith, other_parts, late_changes_nothing)

  -- it is offered
  pub newly_offered : (n i : ℕ) (job : Job) → job_before n i ≡ None → job_behind n i ≡ Some job
      → is_job_among (offered_jobs w (window_enters w f) f) job ≡ true
  newly_offered n i job none is =
      let here = newly_here n i job none is in
      all_offered w p stands runs f n i job
      (no_job (window_job w n i)
      (λ was at. none-some was (sym none ∙ window_keeps w p stands n i was at)))
      (unforgotten (window_enters w f) later later_stands n i job
      (ap (λ k. is_forgotten (window_enters w f) later later_stands k i) here.0
      ∙ stays_here here.1) is)

  -- and its picture isn't closed
  pub newly_open : 1 ≤ p.size → (n i : ℕ) (job : Job) → job_before n i ≡ None
      → job_behind n i ≡ Some job → is_closed p.size later.entries n ≡ false
  unfolding is_closed greatest
  newly_open some n i job none is =
      grind (arith, early_enters, early_is, greatest-append, newly_here)

  -- nothing else is offered
  pub only_newly : (job : Job) → is_job_among (offered_jobs w (window_enters w f) f) job ≡ true
      → (job_behind job.number job.index ≡ Some job) × (job_before job.number job.index ≡ None)
  only_newly job there =
      let n = job.number in
      let i = job.index in
      let both = only_offered w (window_enters w f) f job there in (
        window_keeps (window_enters w f) later later_stands n i job both.0,
        no_job (job_before n i) (λ was at. elim (cases_Bool (is_forgotten w p stands n i)) [
          | inr stays ↦ none-some was (sym both.1 ∙ unforgotten w p stands n i was stays at)
          | inl gone ↦ none-some job (sym (forgotten (window_enters w f) later later_stands n i
              (by_tests p.is_ended (is_closed p.size p.entries n)
              (is_closed p.size later.entries n) (released_up_to (last_or None p.released) n)
              (closed_later w p stands runs f n) gone)) ∙ both.0)
        ]),
      )
    where
      by_tests : (over closed then low : Bool) → (closed ≡ true → then ≡ true)
          → ((over || closed) && low) ≡ true → ((over || then) && low) ≡ true
      by_tests true closed then low grows e = e
      by_tests false true true low grows e = e
      by_tests false true false low grows e = absurd (false≢true (grows refl))
      by_tests false false then low grows e = absurd (false≢true e)
