-- The jobs that a fragment of a session's window offers.
use Rattle.std.proofs.Common.{◌≡◌, ℕ, ◌<◌, Bool, true, false, [], map, Some, None, refl, ap, sym, subst}
use Rattle.std.proofs.Common.{◌∙◌, cond, arith}
use Rattle.std.proofs.lemmas.Option.{none-some, same_Some}
use Rattle.link_model.specs.Session.{Fragment}
use Rattle.link_model.specs.Books.{book_outcome}
use Rattle.link_model.specs.Windows.{Window, book_in, number_by, late_in, opens_picture, rises_to}
use Rattle.link_model.specs.Windows.{window_enters, window_outcome}
use Rattle.link_model.specs.declared.outcome.Outcome.TheVariants.{Late}
use Rattle.link_model.proofs.WindowStands.{late_leaves}
use Rattle.receiver_model.specs.Exchanging.{offered_jobs}
use Rattle.link_gather.specs.NewSlices.{brought_slices}
use Rattle.link_window.specs.Pasts.{IsSessionWindow}
use Rattle.link_window.specs.PictureJobs.{picture_job}
use Rattle.link_window.proofs.BroughtJobs.{brought_are, no_new_jobs}
use Rattle.link_window.proofs.SessionWindows.{enters_early, enters_sound}

is_late : (late : Bool) (n : ℕ) → None ≡ cond late None (Some n) → late ≡ true
is_late true n e = refl
is_late false n e = absurd (none-some n e)

is_early : (late : Bool) (n number : ℕ) → Some number ≡ cond late None (Some n)
    → (late ≡ false) × (number ≡ n)
is_early true n number e = absurd (none-some number (sym e))
is_early false n number e = (refl, same_Some number n e)

module _ (w : Window) (f : Fragment) where
  -- a late one changes nothing, and offers nothing
  module _ (none : None ≡ cond (late_in w (number_by w f.number)) None (Some (number_by w f.number))) where
    late : late_in w (number_by w f.number) ≡ true
    late = is_late (late_in w (number_by w f.number)) (number_by w f.number) none

    pub late_value : window_enters w f ≡ w
    late_value = late_leaves w f late

    pub late_outcome : Late ≡ window_outcome w f
    unfolding window_outcome
    late_outcome = rw late refl

    pub late_offers : [] ≡ offered_jobs w (window_enters w f) f
    unfolding offered_jobs
    late_offers = grind (arith, late, late_leaves, no_new_jobs)

  -- another enters its picture
  module _ (number : ℕ)
      (some : Some number ≡ cond (late_in w (number_by w f.number)) None (Some (number_by w f.number))) where
    early : (late_in w (number_by w f.number) ≡ false) × (number ≡ number_by w f.number)
    early = is_early (late_in w (number_by w f.number)) (number_by w f.number) number some

    pub early_outcome : book_outcome (book_in w number) f.part ≡ window_outcome w f
    unfolding window_outcome
    early_outcome = rw early.0 (ap (λ (n : ℕ). book_outcome (book_in w n) f.part) early.1)

    module _ (kept : Window) (is : kept ≡ rises_to (opens_picture w number f.part) number) where
      pub early_value : kept ≡ window_enters w f
      early_value = is ∙ ap (λ (n : ℕ). rises_to (opens_picture w n f.part) n) early.1
          ∙ sym (enters_early w f early.0)

      module _ (sound : IsSessionWindow w.sequence w) (runs : w.is_ended ≡ false) where
        pub early_sound : IsSessionWindow kept.sequence kept
        early_sound = subst (λ (v : Window). IsSessionWindow v.sequence v) (sym early_value)
            (enters_sound w f sound runs)

    pub early_offers : 0 < w.size → w.is_ended ≡ false
        → map (picture_job number) (brought_slices (book_in w number) f.part)
        ≡ offered_jobs w (window_enters w f) f
    early_offers some runs =
        ap (λ n. map (picture_job n) (brought_slices (book_in w n) f.part)) early.1
        ∙ brought_are w f runs some early.0
