-- The jobs of the slices that the pictures of a session keep, by what was entered of it, and those
-- of its window, which has forgotten pictures that are closed and released.
use Rattle.std.proofs.Common.{◌≡◌, ℕ, Bool, true, false, refl, ap, sym, ◌∙◌}
use Rattle.std.proofs.Common.{List, [], ◌∷◌, ◌++◌, Option, Some, None, cond, arith}
use Rattle.std.specs.Prelude.{◌&&◌, ◌||◌, not, filter_map}
use Rattle.std.specs.List.{last_or}
use Rattle.std.specs.Option.{option_and_then}
use Rattle.link_model.specs.Books.{Book, book_of}
use Rattle.machine_model.specs.Feeders.{EnteredSession, entered_session, session_opening}
use Rattle.machine_model.specs.Feeders.{keeps_of, job_by, kept_job}
use Rattle.link_model.specs.Kept.{own}
use Rattle.link_model.specs.Numbers.{Numbered, base_above, has_parts, is_closed, is_opened}
use Rattle.link_model.specs.Numbers.{parts_of}
use Rattle.link_model.specs.Output.{entered_behind, greatest_of}
use Rattle.machine_model.specs.Places.{Job}
use Rattle.link_model.specs.Session.{Part, HeardSession, with_datagram, fragment_in}
use Rattle.link_model.specs.Windows.{Window, WindowPast, StandsForPast, released_up_to}
use Rattle.link_model.proofs.Numbering.{entered_follows}
use Rattle.link_model.proofs.WindowStands.{book_is}
use Rattle.vc_types.specs.SequenceHeader.{Sequence}
use Rattle.receiver_model.specs.Exchanging.{book_job, window_job}
use Rattle.receiver_model.proofs.ReleaseLists.{keeps_opened}
use Rattle.receiver_model.proofs.SessionPictures.{session_last, session_before}
use Rattle.receiver_model.proofs.SliceJobs.{book_job_is}

pub no_job : (o : Option Job) → ((job : Job) → o ≡ Some job → ⊥) → o ≡ None
no_job None never = refl
no_job (Some job) never = absurd (never job refl)

-- ---- by what was entered

abbrev pub entered_job : Sequence → List Numbered → ℕ → ℕ → Option Job
entered_job s es n i = option_and_then (λ kept. job_by kept n i) (own s (parts_of n es))

-- a picture that keeps a slice is opened
pub job_opened : (s : Sequence) (es : List Numbered) (n i : ℕ) (job : Job)
    → entered_job s es n i ≡ Some job → is_opened es n ≡ true
job_opened s es n i job is = grind (arith, keeps_opened)

-- ---- of sessions

module _ (size : ℕ) (n i : ℕ) where
  -- by the session of the picture
  pub session_job : (hs : List HeardSession) (e : EnteredSession)
      → session_opening size hs n ≡ Some e
      → kept_job size hs n i ≡ entered_job e.sequence e.entries n i
  unfolding kept_job
  session_job hs e found = ap (λ (o : Option EnteredSession).
      option_and_then (λ kept. job_by kept n i) (option_and_then (λ e. keeps_of e n) o)) found

  pub same_session_job : (hs gs : List HeardSession)
      → session_opening size hs n ≡ session_opening size gs n
      → kept_job size hs n i ≡ kept_job size gs n i
  unfolding kept_job
  same_session_job hs gs same = ap (λ (o : Option EnteredSession).
      option_and_then (λ kept. job_by kept n i) (option_and_then (λ e. keeps_of e n) o)) same

  -- one that isn't opened keeps none
  pub unopened_job : (hs : List HeardSession) → session_opening size hs n ≡ None
      → kept_job size hs n i ≡ None
  unfolding kept_job
  unopened_job hs none = ap (λ (o : Option EnteredSession).
      option_and_then (λ kept. job_by kept n i) (option_and_then (λ e. keeps_of e n) o)) none

module _ (size : ℕ) (h : HeardSession) (hs : List HeardSession) (n i : ℕ) where
  -- a picture of the last session
  pub last_job : is_opened (entered_behind size hs h) n ≡ true → kept_job size (h ∷ hs) n i
      ≡ entered_job h.session.sequence (entered_behind size hs h) n i
  last_job opened = session_job size n i (h ∷ hs) (entered_session size hs h)
      (session_last size h hs n opened)

  -- and one that isn't its
  pub earlier_job : is_opened (entered_behind size hs h) n ≡ false
      → kept_job size (h ∷ hs) n i ≡ kept_job size hs n i
  earlier_job shut = same_session_job size n i (h ∷ hs) hs (session_before size h hs n shut)

  -- one that isn't opened after a datagram wasn't before
  pub shut_before : (d : List ℕ) → is_opened (entered_behind size hs (with_datagram h d)) n ≡ false
      → is_opened (entered_behind size hs h) n ≡ false
  shut_before d shut =
      let more = (entered_follows (base_above (greatest_of size hs)) size h.fragments
      (filter_map (fragment_in h.session) (d ∷ []))).adds n in
      front (parts_of n (entered_behind size hs h)) more.0 (sym (ap has_parts more.1) ∙ shut)
    where
      front : (parts more : List Part) → has_parts (parts ++ more) ≡ false
          → has_parts parts ≡ false
      front [] more e = refl
      front (part ∷ parts) more e = e

-- ---- of a window

module _ (w : Window) (p : WindowPast) (stands : StandsForPast w p) (n i : ℕ) where
  abbrev pub is_forgotten : Bool
  is_forgotten = (p.is_ended || is_closed p.size p.entries n)
      && released_up_to (last_or None p.released) n

  abbrev its_job : Option Job
  its_job = entered_job p.sequence p.entries n i

  window_job_by : window_job w n i ≡ cond (is_opened p.entries n && not is_forgotten) its_job None
  window_job_by =
      ap (option_and_then (λ (book : Book). book_job book n i)) (book_is w p stands n)
      ∙ by_test (is_opened p.entries n && not is_forgotten)
    where
      by_test : (b : Bool) → option_and_then (λ (book : Book). book_job book n i)
          (cond b (Some (book_of p.sequence (parts_of n p.entries))) None)
          ≡ cond b (entered_job p.sequence p.entries n i) None
      by_test true = book_job_is p.sequence (parts_of n p.entries) n i
      by_test false = refl

  -- what the window has is kept
  pub window_keeps : (job : Job) → window_job w n i ≡ Some job → its_job ≡ Some job
  window_keeps job is = grind (arith, window_job_by)

  -- and it has all that it hasn't forgotten
  pub unforgotten : (job : Job) → is_forgotten ≡ false → its_job ≡ Some job
      → window_job w n i ≡ Some job
  unforgotten job stays is = grind (arith, job_opened, window_job_by)

  pub forgotten : is_forgotten ≡ true → window_job w n i ≡ None
  forgotten gone = grind (arith, window_job_by)
