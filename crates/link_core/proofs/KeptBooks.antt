-- The books of pictures have what the pictures keep.
use Rattle.std.proofs.Common.{◌≡◌, ℕ, ◌<◌, Bool, true, cond, List, [], ◌∷◌, length, Option, Some, arith}
use Rattle.std.proofs.Common.{None, Result, Ok, Err, refl, ap, sym, subst, ◌∙◌}
use Rattle.std.specs.Prelude.{IfOk}
use Rattle.std.specs.Option.{option_and_then, option_map}
use Rattle.std.proofs.lemmas.Option.{same_Some, none-some}
use Rattle.link_model.specs.Books.{Book, book_of, book_by, book_plan, book_slice}
use Rattle.machine_model.specs.Feeders.{EnteredSession, session_opening}
use Rattle.machine_model.specs.Feeders.{job_by, kept_job}
use Rattle.link_model.specs.Kept.{KeptParameters, Own, own, own_slice}
use Rattle.link_model.specs.Numbers.{is_opened, parts_of}
use Rattle.link_model.specs.Session.{HeardSession, Part}
use Rattle.link_model.specs.Windows.{book_at}
use Rattle.link_model.proofs.Bookkeeping.{book_slice_is}
use Rattle.link_model.proofs.Slots.{own_slice_inside}
use Rattle.link_model.proofs.WholeBytes.{own_slice_whole}
use Rattle.link_core.proofs.HeardSessions.{IsFound, session_found}
use Rattle.link_core.specs.Hearing.{SessionWindow, session_windows, AreHeard, session_among, book_among}
use Rattle.link_core.specs.Pictures.{IsPictureBook, job_in_book}
use Rattle.vc_types.specs.PictureBytes.{IsWholeSlice}
use Rattle.vc_types.specs.SequenceHeader.{Sequence}
use Rattle.vc_types.specs.Slices.{slice_length}
use Rattle.vc_types.specs.Subbands.{slice_count}
use Rattle.vc_types.specs.TransformParameters.{Parameters}
use Rattle.vc_types.proofs.WholeSlices.{whole_slice}

-- ---- the book of a picture

abbrev pub entered_book : ℕ → EnteredSession → Book
entered_book n e = book_of e.sequence (parts_of n e.entries)

module _ (size : ℕ) where
  pub opening_opens : (hs : List HeardSession) (n : ℕ) (e : EnteredSession) → session_opening size hs n ≡ Some e → is_opened e.entries n ≡ true
  unfolding session_opening
  opening_opens [] n e found = absurd (none-some e found)
  opening_opens (h ∷ hs) n e found = grind (arith, opening_opens hs n e)

  pub book_among_is : (hs : List HeardSession) (n : ℕ) → book_among (session_windows size hs) n ≡ option_map (entered_book n) (session_opening size hs n)
  book_among_is hs n = by_found (session_among (session_windows size hs) n) (session_opening size hs n) (session_found size hs n) (opening_opens hs n)
    where
      by_found : (o : Option SessionWindow) (p : Option EnteredSession) → IsFound o p → ((e : EnteredSession) → p ≡ Some e → is_opened e.entries n ≡ true)
          → option_and_then (λ (s : SessionWindow). book_at s.window.books n) o ≡ option_map (entered_book n) p
      by_found None None found opens = refl
      by_found (Some s) (Some e) found opens = found.book n ∙ ap (λ (b : Bool). cond b (Some (entered_book n e)) None) (opens e refl)
      by_found None (Some e) found opens = absurd found
      by_found (Some s) None found opens = absurd found

  pub among_is_book : (hs : List HeardSession) (n : ℕ) (book : Book) → book_among (session_windows size hs) n ≡ Some book → IsPictureBook book
  among_is_book hs n book is = grind (arith, book_among_is)

-- what is found among sessions that were heard
pub found_is_book : (ss : List SessionWindow) (n : ℕ) (book : Book) → (size : ℕ) × AreHeard size ss → book_among ss n ≡ Some book → IsPictureBook book
found_is_book ss n book heard is = among_is_book heard.0 heard.1.0 n book (sym (ap (λ (l : List SessionWindow). book_among l n) heard.1.1) ∙ is)

-- ---- jobs

module _ (s : Sequence) (parts : List Part) where
  slice_of_kept : (kept : Own) → own s parts ≡ Some kept → (i : ℕ) → book_slice (book_of s parts) i ≡ own_slice kept i
  slice_of_kept kept is i = book_slice_is s parts i ∙ ap (option_and_then (λ (kept : Own). own_slice kept i)) is

  pub plan_of_kept : (kept : Own) → own s parts ≡ Some kept → book_plan (book_of s parts) ≡ Some kept.plan
  unfolding book_of
  plan_of_kept kept is = ap (λ (o : Option Own). book_plan (book_by s parts o)) is

  pub plan_of_none : own s parts ≡ None → book_plan (book_of s parts) ≡ None
  unfolding book_of
  plan_of_none is = ap (λ (o : Option Own). book_plan (book_by s parts o)) is

  pub book_job_is : (n i : ℕ) → job_in_book (book_of s parts) n i ≡ option_and_then (λ (kept : Own). job_by kept n i) (own s parts)
  book_job_is n i = grind (arith, plan_of_none, plan_of_kept, slice_of_kept)

  -- a slice that is kept is whole, and one of the picture's
  abbrev IsOfPlan : KeptParameters → ℕ → List ℕ → Type 0
  IsOfPlan plan i bytes = IsWholeSlice plan.parameters bytes × (i < slice_count plan.parameters)

  kept_of_plan : (kept : Own) → own s parts ≡ Some kept → (i : ℕ) (bytes : List ℕ) → own_slice kept i ≡ Some bytes → IsOfPlan kept.plan i bytes
  kept_of_plan kept is i bytes slice = grind (arith, own_slice_whole, whole_slice, own_slice_inside)

  slice_of_plan : (plan : KeptParameters) (i : ℕ) (bytes : List ℕ) → book_plan (book_of s parts) ≡ Some plan → book_slice (book_of s parts) i ≡ Some bytes → IsOfPlan plan i bytes
  slice_of_plan plan i bytes planned slice = by_own (own s parts) refl
    where
      by_own : (o : Option Own) → own s parts ≡ o → IsOfPlan plan i bytes
      by_own None is = absurd (none-some plan (sym (plan_of_none is) ∙ planned))
      by_own (Some kept) is = subst (λ (p : KeptParameters). IsOfPlan p i bytes) (same_Some kept.plan plan (sym (plan_of_kept kept is) ∙ planned))
          (kept_of_plan kept is i bytes (sym (slice_of_kept kept is i) ∙ slice))

-- parameters and the bytes of a slice, as a book gives them
module _ (book : Book) (p : Parameters) (n i : ℕ) (bytes : List ℕ)
    (planned : Some p ≡ option_map (λ (plan : KeptParameters). plan.parameters) (book_plan book)) (slice : Some bytes ≡ book_slice book i) where
  pub given_slice : IsPictureBook book → (slice_length p.prefix p.scaler bytes ≡ Some (length bytes)) × (i < slice_count p)
  given_slice is = by_plan (book_plan book) refl planned
    where
      by_plan : (o : Option KeptParameters) → book_plan book ≡ o → Some p ≡ option_map (λ (plan : KeptParameters). plan.parameters) o
          → (slice_length p.prefix p.scaler bytes ≡ Some (length bytes)) × (i < slice_count p)
      by_plan None at e = absurd (none-some p (sym e))
      by_plan (Some plan) at e =
          let same : plan.parameters ≡ p = same_Some plan.parameters p (sym e) in
          subst (λ (p : Parameters). (slice_length p.prefix p.scaler bytes ≡ Some (length bytes)) × (i < slice_count p)) same
          (slice_of_plan is.sequence is.parts plan i bytes (sym (ap book_plan is.is) ∙ at) (sym (ap (λ (b : Book). book_slice b i) is.is) ∙ sym slice))

pub kept_job_is : (size : ℕ) (hs : List HeardSession) (n i : ℕ)
    → option_and_then (λ (b : Book). job_in_book b n i) (book_among (session_windows size hs) n) ≡ kept_job size hs n i
unfolding kept_job
kept_job_is size hs n i = grind (arith, book_among_is, book_job_is)

-- what was found in the sessions
pub job_found : (size : ℕ) (hs : List HeardSession) (n i : ℕ) (ss : List SessionWindow) (o : Option Book)
    → o ≡ book_among ss n → ss ≡ session_windows size hs → option_and_then (λ (b : Book). job_in_book b n i) o ≡ kept_job size hs n i
job_found size hs n i ss o is same = grind (arith, kept_job_is)

-- a result that is told in other words
pub if_ok_is : {X E Y : Type 0} (f : X → Y) (r : Result X E) (a b : Y) → IfOk r (λ x. f x ≡ a) → a ≡ b → IfOk r (λ x. f x ≡ b)
if_ok_is f (Ok x) a b is same = is ∙ same
if_ok_is f (Err e) a b is same = tt

pub if_ok_by : {X E Y : Type 0} (r : Result X E) (f : X → Y) (a b : Y) → IfOk r (λ x. f x ≡ a) → a ≡ b → IfOk r (λ x. f x ≡ b)
if_ok_by r f a b is same = if_ok_is f r a b is same
