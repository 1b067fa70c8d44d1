-- Whether a picture is closed, and whether it is ready, by the windows of the sessions.
use Rattle.std.proofs.Common.{◌≡◌, ℕ, ◌+◌, Bool, true, false, List, [], ◌∷◌, Option, Some, None, arith}
use Rattle.std.proofs.Common.{refl, ap, sym, ◌∙◌}
use Rattle.std.specs.Prelude.{◌||◌, nat_le, is_some}
use Rattle.std.specs.Option.{option_map, option_map_or}
use Rattle.link_model.specs.Books.{Book, book_of}
use Rattle.link_model.specs.Complete.{whole_picture}
use Rattle.machine_model.specs.Feeders.{SliceAnswer, EnteredSession, session_opening}
use Rattle.machine_model.specs.Feeders.{picture_keeps, kept_job, is_ready}
use Rattle.link_model.specs.Kept.{own}
use Rattle.link_model.specs.Numbers.{Numbered, is_closed, is_opened, parts_of}
use Rattle.link_model.specs.Output.{entered_behind, is_opened_in, is_closed_in}
use Rattle.machine_model.specs.Places.{Job}
use Rattle.link_model.specs.Session.{HeardSession, Part}
use Rattle.link_model.specs.Windows.{session_past, window_of}
use Rattle.link_model.proofs.Bookkeeping.{book_whole_is}
use Rattle.machine_model.proofs.PicturesHeard.{session_before, session_opened}
use Rattle.machine_model.proofs.PicturesStay.{kept_slice}
use Rattle.link_core.proofs.KeptBooks.{entered_book, book_among_is, plan_of_kept}
use Rattle.link_core.specs.Hearing.{SessionWindow, session_windows, book_among, closed_among}
use Rattle.link_core.specs.Pictures.{book_ready}
use Rattle.vc_types.specs.SequenceHeader.{Sequence}

-- ---- closed

module _ (size : ℕ) where
  some_opening : (hs : List HeardSession) (n : ℕ) → is_some (session_opening size hs n) ≡ is_opened_in size hs n
  unfolding session_opening
  some_opening [] n = refl
  some_opening (h ∷ hs) n = grind (arith, some_opening hs n)

  some_book : (hs : List HeardSession) (n : ℕ) → is_some (book_among (session_windows size hs) n) ≡ is_opened_in size hs n
  some_book hs n = ap is_some (book_among_is size hs n) ∙ by_opening (session_opening size hs n) ∙ some_opening hs n
    where
      by_opening : (o : Option EnteredSession) → is_some (option_map (entered_book n) o) ≡ is_some o
      by_opening None = refl
      by_opening (Some e) = refl

  module _ (h : HeardSession) (hs : List HeardSession) (n : ℕ) (e : EnteredSession) (found : session_opening size (h ∷ hs) n ≡ Some e) where
    nothing_opened : entered_behind size hs h ≡ [] → is_opened (entered_behind size hs h) n ≡ false
    unfolding parts_of
    nothing_opened none = ap (λ (es : List Numbered). is_opened es n) none

    opened_before : entered_behind size hs h ≡ [] → is_opened_in size hs n ≡ true
    opened_before none = session_opened size hs n e (sym (session_before size hs h n (nothing_opened none)) ∙ found)

    closed_here : is_opened_in size hs n || nat_le (n + size) (window_of (session_past size hs h [])).top ≡ is_opened_in size hs n || is_closed size (entered_behind size hs h) n
    unfolding window_of is_closed
    closed_here = grind (arith, opened_before)

  pub closed_is : (hs : List HeardSession) (n i : ℕ) (job : Job) → kept_job size hs n i ≡ Some job → closed_among size (session_windows size hs) n ≡ is_closed_in size hs n
  closed_is [] n i job kept = refl
  closed_is (h ∷ hs) n i job kept =
      let k = kept_slice size (h ∷ hs) n i job kept in
      ap (λ (b : Bool). b || nat_le (n + size) (window_of (session_past size hs h [])).top) (some_book hs n)
      ∙ closed_here h hs n k.session k.found

-- ---- ready

module _ (decoded : List SliceAnswer) (n : ℕ) where
  pub book_ready_is : (s : Sequence) (parts : List Part) → book_ready decoded n (book_of s parts) ≡ is_ready decoded n (own s parts)
  unfolding whole_picture
  book_ready_is s parts = grind (arith, book_whole_is, plan_of_kept)

  pub ready_is : (size : ℕ) (hs : List HeardSession)
      → option_map_or (book_ready decoded n) (book_among (session_windows size hs) n) true ≡ is_ready decoded n (picture_keeps size hs n)
  ready_is size hs = grind (arith, book_among_is, entered_book, book_ready_is)

pub closed_found : (size : ℕ) (hs : List HeardSession) (n i : ℕ) (job : Job) (ss : List SessionWindow) (b : Bool)
    → b ≡ closed_among size ss n → ss ≡ session_windows size hs → kept_job size hs n i ≡ Some job → b ≡ is_closed_in size hs n
closed_found size hs n i job ss b is same kept = is ∙ ap (λ (l : List SessionWindow). closed_among size l n) same ∙ closed_is size hs n i job kept

pub ready_found : (decoded : List SliceAnswer) (n size : ℕ) (hs : List HeardSession) (ss : List SessionWindow) (o : Option Book)
    → o ≡ book_among ss n → ss ≡ session_windows size hs → option_map_or (book_ready decoded n) o true ≡ is_ready decoded n (picture_keeps size hs n)
ready_found decoded n size hs ss o is same = grind (arith, ready_is)
