-- What a fragment leaves of a session's window, whose books are whole.
use Rattle.std.proofs.Common.{◌≡◌, ℕ, ◌-◌, ◌^◌, ◌<◌, false, Some, refl, sym, subst, ◌∙◌, arith}
use Rattle.std.proofs.lemmas.Bool.{or_parts, leb-false}
use Rattle.std.proofs.lemmas.Option.{cond_some}
use Rattle.link_model.specs.Books.{Book, book_of}
use Rattle.link_model.specs.Numbers.{parts_of}
use Rattle.link_model.specs.Session.{Fragment}
use Rattle.link_model.specs.Windows.{Window, WindowPast, StandsForPast, book_at, new_window, new_past}
use Rattle.link_model.specs.Windows.{number_by, late_in, opens_picture, rises_to}
use Rattle.link_model.specs.Windows.{window_enters, past_enters}
use Rattle.link_model.proofs.WindowStands.{book_is, new_stands, running_is, enters_stands}
use Rattle.receiver_model.specs.WholeBooks.{IsWholeBook}
use Rattle.receiver_model.proofs.WholeBooks.{book_is_whole}
use Rattle.link_window.specs.Pasts.{IsSessionWindow}

module _ (w : Window) (p : WindowPast) (stands : StandsForPast w p) where
  -- a book is that of the picture's parts
  pub window_book_whole : (n : ℕ) (b : Book) → book_at w.books n ≡ Some b → IsWholeBook p.sequence b
  window_book_whole n b is = book_is_whole p.sequence (parts_of n p.entries) b
      (sym (cond_some _ (book_of p.sequence (parts_of n p.entries)) b (sym (book_is w p stands n) ∙ is)).1)

module _ (w : Window) (f : Fragment) where
  enters_size : (window_enters w f).size ≡ w.size
  unfolding window_enters
  enters_size = grind arith

  enters_top : w.top < 2 ^ 64 - 16 → (window_enters w f).top < 2 ^ 64 - 16
  unfolding window_enters
  enters_top fits = grind (arith, leb-false, or_parts)

  pub enters_sequence : (window_enters w f).sequence ≡ w.sequence
  unfolding window_enters
  enters_sequence = grind arith

  pub enters_sound : IsSessionWindow w.sequence w → w.is_ended ≡ false
      → IsSessionWindow (window_enters w f).sequence (window_enters w f)
  enters_sound sound runs = record {
    past = past_enters sound.past f;
    stands = enters_stands w sound.past sound.stands (running_is w sound.past sound.stands runs) f;
    sequence = sound.sequence ∙ sym enters_sequence;
    least = omega (arith, sound.least, enters_size);
    most = omega (arith, sound.most, enters_size);
    top = enters_top sound.top;
  }

  -- one that isn't late enters its picture
  pub enters_early : late_in w (number_by w f.number) ≡ false
      → window_enters w f ≡ rises_to (opens_picture w (number_by w f.number) f.part) (number_by w f.number)
  unfolding window_enters
  enters_early early = rw early refl

-- a window that begins anew
pub anew_sound : (w : Window) → IsSessionWindow w.sequence w → (anew : Window)
    → anew ≡ new_window w.sequence w.size w.top → IsSessionWindow anew.sequence anew
anew_sound w sound anew is = subst (λ (v : Window). IsSessionWindow v.sequence v) (sym is) (record {
  past = new_past w.sequence w.size w.top;
  stands = new_stands w.sequence w.size w.top;
  sequence = refl;
  least = sound.least;
  most = sound.most;
  top = sound.top;
})
