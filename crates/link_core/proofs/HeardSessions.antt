-- Windows of sessions go on as sessions do, and have the book of each picture that is opened.
use Rattle.std.proofs.Common.{◌≡◌, ℕ, ◌+◌, ◌-◌, ◌^◌, ◌<◌, Bool, true, false, cond, List, [], ◌∷◌, ◌++◌}
use Rattle.std.proofs.Common.{length, Option, Some, None, refl, ap, sym, subst, ◌∙◌, arith}
use Rattle.std.specs.Prelude.{◌&&◌, ◌||◌, not, nat_le, fold, is_some, slice_index_or, take}
use Rattle.std.specs.Option.{option_map_or}
use Rattle.std.proofs.lemmas.Bool.{leb-false, or_parts}
use Rattle.std.proofs.lemmas.List.{take_more}
use Rattle.link_model.specs.Books.{Book, book_of}
use Rattle.machine_model.specs.Feeders.{EnteredSession, entered_session, session_opening}
use Rattle.link_model.specs.Numbers.{Numbered, greatest, enters, is_closed}
use Rattle.link_model.specs.Numbers.{is_late, is_opened, parts_of}
use Rattle.link_model.specs.Output.{greatest_of, entered_behind}
use Rattle.link_model.specs.Session.{Session, Fragment, HeardSession, just_opened, opens_next}
use Rattle.link_model.specs.Session.{with_datagram, last_with, hears, begins, ends, fragment_in}
use Rattle.link_model.specs.Session.{sessions_of}
use Rattle.link_model.specs.Windows.{Window, StandsForPast, session_past, window_of}
use Rattle.link_model.specs.Windows.{book_at}
use Rattle.link_model.proofs.Hearing.{sessions_of_more}
use Rattle.link_model.proofs.Numbering.{late_changes_nothing, early_enters, greatest_one, greatest-append}
use Rattle.link_model.proofs.WindowNumbers.{session_greatest, session_enters, session_stays}
use Rattle.link_model.proofs.WindowStands.{new_stands, enters_stands, book_is}
use Rattle.link_core.specs.Hearing.{SessionWindow, session_windows, window_with}
use Rattle.link_core.specs.Hearing.{last_hears, opens_beside, greatest_among, begun_behind}
use Rattle.link_core.specs.Hearing.{sessions_hear, AreHeard, session_among}

-- ---- the greatest number

abbrev bound : ℕ
bound = 2 ^ 64 - 16

module _ (base window : ℕ) where
  late_is : (es : List Numbered) (n : ℕ) → is_late window es n ≡ false → n < bound
  unfolding is_late
  late_is es n early = leb-false bound n (or_parts (is_closed window es n) (nat_le bound n) early).1

  enters_small : (es : List Numbered) (f : Fragment) → greatest es < bound → greatest (enters base window es f) < bound
  enters_small es f small =
      grind (arith, late_changes_nothing, early_enters, late_is, greatest_one, greatest-append)

  all_small : (es : List Numbered) (fragments : List Fragment) → greatest es < bound → greatest (fold (enters base window) es fragments) < bound
  all_small es [] small = small
  all_small es (f ∷ fragments) small = all_small (enters base window es f) fragments (enters_small es f small)

nothing_small : greatest [] < bound
unfolding greatest
nothing_small = omega arith

pub greatest_small : (size : ℕ) (hs : List HeardSession) → greatest_of size hs < bound
unfolding greatest_of
greatest_small size [] = omega arith
greatest_small size (h ∷ hs) = grind (arith, all_small, nothing_small, greatest_small size hs)

pub greatest_is : (size : ℕ) (hs : List HeardSession) → greatest_among (session_windows size hs) ≡ greatest_of size hs
unfolding greatest_of
greatest_is size [] = refl
greatest_is size (h ∷ hs) = session_greatest size hs h []

pub heard_small : (size : ℕ) (ss : List SessionWindow) → AreHeard size ss → greatest_among ss < bound
heard_small size ss heard = subst (λ n. n < bound) (sym (ap greatest_among heard.1 ∙ greatest_is size heard.0)) (greatest_small size heard.0)

-- ---- windows of sessions

module _ (size : ℕ) where
  pub unreleased_stands : (hs : List HeardSession) (h : HeardSession) → StandsForPast (window_of (session_past size hs h [])) (session_past size hs h [])
  unreleased_stands hs h = record { value = refl; in_order = refl }

  runs_there : (hs : List HeardSession) (h : HeardSession) → (window_of (session_past size hs h [])).is_ended ≡ false
  unfolding window_of
  runs_there hs h = refl

  pub first_runs : (ss : List SessionWindow) (s : SessionWindow) (rest : List SessionWindow) → AreHeard size ss → ss ≡ s ∷ rest → s.window.is_ended ≡ false
  first_runs ss s rest heard is = by_heard heard.0 (sym is ∙ heard.1)
    where
      by_heard : (hs : List HeardSession) → s ∷ rest ≡ session_windows size hs → s.window.is_ended ≡ false
      by_heard [] e = absurd cc
      by_heard (h ∷ hs) e = (let same : s ≡ record { session = h.session; has_ended = h.has_ended; window = window_of (session_past size hs h []) } = cc in ap (λ (s : SessionWindow). s.window.is_ended) same ∙ runs_there hs h)

  begun_is : (hs : List HeardSession) (t : Session) → begun_behind size (session_windows size hs) t ∷ session_windows size hs ≡ session_windows size (just_opened t ∷ hs)
  begun_is hs t = grind (arith, greatest_is, new_stands)

  module _ (h : HeardSession) (hs : List HeardSession) (d : List ℕ) where
    enters_window : (o : Option Fragment) → fragment_in h.session d ≡ o
        → window_with (window_of (session_past size hs h [])) o ≡ window_of (session_past size hs (with_datagram h d) [])
    enters_window None none = ap window_of (sym (session_stays size hs h [] d none))
    enters_window (Some f) some =
        (enters_stands (window_of (session_past size hs h [])) (session_past size hs h []) (unreleased_stands hs h) refl f).value
        ∙ ap window_of (session_enters size hs h [] d f some)

    last_is : last_hears (session_windows size (h ∷ hs)) d ≡ session_windows size (last_with (h ∷ hs) d)
    last_is = ap (λ (w : Window). record { session = h.session; has_ended = h.has_ended || ends h.session d; window = w } ∷ session_windows size hs)
        (enters_window (fragment_in h.session d) refl)

    opens_is : (o : Option Session) → opens_beside (session_windows size (h ∷ hs)) o ≡ opens_next (h ∷ hs) o
    opens_is None = refl
    opens_is (Some t) = refl

  pub sessions_hear_is : (hs : List HeardSession) (d : List ℕ) → sessions_hear size (session_windows size hs) d ≡ session_windows size (hears hs d)
  unfolding hears
  sessions_hear_is [] d = grind (arith, begun_is)
  sessions_hear_is (h ∷ hs) d =
      ap (λ (o : Option Session). option_map_or (λ t. begun_behind size (session_windows size (h ∷ hs)) t ∷ session_windows size (h ∷ hs)) o (last_hears (session_windows size (h ∷ hs)) d)) (opens_is h hs d (begins d))
      ∙ ap (option_map_or (λ t. begun_behind size (session_windows size (h ∷ hs)) t ∷ session_windows size (h ∷ hs)) (opens_next (h ∷ hs) (begins d))) (last_is h hs d)
      ∙ by_opened (opens_next (h ∷ hs) (begins d))
    where
      by_opened : (o : Option Session)
          → option_map_or (λ t. begun_behind size (session_windows size (h ∷ hs)) t ∷ session_windows size (h ∷ hs)) o (session_windows size (last_with (h ∷ hs) d))
          ≡ session_windows size (option_map_or (λ s. just_opened s ∷ h ∷ hs) o (last_with (h ∷ hs) d))
      by_opened None = refl
      by_opened (Some t) = begun_is (h ∷ hs) t

-- ---- the session of a picture

-- the window has the book of each picture of the session
pub record IsSessionOf (s : SessionWindow) (e : EnteredSession) : Type 0 where
  pub sequence : s.session.sequence ≡ e.sequence
  pub book : (n : ℕ) → book_at s.window.books n ≡ cond (is_opened e.entries n) (Some (book_of e.sequence (parts_of n e.entries))) None

abbrev pub IsFound : Option SessionWindow → Option EnteredSession → Type 0
IsFound None None = Unit {0}
IsFound (Some s) (Some e) = IsSessionOf s e
IsFound None (Some e) = ⊥
IsFound (Some s) None = ⊥

kept : (a b : Bool) → a && not (b && false) ≡ a
kept true true = refl
kept true false = refl
kept false true = refl
kept false false = refl

module _ (size : ℕ) where
  session_is : (h : HeardSession) (hs : List HeardSession)
      → IsSessionOf (record { session = h.session; has_ended = h.has_ended; window = window_of (session_past size hs h []) }) (entered_session size hs h)
  session_is h hs = record {
    sequence = refl;
    book = λ n.
        book_is (window_of (session_past size hs h [])) (session_past size hs h []) (unreleased_stands size hs h) n
        ∙ ap (λ (b : Bool). cond b (Some (book_of h.session.sequence (parts_of n (entered_behind size hs h)))) None)
        (kept (is_opened (entered_behind size hs h) n) (false || is_closed size (entered_behind size hs h) n));
  }

  pub session_found : (hs : List HeardSession) (n : ℕ) → IsFound (session_among (session_windows size hs) n) (session_opening size hs n)
  unfolding session_opening
  session_found [] n = tt
  session_found (h ∷ hs) n = by_opened (is_opened (entered_behind size hs h) n) (ap is_some (here.book n)) (session_found hs n)
    where
      here : IsSessionOf (record { session = h.session; has_ended = h.has_ended; window = window_of (session_past size hs h []) }) (entered_session size hs h)
      here = session_is h hs

      by_book : (b : Bool) → is_some (book_at (window_of (session_past size hs h [])).books n) ≡ b → IsFound (session_among (session_windows size hs) n) (session_opening size hs n)
          → IsFound (cond (is_some (book_at (window_of (session_past size hs h [])).books n)) (Some (record { session = h.session; has_ended = h.has_ended; window = window_of (session_past size hs h []) })) (session_among (session_windows size hs) n))
          (cond b (Some (entered_session size hs h)) (session_opening size hs n))
      by_book true is rest = subst (λ (b : Bool). IsFound (cond b (Some (record { session = h.session; has_ended = h.has_ended; window = window_of (session_past size hs h []) })) (session_among (session_windows size hs) n)) (Some (entered_session size hs h))) (sym is) here
      by_book false is rest = subst (λ (b : Bool). IsFound (cond b (Some (record { session = h.session; has_ended = h.has_ended; window = window_of (session_past size hs h []) })) (session_among (session_windows size hs) n)) (session_opening size hs n)) (sym is) rest

      some_is : (b : Bool) (book : Book) → is_some (cond b (Some book) None) ≡ b
      some_is true book = refl
      some_is false book = refl

      by_opened : (b : Bool) → is_some (book_at (window_of (session_past size hs h [])).books n) ≡ is_some (cond b (Some (book_of h.session.sequence (parts_of n (entered_behind size hs h)))) None)
          → IsFound (session_among (session_windows size hs) n) (session_opening size hs n)
          → IsFound (cond (is_some (book_at (window_of (session_past size hs h [])).books n)) (Some (record { session = h.session; has_ended = h.has_ended; window = window_of (session_past size hs h []) })) (session_among (session_windows size hs) n))
          (cond b (Some (entered_session size hs h)) (session_opening size hs n))
      by_opened b is rest = by_book b (is ∙ some_is b (book_of h.session.sequence (parts_of n (entered_behind size hs h)))) rest

-- ---- the last session runs on

module _ (size : ℕ) where
  pub first_running : (ss : List SessionWindow) (s : SessionWindow) → AreHeard size ss → 0 < length ss → s ≡ slice_index_or ss 0 s → s.window.is_ended ≡ false
  first_running [] s heard some read = absurd (omega (arith, some))
  first_running (first ∷ rest) s heard some read = ap (λ (s : SessionWindow). s.window.is_ended) read ∙ first_runs size (first ∷ rest) first rest heard refl

-- ---- a list's next datagram

pub hears_next : (size k : ℕ) (ds : List (List ℕ)) (d : List ℕ) (items new : List SessionWindow) → k < length ds → d ≡ slice_index_or ds k d
    → items ≡ session_windows size (sessions_of (take k ds)) → new ≡ sessions_hear size items d → new ≡ session_windows size (sessions_of (take (k + 1) ds))
hears_next size k ds d items new within at before is =
    is
    ∙ ap (λ (l : List SessionWindow). sessions_hear size l d) before
    ∙ sessions_hear_is size (sessions_of (take k ds)) d
    ∙ ap (session_windows size) (sym (sessions_of_more (take k ds) d))
    ∙ ap (λ (l : List (List ℕ)). session_windows size (sessions_of l)) (ap (λ (x : List ℕ). take k ds ++ x ∷ []) at ∙ sym (take_more ds k d within))
