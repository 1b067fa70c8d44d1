-- A window: what stands for the fragments of a session, without the fragments themselves.
use Rattle.std.specs.Prelude.{◌≡◌, ℕ, ◌+◌, ◌-◌, ◌^◌, Bool, true, false, ◌&&◌, ◌||◌, not, nat_lt}
use Rattle.std.specs.Prelude.{nat_le, ◌==◌, if◌then◌else◌, List, [], ◌∷◌, ◌++◌, length, map, filter}
use Rattle.std.specs.Prelude.{drop, Option, Some, None, is_some, unwrap_or}
use Rattle.std.specs.List.{list_all, last_or}
use Rattle.std.specs.Option.{option_map_or, option_and_then}
use Rattle.link_model.specs.Books.{book_whole, Book, book_of, book_takes, book_outcome}
use Rattle.link_model.specs.Judgement.{unless_late}
use Rattle.link_model.specs.Numbers.{Numbered, greatest, nearest, base_above, enters, is_closed}
use Rattle.link_model.specs.Numbers.{opened_numbers, parts_of, span}
use Rattle.link_model.specs.Output.{complete_at, let_go_numbers, greatest_of, entered_behind}
use Rattle.link_model.specs.Session.{Fragment, Part, HeardSession}
use Rattle.link_model.specs.declared.outcome.Outcome.{Outcome}
use Rattle.vc_types.specs.SequenceHeader.{Sequence}

-- ---- books by number

pub record NumberedBook : Type 0 where
  pub number : ℕ
  pub book : Book

abbrev pub with_number : ℕ → Book → NumberedBook
with_number n book = record { number = n; book = book }

-- the book of a picture, among books in rising order
abbrev pub book_at : List NumberedBook → ℕ → Option Book
book_at [] n = None
book_at (b ∷ books) n =
    if nat_lt b.number n then book_at books n
    else (if b.number == n then Some b.book else None)

-- a part more for a picture, which is opened where it has no book
abbrev pub with_part : Sequence → List NumberedBook → ℕ → Part → List NumberedBook
with_part s [] n part = with_number n (book_takes (book_of s []) part) ∷ []
with_part s (b ∷ books) n part =
    if nat_lt b.number n then b ∷ with_part s books n part
    else (if b.number == n then with_number n (book_takes b.book part) ∷ books
    else with_number n (book_takes (book_of s []) part) ∷ b ∷ books)

-- ---- the window

-- How many pictures are open at a time; the greatest number, before the first fragment that of the
-- earlier sessions; the last picture that was released; whether the input has ended; and the books
-- of pictures, in rising order.
pub record Window : Type 0 where
  pub sequence : Sequence
  pub size : ℕ
  pub top : ℕ
  pub is_new : Bool
  pub last_released : Option ℕ
  pub is_ended : Bool
  pub books : List NumberedBook

-- after sessions with this greatest number
abbrev pub new_window : Sequence → ℕ → ℕ → Window
new_window s size before = record {
  sequence = s;
  size = size;
  top = before;
  is_new = true;
  last_released = None;
  is_ended = false;
  books = [];
}

abbrev pub number_by : Window → ℕ → ℕ
number_by w bits = if w.is_new then base_above w.top + bits else nearest w.top bits

abbrev pub passed_by : Window → ℕ → Bool
passed_by w n = nat_le (n + w.size) w.top

abbrev pub late_in : Window → ℕ → Bool
late_in w n = passed_by w n || nat_le (2 ^ 64 - 16) n

abbrev pub closed_in : Window → ℕ → Bool
closed_in w n = w.is_ended || passed_by w n

-- all pictures up to the last one that was released were released
abbrev pub released_up_to : Option ℕ → ℕ → Bool
released_up_to None n = false
released_up_to (Some last) n = nat_le n last

-- the books of pictures that are closed and released go
abbrev pub stays_in : Window → NumberedBook → Bool
stays_in w b = not (closed_in w b.number && released_up_to w.last_released b.number)

abbrev pub forgets : Window → Window
forgets w = record w { books = filter (stays_in w) w.books }

-- ---- one fragment more

abbrev pub opens_picture : Window → ℕ → Part → Window
opens_picture w n part = record w { is_new = false; books = with_part w.sequence w.books n part }

abbrev pub rises_to : Window → ℕ → Window
rises_to w n = if nat_lt w.top n then forgets (record w { top = n }) else w

unfoldable pub window_enters : Window → Fragment → Window
window_enters w f =
    let n = number_by w f.number in
    if late_in w n then w else rises_to (opens_picture w n f.part) n

abbrev pub book_in : Window → ℕ → Book
book_in w n = unwrap_or (book_at w.books n) (book_of w.sequence [])

-- its outcome
unfoldable pub window_outcome : Window → Fragment → Outcome
window_outcome w f =
    let n = number_by w f.number in
    unless_late (late_in w n) (book_outcome (book_in w n) f.part)

-- ---- letting go

abbrev pub complete_in : Window → ℕ → Bool
complete_in w n = option_map_or (λ book. is_some (book_whole book)) (book_at w.books n) false

-- it is closed, or every picture that isn't closed is complete up to it
abbrev pub let_go_in : Window → ℕ → Bool
let_go_in w n = w.is_ended || list_all (complete_in w) (span (w.top + 1 - w.size) n)

abbrev pub first_unreleased : Option ℕ → List NumberedBook → Option NumberedBook
first_unreleased last [] = None
first_unreleased last (b ∷ books) =
    if released_up_to last b.number then first_unreleased last books else Some b

-- a picture that may be released
pub record Releasable : Type 0 where
  pub number : ℕ
  pub complete : Bool

abbrev pub releasable_by : NumberedBook → Releasable
releasable_by b = record { number = b.number; complete = is_some (book_whole b.book) }

abbrev pub if_let_go : Window → NumberedBook → Option Releasable
if_let_go w b = if let_go_in w b.number then Some (releasable_by b) else None

-- the first picture that isn't released, if it is let go
unfoldable pub next_release : Window → Option Releasable
next_release w = option_and_then (if_let_go w) (first_unreleased w.last_released w.books)

abbrev pub releases : Window → ℕ → Window
releases w n = forgets (record w { last_released = Some n })

-- the input ends, which closes all pictures
abbrev pub finishes : Window → Window
finishes w = forgets (record w { is_ended = true })

-- ---- what a window stands for

-- the greatest number of the earlier sessions, what was entered of this one, the pictures that were
-- released, in their order, and whether the input has ended
pub record WindowPast : Type 0 where
  pub sequence : Sequence
  pub size : ℕ
  pub before : ℕ
  pub entries : List Numbered
  pub released : List ℕ
  pub is_ended : Bool

abbrev pub new_past : Sequence → ℕ → ℕ → WindowPast
new_past s size before = record {
  sequence = s;
  size = size;
  before = before;
  entries = [];
  released = [];
  is_ended = false;
}

abbrev pub past_enters : WindowPast → Fragment → WindowPast
past_enters p f = record p { entries = enters (base_above p.before) p.size p.entries f }

abbrev pub past_releases : WindowPast → ℕ → WindowPast
past_releases p n = record p { released = p.released ++ n ∷ [] }

abbrev pub past_finishes : WindowPast → WindowPast
past_finishes p = record p { is_ended = true }

-- the pictures that are let go, in rising order: once the input has ended, all that were opened
abbrev pub past_let_go : WindowPast → List ℕ
past_let_go p =
    if p.is_ended then opened_numbers p.entries else let_go_numbers p.size p.sequence p.entries

-- those of them that aren't released yet
abbrev pub releasable_numbers : WindowPast → List ℕ
releasable_numbers p = drop (length p.released) (past_let_go p)

abbrev pub as_releasable : WindowPast → ℕ → Releasable
as_releasable p n = record { number = n; complete = complete_at p.sequence p.entries n }

abbrev pub first_of : List ℕ → Option ℕ
first_of [] = None
first_of (n ∷ ns) = Some n

-- the window has the book of a picture that is opened, until it is both closed and released
abbrev pub is_needed : WindowPast → ℕ → Bool
is_needed p n =
    not ((p.is_ended || is_closed p.size p.entries n) && released_up_to (last_or None p.released) n)

abbrev pub needed_numbers : WindowPast → List ℕ
needed_numbers p = filter (is_needed p) (opened_numbers p.entries)

abbrev pub past_book : WindowPast → ℕ → NumberedBook
past_book p n = with_number n (book_of p.sequence (parts_of n p.entries))

abbrev pub greatest_behind : ℕ → List Numbered → ℕ
greatest_behind before [] = before
greatest_behind before (e ∷ es) = greatest (e ∷ es)

abbrev pub is_nothing : List Numbered → Bool
is_nothing [] = true
is_nothing (e ∷ es) = false

unfoldable pub window_of : WindowPast → Window
window_of p = record {
  sequence = p.sequence;
  size = p.size;
  top = greatest_behind p.before p.entries;
  is_new = is_nothing p.entries;
  last_released = last_or None p.released;
  is_ended = p.is_ended;
  books = map (past_book p) (needed_numbers p);
}

-- its value follows from its past, in which pictures were released in the order in which they are
-- let go
pub record StandsForPast (w : Window) (p : WindowPast) : Type 0 where
  pub value : w ≡ window_of p
  pub in_order : past_let_go p ≡ p.released ++ releasable_numbers p

-- the past of the last session's window, after other sessions
abbrev pub session_past : ℕ → List HeardSession → HeardSession → List ℕ → WindowPast
session_past size hs h released = record {
  sequence = h.session.sequence;
  size = size;
  before = greatest_of size hs;
  entries = entered_behind size hs h;
  released = released;
  is_ended = false;
}
