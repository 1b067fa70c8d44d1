-- The next picture to be released, of the windows of all sessions.
use Rattle.std.proofs.Common.{◌≡◌, ℕ, ◌-◌, ◌^◌, ◌<◌, Bool, true, false, cond, List, [], ◌∷◌, ◌++◌}
use Rattle.std.proofs.Common.{Option, Some, None, refl, ap, sym, subst, ◌∙◌, arith}
use Rattle.std.specs.Prelude.{not, slice_get, slice_index_or, length}
use Rattle.std.specs.List.{remove}
use Rattle.std.specs.Option.{option_map, option_or}
use Rattle.std.proofs.lemmas.Bool.{leb-false}
use Rattle.std.proofs.lemmas.Option.{none-some}
use Rattle.machine_model.specs.Feeders.{is_among, not_released, heard_pictures, let_go_pictures}
use Rattle.link_model.specs.Session.{HeardSession}
use Rattle.link_model.specs.Windows.{NumberedBook, Window, Releasable, WindowPast, StandsForPast}
use Rattle.link_model.specs.Windows.{released_up_to, first_unreleased, next_release}
use Rattle.link_model.specs.Windows.{as_releasable, first_of, releasable_numbers, past_releases}
use Rattle.link_model.specs.Windows.{session_past, window_of}
use Rattle.link_model.proofs.WindowStands.{next_is, releasable_next}
use Rattle.link_core.proofs.HeardSessions.{unreleased_stands}
use Rattle.link_core.specs.Hearing.{SessionWindow, session_windows}

-- ---- the first number of a list

pub first_is : (ns : List ℕ) → slice_get ns 0 ≡ first_of ns
first_is [] = refl
first_is (n ∷ ns) = refl

module _ (released : List ℕ) where
  pub first_split : (front back : List ℕ) → slice_get (not_released released (front ++ back)) 0
      ≡ option_or (slice_get (not_released released front) 0) (first_of (not_released released back))
  first_split [] back = first_is (not_released released back)
  first_split (n ∷ front) back = grind (arith, first_split front back)

  -- ---- one window

  module _ (w : Window) (q : WindowPast) (stands : StandsForPast w q) where
    next_first : (n : ℕ) → option_map (λ (r : Releasable). r.number) (next_release w) ≡ Some n → first_of (releasable_numbers q) ≡ Some n
    next_first n is = by_first (first_of (releasable_numbers q)) (sym (ap (option_map (λ (r : Releasable). r.number)) (next_is w q stands)) ∙ is)
      where
        by_first : (o : Option ℕ) → option_map (λ (r : Releasable). r.number) (option_map (as_releasable q) o) ≡ Some n → o ≡ Some n
        by_first None e = absurd (none-some n e)
        by_first (Some k) e = e

    module _ (n : ℕ) (is : option_map (λ (r : Releasable). r.number) (next_release w) ≡ Some n) where
      rest_is : releasable_numbers q ≡ n ∷ releasable_numbers (past_releases q n)
      rest_is = releasable_next w q stands n (next_first n is)

      pub next_behind : is_among released n ≡ true → not_released released (releasable_numbers q) ≡ not_released released (releasable_numbers (past_releases q n))
      next_behind old = ap (not_released released) rest_is
          ∙ ap (λ (b : Bool). cond (not b) (n ∷ not_released released (releasable_numbers (past_releases q n))) (not_released released (releasable_numbers (past_releases q n)))) old

-- ---- a window comes to an end

-- how many numbers may still be released
abbrev pub room : Option ℕ → ℕ
room None = 2 ^ 64
room (Some last) = 2 ^ 64 - 1 - last

module _ (w : Window) where
  first_new : (books : List NumberedBook) (b : NumberedBook) → first_unreleased w.last_released books ≡ Some b → released_up_to w.last_released b.number ≡ false
  first_new [] b e = absurd (none-some b e)
  first_new (a ∷ books) b e = grind (arith, first_new books b)

  pub next_new : (n : ℕ) → option_map (λ (r : Releasable). r.number) (next_release w) ≡ Some n → released_up_to w.last_released n ≡ false
  unfolding next_release
  next_new n is = grind (arith, first_new)

  pub room_falls : (n : ℕ) → n < 2 ^ 64 → option_map (λ (r : Releasable). r.number) (next_release w) ≡ Some n → room (Some n) < room w.last_released
  room_falls n fits is = by_last w.last_released (next_new n is)
    where
      by_last : (o : Option ℕ) → released_up_to o n ≡ false → room (Some n) < room o
      by_last None new = omega (arith, fits)
      by_last (Some last) new = let less : last < n = leb-false n last new in omega (arith, fits, less)

-- ---- all sessions

module _ (size : ℕ) where
  pub let_go_split : (ended : Bool) (h : HeardSession) (hs : List HeardSession)
      → let_go_pictures size ended (h ∷ hs) ≡ let_go_pictures size true hs ++ releasable_numbers (record (session_past size hs h []) { is_ended = ended })
  unfolding let_go_pictures heard_pictures
  let_go_split true h hs = refl
  let_go_split false h hs = refl

  pub next_split : (released : List ℕ) (ended : Bool) (h : HeardSession) (hs : List HeardSession)
      → slice_get (not_released released (let_go_pictures size ended (h ∷ hs))) 0
      ≡ option_or (slice_get (not_released released (let_go_pictures size true hs)) 0)
      (first_of (not_released released (releasable_numbers (record (session_past size hs h []) { is_ended = ended }))))
  next_split released ended h hs = grind (arith, let_go_split, first_split)

  pub nothing_next : (released : List ℕ) (ended : Bool) → slice_get (not_released released (let_go_pictures size ended [])) 0 ≡ None
  unfolding let_go_pictures heard_pictures
  nothing_next released true = refl
  nothing_next released false = refl

-- ---- sessions that are taken one by one

no_some : {X : Type 0} (o : Option X) → ((x : X) → o ≡ Some x → ⊥) → o ≡ None
no_some None none = refl
no_some (Some x) none = absurd (none x refl)

-- what is first in the sessions before the last one
abbrev pub IsFirst : List ℕ → List SessionWindow → Option ℕ → Type 0
IsFirst released ss first = (size : ℕ) (hs : List HeardSession) → ss ≡ session_windows size hs
    → first ≡ slice_get (not_released released (let_go_pictures size true hs)) 0

-- and in the last one's own window
abbrev pub IsFirstOf : List ℕ → Bool → Window → Option ℕ → Type 0
IsFirstOf released ended w own = (p : WindowPast) → StandsForPast w p → p.is_ended ≡ false
    → own ≡ first_of (not_released released (releasable_numbers (record p { is_ended = ended })))

module _ (size : ℕ) (hs : List HeardSession) (released : List ℕ) (ended : Bool) (items : List SessionWindow) (are : items ≡ session_windows size hs) where
  pub none_there : length items ≡ 0 → None ≡ slice_get (not_released released (let_go_pictures size ended hs)) 0
  none_there empty = by_hs hs are
    where
      by_hs : (hs : List HeardSession) → items ≡ session_windows size hs → None ≡ slice_get (not_released released (let_go_pictures size ended hs)) 0
      by_hs [] is = sym (nothing_next size released ended)
      by_hs (h ∷ hs) is = absurd (omega (arith, ap length is, empty))

  module _ (s : SessionWindow) (rest : List SessionWindow) (some : 0 < length items) (first_item : s ≡ slice_index_or items 0 s) (others : rest ≡ remove items 0) where
    pub found_early : (n : ℕ) → IsFirst released rest (Some n) → Some n ≡ slice_get (not_released released (let_go_pictures size ended hs)) 0
    found_early n first = by_hs hs are
      where
        by_hs : (hs : List HeardSession) → items ≡ session_windows size hs → Some n ≡ slice_get (not_released released (let_go_pictures size ended hs)) 0
        by_hs [] is = absurd (omega (arith, ap length is, some))
        by_hs (h ∷ hs) is =
            ap (λ (o : Option ℕ). option_or o (first_of (not_released released (releasable_numbers (record (session_past size hs h []) { is_ended = ended })))))
            (first size hs (others ∙ ap (λ (l : List SessionWindow). remove l 0) is))
            ∙ sym (next_split size released ended h hs)

    pub found_last : (own : Option ℕ) → IsFirst released rest None → IsFirstOf released ended s.window own → own ≡ slice_get (not_released released (let_go_pictures size ended hs)) 0
    found_last own first last = by_hs hs are
      where
        by_hs : (hs : List HeardSession) → items ≡ session_windows size hs → own ≡ slice_get (not_released released (let_go_pictures size ended hs)) 0
        by_hs [] is = absurd (omega (arith, ap length is, some))
        by_hs (h ∷ hs) is =
            let here : s ≡ record { session = h.session; has_ended = h.has_ended; window = window_of (session_past size hs h []) } = first_item ∙ ap (λ (l : List SessionWindow). slice_index_or l 0 s) is in
            last (session_past size hs h [])
            (subst (λ (w : Window). StandsForPast w (session_past size hs h [])) (sym (ap (λ (s : SessionWindow). s.window) here)) (unreleased_stands size hs h)) refl
            ∙ ap (λ (o : Option ℕ). option_or o (first_of (not_released released (releasable_numbers (record (session_past size hs h []) { is_ended = ended })))))
            (first size hs (others ∙ ap (λ (l : List SessionWindow). remove l 0) is))
            ∙ sym (next_split size released ended h hs)

    pub found_last_by : (own next : Option ℕ) → ((n : ℕ) → next ≡ Some n → ⊥) → IsFirst released rest next → IsFirstOf released ended s.window own
        → own ≡ slice_get (not_released released (let_go_pictures size ended hs)) 0
    found_last_by own next none first last = found_last own (subst (IsFirst released rest) (no_some next none) first) last
