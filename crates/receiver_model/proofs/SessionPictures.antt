-- The pictures of sessions: which are opened, and that what they keep stays as datagrams come.
use Rattle.std.proofs.Common.{◌≡◌, ℕ, zero, suc, ◌+◌, ◌<◌, ◌≤◌, Bool, true, false, refl, ap, sym}
use Rattle.std.proofs.Common.{List, [], ◌∷◌, ◌++◌, Option, Some, None, ◌∙◌, arith, cond, inl, inr}
use Rattle.std.specs.Prelude.{◌==◌, ◌||◌, filter_map}
use Rattle.std.specs.Option.{option_and_then, option_map_or}
use Rattle.std.proofs.lemmas.Bool.{cases_Bool, ne_eqb, eq-eqb}
use Rattle.std.proofs.lemmas.Bool.{cases_lt}
use Rattle.std.proofs.Math.Bool.{or_comm}
use Rattle.std.proofs.lemmas.List.Folds.{list_any-append}
use Rattle.std.proofs.lemmas.Option.{none-some}
use Rattle.machine_model.specs.Feeders.{EnteredSession, entered_session, session_opening, keeps_of}
use Rattle.machine_model.specs.Feeders.{job_by, picture_keeps, kept_job, heard_pictures, is_among}
use Rattle.link_model.specs.Kept.{Own, own, own_slice}
use Rattle.link_model.specs.Numbers.{Numbered, base_above, parts_of, is_opened, has_parts}
use Rattle.link_model.specs.Numbers.{opened_numbers}
use Rattle.link_model.specs.Output.{entered_behind, is_opened_in, greatest_of}
use Rattle.machine_model.specs.Places.{Job}
use Rattle.link_model.specs.Session.{Part, Session, HeardSession, just_opened, with_datagram}
use Rattle.link_model.specs.Session.{last_with, hears, opens_next, begins, fragment_in}
use Rattle.link_model.proofs.Apart.{sessions_apart}
use Rattle.link_model.proofs.Keeping.{keeps}
use Rattle.link_model.proofs.Leaving.{has_more, past, opened-over}
use Rattle.link_model.proofs.Numbering.{entered_follows}
use Rattle.link_model.proofs.RisingNumbers.{numbers_over}

-- ---- numbers among others

pub among_append : (a b : List ℕ) (n : ℕ) → is_among (a ++ b) n ≡ (is_among a n || is_among b n)
among_append a b n = list_any-append (λ m. m == n) a b

module _ (test : ℕ → Bool) (n : ℕ) where
  pub among_below : (a m : ℕ) → n < a → is_among (numbers_over test a m) n ≡ false
  among_below a zero below = refl
  among_below a (suc m) below = grind (arith, among_below (a + 1) m (omega arith))

  pub among_over : (a m : ℕ) → a ≤ n → n < a + m → is_among (numbers_over test a m) n ≡ test n
  among_over a zero from to = absurd (omega arith)
  among_over a (suc m) from to = elim (cases_lt a n) [
    | inl less ↦ past_it less (test a) (among_over (a + 1) m (omega arith) (omega arith))
    | inr more ↦ (let same : a ≡ n = omega arith in
        here same (test a) (among_below (a + 1) m (omega arith)) ∙ ap test same)
  ]
    where
      past_it : a < n → (b : Bool) → is_among (numbers_over test (a + 1) m) n ≡ test n
          → is_among (cond b (a ∷ []) [] ++ numbers_over test (a + 1) m) n ≡ test n
      past_it less true rest = grind (arith, numbers_over)
      past_it less false rest = rest

      here : a ≡ n → (b : Bool) → is_among (numbers_over test (a + 1) m) n ≡ false
          → is_among (cond b (a ∷ []) [] ++ numbers_over test (a + 1) m) n ≡ b
      here same true rest =
          ap (λ (b : Bool). b || is_among (numbers_over test (a + 1) m) n) (eq-eqb a n same)
      here same false rest = rest

-- a picture is among those that are opened
pub opened_among : (es : List Numbered) (n : ℕ) → is_among (opened_numbers es) n ≡ is_opened es n
opened_among es n =
    ap (λ (l : List ℕ). is_among l n) (opened-over es (past es + (n + 1)) (n + 1) refl)
    ∙ among_over (is_opened es) n 0 (past es + (n + 1)) (omega arith) (omega arith)

-- ---- the session of a picture

nothing_opened : (n : ℕ) → is_opened [] n ≡ false
unfolding parts_of
nothing_opened n = refl

module _ (window : ℕ) where
  pub pictures_among : (hs : List HeardSession) (n : ℕ)
      → is_among (heard_pictures window hs) n ≡ is_opened_in window hs n
  unfolding heard_pictures
  pictures_among [] n = refl
  pictures_among (h ∷ hs) n =
      grind (arith, among_append, opened_among, or_comm, pictures_among hs n)

  pub session_none : (hs : List HeardSession) (n : ℕ) → is_opened_in window hs n ≡ false
      → session_opening window hs n ≡ None
  unfolding session_opening
  session_none [] n none = refl
  session_none (h ∷ hs) n none = grind (arith, session_none hs n)

  module _ (h : HeardSession) (hs : List HeardSession) (n : ℕ) where
    pub session_last : is_opened (entered_behind window hs h) n ≡ true
        → session_opening window (h ∷ hs) n ≡ Some (entered_session window hs h)
    unfolding session_opening
    session_last opened = grind arith

    pub session_before : is_opened (entered_behind window hs h) n ≡ false
        → session_opening window (h ∷ hs) n ≡ session_opening window hs n
    unfolding session_opening
    session_before shut = grind arith

  pub session_opens : (s : Session) (hs : List HeardSession) (n : ℕ)
      → session_opening window (just_opened s ∷ hs) n ≡ session_opening window hs n
  session_opens s hs n = session_before (just_opened s) hs n (nothing_opened n)

-- ---- what a picture keeps, later

pub record KeepsOn (kept later : Own) : Type 0 where
  pub plan : later.plan ≡ kept.plan
  pub slices : (i : ℕ) (bytes : List ℕ) → own_slice kept i ≡ Some bytes
      → own_slice later i ≡ Some bytes

abbrev pub IsKeptOn : Own → Option Own → Type 0
IsKeptOn kept now = (later : Own) × (now ≡ Some later) × KeepsOn kept later

kept_same : (kept : Own) (now : Option Own) → now ≡ Some kept → IsKeptOn kept now
kept_same kept now is = (kept, is, record { plan = refl; slices = λ i bytes e. e })

module _ (window : ℕ) (small : window ≤ 8) (n : ℕ) (kept : Own) where
  abbrev keeps_in : Option EnteredSession → Option Own
  keeps_in o = option_and_then (λ e. keeps_of e n) o

  module _ (h : HeardSession) (hs : List HeardSession) (d : List ℕ) where
    abbrev old : List Numbered
    old = entered_behind window hs h

    abbrev new : List Numbered
    new = entered_behind window hs (with_datagram h d)

    more_parts : (more : List Part) × (parts_of n new ≡ parts_of n old ++ more)
    more_parts = (entered_follows (base_above (greatest_of window hs)) window h.fragments
        (filter_map (fragment_in h.session) (d ∷ []))).adds n

    still_opened : is_opened old n ≡ true → is_opened new n ≡ true
    still_opened was =
        let more = more_parts in ap has_parts more.1 ∙ has_more (parts_of n old) more.0 was

    own_later : own h.session.sequence (parts_of n old) ≡ Some kept
        → IsKeptOn kept (own h.session.sequence (parts_of n new))
    own_later is =
        let more = more_parts in
        let later = keeps h.session.sequence (parts_of n old) more.0 kept is in (
          later.0,
          ap (own h.session.sequence) more.1 ∙ later.1,
          record { plan = later.2; slices = later.3 },
        )

    of_earlier : is_opened old n ≡ false → keeps_in (session_opening window hs n) ≡ Some kept
        → keeps_in (session_opening window (with_datagram h d ∷ hs) n) ≡ Some kept
    of_earlier shut is = elim (cases_Bool (is_opened_in window hs n)) [
      | inl was ↦ ap keeps_in (session_before window (with_datagram h d) hs n
          (sessions_apart window hs (with_datagram h d) n small was)) ∙ is
      | inr none ↦ absurd (none-some kept (sym (ap keeps_in (session_none window hs n none)) ∙ is))
    ]

    last_keeps : keeps_in (session_opening window (h ∷ hs) n) ≡ Some kept
        → IsKeptOn kept (keeps_in (session_opening window (with_datagram h d ∷ hs) n))
    last_keeps is =
        grind (arith, kept_same, of_earlier, own_later, session_before, session_last, still_opened)

  module _ (hs : List HeardSession) (d : List ℕ) where
    last_with_keeps : (hs : List HeardSession) → keeps_in (session_opening window hs n) ≡ Some kept
        → IsKeptOn kept (keeps_in (session_opening window (last_with hs d) n))
    unfolding session_opening
    last_with_keeps [] is = absurd (none-some kept is)
    last_with_keeps (h ∷ hs) is = last_keeps h hs d is

    pub picture_keeps_on : picture_keeps window hs n ≡ Some kept
        → IsKeptOn kept (picture_keeps window (hears hs d) n)
    unfolding hears
    picture_keeps_on is = by_next (opens_next hs (begins d))
      where
        by_next : (o : Option Session) → IsKeptOn kept
            (picture_keeps window (option_map_or (λ s. just_opened s ∷ hs) o (last_with hs d)) n)
        by_next None = last_with_keeps hs is
        by_next (Some s) = kept_same kept (picture_keeps window (just_opened s ∷ hs) n)
            (ap keeps_in (session_opens window s hs n) ∙ is)

-- ---- jobs

module _ (n i : ℕ) where
  job_of_later : (kept later : Own) → KeepsOn kept later → (job : Job) → job_by kept n i ≡ Some job
      → job_by later n i ≡ Some job
  job_of_later kept later on job is = grind arith

  pub job_stays : (window : ℕ) → window ≤ 8 → (hs : List HeardSession) (d : List ℕ) (job : Job)
      → kept_job window hs n i ≡ Some job → kept_job window (hears hs d) n i ≡ Some job
  unfolding kept_job
  job_stays window small hs d job is = by_kept (picture_keeps window hs n) refl is
    where
      by_kept : (o : Option Own) → picture_keeps window hs n ≡ o
          → option_and_then (λ kept. job_by kept n i) o ≡ Some job
          → option_and_then (λ kept. job_by kept n i) (picture_keeps window (hears hs d) n)
          ≡ Some job
      by_kept None at e = absurd (none-some job e)
      by_kept (Some kept) at e =
          let later = picture_keeps_on window small n kept hs d at in
          ap (option_and_then (λ kept. job_by kept n i)) later.1
          ∙ job_of_later kept later.0 later.2 job e
