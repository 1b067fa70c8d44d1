-- Sessions follow each other: where each opens and ends, and what belongs to it.
use Rattle.std.proofs.Common.{arith, ◌≡◌, ℕ, Bool, true, false, List, [], ◌∷◌, ◌++◌, Option, Some, None, refl, ap, sym, ◌∙◌, cond, ◌&&◌, is_some, filter_map, fold, append_assoc, append-nil}
use Rattle.std.specs.List.{list_any}
use Rattle.std.specs.Option.{option_map_or}
use Rattle.std.proofs.lemmas.Bool.{or_parts}
use Rattle.std.proofs.lemmas.List.Elements.{filter_map-append}
use Rattle.std.proofs.lemmas.List.Sums.{fold-append}
use Rattle.link_model.specs.Session.{Session, Fragment, HeardSession, just_opened, is_other, opens_behind, opens_other, hears, sessions_of, begins, ends, fragment_in}
use Rattle.link_model.proofs.Hearing.{hears_new, hears_on}

-- ---- before the first session

pub no_session : (datagrams : List (List ℕ)) → list_any (λ d. is_some (begins d)) datagrams ≡ false → sessions_of datagrams ≡ []
no_session [] none = refl
no_session (d ∷ datagrams) none = grind (arith, hears_on, no_session datagrams)

pub first_session : (before : List (List ℕ)) (d : List ℕ) (s : Session) → list_any (λ d. is_some (begins d)) before ≡ false → begins d ≡ Some s → sessions_of (before ++ d ∷ []) ≡ just_opened s ∷ []
first_session before d s none is =
    fold-append hears [] before (d ∷ [])
    ∙ ap (λ (hs : List HeardSession). hears hs d) (no_session before none)
    ∙ hears_new [] d s is

-- ---- within a session

module _ (hs : List HeardSession) (s : Session) where
  abbrev heard : Bool → List Fragment → HeardSession
  heard ended fragments = record { session = s; has_ended = ended; fragments = fragments }

  abbrev found : List (List ℕ) → List Fragment
  found datagrams = filter_map (fragment_in s) datagrams

  joined : (ended : Bool) (fragments : List Fragment) (d : List ℕ) (datagrams : List (List ℕ))
      → heard ended ((fragments ++ found (d ∷ [])) ++ found datagrams) ∷ hs ≡ heard ended (fragments ++ found (d ∷ datagrams)) ∷ hs
  joined ended fragments d datagrams = ap (λ (l : List Fragment). heard ended l ∷ hs)
      (append_assoc fragments (found (d ∷ [])) (found datagrams) ∙ ap (λ (l : List Fragment). fragments ++ l) (sym (filter_map-append (fragment_in s) (d ∷ []) datagrams)))

  nothing_more : (ended : Bool) (fragments : List Fragment) → heard ended fragments ∷ hs ≡ heard ended (fragments ++ []) ∷ hs
  nothing_more ended fragments = ap (λ (l : List Fragment). heard ended l ∷ hs) (sym (append-nil fragments))

  none_before_end : (fragments : List Fragment) (o : Option Session) → opens_behind (heard false fragments) o ≡ None
  none_before_end fragments None = refl
  none_before_end fragments (Some t) = refl

  none_but_other : (fragments : List Fragment) (o : Option Session) → option_map_or (is_other s) o false ≡ false → opens_behind (heard true fragments) o ≡ None
  none_but_other fragments None same = refl
  none_but_other fragments (Some t) same = ap (λ (b : Bool). cond (true && b) (Some t) None) same

  -- up to its end
  open_run : (fragments : List Fragment) (datagrams : List (List ℕ)) → list_any (ends s) datagrams ≡ false
      → fold hears (heard false fragments ∷ hs) datagrams ≡ heard false (fragments ++ found datagrams) ∷ hs
  open_run fragments [] none = nothing_more false fragments
  open_run fragments (d ∷ datagrams) none =
      let parts = or_parts (ends s d) (list_any (ends s) datagrams) none in
      ap (λ (hs : List HeardSession). fold hears hs datagrams)
      (hears_on (heard false fragments ∷ hs) d (none_before_end fragments (begins d)) ∙ ap (λ (b : Bool). heard b (fragments ++ found (d ∷ [])) ∷ hs) parts.0)
      ∙ open_run (fragments ++ found (d ∷ [])) datagrams parts.1
      ∙ joined false fragments d datagrams

  -- and after it
  ended_run : (fragments : List Fragment) (datagrams : List (List ℕ)) → list_any (opens_other s) datagrams ≡ false
      → fold hears (heard true fragments ∷ hs) datagrams ≡ heard true (fragments ++ found datagrams) ∷ hs
  ended_run fragments [] none = nothing_more true fragments
  ended_run fragments (d ∷ datagrams) none =
      let parts = or_parts (opens_other s d) (list_any (opens_other s) datagrams) none in
      ap (λ (hs : List HeardSession). fold hears hs datagrams) (hears_on (heard true fragments ∷ hs) d (none_but_other fragments (begins d) parts.0))
      ∙ ended_run (fragments ++ found (d ∷ [])) datagrams parts.1
      ∙ joined true fragments d datagrams

  -- a session that hasn't ended has all datagrams
  pub session_open : (datagrams : List (List ℕ)) → list_any (ends s) datagrams ≡ false → fold hears (just_opened s ∷ hs) datagrams ≡ heard false (found datagrams) ∷ hs
  session_open datagrams none = open_run [] datagrams none

  module _ (before : List (List ℕ)) (last : List ℕ) (behind : List (List ℕ)) (none : list_any (ends s) before ≡ false) (end_is : ends s last ≡ true) (same : list_any (opens_other s) behind ≡ false) where
    -- and so has one that has ended, after which no other one opens
    pub session_ended : fold hears (just_opened s ∷ hs) (before ++ last ∷ behind) ≡ heard true (found (before ++ last ∷ behind)) ∷ hs
    session_ended =
        fold-append hears (just_opened s ∷ hs) before (last ∷ behind)
        ∙ ap (λ (hs : List HeardSession). fold hears (hears hs last) behind) (session_open before none)
        ∙ ap (λ (hs : List HeardSession). fold hears hs behind)
        (hears_on (heard false (found before) ∷ hs) last (none_before_end (found before) (begins last)) ∙ ap (λ (b : Bool). heard b (found before ++ found (last ∷ [])) ∷ hs) end_is)
        ∙ ended_run (found before ++ found (last ∷ [])) behind same
        ∙ joined true (found before) last behind
        ∙ ap (λ (l : List Fragment). heard true l ∷ hs) (sym (filter_map-append (fragment_in s) before (last ∷ behind)))

    -- until one does
    pub session_next : (d : List ℕ) (t : Session) → begins d ≡ Some t → is_other s t ≡ true
        → fold hears (just_opened s ∷ hs) ((before ++ last ∷ behind) ++ d ∷ []) ≡ just_opened t ∷ heard true (found (before ++ last ∷ behind)) ∷ hs
    session_next d t is other =
        fold-append hears (just_opened s ∷ hs) (before ++ last ∷ behind) (d ∷ [])
        ∙ ap (λ (hs : List HeardSession). hears hs d) session_ended
        ∙ hears_new (heard true (found (before ++ last ∷ behind)) ∷ hs) d t (ap (opens_behind (heard true (found (before ++ last ∷ behind)))) is ∙ ap (λ (b : Bool). cond (true && b) (Some t) None) other)

pub ruleset laws = (no_session, first_session, session_open, session_ended, session_next)
