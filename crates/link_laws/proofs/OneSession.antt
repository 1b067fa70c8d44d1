-- One session in a list of datagrams: where it opens, and its fragments in each front of the list.
use Rattle.std.proofs.Common.{◌≡◌, ◌≤◌, ℕ, zero, suc, ◌+◌, List, [], ◌∷◌, ◌++◌, length, take, Option, Some, None, refl, sym, ap, ◌∙◌, arith, add-one, filter_map, fold, slice_get, append_assoc, append-nil}
use Rattle.std.proofs.lemmas.Grind.{common_steps}
use Rattle.std.proofs.lemmas.List.Elements.{filter_map-append}
use Rattle.std.proofs.lemmas.List.Sums.{fold-append}
use Rattle.link_model.specs.Session.{Session, Fragment, HeardSession, just_opened, opens_next, with_datagram, hears, sessions_of, begins, fragment_in}
use Rattle.link_model.proofs.Hearing.{hears_new, hears_on}

-- ---- sessions don't go

one_longer : (hs : List HeardSession) (d : List ℕ) → length hs ≤ length (hears hs d)
one_longer hs d = grind (arith, hears_new, hears_on)

pub all_longer : (hs : List HeardSession) (ds : List (List ℕ)) → length hs ≤ length (fold hears hs ds)
all_longer hs [] = omega arith
all_longer hs (d ∷ ds) = omega (arith, one_longer hs d, all_longer (hears hs d) ds)

-- ---- a session that stays the only one

pub record Stays (old new : HeardSession) (ds : List (List ℕ)) : Type 0 where
  pub session : new.session ≡ old.session
  pub fragments : new.fragments ≡ old.fragments ++ filter_map (fragment_in old.session) ds

pub stays : (old new : HeardSession) (ds : List (List ℕ)) → fold hears (old ∷ []) ds ≡ new ∷ [] → Stays old new ds
stays old new [] is = grind (arith, common_steps, append-nil)
stays old new (d ∷ ds) is = by_next (opens_next (old ∷ []) (begins d)) refl (stays (with_datagram old d) new ds)
  where
    by_next : (o : Option Session) → opens_next (old ∷ []) (begins d) ≡ o → (fold hears (with_datagram old d ∷ []) ds ≡ new ∷ [] → Stays (with_datagram old d) new ds) → Stays old new (d ∷ ds)
    by_next (Some s) opens again =
        let long = all_longer (just_opened s ∷ old ∷ []) ds in
        let same = ap length (ap (λ (hs : List HeardSession). fold hears hs ds) (sym (hears_new (old ∷ []) d s opens)) ∙ is) in
        absurd (omega (arith, long, same))
    by_next None opens again = grind (arith, hears_on, append_assoc, filter_map-append)

-- ---- where it opens

pub record Opens (h : HeardSession) (ds : List (List ℕ)) : Type 0 where
  pub before : List (List ℕ)
  pub header : List ℕ
  pub behind : List (List ℕ)
  pub is : ds ≡ before ++ header ∷ behind
  pub opened : (front : List (List ℕ)) → 1 ≤ length (sessions_of (before ++ header ∷ front))
  pub fragments : h.fragments ≡ filter_map (fragment_in h.session) behind

pub opens_once : (h : HeardSession) (ds : List (List ℕ)) → fold hears [] ds ≡ h ∷ [] → Opens h ds
opens_once h [] is = absurd ((let same = ap length is in absurd (omega (arith, same))))
opens_once h (d ∷ ds) is = by_next (opens_next [] (begins d)) refl (opens_once h ds)
  where
    by_next : (o : Option Session) → opens_next [] (begins d) ≡ o → (fold hears [] ds ≡ h ∷ [] → Opens h ds) → Opens h (d ∷ ds)
    by_next (Some s) opens again =
        let later = stays (just_opened s) h ds (ap (λ (hs : List HeardSession). fold hears hs ds) (sym (hears_new [] d s opens)) ∙ is) in
        record {
          before = [];
          header = d;
          behind = ds;
          is = refl;
          opened = λ front. (let same = ap (λ (hs : List HeardSession). length (fold hears hs front)) (hears_new [] d s opens) in omega (arith, same, all_longer (just_opened s ∷ []) front));
          fragments = later.fragments ∙ ap (λ (t : Session). filter_map (fragment_in t) ds) (sym later.session);
        }
    by_next None opens again =
        let later = again (ap (λ (hs : List HeardSession). fold hears hs ds) (sym (hears_on [] d opens)) ∙ is) in
        record {
          before = d ∷ later.before;
          header = later.header;
          behind = later.behind;
          is = ap (λ (l : List (List ℕ)). d ∷ l) later.is;
          opened = λ front. (let same = ap (λ (hs : List HeardSession). length (fold hears hs (later.before ++ later.header ∷ front))) (hears_on [] d opens) in omega (arith, same, later.opened front));
          fragments = later.fragments;
        }

-- ---- at a place after its header

single : (hs : List HeardSession) → 1 ≤ length hs → length hs ≤ 1 → (h : HeardSession) × (hs ≡ h ∷ [])
single [] some few = absurd (omega (arith, some))
single (h ∷ []) some few = (h, refl)
single (h ∷ g ∷ hs) some few = absurd (omega (arith, few))

-- what the session has in front of a datagram of the list, and what it has with it
pub record HeardAt (h : HeardSession) (ds : List (List ℕ)) (place : ℕ) (d : List ℕ) : Type 0 where
  pub old : HeardSession
  pub stand : sessions_of (take place ds) ≡ old ∷ []
  pub next : sessions_of (take (place + 1) ds) ≡ with_datagram old d ∷ []
  pub session : old.session ≡ h.session
  pub more : List Fragment
  pub fragments : h.fragments ≡ (with_datagram old d).fragments ++ more

taken : (ds : List (List ℕ)) (d : List ℕ) (place : ℕ) → slice_get ds place ≡ Some d → (rest : List (List ℕ)) × (ds ≡ take place ds ++ d ∷ rest) × (take (place + 1) ds ≡ take place ds ++ d ∷ [])
taken ds d place is =
    (let cut = at_front ds place is in (cut.0, cut.1, ap (λ (n : ℕ). take n ds) (add-one place) ∙ cut.2))
  where
    at_front : (ds : List (List ℕ)) (place : ℕ) → slice_get ds place ≡ Some d → (rest : List (List ℕ)) × (ds ≡ take place ds ++ d ∷ rest) × (take (suc place) ds ≡ take place ds ++ d ∷ [])
    at_front [] place is = absurd cc
    at_front (e ∷ ds) zero is = (let same : e ≡ d = cc in (ds, ap (λ x. x ∷ ds) same, ap (λ (x : List ℕ). x ∷ []) same))
    at_front (e ∷ ds) (suc place) is = (let more = at_front ds place is in (more.0, ap (λ l. e ∷ l) more.1, ap (λ l. e ∷ l) more.2))

pub heard_at : (h : HeardSession) (ds : List (List ℕ)) (place : ℕ) (d : List ℕ) → sessions_of ds ≡ h ∷ [] → slice_get ds place ≡ Some d → 1 ≤ length (sessions_of (take place ds)) → HeardAt h ds place d
heard_at h ds place d is at some =
    let cut = taken ds d place at in
    let whole : fold hears (sessions_of (take place ds)) (d ∷ cut.0) ≡ h ∷ [] = sym (fold-append hears [] (take place ds) (d ∷ cut.0)) ∙ ap (λ (l : List (List ℕ)). sessions_of l) (sym cut.1) ∙ is in
    let long = ap length whole in
    let one = single (sessions_of (take place ds)) some (omega (arith, all_longer (sessions_of (take place ds)) (d ∷ cut.0), long)) in
    let run : fold hears (one.0 ∷ []) (d ∷ cut.0) ≡ h ∷ [] = ap (λ (hs : List HeardSession). fold hears hs (d ∷ cut.0)) (sym one.1) ∙ whole in
    let all = stays one.0 h (d ∷ cut.0) run in
    by_next one.0 cut.0 one.1 cut.2 run all (opens_next (one.0 ∷ []) (begins d)) refl
  where
    by_next : (old : HeardSession) (rest : List (List ℕ)) → sessions_of (take place ds) ≡ old ∷ [] → take (place + 1) ds ≡ take place ds ++ d ∷ [] → fold hears (old ∷ []) (d ∷ rest) ≡ h ∷ [] → Stays old h (d ∷ rest)
        → (o : Option Session) → opens_next (old ∷ []) (begins d) ≡ o → HeardAt h ds place d
    by_next old rest stand next run all (Some s) opens =
        let long = all_longer (just_opened s ∷ old ∷ []) rest in
        let same = ap length (ap (λ (hs : List HeardSession). fold hears hs rest) (sym (hears_new (old ∷ []) d s opens)) ∙ run) in
        absurd (omega (arith, long, same))
    by_next old rest stand next run all None opens = record {
      old = old;
      stand = stand;
      next = ap (λ (l : List (List ℕ)). sessions_of l) next ∙ fold-append hears [] (take place ds) (d ∷ []) ∙ ap (λ (hs : List HeardSession). hears hs d) stand ∙ hears_on (old ∷ []) d opens;
      session = sym all.session;
      more = filter_map (fragment_in old.session) rest;
      fragments = grind (arith, append_assoc, filter_map-append, old);
    }
