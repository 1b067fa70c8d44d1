-- How many sessions have had their end, as datagrams come, and what ends one within so many.
use Rattle.std.proofs.Common.{◌≡◌, ℕ, ◌+◌, ◌<◌, ◌≤◌, Bool, true, false, cond, List, [], ◌∷◌, ◌++◌, length, Option, Some, None, IsSomeAnd, refl, sym, ap, ◌∙◌, subst, arith, inl, inr, take, drop, take-append-drop, append-nil, length-append}
use Rattle.std.specs.Prelude.{◌||◌, fold}
use Rattle.std.proofs.lemmas.List.{take-append-le}
use Rattle.std.proofs.lemmas.List.Sums.{sum_by-cons}
use Rattle.link_model.specs.Session.{HeardSession, with_datagram, last_with, hears, sessions_of, ends}
use Rattle.link_model.proofs.Growing.{sessions_of-append}
use Rattle.link_model.proofs.Hearing.{hears_new, hears_on}
use Rattle.link_outside.specs.Calls.{looped-none}
use Rattle.link_outside.specs.Passing.{grown_by, led_by, looped_back}
use Rattle.vc_ports.proofs.Given.{some_is}
use Rattle.vc_ports.specs.Changes.{WireChange}
use Rattle.link_hearing.specs.FromWire.{HeardAt, IsPastPackets, IsReceivable, Listening}
use Rattle.link_hearing.specs.Sessions.{ended_in, ended_sessions}

abbrev pub has_ended_count : HeardSession → ℕ
has_ended_count h = cond h.has_ended 1 0

pub ended-cons : (h : HeardSession) (hs : List HeardSession) → ended_in (h ∷ hs) ≡ has_ended_count h + ended_in hs
ended-cons h hs = sum_by-cons has_ended_count h hs

-- ---- more datagrams leave no fewer sessions ended

step : (ended more : Bool) (n : ℕ) → cond {A = ℕ} ended 1 0 + n ≤ cond {A = ℕ} (ended || more) 1 0 + n
step true more n = omega arith
step false true n = omega arith
step false false n = omega arith

behind : (a b c : ℕ) → a ≤ b → b ≤ c → a ≤ c
behind a b c first second = omega (arith, first, second)

same_order : (a b x y : ℕ) → a ≡ x → b ≡ y → x ≤ y → a ≤ b
same_order a b x y first second less = omega (arith, first, second, less)

last_rises : (hs : List HeardSession) (d : List ℕ) → ended_in hs ≤ ended_in (last_with hs d)
last_rises [] d = omega arith
last_rises (h ∷ hs) d = same_order _ _ _ _ (ended-cons h hs) (ended-cons (with_datagram h d) hs) (step h.has_ended (ends h.session d) (ended_in hs))

one_rises : (hs : List HeardSession) (d : List ℕ) → ended_in hs ≤ ended_in (hears hs d)
one_rises hs d = grind (arith, hears_on, last_rises, hears_new)

all_rise : (hs : List HeardSession) (more : List (List ℕ)) → ended_in hs ≤ ended_in (fold hears hs more)
all_rise hs [] = omega arith
all_rise hs (d ∷ more) = behind (ended_in hs) (ended_in (hears hs d)) (ended_in (fold hears (hears hs d) more)) (one_rises hs d) (all_rise (hears hs d) more)

ended_more : (front more : List (List ℕ)) → ended_sessions front ≤ ended_sessions (front ++ more)
ended_more front more = same_order (ended_sessions front) (ended_sessions (front ++ more)) (ended_sessions front) (ended_in (fold hears (sessions_of front) more)) refl (ap ended_in (sessions_of-append front more)) (all_rise (sessions_of front) more)

pub ended_up_to : (k : ℕ) (datagrams : List (List ℕ)) → ended_sessions (take k datagrams) ≤ ended_sessions datagrams
ended_up_to k datagrams = subst (λ (l : List (List ℕ)). ended_sessions (take k datagrams) ≤ ended_sessions l) (take-append-drop k datagrams) (ended_more (take k datagrams) (drop k datagrams))

-- ---- within so many datagrams

-- what will come begins with what was heard, which is so many and ends too few sessions
too_few : (packets sessions limit : ℕ) (heard rest : List (List ℕ)) → IsReceivable packets sessions (heard ++ rest) → IsPastPackets packets sessions limit heard → ⊥
too_few packets sessions limit heard rest (inl found) past =
    let within : found.0 ≤ length heard = omega (arith, found.1, past.count) in
    let same : ended_sessions (take found.0 heard) ≡ sessions = ap ended_sessions (sym (take-append-le found.0 heard rest within)) ∙ found.2 in
    omega (arith, same, ended_up_to found.0 heard, past.goes_on)
too_few packets sessions limit heard rest (inr fewer) past = omega (arith, fewer, length-append heard rest, past.count)

pub past_by : (packets sessions : ℕ) (at : Listening) (wire : WireChange) → IsSomeAnd wire.told.before.coming (IsReceivable packets sessions)
    → (heard : List (List ℕ)) (limit : ℕ) → HeardAt at wire heard → IsPastPackets packets sessions limit heard → ⊥
past_by packets sessions at wire whole heard limit gave past = by_lists wire.told.before.coming wire.told.after.coming whole gave.came
  where
    by_lists : (before after : Option (List (List ℕ))) → IsSomeAnd before (IsReceivable packets sessions)
        → grown_by before (looped_back wire.told.before.looped []) ≡ led_by heard after → ⊥
    by_lists None after whole came = whole
    by_lists (Some coming) None whole came = let none : Some (coming ++ looped_back wire.told.before.looped []) ≡ None = came in absurd cc
    by_lists (Some coming) (Some rest) whole came =
        let is : coming ≡ heard ++ rest = sym (append-nil coming) ∙ ap (λ (l : List (List ℕ)). coming ++ l) (sym (looped-none wire.told.before.looped)) ∙ some_is (coming ++ looped_back wire.told.before.looped []) (heard ++ rest) came in
        too_few packets sessions limit heard rest (subst (IsReceivable packets sessions) is whole) past
