-- Datagrams of which one begins a session, and the header of the first that does.
use Rattle.std.proofs.Common.{◌≡◌, ℕ, Bool, true, false, refl, ap, sym, ◌∙◌}
use Rattle.std.proofs.Common.{List, [], ◌∷◌, ◌++◌, Option, Some, None, cond, arith}
use Rattle.std.specs.Prelude.{◌||◌, is_some, fold}
use Rattle.std.specs.List.{list_any}
use Rattle.std.proofs.lemmas.Bool.{false≢true}
use Rattle.std.proofs.lemmas.List.{append-nil}
use Rattle.link_model.specs.Session.{Session, HeardSession, just_opened}
use Rattle.link_model.specs.Session.{hears, sessions_of, begins}
use Rattle.link_model.proofs.Following.{no_session}
use Rattle.link_model.proofs.Hearing.{hears_nothing, hears_new}
use Rattle.stream_model.specs.Streams.{header_in, first_header}

abbrev pub has_begun : List (List ℕ) → Bool
has_begun datagrams = list_any (λ d. is_some (begins d)) datagrams

some_stand : (h : HeardSession) (hs : List HeardSession) → [] ≡ h ∷ hs → ⊥
some_stand h hs e = grind arith

-- sessions that were opened stay
stand_on : (datagrams : List (List ℕ)) (h : HeardSession) (hs : List HeardSession)
    → fold hears (h ∷ hs) datagrams ≡ [] → ⊥
unfolding hears
stand_on [] h hs e = some_stand h hs (sym e)
stand_on (d ∷ datagrams) h hs e = grind (arith, stand_on datagrams)

-- without sessions no datagram begins one
begun_stand : (datagrams : List (List ℕ)) → has_begun datagrams ≡ true
    → sessions_of datagrams ≡ [] → ⊥
begun_stand [] begun e = false≢true begun
begun_stand (d ∷ datagrams) begun e =
    by_first (begins d) refl (λ later none. begun_stand datagrams later none)
  where
    by_first : (o : Option Session) → begins d ≡ o
        → (has_begun datagrams ≡ true → sessions_of datagrams ≡ [] → ⊥) → ⊥
    by_first None is rest = rest
        (sym (ap (λ (o : Option Session). is_some o || has_begun datagrams) is) ∙ begun)
        (sym (ap (λ (l : List HeardSession). fold hears l datagrams) (hears_nothing d is)) ∙ e)
    by_first (Some s) is rest = stand_on datagrams (just_opened s) []
        (sym (ap (λ (l : List HeardSession). fold hears l datagrams) (hears_new [] d s is)) ∙ e)

pub none_begun : (datagrams : List (List ℕ)) → sessions_of datagrams ≡ []
    → has_begun datagrams ≡ false
none_begun datagrams none = grind (arith, begun_stand)

-- and with them one did
pub one_begun : (datagrams : List (List ℕ)) (h : HeardSession) (hs : List HeardSession)
    → sessions_of datagrams ≡ h ∷ hs → has_begun datagrams ≡ true
one_begun datagrams h hs at = grind (arith, no_session, some_stand)

-- ---- the first header

pub first_behind : (datagrams more : List (List ℕ)) → has_begun datagrams ≡ false
    → first_header (datagrams ++ more) ≡ first_header more
unfolding first_header
first_behind [] more none = refl
first_behind (d ∷ datagrams) more none = grind (arith, first_behind datagrams more)

pub no_header : (datagrams : List (List ℕ)) → has_begun datagrams ≡ false
    → first_header datagrams ≡ []
unfolding first_header
no_header datagrams none =
    sym (ap first_header (append-nil datagrams)) ∙ first_behind datagrams [] none

pub header_of_first : (d : List ℕ) (o : Option Session) → begins d ≡ o
    → first_header (d ∷ []) ≡ cond (is_some o) (header_in d) []
unfolding first_header
header_of_first d o is = ap (λ (o : Option Session). cond (is_some o) (header_in d) []) is
