-- One datagram more: it opens a session, or belongs to the last one, with a fragment, with its end, or with neither.
use Rattle.std.proofs.Common.{◌≡◌, ℕ, List, [], ◌∷◌, ◌++◌, Option, Some, None, ap, ◌∙◌, append-nil}
use Rattle.std.specs.List.{cons_option}
use Rattle.std.specs.Option.{option_map_or}
use Rattle.link_model.specs.Session.{Session, Fragment, HeardSession, just_opened, opens_next, with_datagram, last_with, hears, sessions_of, begins, fragment_in}
use Rattle.link_model.proofs.Growing.{sessions_of-append}

pub sessions_of_more : (datagrams : List (List ℕ)) (d : List ℕ) → sessions_of (datagrams ++ d ∷ []) ≡ hears (sessions_of datagrams) d
sessions_of_more datagrams d = sessions_of-append datagrams (d ∷ [])

module _ (hs : List HeardSession) (d : List ℕ) where
  -- it opens a session
  pub hears_new : (s : Session) → opens_next hs (begins d) ≡ Some s → hears hs d ≡ just_opened s ∷ hs
  unfolding hears
  hears_new s is = ap (λ (o : Option Session). option_map_or (λ s. just_opened s ∷ hs) o (last_with hs d)) is

  -- or none
  pub hears_on : opens_next hs (begins d) ≡ None → hears hs d ≡ last_with hs d
  unfolding hears
  hears_on is = ap (λ (o : Option Session). option_map_or (λ s. just_opened s ∷ hs) o (last_with hs d)) is

-- before a session stands nothing but a header that is accepted changes anything
pub hears_nothing : (d : List ℕ) → begins d ≡ None → hears [] d ≡ []
hears_nothing d is = hears_on [] d is

-- within a session: a fragment more
module _ (h : HeardSession) (d : List ℕ) where
  pub with_fragment : (f : Fragment) → fragment_in h.session d ≡ Some f → (with_datagram h d).fragments ≡ h.fragments ++ f ∷ []
  with_fragment f is = ap (λ (o : Option Fragment). h.fragments ++ cons_option o []) is

  -- or none
  pub without_fragment : fragment_in h.session d ≡ None → (with_datagram h d).fragments ≡ h.fragments
  without_fragment is = ap (λ (o : Option Fragment). h.fragments ++ cons_option o []) is ∙ append-nil h.fragments
