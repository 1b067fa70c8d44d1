-- What is there in time of a picture is entered with its number.
use Rattle.std.proofs.Common.{◌≡◌, ◌≤◌, ℕ, ◌+◌, ◌%◌, ◌^◌, false, List, [], ◌∷◌, ◌++◌, length, take, Some, sym, ap, ◌∙◌, subst, arith, All, filter_map}
use Rattle.link_laws.specs.HeardStreams.{IsInTime, entered_of, slices_heard}
use Rattle.link_laws.proofs.Among.{All-front}
use Rattle.link_laws.proofs.InOrder.{slices_in, entered_counted}
use Rattle.link_laws.proofs.EnteredNumbers.{IsSentFragment, IsEntry, base_is, entered_begins, part_entered}
use Rattle.link_laws.proofs.OneSession.{HeardAt, heard_at}
use Rattle.link_model.specs.Kept.{part_slices}
use Rattle.link_model.specs.Numbers.{Numbered, is_closed, entered, parts_of}
use Rattle.link_model.specs.Output.{greatest_of, is_closed_in}
use Rattle.link_model.specs.Sending.{number_bits}
use Rattle.link_model.specs.Session.{Session, Part, Fragment, HeardSession, with_datagram, sessions_of, fragment_in}
use Rattle.link_model.proofs.Closing.{open_before}
use Rattle.link_model.proofs.Hearing.{with_fragment}
use Rattle.vc_types.specs.SenderSettings.{Sending}

pub entered_is : (window : ℕ) (h : HeardSession) → entered_of window h ≡ entered (2 ^ 32) window h.fragments
unfolding greatest_of
entered_is window h = ap (λ (base : ℕ). entered base window h.fragments) (base_is)

module _ (s : Sending) (IsPart : ℕ → Part → Type 0) (window : ℕ) (some : 1 ≤ window) (datagrams : List (List ℕ)) (h : HeardSession) (one : sessions_of datagrams ≡ h ∷ []) (sent : All (IsSentFragment s IsPart) h.fragments) (first : ℕ) (bits : first % 2 ^ 32 ≡ s.picture % 2 ^ 32) (low : first ≤ 2 ^ 33) (entries : All (IsEntry s IsPart first) (entered (2 ^ 32) window h.fragments)) where
  -- the part of a datagram after the parts of those before it
  pub record IsEntered (j : ℕ) (d : List ℕ) (place : ℕ) (part : Part) : Type 0 where
    pub front : List Part
    pub rest : List Part
    pub is : parts_of (first + j) (entered (2 ^ 32) window h.fragments) ≡ front ++ part ∷ rest
    pub few : length (filter_map part_slices front) ≤ slices_heard (number_bits s j) (sessions_of (take place datagrams))

  module _ (d : List ℕ) (f : Fragment) (is : fragment_in h.session d ≡ Some f) (own : IsSentFragment s IsPart f) (place : ℕ) (time : IsInTime window datagrams (first + own.picture) d place) where
    at : HeardAt h datagrams place d
    at = heard_at h datagrams place d one time.at time.behind

    with_it : (with_datagram at.old d).fragments ≡ at.old.fragments ++ f ∷ []
    with_it = with_fragment at.old d f (ap (λ (t : Session). fragment_in t d) at.session ∙ is)

    all : h.fragments ≡ (at.old.fragments ++ f ∷ []) ++ at.more
    all = at.fragments ∙ ap (λ (l : List Fragment). l ++ at.more) with_it

    unclosed : is_closed window (entered (2 ^ 32) window (at.old.fragments ++ f ∷ [])) (first + own.picture) ≡ false
    unclosed =
        sym (ap (λ (l : List Numbered). is_closed window l (first + own.picture)) (entered_is window (with_datagram at.old d) ∙ ap (entered (2 ^ 32) window) with_it))
        ∙ sym (ap (λ (hs : List HeardSession). is_closed_in window hs (first + own.picture)) at.next)
        ∙ open_before window datagrams (first + own.picture) place time.before

    entries_all : All (IsEntry s IsPart first) (entered (2 ^ 32) window ((at.old.fragments ++ f ∷ []) ++ at.more))
    entries_all = subst (λ (l : List Fragment). All (IsEntry s IsPart first) (entered (2 ^ 32) window l)) all entries

    found : (rest : List Part) × (parts_of (first + own.picture) (entered (2 ^ 32) window ((at.old.fragments ++ f ∷ []) ++ at.more)) ≡ parts_of (first + own.picture) (entered (2 ^ 32) window at.old.fragments) ++ f.part ∷ rest)
    found = part_entered s IsPart window some f own first bits low at.old.fragments at.more entries_all unclosed

    sent_old : All (IsSentFragment s IsPart) at.old.fragments
    sent_old = All-front (IsSentFragment s IsPart) at.old.fragments (f ∷ []) (All-front (IsSentFragment s IsPart) (at.old.fragments ++ f ∷ []) at.more (subst (λ (l : List Fragment). All (IsSentFragment s IsPart) l) all sent))

    entries_old : All (IsEntry s IsPart first) (entered (2 ^ 32) window at.old.fragments)
    entries_old =
        let next = entered_begins (2 ^ 32) window (at.old.fragments ++ f ∷ []) at.more in
        let now = entered_begins (2 ^ 32) window at.old.fragments (f ∷ []) in
        All-front (IsEntry s IsPart first) (entered (2 ^ 32) window at.old.fragments) now.0
        (subst (λ (l : List Numbered). All (IsEntry s IsPart first) l) now.1
        (All-front (IsEntry s IsPart first) (entered (2 ^ 32) window (at.old.fragments ++ f ∷ [])) next.0 (subst (λ (l : List Numbered). All (IsEntry s IsPart first) l) next.1 entries_all)))

    counted : slices_in (first + own.picture) (entered (2 ^ 32) window at.old.fragments) ≤ slices_heard (number_bits s own.picture) (sessions_of (take place datagrams))
    counted = subst (λ (hs : List HeardSession). slices_in (first + own.picture) (entered (2 ^ 32) window at.old.fragments) ≤ slices_heard (number_bits s own.picture) hs)
        (sym at.stand) (entered_counted s IsPart window some first bits own.picture at.old.fragments sent_old entries_old)

    pub in_time : IsEntered own.picture d place f.part
    in_time = grind (arith, all, at, counted, found)
