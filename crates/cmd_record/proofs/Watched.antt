-- The sessions behind one datagram more, by what it is to them.
use Rattle.std.proofs.Common.{◌≡◌, ℕ, ◌+◌, ◌-◌, ◌<◌, Bool, true, false, cond, List, [], ◌∷◌, ◌++◌, Option, Some, None, refl, sym, subst, ap, ◌∙◌, arith}
use Rattle.std.specs.Prelude.{◌&&◌, ◌||◌, ◌==◌}
use Rattle.std.proofs.lemmas.Bool.{false≢true}
use Rattle.link_hearing.proofs.SessionEnds.{ended-cons}
use Rattle.link_hearing.specs.Sessions.{ended_in}
use Rattle.link_model.proofs.Hearing.{hears_new, hears_on, sessions_of_more}
use Rattle.link_model.specs.Session.{Session, HeardSession, just_opened, is_other, opens_next, with_datagram, last_with, hears, sessions_of, begins, ends}
use Rattle.cmd_record.proofs.Truths.{both_hold, or_false, or_true, stays_so}
use Rattle.cmd_record.specs.Signs.{IsSign, session_of}
use Rattle.cmd_record.specs.Watching.{IsLatestSession, Watches, may_follow, is_open, watch_behind}
use Rattle.cmd_record.specs.declared.sign.Opening.{Opening}
use Rattle.cmd_record.specs.declared.sign.Sign.{Sign}
use Rattle.cmd_record.specs.declared.sign.Sign.TheVariants.{Begins, Ends, Nothing}
use Rattle.cmd_record.specs.declared.watch.SessionWatch.{SessionWatch}

-- ---- counts of ended sessions

none_more : (n : ℕ) → 0 + n ≡ n
none_more n = omega arith

opened_count : (s : Session) (hs : List HeardSession) → ended_in (just_opened s ∷ hs) ≡ ended_in hs
opened_count s hs = ended-cons (just_opened s) hs ∙ none_more (ended_in hs)

same_count : (g h : HeardSession) (hs : List HeardSession) → g.has_ended ≡ h.has_ended → ended_in (g ∷ hs) ≡ ended_in (h ∷ hs)
same_count g h hs is =
    ended-cons g hs ∙ ap (λ (b : Bool). cond {A = ℕ} b 1 0 + ended_in hs) is ∙ sym (ended-cons h hs)

one_more_count : (left sessions e : ℕ) (n m : ℕ) → 0 < left → left + n ≡ sessions → n ≡ 0 + e → m ≡ 1 + e → (left - 1) + m ≡ sessions
one_more_count left sessions e n m some was before after = omega (arith, some, was, before, after)

ended_count : (g h : HeardSession) (hs : List HeardSession) (left sessions : ℕ) → 0 < left → h.has_ended ≡ false → g.has_ended ≡ true
    → left + ended_in (h ∷ hs) ≡ sessions → (left - 1) + ended_in (g ∷ hs) ≡ sessions
ended_count g h hs left sessions some was_so ended was =
    one_more_count left sessions (ended_in hs) (ended_in (h ∷ hs)) (ended_in (g ∷ hs)) some was
    (ended-cons h hs ∙ ap (λ (b : Bool). cond {A = ℕ} b 1 0 + ended_in hs) was_so)
    (ended-cons g hs ∙ ap (λ (b : Bool). cond {A = ℕ} b 1 0 + ended_in hs) ended)

-- ---- what opens

opens_none : (hs : List HeardSession) → opens_next hs None ≡ None
opens_none [] = refl
opens_none (h ∷ hs) = refl

opens_so : (last : Option Opening) (has_ended : Bool) (hs : List HeardSession) (s : Session) → IsLatestSession last has_ended hs
    → opens_next hs (Some s) ≡ cond (may_follow last has_ended s) (Some s) None
opens_so None has_ended [] s is = refl
opens_so (Some last) has_ended (h ∷ hs) s is =
    ap (λ (t : Session). cond (h.has_ended && is_other t s) (Some s) None) is.0
    ∙ ap (λ (b : Bool). cond (b && is_other (session_of last) s) (Some s) None) is.1
opens_so None has_ended (h ∷ hs) s is = absurd is
opens_so (Some last) has_ended [] s is = absurd is

module _ (w : SessionWatch) (sessions : ℕ) (some : 0 < w.left) (hs : List HeardSession) (d : List ℕ)
    (left_are : w.left + ended_in hs ≡ sessions) (last_is : IsLatestSession w.last w.has_ended hs) where
  abbrev Next : SessionWatch → List HeardSession → Type 0
  Next new now = (new.left + ended_in now ≡ sessions) × IsLatestSession new.last new.has_ended now

  -- ---- a datagram that begins no session

  stays_open : (h : HeardSession) (rest : List HeardSession) → w.left + ended_in (h ∷ rest) ≡ sessions
      → IsLatestSession w.last w.has_ended (h ∷ rest) → (with_datagram h d).has_ended ≡ h.has_ended
      → Next w (with_datagram h d ∷ rest)
  stays_open h rest left is same =
      (ap (λ (n : ℕ). w.left + n) (same_count (with_datagram h d) h rest same) ∙ left, by_last w.last is)
    where
      by_last : (last : Option Opening) → IsLatestSession last w.has_ended (h ∷ rest) → IsLatestSession last w.has_ended (with_datagram h d ∷ rest)
      by_last None i = absurd i
      by_last (Some o) i = (i.0, same ∙ i.1)

  no_end : (now : List HeardSession) → w.left + ended_in now ≡ sessions → IsLatestSession w.last w.has_ended now
      → ((s : Session) → ends s d ≡ false) → Next w (last_with now d)
  no_end [] left is none = (left, is)
  no_end (h ∷ rest) left is none =
      stays_open h rest left is (ap (λ (b : Bool). h.has_ended || b) (none h.session) ∙ or_false h.has_ended)

  nothing : opens_next hs (begins d) ≡ None → ((s : Session) → ends s d ≡ false) → Next w (hears hs d)
  nothing on none = subst (Next w) (sym (hears_on hs d on)) (no_end hs left_are last_is none)

  -- ---- a sequence header

  begun : (o : Opening) → begins d ≡ Some (session_of o) → ((s : Session) → ends s d ≡ false)
      → (b : Bool) → may_follow w.last w.has_ended (session_of o) ≡ b
      → Next (cond b (record { left = w.left; last = Some o; has_ended = false }) w) (hears hs d)
  begun o begins_so none true is =
      let opens : opens_next hs (begins d) ≡ Some (session_of o) =
      ap (opens_next hs) begins_so ∙ opens_so w.last w.has_ended hs (session_of o) last_is
      ∙ ap (λ (b : Bool). cond b (Some (session_of o)) None) is in
      subst (Next (record { left = w.left; last = Some o; has_ended = false })) (sym (hears_new hs d (session_of o) opens))
      (ap (λ (n : ℕ). w.left + n) (opened_count (session_of o) hs) ∙ left_are, (refl, refl))
  begun o begins_so none false is =
      let on : opens_next hs (begins d) ≡ None =
      ap (opens_next hs) begins_so ∙ opens_so w.last w.has_ended hs (session_of o) last_is
      ∙ ap (λ (b : Bool). cond b (Some (session_of o)) None) is in
      nothing on none

  -- ---- an end of sequence

  module _ (ssrc : ℕ) (ends_so : (s : Session) → ends s d ≡ (ssrc == s.ssrc)) where
    abbrev Closed : List HeardSession → Type 0
    Closed now = Next (record { left = w.left - 1; last = w.last; has_ended = true }) now

    closes : (now : List HeardSession) (last : Option Opening) → w.left + ended_in now ≡ sessions → IsLatestSession last w.has_ended now
        → is_open last w.has_ended ssrc ≡ true
        → ((w.left - 1) + ended_in (last_with now d) ≡ sessions) × IsLatestSession last true (last_with now d)
    closes now None left is was_so = absurd (false≢true was_so)
    closes [] (Some last) left is was_so = absurd is
    closes (h ∷ rest) (Some last) left is was_so =
        let both = both_hold (ssrc == last.ssrc) w.has_ended was_so in
        let source : ends h.session d ≡ true = ends_so h.session ∙ ap (λ (s : Session). ssrc == s.ssrc) is.0 ∙ both.0 in
        let ended : (with_datagram h d).has_ended ≡ true = ap (λ (b : Bool). h.has_ended || b) source ∙ or_true h.has_ended in
        (ended_count (with_datagram h d) h rest w.left sessions some (is.1 ∙ both.1) ended left, (is.0, ended))

    keeps : (now : List HeardSession) (last : Option Opening) → w.left + ended_in now ≡ sessions → IsLatestSession last w.has_ended now
        → is_open last w.has_ended ssrc ≡ false
        → (w.left + ended_in (last_with now d) ≡ sessions) × IsLatestSession last w.has_ended (last_with now d)
    keeps [] last left is was_so = (left, is)
    keeps (h ∷ rest) None left is was_so = absurd is
    keeps (h ∷ rest) (Some last) left is was_so =
        let same : (with_datagram h d).has_ended ≡ h.has_ended =
        ap (λ (b : Bool). h.has_ended || b) (ends_so h.session ∙ ap (λ (s : Session). ssrc == s.ssrc) is.0)
        ∙ ap (λ (b : Bool). b || (ssrc == last.ssrc)) is.1 ∙ stays_so (ssrc == last.ssrc) w.has_ended was_so ∙ sym is.1 in
        (ap (λ (n : ℕ). w.left + n) (same_count (with_datagram h d) h rest same) ∙ left, (is.0, same ∙ is.1))

    ended : begins d ≡ None → (b : Bool) → is_open w.last w.has_ended ssrc ≡ b
        → Next (cond b (record { left = w.left - 1; last = w.last; has_ended = true }) w) (hears hs d)
    ended none true is =
        subst Closed (sym (hears_on hs d (ap (opens_next hs) none ∙ opens_none hs))) (closes hs w.last left_are last_is is)
    ended none false is =
        subst (Next w) (sym (hears_on hs d (ap (opens_next hs) none ∙ opens_none hs))) (keeps hs w.last left_are last_is is)

  -- ---- by what it is

  by_sign : (sign : Sign) → IsSign d sign → Next (watch_behind w sign) (hears hs d)
  by_sign (Begins o) i = begun o i.begins_so i.ends_so (may_follow w.last w.has_ended (session_of o)) refl
  by_sign (Ends ssrc) i = ended ssrc i.ends_so i.begins_so (is_open w.last w.has_ended ssrc) refl
  by_sign Nothing i = nothing (ap (opens_next hs) i.begins_so ∙ opens_none hs) i.ends_so

pub watched : (w : SessionWatch) (sign : Sign) (d : List ℕ) → 0 < w.left → IsSign d sign
    → (sessions : ℕ) (before : List (List ℕ)) → Watches w sessions before
    → Watches (watch_behind w sign) sessions (before ++ d ∷ [])
watched w sign d some i sessions before was =
    let next = by_sign w sessions some (sessions_of before) d was.left_are was.last_is sign i in
    record {
      left_are = subst (λ (hs : List HeardSession). (watch_behind w sign).left + ended_in hs ≡ sessions) (sym (sessions_of_more before d)) next.0;
      last_is = subst (λ (hs : List HeardSession). IsLatestSession (watch_behind w sign).last (watch_behind w sign).has_ended hs) (sym (sessions_of_more before d)) next.1;
    }
