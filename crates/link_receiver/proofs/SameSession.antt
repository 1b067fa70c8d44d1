-- Exchanges leave the session as it is.
use Rattle.std.proofs.Common.{◌≡◌, List, [], ◌∷◌, Option, Some, None, ap, ◌∙◌, rules, arith}
use Rattle.std.specs.Option.{option_and_then}
use Rattle.link_model.specs.Windows.{next_release}
use Rattle.machine_model.specs.Places.{Answered}
use Rattle.receiver_model.specs.Exchanging.{Exchange, Proposed, Fetched, Withdrawn, Made, exchanged, all_exchanged, back_from, takes_done, takes_dones}
use Rattle.receiver_model.specs.Receptions.{Reception, StandingSession, RunOut}
use Rattle.receiver_model.specs.Releasing.{next_picture}

-- what exchanges leave as it is
pub record HaveSameSession (r s : Reception) : Type 0 where
  pub standing : s.standing ≡ r.standing
  pub field : s.field ≡ r.field
  pub size : s.size ≡ r.size
  pub has_ended : s.has_ended ≡ r.has_ended

takes_done-session : (r : Reception) (out : List RunOut) (done : Answered)
    → HaveSameSession r (takes_done (record r { out = out }) done)
unfolding takes_done
takes_done-session r out done = grind arith

same_twice : (r s t : Reception) → HaveSameSession r s → HaveSameSession s t → HaveSameSession r t
same_twice r s t h m = record {
  standing = m.standing ∙ h.standing;
  field = m.field ∙ h.field;
  size = m.size ∙ h.size;
  has_ended = m.has_ended ∙ h.has_ended;
}

takes_dones-session : (r : Reception) (dones : List Answered) → HaveSameSession r (takes_dones r dones)
takes_dones-session r [] = search rules
takes_dones-session r (done ∷ dones) =
    same_twice r (takes_done r done) (takes_dones r (done ∷ dones)) (takes_done-session r r.out done)
    (takes_dones-session (takes_done r done) dones)

exchanged-session : (r : Reception) (e : Exchange) → HaveSameSession r (exchanged r e)
exchanged-session r (Proposed jobs None) = search rules
exchanged-session r (Proposed jobs (Some place)) = search rules
exchanged-session r (Fetched place None) = search rules
exchanged-session r (Fetched place (Some dones)) =
    same_twice r (back_from r place) (takes_dones (back_from r place) dones) (search rules)
    (takes_dones-session (back_from r place) dones)
exchanged-session r (Withdrawn place) = search rules
exchanged-session r (Made dones) = takes_dones-session r dones

pub all_exchanged-session : (r : Reception) (es : List Exchange)
    → HaveSameSession r (all_exchanged r es)
all_exchanged-session r [] = search rules
all_exchanged-session r (e ∷ es) = grind (arith, exchanged-session, all_exchanged-session (exchanged r e) es)

pub same_next : (r s : Reception) → HaveSameSession r s → next_picture s ≡ next_picture r
same_next r s h = ap (λ (standing : Option StandingSession).
    option_and_then (λ (st : StandingSession). next_release st.window) standing) h.standing
