-- A receiver judges a datagram as the list of those that it heard says.
use Rattle.std.proofs.Common.{◌≡◌, ℕ, List, [], ◌∷◌, Option, Some, refl, ap, ◌∙◌, false, arith}
use Rattle.std.proofs.lemmas.Grind.{common_steps}
use Rattle.std.specs.Option.{option_map}
use mathlib.Core.Path.{fun_ext}
use Rattle.link_model.specs.Judgement.{KnownSession, judgement, known_session, known_sessions, outcome_behind}
use Rattle.link_model.specs.Output.{base_behind}
use Rattle.link_model.specs.Session.{received, Session, Fragment, HeardSession, opens_behind, sessions_of}
use Rattle.link_model.specs.Windows.{WindowPast, window_of, StandsForPast}
use Rattle.link_model.specs.declared.outcome.Outcome.{Outcome}
use Rattle.link_model.proofs.RisingNumbers.{begins_with}
use Rattle.link_model.proofs.WindowStands.{window_outcome_is}
use Rattle.receiver_model.specs.Judging.{opens_from, known_by_window, judged}
use Rattle.receiver_model.specs.Receptions.{StandingSession, Reception}
use Rattle.receiver_model.specs.Standing.{all_released, last_past, standing_with, standing_of}

pub resting_stands : (p : WindowPast) → StandsForPast (window_of (all_released p)) (all_released p)
resting_stands p = grind (arith, common_steps, begins_with)

module _ (size : ℕ) (h : HeardSession) (hs : List HeardSession) where
  abbrev at_rest : StandingSession
  at_rest = standing_with h (all_released (last_past size false hs h))

  pub opens_same : (o : Option Session) → opens_from at_rest o ≡ opens_behind h o
  opens_same o = refl

  known_same : known_by_window at_rest ≡ known_session (base_behind size hs) size h
  known_same =
      ap (λ (f : Fragment → Outcome). let known : KnownSession = record {
        session = h.session;
        has_ended = h.has_ended;
        fragment = f;
      } in known)
      (fun_ext (window_outcome_is at_rest.window (all_released (last_past size false hs h))
      (resting_stands (last_past size false hs h)) refl))

all_known_same : (size : ℕ) (hs : List HeardSession)
    → option_map known_by_window (standing_of size false hs) ≡ known_sessions size hs
all_known_same size [] = refl
all_known_same size (h ∷ hs) = ap Some (known_same size h hs)

pub judged_is : (r : Reception) (size : ℕ) (datagrams : List (List ℕ)) (d : List ℕ)
    → r.standing ≡ standing_of size false (sessions_of datagrams)
    → judged r d ≡ outcome_behind size datagrams d
unfolding judged outcome_behind
judged_is r size datagrams d stands =
    ap (λ (o : Option StandingSession). judgement (option_map known_by_window o) (received d)) stands
    ∙ ap (λ (o : Option KnownSession). judgement o (received d)) (all_known_same size (sessions_of datagrams))
