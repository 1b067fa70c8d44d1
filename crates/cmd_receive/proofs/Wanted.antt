-- One datagram that a playout wants while it waits for sessions to end.
use Rattle.std.proofs.Common.{◌≡◌, ℕ, ◌<◌, List, [], ◌∷◌, ◌++◌, take, length, subst, arith, append-nil}
use Rattle.link_model.specs.Judgement.{outcome_behind}
use Rattle.link_model.specs.declared.outcome.Outcome.{Outcome}
use Rattle.link_hearing.specs.Sessions.{ended_sessions}
use Rattle.cmd_receive.specs.Ends.{Counts}
use Rattle.cmd_receive.specs.Playouts.{PlayoutState, Judges}
use Rattle.cmd_receive.specs.Sessions.{HearsWanted}
use Rattle.cmd_receive.specs.declared.count.SessionCount.{SessionCount}

wanted_now : (count : SessionCount) (sessions : ℕ) (before : List (List ℕ)) (d : List ℕ)
    → 0 < count.left → Counts count sessions before
    → (k : ℕ) → k < length (d ∷ []) → ended_sessions (before ++ take k (d ∷ [])) < sessions
wanted_now count sessions before d some counts k less =
    let fewer : ended_sessions before < sessions = omega (arith, counts.left_are, some) in
    let first : 0 ≡ k = omega (arith, less) in
    subst (λ (n : ℕ). ended_sessions (before ++ take n (d ∷ [])) < sessions) first (rw append-nil fewer)

pub one_wanted : (x y : PlayoutState) (first last : SessionCount) (d : List ℕ) (outcome : Outcome)
    → Judges x y d outcome → 0 < first.left
    → ((sessions window : ℕ) (datagrams : List (List ℕ)) (datagram : List ℕ)
    → Counts first sessions datagrams → outcome ≡ outcome_behind window datagrams datagram
    → Counts last sessions (datagrams ++ datagram ∷ []))
    → HearsWanted x first y last (d ∷ [])
one_wanted x y first last d outcome judges some counted = record {
  hears = judges.hears;
  counts_on = λ form window held asked before sessions was counts. record {
    counts = counted sessions window before d counts (judges.judged form window before was.has_heard);
    wanted = wanted_now first sessions before d some counts;
  };
}
