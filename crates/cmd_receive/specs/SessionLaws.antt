-- Datagrams that a playout hears one after another while it waits for sessions to end. The laws of a
-- listener cite these.
use Rattle.std.proofs.Common.{◌≡◌, ℕ, ◌+◌, ◌-◌, ◌<◌, ◌≤◌, List, [], ◌++◌, length, take, subst}
use Rattle.std.proofs.Common.{arith, inl, inr, append-nil, append_assoc, length-append}
use Rattle.std.specs.Prelude.{◌⊎◌}
use Rattle.std.proofs.Math.Seq.{take-append-add}
use Rattle.std.proofs.lemmas.Bool.{cases_lt}
use Rattle.std.proofs.lemmas.List.{take-append-le}
use Rattle.link_hearing.specs.Sessions.{ended_sessions}
use Rattle.cmd_receive.specs.HearingLaws.{hears_then, none_heard}
use Rattle.cmd_receive.specs.Playouts.{PlayoutState}
use Rattle.cmd_receive.specs.Sessions.{CountsOn, HearsWanted}
use Rattle.cmd_receive.specs.declared.count.SessionCount.{SessionCount}

pub none_wanted : (x : PlayoutState) (count : SessionCount) → HearsWanted x count x count []
none_wanted x count = record {
  hears = none_heard x;
  counts_on = λ form window held asked before sessions was counts.
      record { counts = rw append-nil counts; wanted = λ k none. absurd (omega (arith, none)) };
}

module _ (mid last : SessionCount) (sessions : ℕ) (before first second : List (List ℕ))
    (p : CountsOn mid sessions before first) (q : CountsOn last sessions (before ++ first) second) where
  wanted_later : (k : ℕ) → k < length second
      → ended_sessions (before ++ take (length first + k) (first ++ second)) < sessions
  wanted_later k less =
      rw (take-append-add first second k, ← append_assoc before first (take k second)) (q.wanted k less)

  wanted_all : (k : ℕ) → k < length (first ++ second)
      → ended_sessions (before ++ take k (first ++ second)) < sessions
  wanted_all k less = by_place (cases_lt k (length first))
    where
      by_place : (k < length first) ⊎ (length first ≤ k)
          → ended_sessions (before ++ take k (first ++ second)) < sessions
      by_place (inl sooner) =
          rw (take-append-le k first second (omega (arith, sooner))) (p.wanted k sooner)
      by_place (inr later) =
          let is : length first + (k - length first) ≡ k = omega (arith, later) in
          subst (λ (n : ℕ). ended_sessions (before ++ take n (first ++ second)) < sessions) is
          (wanted_later (k - length first) (omega (arith, later, less, length-append first second)))

  counts_then : CountsOn last sessions before (first ++ second)
  counts_then = record { counts = rw (← append_assoc before first second) q.counts; wanted = wanted_all }

pub more_wanted : (x y z : PlayoutState) (c d e : SessionCount) (first second : List (List ℕ))
    → HearsWanted x c y d first → HearsWanted y d z e second → HearsWanted x c z e (first ++ second)
more_wanted x y z c d e first second p q = record {
  hears = hears_then p.hears q.hears;
  counts_on = λ form window held asked before sessions was counts.
      let one = p.counts_on form window held asked before sessions was counts in
      counts_then d e sessions before first second one
      (q.counts_on form window held asked (before ++ first) sessions
      (p.hears.since form window held asked before was) one.counts);
}
