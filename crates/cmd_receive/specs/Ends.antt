-- A count of the sessions that are still to end, as their datagrams are judged one after another.
use Rattle.std.specs.Prelude.{◌≡◌, ℕ, ◌+◌, ◌-◌, Bool, true, false, not}
use Rattle.std.specs.Prelude.{if◌then◌else◌, List, [], ◌∷◌}
use Rattle.link_hearing.specs.Sessions.{ended_sessions}
use Rattle.link_model.specs.Session.{HeardSession, sessions_of}
use Rattle.link_model.specs.declared.outcome.Outcome.{Outcome}
use Rattle.link_model.specs.declared.outcome.Outcome.TheVariants as outcomes
use Rattle.cmd_receive.specs.declared.count.SessionCount.{SessionCount}

-- the last of some sessions, the last one first, has not had its end
abbrev pub is_last_open : List HeardSession → Bool
is_last_open [] = false
is_last_open (h ∷ hs) = not h.has_ended

-- of so many sessions, those that the datagrams don't end are left
pub record Counts (c : SessionCount) (sessions : ℕ) (datagrams : List (List ℕ)) : Type 0 where
  pub left_are : c.left + ended_sessions datagrams ≡ sessions
  pub open_is : c.is_open ≡ is_last_open (sessions_of datagrams)

-- behind a datagram of which this became
abbrev pub count_behind : SessionCount → Outcome → SessionCount
count_behind c outcomes.HeaderNew = record { left = c.left; is_open = true }
count_behind c outcomes.End =
    if c.is_open then record { left = c.left - 1; is_open = false } else c
count_behind c outcome = c
