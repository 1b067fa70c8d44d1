-- The sessions of datagrams, followed one datagram after another, and a count of those still to end.
use Rattle.std.specs.Prelude.{◌≡◌, ℕ, ◌+◌, ◌-◌, Bool, true, false, ◌&&◌, not, ◌==◌, if◌then◌else◌}
use Rattle.std.specs.Prelude.{List, [], ◌∷◌, Option, Some, None, ⊤}
use Rattle.link_hearing.specs.Sessions.{ended_sessions}
use Rattle.link_model.specs.Session.{Session, HeardSession, is_other, sessions_of}
use Rattle.cmd_record.specs.Signs.{session_of}
use Rattle.cmd_record.specs.declared.sign.Opening.{Opening}
use Rattle.cmd_record.specs.declared.sign.Sign.{Sign}
use Rattle.cmd_record.specs.declared.sign.Sign.TheVariants.{Begins, Ends, Nothing}
use Rattle.cmd_record.specs.declared.watch.SessionWatch.{SessionWatch}

-- a session is the first one, or comes behind one that has ended, and is another
abbrev pub may_follow : Option Opening → (has_ended : Bool) → Session → Bool
may_follow None has_ended s = true
may_follow (Some last) has_ended s = has_ended && is_other (session_of last) s

-- the last session has this source, and hasn't had its end
abbrev pub is_open : Option Opening → (has_ended : Bool) → (ssrc : ℕ) → Bool
is_open None has_ended ssrc = false
is_open (Some last) has_ended ssrc = ssrc == last.ssrc && not has_ended

-- behind a datagram that is this
abbrev pub watch_behind : SessionWatch → Sign → SessionWatch
watch_behind w (Begins o) = if may_follow w.last w.has_ended (session_of o)
    then record { left = w.left; last = Some o; has_ended = false }
    else w
watch_behind w (Ends ssrc) = if is_open w.last w.has_ended ssrc
    then record { left = w.left - 1; last = w.last; has_ended = true }
    else w
watch_behind w Nothing = w

-- ---- what it stands for

-- the last of some sessions, the last one first, is the one that began last
abbrev pub IsLatestSession : Option Opening → (has_ended : Bool) → List HeardSession → Type 0
IsLatestSession None has_ended [] = ⊤
IsLatestSession (Some last) has_ended (h ∷ hs) =
    (h.session ≡ session_of last) × (h.has_ended ≡ has_ended)
IsLatestSession last has_ended hs = ⊥

-- of so many sessions, those that the datagrams don't end are left
pub record Watches (w : SessionWatch) (sessions : ℕ) (datagrams : List (List ℕ)) : Type 0 where
  pub left_are : w.left + ended_sessions datagrams ≡ sessions
  pub last_is : IsLatestSession w.last w.has_ended (sessions_of datagrams)
