-- What a receiver keeps of a datagram.
use Rattle.std.specs.Prelude.{◌≡◌, ℕ, List, [], map, Option, None}
use Rattle.std.specs.Option.{option_map, option_map_or}
use Rattle.link_model.specs.Session.{received, begins}
use Rattle.receiver_model.specs.Entering.{jobs_before}
use Rattle.receiver_model.specs.Judging.{opens_after, outcome_by, stands_on}
use Rattle.receiver_model.specs.Receptions.{StandingSession}
use Rattle.link_window.specs.Openings.{session_of}
use Rattle.link_slices.specs.Jobs.{job_of}
use Rattle.link_receiver.specs.States.{IsRunning}
use Rattle.link_receiver.specs.declared.kept.Kept.{Kept}

-- the session behind the datagram, its outcome, the jobs that it brings and the session that it
-- opens
pub record DatagramIsKept (old new : Option StandingSession) (datagram : List ℕ) (kept : Kept)
    : Type 0 where
  pub standing : new
      ≡ option_map (λ st. stands_on (opens_after old (begins datagram)) st datagram) old
  pub outcome : outcome_by old (received datagram) ≡ kept.outcome
  pub jobs : map job_of kept.jobs.items
      ≡ option_map_or (λ st. jobs_before (opens_after old (begins datagram)) st datagram) old []
  pub opening : opens_after old (begins datagram) ≡ option_map session_of kept.opening
  pub running : kept.opening ≡ None → IsRunning new
