-- What code keeps of a source's numbers.
use Rattle.std.specs.Prelude.{◌≡◌, ◌+◌, ◌*◌, ◌^◌, ◌≤◌}
use Rattle.rtcp_reports.specs.Tracks.{Tracked, expected, extended}
use Rattle.rtcp_reports.specs.declared.track.Track.TheInside.{Inside}

abbrev pub tracked : Inside → Tracked
tracked t = record {
  base = t.base;
  greatest = t.greatest;
  bad = t.bad;
  cycles = t.cycles;
  probation = t.probation;
  received = t.received;
  expected_prior = t.expected_prior;
  received_prior = t.received_prior;
  updates = t.updates;
}

-- Each count has its bound by the number of updates, no count is below what it was at the report before, and
-- for each packet that counts no more than twice all numbers are expected.
pub record HasCounted (t : Tracked) : Type 0 where
  pub updates : t.updates ≤ 2 ^ 32
  pub cycles : t.cycles ≤ 65536 * t.updates
  pub received : t.received ≤ t.updates
  pub received_prior : t.received_prior ≤ t.received
  pub base : t.probation ≡ 0 → t.base ≤ extended t
  pub expected_prior : t.probation ≡ 0 → t.expected_prior ≤ expected t
  pub came : t.probation ≡ 0
      → expected t + 131072 * t.received_prior ≤ t.expected_prior + 131072 * t.received
