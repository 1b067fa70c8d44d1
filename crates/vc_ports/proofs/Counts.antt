-- A count of faults over more than one call.
use Rattle.std.proofs.Common.{ℕ, ◌≤◌, arith}
use Rattle.vc_ports.specs.Faults.{Rose}

-- a rise is one from any earlier time on
pub Rose-earlier : (before now later : ℕ) → before ≤ now → Rose now later → Rose before later
Rose-earlier before now later up rose = omega arith
