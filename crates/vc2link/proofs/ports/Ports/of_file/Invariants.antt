use Rattle.std.proofs.Common.{◌≤◌, ◌*◌}
use Rattle.vc2link.proofs.ports.Ports.of_file.Given as goal

abbrev pub invariant-records : goal.invariant-records
invariant-records l = l.reader.place ≤ l.record * 262184
