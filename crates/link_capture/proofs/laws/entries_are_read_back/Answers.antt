use Rattle.link_capture.proofs.Entries.{entries_of-written, entries_of-is, entries_of-rest, entries_of-begun}
use Rattle.link_capture.proofs.laws.entries_are_read_back.Goals as goal

pub returns : goal.returns
returns c = record { written = entries_of-written; bytes = entries_of-is; rest = entries_of-rest; cut = entries_of-begun }
