use Rattle.std.proofs.Common.{ℕ, ◌++◌, List, take}
use Rattle.cmd_gen.specs.Comparing.{IsCheckedUpTo}
use Rattle.link_receiver.specs.HeardLists.{AskedPlaces}
use Rattle.link_sender.specs.Packing.{bytes_of_all}
use Rattle.link_slices.specs.Calls.{PlacesAreBelow}
use Rattle.vc_types.specs.SenderSettings.{Generating}
use Rattle.cmd_gen.proofs.checker.Checker.take_all.Given as goal

abbrev pub invariant-loop-datagram : goal.invariant-loop-datagram
invariant-loop-datagram g l = record {
  checked : (generating : Generating) (window : ℕ) (heard : List (List ℕ)) → IsCheckedUpTo generating window heard l.fn.self
      → IsCheckedUpTo generating window (heard ++ bytes_of_all (take l.datagram-index l.datagrams)) l.self;
  told : AskedPlaces (g.P.Places.told l.fn.places) (g.P.Places.told l.places);
  below : PlacesAreBelow (g.P.Places.bound l.places) l.self.receiver.reception.out;
}
