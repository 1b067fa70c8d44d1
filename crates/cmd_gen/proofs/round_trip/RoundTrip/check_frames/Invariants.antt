use Rattle.std.proofs.Common.{◌≡◌, ◌*◌, ℕ, []}
use Rattle.cmd_gen.specs.Comparing.{IsCheckedUpTo}
use Rattle.cmd_gen.specs.Looping.{HasChecked}
use Rattle.cmd_gen.specs.Defaults.{shape_of_frames}
use Rattle.cmd_gen.specs.Generator.{frame_samples, generated_frames, state_behind}
use Rattle.link_receiver.specs.HeardLists.{AskedPlaces}
use Rattle.link_slices.specs.Calls.{PlacesAreBelow}
use Rattle.vc_types.specs.SenderSettings.{generating_view}
use Rattle.cmd_gen.proofs.round_trip.RoundTrip.check_frames.Given as goal

abbrev pub invariant-loop-frame : goal.invariant-loop-frame
invariant-loop-frame g l = record {
  state : l.state ≡ state_behind l.g.seed (l._frame * frame_samples (shape_of_frames (generating_view l.g).frames));
  settings : l.self.sender.settings ≡ l.fn.self.sender.settings;
  chooser : l.self.sender.chooser ≡ l.fn.self.sender.chooser;
  checked : (window : ℕ) → IsCheckedUpTo (generating_view l.g) window [] l.fn.self.checker
      → HasChecked (generating_view l.g) window (generated_frames (shape_of_frames (generating_view l.g).frames) l.g.seed l._frame) l.self.sender l.self.checker;
  told : AskedPlaces (g.P.Places.told l.fn.places) (g.P.Places.told l.places);
  below : PlacesAreBelow (g.P.Places.bound l.places) l.self.checker.receiver.reception.out;
}
