-- What is true of the window of a session that stands.
use Rattle.std.specs.Prelude.{◌≡◌, ◌≤◌, ◌<◌, ◌-◌, ◌^◌}
use Rattle.link_model.specs.Windows.{Window, WindowPast, StandsForPast}
use Rattle.vc_types.specs.SequenceHeader.{Sequence}

-- it stands for some past of the sequence, and its size and its greatest number are within bounds
pub record IsSessionWindow (s : Sequence) (w : Window) : Type 0 where
  pub past : WindowPast
  pub stands : StandsForPast w past
  pub sequence : past.sequence ≡ s
  pub least : 2 ≤ w.size
  pub most : w.size ≤ 8
  pub top : w.top < 2 ^ 64 - 16
