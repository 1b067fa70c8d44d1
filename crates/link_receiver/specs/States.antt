-- A receiver as contracts see it: what it has, what it keeps of what it wrote, and whether it has
-- failed.
use Rattle.std.specs.Prelude.{◌≡◌, ◌≤◌, Bool, false, ◌||◌, Option, Some, None}
use Rattle.receiver_model.specs.Receptions.{StandingSession, FirstField, Reception}
use Rattle.receiver_model.specs.WholeBooks.{ArePicturePlanes}
use Rattle.link_pictures.specs.declared.written.Written.{Written}

pub record ReceiverState : Type 0 where
  pub reception : Reception
  pub written : Written
  pub has_failed : Bool

-- it failed, or the input has ended
abbrev pub has_stopped : ReceiverState → Bool
has_stopped r = r.has_failed || r.reception.has_ended

-- ---- what is true of one that goes on

-- the window of the session that stands takes fragments
abbrev pub IsRunning : Option StandingSession → Type 0
IsRunning None = Unit {0}
IsRunning (Some st) = st.window.is_ended ≡ false

-- a first field that waits is a picture of the session that stands
abbrev pub WaitsForSecond : Option StandingSession → Option FirstField → Type 0
WaitsForSecond standing None = Unit {0}
WaitsForSecond None (Some field) = ⊥
WaitsForSecond (Some st) (Some field) = ArePicturePlanes st.session.sequence field.planes

pub record IsReceiving (r : Reception) : Type 0 where
  pub least : 2 ≤ r.size
  pub most : r.size ≤ 8
  pub running : IsRunning r.standing
  pub waiting : WaitsForSecond r.standing r.field

abbrev pub IsReceiver : ReceiverState → Type 0
IsReceiver r = has_stopped r ≡ false → IsReceiving r.reception
