-- Raw frames without gaps (this project's own): where few frames are missing between two that are written,
-- the first of the two is written once more for each of them.
use Rattle.std.specs.Prelude.{ℕ, zero, suc, ◌-◌, nat_le, if◌then◌else◌, List, [], ◌∷◌, ◌++◌, Option}
use Rattle.std.specs.Prelude.{Some, None}

-- a frame that is written, and its number among the frames of its session
pub record WrittenFrame : Type 0 where
  pub number : ℕ
  pub bytes : List ℕ

-- so many in a row are filled, and none where more are missing
abbrev pub most_filled : ℕ
most_filled = 250

abbrev pub if_few : ℕ → ℕ
if_few missing = if nat_le missing most_filled then missing else 0

-- how often a frame is written once more before the next one
unfoldable pub times_again : WrittenFrame → WrittenFrame → ℕ
times_again before next = if_few (next.number - before.number - 1)

-- bytes so many times
unfoldable pub repeated : ℕ → List ℕ → List ℕ
repeated zero bytes = []
repeated (suc times) bytes = repeated times bytes ++ bytes

-- the frame before, if there is one, once more for each that is missing
abbrev pub again : Option WrittenFrame → WrittenFrame → List ℕ
again None next = []
again (Some before) next = repeated (times_again before next) before.bytes

-- frames in rising order, each after the repeats of the one before it
unfoldable pub filled_behind : Option WrittenFrame → List WrittenFrame → List ℕ
filled_behind before [] = []
filled_behind before (frame ∷ frames) =
    (again before frame ++ frame.bytes) ++ filled_behind (Some frame) frames

-- the last of them, or the one before
unfoldable pub last_frame : Option WrittenFrame → List WrittenFrame → Option WrittenFrame
last_frame before [] = before
last_frame before (frame ∷ frames) = last_frame (Some frame) frames

-- all of them, with nothing before the first
abbrev pub filled : List WrittenFrame → List ℕ
filled frames = filled_behind None frames
