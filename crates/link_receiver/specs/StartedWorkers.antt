-- Workers that were started.
use Rattle.std.specs.Prelude.{◌≡◌, ℕ, [], ◌∷◌, Option}
use Rattle.vc_ports.specs.Changes.{Change}
use Rattle.vc_slice.specs.Asked.{Told, Grows}

-- so many were started, once
pub record HasStarted (workers : ℕ) (hands : Change (Option Told)) : Type 0 where
  pub more : Told
  pub grows : Grows hands.before hands.after more
  pub started : more.started ≡ workers ∷ []
