-- Releases one step at a time: while there is a next picture it is released, and the rest follows.
use Rattle.std.proofs.Common.{◌≡◌, ℕ, zero, suc, refl, ap, [], ◌++◌, Option, Some, None, arith}
use Rattle.std.specs.Option.{option_map_or}
use Rattle.link_model.specs.Windows.{Releasable}
use Rattle.receiver_model.specs.Receptions.{Reception}
use Rattle.receiver_model.specs.Releasing.{next_picture, releases_picture_of, released_bytes}
use Rattle.receiver_model.specs.Releasing.{releases_up_to, bytes_up_to}

-- ---- at most none

pub none_released : (r : Reception) → releases_up_to 0 r ≡ r
unfolding releases_up_to
none_released r = refl

-- ---- the next one, and then the rest

module _ (k : ℕ) (r : Reception) (picture : Releasable) (is : next_picture r ≡ Some picture) where
  pub step_on : releases_up_to (suc k) r ≡ releases_up_to k (releases_picture_of r picture)
  unfolding releases_up_to
  step_on = ap (λ (o : Option Releasable). option_map_or
      (λ picture. releases_up_to k (releases_picture_of r picture)) o r) is

  pub step_bytes : bytes_up_to (suc k) r
      ≡ released_bytes r picture ++ bytes_up_to k (releases_picture_of r picture)
  unfolding bytes_up_to
  step_bytes = grind arith

-- ---- none is next

pub stops : (k : ℕ) (r : Reception) → next_picture r ≡ None → releases_up_to k r ≡ r
unfolding releases_up_to
stops zero r none = refl
stops (suc k) r none = ap (λ (o : Option Releasable). option_map_or
    (λ picture. releases_up_to k (releases_picture_of r picture)) o r) none

pub stops_writing : (k : ℕ) (r : Reception) → next_picture r ≡ None → bytes_up_to k r ≡ []
unfolding bytes_up_to
stops_writing zero r none = refl
stops_writing (suc k) r none = grind arith
