-- Workers are started, and then the places are asked.
use Rattle.std.proofs.Common.{ℕ, List, ◌∷◌, Option, Ok, ap}
use Rattle.vc_slice.specs.Asked.{Told, Grows, told_more, starting}
use Rattle.link_receiver.specs.HeardLists.{AskedPlaces}
use Rattle.link_receiver.specs.StartedWorkers.{HasStarted}
use Rattle.link_receiver.proofs.Asked.{grows_twice}

-- workers were started, and then places were asked
pub started : (workers : ℕ) (before mid after : Option Told) → Grows before mid (starting workers (Ok tt))
    → AskedPlaces mid after → HasStarted workers (record { before = before; after = after })
started workers before mid after grew asked = record {
  more = told_more (starting workers (Ok tt)) asked.more;
  grows = grows_twice before mid after (starting workers (Ok tt)) asked.more grew asked.grows;
  started = ap (λ (l : List ℕ). workers ∷ l) asked.started;
}
