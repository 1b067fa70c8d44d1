-- How often a place stands in a list, and whether a seat holds it.
use Rattle.std.specs.Prelude.{ℕ, List, ◌==◌, cond}
use Rattle.std.specs.List.{count_by}
use Rattle.claim_board.specs.RunPlaces.{Content, Claimed}
use Rattle.claim_board.specs.declared.view.Lane.{Lane}

-- how often a number stands in a list
abbrev pub occurrences : ℕ → List ℕ → ℕ
occurrences number numbers = count_by (λ n. n == number) numbers

-- how often an empty place stands among those whose slots the feeder has
abbrev pub idle_count : Lane → ℕ
idle_count l = cond l.is_fetched (cond l.is_out 0 1) 0

-- how often a place with this content stands among those whose slots the seat has
abbrev pub held_count : ℕ → Content → ℕ
held_count seat (Claimed worker jobs) = cond (worker == seat) 1 0
held_count seat content = 0
