-- The places that a receiver frees where it releases pictures.
use Rattle.std.specs.Prelude.{ℕ, zero, suc, List, [], ◌++◌}
use Rattle.std.specs.Option.{option_map_or}
use Rattle.receiver_model.specs.Receptions.{Reception}
use Rattle.receiver_model.specs.Releasing.{freed_places, next_picture, releases_picture_of}
use Rattle.receiver_model.specs.Releasing.{book_count}

-- while a picture may be released, at most so many
unfoldable pub freed_up_to : ℕ → Reception → List ℕ
freed_up_to zero r = []
freed_up_to (suc k) r = option_map_or
    (λ picture. freed_places r picture.number ++ freed_up_to k (releases_picture_of r picture))
    (next_picture r) []

abbrev pub all_freed_places : Reception → List ℕ
all_freed_places r = freed_up_to (book_count r) r
