-- What a ring keeps.
use Rattle.std.specs.Prelude.{◌<◌, ◌^◌, List, length}
use Rattle.machine_model.specs.Places.{JobPlace, AreApart, HaveOwnAnswers}

pub record IsRing (places : List JobPlace) : Type 0 where
  pub few : length places < 2 ^ 32
  pub apart : AreApart places
  pub own : HaveOwnAnswers places
