use Rattle.std.proofs.Common.{◌≡◌, ◌+◌, drop}
use Rattle.link_window.specs.Places.{number_place}
use Rattle.link_window.proofs.books.place_of.Given as goal

-- those that were seen have lesser numbers
abbrev pub invariant-loop-place : goal.invariant-loop-place
invariant-loop-place l = l.place + number_place (drop l.place l.pictures) l.number ≡ number_place l.pictures l.number
