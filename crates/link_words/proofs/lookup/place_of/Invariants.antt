use Rattle.std.proofs.Common.{◌≡◌, ◌-◌, length}
use Rattle.link_words.specs.Grammar.{first_place}
use Rattle.link_words.specs.Settings.{stands_at}
use Rattle.link_words.proofs.lookup.place_of.Given as goal

abbrev pub invariant-names : goal.invariant-names
invariant-names l = first_place (stands_at l.words l.name) 1 (length l.words - 1) ≡ first_place (stands_at l.words l.name) l.place (length l.words - l.place)
