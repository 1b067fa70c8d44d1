use Rattle.std.proofs.Common.{◌≡◌, ◌-◌}
use Rattle.link_words.specs.Grammar.{first_place, excluded_at}
use Rattle.link_words.proofs.grammar.is_given_before.Given as goal

abbrev pub invariant-names : goal.invariant-names
invariant-names l = first_place (excluded_at l.words l.place) 1 (l.place - 1) ≡ first_place (excluded_at l.words l.place) l.earlier (l.place - l.earlier)
