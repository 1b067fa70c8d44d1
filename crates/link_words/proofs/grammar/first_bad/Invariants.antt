use Rattle.std.proofs.Common.{◌≡◌, ◌-◌, length, not}
use Rattle.link_words.specs.Grammar.{first_place, word_fits}
use Rattle.link_words.proofs.grammar.first_bad.Given as goal

abbrev pub invariant-words : goal.invariant-words
invariant-words l = first_place (λ place. not (word_fits l.command l.words place)) 1 (length l.words - 1) ≡ first_place (λ place. not (word_fits l.command l.words place)) l.place (length l.words - l.place)
