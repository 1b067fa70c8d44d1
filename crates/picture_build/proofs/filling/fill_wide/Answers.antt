use Rattle.std.proofs.Common.{arith, ◌∙◌}
use Rattle.picture_build.proofs.WholeSlices.{small_at}
use Rattle.picture_build.proofs.filling.fill_wide.Goals as goal

pub place_wide-requires-clause-small : goal.place_wide-requires-clause-small
place_wide-requires-clause-small c = λ i h. small_at c.args.coeffs.now i c.requires.small h

pub returns-then-narrowed : goal.returns-then-narrowed
returns-then-narrowed c = record {
  only = record { length = c.place_numbers.ensures.length; others = c.place_numbers.ensures.off };
  own = λ i h. c.place_numbers.ensures.on i h
      ∙ c.narrowed.ensures.value c.if-narrowed.true i (omega (arith, c.requires.count));
}

pub returns-else-narrowed : goal.returns-else-narrowed
returns-else-narrowed c = record {
  only = record { length = c.place_wide.ensures.length; others = c.place_wide.ensures.off };
  own = c.place_wide.ensures.on;
}
