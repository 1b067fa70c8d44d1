use Rattle.picture_encode.proofs.parts.encode_each.Goals as goal

pub returns-clause-each : goal.returns-clause-each
returns-clause-each g c = λ part d below. (c.in_ok-answers.ensures.each part d below).1.met
