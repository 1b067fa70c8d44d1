use Rattle.std.proofs.Common.{◌<◌, ◌≤◌, sym, ◌∙◌, arith}
use Rattle.std.proofs.lemmas.List.Elements.{All-weaker}
use Rattle.link_sender.proofs.Outside.{found, passed, ended}
use Rattle.link_sender.proofs.SentFrames.{none_outside}
use Rattle.link_sender.proofs.samples.first_outside.Goals as goal

pub returns-then-from-limit : goal.returns-then-from-limit
returns-then-from-limit c = sym
    (none_outside c.args.limit 0 c.args.samples.now
    (All-weaker (λ s. s ≤ c.greatest.result) (λ s. s < c.args.limit) (λ s most. omega arith)
    c.args.samples.now c.greatest.ensures))

pub returns-then-from-limit-2 : goal.returns-then-from-limit-2
returns-then-from-limit-2 c = sym (found c.args.limit c.loop-place.place c.args.samples.now (omega arith) (omega arith)) ∙ c.loop-place.invariant

pub loop-place-preserved : goal.loop-place-preserved
loop-place-preserved c = passed c.args.limit c.loop-place.place c.args.samples.now (omega arith) (omega arith) ∙ c.loop-place.invariant

pub returns : goal.returns
returns c = sym (ended c.args.limit c.loop-place.place c.args.samples.now (omega arith)) ∙ c.loop-place.invariant
