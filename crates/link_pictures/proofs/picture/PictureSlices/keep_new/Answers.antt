use Rattle.std.proofs.Common.{sym, ◌∙◌}
use Rattle.link_slices.specs.Jobs.{answered}
use Rattle.link_pictures.proofs.CompletedSlices.{none_is}
use Rattle.link_pictures.proofs.RunAnswers.{one-had, one-new}
use Rattle.link_pictures.proofs.picture.PictureSlices.keep_new.Goals as goal

pub returns-then-has : goal.returns-then-has
returns-then-has c = one-had c.args.self.now (answered c.args.done) (sym c.has.ensures ∙ c.if-has.true)

pub keep-requires : goal.keep-requires
keep-requires c = record { once = none_is _ (sym c.has.ensures ∙ c.if-has.false) }

pub returns : goal.returns
returns c = c.keep.ensures.value ∙ one-new c.args.self.now (answered c.args.done) (none_is _ (sym c.has.ensures ∙ c.if-has.false))
