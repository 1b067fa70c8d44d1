use Rattle.std.proofs.Common.{◌≡◌, ◌+◌, ℕ, None, arith, sym, subst, ◌∙◌, inl, inr}
use Rattle.std.proofs.lemmas.Bool.{cases_lt}
use Rattle.receiver_model.specs.Receptions.{answer_at}
use Rattle.link_pictures.proofs.CompletedSlices.{none_is}
use Rattle.link_pictures.proofs.picture.PictureSlices.has_none.Goals as goal

pub loop-k-preserved : goal.loop-k-preserved
loop-k-preserved c = λ k h. elim (cases_lt k c.loop-k.k) [
  | inl lt ↦ c.loop-k.invariant k lt
  | inr ge ↦ (
      let same : c.loop-k.k ≡ k = omega arith in
      subst (λ (i : ℕ). answer_at c.args.self.now.slices (c.args.job.now.first + i) ≡ None) same (none_is _ (sym c.has.ensures ∙ c.if-has.false)))
]

pub returns : goal.returns
returns c = λ is k h. c.loop-k.invariant k (omega arith)
