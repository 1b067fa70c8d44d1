use Rattle.std.proofs.Common.{◌≡◌, ℕ, List, [], ◌∷◌, ◌++◌, take, arith, ap, sym, ◌∙◌}
use Rattle.std.proofs.lemmas.List.{take_all, take_more}
use Rattle.vc_slice.proofs.RunJobs.{same_slices}
use Rattle.vc_slice.proofs.run.RunJob.copy.Goals as goal

pub loop-bytes-preserved : goal.loop-bytes-preserved
loop-bytes-preserved c =
    let items = c.deref-bytes-items.result.now in
    let i = c.loop-bytes.bytes-index in
    c.in_ok-push.ensures.items
    ∙ ap (λ (xs : List (List ℕ)). xs ++ c.in-Ok.bytes ∷ []) c.loop-bytes.invariant
    ∙ ap (λ (b : List ℕ). take i items ++ b ∷ []) (c.in-Ok.ensures.cases ∙ c.bytes-item.is)
    ∙ sym (take_more items i c.bytes-item.result (omega arith))

pub invariant_of-result : goal.invariant_of-result
invariant_of-result c =
    let same : c.loop-bytes.slices.items ≡ c.args.self.now.slices.items =
    c.loop-bytes.invariant ∙ take_all c.loop-bytes.bytes-index c.deref-bytes-items.result.now (omega arith) ∙ c.deref-bytes-items.ensures.value in
    let now = same_slices c.args.self.now c.loop-bytes.slices.items same in
    record { whole = now.whole; some = now.some; few = now.few; run = now.run }
