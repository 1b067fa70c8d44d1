use Rattle.std.proofs.Common.{◌≡◌, ◌+◌, List, [], ◌∷◌, ◌++◌, ℕ, length, rules, sym, subst, ap, ◌∙◌}
use Rattle.std.proofs.lemmas.List.{length-append}
use Rattle.picture_encode.specs.IndexedSlices.{AreEnds, run_slices_from}
use Rattle.picture_encode.specs.declared.run.SliceEnd.{SliceEnd}
use Rattle.picture_encode.proofs.CodedRuns.{ends_more, slices_more}
use Rattle.picture_encode.proofs.run.EncodedRun.push.Goals as goal

pub invariant_of-self-in-Ok : goal.invariant_of-self-in-Ok
invariant_of-self-in-Ok c =
    let run = c.self.inside in
    let bytes = run.bytes.items in
    let more = c.deref.result.now in
    let e : SliceEnd = record { index = c.args.slice.now.index; end = c.len.result } in
    let long = ap length c.in_ok-extend_from_slice.ensures.items ∙ length-append bytes more in
    let end : c.len.result ≡ length c.extend_from_slice.new.self.items = search rules in
    subst (λ (l : List SliceEnd). AreEnds 0 l (length c.extend_from_slice.new.self.items)) (sym c.in-Ok.ensures.items)
    (subst (λ (n : ℕ). AreEnds 0 (run.ends.items ++ e ∷ []) n) (sym long) (ends_more 0 run.ends.items (length bytes) (length more) e c.self.invariant (end ∙ long)))

pub returns-in-Ok-clause-ok : goal.returns-in-Ok-clause-ok
returns-in-Ok-clause-ok c =
    let run = c.self.inside in
    let bytes = run.bytes.items in
    let more = c.deref.result.now in
    let e : SliceEnd = record { index = c.args.slice.now.index; end = c.len.result } in
    let grown = c.in_ok-extend_from_slice.ensures.items in
    let long = ap length grown ∙ length-append bytes more in
    let end : c.len.result ≡ length c.extend_from_slice.new.self.items = search rules in
    let ends = c.in-Ok.ensures.items in
    (λ i. run_slices_from 0 (ends i) (grown i))
    ∙ slices_more 0 run.ends.items bytes more e c.self.invariant (end ∙ long)
    ∙ (λ i. c.self.view_is i ++ record { index = e.index; bytes = c.deref.ensures.value i } ∷ [])
