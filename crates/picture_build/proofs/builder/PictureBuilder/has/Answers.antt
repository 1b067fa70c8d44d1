use Rattle.std.proofs.Common.{arith, sym, ◌∙◌, false}
use Rattle.std.proofs.lemmas.Bool.{le-ltb}
use Rattle.std.proofs.lemmas.List.{get_or_default, get_or_past}
use Rattle.picture_build.proofs.WaitingRuns.{seen-marked}
use Rattle.picture_build.proofs.builder.PictureBuilder.has.Goals as goal

pub returns-then-index-len : goal.returns-then-index-len
returns-then-index-len c =
    let s = c.self.inside in
    let came = s.came.items in
    c.index.ensures ∙ get_or_default came c.args.index c.index.result.now false (omega arith)
    ∙ seen-marked s.placed s.runs came c.self.invariant c.args.self.now c.self.view_is c.args.index

pub returns-else-index-len : goal.returns-else-index-len
returns-else-index-len c =
    let s = c.self.inside in
    let came = s.came.items in
    le-ltb c.args.index c.len.result (omega arith) ∙ sym (get_or_past came c.args.index false (omega arith))
    ∙ seen-marked s.placed s.runs came c.self.invariant c.args.self.now c.self.view_is c.args.index
