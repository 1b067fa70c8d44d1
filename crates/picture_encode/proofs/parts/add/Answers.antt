use Rattle.std.proofs.Common.{List, ap, ◌∙◌}
use Rattle.vc_types.specs.Fields.{joined}
use Rattle.picture_encode.specs.IndexedSlices.{IndexedSlice}
use Rattle.picture_encode.proofs.CodedRuns.{joined_more}
use Rattle.picture_encode.proofs.parts.add.Goals as goal

pub returns : goal.returns
returns c = ap (λ (l : List (List IndexedSlice)). joined l) c.in_ok-push.ensures.items ∙ joined_more c.args.runs.now.items c.args.run
