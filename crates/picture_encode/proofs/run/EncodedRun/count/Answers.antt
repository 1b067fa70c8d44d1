use Rattle.std.proofs.Common.{◌≡◌, length, rules, sym, ap, ◌∙◌}
use Rattle.picture_encode.proofs.CodedRuns.{how_many}
use Rattle.picture_encode.proofs.run.EncodedRun.count.Goals as goal

pub returns : goal.returns
returns c =
    let run = c.self.inside in
    let len : c.len.result ≡ length run.ends.items = search rules in
    len ∙ sym (how_many 0 run.ends.items run.bytes.items) ∙ ap length c.self.view_is
