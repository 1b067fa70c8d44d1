use Rattle.std.proofs.Common.{◌∙◌, sym, rules, arith}
use Rattle.std.specs.Int.{w32}
use Rattle.std.proofs.Common.{SFits}
use Rattle.std.proofs.lemmas.Int.{to_z-of_z}
use Rattle.rtcp_reports.proofs.Losses.{block_is, none_reported, some_reported}
use Rattle.rtcp_reports.proofs.track.Track.block.Goals as goal

pub returns-then-self-gt0-clause-state : goal.returns-then-self-gt0-clause-state
returns-then-self-gt0-clause-state c = none_reported _ _ c.self.view_is (λ none. omega arith)

pub returns-clause-value : goal.returns-clause-value
returns-clause-value c =
    let fits : SFits w32 c.loss.result = search rules in
    block_is c.args.ssrc c.fraction.result c.from.result c.from-2.result _ _ _ c.self.view_is c.from.ensures c.from-2.ensures
    c.fraction.ensures (to_z-of_z w32 c.loss.result fits ∙ c.loss.ensures)

pub returns-clause-state : goal.returns-clause-state
returns-clause-state c =
    sym (some_reported c.from.result c.from-2.result _ _ c.self.view_is (omega arith) c.from.ensures c.from-2.ensures)
