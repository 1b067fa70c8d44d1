use Rattle.std.proofs.Common.{List, ℕ, take, ◌++◌, ◌∷◌, [], ap, sym, ◌∙◌}
use Rattle.std.proofs.lemmas.List.{flat_map_more, take_more}
use Rattle.std.specs.List.{flat_map}
use Rattle.std.specs.String.{string_bytes}
use Rattle.cmd_probe.specs.Description.{source_text}
use Rattle.cmd_probe.specs.declared.source.Source.{Source}
use Rattle.cmd_probe.proofs.description.push_sources.Goals as goal

pub loop-source-preserved : goal.loop-source-preserved
loop-source-preserved c =
    let all = c.args.sources.now in
    let i = c.loop-source.source-index in
    let front = string_bytes c.args.text.now in
    let more = take_more all i c.source-item.result c.loop-source-test.true
    ∙ ap (λ (s : Source). take i all ++ s ∷ []) (sym c.source-item.is) in
    c.in_ok-push_source.ensures
    ∙ ap (λ (l : List ℕ). l ++ source_text c.source-item.result) c.loop-source.invariant
    ∙ flat_map_more source_text front (take i all) c.source-item.result
    ∙ ap (λ (l : List Source). front ++ flat_map source_text l) (sym more)
