use Rattle.std.proofs.Common.{◌≤◌, ◌*◌, ◌%◌, ◌^◌, ◌<◌, ℕ, List, All, subst, sym, ◌∙◌, arith}
use Rattle.link_sender.proofs.SampleFaults.{no_fault, no_fault_in_parts, none_rest}
use Rattle.link_sender.proofs.samples.check_planes_joined.Goals as goal

pub returns-then-from-depths-2-clause-sound : goal.returns-then-from-depths-2-clause-sound
returns-then-from-depths-2-clause-sound g c =
    let luma = c.greatest_by_four-luma.result.0 in
    let colour = c.greatest_by_four-luma.result.1 in
    let most = c.greatest_by_four-luma.ensures in
    let of_y : luma < 1 * 2 ^ c.args.depths.0 % 2 ^ 32 = omega (arith, c.if-from-depths.true, c.from.ensures) in
    let of_c : colour < 1 * 2 ^ c.args.depths.1 % 2 ^ 32 = omega (arith, c.if-from-depths-2.true, c.from-then-from-depths.ensures) in
    let c1 = subst (λ (l : List ℕ). All (λ s. s ≤ colour) l) c.samples-3.ensures.value most.c1 in
    let c2 = subst (λ (l : List ℕ). All (λ s. s ≤ colour) l) c.samples-4.ensures.value most.c2 in
    none_rest _ _
    (no_fault_in_parts c.args.depths.0 0 luma c.requires.0 of_y c.args.y.now c.split_at.result.0.now c.split_at.result.1.now (sym c.samples.ensures.value ∙ c.split_at.ensures.by_index.0) most.front most.back)
    (none_rest _ _
    (no_fault c.args.depths.1 1 colour c.requires.1 of_c c.args.c1.now c1)
    (no_fault c.args.depths.1 2 colour c.requires.1 of_c c.args.c2.now c2))
