use Rattle.std.proofs.Common.{◌≡◌, ◌+◌, ◌-◌, suc, Bool, ap, sym, ◌∙◌, arith, rules}
use Rattle.std.specs.Prelude.{◌&&◌, true}
use Rattle.std.specs.List.{list_all, range_with_len}
use Rattle.link_model.specs.Windows.{complete_in}
use Rattle.link_window.proofs.window.Window.is_let_go.Goals as goal

pub loop-n-preserved : goal.loop-n-preserved
loop-n-preserved c =
    let w = c.args.self.now in
    let n = c.loop-n.n in
    let m = c.args.number + 1 - (n + 1) in
    let more : c.args.number + 1 - n ≡ suc m = omega arith in
    let complete : complete_in w n ≡ true = search rules in
    sym (ap (λ (b : Bool). b && list_all (complete_in w) (range_with_len (n + 1) m)) complete)
    ∙ ap (λ k. list_all (complete_in w) (range_with_len n k)) (sym more)
    ∙ c.loop-n.invariant
