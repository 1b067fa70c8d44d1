use Rattle.std.proofs.Common.{rules, ◌≡◌, ◌∙◌, ℕ, List, sym, subst, replicate, None}
use Rattle.atomic_table.specs.Table.{opening}
use Rattle.claim_board.specs.Views.{first_view}
use Rattle.claim_board.specs.Rule.{BoardRule, Slot}
use Rattle.claim_board.proofs.Workers.{opens}
use Rattle.claim_board.proofs.made.board_of.Goals as goal

pub vacant-requires : goal.vacant-requires
vacant-requires c =
    let none : Slot = None in
    let P : List ℕ → Type 0 = λ ws. BoardRule (opening ws (replicate c.args.places none) (first_view c.args.places)) in
    let words : c.as_slice.result.now ≡ replicate c.args.places 0 = c.as_slice.ensures.value ∙ search rules in
    subst P (sym words) (opens c.args.places)
