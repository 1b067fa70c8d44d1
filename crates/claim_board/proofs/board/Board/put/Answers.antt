use Rattle.std.proofs.Common.{arith, ap, sym, set, get_or, ◌+◌, false, ◌∙◌, ◌≡◌, ◌<◌, true, refl, length, List}
use Rattle.std.proofs.lemmas.List.{get_or_default}
use Rattle.claim_board.specs.declared.view.Lane.{Lane}
use Rattle.claim_board.specs.Views.{SeatView, lane, lane_at}
use Rattle.claim_board.proofs.Idle.{fetched_then, here_then, idle_then, inside, small_then}
use Rattle.claim_board.proofs.board.Board.put.Goals as goal

pub invariant_of-f-clause-idle : goal.invariant_of-f-clause-idle
invariant_of-f-clause-idle c =
    idle_then c.args.self.now c.args.f.now c.args.place c.requires.seat c.requires.place c.put_at.new.seat.me.0 c.put_at.new.order.items (ap (λ (v : SeatView). v.lanes) c.put_at.ensures.did.view) c.put_at.ensures.order c.requires.empty

pub invariant_of-f-clause-mirrors : goal.invariant_of-f-clause-mirrors
invariant_of-f-clause-mirrors c =
    let f = c.args.f.now in
    let place = c.args.place in
    let within : place < length f.lanes.items = (let h = inside c.args.self.now f place c.requires.seat c.requires.place in omega arith) in
    let was : lane_at f.seat.me.0 place ≡ c.index.result.now = ap (λ (ls : List Lane). get_or ls place (lane 0 false false)) f.mirrors ∙ (get_or_default f.lanes.items place (lane 0 false false) c.index.result.now within ∙ sym c.index.ensures) in
    ap (λ (v : SeatView). v.lanes) c.put_at.ensures.did.view
    ∙ (ap (λ (ls : List Lane). set ls place (lane ((lane_at f.seat.me.0 place).serial + 1) true true)) f.mirrors
    ∙ ap (λ (l : Lane). set f.lanes.items place (lane (l.serial + 1) true true)) was)

pub invariant_of-f-clause-fetched : goal.invariant_of-f-clause-fetched
invariant_of-f-clause-fetched c = λ q below.
    let f = c.args.f.now in
    fetched_then c.args.self.now f c.args.place c.requires.seat c.requires.place c.put_at.new.seat.me.0 _ (ap (λ (v : SeatView). v.lanes) c.put_at.ensures.did.view) refl q (omega arith)

pub invariant_of-f-clause-small : goal.invariant_of-f-clause-small
invariant_of-f-clause-small c =
    small_then c.args.self.now c.args.f.now c.args.place c.requires.seat c.requires.place c.put_at.new.seat.me.0 _ (ap (λ (v : SeatView). v.lanes) c.put_at.ensures.did.view) (omega (arith, c.requires.serial))

pub returns-clause-out : goal.returns-clause-out
returns-clause-out c =
    here_then c.args.self.now c.args.f.now c.args.place c.requires.seat c.requires.place c.put_at.new.seat.me.0 _ (ap (λ (v : SeatView). v.lanes) c.put_at.ensures.did.view)
