use Rattle.std.proofs.Common.{arith, ap, refl, sym, ◌∙◌, ◌∷◌, ◌<◌, ◌≡◌, length, vec_len, List, ℕ, Some}
use Rattle.std.specs.VecDeque.{deque_capacity}
use Rattle.atomic_table.specs.Table.{rest}
use Rattle.claim_board.specs.Plays.{SeatState}
use Rattle.claim_board.specs.Rule.{Slot}
use Rattle.claim_board.proofs.Idle.{room_left, fetched_then, idle_back, inside, small_then}
use Rattle.claim_board.proofs.board.Board.take_back.Goals as goal

pub open-cargo-requires-clause-slot : goal.open-cargo-requires-clause-slot
open-cargo-requires-clause-slot c =
    let won = c.try_take_back-word.ensures.won c.if-word-serial.false in
    let e = won.did.1 in
    (won.cargo, e ∙ ap (λ (r : List (ℕ × Slot)). (c.args.place, Some won.cargo) ∷ r) (sym (ap rest e)))

pub returned-requires-clause-room : goal.returned-requires-clause-room
returned-requires-clause-room c =
    let f = c.args.f.now in
    let won = c.try_take_back-word.ensures.won c.if-word-serial.false in
    let long : length f.lanes.items ≡ vec_len f.lanes = omega arith in
    let h : length f.order.items < deque_capacity f.order = room_left f.seat.me.0 f.order.items (vec_len f.lanes) (deque_capacity f.order) c.args.place (ap length f.mirrors ∙ long) f.idle f.room won.out (inside c.args.self.now f c.args.place c.requires.seat c.requires.place) in
    omega arith

pub invariant_of-f-2-clause-idle : goal.invariant_of-f-2-clause-idle
invariant_of-f-2-clause-idle c =
    let won = c.try_take_back-word.ensures.won c.if-word-serial.false in
    idle_back c.args.self.now c.args.f.now c.args.place c.requires.seat c.requires.place c.open-cargo.new.seat.me.0 c.returned.new.order.items (ap (λ (m : SeatState). m.0.lanes) c.open-cargo.ensures.slot ∙ won.empty) c.returned.ensures.order won.out

pub invariant_of-f-2-clause-fetched : goal.invariant_of-f-2-clause-fetched
invariant_of-f-2-clause-fetched c = λ q below.
    let won = c.try_take_back-word.ensures.won c.if-word-serial.false in
    let same = c.returned.ensures.wide in
    fetched_then c.args.self.now c.args.f.now c.args.place c.requires.seat c.requires.place c.open-cargo.new.seat.me.0 _ (ap (λ (m : SeatState). m.0.lanes) c.open-cargo.ensures.slot ∙ won.empty) refl q (omega arith)

pub invariant_of-f-2-clause-small : goal.invariant_of-f-2-clause-small
invariant_of-f-2-clause-small c =
    let f = c.args.f.now in
    let won = c.try_take_back-word.ensures.won c.if-word-serial.false in
    small_then c.args.self.now f c.args.place c.requires.seat c.requires.place c.open-cargo.new.seat.me.0 _ (ap (λ (m : SeatState). m.0.lanes) c.open-cargo.ensures.slot ∙ won.empty) (f.small c.args.place)
