use Rattle.std.proofs.Common.{arith, ap, refl, sym, ◌∙◌, ◌≡◌, ◌<◌, ◌≤◌, length}
use Rattle.std.specs.VecDeque.{deque_capacity}
use Rattle.atomic_table.specs.Seated.{TableId}
use Rattle.claim_board.specs.Counts.{occurrences}
use Rattle.claim_board.proofs.Holds.{below_more, claimed_holds, held_claimed, held_read, not_held_yet, room_for_one}
use Rattle.claim_board.proofs.board.Board.claim.Goals as goal

pub push_front_reserved-requires : goal.push_front_reserved-requires
push_front_reserved-requires c =
    let s = c.args.s.now in
    let none = not_held_yet c.args.place c.in-Ok.claimed.serial c.in-Ok.claimed.load.job s.seat.me.0 c.claim_at.new.seat.me.0 c.in-Ok.ensures.claimed in
    let words : s.seat.table_id.words ≡ c.args.self.now.table.shared.table_id.words = ap (λ (t : TableId). t.words) c.requires.seat.0 in
    let within : c.args.place < s.seat.table_id.words = (let p = c.requires.place in omega arith) in
    let h : length s.order.items < deque_capacity s.order = room_for_one c.args.place s.seat.table_id.words (deque_capacity s.order) s.order.items s.seat.me.0 s.holds s.below none within s.room in
    omega arith

pub invariant_of-s-2-clause-holds : goal.invariant_of-s-2-clause-holds
invariant_of-s-2-clause-holds c = λ q.
    let s = c.args.s.now in
    ap (occurrences q) c.push_front_reserved.ensures.items
    ∙ held_claimed c.args.place c.in-Ok.claimed.serial c.in-Ok.claimed.load.job s.seat.me.0 c.claim_at.new.seat.me.0 q s.order.items c.in-Ok.ensures.claimed s.holds

pub invariant_of-s-2-clause-below : goal.invariant_of-s-2-clause-below
invariant_of-s-2-clause-below c = λ q past.
    let s = c.args.s.now in
    let words : s.seat.table_id.words ≡ c.args.self.now.table.shared.table_id.words = ap (λ (t : TableId). t.words) c.requires.seat.0 in
    let same : c.claim_at.new.seat.table_id.words ≡ s.seat.table_id.words = ap (λ (t : TableId). t.words) c.claim_at.ensures.id.table in
    let within : c.args.place < s.seat.table_id.words = (let p = c.requires.place in omega arith) in
    let above : s.seat.table_id.words ≤ q = omega arith in
    ap (occurrences q) c.push_front_reserved.ensures.items ∙ below_more c.args.place q s.seat.table_id.words s.order.items within above (s.below q above)

pub invariant_of-s : goal.invariant_of-s
invariant_of-s c =
    let s = c.args.s.now in
    let found = c.in-Err.ensures.refused in
    let same : c.claim_at.new.seat.table_id.words ≡ s.seat.table_id.words = ap (λ (t : TableId). t.words) c.in-Err.ensures.id.table in
    let wide = s.room in
    record {
      slots = found.2 ∙ s.slots;
      holds = λ q. s.holds q ∙ sym (held_read c.args.place c.in-Err.word s.seat.me.0 c.claim_at.new.seat.me.0 q found.0);
      below = λ q past. s.below q (omega arith);
      room = omega arith;
    }

pub returns-clause-mine : goal.returns-clause-mine
returns-clause-mine c = claimed_holds c.args.place c.in-Ok.claimed.serial c.in-Ok.claimed.load.job c.args.s.now.seat.me.0 c.claim_at.new.seat.me.0 c.in-Ok.ensures.claimed

pub claim_at-requires : goal.claim_at-requires
claim_at-requires c = record { table = record { table = c.requires.seat.0; within = c.requires.place } }

pub returns-in-Err-clause-seat : goal.returns-in-Err-clause-seat
returns-in-Err-clause-seat c = (c.claim_at.ensures.id.table ∙ c.requires.seat.0, c.requires.seat.1)

pub returns-in-Err-clause-refused : goal.returns-in-Err-clause-refused
returns-in-Err-clause-refused c = (c.in-Err.ensures.refused.0, c.in-Err.ensures.refused.1)

pub returns-clause-seat : goal.returns-clause-seat
returns-clause-seat c = (c.claim_at.ensures.id.table ∙ c.requires.seat.0, c.requires.seat.1)

pub returns-clause-claimed : goal.returns-clause-claimed
returns-clause-claimed c = (refl, c.in-Ok.ensures.claimed)
