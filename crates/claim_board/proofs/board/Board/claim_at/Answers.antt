use Rattle.std.proofs.Common.{ap, arith, sym, ◌∙◌, ◌≤◌, ◌∷◌, ◌/◌, List, ℕ, Some, None}
use Rattle.atomic_table.specs.Table.{rest}
use Rattle.claim_board.specs.Plays.{SeatState}
use Rattle.claim_board.specs.Rule.{Slot}
use Rattle.claim_board.specs.declared.cargo.Cargo.TheVariants.{Waiting}
use Rattle.claim_board.specs.declared.view.Deed.TheVariants.{WasRead}
use Rattle.claim_board.proofs.Holds.{at_last, claims_then, no_earlier, read_last, reads_then}
use Rattle.claim_board.proofs.board.Board.claim_at.Goals as goal

pub open_job-load-requires-clause-slot : goal.open_job-load-requires-clause-slot
open_job-load-requires-clause-slot c =
    let won = c.try_claim-found.ensures.won c.if-found-word.true in
    let e = won.did.1 in
    (won.load, e ∙ ap (λ (r : List (ℕ × Slot)). (c.args.place, Some (Waiting (c.loop-word.word / 4) won.load)) ∷ r) (sym (ap rest e)))

pub returns-then-found-word-clause-claimed : goal.returns-then-found-word-clause-claimed
returns-then-found-word-clause-claimed c =
    let won = c.try_claim-found.ensures.won c.if-found-word.true in
    claims_then c.args.place c.loop-word.word (c.loop-word.word / 4) c.open_job-load.result won.load c.args.seat.now.me.0 c.loop-word.seat.me.0 c.try_claim-found.new.seat.me.0 c.open_job-load.new.seat.me.0 c.loop-word.seat.me.1 c.try_claim-found.new.seat.me.1
    c.loop-word.invariant.reads won.did.0 won.did.1 c.open_job-load.ensures.stamped (ap (λ (m : SeatState). m.0) c.open_job-load.ensures.slot)

pub returns-then-found-ne1-clause-refused : goal.returns-then-found-ne1-clause-refused
returns-then-found-ne1-clause-refused c =
    let lost = c.try_claim-found.ensures.lost c.if-found-word.false in (
      reads_then c.args.place c.loop-word.word c.args.seat.now.me.0 c.loop-word.seat.me.0 c.try_claim-found.new.seat.me.0 (WasRead c.args.place c.try_claim-found.result) c.loop-word.invariant.reads lost.0,
      c.if-found-ne1.true,
      lost.1 ∙ c.loop-word.invariant.slots,
    )

pub loop-word-smaller : goal.loop-word-smaller
loop-word-smaller c =
    let lost = c.try_claim-found.ensures.lost c.if-found-word.false in
    let up : c.loop-word.word / 4 ≤ c.try_claim-found.result / 4 = no_earlier c.args.place c.loop-word.word c.try_claim-found.result c.loop-word.seat.me.0 c.try_claim-found.new.seat.me.0
    (read_last c.args.place c.loop-word.word c.args.seat.now.me.0 c.loop-word.seat.me.0 c.loop-word.invariant.reads) lost.0 in
    let a = c.loop-word-test.true in
    let b = c.if-found-ne1.false in
    let ne = c.if-found-word.false in
    let fits = c.loop-word.auto.word-fits in
    grind arith

pub loop-word-preserved : goal.loop-word-preserved
loop-word-preserved c =
    let lost = c.try_claim-found.ensures.lost c.if-found-word.false in
    let same = c.try_claim-found.ensures.id in record {
      table = same.table ∙ c.loop-word.invariant.table;
      id = same.number ∙ c.loop-word.invariant.id;
      slots = lost.1 ∙ c.loop-word.invariant.slots;
      reads = reads_then c.args.place c.loop-word.word c.args.seat.now.me.0 c.loop-word.seat.me.0 c.try_claim-found.new.seat.me.0 (WasRead c.args.place c.try_claim-found.result) c.loop-word.invariant.reads lost.0;
    }

pub look-word-requires : goal.look-word-requires
look-word-requires c = c.requires.table

pub loop-word-init : goal.loop-word-init
loop-word-init c =
    let looked = c.look-word.ensures in record {
      table = looked.id.table;
      id = looked.id.number;
      slots = looked.view.1;
      reads = at_last c.args.place c.args.seat.now.me.0 c.look-word.new.seat.me.0 (WasRead c.args.place c.look-word.result) looked.view.0;
    }

pub try_claim-found-requires-clause-table : goal.try_claim-found-requires-clause-table
try_claim-found-requires-clause-table c = record {
  table = c.loop-word.invariant.table ∙ c.requires.table.table;
  within = c.requires.table.within;
}

pub try_claim-found-requires-clause-waiting : goal.try_claim-found-requires-clause-waiting
try_claim-found-requires-clause-waiting c = c.loop-word-test.true

pub open_job-load-requires-clause-table : goal.open_job-load-requires-clause-table
open_job-load-requires-clause-table c = c.try_claim-found.ensures.id.table ∙ c.loop-word.invariant.table ∙ c.requires.table.table

pub returns-then-found-word-clause-id : goal.returns-then-found-word-clause-id
returns-then-found-word-clause-id c = record {
  table = c.open_job-load.ensures.id.table ∙ c.try_claim-found.ensures.id.table ∙ c.loop-word.invariant.table;
  number = c.open_job-load.ensures.id.number ∙ c.try_claim-found.ensures.id.number ∙ c.loop-word.invariant.id;
}

pub returns-then-found-word-clause-slot : goal.returns-then-found-word-clause-slot
returns-then-found-word-clause-slot c =
    let won = c.try_claim-found.ensures.won c.if-found-word.true in
    ap (λ (m : SeatState). m.1) c.open_job-load.ensures.slot
    ∙ ap (λ (r : List (ℕ × Slot)). (c.args.place, None) ∷ r) (ap rest won.did.1 ∙ c.loop-word.invariant.slots)

pub returns-then-found-word-clause-small : goal.returns-then-found-word-clause-small
returns-then-found-word-clause-small c = (c.try_claim-found.ensures.won c.if-found-word.true).small

pub returns-then-found-ne1-clause-id : goal.returns-then-found-ne1-clause-id
returns-then-found-ne1-clause-id c = record {
  table = c.try_claim-found.ensures.id.table ∙ c.loop-word.invariant.table;
  number = c.try_claim-found.ensures.id.number ∙ c.loop-word.invariant.id;
}

pub returns-clause-id : goal.returns-clause-id
returns-clause-id c = record { table = c.loop-word.invariant.table; number = c.loop-word.invariant.id }

pub returns-clause-refused : goal.returns-clause-refused
returns-clause-refused c = (c.loop-word.invariant.reads, c.loop-word-test.false, c.loop-word.invariant.slots)
