use Rattle.std.proofs.Common.{Some}
use Rattle.claim_board.specs.declared.cargo.Cargo.TheVariants.{Waiting}
use Rattle.claim_board.proofs.board.Board.open_job.Goals as goal

pub exchange-requires : goal.exchange-requires
exchange-requires c = (c.requires.table, (Some (Waiting c.args.serial c.requires.slot.0), c.requires.slot.1))

pub returns-clause-id : goal.returns-clause-id
returns-clause-id c = record { table = c.exchange.ensures.0; number = c.exchange.ensures.1 }

pub returns-clause-slot : goal.returns-clause-slot
returns-clause-slot c = c.exchange.ensures.3
