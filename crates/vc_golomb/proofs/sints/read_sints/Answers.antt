use Rattle.vc_golomb.proofs.NumberLists.{listed, large_listed}
use Rattle.vc_golomb.proofs.sints.read_sints.Goals as goal

pub returns-clause-numbers : goal.returns-clause-numbers
returns-clause-numbers c = listed c.args.count c.args.block.now c.sints.new.out c.sints.result c.sints.ensures.numbers

pub returns-clause-too_large : goal.returns-clause-too_large
returns-clause-too_large c = large_listed c.args.count c.args.block.now c.sints.result c.sints.ensures.too_large
