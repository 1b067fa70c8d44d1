use Rattle.cmd_receive.proofs.HeardWire.{wire_heard, wire_lent}
use Rattle.cmd_receive.proofs.receiving.hear_wire.Goals as goal

pub returns : goal.returns
returns g c =
    let lent = wire_lent c.args.packets _ _ _ _ _ _ _ _ _ _ c.hear_all.ensures in
    record {
      borrows_output = lent.1.0;
      borrows_places = lent.1.1;
      borrows_wire = lent.0;
      well = lent.2 (rw c.requires.new.out tt);
      heard = λ sessions counts.
          wire_heard c.args.packets _ _ _ _ _ sessions c.requires.new counts _ _ _ c.hear_all.ensures;
    }
