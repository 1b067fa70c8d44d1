use Rattle.cmd_record.proofs.Watched.{watched}
use Rattle.cmd_record.proofs.watch.SessionWatch.take.Goals as goal

pub returns : goal.returns
returns c = λ sessions datagrams was.
    rw c.follow.ensures
    (watched c.args.self.now c.sign_of-sign.result c.args.datagram.now c.requires.left c.sign_of-sign.ensures sessions datagrams was)
