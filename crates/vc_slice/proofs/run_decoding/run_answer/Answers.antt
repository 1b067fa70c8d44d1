use Rattle.vc_slice.proofs.run_decoding.run_answer.Goals as goal

pub strip_of-requires-clause-whole : goal.strip_of-requires-clause-whole
strip_of-requires-clause-whole c = rw c.new-run.ensures.plan c.requires.whole
