use Rattle.std.proofs.Common.{refl}
use Rattle.cmd_stream.proofs.Finishing.{Ends, could_not_finish, ends_none, ends_some, has_finished}
use Rattle.cmd_stream.proofs.stream.StreamPacker.finish.Goals.{in-Some, in-None}
use Rattle.cmd_stream.proofs.stream.StreamPacker.finish.Goals as goal

pub returns-in-Ok-put_all-clause-value : goal.returns-in-Ok-put_all-clause-value
returns-in-Ok-put_all-clause-value g c = λ s stream was.
    let told : Ends s stream c.match-self.pictures.0 c.in-Ok.end.bytes.items c.match-self.self.totals = elim c.match-self.branch [
      | in-Some w ↦ ends_some s stream c.args.self.now w.in-Some.stream was w.in-Some.is _ c.in-Ok.end (rw (rw w.pictures-is at c.in-Ok.is) at w.finish.ensures.value) _ _ (rw w.pictures-is refl) (rw w.self-is refl)
      | in-None w ↦ ends_none s stream c.args.self.now was w.in-None.is w.new.result _ c.in-Ok.end w.new.ensures.settings w.new.ensures.counts (rw (rw w.pictures-is at c.in-Ok.is) at w.finish-in-None.ensures.value) _ _ (rw w.pictures-is refl) (rw w.self-is refl)
    ] in
    has_finished s stream _ _ c.in-Ok.end.bytes.items told.due c.match-self.self.totals c.put_all.new.self c.match-self.pictures.0 told.totals_are c.in-Ok-put_all.ensures.totals told.counted c.in-Ok-put_all.ensures.ok

pub returns-clause-value : goal.returns-clause-value
returns-clause-value g c = λ s stream was.
    let told : Ends s stream c.match-self.pictures.0 c.in-Ok.end.bytes.items c.match-self.self.totals = elim c.match-self.branch [
      | in-Some w ↦ ends_some s stream c.args.self.now w.in-Some.stream was w.in-Some.is _ c.in-Ok.end (rw (rw w.pictures-is at c.in-Ok.is) at w.finish.ensures.value) _ _ (rw w.pictures-is refl) (rw w.self-is refl)
      | in-None w ↦ ends_none s stream c.args.self.now was w.in-None.is w.new.result _ c.in-Ok.end w.new.ensures.settings w.new.ensures.counts (rw (rw w.pictures-is at c.in-Ok.is) at w.finish-in-None.ensures.value) _ _ (rw w.pictures-is refl) (rw w.self-is refl)
    ] in
    could_not_finish s stream _ _ c.in-Ok.end.bytes.items told.due c.in-Err.ensures.err
