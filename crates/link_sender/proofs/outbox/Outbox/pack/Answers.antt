use Rattle.std.proofs.Common.{◌≡◌, ◌+◌, ◌++◌, [], ◌∷◌, ℕ, List, ap, subst, sym, ◌∙◌, arith, rules}
use Rattle.link_model.specs.Sending.{SlicesContent}
use Rattle.vc_types.specs.SenderSettings.{packing_view}
use Rattle.link_sender.specs.declared.outbox.Outbox.{Outbox}
use Rattle.link_sender.specs.declared.runs.OpenRun.{OpenRun}
use Rattle.link_sender.specs.Puts.{PutsDatagrams}
use Rattle.link_sender.specs.Runs.{PacksSlices, HoldsSlices, run_with_slices}
use Rattle.link_sender.proofs.PutPictures.{another_run, has_some, one_more}
use Rattle.link_sender.proofs.outbox.Outbox.pack.Goals as goal
use Rattle.link_sender.proofs.outbox.Outbox.pack.Goals.{then-len-slice+in_ok-put_run, else-len-slice}

pub put_run-requires-clause-some : goal.put_run-requires-clause-some
put_run-requires-clause-some c = has_some (packing_view c.args.p.now.settings) (c.args.run.now.first + c.args.run.now.count) c.args.run.now c.requires.run (omega (arith, c.if-len-slice.true, c.requires.fits.room, c.len.ensures))

pub returns-clause-packed : goal.returns-clause-packed
returns-clause-packed c = λ slices first packed.
    let p = c.args.p.now in
    let x = c.args.self.now in
    let run = c.args.run.now in
    let slice = c.args.slice.now in
    let next : OpenRun = record { first = c.if-len-slice.run.first; count = c.if-len-slice.run.count + 1; body = c.extend_from_slice.new.self } in
    elim c.if-len-slice.branch [
      | then-len-slice+in_ok-put_run w ↦ (
          let empty : c.if-len-slice.run.body.items ≡ [] = search rules in
          another_run p slices first x run packed slice next c.if-len-slice.self (omega (arith, w.if-len-slice.true, c.len.ensures))
          (subst (λ (y : Outbox). (left : List (List ℕ)) → HoldsSlices run left → PutsDatagrams p (SlicesContent (run_with_slices run left) ∷ []) x y) (sym w.self-is) w.in_ok-put_run.ensures)
          (ap (λ (r : OpenRun). r.first) w.run-is)
          (ap (λ (r : OpenRun). r.count + 1) w.run-is)
          (c.in_ok-extend_from_slice.ensures.items ∙ (λ i. empty i ++ slice)))
      | else-len-slice w ↦ (
          subst (λ (y : Outbox). PacksSlices p (slices ++ slice ∷ []) first y next) (sym w.self-is)
          (one_more p slices first x run packed slice next (omega (arith, w.if-len-slice.false, c.len.ensures))
          (ap (λ (r : OpenRun). r.first) w.run-is)
          (ap (λ (r : OpenRun). r.count + 1) w.run-is)
          (c.in_ok-extend_from_slice.ensures.items ∙ (λ i. (w.run-is i).body.items ++ slice))))
    ]
