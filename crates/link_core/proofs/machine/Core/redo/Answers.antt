use Rattle.std.proofs.Common.{◌≡◌, ◌∙◌, Some, [], ◌∷◌, ap, sym}
use Rattle.std.specs.Prelude.{not}
use Rattle.std.specs.Option.{option_map}
use Rattle.machine_model.specs.Feeders.{is_kept, slice_job}
use Rattle.machine_model.specs.Machine as machine
use Rattle.link_slices.specs.Jobs.{job_of}
use Rattle.link_core.proofs.Stepping.{reached_by, legal_if, redone_is, some_mapped}
use Rattle.link_core.proofs.machine.Core.redo.Goals as goal

pub invariant_of-self-2 : goal.invariant_of-self-2
invariant_of-self-2 c =
    let w = c.self.inside.window in
    let f = c.self.inside.feeder in
    let p = c.self.inside.ring in
    let kept : c.is_some.result ≡ is_kept w f c.args.number c.args.index = c.is_some.ensures ∙ some_mapped job_of c.in_ok-job.job (slice_job w f c.args.number c.args.index) c.in_ok-job.ensures in
    let job : Some (job_of c.in-Some.job) ≡ slice_job w f c.args.number c.args.index = ap (option_map job_of) (sym c.in-Some.is) ∙ c.in_ok-job.ensures in
    reached_by w f c.redo.new.self p p c.self.invariant (machine.Redo c.args.number c.args.index)
    (legal_if w f p (machine.Redo c.args.number c.args.index) (c.is_some.result ∷ not c.is_decoded.result ∷ []) c.in_ok-all_of_2.ensures (λ j. kept j ∷ not (c.is_decoded.ensures j) ∷ []))
    (redone_is w f c.redo.new.self p c.args.number c.args.index (job_of c.in-Some.job) job c.in_ok-redo.ensures.redone)
