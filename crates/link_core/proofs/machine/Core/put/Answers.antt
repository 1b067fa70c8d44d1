use Rattle.std.proofs.Common.{◌≡◌, ◌∙◌, Some, ap, sym}
use Rattle.std.specs.Option.{option_map}
use Rattle.machine_model.specs.Feeders.{slice_job}
use Rattle.machine_model.specs.Machine as machine
use Rattle.link_slices.specs.Jobs.{job_of}
use Rattle.link_core.proofs.Stepping.{core_of, legal_by, reached_by, put_free, put_apart}
use Rattle.link_core.proofs.Stepping.{put_is, stepped_by}
use Rattle.link_core.proofs.machine.Core.put.Goals as goal

pub put_at-requires-clause-free : goal.put_at-requires-clause-free
put_at-requires-clause-free c =
    let w = c.self.inside.window in
    let f = c.self.inside.feeder in
    let p = c.self.inside.ring in
    put_free w f p c.args.place c.args.number c.args.index
    (legal_by (core_of w f p) (machine.Put c.args.place c.args.number c.args.index) (sym c.in_ok-put_verdict.ensures))

pub put_at-requires-clause-apart : goal.put_at-requires-clause-apart
put_at-requires-clause-apart c =
    let w = c.self.inside.window in
    let f = c.self.inside.feeder in
    let p = c.self.inside.ring in
    let job : Some (job_of c.in-Some.job) ≡ slice_job w f c.args.number c.args.index = ap (option_map job_of) (sym c.in-Some.is) ∙ c.in_ok-job.ensures in
    put_apart w f p c.args.place c.args.number c.args.index
    (legal_by (core_of w f p) (machine.Put c.args.place c.args.number c.args.index) (sym c.in_ok-put_verdict.ensures)) (job_of c.in-Some.job) job

pub invariant_of-self : goal.invariant_of-self
invariant_of-self c =
    let w = c.self.inside.window in
    let f = c.self.inside.feeder in
    let p = c.self.inside.ring in
    let job : Some (job_of c.in-Some.job) ≡ slice_job w f c.args.number c.args.index = ap (option_map job_of) (sym c.in-Some.is) ∙ c.in_ok-job.ensures in
    reached_by w f f p c.put_at.new.self c.self.invariant (machine.Put c.args.place c.args.number c.args.index)
    (legal_by (core_of w f p) (machine.Put c.args.place c.args.number c.args.index) (sym c.in_ok-put_verdict.ensures))
    (put_is w f p c.put_at.new.self c.args.place c.args.number c.args.index (job_of c.in-Some.job) job c.put_at.ensures.put)

pub returns : goal.returns
returns c =
    let w = c.self.inside.window in
    let f = c.self.inside.feeder in
    let p = c.self.inside.ring in
    let job : Some (job_of c.in-Some.job) ≡ slice_job w f c.args.number c.args.index = ap (option_map job_of) (sym c.in-Some.is) ∙ c.in_ok-job.ensures in
    stepped_by c.args.self.now w f f p c.put_at.new.self c.self.view_is (machine.Put c.args.place c.args.number c.args.index)
    (legal_by (core_of w f p) (machine.Put c.args.place c.args.number c.args.index) (sym c.in_ok-put_verdict.ensures))
    (put_is w f p c.put_at.new.self c.args.place c.args.number c.args.index (job_of c.in-Some.job) job c.put_at.ensures.put)
