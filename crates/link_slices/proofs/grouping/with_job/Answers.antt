use Rattle.link_slices.proofs.GroupedRuns.{begun, gone_on}
use Rattle.link_slices.proofs.grouping.with_job.Goals as goal

pub returns-then-goes_on : goal.returns-then-goes_on
returns-then-goes_on c =
    let goes = c.goes_on.ensures c.if-goes_on.true in
    record { jobs = rw c.in-Some.is (gone_on c.args.runs.now.items c.in-Some.run' c.args.job c.push.new.self goes c.in_ok-push.ensures) }

pub returns : goal.returns
returns c = record {
  jobs = rw c.in-Some.is (begun c.args.runs.now.items c.in-Some.run' c.args.job c.push-2.new.self.items
      c.in_ok-push-2.ensures.items c.of-2.result c.of-2.ensures);
}
