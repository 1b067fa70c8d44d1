-- The stage of a place in the ring, as plain data.
use Rattle.machine_model.specs.Places.{Content, Nothing, Offered, Claimed, Decoded}
use Rattle.link_slices.specs.Jobs.{job_of, answered}
use Rattle.slice_ring.specs.declared.place.Stage.{Stage}
use Rattle.slice_ring.specs.declared.place.Stage.TheVariants.{Empty, Waiting, Held, Done}

abbrev pub content_of : Stage → Content
content_of Empty = Nothing
content_of (Waiting job) = Offered (job_of job)
content_of (Held worker job) = Claimed worker (job_of job)
content_of (Done done) = Decoded (answered done)
