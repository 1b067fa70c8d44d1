-- The count of an outcome in a tally.
use Rattle.std.specs.Prelude.{ℕ}
use Rattle.link_model.specs.declared.outcome.Outcome.{Outcome}
use Rattle.link_model.specs.declared.outcome.Outcome.TheVariants as outcomes
use Rattle.link_model.specs.declared.tally.Tally.{Tally}

abbrev pub count_of : Tally → Outcome → ℕ
count_of t outcomes.RtpShort = t.rtp_short
count_of t outcomes.RtpVersion = t.rtp_version
count_of t outcomes.RtpShape = t.rtp_shape
count_of t outcomes.PayloadShort = t.payload_short
count_of t outcomes.PayloadCode = t.payload_code
count_of t outcomes.PayloadFragment = t.payload_fragment
count_of t outcomes.Foreign = t.foreign
count_of t outcomes.HeaderNew = t.header_new
count_of t outcomes.HeaderSame = t.header_same
count_of t outcomes.HeaderOther = t.header_other
count_of t outcomes.HeaderBad = t.header_bad
count_of t outcomes.End = t.«end»
count_of t outcomes.Skipped = t.skipped
count_of t outcomes.Late = t.late
count_of t outcomes.ParamsKept = t.params_kept
count_of t outcomes.ParamsRepeat = t.params_repeat
count_of t outcomes.ParamsConflict = t.params_conflict
count_of t outcomes.ParamsBad = t.params_bad
count_of t outcomes.SlicesKept = t.slices_kept
count_of t outcomes.SlicesRepeat = t.slices_repeat
count_of t outcomes.SlicesConflict = t.slices_conflict
count_of t outcomes.SlicesPending = t.slices_pending
count_of t outcomes.SlicesFull = t.slices_full
count_of t outcomes.SlicesForm = t.slices_form
count_of t outcomes.SlicesPlace = t.slices_place
count_of t outcomes.SlicesCut = t.slices_cut
