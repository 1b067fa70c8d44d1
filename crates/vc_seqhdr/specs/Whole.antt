-- What a header that was read says.
use Rattle.std.specs.Prelude.{ℕ}
use Rattle.vc_types.specs.declared.presentation.Presentation.{Presentation}
use Rattle.vc_types.specs.SequenceHeader.{Sequence, sequence_of}
use Rattle.vc_seqhdr.specs.declared.reader.WholeHeader.{WholeHeader}

-- its value and how its frames are shown, and how many bytes it takes
abbrev pub said_by : WholeHeader → (Sequence × Presentation) × ℕ
said_by whole = ((sequence_of whole.header, whole.presentation), whole.bytes)
