-- How much is kept, and what is counted.
use Rattle.std.proofs.Common.{◌≡◌, ℕ, ◌≤◌, Option, Some, None, refl, arith}
use Rattle.std.specs.Option.{option_map}
use Rattle.link_report.specs.declared.summary.Summary.TheVariants as summaries
use Rattle.cmd_stream.specs.PlayLooping.{summary_of}
use Rattle.cmd_stream.specs.PlaySteps.{PlayState, stream_state}
use Rattle.cmd_stream.specs.Stream.{Stream, pictures_in, frames_in, unpaired_in}
use Rattle.cmd_stream.specs.Taking.{CountsAtMost}

pub within_upto : (n m : ℕ) (kept : Option PlayState) → n ≤ m → CountsAtMost n kept → CountsAtMost m kept
within_upto n m None few h = h
within_upto n m (Some k) few h = record { pictures = omega (arith, h.pictures, few); frames = h.frames; shape = h.shape }

-- what was counted
pub summary_is : (stream : Option Stream) → summary_of (option_map stream_state stream) ≡ summaries.Played (pictures_in stream) (unpaired_in stream) (frames_in stream)
summary_is None = refl
summary_is (Some s) = refl
