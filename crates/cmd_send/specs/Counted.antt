-- How much went out: frames, datagrams and bytes.
use Rattle.std.specs.Prelude.{◌+◌, ◌<◌, ◌^◌, ℕ, List, length, Result, Ok, Err}
use Rattle.cmd_send.specs.declared.totals.Totals.{Totals}
use Rattle.cmd_send.specs.FramesSent.{bytes_in, frames_sent}
use Rattle.link_report.specs.declared.ending.Ending.{Ending}
use Rattle.link_report.specs.declared.summary.Summary.{Summary}
use Rattle.link_report.specs.declared.summary.Summary.TheVariants.{Sent}
use Rattle.vc_types.specs.Planes.{Planes}
use Rattle.vc_types.specs.SenderSettings.{Sending}

-- the totals with more datagrams
abbrev pub totals_with : Totals → List (List ℕ) → Totals
totals_with t datagrams = record t {
  datagrams = t.datagrams + length datagrams;
  bytes = t.bytes + bytes_in datagrams;
}

-- the totals of frames
abbrev pub totals_of : Sending → List Planes → Totals
totals_of s frames = record {
  frames = length frames;
  datagrams = length (frames_sent s frames);
  bytes = bytes_in (frames_sent s frames);
}

-- with more datagrams they are still counts of 64 bits
pub record HasRoomFor (t : Totals) (datagrams : List (List ℕ)) : Type 0 where
  pub count : t.datagrams + length datagrams < 2 ^ 64
  pub bytes : t.bytes + bytes_in datagrams < 2 ^ 64

-- what a command that sends says of its totals, or why it stopped
abbrev pub sent_answer : Result Totals Ending → Result Summary Ending
sent_answer (Ok t) = Ok (Sent t.frames t.datagrams t.bytes)
sent_answer (Err ending) = Err ending
