-- What sending raw frames did, by how it ended. Where their datagrams went is said by two
-- relations: these went out; a part of these went out, and then it failed so.
use Rattle.std.specs.Prelude.{◌≡◌, ◌≢◌, ◌⊎◌, ◌≤◌, ◌<◌, ℕ, List, [], ◌∷◌, ◌++◌, length, Some, Result, Ok, Err}
use Rattle.link_outside.specs.declared.outlet.OutletFault.{OutletFault}
use Rattle.link_outside.specs.declared.outlet.OutletFault.TheVariants as outlets
use Rattle.frame_writer.specs.WholeFrames.{HoldFrames}
use Rattle.cmd_send.specs.FramesSent.{AreSendable, bytes_in, frame_fault}
use Rattle.cmd_send.specs.FramesSent.{frame_shape, frames_sent, stream_sent}
use Rattle.link_model.specs.SendingFaults.{SendFault}
use Rattle.link_model.specs.SendingFaults as faults
use Rattle.link_report.specs.declared.ending.Ending.{Ending}
use Rattle.link_report.specs.declared.ending.Ending.TheVariants.{InputFailed, OutputFailed, WireFailed}
use Rattle.link_report.specs.declared.ending.Ending.TheVariants.{NoMemory, RawCut, SampleTooLarge}
use Rattle.link_report.specs.declared.ending.Ending.TheVariants.{SliceTooLarge, FrameLimit}
use Rattle.link_report.specs.declared.summary.Summary.{Summary}
use Rattle.link_report.specs.declared.summary.Summary.TheVariants.{Sent}
use Rattle.vc_ports.specs.Changes.{InputChange, Took, HasRisen}
use Rattle.vc_ports.specs.Reading.{IsAtEnd}
use Rattle.vc_types.specs.Planes.{Planes}
use Rattle.vc_types.specs.SenderSettings.{Sending}

-- the input was read to its end, at a frame's edge, and all frames were sent, and then the end
pub record HasSentAll
    (s : Sending) (most : ℕ) (input : InputChange) (went : List (List ℕ) → Type 0)
    (frames : List Planes) (rest : List ℕ) (count datagrams bytes : ℕ)
    : Type 0 where
  pub sendable : AreSendable s frames
  pub few : length frames ≤ most
  pub no_rest : rest ≡ []
  pub ended : IsAtEnd input.left.after
  pub sent : went (stream_sent s frames)
  pub frames_are : count ≡ length frames
  pub datagrams_are : datagrams ≡ length (stream_sent s frames)
  pub bytes_are : bytes ≡ bytes_in (stream_sent s frames)

-- a read failed, within a frame that was asked for, or of the byte behind as many as were asked for
pub record CouldNotReadFrame
    (s : Sending) (most : ℕ) (went : List (List ℕ) → Type 0) (frames : List Planes) (rest : List ℕ)
    : Type 0 where
  pub sendable : AreSendable s frames
  pub few : length frames ≤ most
  pub wanted : (length frames < most) ⊎ (rest ≡ [])
  pub sent : went (frames_sent s frames)

-- a datagram of the frames or of the end didn't go out
pub record CouldNotSendAll
    (s : Sending) (most : ℕ) (broke : List (List ℕ) → OutletFault → Type 0)
    (frames : List Planes) (rest : List ℕ) (fault : OutletFault)
    : Type 0 where
  pub sendable : AreSendable s frames
  pub few : length frames ≤ most
  pub no_rest : rest ≡ []
  pub part_sent : broke (stream_sent s frames) fault

-- memory ran out, and frames were sent before, all that were read or all but the last
pub record RanOutOfMemory
    (s : Sending) (most : ℕ) (went : List (List ℕ) → Type 0) (frames : List Planes) (rest : List ℕ)
    : Type 0 where
  pub few : length frames ≤ most
  pub others : List Planes
  pub unsent : List Planes
  pub frames_are : frames ≡ others ++ unsent
  pub last : length unsent ≤ 1
  pub sendable : AreSendable s others
  pub no_rest : rest ≡ []
  pub sent : went (frames_sent s others)

-- the input was read to its end within a frame, by its number, counted from 0
pub record IsCutWithin
    (s : Sending) (most : ℕ) (input : InputChange) (went : List (List ℕ) → Type 0)
    (frames : List Planes) (rest : List ℕ) (number : ℕ)
    : Type 0 where
  pub sendable : AreSendable s frames
  pub few : length frames < most
  pub some_rest : rest ≢ []
  pub ended : IsAtEnd input.left.after
  pub number_is : number ≡ length frames
  pub sent : went (frames_sent s frames)

-- the last frame is refused, and nothing was read behind it; those before it were sent
pub record EndsWithRefusedFrame
    (s : Sending) (most : ℕ) (went : List (List ℕ) → Type 0) (frames : List Planes) (rest : List ℕ)
    (fault : SendFault)
    : Type 0 where
  pub others : List Planes
  pub last : Planes
  pub frames_are : frames ≡ others ++ last ∷ []
  pub few : length frames ≤ most
  pub sendable : AreSendable s others
  pub refused : frame_fault s last ≡ Some fault
  pub no_rest : rest ≡ []
  pub sent : went (frames_sent s others)

-- so many frames were sent, and one byte more was read
pub record IsPastFrames
    (s : Sending) (most : ℕ) (went : List (List ℕ) → Type 0) (frames : List Planes) (rest : List ℕ)
    (limit : ℕ)
    : Type 0 where
  pub limit_is : limit ≡ most
  pub count : length frames ≡ most
  pub one_more : length rest ≡ 1
  pub sendable : AreSendable s frames
  pub sent : went (frames_sent s frames)

-- by the answer; frames and a rest are what the input gave
abbrev pub SendEnded : Sending → ℕ → Result Summary Ending → InputChange → (List (List ℕ) → Type 0)
    → (List (List ℕ) → OutletFault → Type 0) → List Planes → List ℕ → Type 0
SendEnded s most (Ok (Sent count datagrams bytes)) input went broke frames rest =
    HasSentAll s most input went frames rest count datagrams bytes
SendEnded s most (Err InputFailed) input went broke frames rest =
    CouldNotReadFrame s most went frames rest
SendEnded s most (Err OutputFailed) input went broke frames rest =
    CouldNotSendAll s most broke frames rest outlets.Output
SendEnded s most (Err WireFailed) input went broke frames rest =
    CouldNotSendAll s most broke frames rest outlets.Wire
SendEnded s most (Err NoMemory) input went broke frames rest =
    RanOutOfMemory s most went frames rest
    ⊎ CouldNotSendAll s most broke frames rest outlets.NoMemory
SendEnded s most (Err (RawCut number)) input went broke frames rest =
    IsCutWithin s most input went frames rest number
SendEnded s most (Err (SampleTooLarge place plane value)) input went broke frames rest =
    EndsWithRefusedFrame s most went frames rest (faults.SampleRange plane place value)
SendEnded s most (Err (SliceTooLarge slice bytes)) input went broke frames rest =
    EndsWithRefusedFrame s most went frames rest (faults.SliceTooLarge slice bytes)
SendEnded s most (Err (FrameLimit limit)) input went broke frames rest =
    IsPastFrames s most went frames rest limit
SendEnded s most answer input went broke frames rest = ⊥

-- sending at most so many raw frames of the bytes that the input gave
pub record SendsFrames
    (s : Sending) (most : ℕ) (answer : Result Summary Ending) (input : InputChange)
    (went : List (List ℕ) → Type 0) (broke : List (List ℕ) → OutletFault → Type 0)
    : Type 0 where
  pub given : List ℕ
  pub frames : List Planes
  pub rest : List ℕ
  pub took : Took input given
  pub holds : HoldFrames (frame_shape s) given frames rest
  pub ended : SendEnded s most answer input went broke frames rest
  pub input_failed : answer ≡ Err InputFailed → HasRisen input.faults

-- the bytes are whole frames, at most so many, and none of them is refused
pub record IsSendable (s : Sending) (most : ℕ) (bytes : List ℕ) : Type 0 where
  pub frames : List Planes
  pub holds : HoldFrames (frame_shape s) bytes frames []
  pub few : length frames ≤ most
  pub sendable : AreSendable s frames
