-- What hearing the datagrams of an inlet came to. Two relations say what came, and what stopped it;
-- two say what the listener heard, and how it broke off; two facts, whether it wants more.
use Rattle.std.specs.Prelude.{◌≡◌, ◌≢◌, ◌≤◌, ◌<◌, ◌⊎◌, ℕ, Bool, true, false, List, [], length}
use Rattle.std.specs.Prelude.{Option, Some, None, Result, Ok, Err, ⊤}
use Rattle.link_capture.specs.Capture.{first_entry}
use Rattle.link_outside.specs.Outlets.{capture_of}
use Rattle.link_report.specs.declared.ending.Ending.{Ending}
use Rattle.link_report.specs.declared.ending.Ending.TheVariants.{CaptureCut, InputFailed, NoMemory}
use Rattle.link_report.specs.declared.ending.Ending.TheVariants.{OutputFailed, PacketLimit}
use Rattle.vc_ports.specs.Changes.{InputChange, HasRisen, Stays, Took}
use Rattle.vc_ports.specs.Reading.{IsAtEnd}
use Rattle.link_hearing.specs.Inlets.{GaveEntries}
use Rattle.link_hearing.specs.declared.listener.ListenerFault.{ListenerFault}
use Rattle.link_hearing.specs.declared.listener.ListenerFault.TheVariants as faults

-- how a command ends where its listener broke off
abbrev pub fault_ending : ListenerFault → Ending
fault_ending faults.NoMemory = NoMemory
fault_ending faults.Output = OutputFailed

-- the listener broke off, so that nothing more can be heard
abbrev pub has_broken : Ending → Bool
has_broken NoMemory = true
has_broken OutputFailed = true
has_broken ending = false

-- it can hear more
abbrev pub CanGoOn : Result (Unit {0}) Ending → Type 0
CanGoOn (Ok done) = ⊤
CanGoOn (Err end) = has_broken end ≡ false

-- ---- at most so many datagrams

-- no more came, or the inlet failed
pub record RanOut
    (packets : ℕ) (stopped : List (List ℕ) → Option Ending → Type 0)
    (heard : List (List ℕ) → Type 0) (end : Option Ending) (datagrams : List (List ℕ)) : Type 0
  where
    pub fewer : length datagrams < packets
    pub stopped_so : stopped datagrams end
    pub heard_so : heard datagrams

-- the listener has heard enough
pub record HeardEnough
    (packets : ℕ) (came heard : List (List ℕ) → Type 0) (enough : Type 0)
    (datagrams : List (List ℕ)) : Type 0 where
  pub few : length datagrams ≤ packets
  pub came_so : came datagrams
  pub heard_so : heard datagrams
  pub is_enough : enough

-- so many came as were asked for, and it wants one more
pub record HeardMost
    (packets : ℕ) (came heard : List (List ℕ) → Type 0) (wants : Type 0)
    (end : Ending) (datagrams : List (List ℕ)) : Type 0 where
  pub end_is : end ≡ PacketLimit packets
  pub count : length datagrams ≡ packets
  pub came_so : came datagrams
  pub heard_so : heard datagrams
  pub wants_more : wants

-- it broke off at the last of them
pub record BrokeAt
    (packets : ℕ) (came : List (List ℕ) → Type 0)
    (broke : List (List ℕ) → ListenerFault → Type 0) (end : Ending) (datagrams : List (List ℕ))
    : Type 0 where
  pub few : length datagrams ≤ packets
  pub came_so : came datagrams
  pub fault : ListenerFault
  pub end_is : end ≡ fault_ending fault
  pub broke_so : broke datagrams fault

abbrev pub HearsUntil : ℕ → (came : List (List ℕ) → Type 0)
    → (stopped : List (List ℕ) → Option Ending → Type 0) → (heard : List (List ℕ) → Type 0)
    → (broke : List (List ℕ) → ListenerFault → Type 0) → (wants enough : Type 0)
    → Result (Unit {0}) Ending → Type 0
HearsUntil packets came stopped heard broke wants enough (Ok done) = (datagrams : List (List ℕ))
    × (RanOut packets stopped heard None datagrams
    ⊎ HeardEnough packets came heard enough datagrams)
HearsUntil packets came stopped heard broke wants enough (Err end) = (datagrams : List (List ℕ))
    × (RanOut packets stopped heard (Some end) datagrams
    ⊎ (HeardMost packets came heard wants end datagrams
    ⊎ BrokeAt packets came broke end datagrams))

-- ---- those of a capture

-- by how it ended; at the limit so many bytes more were read
abbrev pub CaptureHeard : (packets more : ℕ) → InputChange → (heard : List (List ℕ) → Type 0)
    → (broke : List (List ℕ) → ListenerFault → Type 0) → (enough : Type 0) → List (List ℕ)
    → List ℕ → Result (Unit {0}) Ending → Type 0
CaptureHeard packets more input heard broke enough datagrams part (Ok done) =
    heard datagrams × (part ≡ []) × (IsAtEnd input.left.after ⊎ enough)
CaptureHeard packets more input heard broke enough datagrams part (Err (CaptureCut place)) =
    heard datagrams × (length datagrams < packets) × (part ≢ []) × IsAtEnd input.left.after
    × (place ≡ length (capture_of datagrams))
CaptureHeard packets more input heard broke enough datagrams part (Err InputFailed) =
    heard datagrams × ((length datagrams < packets) ⊎ (part ≡ [])) × HasRisen input.faults
CaptureHeard packets more input heard broke enough datagrams part (Err (PacketLimit limit)) =
    heard datagrams × (limit ≡ packets) × (length datagrams ≡ packets) × (length part ≡ more)
CaptureHeard packets more input heard broke enough datagrams part (Err NoMemory) =
    broke datagrams faults.NoMemory
CaptureHeard packets more input heard broke enough datagrams part (Err OutputFailed) =
    broke datagrams faults.Output
CaptureHeard packets more input heard broke enough datagrams part (Err end) = ⊥

-- behind so many one byte more was read, or there was none
abbrev pub LooksOn : (packets : ℕ) → InputChange → Result (Unit {0}) Ending → Type 0
LooksOn packets input (Ok done) = Took input [] × IsAtEnd input.left.after
LooksOn packets input (Err (PacketLimit limit)) =
    (limit ≡ packets) × (bytes : List ℕ) × (length bytes ≡ 1) × Took input bytes
LooksOn packets input (Err InputFailed) = Took input [] × HasRisen input.faults
LooksOn packets input (Err end) = ⊥

-- that was tried, where as many came as were asked for
abbrev pub LooksBehind : Ending → InputChange → Result (Unit {0}) Ending → Type 0
LooksBehind (PacketLimit limit) input result = LooksOn limit input result
LooksBehind end input result = (result ≡ Err end) × Stays input.left × Stays input.faults

-- the datagrams of these entries were heard, and a part of one was read behind them
pub record HearsCapture
    (packets more : ℕ) (input : InputChange) (heard : List (List ℕ) → Type 0)
    (broke : List (List ℕ) → ListenerFault → Type 0) (enough : Type 0)
    (result : Result (Unit {0}) Ending) : Type 0 where
  pub datagrams : List (List ℕ)
  pub part : List ℕ
  pub gave : GaveEntries input datagrams part
  pub few : length datagrams ≤ packets
  pub not_whole : first_entry part ≡ None
  pub did : CaptureHeard packets more input heard broke enough datagrams part result
