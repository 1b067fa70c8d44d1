-- The commands and their options: a row for each option, and for each command the list of its rows.
use Rattle.std.specs.Prelude.{ℕ, ⊤, ◌≤◌, List, [], ◌∷◌, ◌++◌, codes, Option, Some}
use Rattle.std.specs.Prelude.{None, if◌then◌else◌, find, Bool, true, false}
use Rattle.std.specs.Str.{bytes_eq}
use Rattle.link_words.specs.declared.options.Values.{Values}
use Rattle.link_words.specs.declared.options.Values.TheVariants.{Number, Optional, Required, Pair, Ratio}
use Rattle.link_words.specs.declared.options.Values.TheVariants.{Subsampling, Address, Text}
use Rattle.link_words.specs.declared.options.Name.{Name}
use Rattle.link_words.specs.declared.options.Name.TheVariants.{Width, Height, Sampling, Range, Fields}
use Rattle.link_words.specs.declared.options.Name.TheVariants.{Top, Wavelet, Depth, Slices, Prefix}
use Rattle.link_words.specs.declared.options.Name.TheVariants.{Scaler, Size, Index, Fit, Budget, Ssrc, Seq}
use Rattle.link_words.specs.declared.options.Name.TheVariants.{Picture, Tick, Rate, Aspect, Colour, Pt}
use Rattle.link_words.specs.declared.options.Name.TheVariants.{Frames, Seed, Count}
use Rattle.link_words.specs.declared.options.Name.TheVariants.{Check, Window, Workers, Packets, Pcap}
use Rattle.link_words.specs.declared.options.Name.TheVariants.{Port, Sessions, Fill, Pace, To, At, Every}
use Rattle.link_words.specs.declared.options.Name.TheVariants.{Reporter, Cname, BySender, Ntp, Idle}
use Rattle.link_words.specs.declared.options.Name.TheVariants.{First, Progress, Seconds, Written}
use Rattle.link_words.specs.declared.options.Command.{Command}
use Rattle.link_words.specs.declared.options.Command.TheVariants.{Decode, Encode, Send, Recv, Loop}
use Rattle.link_words.specs.declared.options.Command.TheVariants.{Unpack, Pack, Play, Gen}
use Rattle.link_words.specs.declared.options.Command.TheVariants.{Rtcp, RtcpShow, Probe, Record, Replay}

abbrev pub command_of : List ℕ → Option Command
command_of word =
    if bytes_eq word (codes "decode") then Some Decode
    else if bytes_eq word (codes "encode") then Some Encode
    else if bytes_eq word (codes "send") then Some Send
    else if bytes_eq word (codes "recv") then Some Recv
    else if bytes_eq word (codes "loop") then Some Loop
    else if bytes_eq word (codes "unpack") then Some Unpack
    else if bytes_eq word (codes "pack") then Some Pack
    else if bytes_eq word (codes "play") then Some Play
    else if bytes_eq word (codes "gen") then Some Gen
    else if bytes_eq word (codes "rtcp") then Some Rtcp
    else if bytes_eq word (codes "rtcp-show") then Some RtcpShow
    else if bytes_eq word (codes "probe") then Some Probe
    else if bytes_eq word (codes "record") then Some Record
    else if bytes_eq word (codes "replay") then Some Replay
    else None

-- the word of an option and its values: the least and the greatest number, and the default
abbrev pub option_row : Name → List ℕ × Values
option_row Width = (codes "--width", Required 1 8192)
option_row Height = (codes "--height", Required 1 8192)
option_row Sampling = (codes "--sampling", Subsampling)
option_row Range = (codes "--range", Number 1 4 3)
option_row Fields = (codes "--fields", Number 0 1 0)
option_row Top = (codes "--top", Number 0 1 1)
option_row Wavelet = (codes "--wavelet", Number 0 6 1)
option_row Depth = (codes "--depth", Number 1 4 3)
option_row Slices = (codes "--slices", Pair)
option_row Prefix = (codes "--prefix", Number 0 255 0)
option_row Scaler = (codes "--scaler", Number 1 255 2)
option_row Size = (codes "--size", Number 64 65507 1400)
option_row Index = (codes "--index", Number 0 127 0)
option_row Fit = (codes "--fit", Optional 4 65535)
option_row Budget = (codes "--budget", Optional 4 4294967295)
option_row Ssrc = (codes "--ssrc", Number 0 4294967295 1)
option_row Seq = (codes "--seq", Number 0 4294967295 0)
option_row Picture = (codes "--picture", Number 0 4294967295 0)
option_row Tick = (codes "--tick", Number 0 4294967295 3600)
option_row Rate = (codes "--rate", Ratio 4294967295)
option_row Aspect = (codes "--aspect", Ratio 65535)
option_row Colour = (codes "--colour", Optional 1 7)
option_row Pt = (codes "--pt", Number 0 127 96)
option_row Frames = (codes "--frames", Number 1 4294967295 4294967295)
option_row Seed = (codes "--seed", Number 0 4294967295 0)
option_row Count = (codes "--frames", Number 1 1000 1)
option_row Check = (codes "--check", Number 0 1 0)
option_row Window = (codes "--window", Number 2 8 4)
option_row Workers = (codes "--workers", Number 0 64 4)
option_row Packets = (codes "--packets", Number 1 4294967295 4294967295)
option_row Pcap = (codes "--pcap", Number 0 1 0)
option_row Port = (codes "--port", Number 0 65535 0)
option_row Idle = (codes "--idle", Number 0 86400 0)
option_row Seconds = (codes "--seconds", Number 0 86400 0)
option_row Written = (codes "--frames", Number 0 4294967295 0)
option_row First = (codes "--first", Number 0 4294967295 0)
option_row Progress = (codes "--progress", Number 0 86400 0)
option_row Sessions = (codes "--sessions", Number 1 4294967295 1)
option_row Fill = (codes "--fill", Number 0 1 0)
option_row Pace = (codes "--pace", Number 0 1 1)
option_row To = (codes "--to", Address)
option_row At = (codes "--at", Address)
option_row Every = (codes "--every", Number 1 4294967295 100)
option_row Reporter = (codes "--ssrc", Number 0 4294967295 2)
option_row Cname = (codes "--cname", Text)
option_row BySender = (codes "--sender", Number 0 1 0)
option_row Ntp = (codes "--ntp", Number 0 4294967295 0)

-- how frames are coded and sent
abbrev pub sender_names : List Name
sender_names =
    Width ∷ Height ∷ Sampling ∷ Range ∷ Fields ∷ Top
    ∷ Wavelet ∷ Depth ∷ Slices ∷ Prefix ∷ Scaler ∷ Size ∷ Index ∷ Fit ∷ Budget
    ∷ Ssrc ∷ Seq ∷ Picture ∷ Tick ∷ Rate ∷ Aspect ∷ Colour ∷ Pt ∷ Frames ∷ []

-- the options of each command
abbrev pub names_of : Command → List Name
names_of Decode = Window ∷ Workers ∷ Packets ∷ Pcap ∷ Port ∷ Fill ∷ Progress ∷ []
names_of Encode = sender_names ++ First ∷ Workers ∷ Progress ∷ []
names_of Send = sender_names ++ First ∷ Workers ∷ Pace ∷ To ∷ Progress ∷ []
names_of Recv =
    Window ∷ Workers ∷ Packets ∷ Sessions ∷ Idle ∷ Seconds ∷ Written ∷ Fill ∷ At ∷ Progress ∷ []
names_of Loop = sender_names ++ First ∷ Window ∷ Workers ∷ At ∷ Progress ∷ []
names_of Unpack = Window ∷ Workers ∷ Packets ∷ Pcap ∷ Port ∷ []
names_of Pack = Packets ∷ Size ∷ Ssrc ∷ Pt ∷ Seq ∷ Tick ∷ Rate ∷ []
names_of Play = Packets ∷ Progress ∷ []
names_of Gen =
    Width ∷ Height ∷ Sampling ∷ Range ∷ Fields ∷ Top ∷ Seed ∷ Count ∷ Check ∷ Window ∷ Workers ∷ []
names_of Rtcp = Every ∷ Reporter ∷ Cname ∷ BySender ∷ Ntp ∷ Packets ∷ Pcap ∷ Port ∷ []
names_of RtcpShow = Packets ∷ Pcap ∷ Port ∷ []
names_of Probe = Packets ∷ Pcap ∷ Port ∷ []
names_of Record = Packets ∷ Sessions ∷ Idle ∷ Seconds ∷ At ∷ Progress ∷ []
names_of Replay = Packets ∷ Pace ∷ To ∷ Progress ∷ []

-- the first of some options whose word this is
abbrev pub name_in : List Name → List ℕ → Option Name
name_in names word = find (λ name. bytes_eq (option_row name).0 word) names

-- whether an option has to be given
abbrev pub is_required : Values → Bool
is_required (Required low high) = true
is_required Address = true
is_required values = false

-- a number of an option's range, and a default of it
abbrev pub IsInRange : Values → ℕ → Type 0
IsInRange (Number low high default) number = (low ≤ number) × (number ≤ high)
IsInRange (Optional low high) number = (low ≤ number) × (number ≤ high)
IsInRange (Required low high) number = (low ≤ number) × (number ≤ high)
IsInRange others number = ⊤

abbrev pub HasDefault : Values → Type 0
HasDefault (Number low high default) = (low ≤ default) × (default ≤ high)
HasDefault (Optional low high) = low ≤ high
HasDefault (Required low high) = low ≤ high
HasDefault others = ⊤
