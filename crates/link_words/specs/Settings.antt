-- The settings that words of the grammar mean: what is given, and defaults.
use Rattle.std.specs.Prelude.{ℕ, ◌+◌, ◌-◌, ◌*◌, ◌%◌, ◌==◌, ◌&&◌, ◌||◌, not, if◌then◌else◌}
use Rattle.std.specs.Prelude.{List, Bool, nat_lt, Option, Some, None, Result, Err}
use Rattle.std.specs.Prelude.{length, unwrap_or, ok_or, option_map, codes}
use Rattle.std.specs.Str.{bytes_eq}
use Rattle.std.specs.List.{list_any}
use Rattle.vc_types.specs.declared.choice.IndexChoice.{IndexChoice}
use Rattle.vc_types.specs.declared.choice.IndexChoice.TheVariants as choices
use Rattle.vc_types.specs.declared.settings.Told.{Told}
use Rattle.vc_types.specs.declared.video.Sampling.{Sampling as SamplingKind}
use Rattle.vc_types.specs.declared.video.Sampling.TheVariants.{S422}
use Rattle.vc_types.specs.Video.{dimensions_fit}
use Rattle.vc_types.specs.Limits.{slices_fit}
use Rattle.vc_types.specs.Settings.{luma_fits, first_picture_fits, default_across, default_down, can_be_sent}
use Rattle.vc_types.specs.Rates.{Rate as FrameRate}
use Rattle.vc_types.specs.SenderSettings.{Frames as FramesSent, Generating, Sending}
use Rattle.link_words.specs.Numbers.{number_within}
use Rattle.link_words.specs.Grammar.{word_at, first_place, sampling_written, slices_written, is_text}
use Rattle.link_words.specs.Grammar.{ratio_written}
use Rattle.link_words.specs.Grammar.{first_bad}
use Rattle.link_words.specs.Options.{command_of, option_row, names_of, is_required}
use Rattle.link_words.specs.declared.options.Values.{Values}
use Rattle.link_words.specs.declared.options.Values.TheVariants as values
use Rattle.link_words.specs.declared.options.Name.{Name}
use Rattle.link_words.specs.declared.options.Name.TheVariants.{Width, Height, Sampling, Range, Fields}
use Rattle.link_words.specs.declared.options.Name.TheVariants.{Top, Wavelet, Depth, Slices, Prefix}
use Rattle.link_words.specs.declared.options.Name.TheVariants.{Scaler, Size, Index, Fit, Budget, Ssrc, Seq}
use Rattle.link_words.specs.declared.options.Name.TheVariants.{Picture, Tick, Rate, Aspect, Colour, Pt}
use Rattle.link_words.specs.declared.options.Name.TheVariants.{Frames, Seed, Count}
use Rattle.link_words.specs.declared.options.Name.TheVariants.{Check, Window, Workers, Packets, Pcap}
use Rattle.link_words.specs.declared.options.Name.TheVariants.{Port, Sessions, Fill, Pace, To, At, Every}
use Rattle.link_words.specs.declared.options.Name.TheVariants.{Reporter, Cname, BySender, Ntp, Idle}
use Rattle.link_words.specs.declared.options.Command.{Command}
use Rattle.link_words.specs.declared.options.Command.TheVariants.{Decode, Encode, Send, Recv, Loop}
use Rattle.link_words.specs.declared.options.Command.TheVariants.{Unpack, Pack, Play, Gen}
use Rattle.link_words.specs.declared.options.Command.TheVariants.{Rtcp, RtcpShow, Probe, Record, Replay}

-- ---- what is given

abbrev pub stands_at : List (List ℕ) → Name → ℕ → Bool
stands_at words name place = place % 2 == 1 && bytes_eq (word_at words place) (option_row name).0

-- the place of a name, or the number of words
unfoldable pub place_of : List (List ℕ) → Name → ℕ
place_of words name = first_place (stands_at words name) 1 (length words - 1)

abbrev pub is_given : List (List ℕ) → Name → Bool
is_given words name = nat_lt (place_of words name) (length words)

-- the word behind a name; no word where the name is not given
abbrev pub value_of : List (List ℕ) → Name → List ℕ
value_of words name = word_at words (place_of words name + 1)

-- the number that is given, or the default; the least where there is no default
abbrev pub number_meant : Values → List ℕ → ℕ
number_meant (values.Number low high default) word = unwrap_or (number_within low high word) default
number_meant (values.Optional low high) word = unwrap_or (number_within low high word) low
number_meant (values.Required low high) word = unwrap_or (number_within low high word) low
number_meant others word = 0

abbrev pub given : List (List ℕ) → Name → ℕ
given words name = number_meant (option_row name).1 (value_of words name)

abbrev pub is_set : List (List ℕ) → Name → Bool
is_set words name = given words name == 1

-- the text that is given, or the default
abbrev pub text_given : List (List ℕ) → Name → (default : List ℕ) → List ℕ
text_given words name default =
    if is_text (value_of words name) then value_of words name else default

-- the name of a reporter
abbrev pub default_name : List ℕ
default_name = codes "vc2link"

-- the port of the datagrams in a pcap file, where the input is one
abbrev pub pcap_of : List (List ℕ) → Option ℕ
pcap_of words = if is_set words Pcap then Some (given words Port) else None

abbrev pub choice_of : List (List ℕ) → IndexChoice
choice_of words =
    if is_given words Fit then choices.Fit (given words Fit)
    else if is_given words Budget then choices.Budget (given words Budget)
    else choices.Index (given words Index)

-- D seconds have 90,000 * D ticks
abbrev pub frames_in_seconds : ℕ × ℕ → FrameRate
frames_in_seconds ratio = record { ticks = 90000 * ratio.1; frames = ratio.0 }

-- that many frames in that many seconds where it is given, and else so many ticks for each frame
abbrev pub rate_of : List (List ℕ) → FrameRate
rate_of words = unwrap_or
    (option_map frames_in_seconds (ratio_written 4294967295 (value_of words Rate)))
    (record { ticks = given words Tick; frames = 1 })

-- the number of a colour specification, where it is given
abbrev pub colour_of : List (List ℕ) → Option ℕ
colour_of words = if is_given words Colour then Some (given words Colour) else None

-- what a header tells of how frames are shown: their rate where it is given, and what is given beside it
abbrev pub told_with : List (List ℕ) → ℕ × ℕ → Told
told_with words rate = record {
  rate = rate;
  aspect = ratio_written 65535 (value_of words Aspect);
  colour = colour_of words;
}

abbrev pub told_by : List (List ℕ) → Option Told
told_by words = option_map (told_with words) (ratio_written 4294967295 (value_of words Rate))

-- the joint test of it: what is given beside a rate wants one
abbrev pub tells_whole : List (List ℕ) → Bool
tells_whole words =
    is_given words Rate || not (is_given words Aspect || is_given words Colour)

-- ---- settings without their facts

abbrev pub given_sampling : List (List ℕ) → SamplingKind
given_sampling words = unwrap_or (sampling_written (value_of words Sampling)) S422

abbrev pub given_frames : List (List ℕ) → FramesSent
given_frames words = record {
  width = given words Width;
  height = given words Height;
  sampling = given_sampling words;
  range = given words Range;
  fields = is_set words Fields;
  top = is_set words Top;
}

-- how many slices a picture has across and down
abbrev pub given_slices : List (List ℕ) → (width height : ℕ) → (fields : Bool) → ℕ × ℕ
given_slices words width height fields =
    unwrap_or
    (slices_written (value_of words Slices))
    (default_across width, default_down fields height)

abbrev pub sending_of : List (List ℕ) → Sending
sending_of words =
    let frames = given_frames words in
    let slices = given_slices words frames.width frames.height frames.fields in
    record {
      frames = frames;
      wavelet = given words Wavelet;
      depth = given words Depth;
      across = slices.0;
      down = slices.1;
      prefix = given words Prefix;
      scaler = given words Scaler;
      size = given words Size;
      choice = choice_of words;
      ssrc = given words Ssrc;
      seq = given words Seq;
      picture = given words Picture;
      rate = rate_of words;
      pt = given words Pt;
      told = told_by words;
    }

-- the joint tests of a sender
abbrev pub sending_fits : Sending → Bool
sending_fits s =
    dimensions_fit s.frames.width s.frames.height s.frames.sampling s.frames.fields
    && slices_fit s.across s.down
    && luma_fits s.frames.width s.frames.height s.frames.fields s.depth
    && first_picture_fits s.frames.fields s.picture

-- what a sender is set to, where its settings go together
unfoldable pub sender : List (List ℕ) → Option Sending
sender words =
    if sending_fits (sending_of words) && tells_whole words then Some (sending_of words) else None

abbrev pub generating_of : List (List ℕ) → Generating
generating_of words = record {
  frames = given_frames words;
  seed = given words Seed;
  count = given words Count;
}

abbrev pub generating_fits : FramesSent → Bool
generating_fits f =
    dimensions_fit f.width f.height f.sampling f.fields && can_be_sent f.width f.height f.fields

unfoldable pub generator : List (List ℕ) → Option Generating
generator words = if generating_fits (given_frames words) then Some (generating_of words) else None

-- ---- commands

-- a command with what it is set to. How often it says how far it is (--progress), for how long its wire
-- listens (--seconds, and --frames of recv) and with how many frames its input ends (--first) is no part of
-- it.
pub data Meaning : Type 0 where
  ToDecode : (window workers packets : ℕ) (pcap : Option ℕ) (fill : Bool) → Meaning
  ToEncode : (sender : Sending) (frames workers : ℕ) → Meaning
  ToSend : (sender : Sending) (frames workers : ℕ) (paced : Bool) (to : List ℕ) → Meaning
  ToRecv : (window workers packets sessions idle : ℕ) (fill : Bool) (at : List ℕ) → Meaning
  ToLoop : (sender : Sending) (frames window workers : ℕ) (at : List ℕ) → Meaning
  ToUnpack : (window workers packets : ℕ) (pcap : Option ℕ) → Meaning
  ToPack : (packets size ssrc pt seq : ℕ) (rate : FrameRate) → Meaning
  ToPlay : (packets : ℕ) → Meaning
  ToGen : (generator : Generating) (check : Bool) (window workers : ℕ) → Meaning
  ToRtcp : (every ssrc : ℕ) (name : List ℕ) (is_sender : Bool) (ntp packets : ℕ) (pcap : Option ℕ)
      → Meaning
  ToRtcpShow : (packets : ℕ) (pcap : Option ℕ) → Meaning
  ToProbe : (packets : ℕ) (pcap : Option ℕ) → Meaning
  ToRecord : (packets sessions idle : ℕ) (at : List ℕ) → Meaning
  ToReplay : (packets : ℕ) (paced : Bool) (to : List ℕ) → Meaning

-- what a command is set to, where its settings go together
unfoldable pub meaning : Command → List (List ℕ) → Option Meaning
meaning Decode words =
    Some (ToDecode (given words Window) (given words Workers) (given words Packets) (pcap_of words)
    (is_set words Fill))
meaning Encode words =
    option_map (λ s. ToEncode s (given words Frames) (given words Workers)) (sender words)
meaning Send words = option_map (λ s.
    ToSend s (given words Frames) (given words Workers) (is_set words Pace) (value_of words To))
    (sender words)
meaning Recv words =
    Some (ToRecv (given words Window) (given words Workers) (given words Packets)
    (given words Sessions) (given words Idle) (is_set words Fill) (value_of words At))
meaning Loop words = option_map (λ s.
    ToLoop s (given words Frames) (given words Window) (given words Workers) (value_of words At))
    (sender words)
meaning Unpack words =
    Some (ToUnpack (given words Window) (given words Workers) (given words Packets) (pcap_of words))
meaning Pack words =
    Some (ToPack (given words Packets) (given words Size) (given words Ssrc) (given words Pt)
    (given words Seq) (rate_of words))
meaning Play words = Some (ToPlay (given words Packets))
meaning Gen words = option_map (λ g.
    ToGen g (is_set words Check) (given words Window) (given words Workers)) (generator words)
meaning Rtcp words =
    Some (ToRtcp (given words Every) (given words Reporter) (text_given words Cname default_name)
    (is_set words BySender) (given words Ntp) (given words Packets) (pcap_of words))
meaning RtcpShow words = Some (ToRtcpShow (given words Packets) (pcap_of words))
meaning Probe words = Some (ToProbe (given words Packets) (pcap_of words))
meaning Record words =
    Some (ToRecord (given words Packets) (given words Sessions) (given words Idle)
    (value_of words At))
meaning Replay words =
    Some (ToReplay (given words Packets) (is_set words Pace) (value_of words To))

abbrev pub lacks : List (List ℕ) → Name → Bool
lacks words name = is_required (option_row name).1 && not (is_given words name)

-- a name that has to be given is missing
unfoldable pub lacks_name : Command → List (List ℕ) → Bool
lacks_name command words = list_any (lacks words) (names_of command)

-- ---- all words

-- the settings; or the place of the first bad word; or the number of words, where a value or a name
-- is missing or the settings don't go together
abbrev pub settings_under : Option Command → List (List ℕ) → Result Meaning ℕ
settings_under None words = Err 0
settings_under (Some command) words =
    if nat_lt (first_bad command words) (length words) then Err (first_bad command words)
    else if length words % 2 == 0 || lacks_name command words then Err (length words)
    else ok_or (meaning command words) (length words)

unfoldable pub settings_of : List (List ℕ) → Result Meaning ℕ
settings_of words = settings_under (command_of (word_at words 0)) words
