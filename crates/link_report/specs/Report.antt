-- The report's text (this project's own): lines of a name and a number, the lines of each command,
-- and the line of each status.
use Rattle.std.specs.Prelude.{ℕ, List, [], ◌∷◌, ◌++◌, codes}
use Rattle.std.specs.List.{flat_map}
use Rattle.std.specs.Fmt.{decimal}
use Rattle.link_model.specs.declared.tally.Tally.{Tally}
use Rattle.link_report.specs.declared.counts.Count.{Count}
use Rattle.link_report.specs.declared.ending.Ending.{Ending}
use Rattle.link_report.specs.declared.ending.Ending.TheVariants.{Usage, NoMemory, InputFailed, OutputFailed}
use Rattle.link_report.specs.declared.ending.Ending.TheVariants.{WireFailed, CaptureCut, PacketLimit, RawCut}
use Rattle.link_report.specs.declared.ending.Ending.TheVariants.{SampleTooLarge, SliceTooLarge, StreamBad}
use Rattle.link_report.specs.declared.ending.Ending.TheVariants.{FrameLimit}
use Rattle.link_report.specs.declared.summary.Summary.{Summary}
use Rattle.link_report.specs.declared.summary.Summary.TheVariants.{Judged, Sent, Looped, Packed, Played}
use Rattle.link_report.specs.declared.summary.Summary.TheVariants.{Generated, Compared, Reported, Shown}
use Rattle.link_report.specs.declared.summary.Summary.TheVariants.{Recorded, Replayed}

abbrev pub space : List ℕ
space = 32 ∷ []

abbrev pub newline : List ℕ
newline = 10 ∷ []

-- a name, a space, a number in decimal, and a newline
unfoldable pub line : List ℕ → ℕ → List ℕ
line name number = name ++ (space ++ (decimal number ++ newline))

abbrev pub lines : List (List ℕ × ℕ) → List ℕ
lines all = flat_map (λ named. line named.0 named.1) all

-- what a line of the code's tables says
abbrev pub named : Count → List ℕ × ℕ
named count = (count.0.now, count.1)

-- the 31 lines of a tally
unfoldable pub tally_lines : Tally → List (List ℕ × ℕ)
tally_lines t =
    (codes "datagrams", t.datagrams) ∷
    (codes "rtp-short", t.rtp_short) ∷
    (codes "rtp-version", t.rtp_version) ∷
    (codes "rtp-shape", t.rtp_shape) ∷
    (codes "payload-short", t.payload_short) ∷
    (codes "payload-code", t.payload_code) ∷
    (codes "payload-fragment", t.payload_fragment) ∷
    (codes "foreign", t.foreign) ∷
    (codes "header-new", t.header_new) ∷
    (codes "header-same", t.header_same) ∷
    (codes "header-other", t.header_other) ∷
    (codes "header-bad", t.header_bad) ∷
    (codes "end", t.end) ∷
    (codes "skipped", t.skipped) ∷
    (codes "late", t.late) ∷
    (codes "params-kept", t.params_kept) ∷
    (codes "params-repeat", t.params_repeat) ∷
    (codes "params-conflict", t.params_conflict) ∷
    (codes "params-bad", t.params_bad) ∷
    (codes "slices-kept", t.slices_kept) ∷
    (codes "slices-repeat", t.slices_repeat) ∷
    (codes "slices-conflict", t.slices_conflict) ∷
    (codes "slices-pending", t.slices_pending) ∷
    (codes "slices-full", t.slices_full) ∷
    (codes "slices-form", t.slices_form) ∷
    (codes "slices-place", t.slices_place) ∷
    (codes "slices-cut", t.slices_cut) ∷
    (codes "incomplete", t.incomplete) ∷
    (codes "unsound", t.unsound) ∷
    (codes "unpaired", t.unpaired) ∷
    (codes "frames", t.frames) ∷
    []

abbrev pub tally_text : Tally → List ℕ
tally_text t = lines (tally_lines t)

-- the lines of what was sent
abbrev pub sent_lines : ℕ → ℕ → ℕ → List (List ℕ × ℕ)
sent_lines frames datagrams bytes =
    (codes "frames", frames) ∷ (codes "datagrams", datagrams) ∷ (codes "bytes", bytes) ∷ []

abbrev pub packed_lines : ℕ → ℕ → ℕ → List (List ℕ × ℕ)
packed_lines pictures datagrams bytes =
    (codes "pictures", pictures) ∷ (codes "datagrams", datagrams) ∷ (codes "bytes", bytes) ∷ []

abbrev pub played_lines : ℕ → ℕ → ℕ → List (List ℕ × ℕ)
played_lines pictures unpaired frames =
    (codes "pictures", pictures) ∷ (codes "unpaired", unpaired) ∷ (codes "frames", frames) ∷ []

abbrev pub reported_lines : ℕ → ℕ → ℕ → List (List ℕ × ℕ)
reported_lines datagrams packets reports =
    (codes "datagrams", datagrams) ∷ (codes "packets", packets) ∷ (codes "reports", reports) ∷ []

abbrev pub recorded_lines : ℕ → ℕ → List (List ℕ × ℕ)
recorded_lines datagrams sessions =
    (codes "datagrams", datagrams) ∷ (codes "sessions", sessions) ∷ []

abbrev pub replayed_lines : ℕ → ℕ → List (List ℕ × ℕ)
replayed_lines datagrams bytes = (codes "datagrams", datagrams) ∷ (codes "bytes", bytes) ∷ []

-- the lines of what was read of a pcap file
abbrev pub record_lines : ℕ → ℕ → List (List ℕ × ℕ)
record_lines records other = (codes "records", records) ∷ (codes "other", other) ∷ []

-- the lines of a command that came to status 0
unfoldable pub summary_lines : Summary → List (List ℕ × ℕ)
summary_lines (Judged tally) = tally_lines tally
summary_lines (Sent frames datagrams bytes) = sent_lines frames datagrams bytes
summary_lines (Looped frames datagrams bytes tally) =
    sent_lines frames datagrams bytes ++ tally_lines tally
summary_lines (Packed pictures datagrams bytes) = packed_lines pictures datagrams bytes
summary_lines (Played pictures unpaired frames) = played_lines pictures unpaired frames
summary_lines (Generated frames samples) =
    (codes "frames", frames) ∷ (codes "samples", samples) ∷ []
summary_lines (Compared frames samples different) =
    (codes "frames", frames) ∷ (codes "samples", samples) ∷ (codes "different", different) ∷ []
summary_lines (Reported datagrams packets reports) = reported_lines datagrams packets reports
summary_lines (Shown datagrams) = (codes "datagrams", datagrams) ∷ []
summary_lines (Recorded datagrams sessions) = recorded_lines datagrams sessions
summary_lines (Replayed datagrams bytes) = replayed_lines datagrams bytes

abbrev pub summary_text : Summary → List ℕ
summary_text summary = lines (summary_lines summary)

-- the status of a command that did not come to its end
abbrev pub ending_status : Ending → ℕ
ending_status (Usage place) = 2
ending_status NoMemory = 3
ending_status InputFailed = 4
ending_status OutputFailed = 5
ending_status WireFailed = 6
ending_status (CaptureCut place) = 8
ending_status (PacketLimit limit) = 9
ending_status (RawCut frame) = 10
ending_status (SampleTooLarge place plane value) = 11
ending_status (SliceTooLarge slice bytes) = 12
ending_status (StreamBad place) = 13
ending_status (FrameLimit limit) = 14

-- the line of a status
unfoldable pub status_line : Ending → List ℕ
status_line (Usage place) = line (codes "usage at") place
status_line NoMemory = codes "no memory" ++ newline
status_line InputFailed = codes "input failed" ++ newline
status_line OutputFailed = codes "output failed" ++ newline
status_line WireFailed = codes "wire failed" ++ newline
status_line (CaptureCut place) = line (codes "capture cut at") place
status_line (PacketLimit limit) = line (codes "packet limit") limit
status_line (RawCut frame) = line (codes "raw cut at frame") frame
status_line (SampleTooLarge place plane value) =
    codes "sample " ++ (decimal place ++ (codes " of plane " ++ (decimal plane
    ++ (codes " is " ++ (decimal value ++ newline)))))
status_line (SliceTooLarge slice bytes) =
    codes "slice " ++ (decimal slice ++ (codes " needs " ++ (decimal bytes
    ++ (codes " bytes" ++ newline))))
status_line (StreamBad place) = line (codes "stream bad at") place
status_line (FrameLimit limit) = line (codes "frame limit") limit
