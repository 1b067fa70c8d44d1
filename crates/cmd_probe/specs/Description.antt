-- What is known of the sources of datagrams, as text (this project's own): the lines of each source, in the
-- order of their first packets.
use Rattle.std.specs.Prelude.{ℕ, ◌+◌, ◌*◌, ◌/◌, ◌%◌, Bool, true, false, ◌==◌, nat_lt, nat_le, if◌then◌else◌}
use Rattle.std.specs.Prelude.{List, [], ◌++◌, codes, Option, Some, None}
use Rattle.std.specs.Fmt.{decimal, signed_decimal}
use Rattle.std.specs.List.{flat_map}
use Rattle.link_report.specs.Report.{newline}
use Rattle.rtcp_reports.specs.Tracks.{lost_of}
use Rattle.cmd_probe.specs.Sources.{Probed, probed}
use Rattle.cmd_probe.specs.Steps.{commonest}
use Rattle.cmd_probe.specs.declared.pictures.Pictures.{Pictures}
use Rattle.cmd_probe.specs.declared.slices.Indices.{Indices}
use Rattle.cmd_probe.specs.declared.source.Source.{Source}
use Rattle.cmd_probe.specs.declared.stamps.Stamps.{Stamps}
use Rattle.cmd_probe.specs.declared.steps.Step.{Step}

-- ---- the packets

-- the SSRC, the payload type of the first packet, and how the packets came
unfoldable pub source_line : Source → List ℕ
source_line s =
    (codes "source " ++ (decimal s.ssrc ++ (codes " type " ++ (decimal s.payload_type
    ++ (codes " packets " ++ (decimal s.arrivals.track.updates
    ++ (codes " lost " ++ signed_decimal (lost_of s.arrivals.track))))))))
    ++ (codes " repeats " ++ (decimal s.arrivals.repeats
    ++ (codes " disordered " ++ (decimal s.arrivals.disordered
    ++ (codes " bytes " ++ (decimal s.arrivals.bytes ++ newline))))))

-- ---- the pictures

unfoldable pub pictures_line : Pictures → List ℕ
pictures_line p =
    codes "pictures " ++ (decimal p.count ++ (codes " whole " ++ (decimal p.whole
    ++ (codes " first " ++ (decimal p.first ++ (codes " last " ++ (decimal p.last
    ++ (codes " largest " ++ (decimal p.largest ++ newline)))))))))

-- where a slice came
unfoldable pub indices_line : Indices → List ℕ
indices_line s =
    if nat_le s.least s.most
    then codes "indices least " ++ (decimal s.least ++ (codes " most " ++ (decimal s.most ++ newline)))
    else []

-- tenths of a million bits in a second, to the nearest: of so many bytes in so many ticks, of which a second
-- has 90,000
abbrev pub tenths : (bytes ticks : ℕ) → ℕ
tenths bytes ticks = (72 * bytes + 5 * ticks) / (10 * ticks)

abbrev pub with_tenths : ℕ → List ℕ
with_tenths rate = decimal (rate / 10) ++ (codes "." ++ decimal (rate % 10))

-- the rate of so many bytes in so many ticks, if there are any
abbrev pub rate_words : (bytes ticks : ℕ) → List ℕ
rate_words bytes ticks = if ticks == 0 then codes "-" else with_tenths (tenths bytes ticks)

-- the commonest step, and the rate by it: each picture has so many ticks
unfoldable pub step_words : Option Step → (pictures bytes : ℕ) → List ℕ
step_words (Some step) pictures bytes =
    codes " step " ++ (decimal step.ticks ++ (codes " mbits "
    ++ (rate_words bytes (pictures * step.ticks) ++ newline)))
step_words None pictures bytes = codes " step - mbits -\n"

unfoldable pub first_words : ℕ → List ℕ
first_words first = codes "timestamps first " ++ decimal first

unfoldable pub stamps_line : Stamps → (pictures bytes : ℕ) → List ℕ
stamps_line s pictures bytes = first_words s.first ++ step_words (commonest s.steps) pictures bytes

abbrev pub pictures_text : Source → List ℕ
pictures_text s =
    pictures_line s.pictures
    ++ (indices_line s.indices ++ stamps_line s.stamps s.pictures.count s.arrivals.bytes)

-- ---- all

-- the lines of a source: how its packets came, what its headers and parameters say, and its pictures, if it
-- began any
unfoldable pub source_text : Source → List ℕ
source_text s =
    source_line s
    ++ (s.formats.text ++ (if nat_lt 0 s.pictures.count then pictures_text s else []))

abbrev pub others_line : Bool → List ℕ
others_line true = codes "more sources\n"
others_line false = []

abbrev pub text_of : List Source → Bool → List ℕ
text_of sources others = flat_map source_text sources ++ others_line others

-- what the datagrams hold
abbrev pub description_of : List (List ℕ) → List ℕ
description_of datagrams = text_of (probed datagrams).sources (probed datagrams).others
