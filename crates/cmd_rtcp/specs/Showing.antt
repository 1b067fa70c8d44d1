-- Reports as lines of text (this project's own), and what showing those of an input did, by how it ended.
use Rattle.std.specs.Prelude.{◌≡◌, ℕ, List, ◌++◌, length, codes, Option, Some, None, Result, Ok, Err}
use Rattle.std.specs.List.{flat_map, range_with_len}
use Rattle.std.specs.Fmt.{decimal, signed_decimal}
use Rattle.link_report.specs.Report.{newline}
use Rattle.link_report.specs.declared.ending.Ending.{Ending}
use Rattle.link_report.specs.declared.summary.Summary.{Summary}
use Rattle.link_report.specs.declared.summary.Summary.TheVariants.{Shown}
use Rattle.rtcp_reports.specs.Rtcp.{compound, block_of_report, refusal_number}
use Rattle.rtcp_reports.specs.declared.block.Block.{Block}
use Rattle.rtcp_reports.specs.declared.block.CompoundView.{CompoundView}
use Rattle.rtcp_reports.specs.declared.block.SenderInfo.{SenderInfo}
use Rattle.rtcp_reports.specs.declared.refusal.RtcpRefusal.{RtcpRefusal}
use Rattle.vc_ports.specs.Changes.{InputChange, OutputChange}
use Rattle.link_hearing.specs.declared.form.InputForm.{InputForm}
use Rattle.cmd_rtcp.specs.Answering.{AnswersInput}
use Rattle.cmd_rtcp.specs.Due.{Due}

-- ---- lines

unfoldable pub refused_line : RtcpRefusal → List ℕ
refused_line refusal = codes "refused " ++ (decimal (refusal_number refusal) ++ newline)

-- which kind of report it is, who reports, what a sender counted, and how many blocks there are
unfoldable pub report_line : Option SenderInfo → CompoundView → List ℕ
report_line None view =
    codes "rr " ++ (decimal view.ssrc ++ (codes " blocks " ++ (decimal view.blocks ++ newline)))
report_line (Some sender) view =
    codes "sr " ++ (decimal view.ssrc ++ (codes " packets " ++ (decimal sender.packets
    ++ (codes " octets " ++ (decimal sender.octets ++ (codes " blocks " ++ (decimal view.blocks
    ++ newline)))))))

unfoldable pub block_line : Block → List ℕ
block_line block =
    codes "block " ++ (decimal block.ssrc ++ (codes " fraction " ++ (decimal block.fraction
    ++ (codes " lost " ++ (signed_decimal block.lost ++ (codes " highest "
    ++ (decimal block.highest ++ newline)))))))

-- a line for each block
abbrev pub block_lines : List ℕ → CompoundView → ℕ → List ℕ
block_lines bytes view count =
    flat_map (λ i. block_line (block_of_report bytes view i)) (range_with_len 0 count)

-- ---- texts

abbrev pub lines_of : List ℕ → Result CompoundView RtcpRefusal → List ℕ
lines_of bytes (Ok view) = report_line view.sender view ++ block_lines bytes view view.blocks
lines_of bytes (Err refusal) = refused_line refusal

-- of a datagram, which is a compound packet or is refused
unfoldable pub shown_lines : List ℕ → List ℕ
shown_lines bytes = lines_of bytes (compound bytes)

-- of datagrams one after another
abbrev pub shown_text : List (List ℕ) → List ℕ
shown_text datagrams = flat_map shown_lines datagrams

abbrev pub due_text : Due
due_text = record { so_far = shown_text; in_all = shown_text }

-- ---- an input

-- the text of its datagrams was written
abbrev pub Shows : ℕ → InputForm → Result Summary Ending → InputChange → OutputChange → Type 0
Shows packets form result input output =
    AnswersInput shown_text (λ summary datagrams. summary ≡ Shown (length datagrams)) form packets
    result input output
