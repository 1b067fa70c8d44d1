-- An accepted report has the room for what it says.
use Rattle.std.proofs.Common.{◌≡◌, ℕ, ◌+◌, ◌*◌, ◌≤◌, List, length, drop, Option, Some, None, Result, Ok, Err, Bool, true, false, not, nat_lt, ◌==◌, if◌then◌else◌, refl, sym, subst, le_trans}
use Rattle.std.specs.Prelude.{is_some}
use Rattle.std.proofs.lemmas.Bool.{ltb-false}
use Rattle.link_model.specs.Packets.{version}
use Rattle.vc_types.specs.Fields.{and_then}
use Rattle.rtcp_reports.specs.Rtcp.{item_count, packet_size, refusal_in, is_sender_report, is_report, fixed_size, report_room, report_size, sender_info, report_view, unless, compound, blocks_place}
use Rattle.rtcp_reports.specs.declared.block.SenderInfo.{SenderInfo}
use Rattle.rtcp_reports.specs.declared.block.CompoundView.{CompoundView}
use Rattle.rtcp_reports.specs.declared.refusal.RtcpRefusal.{RtcpRefusal}
use Rattle.rtcp_reports.specs.declared.refusal.RtcpRefusal.TheVariants.{Short, Length, Version, First}
use Rattle.rtcp_reports.proofs.Testing.{passing}

-- ---- blocks

room_of : (bytes : List ℕ) (size : ℕ) → report_size bytes ≡ Ok size → report_room bytes ≤ length bytes
unfolding report_size
room_of bytes size is =
    let long = passing (nat_lt (length bytes) 8) _ Short size is in
    let two = passing (not (version bytes == 2)) _ Version size long.1 in
    let report = passing (not (is_report bytes)) _ First size two.1 in
    let whole = passing (nat_lt (length bytes) (packet_size bytes)) _ Length size report.1 in
    let room = passing (nat_lt (packet_size bytes) (report_room bytes)) _ Length size whole.1 in
    le_trans (ltb-false (packet_size bytes) (report_room bytes) room.0) (ltb-false (length bytes) (packet_size bytes) whole.0)

accepted : (o : Option RtcpRefusal) (view seen : CompoundView) → unless o view ≡ Ok seen → seen ≡ view
accepted None view seen is = cc
accepted (Some refusal) view seen is = cc

-- what is seen, and where the first packet is accepted
seen_of : (first : Result ℕ RtcpRefusal) (later : ℕ → Option RtcpRefusal) (view seen : CompoundView) → and_then first (λ size. unless (later size) view) ≡ Ok seen
    → (size : ℕ) × (first ≡ Ok size) × (seen ≡ view)
seen_of (Err refusal) later view seen is = absurd (cc)
seen_of (Ok size) later view seen is = (size, refl, accepted (later size) view seen is)

-- a view has a sender where the report is a sender's
is_some_if : (b : Bool) (s : SenderInfo) → is_some (if b then Some s else None) ≡ b
is_some_if true s = refl
is_some_if false s = refl

room_of_view : (bytes : List ℕ) → report_room bytes ≤ length bytes → blocks_place (report_view bytes) + 24 * (report_view bytes).blocks ≤ length bytes
unfolding report_view
room_of_view bytes room =
    subst (λ (b : Bool). fixed_size b + 24 * item_count bytes ≤ length bytes)
    (sym (is_some_if (is_sender_report bytes) (sender_info bytes))) room

pub room_for_blocks : (bytes : List ℕ) (view : CompoundView) → compound bytes ≡ Ok view → blocks_place view + 24 * view.blocks ≤ length bytes
unfolding compound
room_for_blocks bytes view is =
    let seen = seen_of (report_size bytes) (λ size. refusal_in (drop size bytes)) (report_view bytes) view is in
    subst (λ (v : CompoundView). blocks_place v + 24 * v.blocks ≤ length bytes) (sym seen.2) (room_of_view bytes (room_of bytes seen.0 seen.1))
