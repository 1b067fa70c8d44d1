-- A compound packet that was written is read back.
use Rattle.std.proofs.Common.{◌≡◌, ℕ, suc, ◌+◌, ◌-◌, ◌*◌, ◌/◌, ◌%◌, ◌^◌, ◌<◌, ◌≤◌, List, [], ◌++◌, length, drop, Some, None, Ok, ℤ, pos, negsuc, neg_ℤ, ◌-ℤ◌, ◌≤ℤ◌, refl, sym, ap, ◌∙◌, arith}
use Rattle.std.specs.Int.{w64}
use Rattle.std.proofs.lemmas.Bool.{lt-ltb, le-ltb}
use Rattle.std.proofs.lemmas.Int.{ints}
use Rattle.std.proofs.lemmas.List.{drop_all}
use Rattle.byteorder.specs.Endian.{big_bytes, big_number, low_bytes, twos_complement}
use Rattle.byteorder.specs.Numbers.{big_number-reads_back}
use Rattle.link_model.specs.Packets.{version}
use Rattle.rtcp_reports.specs.Rtcp.{packet_bytes, block_bytes, receiver_bytes, sender_info_bytes, sender_bytes, description_bytes, name_words, receiver_compound, sender_compound, IsName, BlockFits, SenderFits, packet_size, refusal_in, report_view, compound, block_in, block_of_report}
use Rattle.rtcp_reports.specs.declared.block.Block.{Block}
use Rattle.rtcp_reports.specs.declared.block.SenderInfo.{SenderInfo}
use Rattle.rtcp_reports.specs.declared.block.CompoundView.{CompoundView}
use Rattle.rtcp_reports.proofs.Compounds.{accepted}
use Rattle.rtcp_reports.proofs.Appending.{describing, length-describing}
use Rattle.rtcp_reports.proofs.Packets.{packet_whole, report_whole}
use Rattle.rtcp_reports.proofs.PacketChains.{no_packets, more_packets}

-- ---- the description

-- a packet by itself
one_packet : (count type words : ℕ) (body : List ℕ) → count < 32 → length body ≡ 4 * words → words < 2 ^ 16 → refusal_in (packet_bytes count type body) ≡ None
unfolding packet_bytes
one_packet count type words body few is small =
    let bytes : List ℕ = packet_bytes count type body in
    let same : length body / 4 ≡ words = omega arith in
    let long : length bytes ≡ 4 * (words + 1) = omega arith in
    let told : packet_size bytes ≡ 4 * (words + 1) = ap (λ (n : ℕ). 4 * (n + 1)) (big_number-reads_back 2 (length body / 4) body (omega arith) ∙ same) in
    let two : version bytes ≡ 2 = omega arith in
    let whole = packet_whole bytes (4 * (words + 1)) (omega arith) two told (omega arith) in
    let none : drop (4 * (words + 1)) bytes ≡ [] = drop_all (4 * (words + 1)) bytes (omega arith) in
    sym (more_packets bytes (4 * (words + 1)) (omega arith) whole) ∙ ap refusal_in none ∙ no_packets [] refl

described : (ssrc : ℕ) (name : List ℕ) → IsName name → refusal_in (description_bytes ssrc name) ≡ None
unfolding description_bytes
described ssrc name named = one_packet 1 202 (name_words (length name)) (describing ssrc name) (omega arith) (length-describing ssrc name) (omega (arith, named.counted))

-- ---- the loss

loss_of : (n : ℕ) → n < 8388608 → twos_complement 3 (low_bytes w64 3 (pos n)) ≡ pos n
loss_of n h = let e : n % 16777216 ≡ n = omega arith in rw (e, lt-ltb n 8388608 h) refl

-- a difference below zero
below : (a b n : ℕ) → a + suc n ≡ b → pos a -ℤ pos b ≡ negsuc n
below a b n h = omega (arith, ints)

gain_of : (n : ℕ) → n < 8388608 → twos_complement 3 (low_bytes w64 3 (negsuc n)) ≡ negsuc n
gain_of n h =
    let e : (18446744073709551616 - suc n) % 16777216 ≡ 16777216 - suc n = omega arith in
    let large : 8388608 ≤ 16777216 - suc n = omega arith in
    rw (e, le-ltb (16777216 - suc n) 8388608 large) (below (16777216 - suc n) 16777216 n (omega arith))

loss_back : (z : ℤ) → neg_ℤ (pos 8388608) ≤ℤ z → z ≤ℤ pos 8388607 → twos_complement 3 (low_bytes w64 3 z) ≡ z
loss_back (pos n) least most = loss_of n (omega (arith, ints))
loss_back (negsuc n) least most = gain_of n (omega (arith, ints))

-- ---- reports

abbrev a_report : ℕ → ℕ → CompoundView
a_report ssrc blocks = record { sender = None; ssrc = ssrc; blocks = blocks }

receiver_none : (ssrc : ℕ) (rest : List ℕ) → ssrc < 2 ^ 32 → refusal_in rest ≡ None → compound (receiver_bytes ssrc None ++ rest) ≡ Ok (record { sender = None; ssrc = ssrc; blocks = 0 })
unfolding receiver_bytes packet_bytes report_view
receiver_none ssrc rest small sound =
    let bytes : List ℕ = receiver_bytes ssrc None ++ rest in
    accepted bytes 8 (report_whole bytes 8 (omega arith) refl refl refl (omega arith) (omega arith)) sound
    ∙ (λ i. Ok (a_report (big_number-reads_back 4 ssrc [] small i) 0))

receiver_one : (ssrc : ℕ) (block : Block) (rest : List ℕ) → ssrc < 2 ^ 32 → refusal_in rest ≡ None → compound (receiver_bytes ssrc (Some block) ++ rest) ≡ Ok (record { sender = None; ssrc = ssrc; blocks = 1 })
unfolding receiver_bytes packet_bytes report_view block_bytes
receiver_one ssrc block rest small sound =
    let bytes : List ℕ = receiver_bytes ssrc (Some block) ++ rest in
    accepted bytes 32 (report_whole bytes 32 (omega arith) refl refl refl (omega arith) (omega arith)) sound
    ∙ (λ i. Ok (a_report (big_number-reads_back 4 ssrc [] small i) 1))

abbrev a_block : ℕ → ℕ → ℤ → ℕ → Block
a_block ssrc fraction lost highest = record { ssrc = ssrc; fraction = fraction; lost = lost; highest = highest }

block_back : (ssrc : ℕ) (block : Block) (rest : List ℕ) → BlockFits block → block_of_report (receiver_bytes ssrc (Some block) ++ rest) (record { sender = None; ssrc = ssrc; blocks = 1 }) 0 ≡ block
unfolding receiver_bytes packet_bytes block_bytes block_in
block_back ssrc block rest fits =
    let low : low_bytes w64 3 block.lost < 2 ^ 24 = omega arith in
    let lost : twos_complement 3 (big_number 3 (big_bytes 3 (low_bytes w64 3 block.lost) ++ [])) ≡ block.lost = ap (twos_complement 3) (big_number-reads_back 3 (low_bytes w64 3 block.lost) [] low) ∙ loss_back block.lost fits.loss.least fits.loss.most in
    (λ i. a_block (big_number-reads_back 4 block.ssrc [] fits.ssrc i) block.fraction (lost i) (big_number-reads_back 4 block.highest [] fits.highest i))

abbrev a_sender : ℕ → ℕ → ℕ → ℕ → ℕ → CompoundView
a_sender ssrc ntp timestamp packets octets = record {
  sender = Some (record { ssrc = ssrc; ntp = ntp; timestamp = timestamp; packets = packets; octets = octets });
  ssrc = ssrc;
  blocks = 0;
}

sender_back : (s : SenderInfo) (rest : List ℕ) → SenderFits s → refusal_in rest ≡ None → compound (sender_bytes s ++ rest) ≡ Ok (record { sender = Some s; ssrc = s.ssrc; blocks = 0 })
unfolding sender_bytes packet_bytes report_view sender_info_bytes
sender_back s rest fits sound =
    let bytes : List ℕ = sender_bytes s ++ rest in
    accepted bytes 28 (report_whole bytes 28 (omega arith) refl refl refl (omega arith) (omega arith)) sound
    ∙ (λ i. Ok (a_sender (big_number-reads_back 4 s.ssrc [] fits.ssrc i) (big_number-reads_back 4 s.ntp [] fits.ntp i) (big_number-reads_back 4 s.timestamp [] fits.timestamp i) (big_number-reads_back 4 s.packets [] fits.packets i) (big_number-reads_back 4 s.octets [] fits.octets i)))

-- ---- compound packets

pub none_is_read : (ssrc : ℕ) (name : List ℕ) → ssrc < 2 ^ 32 → IsName name → compound (receiver_compound ssrc None name) ≡ Ok (record { sender = None; ssrc = ssrc; blocks = 0 })
none_is_read ssrc name small named = receiver_none ssrc (description_bytes ssrc name) small (described ssrc name named)

pub one_is_read : (ssrc : ℕ) (block : Block) (name : List ℕ) → ssrc < 2 ^ 32 → IsName name → compound (receiver_compound ssrc (Some block) name) ≡ Ok (record { sender = None; ssrc = ssrc; blocks = 1 })
one_is_read ssrc block name small named = receiver_one ssrc block (description_bytes ssrc name) small (described ssrc name named)

pub block_is_read : (ssrc : ℕ) (block : Block) (name : List ℕ) → BlockFits block → block_of_report (receiver_compound ssrc (Some block) name) (record { sender = None; ssrc = ssrc; blocks = 1 }) 0 ≡ block
block_is_read ssrc block name fits = block_back ssrc block (description_bytes ssrc name) fits

pub sender_is_read : (s : SenderInfo) (name : List ℕ) → SenderFits s → IsName name → compound (sender_compound s name) ≡ Ok (record { sender = Some s; ssrc = s.ssrc; blocks = 0 })
sender_is_read s name fits named = sender_back s (description_bytes s.ssrc name) fits (described s.ssrc name named)
