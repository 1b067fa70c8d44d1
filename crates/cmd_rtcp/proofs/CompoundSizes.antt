-- A report has room in an entry.
use Rattle.std.proofs.Common.{◌≡◌, ℕ, ◌^◌, ◌<◌, ◌≤◌, List, length, Option, Some, None, refl, arith, length-append}
use Rattle.rtcp_reports.proofs.Appending.{length-describing}
use Rattle.rtcp_reports.specs.Rtcp.{IsName, block_bytes, description_bytes, packet_bytes, receiver_bytes, receiver_compound, sender_bytes, sender_compound, sender_info_bytes}
use Rattle.rtcp_reports.specs.declared.block.Block.{Block}
use Rattle.rtcp_reports.specs.declared.block.SenderInfo.{SenderInfo}

description : (ssrc : ℕ) (name : List ℕ) → IsName name → length (description_bytes ssrc name) ≤ 272
unfolding description_bytes packet_bytes
description ssrc name named = omega (arith, length-describing ssrc name, named.counted)

sender : (info : SenderInfo) → length (sender_bytes info) ≡ 28
unfolding sender_bytes packet_bytes sender_info_bytes
sender info = refl

receiver : (ssrc : ℕ) (block : Option Block) → length (receiver_bytes ssrc block) ≤ 32
unfolding receiver_bytes packet_bytes block_bytes
receiver ssrc None = omega arith
receiver ssrc (Some block) = omega arith

pub sender_small : (info : SenderInfo) (name : List ℕ) → IsName name → length (sender_compound info name) < 2 ^ 16
sender_small info name named =
    omega (arith, length-append (sender_bytes info) (description_bytes info.ssrc name), sender info, description info.ssrc name named)

pub receiver_small : (ssrc : ℕ) (block : Option Block) (name : List ℕ) → IsName name → length (receiver_compound ssrc block name) < 2 ^ 16
receiver_small ssrc block name named =
    omega (arith, length-append (receiver_bytes ssrc block) (description_bytes ssrc name), receiver ssrc block, description ssrc name named)

pub ruleset sizes = (sender_small, receiver_small)
