-- A block, by what is read of its bytes.
use Rattle.std.proofs.Common.{◌≡◌, ℕ, ◌-◌, ℤ, List, length, take, drop, slice_index, refl, arith}
use Rattle.std.proofs.lemmas.List.{length-drop, take_all}
use Rattle.byteorder.specs.Endian.{big_number, twos_complement}
use Rattle.rtcp_reports.specs.Rtcp.{block_in}
use Rattle.rtcp_reports.specs.declared.block.Block.{Block}

abbrev a_block : ℕ → ℕ → ℤ → ℕ → Block
a_block ssrc fraction lost highest = record { ssrc = ssrc; fraction = fraction; lost = lost; highest = highest }

-- the bytes from a place on
abbrev tail : ℕ → List ℕ → List ℕ
tail n bytes = take (length bytes - n) (drop n bytes)

tail_is : (n : ℕ) (bytes : List ℕ) → tail n bytes ≡ drop n bytes
tail_is n bytes = take_all (length bytes - n) (drop n bytes) (omega (arith, length-drop n bytes))

pub block_read : (bytes : List ℕ) (ssrc highest : ℕ) (lost : ℤ) → ssrc ≡ big_number 4 bytes → lost ≡ twos_complement 3 (big_number 3 (tail 5 bytes)) → highest ≡ big_number 4 (tail 8 bytes)
    → a_block ssrc (slice_index bytes 4) lost highest ≡ block_in bytes
unfolding block_in
block_read bytes ssrc highest lost is_ssrc is_lost is_highest =
    rw (is_ssrc, is_lost, is_highest, tail_is 5 bytes, tail_is 8 bytes) refl
