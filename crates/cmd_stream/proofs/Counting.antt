-- Datagrams that are counted one after another.
use Rattle.std.proofs.Common.{◌≡◌, ℕ, ◌+◌, List, ◌++◌, length, arith, length-append}
use Rattle.cmd_send.proofs.Numbering.{sum-append}
use Rattle.cmd_send.specs.FramesSent.{bytes_in}
use Rattle.cmd_stream.specs.Counted.{counted_in_64}
use Rattle.cmd_stream.specs.Counted.{packed_totals, packed_totals_with}

pub totals_are : (xs ys : List (List ℕ)) → packed_totals_with (packed_totals xs) ys ≡ packed_totals (xs ++ ys)
totals_are xs ys = λ i. record { datagrams = datagrams i; bytes = bytes i }
  where
    datagrams : counted_in_64 (counted_in_64 (length xs) + length ys) ≡ counted_in_64 (length (xs ++ ys))
    datagrams = let long = length-append xs ys in omega (arith, long)

    bytes : counted_in_64 (counted_in_64 (bytes_in xs) + bytes_in ys) ≡ counted_in_64 (bytes_in (xs ++ ys))
    bytes = let sum = sum-append xs ys in omega (arith, sum)
