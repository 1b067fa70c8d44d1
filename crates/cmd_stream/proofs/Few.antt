-- How many pictures at most were packed.
use Rattle.std.proofs.Common.{ℕ, ◌≤◌, Option, Some, None, arith}
use Rattle.std.specs.Prelude.{IfSome}
use Rattle.cmd_stream.specs.declared.opened.Opened.{Opened}
use Rattle.cmd_stream.specs.declared.stream.StreamPacker.{StreamPacker}
use Rattle.cmd_stream.specs.PackViews.{CountsFew}

few_more : (n m : ℕ) (o : Option Opened) → n ≤ m → IfSome o (λ o. o.pictures ≤ n) → IfSome o (λ o. o.pictures ≤ m)
few_more n m None up few = few
few_more n m (Some o) up few = omega (arith, few, up)

pub within_upto : (n m : ℕ) (p : StreamPacker) → n ≤ m → CountsFew n p → CountsFew m p
within_upto n m p up few = few_more n m p.stream up few
