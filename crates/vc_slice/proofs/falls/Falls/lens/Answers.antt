use Rattle.std.proofs.Common.{arith, rules}
use Rattle.vc_slice.proofs.FallSums.{sum_past, most_past, sum_falls, bits_more, kept_more, index_more}
use Rattle.vc_slice.proofs.falls.Falls.lens.Goals as goal

pub indices-init : goal.indices-init
indices-init c = omega (arith, sum_past, most_past)

pub overflow_add-bits : goal.overflow_add-bits
overflow_add-bits c = grind (arith, bits_more, sum_falls)

pub overflow_add-lens : goal.overflow_add-lens
overflow_add-lens c = grind (arith, bits_more, kept_more, sum_falls)

pub indices-preserved : goal.indices-preserved
indices-preserved c = search (rules, bits_more, kept_more, index_more)
