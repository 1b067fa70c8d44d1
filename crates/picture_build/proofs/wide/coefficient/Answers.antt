use Rattle.std.proofs.Common.{rules, ◌^◌, ◌<◌, ℤ, pos, unsigned_abs, slice_index_or, FitsSigned, sym, subst, ◌∙◌}
use Rattle.std.specs.Int.{w32}
use Rattle.picture_build.proofs.WideNumbers.{below_greatest, cast_fits, cast_is, widened_number}
use Rattle.picture_build.proofs.wide.coefficient.Goals as goal

pub overflow_cast-result : goal.overflow_cast-result
overflow_cast-result c =
    let from = c.args.quantised in
    let z = slice_index_or from.numbers.now c.args.place (pos 0) in
    let fits : FitsSigned w32 z = search rules in
    let value = widened_number z c.from.result c.dequant.result from.quantiser.now.index fits c.from.ensures c.dequant.ensures.value in
    let below = subst (λ (y : ℤ). unsigned_abs y < 2 ^ 60) (sym value) (below_greatest z from.greatest from.quantiser.now.index (2 ^ 60) c.requires.small from.is_small) in
    cast_fits c.dequant.result below

pub returns-clause-value : goal.returns-clause-value
returns-clause-value c =
    let from = c.args.quantised in
    let z = slice_index_or from.numbers.now c.args.place (pos 0) in
    let fits : FitsSigned w32 z = search rules in
    let value = widened_number z c.from.result c.dequant.result from.quantiser.now.index fits c.from.ensures c.dequant.ensures.value in
    let below = subst (λ (y : ℤ). unsigned_abs y < 2 ^ 60) (sym value) (below_greatest z from.greatest from.quantiser.now.index (2 ^ 60) c.requires.small from.is_small) in
    cast_is c.dequant.result below ∙ value

pub returns-clause-range : goal.returns-clause-range
returns-clause-range c =
    let from = c.args.quantised in
    let z = slice_index_or from.numbers.now c.args.place (pos 0) in
    let fits : FitsSigned w32 z = search rules in
    let value = widened_number z c.from.result c.dequant.result from.quantiser.now.index fits c.from.ensures c.dequant.ensures.value in
    let below = subst (λ (y : ℤ). unsigned_abs y < 2 ^ 60) (sym value) (below_greatest z from.greatest from.quantiser.now.index (2 ^ 60) c.requires.small from.is_small) in
    subst (λ (y : ℤ). unsigned_abs y < 2 ^ 60) (sym (cast_is c.dequant.result below)) below
