use Rattle.std.proofs.Common.{◌≡◌, arith, sym, ap, subst, ◌∙◌, ℤ, List, length, drop, take, ◌++◌}
use Rattle.std.proofs.lemmas.Result.{on_ok_weaker}
use Rattle.picture_build.specs.Cells.{cells_in}
use Rattle.picture_build.specs.PartsKept.{ChangesPart, PutsCoefficients}
use Rattle.vc_slice.specs.Bands.{numbered_in}
use Rattle.picture_build.proofs.ClearedParts.{written_through, both_change, both_put, low_changes, low_put}
use Rattle.picture_build.proofs.TwoParts.{length_seen}
use Rattle.picture_build.proofs.cells.CoefficientCells.put_numbers.Goals as goal

pub put_dequantised-done-requires-clause-cells : goal.put_dequantised-done-requires-clause-cells
put_dequantised-done-requires-clause-cells c =
    ap length c.deref_mut.ensures.value
    ∙ sym (length_seen c.self.inside.is_wide c.self.inside.high.items c.self.inside.low.items c.args.self.now c.self.view_is c.self.invariant.even)
    ∙ c.requires.cells

pub clear_part-requires : goal.clear_part-requires
clear_part-requires c =
    ap length c.deref_mut-then-self.ensures.value ∙ c.self.invariant.even c.if-self.true
    ∙ sym (length_seen c.self.inside.is_wide c.self.inside.high.items c.self.inside.low.items c.args.self.now c.self.view_is c.self.invariant.even)
    ∙ c.requires.cells

-- ---- both parts are written

abbrev low_then : goal.After-self-then-self-1 → List ℤ
low_then c = take c.self.inside.low.len (c.put_dequantised-done.new.cells ++ drop (length c.put_dequantised-done.new.cells) c.self.inside.low.items)

abbrev high_then : goal.After-self-then-self-1 → List ℤ
high_then c = take c.self.inside.high.len (c.clear_part.new.cells ++ drop (length c.clear_part.new.cells) c.self.inside.high.items)

low_is : (c : goal.After-self-then-self-1) → low_then c ≡ c.put_dequantised-done.new.cells
low_is c = written_through c.self.inside.low.items _ _ c.self.inside.low.len c.deref_mut.ensures.value (omega (arith, c.self.inside.low.ok.0)) c.put_dequantised-done.ensures.only.length

high_is : (c : goal.After-self-then-self-1) → high_then c ≡ c.clear_part.new.cells
high_is c = written_through c.self.inside.high.items _ _ c.self.inside.high.len c.deref_mut-then-self.ensures.value (omega (arith, c.self.inside.high.ok.0)) c.clear_part.ensures.only.length

cells_are : (c : goal.After-self-then-self-1) → cells_in c.self.inside.is_wide (high_then c) (low_then c) ≡ cells_in c.self.inside.is_wide c.clear_part.new.cells c.put_dequantised-done.new.cells
cells_are c =
    ap (λ zs. cells_in c.self.inside.is_wide zs (low_then c)) (high_is c)
    ∙ ap (cells_in c.self.inside.is_wide c.clear_part.new.cells) (low_is c)

only_low : (c : goal.After-self-then-self-1) → ChangesPart c.args.bands.now.parts.now c.args.c c.self.inside.low.items c.put_dequantised-done.new.cells
only_low c = subst (λ zs. ChangesPart c.args.bands.now.parts.now c.args.c zs c.put_dequantised-done.new.cells) c.deref_mut.ensures.value c.put_dequantised-done.ensures.only

only_high : (c : goal.After-self-then-self-1) → ChangesPart c.args.bands.now.parts.now c.args.c c.self.inside.high.items c.clear_part.new.cells
only_high c = subst (λ zs. ChangesPart c.args.bands.now.parts.now c.args.c zs c.clear_part.new.cells) c.deref_mut-then-self.ensures.value c.clear_part.ensures.only

pub invariant_of-self : goal.invariant_of-self
invariant_of-self c =
    let long = ap length (low_is c) ∙ (only_low c).length in
    record {
      room = omega (arith, long, c.self.invariant.room);
      even = λ wide. ap length (high_is c) ∙ (only_high c).length ∙ c.self.invariant.even wide ∙ sym long;
    }

pub returns-then-self-clause-only : goal.returns-then-self-clause-only
returns-then-self-clause-only c =
    subst (ChangesPart c.args.bands.now.parts.now c.args.c c.args.self.now) (sym (cells_are c))
    (both_change c.args.bands.now c.args.c c.self.inside.is_wide c.self.inside.high.items c.self.inside.low.items c.args.self.now c.self.view_is c.self.invariant.even c.put_dequantised-done.new.cells (only_low c) c.if-self.true c.clear_part.new.cells (only_high c))

pub returns-then-self-clause-all : goal.returns-then-self-clause-all
returns-then-self-clause-all c =
    let bands = c.args.bands.now in
    let coefficients = numbered_in bands c.args.c c.args.numbers.now in
    on_ok_weaker c.put_dequantised-done.result (λ puts.
    subst (PutsCoefficients bands c.args.c coefficients c.args.self.now) (sym (cells_are c))
    (both_put bands c.args.c c.self.inside.is_wide c.self.inside.high.items c.self.inside.low.items c.args.self.now c.self.view_is c.self.invariant.even c.put_dequantised-done.new.cells (only_low c) c.if-self.true c.clear_part.new.cells (only_high c)
    coefficients c.clear_part.ensures.on (subst (λ (zs : List ℤ). PutsCoefficients bands c.args.c coefficients zs c.put_dequantised-done.new.cells) c.deref_mut.ensures.value puts)))
    c.put_dequantised-done.ensures.all

-- ---- the low one alone

abbrev low_after : goal.Else-self → List ℤ
low_after c = take c.self.inside.low.len (c.put_dequantised-done.new.cells ++ drop (length c.put_dequantised-done.new.cells) c.self.inside.low.items)

alone_is : (c : goal.Else-self) → low_after c ≡ c.put_dequantised-done.new.cells
alone_is c = written_through c.self.inside.low.items _ _ c.self.inside.low.len c.deref_mut.ensures.value (omega (arith, c.self.inside.low.ok.0)) c.put_dequantised-done.ensures.only.length

only_alone : (c : goal.Else-self) → ChangesPart c.args.bands.now.parts.now c.args.c c.self.inside.low.items c.put_dequantised-done.new.cells
only_alone c = subst (λ zs. ChangesPart c.args.bands.now.parts.now c.args.c zs c.put_dequantised-done.new.cells) c.deref_mut.ensures.value c.put_dequantised-done.ensures.only

pub invariant_of-self-else-self : goal.invariant_of-self-else-self
invariant_of-self-else-self c =
    let long = ap length (alone_is c) ∙ (only_alone c).length in
    record {
      room = omega (arith, long, c.self.invariant.room);
      even = λ wide. c.self.invariant.even wide ∙ sym long;
    }

pub returns-else-self-clause-only : goal.returns-else-self-clause-only
returns-else-self-clause-only c =
    subst (λ zs. ChangesPart c.args.bands.now.parts.now c.args.c c.args.self.now (cells_in c.self.inside.is_wide c.self.inside.high.items zs)) (sym (alone_is c))
    (low_changes c.args.bands.now c.args.c c.self.inside.is_wide c.self.inside.high.items c.self.inside.low.items c.args.self.now c.self.view_is c.self.invariant.even c.put_dequantised-done.new.cells (only_alone c) c.if-self.false)

pub returns-else-self-clause-all : goal.returns-else-self-clause-all
returns-else-self-clause-all c =
    let bands = c.args.bands.now in
    let coefficients = numbered_in bands c.args.c c.args.numbers.now in
    on_ok_weaker c.put_dequantised-done.result (λ puts.
    subst (λ (zs : List ℤ). PutsCoefficients bands c.args.c coefficients c.args.self.now (cells_in c.self.inside.is_wide c.self.inside.high.items zs)) (sym (alone_is c))
    (low_put bands c.args.c c.self.inside.is_wide c.self.inside.high.items c.self.inside.low.items c.args.self.now c.self.view_is c.self.invariant.even c.put_dequantised-done.new.cells (only_alone c) c.if-self.false
    coefficients (subst (λ (zs : List ℤ). PutsCoefficients bands c.args.c coefficients zs c.put_dequantised-done.new.cells) c.deref_mut.ensures.value puts)))
    c.put_dequantised-done.ensures.all
