use Rattle.std.proofs.Common.{arith}
use Rattle.vc_types.specs.declared.video.Component.TheVariants.{Y, C1, C2}
use Rattle.picture_build.proofs.filling.fill_slice.Goals as goal

pub fill_component-requires-clause-whole : goal.fill_component-requires-clause-whole
fill_component-requires-clause-whole c = rw (c.new-parts.ensures.plan, c.new-parts.ensures.slice) c.requires.whole

pub fill_component-requires-clause-room : goal.fill_component-requires-clause-room
fill_component-requires-clause-room c = rw (c.new-parts.ensures.plan, c.new-parts.ensures.slice) (c.requires.room Y)

pub fill_component-requires-clause-cells : goal.fill_component-requires-clause-cells
fill_component-requires-clause-cells c = rw c.new-parts.ensures.plan c.requires.y

pub fill_component-requires-2-clause-whole : goal.fill_component-requires-2-clause-whole
fill_component-requires-2-clause-whole c = rw (c.new-parts.ensures.plan, c.new-parts.ensures.slice) c.requires.whole

pub fill_component-requires-2-clause-room : goal.fill_component-requires-2-clause-room
fill_component-requires-2-clause-room c =
    rw (c.new-parts.ensures.plan, c.new-parts.ensures.slice)
    (let room = c.requires.room C1 in omega (arith, room, c.fill_component.auto.numbers))

pub fill_component-requires-2-clause-cells : goal.fill_component-requires-2-clause-cells
fill_component-requires-2-clause-cells c = rw c.new-parts.ensures.plan c.requires.c1

pub fill_component-requires-3-clause-whole : goal.fill_component-requires-3-clause-whole
fill_component-requires-3-clause-whole c = rw (c.new-parts.ensures.plan, c.new-parts.ensures.slice) c.requires.whole

pub fill_component-requires-3-clause-room : goal.fill_component-requires-3-clause-room
fill_component-requires-3-clause-room c =
    rw (c.new-parts.ensures.plan, c.new-parts.ensures.slice)
    (let room = c.requires.room C2 in omega (arith, room, c.fill_component.auto.numbers, c.fill_component-2.auto.numbers))

pub fill_component-requires-3-clause-cells : goal.fill_component-requires-3-clause-cells
fill_component-requires-3-clause-cells c = rw c.new-parts.ensures.plan c.requires.c2

pub returns-clause-y : goal.returns-clause-y
returns-clause-y c = rw (c.new-parts.ensures.plan, c.new-parts.ensures.slice) at c.fill_component.ensures.cells

pub returns-clause-c1 : goal.returns-clause-c1
returns-clause-c1 c = rw (c.new-parts.ensures.plan, c.new-parts.ensures.slice) at c.fill_component-2.ensures.cells

pub returns-clause-c2 : goal.returns-clause-c2
returns-clause-c2 c = rw (c.new-parts.ensures.plan, c.new-parts.ensures.slice) at c.fill_component-3.ensures.cells
