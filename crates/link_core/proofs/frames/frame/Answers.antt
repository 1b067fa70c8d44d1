use Rattle.std.proofs.Common.{rules, ◌≡◌, true, List, Option, sym, subst}
use Rattle.std.specs.Prelude.{IfSome}
use Rattle.frame_writer.specs.Samples.{HaveByteSamples}
use Rattle.vc_types.specs.Planes.{planes_in}
use Rattle.vc_types.specs.Rasters.{Raster}
use Rattle.vc_types.specs.SequenceHeader.{Sequence, picture_shape, sequence_of}
use Rattle.frame_writer.specs.Shapes.{HaveShape}
use Rattle.picture_build.proofs.Weaving.{field_heights, woven_fits}
use Rattle.link_core.proofs.frames.frame.Goals as goal

pub weave-requires-clause-heights : goal.weave-requires-clause-heights
weave-requires-clause-heights c =
    let shape = picture_shape c.args.session.now.session.sequence in
    let first : HaveShape shape (planes_in c.in-Some.first) = subst (λ (o : Option (List Raster)). IfSome o (λ p. HaveShape shape (planes_in p))) c.in-Some.is c.in_ok-first.ensures.shape in
    let fields : c.header.result.now.fields ≡ true = search rules in
    field_heights (sequence_of c.header.result.now) (planes_in c.in-Some.first) c.header.result.now.dimensions fields
    (subst (λ (q : Sequence). HaveShape (picture_shape q) (planes_in c.in-Some.first)) (sym c.header.ensures) first)

pub returns-clause-narrow : goal.returns-clause-narrow
returns-clause-narrow c = λ narrow. (
    let shape = picture_shape c.args.session.now.session.sequence in
    let first : HaveShape shape (planes_in c.in-Some.first) = subst (λ (o : Option (List Raster)). IfSome o (λ p. HaveShape shape (planes_in p))) c.in-Some.is c.in_ok-first.ensures.shape in
    let second : HaveShape shape (planes_in c.in-Some-2.second) = subst (λ (o : Option (List Raster)). IfSome o (λ p. HaveShape shape (planes_in p))) c.in-Some-2.is c.in_ok-second.ensures.shape in
    subst HaveByteSamples (sym c.in_ok-frame.ensures.value)
    (woven_fits c.header-2.result.now.top_first (planes_in c.in-Some.first) (planes_in c.in-Some-2.second) (first.narrow narrow) (second.narrow narrow)))
