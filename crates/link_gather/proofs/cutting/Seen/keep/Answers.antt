use Rattle.std.proofs.Common.{◌≡◌, ◌++◌, List, Bool, map, sym, ap, ◌∙◌, arith, cond, [], ◌∷◌}
use Rattle.std.specs.Prelude.{◌||◌}
use Rattle.std.proofs.lemmas.Result.{on_ok_weaker}
use Rattle.link_model.specs.Books.{slot_at}
use Rattle.link_gather.specs.Filling.{is_put_other, is_put_new}
use Rattle.link_gather.specs.NewSlices.{PictureSlice, picture_slice}
use Rattle.link_gather.specs.Views.{new_slice_of}
use Rattle.link_gather.proofs.FillingLaws.{other_is, fresh_is}
use Rattle.link_gather.proofs.NewLaws.{still_whole}
use Rattle.vc_types.specs.TransformParameters.{parameters_of}
use Rattle.link_gather.proofs.cutting.Seen.keep.Goals as goal

pub put-requires : goal.put-requires
put-requires c = omega (arith, c.requires.inside, c.requires.slots.count)

pub returns-clause-conflict : goal.returns-clause-conflict
returns-clause-conflict c =
    let slots = c.args.slots.now in
    on_ok_weaker c.add.result
    (λ e. e ∙ ap (λ (b : Bool). c.args.self.now.conflict || b)
    (ap is_put_other c.in_ok-put.ensures.result ∙ other_is (slot_at slots c.args.i) c.args.i c.args.bytes))
    c.add.ensures.conflict

pub returns-clause-slices : goal.returns-clause-slices
returns-clause-slices c =
    let slots = c.args.slots.now in
    on_ok_weaker c.add.result
    (λ e. e ∙ ap (λ (b : Bool). map new_slice_of c.args.self.now.slices.items
    ++ cond b (picture_slice (parameters_of c.args.plan.now) c.args.i c.args.bytes ∷ []) [])
    (ap is_put_new c.in_ok-put.ensures.result ∙ fresh_is (slot_at slots c.args.i) c.args.i c.args.bytes))
    c.add.ensures.slices

pub returns-clause-slots : goal.returns-clause-slots
returns-clause-slots c =
    still_whole (parameters_of c.args.plan.now) c.args.slots.now c.put.new.self c.args.i c.args.bytes
    c.requires.slots c.requires.whole c.in_ok-put.ensures.value
