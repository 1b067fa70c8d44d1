use Rattle.std.proofs.Common.{◌≡◌, ap, sym, subst, ◌∙◌}
use Rattle.std.specs.Prelude.{IfOk}
use Rattle.vc_types.specs.Planes.{planes_in, planes_of}
use Rattle.picture_build.specs.Kept.{PartPicture, HasAllSlices, no_slices, slices_of}
use Rattle.picture_build.proofs.WaitingRuns.{seen-count, waiting-begun, seen-begun}
use Rattle.picture_build.proofs.builder.PictureBuilder.planes_joined.Goals as goal

pub planes_joined-made-requires : goal.planes_joined-made-requires
planes_joined-made-requires g c = record { whole = subst HasAllSlices (sym (c.place_waiting_joined.ensures.placed ∙ c.self.view_is)) c.requires.whole }

pub invariant_of-self : goal.invariant_of-self
invariant_of-self g c =
    let s = c.self.inside in
    waiting-begun c.args.self.now.parameters c.planes_joined-made.new.self c.place_waiting_joined.new.runs _ s.came.len
    (c.planes_joined-made.ensures.restarted ∙ ap (λ (q : PartPicture). no_slices q.parameters) (c.place_waiting_joined.ensures.placed ∙ c.self.view_is)) c.place_waiting_joined.ensures.none (c.fill.ensures.items (λ y e. e))
    (s.came.ok.0 ∙ seen-count s.placed s.runs s.came.items c.self.invariant c.args.self.now c.self.view_is)

pub returns : goal.returns
returns g c =
    let s = c.self.inside in
    record {
      value = subst (λ (q : PartPicture). IfOk c.planes_joined-made.result (λ planes. planes_in planes ≡ planes_of q.parameters (slices_of q)))
          (c.place_waiting_joined.ensures.placed ∙ c.self.view_is) c.planes_joined-made.ensures.value;
      restarted = seen-begun c.args.self.now.parameters c.planes_joined-made.new.self c.place_waiting_joined.new.runs _ s.came.len
          (c.planes_joined-made.ensures.restarted ∙ ap (λ (q : PartPicture). no_slices q.parameters) (c.place_waiting_joined.ensures.placed ∙ c.self.view_is)) c.place_waiting_joined.ensures.none (c.fill.ensures.items (λ y e. e))
          (s.came.ok.0 ∙ seen-count s.placed s.runs s.came.items c.self.invariant c.args.self.now c.self.view_is);
    }
