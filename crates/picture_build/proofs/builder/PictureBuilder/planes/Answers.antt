use Rattle.std.proofs.Common.{◌≡◌, ap, sym, subst, ◌∙◌}
use Rattle.std.specs.Prelude.{IfOk}
use Rattle.vc_types.specs.Planes.{planes_in, planes_of}
use Rattle.picture_build.specs.Kept.{PartPicture, HasAllSlices, no_slices, slices_of}
use Rattle.picture_build.proofs.WaitingRuns.{seen-count, waiting-begun, seen-begun}
use Rattle.picture_build.proofs.builder.PictureBuilder.planes.Goals as goal

pub planes-made-requires : goal.planes-made-requires
planes-made-requires c = record { whole = subst HasAllSlices (sym (c.place_waiting.ensures.placed ∙ c.self.view_is)) c.requires.whole }

pub invariant_of-self : goal.invariant_of-self
invariant_of-self c =
    let s = c.self.inside in
    waiting-begun c.args.self.now.parameters c.planes-made.new.self c.place_waiting.new.runs _ s.came.len
    (c.planes-made.ensures.restarted ∙ ap (λ (q : PartPicture). no_slices q.parameters) (c.place_waiting.ensures.placed ∙ c.self.view_is)) c.place_waiting.ensures.none (c.fill.ensures.items (λ y e. e))
    (s.came.ok.0 ∙ seen-count s.placed s.runs s.came.items c.self.invariant c.args.self.now c.self.view_is)

pub returns : goal.returns
returns c =
    let s = c.self.inside in
    record {
      value = subst (λ (q : PartPicture). IfOk c.planes-made.result (λ planes. planes_in planes ≡ planes_of q.parameters (slices_of q)))
          (c.place_waiting.ensures.placed ∙ c.self.view_is) c.planes-made.ensures.value;
      restarted = seen-begun c.args.self.now.parameters c.planes-made.new.self c.place_waiting.new.runs _ s.came.len
          (c.planes-made.ensures.restarted ∙ ap (λ (q : PartPicture). no_slices q.parameters) (c.place_waiting.ensures.placed ∙ c.self.view_is)) c.place_waiting.ensures.none (c.fill.ensures.items (λ y e. e))
          (s.came.ok.0 ∙ seen-count s.placed s.runs s.came.items c.self.invariant c.args.self.now c.self.view_is);
    }
