use Rattle.std.proofs.Common.{◌≡◌, arith, ap, sym, ◌∙◌, [], ◌∷◌, List, subst}
use Rattle.picture_build.specs.declared.waiting.WaitingRun.{WaitingRun}
use Rattle.picture_build.specs.Waiting.{MayAllCome, MayCome, with_runs}
use Rattle.picture_build.proofs.KeptRuns.{run-inside}
use Rattle.picture_build.proofs.WaitingRuns.{seen-count, run-waiting, may-follow, run-placed}
use Rattle.picture_build.proofs.builder.PictureBuilder.fill_run.Goals as goal

pub mark_run-requires : goal.mark_run-requires
mark_run-requires c =
    let s = c.self.inside in
    let inside = run-inside c.args.self.now.parameters c.args.first c.args.count c.requires.run in
    let long = seen-count s.placed s.runs s.came.items c.self.invariant c.args.self.now c.self.view_is in
    omega (arith, inside, long)

pub invariant_of-self : goal.invariant_of-self
invariant_of-self c =
    let s = c.self.inside in
    let run : WaitingRun = record { first = c.args.first; count = c.args.count; strip = c.args.strip } in
    let may : MayCome c.args.self.now run = record {
      is_run = record { run = c.requires.run; some = c.requires.some; whole = c.requires.whole };
      once = c.requires.once;
      sound = c.requires.sound;
    } in
    run-waiting s.placed s.runs s.came.items c.self.invariant c.args.self.now c.self.view_is run may c.mark_run.new.came.items c.mark_run.ensures c.push.new.self c.in_default.ensures.waits

pub place-requires : goal.place-requires
place-requires c =
    let s = c.self.inside in
    let run : WaitingRun = record { first = c.args.first; count = c.args.count; strip = c.args.strip } in
    let may : MayCome c.args.self.now run = record {
      is_run = record { run = c.requires.run; some = c.requires.some; whole = c.requires.whole };
      once = c.requires.once;
      sound = c.requires.sound;
    } in
    let all : c.place_waiting.new.placed ≡ with_runs s.placed s.runs = c.place_waiting.ensures.placed ∙ ap (λ (runs : List WaitingRun). with_runs s.placed runs) c.in-Err.ensures.unchanged in
    subst (λ (runs : List WaitingRun). MayAllCome c.place_waiting.new.placed runs) (sym (c.from_ref.ensures.value ∙ ap (λ (r : WaitingRun). r ∷ []) c.in-Err.ensures.back))
    (may-follow s.placed s.runs s.came.items c.self.invariant c.args.self.now c.self.view_is run may c.mark_run.new.came.items c.mark_run.ensures c.place_waiting.new.placed all)

pub invariant_of-self-2 : goal.invariant_of-self-2
invariant_of-self-2 c =
    let s = c.self.inside in
    let run : WaitingRun = record { first = c.args.first; count = c.args.count; strip = c.args.strip } in
    let may : MayCome c.args.self.now run = record {
      is_run = record { run = c.requires.run; some = c.requires.some; whole = c.requires.whole };
      once = c.requires.once;
      sound = c.requires.sound;
    } in
    let all : c.place_waiting.new.placed ≡ with_runs s.placed s.runs = c.place_waiting.ensures.placed ∙ ap (λ (runs : List WaitingRun). with_runs s.placed runs) c.in-Err.ensures.unchanged in
    let last = c.place.ensures.value ∙ ap (λ (runs : List WaitingRun). with_runs c.place_waiting.new.placed runs) (c.from_ref.ensures.value ∙ ap (λ (r : WaitingRun). r ∷ []) c.in-Err.ensures.back) in
    run-placed s.placed s.runs s.came.items c.self.invariant c.args.self.now c.self.view_is run may c.mark_run.new.came.items c.mark_run.ensures c.place_waiting.new.placed all
    c.place.new.self last c.place_waiting.new.runs c.place_waiting.ensures.none
