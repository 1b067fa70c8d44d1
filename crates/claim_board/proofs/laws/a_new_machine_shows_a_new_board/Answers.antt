use Rattle.std.proofs.Common.{◌≡◌, ◌*◌, ℕ, arith, sym, ap, subst, ◌∙◌}
use Rattle.std.proofs.lemmas.List.{length-replicate}
use Rattle.machine_model.specs.Places as machine
use Rattle.claim_board.specs.RunPlaces.{RunPlace, ShowsRun, machine_place, run_places, unused_place}
use Rattle.claim_board.proofs.Workers.{get_replicate}
use Rattle.claim_board.proofs.laws.a_new_machine_shows_a_new_board.Goals as goal

pub returns : goal.returns
returns c = λ places.
    let unused = machine.unused_places (run_places * places) in
    let nothing : (k : ℕ) → machine.place_at unused k ≡ machine.unused_place = λ k. get_replicate (run_places * places) k machine.unused_place in
    let shows : (place : ℕ) → ShowsRun unused place unused_place = λ place. record {
      of_run = tt;
      serials = λ k h. let zero_is = ap (λ (p : machine.JobPlace). p.serial) (nothing (machine_place place k)) in omega (arith, zero_is);
      contents = λ k h. ap (λ (p : machine.JobPlace). p.content) (nothing (machine_place place k));
    } in
    record {
      many = length-replicate (run_places * places) machine.unused_place ∙ ap (λ (n : ℕ). run_places * n) (sym (length-replicate places unused_place));
      each = λ place h. subst (λ (p : RunPlace). ShowsRun unused place p) (sym (get_replicate places place unused_place)) (shows place);
    }
