-- Jobs whose parts are the same are the same.
use Rattle.std.proofs.Common.{◌≡◌, true, arith}
use Rattle.std.proofs.lemmas.Slice.Eq.{bytes_eq-Decides}
use Rattle.machine_model.specs.Feeding.{is_same_job}
use Rattle.machine_model.specs.Places.{Job}
use Rattle.vc_types.proofs.SameValues.{parameters_exactly}

pub same_job : (a b : Job) → is_same_job a b ≡ true → a ≡ b
same_job a b e = grind (arith, bytes_eq-Decides, parameters_exactly)

pub same_itself : (job : Job) → is_same_job job job ≡ true
same_itself job = grind (arith, bytes_eq-Decides, parameters_exactly)
