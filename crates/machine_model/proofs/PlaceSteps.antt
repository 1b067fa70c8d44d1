-- What each event does to the places.
use Rattle.std.proofs.Common.{◌≡◌, ℕ, Option, Some, ap}
use Rattle.std.specs.Option.{option_map_or}
use Rattle.machine_model.specs.Feeders.{slice_job}
use Rattle.machine_model.specs.Feeding.{takes_answer}
use Rattle.machine_model.specs.Machine.{Machine, Put, Take, happens}
use Rattle.machine_model.specs.Machine.{takes_from}
use Rattle.machine_model.specs.Places.{Job, Answered, Decoded, place_at, puts_job}

pub put_is : (window : ℕ) (m : Machine) (place n i : ℕ) (job : Job) → slice_job window m.feeder n i ≡ Some job → (happens window m (Put place n i)).places ≡ puts_job m.places place job
put_is window m place n i job kept = ap (λ (o : Option Job). option_map_or (puts_job m.places place) o m.places) kept

pub take_is : (window : ℕ) (m : Machine) (place : ℕ) (done : Answered) → (place_at m.places place).content ≡ Decoded done → (happens window m (Take place)).feeder ≡ takes_answer window m.feeder done
take_is window m place done there = ap (takes_from window m.feeder) there

pub ruleset laws = (put_is, take_is)
