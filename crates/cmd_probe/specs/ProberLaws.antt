-- What is due of a prober grows with each datagram. The laws of a scribe cite these.
use Rattle.std.proofs.Common.{◌≡◌, ℕ, List, [], ◌∷◌, ◌++◌, refl}
use Rattle.link_model.specs.Output.{IsPrefixOf}
use Rattle.cmd_probe.specs.Description.{description_of}
use Rattle.cmd_probe.specs.Probers.{due_description}

pub none_due : due_description.so_far [] ≡ []
none_due = refl

pub more_due : (ds : List (List ℕ)) (d : List ℕ)
    → IsPrefixOf (due_description.so_far ds) (due_description.so_far (ds ++ d ∷ []))
more_due ds d = ([], refl)

pub all_due : (ds : List (List ℕ))
    → IsPrefixOf (due_description.so_far ds) (due_description.in_all ds)
all_due ds = (description_of ds, refl)
