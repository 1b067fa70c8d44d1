-- What a prober has heard, and what it is to write.
use Rattle.std.specs.Prelude.{◌≡◌, ℕ, List, []}
use Rattle.cmd_rtcp.specs.Due.{Due}
use Rattle.cmd_probe.specs.Description.{description_of}
use Rattle.cmd_probe.specs.Sources.{Probed, probed}
use Rattle.cmd_probe.specs.declared.prober.Prober.{Prober}

abbrev pub probed_by : Prober → Probed
probed_by x = record { sources = x.sources.items; others = x.others }

-- these datagrams
abbrev pub HasProbed : Prober → List (List ℕ) → Type 0
HasProbed x heard = probed_by x ≡ probed heard

-- nothing before the end, and then all
abbrev pub due_description : Due
due_description = record { so_far = λ datagrams. []; in_all = description_of }
