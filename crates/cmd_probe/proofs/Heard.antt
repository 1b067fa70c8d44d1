-- What a prober has heard with one datagram more, and what it describes.
use Rattle.std.proofs.Common.{◌≡◌, ℕ, List, [], ◌∷◌, ◌++◌, refl, sym, ap, ◌∙◌}
use Rattle.std.proofs.lemmas.List.Sums.{fold-append}
use Rattle.cmd_probe.specs.Description.{description_of, text_of}
use Rattle.cmd_probe.specs.Probers.{HasProbed, probed_by}
use Rattle.cmd_probe.specs.Sources.{Probed, nothing_probed, with_datagram}
use Rattle.cmd_probe.specs.declared.prober.Prober.{Prober}

abbrev nothing : List ℕ
nothing = []

pub took : (x y : Prober) (d : List ℕ) (heard : List (List ℕ)) → HasProbed x heard
    → probed_by y ≡ with_datagram (probed_by x) d
    → HasProbed y (heard ++ d ∷ []) × (nothing ≡ nothing ++ [])
took x y d heard has taken = (
  taken ∙ ap (λ (s : Probed). with_datagram s d) has
      ∙ sym (fold-append with_datagram nothing_probed heard (d ∷ [])),
  refl,
)

pub described : (x : Prober) (heard : List (List ℕ)) (bytes : List ℕ) → HasProbed x heard
    → bytes ≡ text_of x.sources.items x.others
    → HasProbed x heard × (description_of heard ≡ nothing ++ bytes)
described x heard bytes has told =
    (has, sym (told ∙ ap (λ (s : Probed). text_of s.sources s.others) has))
