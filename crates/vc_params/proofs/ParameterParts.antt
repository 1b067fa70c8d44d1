-- The parts of parameters that are written one after another are the parameters.
use Rattle.std.proofs.Common.{◌≡◌, Bool, List, [], ◌∷◌, ◌++◌, append_assoc}
use Rattle.std.proofs.lemmas.List.{append-nil}
use Rattle.vc_types.specs.Fields.{joined}

pub whole_parameters : (wavelet depth extension across down prefix scaler matrix : List Bool) →
    (((wavelet ++ depth) ++ extension) ++ joined (joined (across ∷ down ∷ []) ∷ prefix ∷ scaler ∷ [])) ++ matrix
    ≡ joined (wavelet ∷ depth ∷ extension ∷ joined (across ∷ down ∷ []) ∷ prefix ∷ scaler ∷ matrix ∷ [])
whole_parameters wavelet depth extension across down prefix scaler matrix = simp (append_assoc, append-nil)
