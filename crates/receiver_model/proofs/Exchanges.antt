-- Calls to the places one after another: they leave all but answers and what is out, and those
-- that come later are done to what the earlier ones left.
use Rattle.std.proofs.Common.{◌≡◌, List, [], ◌∷◌, ◌++◌, arith}
use Rattle.std.proofs.lemmas.List.Concat.{flat_map-append}
use Rattle.std.proofs.lemmas.List.Sums.{fold-append}
use Rattle.machine_model.specs.Places.{Answered}
use Rattle.receiver_model.specs.Exchanging.{Exchange, exchanged, all_exchanged}
use Rattle.receiver_model.specs.Exchanging.{given_back, dones_in}
use Rattle.receiver_model.specs.Receptions.{Reception}
use Rattle.receiver_model.specs.Standing.{AreDecodings}

-- ---- lists of calls

pub exchanged_then : (r : Reception) (xs ys : List Exchange)
    → all_exchanged r (xs ++ ys) ≡ all_exchanged (all_exchanged r xs) ys
exchanged_then r xs ys = fold-append exchanged r xs ys

pub dones_then : (xs ys : List Exchange) → dones_in (xs ++ ys) ≡ dones_in xs ++ dones_in ys
dones_then xs ys = flat_map-append given_back xs ys

both_decodings : (ds es : List Answered) → AreDecodings ds → AreDecodings es
    → AreDecodings (ds ++ es)
both_decodings [] es all more = more
both_decodings (d ∷ ds) es all more = (all.0, both_decodings ds es all.1 more)

pub decodings_then : (xs ys : List Exchange) → AreDecodings (dones_in xs)
    → AreDecodings (dones_in ys) → AreDecodings (dones_in (xs ++ ys))
decodings_then xs ys all more = grind (arith, both_decodings, dones_then)
