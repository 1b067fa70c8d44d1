-- Offers and places that were asked, over more calls than one.
use Rattle.std.proofs.Common.{◌≡◌, List, [], ◌∷◌, ◌++◌, refl, ap, sym, ◌∙◌, append_assoc, append-nil, arith}
use Rattle.std.proofs.lemmas.Grind.{flat_map-append}
use Rattle.receiver_model.specs.Exchanging.{Exchange}
use Rattle.vc_slice.specs.declared.run.RunJob.{RunJob}
use Rattle.link_slices.specs.Jobs.{jobs_of_run}
use Rattle.link_receiver.specs.Offers.{AreRunOffers, IsOfferOf, proposed_by, proposed_in}

-- ---- offers

pub proposed_in-append : (a b : List Exchange)
    → proposed_in (a ++ b) ≡ proposed_in a ++ proposed_in b
proposed_in-append a b = flat_map-append proposed_by a b

pub offers_more : (runs : List RunJob) (offers : List Exchange) (run : RunJob) (last : List Exchange)
    → AreRunOffers runs offers → IsOfferOf (jobs_of_run run) last
    → AreRunOffers (runs ++ run ∷ []) (offers ++ last)
offers_more [] offers run last p l =
    (last, [], l, refl, ap (λ (o : List Exchange). o ++ last) p ∙ sym (append-nil last))
offers_more (first ∷ runs) offers run last p l =
    grind (arith, append_assoc, offers_more runs p.1 run last p.3 l)
