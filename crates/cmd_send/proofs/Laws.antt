-- The laws of an outlet's two relations, as its trait has them.
use Rattle.std.proofs.Common.{ℕ, List, [], ◌++◌, append-nil, subst}
use Rattle.link_outside.specs.declared.outlet.OutletFault.{OutletFault}

pub record OutletLaws {X : Type 0} (carried : X → X → List (List ℕ) → Type 0) (broke : X → X → List (List ℕ) → OutletFault → Type 0) : Type 0 where
  pub none : (x : X) → carried x x []
  pub more : (x y z : X) (first second : List (List ℕ)) → carried x y first → carried y z second → carried x z (first ++ second)
  pub breaks_then : (x y z : X) (first second : List (List ℕ)) (fault : OutletFault) → carried x y first → broke y z second fault → broke x z (first ++ second) fault
  pub breaks_before : (x y : X) (first second : List (List ℕ)) (fault : OutletFault) → broke x y first fault → broke x y (first ++ second) fault

-- nothing went out behind these
pub still_carried : {X : Type 0} {carried : X → X → List (List ℕ) → Type 0} {broke : X → X → List (List ℕ) → OutletFault → Type 0} (laws : OutletLaws carried broke) (x y z : X) (datagrams : List (List ℕ))
    → carried x y datagrams → carried y z [] → carried x z datagrams
still_carried {carried = carried} laws x y z datagrams went nothing = subst (carried x z) (append-nil datagrams) (laws.more x y z datagrams [] went nothing)
