-- What a loop over an inlet and a listener knows after each datagram, and where the listener broke off.
use Rattle.std.proofs.Common.{◌≡◌, ℕ, ◌+◌, ◌<◌, List, [], ◌∷◌, ◌++◌, length, Option, Err, refl, arith, inr}
use Rattle.std.proofs.Common.{length-append}
use Rattle.std.specs.Prelude.{Result}
use Rattle.link_report.specs.declared.ending.Ending.{Ending}
use Rattle.link_hearing.specs.Hearing.{HearsUntil, fault_ending}
use Rattle.link_hearing.specs.declared.listener.ListenerFault.{ListenerFault}

-- so many came and were heard
pub record IsAt (came heard : List (List ℕ) → Type 0) (number : ℕ) (ds : List (List ℕ)) : Type 0
  where
    pub number_is : length ds ≡ number
    pub came_so : came ds
    pub heard_so : heard ds

module _ {I L : Type 0} (came : I → I → List (List ℕ) → Type 0)
    (heard : L → L → List (List ℕ) → Type 0) (number : ℕ) (i j k : I) (x y z : L)
    (ds : List (List ℕ)) (d : List ℕ) (at : IsAt (came i j) (heard x y) number ds)
    (then : (i j k : I) (first second : List (List ℕ)) → came i j first → came j k second
    → came i k (first ++ second)) (now : came j k (d ∷ [])) where
  pub heard_one : (more : (x y z : L) (first second : List (List ℕ)) → heard x y first
      → heard y z second → heard x z (first ++ second)) → heard y z (d ∷ [])
      → IsAt (came i k) (heard x z) (number + 1) (ds ++ d ∷ [])
  heard_one more hears = record {
    number_is = omega (arith, length-append ds (d ∷ []), at.number_is);
    came_so = then i j k ds (d ∷ []) at.came_so now;
    heard_so = more x y z ds (d ∷ []) at.heard_so hears;
  }

  pub until_break : (broke : L → L → List (List ℕ) → ListenerFault → Type 0)
      (breaks_then : (x y z : L) (first second : List (List ℕ)) (fault : ListenerFault)
      → heard x y first → broke y z second fault → broke x z (first ++ second) fault)
      (packets : ℕ) (stopped : List (List ℕ) → Option Ending → Type 0) (wants enough : Type 0)
      (fault : ListenerFault) (result : Result (Unit {0}) Ending) → number < packets
      → result ≡ Err (fault_ending fault) → broke y z (d ∷ []) fault
      → HearsUntil packets (came i k) stopped (heard x z) (broke x z) wants enough result
  until_break broke breaks_then packets stopped wants enough fault result room is breaks = rw is (
    ds ++ d ∷ [],
    inr (inr (record {
      few = omega (arith, at.number_is, room, length-append ds (d ∷ []));
      came_so = then i j k ds (d ∷ []) at.came_so now;
      fault = fault;
      end_is = refl;
      broke_so = breaks_then x y z ds (d ∷ []) fault at.heard_so breaks;
    })),
  )
