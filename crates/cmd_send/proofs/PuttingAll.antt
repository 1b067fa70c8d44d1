-- Datagrams that are put one after another, and counted.
use Rattle.std.proofs.Common.{◌≡◌, ℕ, ◌+◌, ◌^◌, ◌<◌, ◌≤◌, List, [], ◌∷◌, ◌++◌, length, take, drop, ap, sym, subst, ◌∙◌, arith, take-append-drop, Ok, Err, OnOk, IfErr}
use Rattle.std.specs.Prelude.{Result}
use Rattle.std.proofs.lemmas.List.{map-append, take_all}
use Rattle.std.proofs.lemmas.List.Sums.{sum_by-append}
use Rattle.std.proofs.lemmas.Grind.{common_steps}
use Rattle.link_outside.specs.declared.outlet.OutletFault.{OutletFault}
use Rattle.link_sender.specs.declared.datagram.Datagram.{Datagram}
use Rattle.link_sender.specs.Packing.{bytes_of_all}
use Rattle.cmd_send.specs.Counted.{HasRoomFor, totals_with}
use Rattle.cmd_send.specs.declared.totals.Totals.{Totals}
use Rattle.cmd_send.proofs.Laws.{OutletLaws}

module _ (datagrams : List Datagram) (i : ℕ) (one : Datagram) (more : take (i + 1) datagrams ≡ take i datagrams ++ one ∷ []) where
  pub bytes_more : bytes_of_all (take (i + 1) datagrams) ≡ bytes_of_all (take i datagrams) ++ one.bytes.items ∷ []
  bytes_more = ap bytes_of_all more ∙ map-append (λ (d : Datagram). d.bytes.items) (take i datagrams) (one ∷ [])

  pub whole : bytes_of_all (take (i + 1) datagrams) ++ bytes_of_all (drop (i + 1) datagrams) ≡ bytes_of_all datagrams
  whole =
      sym (map-append (λ (d : Datagram). d.bytes.items) (take (i + 1) datagrams) (drop (i + 1) datagrams))
      ∙ ap bytes_of_all (take-append-drop (i + 1) datagrams)

  -- ---- where they went

  module _ {X : Type 0} {carried : X → X → List (List ℕ) → Type 0} {broke : X → X → List (List ℕ) → OutletFault → Type 0} (laws : OutletLaws carried broke) (x z : X) where
    pub put_part : (fault : OutletFault) → broke x z (bytes_of_all (take i datagrams) ++ one.bytes.items ∷ []) fault → broke x z (bytes_of_all datagrams) fault
    put_part fault part =
        subst (λ (l : List (List ℕ)). broke x z l fault) whole
        (laws.breaks_before x z (bytes_of_all (take (i + 1) datagrams)) (bytes_of_all (drop (i + 1) datagrams)) fault
        (subst (λ (l : List (List ℕ)). broke x z l fault) (sym bytes_more) part))

  -- ---- their counts

  parted : bytes_of_all datagrams ≡ (bytes_of_all (take i datagrams) ++ one.bytes.items ∷ []) ++ bytes_of_all (drop (i + 1) datagrams)
  parted = sym whole ∙ ap (λ (l : List (List ℕ)). l ++ bytes_of_all (drop (i + 1) datagrams)) bytes_more

  module _ (old now : Totals) (is : now ≡ totals_with old (bytes_of_all (take i datagrams))) (room : HasRoomFor old (bytes_of_all datagrams)) where
    pub room_for_count : now.datagrams + 1 < 2 ^ 64
    room_for_count = grind (arith, common_steps, parted)

    pub room_for_bytes : now.bytes + length one.bytes.items < 2 ^ 64
    room_for_bytes = grind (arith, common_steps, parted, sum_by-append)

-- ---- all of them, and the flush behind them

pub all_put : (datagrams : List Datagram) (i : ℕ) → length datagrams ≤ i → bytes_of_all (take i datagrams) ≡ bytes_of_all datagrams
all_put datagrams i past = ap bytes_of_all (take_all i datagrams past)

module _ {X : Type 0} (took carried : X → X → List (List ℕ) → Type 0) (broke : X → X → List (List ℕ) → OutletFault → Type 0) (x y z : X) (datagrams : List (List ℕ)) (all : took x y datagrams) where
  pub flushed : (answer : Result (Unit {0}) OutletFault) → OnOk answer ((first : X) (taken : List (List ℕ)) → took first y taken → carried first z taken) → OnOk answer (carried x z datagrams)
  flushed (Ok done) carries = carries x datagrams all
  flushed (Err fault) carries = tt

  pub not_flushed : (answer : Result (Unit {0}) OutletFault) → IfErr answer (λ fault. (first : X) (taken : List (List ℕ)) → took first y taken → broke first z taken fault) → IfErr answer (λ fault. broke x z datagrams fault)
  not_flushed (Ok done) breaks = tt
  not_flushed (Err fault) breaks = breaks x datagrams all

-- what holds anyhow holds where it is well
pub anyhow : {P : Type 0} (answer : Result (Unit {0}) OutletFault) → P → OnOk answer P
anyhow (Ok done) holds = holds
anyhow (Err fault) holds = tt
