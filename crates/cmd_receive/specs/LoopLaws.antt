-- Datagrams that a loop sends one after another. The laws of its outlet cite these.
use Rattle.std.proofs.Common.{◌≡◌, ◌⊎◌, ℕ, ◌+◌, ◌≤◌, Bool, true, false, List, [], ◌∷◌, ◌++◌, length, take}
use Rattle.std.proofs.Common.{Option, Some, None, refl, sym, ap, subst, arith, inl, inr, length-append}
use Rattle.std.proofs.Math.Seq.{take-append-add}
use Rattle.std.proofs.lemmas.List.{take-append-le}
use Rattle.link_outside.specs.Calls.{passes_none, passes_then}
use Rattle.link_outside.specs.Passing.{Passes, grown_by, led_by, looped_back}
use Rattle.link_outside.specs.declared.outlet.OutletFault.{OutletFault}
use Rattle.link_outside.specs.declared.outlet.OutletFault.TheVariants as outlets
use Rattle.link_report.specs.declared.ending.Ending.TheVariants.{NoMemory, OutputFailed}
use Rattle.vc_ports.specs.Wires.{WireTold, IsOver}
use Rattle.cmd_receive.specs.Exchanges.{AreInTurn, BrokeBehind, Exchanged, HearsInTurn}
use Rattle.cmd_receive.specs.Exchanges.{LoopBroke, LoopState, WereLooped}
use Rattle.cmd_receive.specs.HearingLaws.{breaks_then, hears_then, none_heard}

-- ---- one for each

some_is : (a b : List (List ℕ)) → Some a ≡ Some b → a ≡ b
some_is a b same = cc

some_is_none : (a : List (List ℕ)) → None ≡ Some a → ⊥
some_is_none a same = cc

no_datagrams : (list : List (List ℕ)) → length list ≡ 0 → list ≡ []
no_datagrams [] none = refl
no_datagrams (one ∷ rest) none = absurd (omega (arith, none))

module _ (sent given more_sent more_given : List (List ℕ)) (few : length given ≤ length sent) where
  -- what came by what was to come
  by_wire : (looped : Bool) (coming mid after : Option (List (List ℕ)))
      → grown_by coming (looped_back looped sent) ≡ led_by given mid
      → grown_by mid (looped_back looped more_sent) ≡ led_by more_given after
      → IsOver mid → length more_given ≡ length more_sent
      → (length (given ++ more_given) ≡ length (sent ++ more_sent)) ⊎ IsOver after
  by_wire looped None None None first second none same = inr tt
  by_wire looped None None (Some after) first second none same = absurd (some_is_none _ second)
  by_wire looped None (Some mid) after first second none same =
      absurd (some_is_none (given ++ mid) first)
  by_wire looped (Some coming) None after first second none same =
      absurd (some_is_none _ (sym first))
  by_wire looped (Some coming) (Some mid) None first second none same =
      absurd (some_is_none _ (sym second))
  by_wire true (Some coming) (Some mid) (Some after) first second none same =
      let empty : mid ≡ [] = none in
      let long : length (coming ++ sent) ≡ length (given ++ mid) =
      ap length (some_is (coming ++ sent) (given ++ mid) first) in
      let short : length mid ≡ 0 = ap length empty in
      inl (omega (
        arith,
        few,
        same,
        long,
        short,
        length-append coming sent,
        length-append given mid,
        length-append given more_given,
        length-append sent more_sent,
      ))
  by_wire false (Some coming) (Some mid) (Some after) first second none same =
      let empty : mid ≡ [] = none in
      let long : length (mid ++ []) ≡ length (more_given ++ after) =
      ap length (some_is (mid ++ []) (more_given ++ after) second) in
      let short : length mid ≡ 0 = ap length empty in
      inr (no_datagrams after
      (omega (arith, long, short, length-append mid [], length-append more_given after)))

  in_turn_then : (x y z : WireTold) → Passes x y sent given → Passes y z more_sent more_given
      → AreInTurn y sent given → AreInTurn z more_sent more_given
      → AreInTurn z (sent ++ more_sent) (given ++ more_given)
  in_turn_then x y z p q first (inr none) = inr none
  in_turn_then x y z p q (inl same) (inl more) =
      inl (omega (
        arith,
        same,
        more,
        length-append sent more_sent,
        length-append given more_given,
      ))
  in_turn_then x y z p q (inr none) (inl more) =
      by_wire x.looped x.coming y.coming z.coming p.came
      (subst (λ (b : Bool).
      grown_by y.coming (looped_back b more_sent) ≡ led_by more_given z.coming)
      p.looped_stays q.came) none more

-- ---- datagrams one after another

pub none_looped : (x : LoopState) → WereLooped x x []
none_looped x = (
  [],
  record {
    exchanged = record { passes = passes_none x.told; few = omega arith; later = omega arith };
    hears = none_heard x.playout;
    in_turn = inl refl;
  },
)

module _ (x y z : LoopState) (first second : List (List ℕ)) where
  exchanged_then : (given some more : List (List ℕ)) → Exchanged x y first given
      → Exchanged y z some more → Exchanged x z (first ++ some) (given ++ more)
  exchanged_then given some more p q = record {
    passes = passes_then x.told y.told z.told first given some more p.passes q.passes;
    few = omega (arith, p.few, q.few, length-append first some, length-append given more);
    later = omega (arith, p.later, q.later);
  }

  pub more_looped : WereLooped x y first → WereLooped y z second → WereLooped x z (first ++ second)
  more_looped (heard, p) (more, q) = (
    heard ++ more,
    record {
      exchanged = exchanged_then heard second more p.exchanged q.exchanged;
      hears = hears_then p.hears q.hears;
      in_turn = in_turn_then first heard second more p.exchanged.few x.told y.told z.told
          p.exchanged.passes q.exchanged.passes p.in_turn q.in_turn;
    },
  )

  broke_then : (heard some more : List (List ℕ)) (fault : OutletFault) → HearsInTurn x y first heard
      → BrokeBehind y z some more fault → BrokeBehind x z (first ++ some) (heard ++ more) fault
  broke_then heard some more outlets.Wire p q = (
    exchanged_then heard some more p.exchanged q.0,
    hears_then p.hears q.1,
    omega (arith, p.exchanged.later, q.2),
  )
  broke_then heard some more outlets.Output p q =
      (exchanged_then heard some more p.exchanged q.0, breaks_then _ _ _ heard more OutputFailed p.hears q.1)
  broke_then heard some more outlets.NoMemory p q =
      (exchanged_then heard some more p.exchanged q.0, breaks_then _ _ _ heard more NoMemory p.hears q.1)

  pub part_behind : (fault : OutletFault) → WereLooped x y first → LoopBroke y z second fault
      → LoopBroke x z (first ++ second) fault
  part_behind fault (heard, p) q = record {
    count = length first + q.count;
    within = omega (arith, q.within, length-append first second);
    given = heard ++ q.given;
    broke = subst (λ (l : List (List ℕ)). BrokeBehind x z l (heard ++ q.given) fault)
        (sym (take-append-add first second q.count))
        (broke_then heard (take q.count second) q.given fault p q.broke);
  }

pub part_before : (x y : LoopState) (first second : List (List ℕ)) (fault : OutletFault)
    → LoopBroke x y first fault → LoopBroke x y (first ++ second) fault
part_before x y first second fault p = record {
  count = p.count;
  within = omega (arith, p.within, length-append first second);
  given = p.given;
  broke = subst (λ (l : List (List ℕ)). BrokeBehind x y l p.given fault)
      (sym (take-append-le p.count first second p.within)) p.broke;
}
