-- Each step of the feeder keeps the rule.
use Rattle.std.proofs.Common.{◌≡◌, ℕ, ◌+◌, ◌-◌, ◌*◌, ◌/◌, ◌^◌, ◌<◌, ◌≤◌, true, false, List, ◌∷◌, length, get_or, set, sym, refl, ap, ◌∙◌, subst, ⊎_elim, ◌⊎◌, arith, length-set, eqb, None, Some}
use mathlib.Core.Option.{some, none}
use mathlib.Core.Option as maybe
use lib.ListN.{get_elem?}
use prog.Atomic.{either}
use Rattle.atomic_table.specs.Table.{step, Act, keeps, takes, gives, Valid, carried_after, stepped, Allows}
use Rattle.atomic_table.proofs.Lists.{set_here, set_else, exchanged}
use Rattle.vc_slice.specs.declared.run.RunLoad.{RunLoad}
use Rattle.link_slices.specs.Jobs.{jobs_of_run}
use Rattle.claim_board.specs.Views.{lane, SeatView, DidOnce, did, lane_at, lanes_after, lanes_back}
use Rattle.claim_board.specs.declared.view.Lane.{Lane}
use Rattle.claim_board.specs.RunPlaces.{Content, Nothing, Offered, Claimed, Decoded, RunPlace, frees_place, place_at}
use Rattle.claim_board.specs.declared.cargo.Cargo.{Cargo}
use Rattle.claim_board.specs.declared.cargo.Cargo.TheVariants.{Waiting, Finished}
use Rattle.claim_board.specs.declared.view.Deed.{Deed}
use Rattle.claim_board.specs.declared.view.Deed.TheVariants.{WasRead, WasFetched, WasPut, WasTaken, WasWithdrawn}
use Rattle.claim_board.specs.History.{MayDo, after_deed, deed_place, standing, places_after, word_of}
use Rattle.claim_board.specs.Rule.{Slot, BoardState, ShowsPlace, BoardRule}
use Rattle.claim_board.specs.Plays.{SeatState, deed_back, lying_state, stamp_of, tells_back, tells_put, tells_fetch}
use Rattle.claim_board.proofs.Histories.{free_here, may_put_at, put_here}
use Rattle.claim_board.proofs.Keeps.{changes, decoded, goes, has_done, idle, offered, places_long, the_feeder}
use Rattle.claim_board.proofs.Workers.{looks}

pub puts : (n id : ℕ) (v : SeatView) (r : List (ℕ × Slot)) (i t : ℕ) (load : RunLoad) → i < n → v.number ≡ 0 → lane_at v i ≡ lane t true false → t < 2 ^ 61
    → Allows BoardRule n id (v, (i, Some (Waiting (t + 1) load)) ∷ r) i (λ _. 4 * (t + 1) + 1) (λ _. tells_put (step n i (4 * (t + 1) + 1) 0 none) (v, (i, Some (Waiting (t + 1) load)) ∷ r) (4 * (t + 1) + 1))
puts n id v r i t load h feeds is_idle small s o wide me fits =
    let in_words : i < length s.words = (let e = o.wide in omega arith) in
    let long = places_long s o in
    let ps : List RunPlace = places_after o.places o.history in
    let is = the_feeder s o id v me feeds in
    let old = idle (get_or s.words i 0) t true (get_elem? s.homes i) (lane_at o.feeder i) (place_at ps i) (o.each i in_words) (ap (λ (x : SeatView). lane_at x i) (sym is.1) ∙ is_idle) in
    let d : Deed = WasPut i load.job in
    let w : SeatView = did v o.history d in
    let new : Lane = lane ((lane_at v i).serial + 1) true true in
    let f = changes s o id i v w new me feeds refl refl in_words in
    let may = may_put_at ps i t (omega arith) old.stands small in
    let home = some (Some (Waiting (t + 1) load)) in
    let now = put_here ps i t Nothing (jobs_of_run load.job) (omega arith) old.stands in (
      w,
      gives,
      tt,
      goes s o id v (4 * (t + 1) + 1) (set s.homes i home) d me in_words may (length-set s.homes i home) (λ q ne. set_else s.homes i q home ne) f.0
          (subst (ShowsPlace (4 * (t + 1) + 1) (get_elem? (set s.homes i home) i) (lane_at f.0.feeder i)) (sym now)
          (record {
            shows = refl;
            small = omega arith;
            is_fetched = true;
            is_known = f.1 ∙ ap (λ (l : Lane). lane (l.serial + 1) true true) is_idle;
            lies = (load, set_here s.homes i home (let e = o.wide in omega arith), refl);
          })),
      (has_done s o id v d me may, refl),
    )

pub puts_at : (n id : ℕ) (m : SeatState) (i serial : ℕ) (load : RunLoad) (r : List (ℕ × Slot)) → i < n → m.0.number ≡ 0 → lane_at m.0 i ≡ lane (serial - 1) true false → 0 < serial → serial ≤ 2 ^ 61
    → m.1 ≡ (i, Some (Waiting serial load)) ∷ r
    → Allows BoardRule n id m i (λ _. 4 * serial + 1) (λ _. tells_put (step n i (4 * serial + 1) 0 none) m (4 * serial + 1))
puts_at n id m i serial load r h feeds is_idle some_serial small slots =
    let P : List (ℕ × Slot) → Type 0 = λ l. Allows BoardRule n id (m.0, l) i (λ _. 4 * serial + 1) (λ _. tells_put (step n i (4 * serial + 1) 0 none) (m.0, l) (4 * serial + 1)) in
    let Q : ℕ → Type 0 = λ k. Allows BoardRule n id (m.0, (i, Some (Waiting k load)) ∷ r) i (λ _. 4 * k + 1) (λ _. tells_put (step n i (4 * k + 1) 0 none) (m.0, (i, Some (Waiting k load)) ∷ r) (4 * k + 1)) in
    let e : serial - 1 + 1 ≡ serial = omega arith in
    subst P (sym slots) (subst Q e (puts n id m.0 r i (serial - 1) load h feeds is_idle (omega arith)))

-- a place that was out is empty now, and its slot is with the feeder
came_back : (s : BoardState) (o : BoardRule s) (i t : ℕ) (known : Lane) (p : RunPlace) → i < length s.words → t ≤ 2 ^ 61 → known ≡ lane t true false → p ≡ standing t Nothing
    → ShowsPlace (4 * t) (get_elem? (set s.homes i none) i) known p
came_back s o i t known p h small is now = subst (ShowsPlace (4 * t) (get_elem? (set s.homes i none) i) known) (sym now) (record {
  shows = omega arith;
  small = small;
  is_fetched = true;
  is_known = is;
  lies = set_here s.homes i none (let e = o.wide in omega arith);
})

-- what the feeder's lane says of the word's serial
serial_of : (w : ℕ) (home : maybe.Option (maybe.Option Slot)) (known : Lane) (p : RunPlace) → ShowsPlace w home known p → w / 4 ≡ known.serial
serial_of w home known p at = cases p.serial p.content at.shows (ap (λ (l : Lane). l.serial) at.is_known)
  where
    cases : (serial : ℕ) (c : Content) → w ≡ word_of (standing serial c) → known.serial ≡ serial → w / 4 ≡ known.serial
    cases serial Nothing e k = omega arith
    cases serial (Offered job) e k = omega arith
    cases serial (Claimed seat job) e k = omega arith
    cases serial (Decoded done) e k = omega arith

-- what the compare of the feeder makes of a word
abbrev Taken : ℕ → ℕ → SeatState → ℕ → ℕ → ℕ → maybe.Option Slot → BoardState → ℕ → Type 0
Taken n id m i t st said s k =
    (w : SeatView) × (a : Act Slot) × Valid s.homes m.1 a × BoardRule (stepped s i k id m.1 w a) × tells_back (step n i (4 * t + st) (4 * t) said) m (get_or s.words i 0) (w, carried_after m.1 a)

-- it is the word: what lies there is taken by this deed
module _ (n id t st : ℕ) (m : SeatState) (said : maybe.Option Slot) (s : BoardState) (o : BoardRule s) (me : get_elem? s.views id ≡ some m.0) (feeds : m.0.number ≡ 0) where
  is_back : (d : Deed) (cargo : Cargo) (c : Content) → let i = deed_place d in let ps = places_after o.places o.history in
      i < length s.words → (lane_at m.0 i).serial ≡ t → t ≤ 2 ^ 61 → st < 4 → get_or s.words i 0 ≡ 4 * t + st
      → lane_at o.feeder i ≡ lane t true true → get_elem? s.homes i ≡ some (some (Some cargo)) → place_at ps i ≡ standing t c
      → MayDo ps m.0.number d → after_deed ps m.0.number d ≡ frees_place ps i → lanes_after d m.0.lanes ≡ lanes_back m.0.lanes i → deed_back i t cargo ≡ d → lying_state cargo ≡ st → stamp_of cargo ≡ t
      → Taken n id m i t st said s (4 * t)
  is_back d cargo c in_words serial small low hit known lies stands may frees back is lay stamped =
      let i : ℕ = deed_place d in
      let ps : List RunPlace = places_after o.places o.history in
      let long = places_long s o in
      let w : SeatView = did m.0 o.history d in
      let new : Lane = lane (lane_at m.0 i).serial true false in
      let f = changes s o id i m.0 w new me feeds refl back in_words in
      let own : lane_at m.0 i ≡ lane t true true = ap (λ (x : SeatView). lane_at x i) (the_feeder s o id m.0 me feeds).1 ∙ known in (
        w,
        takes i (Some cargo),
        lies,
        goes s o id m.0 (4 * t) (set s.homes i none) d me in_words may (length-set s.homes i none) (λ q ne. set_else s.homes i q none ne) f.0
            (came_back s o i t (lane_at f.0.feeder i) (place_at (after_deed ps m.0.number d) i) in_words small (f.1 ∙ ap (λ (k : ℕ). lane k true false) serial)
            (ap (λ (l : List RunPlace). place_at l i) frees ∙ free_here ps i t c (omega arith) stands)),
        λ u su less e.
            let same : t ≡ u = omega arith in
            let state : st ≡ su = omega arith in (
              (λ r. record {
                cargo = cargo;
                lay = lay ∙ state;
                stamped = stamped ∙ same;
                did = (subst (λ (e : Deed). DidOnce m.0 w e) (sym is ∙ ap (λ (k : ℕ). deed_back i k cargo) same) (has_done s o id m.0 d me may), refl);
                empty = back;
                out = ap (λ (l : Lane). l.is_out) own;
              }),
              λ miss. absurd (miss hit),
            ),
      )

pub takes_back : (n id : ℕ) (m : SeatState) (i t st : ℕ) (said : maybe.Option Slot) → i < n → m.0.number ≡ 0 → (lane_at m.0 i).serial ≡ t → (st ≡ 1) ⊎ (st ≡ 3)
    → Allows BoardRule n id m i (λ y. either (eqb y (4 * t + st)) (4 * t) y) (tells_back (step n i (4 * t + st) (4 * t) said) m)
takes_back n id m i t st said h feeds serial state s o wide me fits =
    let in_words : i < length s.words = (let e = o.wide in omega arith) in
    let word : ℕ = get_or s.words i 0 in
    let ps : List RunPlace = places_after o.places o.history in
    let old = o.each i in_words in
    let low : st < 4 = ⊎_elim (λ e. omega arith) (λ e. omega arith) state in
    let is : word / 4 ≡ t = serial_of word (get_elem? s.homes i) (lane_at o.feeder i) (place_at ps i) old ∙ ap (λ (x : SeatView). (lane_at x i).serial) (sym (the_feeder s o id m.0 me feeds).1) ∙ serial in
    exchanged word (4 * t + st) (4 * t) (Taken n id m i t st said s)
    (λ hit. ⊎_elim
    (λ e.
    let at = offered word t (get_elem? s.homes i) (lane_at o.feeder i) (place_at ps i) old (hit ∙ ap (λ k. 4 * t + k) e) in
    is_back n id t st m said s o me feeds (WasWithdrawn i t at.own.job) (Waiting t at.own) _ in_words serial at.small low hit at.is_known at.lies at.stands at.stands refl refl refl (sym e) refl)
    (λ e.
    let at = decoded word t (get_elem? s.homes i) (lane_at o.feeder i) (place_at ps i) old (hit ∙ ap (λ k. 4 * t + k) e) in
    is_back n id t st m said s o me feeds (WasTaken i t at.own) (Finished t at.own) _ in_words serial at.small low hit at.is_known at.lies at.stands at.stands refl refl refl (sym e) refl)
    state)
    (λ miss. (
      did m.0 o.history (WasRead i word),
      keeps,
      tt,
      looks s o id i m me in_words,
      λ u su less e. ((λ hit. absurd (miss hit)), λ _. ((has_done s o id m.0 (WasRead i word) me old.shows, refl), λ found. absurd (miss (omega arith)))),
    ))

pub fetches : (n id : ℕ) (m : SeatState) (i t : ℕ) → i < n → m.0.number ≡ 0 → lane_at m.0 i ≡ lane t false false
    → Allows BoardRule n id m i (λ y. y) (tells_fetch (step n i 0 0 none) m)
fetches n id m i t h feeds is_idle s o wide me fits =
    let in_words : i < length s.words = (let e = o.wide in omega arith) in
    let ps : List RunPlace = places_after o.places o.history in
    let is = the_feeder s o id m.0 me feeds in
    let old = idle (get_or s.words i 0) t false (get_elem? s.homes i) (lane_at o.feeder i) (place_at ps i) (o.each i in_words) (ap (λ (x : SeatView). lane_at x i) (sym is.1) ∙ is_idle) in
    let d : Deed = WasFetched i in
    let w : SeatView = did m.0 o.history d in
    let new : Lane = lane (lane_at m.0 i).serial true false in
    let f = changes s o id i m.0 w new me feeds refl refl in_words in (
      w,
      takes i None,
      old.lies,
      goes s o id m.0 (get_or s.words i 0) (set s.homes i none) d me in_words tt (length-set s.homes i none) (λ q ne. set_else s.homes i q none ne) f.0
          (subst (λ (k : ℕ). ShowsPlace k (get_elem? (set s.homes i none) i) (lane_at f.0.feeder i) (place_at ps i)) (sym old.shows)
          (came_back s o i t (lane_at f.0.feeder i) (place_at ps i) in_words old.small (f.1 ∙ ap (λ (l : Lane). lane l.serial true false) is_idle) old.stands)),
      (has_done s o id m.0 d me tt, refl),
    )
