-- What a step keeps of the rule.
use Rattle.std.proofs.Common.{◌≡◌, ◌≢◌, ℕ, zero, suc, ◌+◌, ◌*◌, ◌^◌, ◌<◌, ◌≤◌, Bool, true, false, List, [], ◌∷◌, length, get_or, set, sym, refl, ap, ◌∙◌, subst, ⊎_elim, arith, length-set, get_or-set_other, get_or-set_same, Some}
use mathlib.Core.Logic.{dite}
use mathlib.Core.Option.{some, none, some-injective, some-ne-none}
use mathlib.Core.Option as maybe
use native.Mathlib.Decide.{ℕ_discrete}
use lib.ListN.{get_elem?}
use Rattle.atomic_table.proofs.Lists.{at_set, set_here, set_else}
use Rattle.vc_slice.specs.declared.run.RunLoad.{RunLoad}
use Rattle.vc_slice.specs.declared.run.RunDone.{RunDone}
use Rattle.link_slices.specs.Jobs.{answered_run, jobs_of_run}
use Rattle.claim_board.specs.Views.{lane, SeatView, lane_at, did, DidOnce}
use Rattle.claim_board.specs.declared.view.Lane.{Lane}
use Rattle.claim_board.specs.RunPlaces.{Content, Nothing, Offered, Decoded, RunPlace, place_at}
use Rattle.claim_board.specs.declared.cargo.Cargo.TheVariants.{Waiting, Finished}
use Rattle.claim_board.specs.declared.view.Entry.{Entry}
use Rattle.claim_board.specs.declared.view.Deed.{Deed}
use Rattle.claim_board.specs.History.{entry_of, deed_place, after_deed, standing, word_of, MayDo, places_after, IsHistory, Each, Continues, IsOther, IsBelow}
use Rattle.claim_board.specs.Rule.{Slot, BoardState, Lies, ShowsPlace, BoardRule, is_out}
use Rattle.claim_board.proofs.Histories.{elsewhere, length_after}

pub index_below : (l : List SeatView) (i : ℕ) (v : SeatView) → get_elem? l i ≡ some v → i < length l
index_below [] i v e = absurd (some-ne-none v (sym e))
index_below (x ∷ xs) zero v e = omega arith
index_below (x ∷ xs) (suc i) v e = let k = index_below xs i v e in omega arith

-- the feeder and its lanes after a seat's step
pub record Feeds (s : BoardState) (o : BoardRule s) (id p : ℕ) (w : SeatView) : Type 0 where
  pub feeder : SeatView
  pub first : get_elem? (set s.views id w) 0 ≡ some feeder
  pub seats : feeder.seats ≡ o.feeder.seats
  pub lanes : length feeder.lanes ≡ length o.feeder.lanes
  pub others : (q : ℕ) → q ≢ p → lane_at feeder q ≡ lane_at o.feeder q

-- the seat's word, and the run's length
pub places_long : (s : BoardState) (o : BoardRule s) → length (places_after o.places o.history) ≡ length s.words
places_long s o = length_after o.places o.history ∙ sym o.many

-- the rule after a step of the seat id on the word of the deed's place
pub goes : (s : BoardState) (o : BoardRule s) (id : ℕ) (v : SeatView) (n : ℕ) (hs : List (maybe.Option Slot)) (d : Deed)
    → get_elem? s.views id ≡ some v
    → deed_place d < length s.words
    → MayDo (places_after o.places o.history) v.number d
    → length hs ≡ length s.homes
    → ((q : ℕ) → q ≢ deed_place d → get_elem? hs q ≡ get_elem? s.homes q)
    → (f : Feeds s o id (deed_place d) (did v o.history d))
    → ShowsPlace n (get_elem? hs (deed_place d)) (lane_at f.feeder (deed_place d)) (place_at (after_deed (places_after o.places o.history) v.number d) (deed_place d))
    → BoardRule (record { words = set s.words (deed_place d) n; homes = hs; views = set s.views id (did v o.history d) })
goes s o id v n hs d me in_range may long homes f here =
    let w : SeatView = did v o.history d in
    let p : ℕ = deed_place d in
    let old = o.known id v me in
    let seats : length (set s.views id w) ≡ length s.views = length-set s.views id w in record {
      places = o.places;
      history = entry_of v.number d ∷ o.history;
      run = (may, o.run);
      seated = (
        (let k = index_below s.views id v me in let e = old.number in omega arith),
        subst (λ (k : ℕ). Each (IsBelow k) o.history) (sym seats) o.seated,
      );
      known = λ j u e. ⊎_elim
          (λ c. record {
            places = ap (λ (x : SeatView). x.places) (sym c.1) ∙ old.places;
            number = ap (λ (x : SeatView). x.number) (sym c.1) ∙ (old.number ∙ sym c.0);
            since = subst (λ (x : SeatView). Continues (IsOther j) (entry_of v.number d ∷ o.history) x.history) c.1 ([], refl, tt);
          })
          (λ c. let k = o.known j u c.1 in record {
            places = k.places;
            number = k.number;
            since = (entry_of v.number d ∷ k.since.0, ap (λ (l : List Entry). entry_of v.number d ∷ l) k.since.1, ((λ e. c.0 (sym e ∙ old.number)), k.since.2));
          })
          (at_set s.views id j w u e);
      feeder = f.feeder;
      first = f.first;
      seats = f.seats ∙ (o.seats ∙ sym seats);
      lanes = f.lanes ∙ (o.lanes ∙ sym (length-set s.words p n));
      wide = long ∙ (o.wide ∙ sym (length-set s.words p n));
      many = length-set s.words p n ∙ o.many;
      each = λ q h. dite (ℕ_discrete q p)
          (λ e. subst (λ (i : ℕ). ShowsPlace (get_or (set s.words p n) i 0) (get_elem? hs i) (lane_at f.feeder i) (place_at (after_deed (places_after o.places o.history) v.number d) i)) (sym e)
          (subst (λ (k : ℕ). ShowsPlace k (get_elem? hs p) (lane_at f.feeder p) (place_at (after_deed (places_after o.places o.history) v.number d) p)) (sym (get_or-set_same s.words p n 0 in_range)) here))
          (λ ne. let at = o.each q (subst (λ (k : ℕ). q < k) (length-set s.words p n) h) in
          rw (get_or-set_other s.words p q n 0 ne, homes q ne, f.others q ne, elsewhere (places_after o.places o.history) v.number d q ne) at);
    }

pub first_in : (l : List SeatView) (f : SeatView) → get_elem? l 0 ≡ some f → 0 < length l
first_in [] f e = absurd (some-ne-none f (sym e))
first_in (x ∷ xs) f e = omega arith

-- the feeder after a seat's step that changes no lane
pub quiet : (s : BoardState) (o : BoardRule s) (id p : ℕ) (v w : SeatView) → get_elem? s.views id ≡ some v → w.seats ≡ v.seats → w.lanes ≡ v.lanes
    → (f : Feeds s o id p w) × (f.feeder.lanes ≡ o.feeder.lanes)
quiet s o id p v w me seats lanes = dite (ℕ_discrete id 0)
    (λ z. let same : v ≡ o.feeder = some-injective v o.feeder (sym me ∙ (ap (get_elem? s.views) z ∙ o.first)) in
    let e : w.lanes ≡ o.feeder.lanes = lanes ∙ ap (λ (x : SeatView). x.lanes) same in (
      record {
        feeder = w;
        first = subst (λ (k : ℕ). get_elem? (set s.views k w) 0 ≡ some w) (sym z) (set_here s.views 0 w (first_in s.views o.feeder o.first));
        seats = seats ∙ ap (λ (x : SeatView). x.seats) same;
        lanes = ap length e;
        others = λ q ne. ap (λ (ls : List Lane). get_or ls q (lane 0 false false)) e;
      },
      e,
    ))
    (λ nz. (
      record {
        feeder = o.feeder;
        first = set_else s.views id 0 w (λ e. nz (sym e)) ∙ o.first;
        seats = refl;
        lanes = refl;
        others = λ q ne. refl;
      },
      refl,
    ))

-- the feeder itself
pub the_feeder : (s : BoardState) (o : BoardRule s) (id : ℕ) (v : SeatView) → get_elem? s.views id ≡ some v → v.number ≡ 0 → (id ≡ 0) × (v ≡ o.feeder)
the_feeder s o id v me zero_number =
    let z : id ≡ 0 = sym (o.known id v me).number ∙ zero_number in
    (z, some-injective v o.feeder (sym me ∙ (ap (get_elem? s.views) z ∙ o.first)))

-- its step changes one lane
pub changes : (s : BoardState) (o : BoardRule s) (id p : ℕ) (v w : SeatView) (new : Lane) → get_elem? s.views id ≡ some v → v.number ≡ 0 → w.seats ≡ v.seats → w.lanes ≡ set v.lanes p new
    → p < length s.words
    → (f : Feeds s o id p w) × (lane_at f.feeder p ≡ new)
changes s o id p v w new me feeds seats lanes h =
    let is = the_feeder s o id v me feeds in
    let long : length v.lanes ≡ length o.feeder.lanes = ap (λ (x : SeatView). length x.lanes) is.1 in
    let in_lanes : p < length v.lanes = (let e = o.lanes in omega arith) in (
      record {
        feeder = w;
        first = subst (λ (k : ℕ). get_elem? (set s.views k w) 0 ≡ some w) (sym is.0) (set_here s.views 0 w (first_in s.views o.feeder o.first));
        seats = seats ∙ ap (λ (x : SeatView). x.seats) is.1;
        lanes = ap length lanes ∙ (length-set v.lanes p new ∙ long);
        others = λ q ne. ap (λ (ls : List Lane). get_or ls q (lane 0 false false)) lanes ∙ (get_or-set_other v.lanes p q new (lane 0 false false) ne ∙ ap (λ (x : SeatView). lane_at x q) is.1);
      },
      ap (λ (ls : List Lane). get_or ls p (lane 0 false false)) lanes ∙ get_or-set_same v.lanes p new (lane 0 false false) in_lanes,
    )

-- what a seat has done, in sight of the rule
pub has_done : (s : BoardState) (o : BoardRule s) (id : ℕ) (v : SeatView) (d : Deed) → get_elem? s.views id ≡ some v → MayDo (places_after o.places o.history) v.number d → DidOnce v (did v o.history d) d
has_done s o id v d me may = let k = o.known id v me in record {
  log = o.history;
  since = subst (λ (j : ℕ). Continues (IsOther j) o.history v.history) (sym k.number) k.since;
  run = subst (λ (m : ℕ). MayDo (places_after m o.history) v.number d × IsHistory m o.history) (sym k.places) (may, o.run);
  view = refl;
}

-- ---- what a word says of its place

pub record IsOffered (t : ℕ) (home : maybe.Option (maybe.Option Slot)) (known : Lane) (p : RunPlace) : Type 0 where
  pub own : RunLoad
  pub stands : p ≡ standing t (Offered (jobs_of_run own.job))
  pub lies : home ≡ some (some (Some (Waiting t own)))
  pub is_known : known ≡ lane t true true
  pub small : t ≤ 2 ^ 61

pub offered : (w t : ℕ) (home : maybe.Option (maybe.Option Slot)) (known : Lane) (p : RunPlace) → ShowsPlace w home known p → w ≡ 4 * t + 1 → IsOffered t home known p
offered w t home known p at is = cases p.serial p.content at.is_fetched at.shows at.small at.is_known at.lies
  where
    cases : (serial : ℕ) (c : Content) (fetched : Bool) → w ≡ word_of (standing serial c) → serial ≤ 2 ^ 61 → known ≡ lane serial fetched (is_out c) → Lies home fetched serial c
        → IsOffered t home known (standing serial c)
    cases serial (Offered job) true e small k l =
        let same : serial ≡ t = omega arith in record {
          own = l.0;
          stands = ap (λ (u : ℕ). standing u (Offered job)) same ∙ ap (λ j. standing t (Offered j)) l.2;
          lies = l.1 ∙ ap (λ (u : ℕ). some (some (Some (Waiting u l.0)))) same;
          is_known = k ∙ ap (λ (u : ℕ). lane u true true) same;
          small = omega arith;
        }
    cases serial (Offered job) false e small k l = absurd l
    cases serial c fetched e small k l = absurd (omega arith)

pub record IsDecoded (t : ℕ) (home : maybe.Option (maybe.Option Slot)) (known : Lane) (p : RunPlace) : Type 0 where
  pub own : RunDone
  pub stands : p ≡ standing t (Decoded (answered_run own))
  pub lies : home ≡ some (some (Some (Finished t own)))
  pub is_known : known ≡ lane t true true
  pub small : t ≤ 2 ^ 61

pub decoded : (w t : ℕ) (home : maybe.Option (maybe.Option Slot)) (known : Lane) (p : RunPlace) → ShowsPlace w home known p → w ≡ 4 * t + 3 → IsDecoded t home known p
decoded w t home known p at is = cases p.serial p.content at.is_fetched at.shows at.small at.is_known at.lies
  where
    cases : (serial : ℕ) (c : Content) (fetched : Bool) → w ≡ word_of (standing serial c) → serial ≤ 2 ^ 61 → known ≡ lane serial fetched (is_out c) → Lies home fetched serial c
        → IsDecoded t home known (standing serial c)
    cases serial (Decoded done) true e small k l =
        let same : serial ≡ t = omega arith in record {
          own = l.0;
          stands = ap (λ (u : ℕ). standing u (Decoded done)) same ∙ ap (λ j. standing t (Decoded j)) l.2;
          lies = l.1 ∙ ap (λ (u : ℕ). some (some (Some (Finished u l.0)))) same;
          is_known = k ∙ ap (λ (u : ℕ). lane u true true) same;
          small = omega arith;
        }
    cases serial (Decoded done) false e small k l = absurd l
    cases serial c fetched e small k l = absurd (omega arith)

-- what the feeder's lane says of its place
pub record IsIdle (t : ℕ) (fetched : Bool) (w : ℕ) (home : maybe.Option (maybe.Option Slot)) (p : RunPlace) : Type 0 where
  pub stands : p ≡ standing t Nothing
  pub shows : w ≡ 4 * t
  pub small : t ≤ 2 ^ 61
  pub lies : Lies home fetched t Nothing

pub idle : (w t : ℕ) (f : Bool) (home : maybe.Option (maybe.Option Slot)) (known : Lane) (p : RunPlace) → ShowsPlace w home known p → known ≡ lane t f false → IsIdle t f w home p
idle w t f home known p at is = cases p.serial p.content at.is_fetched at.shows at.small at.is_known at.lies
  where
    cases : (serial : ℕ) (c : Content) (fetched : Bool) → w ≡ word_of (standing serial c) → serial ≤ 2 ^ 61 → known ≡ lane serial fetched (is_out c) → Lies home fetched serial c
        → IsIdle t f w home (standing serial c)
    cases serial Nothing fetched e small k l =
        let same : serial ≡ t = ap (λ (x : Lane). x.serial) (sym k ∙ is) in
        let got : fetched ≡ f = ap (λ (x : Lane). x.is_fetched) (sym k ∙ is) in record {
          stands = ap (λ (u : ℕ). standing u Nothing) same;
          shows = omega arith;
          small = omega arith;
          lies = subst (λ (u : ℕ). Lies home f u Nothing) same (subst (λ (b : Bool). Lies home b serial Nothing) got l);
        }
    cases serial c fetched e small k l = let h : true ≡ false = ap (λ (x : Lane). x.is_out) (sym k ∙ is) in cc
