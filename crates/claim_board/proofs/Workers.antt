-- Each step of a worker, and each load, keeps the rule.
use Rattle.std.proofs.Common.{◌≡◌, ℕ, ◌+◌, ◌*◌, ◌^◌, ◌<◌, ◌≤◌, Bool, true, false, List, ◌∷◌, ◌++◌, length, get_or, set, sym, refl, ap, ◌∙◌, subst, arith, length-set, eqb, Some, zero, suc, [], ⊎_elim, ◌⊎◌, inl, inr, map, append-nil, None, replicate}
use mathlib.Core.Option.{some, none, some-injective, some-ne-none}
use mathlib.Core.Option as maybe
use lib.ListN.{get_elem?}
use prog.Atomic.{either}
use Rattle.atomic_table.specs.Table.{step, Act, keeps, takes, gives, Valid, carried_after, stepped, Allows, opening, Splits}
use Rattle.atomic_table.proofs.Lists.{set_here, set_else, exchanged, at_longer, at_set}
use Rattle.vc_slice.specs.declared.run.RunJob.{RunJob}
use Rattle.vc_slice.specs.declared.run.RunDone.{RunDone}
use Rattle.link_slices.specs.Jobs.{answered_run, jobs_of_run}
use Rattle.link_slices.proofs.RunAnswers.{answers_are_own}
use Rattle.claim_board.specs.Views.{lane, SeatView, DidOnce, did, Holds, lane_at, first_view, with_seat, worker_view}
use Rattle.claim_board.specs.declared.view.Lane.{Lane}
use Rattle.machine_model.specs.Places.{own_answer}
use Rattle.claim_board.specs.RunPlaces.{Claimed, Decoded, RunPlace, place_at, unused_place}
use Rattle.claim_board.specs.declared.cargo.Cargo.TheVariants.{Waiting, Finished}
use Rattle.claim_board.specs.declared.view.Entry.{Entry}
use Rattle.claim_board.specs.declared.view.Deed.TheVariants.{WasRead, WasClaimed, WasCompleted}
use Rattle.claim_board.specs.History.{standing, places_after, IsHistory, Continues, IsOther, IsBelow}
use Rattle.claim_board.specs.Rule.{Slot, BoardState, ShowsPlace, BoardRule, Lies}
use Rattle.claim_board.specs.Plays.{SeatState, tells_load, tells_claim, tells_complete}
use Rattle.claim_board.proofs.Histories.{claim_here, complete_here, stays_held, each_more}
use Rattle.claim_board.proofs.Keeps.{goes, quiet, has_done, offered, places_long, first_in, the_feeder}
use Rattle.std.proofs.lemmas.List.{length-replicate, length-append}

-- where a step leaves the word as it is, and the slots
pub looks : (s : BoardState) (o : BoardRule s) (id i : ℕ) (m : SeatState) → get_elem? s.views id ≡ some m.0 → i < length s.words
    → BoardRule (stepped s i (get_or s.words i 0) id m.1 (did m.0 o.history (WasRead i (get_or s.words i 0))) keeps)
looks s o id i m me h =
    let r : ℕ = get_or s.words i 0 in
    let f = quiet s o id i m.0 (did m.0 o.history (WasRead i r)) me refl refl in
    let here = o.each i h in
    goes s o id m.0 r s.homes (WasRead i r) me h here.shows refl (λ q ne. refl) f.0
    (subst (λ (k : Lane). ShowsPlace r (get_elem? s.homes i) k (place_at (places_after o.places o.history) i)) (sym (ap (λ (ls : List Lane). get_or ls i (lane 0 false false)) f.1)) here)

pub loads : (n id : ℕ) (m : SeatState) (i : ℕ) → i < n → Allows BoardRule n id m i (λ y. y) (tells_load (step n i 0 0 none) m)
loads n id m i h s o wide me small =
    let in_words : i < length s.words = (let e = o.wide in omega arith) in
    let r : ℕ = get_or s.words i 0 in
    (did m.0 o.history (WasRead i r), keeps, tt, looks s o id i m me in_words, (has_done s o id m.0 (WasRead i r) me (o.each i in_words).shows, refl))

pub claims : (n id : ℕ) (m : SeatState) (i t : ℕ) (said : maybe.Option Slot) → i < n
    → Allows BoardRule n id m i (λ y. either (eqb y (4 * t + 1)) (4 * t + 2) y) (tells_claim (step n i (4 * t + 1) (4 * t + 2) said) m)
claims n id m i t said h s o wide me fits =
    let in_words : i < length s.words = (let e = o.wide in omega arith) in
    let long = places_long s o in
    let old = o.each i in_words in
    let ps : List RunPlace = places_after o.places o.history in
    let G : ℕ → Type 0 = λ k. (w : SeatView) × (a : Act Slot) × Valid s.homes m.1 a × BoardRule (stepped s i k id m.1 w a) × tells_claim (step n i (4 * t + 1) (4 * t + 2) said) m (get_or s.words i 0) (w, carried_after m.1 a) in
    exchanged (get_or s.words i 0) (4 * t + 1) (4 * t + 2) G
    (λ hit.
    let is = offered (get_or s.words i 0) t (get_elem? s.homes i) (lane_at o.feeder i) (place_at ps i) old hit in
    let w : SeatView = did m.0 o.history (WasClaimed i t is.own.job) in
    let f = quiet s o id i m.0 w me refl refl in
    let now = claim_here ps i t m.0.number (jobs_of_run is.own.job) (omega arith) is.stands in (
      w,
      takes i (Some (Waiting t is.own)),
      is.lies,
      goes s o id m.0 (4 * t + 2) (set s.homes i none) (WasClaimed i t is.own.job) me in_words is.stands (length-set s.homes i none) (λ q ne. set_else s.homes i q none ne) f.0
          (subst (ShowsPlace (4 * t + 2) (get_elem? (set s.homes i none) i) (lane_at f.0.feeder i)) (sym now)
          (record {
            shows = refl;
            small = is.small;
            is_fetched = true;
            is_known = ap (λ (ls : List Lane). get_or ls i (lane 0 false false)) f.1 ∙ is.is_known;
            lies = set_here s.homes i none (let e = o.wide in omega arith);
          })),
      (
        (λ r u e. let same : t ≡ u = omega arith in record {
          load = is.own;
          did = (
            subst (λ (k : ℕ). DidOnce m.0 w (WasClaimed i k is.own.job)) same (has_done s o id m.0 (WasClaimed i t is.own.job) me is.stands),
            ap (λ (k : ℕ). (i, Some (Waiting k is.own)) ∷ m.1) same,
          );
          small = let k = is.small in omega arith;
        }),
        λ miss. absurd (miss hit),
      ),
    ))
    (λ miss. (
      did m.0 o.history (WasRead i (get_or s.words i 0)),
      keeps,
      tt,
      looks s o id i m me in_words,
      ((λ hit. absurd (miss hit)), λ _. (has_done s o id m.0 (WasRead i (get_or s.words i 0)) me old.shows, refl)),
    ))

pub claims_at : (n id : ℕ) (m : SeatState) (i old new t : ℕ) (said : maybe.Option Slot) → i < n → old ≡ 4 * t + 1 → new ≡ 4 * t + 2
    → Allows BoardRule n id m i (λ y. either (eqb y old) new y) (tells_claim (step n i old new said) m)
claims_at n id m i old new t said h a b =
    let P : ℕ → Type 0 = λ k. Allows BoardRule n id m i (λ y. either (eqb y k) new y) (tells_claim (step n i k new said) m) in
    let Q : ℕ → Type 0 = λ k. Allows BoardRule n id m i (λ y. either (eqb y (4 * t + 1)) k y) (tells_claim (step n i (4 * t + 1) k said) m) in
    subst P (sym a) (subst Q (sym b) (claims n id m i t said h))

-- ---- a completion

-- what the seat holds by its own view it holds now
pub held_now : (s : BoardState) (o : BoardRule s) (id : ℕ) (v : SeatView) (i t : ℕ) (job : RunJob) → get_elem? s.views id ≡ some v → Holds v i t job
    → place_at (places_after o.places o.history) i ≡ standing t (Claimed v.number (jobs_of_run job))
held_now s o id v i t job me holds =
    let k = o.known id v me in
    let then : place_at (places_after o.places v.history) i ≡ standing t (Claimed id (jobs_of_run job)) = rw (sym k.places, sym k.number) holds in
    let run : IsHistory o.places (k.since.0 ++ v.history) = subst (IsHistory o.places) k.since.1 o.run in
    ap (λ (l : List Entry). place_at (places_after o.places l) i) k.since.1 ∙ (stays_held o.places id k.since.0 v.history i t (jobs_of_run job) run k.since.2 then ∙ ap (λ (j : ℕ). standing t (Claimed j (jobs_of_run job))) (sym k.number))

-- its slot isn't at home, and the feeder's lane shows it as out
held_at : (w t seat : ℕ) (job : RunJob) (home : maybe.Option (maybe.Option Slot)) (known : Lane) (p : RunPlace) → ShowsPlace w home known p → p ≡ standing t (Claimed seat (jobs_of_run job)) → (known ≡ lane t true true) × (t ≤ 2 ^ 61)
held_at w t seat job home known p at is =
    let q = subst (ShowsPlace w home known) is at in
    cases q.is_fetched q.is_known q.lies q.small
  where
    cases : (b : Bool) → known ≡ lane t b true → Lies home b t (Claimed seat (jobs_of_run job)) → t ≤ 2 ^ 61 → (known ≡ lane t true true) × (t ≤ 2 ^ 61)
    cases true k l small = (k, small)
    cases false k l small = absurd l

pub completes : (n id : ℕ) (v : SeatView) (r : List (ℕ × Slot)) (i t : ℕ) (done : RunDone) → i < n → Holds v i t done.job
    → Allows BoardRule n id (v, (i, Some (Finished t done)) ∷ r) i (λ _. 4 * t + 3) (λ _. tells_complete (step n i (4 * t + 3) 0 none) (v, (i, Some (Finished t done)) ∷ r) (4 * t + 3))
completes n id v r i t done h holds s o wide me fits =
    let in_words : i < length s.words = (let e = o.wide in omega arith) in
    let long = places_long s o in
    let old = o.each i in_words in
    let ps : List RunPlace = places_after o.places o.history in
    let stands = held_now s o id v i t done.job me holds in
    let was = held_at (get_or s.words i 0) t v.number done.job (get_elem? s.homes i) (lane_at o.feeder i) (place_at ps i) old stands in
    let d = WasCompleted i t done in
    let w : SeatView = did v o.history d in
    let f = quiet s o id i v w me refl refl in
    let home = some (Some (Finished t done)) in
    let own : map own_answer (jobs_of_run done.job) ≡ answered_run done = answers_are_own done in
    let now = complete_here ps i t v.number (jobs_of_run done.job) (omega arith) stands ∙ ap (λ a. standing t (Decoded a)) own in (
      w,
      gives,
      tt,
      goes s o id v (4 * t + 3) (set s.homes i home) d me in_words stands (length-set s.homes i home) (λ q ne. set_else s.homes i q home ne) f.0
          (subst (ShowsPlace (4 * t + 3) (get_elem? (set s.homes i home) i) (lane_at f.0.feeder i)) (sym now)
          (record {
            shows = refl;
            small = was.1;
            is_fetched = true;
            is_known = ap (λ (ls : List Lane). get_or ls i (lane 0 false false)) f.1 ∙ was.0;
            lies = (done, set_here s.homes i home (let e = o.wide in omega arith), refl);
          })),
      (has_done s o id v d me stands, refl),
    )

pub completes_at : (n id : ℕ) (m : SeatState) (i t : ℕ) (done : RunDone) (r : List (ℕ × Slot)) → i < n → Holds m.0 i t done.job → m.1 ≡ (i, Some (Finished t done)) ∷ r
    → Allows BoardRule n id m i (λ _. 4 * t + 3) (λ _. tells_complete (step n i (4 * t + 3) 0 none) m (4 * t + 3))
completes_at n id m i t done r h holds slots =
    let P : List (ℕ × Slot) → Type 0 = λ l. Allows BoardRule n id (m.0, l) i (λ _. 4 * t + 3) (λ _. tells_complete (step n i (4 * t + 3) 0 none) (m.0, l) (4 * t + 3)) in
    subst P (sym slots) (completes n id m.0 r i t done h holds)

-- ---- new boards and seats

-- past the end, too
pub get_replicate : {A : Type 0} (n p : ℕ) (x : A) → get_or (replicate n x) p x ≡ x
get_replicate zero p x = refl
get_replicate (suc n) zero x = refl
get_replicate (suc n) (suc p) x = get_replicate n p x

homes_replicate : (n p : ℕ) → p < n → let x : Slot = None in get_elem? (map some (replicate n x)) p ≡ some (some x)
homes_replicate zero p h = absurd (omega arith)
homes_replicate (suc n) zero h = refl
homes_replicate (suc n) (suc p) h = homes_replicate n p (omega arith)

length-homes : (n : ℕ) → let x : Slot = None in length (map some (replicate n x)) ≡ n
length-homes zero = refl
length-homes (suc n) = ap suc (length-homes n)

only_first : (v u : SeatView) (j : ℕ) → get_elem? (v ∷ []) j ≡ some u → (j ≡ 0) × (v ≡ u)
only_first v u zero e = (refl, some-injective v u e)
only_first v u (suc j) e = absurd (some-ne-none u (sym e))

pub opens : (n : ℕ) → BoardRule (opening (replicate n 0) (replicate n None) (first_view n))
opens n = record {
  places = n;
  history = [];
  run = tt;
  seated = tt;
  known = λ j u e. let same = only_first (first_view n) u j e in record {
    places = ap (λ (x : SeatView). x.places) (sym same.1);
    number = ap (λ (x : SeatView). x.number) (sym same.1) ∙ sym same.0;
    since = subst (λ (x : SeatView). Continues (IsOther j) [] x.history) same.1 ([], refl, tt);
  };
  feeder = first_view n;
  first = refl;
  seats = refl;
  lanes = length-replicate n (lane 0 false false) ∙ sym (length-replicate {A = ℕ} n 0);
  wide = length-homes n ∙ sym (length-replicate {A = ℕ} n 0);
  many = length-replicate {A = ℕ} n 0;
  each = λ p h. rw (get_replicate n p unused_place) (record {
    shows = get_replicate {A = ℕ} n p 0;
    small = omega arith;
    is_fetched = false;
    is_known = get_replicate n p (lane 0 false false);
    lies = homes_replicate n p (let e = length-replicate {A = ℕ} n 0 in omega arith);
  });
}

at_end : (l : List SeatView) (a b : SeatView) (j : ℕ) → get_elem? (l ++ a ∷ []) j ≡ some b → (get_elem? l j ≡ some b) ⊎ ((j ≡ length l) × (a ≡ b))
at_end [] a b zero e = inr (refl, some-injective a b e)
at_end [] a b (suc j) e = absurd (some-ne-none b (sym e))
at_end (x ∷ xs) a b zero e = inl e
at_end (x ∷ xs) a b (suc j) e = ⊎_elim (λ h. inl h) (λ h. inr (ap suc h.0, h.1)) (at_end xs a b j e)

pub splits : (id : ℕ) (v : SeatView) → v.number ≡ 0 → Splits BoardRule id v (with_seat v) (worker_view v)
splits id v feeds s o me =
    let is = the_feeder s o id v me feeds in
    let w : SeatView = with_seat v in
    let vs : List SeatView = set s.views id w in
    let long : length vs ≡ length s.views = length-set s.views id w in
    let all : length (vs ++ worker_view v ∷ []) ≡ length s.views + 1 = length-append vs (worker_view v ∷ []) ∙ ap (λ (k : ℕ). k + 1) long in
    let number : v.seats ≡ length s.views = ap (λ (x : SeatView). x.seats) is.1 ∙ o.seats in
    let first : get_elem? vs 0 ≡ some w = subst (λ (k : ℕ). get_elem? (set s.views k w) 0 ≡ some w) (sym is.0) (set_here s.views 0 w (first_in s.views o.feeder o.first)) in
    let old = o.known id v me in
    record {
      places = o.places;
      history = o.history;
      run = o.run;
      seated = each_more (IsBelow (length s.views)) (IsBelow (length (vs ++ worker_view v ∷ []))) o.history (λ (x : Entry) h. let k : x.seat < length s.views = h in omega arith) o.seated;
      known = λ j u e. ⊎_elim
          (λ h. ⊎_elim
          (λ c. record {
            places = ap (λ (x : SeatView). x.places) (sym c.1) ∙ old.places;
            number = ap (λ (x : SeatView). x.number) (sym c.1) ∙ (old.number ∙ sym c.0);
            since = subst (λ (x : SeatView). Continues (IsOther j) o.history x.history) c.1 (subst (λ (k : ℕ). Continues (IsOther k) o.history v.history) (sym c.0) old.since);
          })
          (λ c. o.known j u c.1)
          (at_set s.views id j w u h))
          (λ h. record {
            places = ap (λ (x : SeatView). x.places) (sym h.1) ∙ old.places;
            number = ap (λ (x : SeatView). x.number) (sym h.1) ∙ (number ∙ (sym long ∙ sym h.0));
            since = subst (λ (x : SeatView). Continues (IsOther j) o.history x.history) h.1 (
              o.history,
              sym (append-nil o.history),
              each_more (IsBelow (length s.views)) (IsOther j) o.history (λ (x : Entry) b same. let k : x.seat < length s.views = b in let at = h.0 in omega arith) o.seated,
            );
          })
          (at_end vs (worker_view v) u j e);
      feeder = w;
      first = at_longer vs (worker_view v ∷ []) 0 w first;
      seats = ap (λ (k : ℕ). k + 1) number ∙ sym all;
      lanes = ap (λ (x : SeatView). length x.lanes) is.1 ∙ o.lanes;
      wide = o.wide;
      many = o.many;
      each = λ p h. rw (ap (λ (x : SeatView). lane_at x p) is.1) (o.each p h);
    }
