-- The rule leaves a step no choice.
use Rattle.std.proofs.Common.{◌≡◌, ◌≢◌, ℕ, zero, suc, ◌<◌, List, [], ◌∷◌, ◌++◌, length, get_or, sym, refl, ap, ◌∙◌, subst, arith, append_assoc, append-nil, length-set, Some}
use Rattle.std.proofs.lemmas.List.{append_cancel_right}
use mathlib.Core.Logic.{dite}
use mathlib.Core.Option.{some}
use native.Mathlib.Decide.{ℕ_discrete}
use lib.ListN.{get_elem?}
use Rattle.atomic_table.proofs.Lists.{set_here, set_else}
use Rattle.claim_board.specs.declared.view.Entry.{Entry}
use Rattle.claim_board.specs.declared.view.Deed.{Deed}
use Rattle.machine_model.specs.Places.{Answered}
use Rattle.claim_board.specs.RunPlaces.{Content, Decoded, RunPlace, place_at}
use Rattle.link_slices.specs.Jobs.{answered_run}
use Rattle.vc_slice.specs.declared.run.RunDone.{RunDone}
use Rattle.claim_board.specs.declared.cargo.Cargo.TheVariants.{Finished}
use Rattle.claim_board.specs.declared.view.Deed.TheVariants.{WasTaken}
use Rattle.claim_board.specs.History.{after_deed, entry_of, places_after, word_of, Each, Continues, IsBelow, IsOther, IsHistory, MayDo}
use Rattle.claim_board.specs.Laws.{IsStepOf}
use Rattle.claim_board.specs.Rule.{BoardRule, BoardState, Knows}
use Rattle.claim_board.specs.Views.{SeatView, lane_at}
use Rattle.claim_board.proofs.Keeps.{decoded, index_below}

view_there : (l : List SeatView) (i : ℕ) → i < length l → (v : SeatView) × (get_elem? l i ≡ some v)
view_there [] i h = absurd (omega arith)
view_there (x ∷ xs) zero h = (x, refl)
view_there (x ∷ xs) (suc i) h = view_there xs i (omega arith)

abbrev head_is : Entry → List Entry → Entry
head_is other [] = other
head_is other (x ∷ xs) = x

abbrev tail_of : List Entry → List Entry
tail_of [] = []
tail_of (x ∷ xs) = xs

-- the rest of a history after two known ones, of which one begins the other
same_rest : (P : Entry → Type 0) (more a b known : List Entry) → more ++ (a ++ known) ≡ b ++ known → Each P b → Each P more
same_rest P more a b known e each = front more a b (append_cancel_right (more ++ a) b known (append_assoc more a known ∙ e)) each
  where
    front : (xs ys zs : List Entry) → xs ++ ys ≡ zs → Each P zs → Each P xs
    front [] ys zs e each = tt
    front (x ∷ xs) ys zs e each =
        let p : Each P (x ∷ (xs ++ ys)) = subst (Each P) (sym e) each in
        (p.0, front xs ys (xs ++ ys) refl p.1)

-- own ++ older = newer ++ e ∷ between, where own is all of this seat, and older, newer, between of others
one_own : (me : ℕ) (e : Entry) (own older newer between : List Entry) → Each (λ x. x.seat ≡ me) own → Each (IsOther me) older → Each (IsOther me) newer → e.seat ≡ me → Each (IsOther me) between
    → own ++ older ≡ newer ++ e ∷ between → own ≡ e ∷ []
one_own me e [] older newer between o a b is c eq = absurd (in_front newer older b a eq)
  where
    in_front : (xs ys : List Entry) → Each (IsOther me) xs → Each (IsOther me) ys → ys ≡ xs ++ e ∷ between → ⊥
    in_front [] ys x y eq = let p : Each (IsOther me) (e ∷ between) = subst (Each (IsOther me)) eq y in p.0 is
    in_front (x ∷ xs) ys h y eq = let p : Each (IsOther me) (x ∷ (xs ++ e ∷ between)) = subst (Each (IsOther me)) eq y in in_front xs (xs ++ e ∷ between) h.1 p.1 refl
one_own me e (x ∷ own) older (y ∷ newer) between o a b is c eq = absurd (b.0 (ap (λ l. (head_is x l).seat) (sym eq) ∙ o.0))
one_own me e (x ∷ []) older [] between o a b is c eq = ap (λ l. head_is x l ∷ []) eq
one_own me e (x ∷ (y ∷ own)) older [] between o a b is c eq =
    let p : Each (IsOther me) (y ∷ (own ++ older)) = subst (Each (IsOther me)) (sym (ap tail_of eq)) c in
    absurd (p.0 o.1.0)

-- where the last step of a history is a seat's, the seat's view has the whole history
whole : (h known : List Entry) (x : Entry) (j : ℕ) → x.seat ≡ j → Continues (IsOther j) (x ∷ h) known → known ≡ x ∷ h
whole h known x j is ([], e, others) = sym e
whole h known x j is (y ∷ more, e, others) = absurd (others.0 (ap (λ l. (head_is x l).seat) (sym e) ∙ is))

each_front : (P : Entry → Type 0) (xs ys : List Entry) → Each P (xs ++ ys) → Each P xs
each_front P [] ys each = tt
each_front P (x ∷ xs) ys each = (each.0, each_front P xs ys each.1)

all_of : (n seat : ℕ) (own : List Entry) → Each (IsBelow n) own → ((j : ℕ) → j < n → j ≢ seat → Each (IsOther j) own) → Each (λ x. x.seat ≡ seat) own
all_of n seat [] below others = tt
all_of n seat (x ∷ own) below others = (
  dite (ℕ_discrete x.seat seat) (λ e. e) (λ ne. absurd ((others x.seat below.0 ne).0 refl)),
  all_of n seat own below.1 (λ j h ne. (others j h ne).1),
)

module _ (s t : BoardState) (old : BoardRule s) (new : BoardRule t) (seat : ℕ) (v : SeatView) (d : Deed) (step : IsStepOf s t seat v d) where
  was : Knows old.places seat old.history v
  was = old.known seat v step.before

  within : seat < length s.views
  within = index_below s.views seat v step.before

  long : length t.views ≡ length s.views
  long = ap length step.behind ∙ length-set s.views seat step.new

  is_now : Continues (IsOther seat) new.history step.new.history
  is_now = (new.known seat step.new (ap (λ l. get_elem? l seat) step.behind ∙ set_here s.views seat step.new within)).since

  -- another seat's view is the same
  another : (j : ℕ) → j < length s.views → j ≢ seat → (u : SeatView) × Continues (IsOther j) old.history u.history × Continues (IsOther j) new.history u.history
  another j h ne =
      let u = view_there s.views j h in (
        u.0,
        (old.known j u.0 u.1).since,
        (new.known j u.0 (ap (λ l. get_elem? l j) step.behind ∙ (set_else s.views seat j step.new ne ∙ u.1))).since,
      )

  -- the history of the step's view: between are steps of others
  upon : (between : List Entry) × (step.new.history ≡ entry_of v.number d ∷ (between ++ v.history)) × Each (IsOther seat) between
  upon = (
    step.did.since.0,
    ap (λ (x : SeatView). x.history) step.did.view ∙ ap (λ l. entry_of v.number d ∷ l) step.did.since.1,
    subst (λ (k : ℕ). Each (IsOther k) step.did.since.0) was.number step.did.since.2,
  )

  -- the new history goes on from the old one
  goes_on : (h : List Entry) → h ≡ old.history → (more : List Entry) × (new.history ≡ more ++ h)
  goes_on [] e = (new.history, sym (append-nil new.history))
  goes_on (x ∷ h) e =
      let below : Each (IsBelow (length s.views)) (x ∷ h) = subst (Each (IsBelow (length s.views))) (sym e) old.seated in
      dite (ℕ_discrete x.seat seat)
      (λ is.
      let all : v.history ≡ x ∷ h = whole h v.history x seat is (subst (λ l. Continues (IsOther seat) l v.history) (sym e) was.since) in
      let last = entry_of v.number d in (
        is_now.0 ++ last ∷ upon.0,
        is_now.1 ∙ (ap (λ l. is_now.0 ++ l) (upon.1 ∙ ap (λ l. last ∷ (upon.0 ++ l)) all) ∙ sym (append_assoc is_now.0 (last ∷ upon.0) (x ∷ h))),
      ))
      (λ ne.
      let u = another x.seat below.0 ne in
      let all : u.0.history ≡ x ∷ h = whole h u.0.history x x.seat refl (subst (λ l. Continues (IsOther x.seat) l u.0.history) (sym e) u.1) in
      (u.2.0, u.2.1 ∙ ap (λ l. u.2.0 ++ l) all))

  pub one_more : new.history ≡ entry_of v.number d ∷ old.history
  one_more =
      let own = goes_on old.history refl in
      let below = each_front (IsBelow (length s.views)) own.0 old.history (subst (Each (IsBelow (length s.views))) own.1 (subst (λ (k : ℕ). Each (IsBelow k) new.history) long new.seated)) in
      let mine = all_of (length s.views) seat own.0 below (λ j h ne.
      let u = another j h ne in
      same_rest (IsOther j) own.0 u.1.0 u.2.0 u.0.history (ap (λ l. own.0 ++ l) (sym u.1.1) ∙ (sym own.1 ∙ u.2.1)) u.2.2) in
      let last = entry_of v.number d in
      let same : own.0 ++ was.since.0 ≡ is_now.0 ++ last ∷ upon.0 = append_cancel_right (own.0 ++ was.since.0) (is_now.0 ++ last ∷ upon.0) v.history
      (append_assoc own.0 was.since.0 v.history ∙ (ap (λ l. own.0 ++ l) (sym was.since.1) ∙ (sym own.1 ∙ (is_now.1 ∙ (ap (λ l. is_now.0 ++ l) upon.1 ∙ sym (append_assoc is_now.0 (last ∷ upon.0) v.history)))))) in
      own.1 ∙ ap (λ l. l ++ old.history) (one_own seat last own.0 was.since.0 is_now.0 upon.0 mine was.since.2 is_now.2 was.number upon.2 same)

  same_places : new.places ≡ old.places
  same_places = sym (new.known seat step.new (ap (λ l. get_elem? l seat) step.behind ∙ set_here s.views seat step.new within)).places ∙ (ap (λ (x : SeatView). x.places) step.did.view ∙ was.places)

  -- what the deed says was so
  pub is_true : MayDo (places_after old.places old.history) v.number d
  is_true =
      let run : IsHistory old.places (entry_of v.number d ∷ old.history) = subst (λ (k : ℕ). IsHistory k (entry_of v.number d ∷ old.history)) same_places (subst (IsHistory new.places) one_more new.run) in
      run.0

  -- the words behind the step are what the deed leads to
  pub leads : (p : ℕ) → p < length t.words → get_or t.words p 0 ≡ word_of (place_at (after_deed (places_after old.places old.history) v.number d) p)
  leads p h = (new.each p h).shows ∙ (ap (λ l. word_of (place_at (places_after new.places l) p)) one_more ∙ ap (λ (k : ℕ). word_of (place_at (places_after k (entry_of v.number d ∷ old.history)) p)) same_places)

abbrev answers_in : List Answered → Content → List Answered
answers_in other (Decoded dones) = dones
answers_in other content = other

-- what was taken lay there
pub lay_there : (s t : BoardState) (old : BoardRule s) (new : BoardRule t) (seat : ℕ) (v : SeatView) (p serial : ℕ) (done : RunDone) → IsStepOf s t seat v (WasTaken p serial done) → p < length s.words
    → (own : RunDone) × (get_elem? s.homes p ≡ some (some (Some (Finished serial own)))) × (answered_run own ≡ answered_run done)
lay_there s t old new seat v p serial done step h =
    let stands = is_true s t old new seat v (WasTaken p serial done) step in
    let at = old.each p h in
    let found = decoded (get_or s.words p 0) serial (get_elem? s.homes p) (lane_at old.feeder p) (place_at (places_after old.places old.history) p) at (at.shows ∙ ap word_of stands) in
    (found.own, found.lies, ap (λ (x : RunPlace). answers_in (answered_run done) x.content) (sym found.stands ∙ stands))
