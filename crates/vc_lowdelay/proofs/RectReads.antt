-- A rectangle of a band, whose cells are put one after another.
use Rattle.std.proofs.Common.{◌≡◌, ◌≢◌, ℕ, ◌+◌, ◌*◌, ◌^◌, ◌<◌, ◌≤◌, ℤ, unsigned_abs, refl, sym, ap, subst, ◌∙◌, arith, inl, inr}
use Rattle.std.proofs.lemmas.Bool.{cases_eq}
use Rattle.std.proofs.lemmas.Nat.{same_from_place}
use Rattle.vc_types.specs.declared.rect.Rect.{Rect}
use Rattle.vc_types.specs.declared.video.Component.{Component}
use Rattle.vc_types.specs.Lifting.{line_of}
use Rattle.vc_types.specs.Rasters.{Lattice}
use Rattle.vc_types.specs.Subbands.{Place, area, place_in}
use Rattle.vc_types.specs.TransformParameters.{Parameters}
use Rattle.vc_types.proofs.RectangleCells.{place_in-inside, number_in-only, same_place}
use Rattle.vc_lowdelay.specs.Bands.{lowest_rectangle, index_of_place}
use Rattle.vc_lowdelay.specs.Placed.{Places}

-- two cells of a rectangle at one place are one
cells_apart : (r : Rect) (i j : ℕ) → i < area r → j < area r → place_in r i ≡ place_in r j → i ≡ j
cells_apart r i j hi hj e =
    let within = place_in-inside r j hj in
    number_in-only r (place_in r j).0 (place_in r j).1 within i e ∙ sym (number_in-only r (place_in r j).0 (place_in r j).1 within j refl)

module _ (r : Rect) (values : ℕ → ℤ) (first : Lattice) where
  -- the first n cells hold their values
  pub record FirstPut (n : ℕ) (band : Lattice) : Type 0 where
    pub width : band.width ≡ first.width
    pub height : band.height ≡ first.height
    pub on : (i : ℕ) → i < n → line_of band.cells (index_of_place first (place_in r i)) ≡ values i
    pub small : (i : ℕ) → i < n → unsigned_abs (values i) < 2 ^ 60
    pub off : (k : ℕ) → ((i : ℕ) → i < n → k ≢ index_of_place first (place_in r i)) → line_of band.cells k ≡ line_of first.cells k

  pub none_put : FirstPut 0 first
  none_put = record {
    width = refl;
    height = refl;
    on = λ i h. absurd (omega (arith, h));
    small = λ i h. absurd (omega (arith, h));
    off = λ k none. refl;
  }

module _ (r : Rect) (values : ℕ → ℤ) (first : Lattice) (across : r.x + r.width ≤ first.width) where
  numbers_apart : (i j : ℕ) → i < area r → j < area r → index_of_place first (place_in r i) ≡ index_of_place first (place_in r j) → i ≡ j
  numbers_apart i j hi hj e =
      let a = place_in r i in
      let b = place_in r j in
      let one = place_in-inside r i hi in
      let other = place_in-inside r j hj in
      let same = same_from_place a.1 a.0 b.1 b.0 first.width (omega (arith, one.right, across)) (omega (arith, other.right, across)) e in
      cells_apart r i j hi hj (same_place a.0 a.1 b.0 b.1 same.1 same.0)

  pub one_more_put : (n x y : ℕ) (z : ℤ) (old new : Lattice) → n < area r → FirstPut r values first n old
      → ◌≡◌ {A = Place} (x, y) (place_in r n)
      → new.width ≡ old.width → new.height ≡ old.height
      → line_of new.cells (index_of_place old (x, y)) ≡ z
      → ((k : ℕ) → k ≢ index_of_place old (x, y) → line_of new.cells k ≡ line_of old.cells k)
      → z ≡ values n → unsigned_abs z < 2 ^ 60 → FirstPut r values first (n + 1) new
  one_more_put n x y z old new below put there wide high on off is own = record {
    width = wide ∙ put.width;
    height = high ∙ put.height;
    on = λ i h. elim (cases_eq i n) [
      | inl e ↦ ap (λ (k : ℕ). line_of new.cells (index_of_place first (place_in r k))) e ∙ here ∙ is ∙ ap values (sym e)
      | inr ne ↦ apart (index_of_place first (place_in r i)) (λ same. ne (numbers_apart i n (omega (arith, h, below)) below same)) ∙ put.on i (omega (arith, h))
    ];
    small = λ i h. elim (cases_eq i n) [
      | inl e ↦ subst (λ (v : ℤ). unsigned_abs v < 2 ^ 60) (is ∙ ap values (sym e)) own
      | inr ne ↦ put.small i (omega (arith, h))
    ];
    off = λ k none. apart k (none n (omega arith)) ∙ put.off k (λ i h. none i (omega (arith, h)));
  }
    where
      number : index_of_place old (x, y) ≡ index_of_place first (place_in r n)
      number = ap (index_of_place old) there ∙ ap (λ (w : ℕ). (place_in r n).1 * w + (place_in r n).0) put.width

      here : line_of new.cells (index_of_place first (place_in r n)) ≡ z
      here = ap (line_of new.cells) (sym number) ∙ on

      apart : (k : ℕ) → k ≢ index_of_place first (place_in r n) → line_of new.cells k ≡ line_of old.cells k
      apart k other = off k (λ same. other (same ∙ number))

  pub all_put : (p : Parameters) (c : Component) (slice n : ℕ) (band : Lattice) → r ≡ lowest_rectangle p c slice → n ≡ area r → FirstPut r values first n band → Places p c slice values first band
  all_put p c slice n band is all put =
      let count : area (lowest_rectangle p c slice) ≡ n = sym (ap area is) ∙ sym all in
      record {
        width = put.width;
        height = put.height;
        on = λ i h. ap (λ (q : Rect). line_of band.cells (index_of_place first (place_in q i))) (sym is) ∙ put.on i (omega (arith, h, count));
        small = λ i h. put.small i (omega (arith, h, count));
        off = λ k none. put.off k (λ i h e. none i (omega (arith, h, count)) (e ∙ ap (λ (q : Rect). index_of_place first (place_in q i)) is));
      }

-- the same values
pub places_same : (p : Parameters) (c : Component) (slice : ℕ) (f g : ℕ → ℤ) (old new : Lattice)
    → ((i : ℕ) → i < area (lowest_rectangle p c slice) → f i ≡ g i) → Places p c slice f old new → Places p c slice g old new
places_same p c slice f g old new same placed = record {
  width = placed.width;
  height = placed.height;
  on = λ i h. placed.on i h ∙ same i h;
  small = λ i h. subst (λ (z : ℤ). unsigned_abs z < 2 ^ 60) (same i h) (placed.small i h);
  off = placed.off;
}
