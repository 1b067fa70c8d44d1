-- A picture's slices in cells: what one slice more changes, and what it leaves.
use Rattle.std.proofs.Common.{◌≡◌, ◌≢◌, ℕ, ◌+◌, ◌*◌, ◌<◌, ◌≤◌, Bool, true, false, List, length, replicate, ℤ, pos, Some, None, arith, refl, sym, ap, subst, ◌∙◌, inl, inr, slice_set, length-set}
use Rattle.std.specs.Prelude.{if◌then◌else◌, slice_index_or, Option}
use Rattle.std.specs.Option.{is_some, unwrap_or}
use Rattle.std.proofs.lemmas.Bool.{cases_lt, cases_eq}
use Rattle.std.proofs.lemmas.List.{ext_get_or, get_or-map, length-map, get_or_past, get_or-replicate, length-replicate, get_or-set_same, get_or-set_other}
use Rattle.std.proofs.lemmas.List.FromFn.{length-map-range_with_len, get_or-map-range_with_len}
use Rattle.vc_types.specs.declared.video.Component.{Component}
use Rattle.vc_types.specs.declared.video.Component.TheVariants.{Y, C1, C2}
use Rattle.vc_types.specs.Lifting.{line_of}
use Rattle.vc_types.specs.SliceCoefficients.{AreSliceCoefficients}
use Rattle.vc_types.specs.Slices.{Coefficients}
use Rattle.vc_types.specs.Subbands.{slice_count, slice_coefficient_count, padded_width, padded_height}
use Rattle.vc_types.specs.TransformParameters.{Parameters}
use Rattle.picture_build.specs.Kept.{PartPicture, HasAllSlices, slices_of, no_coefficients, kept_at, kept_of, kept_slice, kept_entry, kept_slices, IsKept, ChangesOnly, AreIn}
use Rattle.picture_build.proofs.PlacedNumbers.{kept_apart}

-- ---- what cells hold of a slice

-- a list that has these values is the one that is read from the cells
module _ (p : Parameters) (c : Component) (n : ℕ) (cells : List ℤ) where
  pub kept_of-length : length (kept_of p c n cells) ≡ slice_coefficient_count p c n
  kept_of-length = length-map-range_with_len (λ i. line_of cells (kept_at p c n i)) 0 (slice_coefficient_count p c n)

  pub kept_of-at : (i : ℕ) → i < slice_coefficient_count p c n → line_of (kept_of p c n cells) i ≡ line_of cells (kept_at p c n i)
  kept_of-at i h = get_or-map-range_with_len (λ i. line_of cells (kept_at p c n i)) 0 (slice_coefficient_count p c n) i i (pos 0) h (omega arith)

  pub kept_of-is : (zs : List ℤ) → length zs ≡ slice_coefficient_count p c n → ((i : ℕ) → i < slice_coefficient_count p c n → line_of cells (kept_at p c n i) ≡ line_of zs i) → kept_of p c n cells ≡ zs
  kept_of-is zs long at =
      let own = kept_of-length in
      ext_get_or (pos 0) (kept_of p c n cells) zs (own ∙ sym long)
      (λ i h. (let below : i < slice_coefficient_count p c n = omega (arith, own) in kept_of-at i below ∙ at i below))

-- ---- entries

module _ (p : Parameters) (y c1 c2 : List ℤ) where
  pub came_is : (came : List Bool) (n : ℕ) (entry : Bool) → slice_index_or came n false ≡ entry → kept_entry p came y c1 c2 n ≡ (if entry then Some (kept_slice p y c1 c2 n) else None)
  unfolding kept_entry
  came_is came n entry e = ap (λ (b : Bool). if b then Some (kept_slice p y c1 c2 n) else None) e

  pub entry_at : (came : List Bool) (n : ℕ) (d : Option Coefficients) → n < slice_count p → slice_index_or (kept_slices p came y c1 c2) n d ≡ kept_entry p came y c1 c2 n
  entry_at came n d h = get_or-map-range_with_len (kept_entry p came y c1 c2) 0 (slice_count p) n n d h (omega arith)

  pub entries_count : (came : List Bool) → length (kept_slices p came y c1 c2) ≡ slice_count p
  entries_count came = length-map-range_with_len (kept_entry p came y c1 c2) 0 (slice_count p)

  -- a list that has these entries
  pub entries_are : (came : List Bool) (slices : List (Option Coefficients)) → length slices ≡ slice_count p → ((n : ℕ) → n < slice_count p → kept_entry p came y c1 c2 n ≡ slice_index_or slices n None) → kept_slices p came y c1 c2 ≡ slices
  entries_are came slices long at =
      let own = entries_count came in
      ext_get_or None (kept_slices p came y c1 c2) slices (own ∙ sym long)
      (λ n h. (let below : n < slice_count p = omega (arith, own) in entry_at came n None below ∙ at n below))

  pub not_came : (came : List Bool) (n : ℕ) → kept_entry p came y c1 c2 n ≡ None → slice_index_or came n false ≡ false
  not_came came n none = by (slice_index_or came n false) refl
    where
      by : (entry : Bool) → slice_index_or came n false ≡ entry → entry ≡ false
      by true e = absurd (let some = sym (came_is came n true e) ∙ none in cc)
      by false e = refl

  none_came : (n m : ℕ) → slice_index_or (replicate n false) m false ≡ false
  none_came n m = elim (cases_lt m n) [
    | inl lt ↦ get_or-replicate n m false false lt
    | inr ge ↦ (let long = length-replicate n false in get_or_past (replicate n false) m false (omega (arith, long)))
  ]

  pub nothing_kept : (n : ℕ) → kept_slices p (replicate n false) y c1 c2 ≡ replicate (slice_count p) None
  nothing_kept n = entries_are (replicate n false) (replicate (slice_count p) None) (length-replicate (slice_count p) None)
      (λ m h. came_is (replicate n false) m false (none_came n m) ∙ sym (get_or-replicate (slice_count p) m None None h))

  pub has_slice : (came : List Bool) (n : ℕ) → length came ≡ slice_count p → is_some (slice_index_or (kept_slices p came y c1 c2) n None) ≡ slice_index_or came n false
  has_slice came n all = elim (cases_lt n (slice_count p)) [
    | inl lt ↦ ap is_some (entry_at came n None lt) ∙ by (slice_index_or came n false) refl
    | inr ge ↦ (let own = entries_count came in ap is_some (get_or_past (kept_slices p came y c1 c2) n None (omega (arith, own))) ∙ sym (get_or_past came n false (omega (arith, all))))
  ]
    where
      by : (entry : Bool) → slice_index_or came n false ≡ entry → is_some (kept_entry p came y c1 c2 n) ≡ slice_index_or came n false
      by true e = ap is_some (came_is came n true e) ∙ sym e
      by false e = ap is_some (came_is came n false e) ∙ sym e

pub kept_none : (p : Parameters) (y c1 c2 : List ℤ) (room n : ℕ) → n ≡ slice_count p
    → length y ≡ padded_height p Y * padded_width p Y → length c1 ≡ padded_height p C1 * padded_width p C1 → length c2 ≡ padded_height p C2 * padded_width p C2
    → ((c : Component) (n : ℕ) → n < slice_count p → slice_coefficient_count p c n + 8 ≤ room) → IsKept p (replicate n false) y c1 c2 room
kept_none p y c1 c2 room n all ly l1 l2 largest = record {
  entries = length-replicate n false ∙ all;
  y_cells = ly;
  c1_cells = l1;
  c2_cells = l2;
  sound = λ m e. absurd (let both = sym e ∙ none_came p y c1 c2 n m in cc);
  largest = largest;
}

-- ---- a slice more

module _ (p : Parameters) (some_across : 0 < p.slices_x) (some_down : 0 < p.slices_y) (came : List Bool) (y c1 c2 : List ℤ) (room : ℕ) (kept : IsKept p came y c1 c2 room)
    (n : ℕ) (numbered : n < slice_count p) (once : slice_index_or (kept_slices p came y c1 c2) n None ≡ None) where
  pub numbered_came : (m : ℕ) → slice_index_or came m false ≡ true → m < slice_count p
  numbered_came m e = elim (cases_lt m (slice_count p)) [
    | inl lt ↦ lt
    | inr ge ↦ absurd (let none = get_or_past came m false (omega (arith, kept.entries)) in let both = sym e ∙ none in cc)
  ]

  not_same : (m : ℕ) → slice_index_or came m false ≡ true → m ≢ n
  not_same m e same = (let none = not_came p y c1 c2 came n (sym (entry_at p y c1 c2 came n None numbered) ∙ once) in let both = sym e ∙ ap (λ (k : ℕ). slice_index_or came k false) same ∙ none in cc)

  -- another slice's cells of a component
  stays : (c : Component) (old new : List ℤ) → ChangesOnly p c n old new → (m : ℕ) → m < slice_count p → m ≢ n → kept_of p c m new ≡ kept_of p c m old
  stays c old new only m h other =
      kept_of-is p c m new (kept_of p c m old) (kept_of-length p c m old)
      (λ i below. only.others (kept_at p c m i) (λ j g e. other ((kept_apart p c some_across some_down m i n j h below numbered g e).0)) ∙ sym (kept_of-at p c m old i below))

  module _ (y2 c12 c22 : List ℤ) (ty : ChangesOnly p Y n y y2) (t1 : ChangesOnly p C1 n c1 c12) (t2 : ChangesOnly p C2 n c2 c22) where
    same_slice : (m : ℕ) → m < slice_count p → m ≢ n → kept_slice p y2 c12 c22 m ≡ kept_slice p y c1 c2 m
    same_slice m h other = cc_slice (stays Y y y2 ty m h other) (stays C1 c1 c12 t1 m h other) (stays C2 c2 c22 t2 m h other)
      where
        cc_slice : {a b d e f g : List ℤ} → a ≡ e → b ≡ f → d ≡ g → ◌≡◌ {A = Coefficients} (record { y = a; c1 = b; c2 = d }) (record { y = e; c1 = f; c2 = g })
        cc_slice h i j = cc

    -- the slice isn't there yet: nothing is seen of the change
    pub unseen : kept_slices p came y2 c12 c22 ≡ kept_slices p came y c1 c2
    unseen = entries_are p y2 c12 c22 came (kept_slices p came y c1 c2) (entries_count p y c1 c2 came) (λ m h. by m (slice_index_or came m false) refl ∙ sym (entry_at p y c1 c2 came m None h))
      where
        by : (m : ℕ) (entry : Bool) → slice_index_or came m false ≡ entry → kept_entry p came y2 c12 c22 m ≡ kept_entry p came y c1 c2 m
        by m true e = came_is p y2 c12 c22 came m true e ∙ ap (λ (s : Coefficients). Some s) (same_slice m (numbered_came m e) (not_same m e)) ∙ sym (came_is p y c1 c2 came m true e)
        by m false e = came_is p y2 c12 c22 came m false e ∙ sym (came_is p y c1 c2 came m false e)

    pub still_kept : IsKept p came y2 c12 c22 room
    still_kept = record {
      entries = kept.entries;
      y_cells = ty.length ∙ kept.y_cells;
      c1_cells = t1.length ∙ kept.c1_cells;
      c2_cells = t2.length ∙ kept.c2_cells;
      sound = λ m e. subst (AreSliceCoefficients p m) (sym (same_slice m (numbered_came m e) (not_same m e))) (kept.sound m e);
      largest = kept.largest;
    }

    module _ (s : Coefficients) (sound : AreSliceCoefficients p n s)
        (fy : (i : ℕ) → i < slice_coefficient_count p Y n → line_of y2 (kept_at p Y n i) ≡ line_of s.y i)
        (f1 : (i : ℕ) → i < slice_coefficient_count p C1 n → line_of c12 (kept_at p C1 n i) ≡ line_of s.c1 i)
        (f2 : (i : ℕ) → i < slice_coefficient_count p C2 n → line_of c22 (kept_at p C2 n i) ≡ line_of s.c2 i) where
      own_slice : kept_slice p y2 c12 c22 n ≡ s
      own_slice =
          ap (λ (zs : List ℤ). record { y = zs; c1 = kept_of p C1 n c12; c2 = kept_of p C2 n c22 }) (kept_of-is p Y n y2 s.y (sound.count Y) fy)
          ∙ ap (λ (zs : List ℤ). record { y = s.y; c1 = zs; c2 = kept_of p C2 n c22 }) (kept_of-is p C1 n c12 s.c1 (sound.count C1) f1)
          ∙ ap (λ (zs : List ℤ). record { y = s.y; c1 = s.c1; c2 = zs }) (kept_of-is p C2 n c22 s.c2 (sound.count C2) f2)

      within : n < length came
      within = omega (arith, kept.entries, numbered)

      pub one_more : kept_slices p (slice_set came n true) y2 c12 c22 ≡ slice_set (kept_slices p came y c1 c2) n (Some s)
      one_more =
          entries_are p y2 c12 c22 (slice_set came n true) (slice_set (kept_slices p came y c1 c2) n (Some s)) (length-set (kept_slices p came y c1 c2) n (Some s) ∙ entries_count p y c1 c2 came)
          (λ m h. elim (cases_eq m n) [
            | inl e ↦ (
                came_is p y2 c12 c22 (slice_set came n true) m true (ap (λ (k : ℕ). slice_index_or (slice_set came n true) k false) e ∙ get_or-set_same came n true false within)
                ∙ ap (λ (k : ℕ). Some (kept_slice p y2 c12 c22 k)) e ∙ ap (λ (t : Coefficients). Some t) own_slice
                ∙ sym (ap (λ (k : ℕ). slice_index_or (slice_set (kept_slices p came y c1 c2) n (Some s)) k None) e ∙ get_or-set_same (kept_slices p came y c1 c2) n (Some s) None (let own = entries_count p y c1 c2 came in omega (arith, own, numbered))))
            | inr ne ↦ (
                by m ne (slice_index_or came m false) refl
                ∙ sym (get_or-set_other (kept_slices p came y c1 c2) n m (Some s) None ne ∙ entry_at p y c1 c2 came m None h))
          ])
        where
          by : (m : ℕ) → m ≢ n → (entry : Bool) → slice_index_or came m false ≡ entry → kept_entry p (slice_set came n true) y2 c12 c22 m ≡ kept_entry p came y c1 c2 m
          by m ne true e =
              came_is p y2 c12 c22 (slice_set came n true) m true (get_or-set_other came n m true false ne ∙ e)
              ∙ ap (λ (t : Coefficients). Some t) (same_slice m (numbered_came m e) ne) ∙ sym (came_is p y c1 c2 came m true e)
          by m ne false e =
              came_is p y2 c12 c22 (slice_set came n true) m false (get_or-set_other came n m true false ne ∙ e) ∙ sym (came_is p y c1 c2 came m false e)

      pub kept_more : IsKept p (slice_set came n true) y2 c12 c22 room
      kept_more = record {
        entries = length-set came n true ∙ kept.entries;
        y_cells = ty.length ∙ kept.y_cells;
        c1_cells = t1.length ∙ kept.c1_cells;
        c2_cells = t2.length ∙ kept.c2_cells;
        sound = λ m e. elim (cases_eq m n) [
          | inl same ↦ subst (λ (k : ℕ). AreSliceCoefficients p k (kept_slice p y2 c12 c22 k)) (sym same) (subst (AreSliceCoefficients p n) (sym own_slice) sound)
          | inr ne ↦ (
              let before : slice_index_or came m false ≡ true = sym (get_or-set_other came n m true false ne) ∙ e in
              subst (AreSliceCoefficients p m) (sym (same_slice m (numbered_came m before) ne)) (kept.sound m before))
        ];
        largest = kept.largest;
      }

-- ---- all slices

module _ (p : Parameters) (came : List Bool) (y c1 c2 : List ℤ) (room : ℕ) (kept : IsKept p came y c1 c2 room)
    (picture : PartPicture) (is : picture ≡ record { parameters = p; slices = kept_slices p came y c1 c2 }) (whole : HasAllSlices picture) where
  entry : (n : ℕ) → n < slice_count p → slice_index_or came n false ≡ true
  entry n h =
      sym (has_slice p y c1 c2 came n kept.entries)
      ∙ (let all = subst HasAllSlices is whole in all n h)

  listed : (n : ℕ) (none : Coefficients) → n < slice_count p → slice_index_or (slices_of picture) n none ≡ kept_slice p y c1 c2 n
  listed n none h =
      let own = entries_count p y c1 c2 came in
      ap (λ (q : PartPicture). slice_index_or (slices_of q) n none) is
      ∙ get_or-map (λ (s : Option Coefficients). unwrap_or s no_coefficients) (kept_slices p came y c1 c2) n None none (omega (arith, own, h))
      ∙ ap (λ (o : Option Coefficients). unwrap_or o no_coefficients) (entry_at p y c1 c2 came n None h ∙ came_is p y c1 c2 came n true (entry n h))

  counted : length (slices_of picture) ≡ slice_count p
  counted =
      ap (λ (q : PartPicture). length (slices_of q)) is
      ∙ length-map (kept_slices p came y c1 c2) (λ (s : Option Coefficients). unwrap_or s no_coefficients) ∙ entries_count p y c1 c2 came

  all_sound : (n : ℕ) (none : Coefficients) → n < length (slices_of picture) → AreSliceCoefficients p n (slice_index_or (slices_of picture) n none)
  all_sound n none h =
      let below : n < slice_count p = omega (arith, counted) in
      subst (AreSliceCoefficients p n) (sym (listed n none below)) (kept.sound n (entry n below))

  pub y_in : AreIn p Y (slices_of picture) y
  y_in = record {
    count = counted;
    whole = all_sound;
    length = kept.y_cells;
    stand = λ n i none h below. sym (kept_of-at p Y n y i below) ∙ ap (λ (s : Coefficients). line_of s.y i) (sym (listed n none h));
  }

  pub c1_in : AreIn p C1 (slices_of picture) c1
  c1_in = record {
    count = counted;
    whole = all_sound;
    length = kept.c1_cells;
    stand = λ n i none h below. sym (kept_of-at p C1 n c1 i below) ∙ ap (λ (s : Coefficients). line_of s.c1 i) (sym (listed n none h));
  }

  pub c2_in : AreIn p C2 (slices_of picture) c2
  c2_in = record {
    count = counted;
    whole = all_sound;
    length = kept.c2_cells;
    stand = λ n i none h below. sym (kept_of-at p C2 n c2 i below) ∙ ap (λ (s : Coefficients). line_of s.c2 i) (sym (listed n none h));
  }
