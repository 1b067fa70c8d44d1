-- Pieces of samples that go out one after another.
use Rattle.std.proofs.Common.{◌≡◌, ℕ, ◌+◌, ◌<◌, Bool, List, ◌++◌, length, take, drop, get_or, Option, Result, Ok, Err, OnErr, arith, ◌∙◌, sym, ap, subst}
use Rattle.std.proofs.Math.Seq.{take-add}
use Rattle.std.proofs.lemmas.List.{take-append-drop, take_min, length-take, get_or_default}
use Rattle.std.proofs.lemmas.List.Concat.{flat_map-append}
use Rattle.vc_types.specs.RawFrames.{sample_bytes, samples_bytes, frame_bytes}
use Rattle.vc_ports.specs.Writing.{Grew, GrewBySome}
use Rattle.vc_ports.proofs.Growing.{Grew-then, GrewBySome-then, GrewBySome-front}
use Rattle.vc_types.specs.Planes.{Planes, no_plane}
use Rattle.vc_types.specs.Rasters.{Raster}

take_front : (count : ℕ) (xs : List ℕ) → take (length (take count xs)) xs ≡ take count xs
take_front count xs = ap (λ (n : ℕ). take n xs) (length-take count xs) ∙ take_min count xs

samples_bytes-append : (two : Bool) (first second : List ℕ) → samples_bytes two (first ++ second) ≡ samples_bytes two first ++ samples_bytes two second
samples_bytes-append two first second = flat_map-append (sample_bytes two) first second

-- the front of what is left, by its own length
pub taken : (samples rest piece : List ℕ) (at count : ℕ) → rest ≡ drop at samples → piece ≡ take count rest → piece ≡ take (length piece) (drop at samples)
taken samples rest piece at count p q =
    let front : piece ≡ take count (drop at samples) = q ∙ ap (take count) p in
    front ∙ sym (ap (λ (n : ℕ). take n (drop at samples)) (ap length front) ∙ take_front count (drop at samples))

module _ (two : Bool) (samples piece : List ℕ) (at count : ℕ) (before mid after : Option (List ℕ)) (is : piece ≡ take count (drop at samples)) (grew : Grew before mid (samples_bytes two (take at samples))) where
  -- a piece behind those that went out before
  pub piece_more : Grew mid after (samples_bytes two piece) → Grew before after (samples_bytes two (take (at + count) samples))
  piece_more more =
      subst (λ (l : List ℕ). Grew before after (samples_bytes two l)) (ap (λ (l : List ℕ). take at samples ++ l) is ∙ sym (take-add at count samples))
      (subst (Grew before after) (sym (samples_bytes-append two (take at samples) piece)) (Grew-then before mid after (samples_bytes two (take at samples)) (samples_bytes two piece) grew more))

  -- a part of a piece behind those that went out before
  pub piece_some : GrewBySome mid after (samples_bytes two piece) → GrewBySome before after (samples_bytes two samples)
  piece_some some =
      let last = drop count (drop at samples) in
      let whole : take at samples ++ (piece ++ last) ≡ samples =
      ap (λ (l : List ℕ). take at samples ++ (l ++ last)) is
      ∙ ap (λ (l : List ℕ). take at samples ++ l) (take-append-drop count (drop at samples))
      ∙ take-append-drop at samples in
      subst (λ (l : List ℕ). GrewBySome before after (samples_bytes two l)) whole
      (subst (GrewBySome before after) (sym (samples_bytes-append two (take at samples) (piece ++ last) ∙ ap (λ (l : List ℕ). samples_bytes two (take at samples) ++ l) (samples_bytes-append two piece last)))
      (GrewBySome-then before mid after (samples_bytes two (take at samples)) (samples_bytes two piece ++ samples_bytes two last) grew (GrewBySome-front mid after (samples_bytes two piece) (samples_bytes two last) some)))

-- ---- the three planes of a frame

-- what is read of a list of three planes
pub plane_at : (planes : List Raster) (i : ℕ) (plane : Raster) (samples : List ℕ) → length planes ≡ 3 → i < 3 → samples ≡ (get_or planes i plane).samples → samples ≡ (get_or planes i no_plane).samples
plane_at planes i plane samples three below same = same ∙ ap (λ (p : Raster). p.samples) (get_or_default planes i plane no_plane (omega arith))

module _ (two : Bool) (planes : Planes) (y c1 c2 : List ℕ) (same_y : y ≡ planes.y.samples) (same_c1 : c1 ≡ planes.c1.samples) (same_c2 : c2 ≡ planes.c2.samples) (before after : Option (List ℕ)) where
  whole_frame : samples_bytes two y ++ (samples_bytes two c1 ++ samples_bytes two c2) ≡ frame_bytes planes two
  unfolding frame_bytes
  whole_frame =
      ap (λ (l : List ℕ). samples_bytes two l ++ (samples_bytes two c1 ++ samples_bytes two c2)) same_y
      ∙ ap (λ (l : List ℕ). samples_bytes two planes.y.samples ++ (samples_bytes two l ++ samples_bytes two c2)) same_c1
      ∙ ap (λ (l : List ℕ). samples_bytes two planes.y.samples ++ (samples_bytes two planes.c1.samples ++ samples_bytes two l)) same_c2
      ∙ sym (samples_bytes-append two planes.y.samples (planes.c1.samples ++ planes.c2.samples)
      ∙ ap (λ (l : List ℕ). samples_bytes two planes.y.samples ++ l) (samples_bytes-append two planes.c1.samples planes.c2.samples))

  pub some_of_first : GrewBySome before after (samples_bytes two y) → GrewBySome before after (frame_bytes planes two)
  some_of_first some = subst (GrewBySome before after) whole_frame (GrewBySome-front before after (samples_bytes two y) (samples_bytes two c1 ++ samples_bytes two c2) some)

  module _ (mid : Option (List ℕ)) (first : Grew before mid (samples_bytes two y)) where
    pub some_of_second : GrewBySome mid after (samples_bytes two c1) → GrewBySome before after (frame_bytes planes two)
    some_of_second some = subst (GrewBySome before after) whole_frame (GrewBySome-then before mid after (samples_bytes two y) (samples_bytes two c1 ++ samples_bytes two c2) first (GrewBySome-front mid after (samples_bytes two c1) (samples_bytes two c2) some))

    module _ (next : Option (List ℕ)) (second : Grew mid next (samples_bytes two c1)) where
      pub some_of_third : GrewBySome next after (samples_bytes two c2) → GrewBySome before after (frame_bytes planes two)
      some_of_third some = subst (GrewBySome before after) whole_frame (GrewBySome-then before mid after (samples_bytes two y) (samples_bytes two c1 ++ samples_bytes two c2) first (GrewBySome-then mid next after (samples_bytes two c1) (samples_bytes two c2) second some))

      pub all_of_frame : Grew next after (samples_bytes two c2) → Grew before after (frame_bytes planes two)
      all_of_frame third = subst (Grew before after) whole_frame (Grew-then before mid after (samples_bytes two y) (samples_bytes two c1 ++ samples_bytes two c2) first (Grew-then mid next after (samples_bytes two c1) (samples_bytes two c2) second third))

-- what holds after an error holds of one
pub OnErr-from : {T E P : Type 0} (r : Result T E) → P → OnErr r P
OnErr-from (Ok x) p = tt
OnErr-from (Err e) p = p
