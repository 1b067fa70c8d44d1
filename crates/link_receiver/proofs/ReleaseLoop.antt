-- The releases of a call, one after another.
use Rattle.std.proofs.Common.{◌≡◌, ℕ, zero, suc, List, [], ◌++◌, Option, Some, None, refl, ap, sym, ◌∙◌, subst, append_assoc, append-nil, arith}
use Rattle.fill_model.proofs.Frames.{filled-append, filled-none, last-append, last-none}
use Rattle.fill_model.proofs.Runs.{no_frames, frames_on, frames_stop}
use Rattle.fill_model.specs.Filled.{filled_behind, last_frame}
use Rattle.fill_model.specs.ReleasedFrames.{released_frames, frames_up_to}
use Rattle.link_model.specs.Windows.{Releasable}
use Rattle.receiver_model.proofs.ReleaseSteps.{none_released}
use Rattle.receiver_model.specs.Receptions.{Reception}
use Rattle.receiver_model.specs.Releasing.{next_picture, releases_picture_of, freed_places, releases_up_to, bytes_up_to, book_count}
use Rattle.link_slices.proofs.Growing.{grows_twice, grows_none}
use Rattle.link_slices.specs.Calls.{freeing}
use Rattle.vc_ports.proofs.Growing.{Grew-none, Grew-then, GrewBySome-then, GrewBySome-front}
use Rattle.vc_ports.specs.Writing.{Grew, GrewBySome}
use Rattle.vc_slice.specs.Asked.{Told, Grows}
use Rattle.link_receiver.specs.Freeing.{freed_up_to}
use Rattle.link_receiver.specs.Released.{AreReleased}
use Rattle.link_pictures.specs.Outputs.{released_output, written_behind_picture, output_up_to, written_behind_up_to}
use Rattle.link_pictures.specs.Receiving.{streams_up_to, streamed_up_to}
use Rattle.link_pictures.specs.declared.written.Written.{Written}
use Rattle.link_pictures.specs.declared.written.Written.TheVariants.{Frames, Filled, Units}

-- so many releases are left of a call, of which some were made
pub record IsReleasing (n left : ℕ) (first now : Reception)
    (written_first written : Written) (held_first held : Option (List ℕ))
    (told_first told : Option Told) : Type 0 where
  pub value : releases_up_to left now ≡ releases_up_to n first
  pub kept : written_behind_up_to written left now ≡ written_behind_up_to written_first n first
  pub bytes : List ℕ
  pub grew : Grew held_first held bytes
  pub others : bytes ++ output_up_to written left now ≡ output_up_to written_first n first
  pub freed : List ℕ
  pub grows : Grows told_first told (freeing freed)
  pub places : freed ++ freed_up_to left now ≡ freed_up_to n first

module _ (now : Reception) (picture : Releasable) (next : next_picture now ≡ Some picture)
    (k : ℕ) where
  next_value : releases_up_to (suc k) now ≡ releases_up_to k (releases_picture_of now picture)
  unfolding releases_up_to
  next_value = rw next refl

  next_bytes : (written : Written) → output_up_to written (suc k) now
      ≡ released_output written now picture
      ++ output_up_to (written_behind_picture written now picture) k (releases_picture_of now picture)
  unfolding bytes_up_to streamed_up_to
  next_bytes Frames = rw next refl
  next_bytes (Filled last) =
      ap (filled_behind last) (frames_on k now picture next)
      ∙ filled-append last (released_frames now picture)
      (frames_up_to k (releases_picture_of now picture))
  next_bytes (Units w) = rw next refl

  next_written : (written : Written) → written_behind_up_to written (suc k) now
      ≡ written_behind_up_to (written_behind_picture written now picture) k
      (releases_picture_of now picture)
  unfolding streams_up_to
  next_written Frames = refl
  next_written (Filled last) = ap Filled
      (ap (last_frame last) (frames_on k now picture next)
      ∙ last-append last (released_frames now picture)
      (frames_up_to k (releases_picture_of now picture)))
  next_written (Units w) = rw next refl

  next_freed : freed_up_to (suc k) now
      ≡ freed_places now picture.number ++ freed_up_to k (releases_picture_of now picture)
  unfolding freed_up_to
  next_freed = rw next refl

module _ (now : Reception) (none : next_picture now ≡ None) where
  none_value : (k : ℕ) → releases_up_to k now ≡ now
  unfolding releases_up_to
  none_value zero = refl
  none_value (suc k) = rw none refl

  none_bytes : (written : Written) (k : ℕ) → output_up_to written k now ≡ []
  unfolding bytes_up_to streamed_up_to
  none_bytes Frames zero = refl
  none_bytes Frames (suc k) = rw none refl
  none_bytes (Filled last) k =
      ap (filled_behind last) (frames_stop k now none) ∙ filled-none last
  none_bytes (Units w) zero = refl
  none_bytes (Units w) (suc k) = rw none refl

  none_written : (written : Written) (k : ℕ) → written_behind_up_to written k now ≡ written
  unfolding streams_up_to
  none_written Frames k = refl
  none_written (Filled last) k =
      ap Filled (ap (last_frame last) (frames_stop k now none) ∙ last-none last)
  none_written (Units w) zero = refl
  none_written (Units w) (suc k) = rw none refl

  none_freed : (k : ℕ) → freed_up_to k now ≡ []
  unfolding freed_up_to
  none_freed zero = refl
  none_freed (suc k) = rw none refl

last_bytes : (written : Written) (now : Reception) → output_up_to written 0 now ≡ []
unfolding bytes_up_to streamed_up_to
last_bytes Frames now = refl
last_bytes (Filled last) now = ap (filled_behind last) (no_frames now) ∙ filled-none last
last_bytes (Units w) now = refl

last_written : (written : Written) (now : Reception)
    → written_behind_up_to written 0 now ≡ written
unfolding streams_up_to
last_written Frames now = refl
last_written (Filled last) now =
    ap Filled (ap (last_frame last) (no_frames now) ∙ last-none last)
last_written (Units w) now = refl

last_freed : (now : Reception) → freed_up_to 0 now ≡ []
unfolding freed_up_to
last_freed now = refl

pub releasing_begins : {n left : ℕ} → left ≡ n → (r : Reception) (written : Written)
    (held : Option (List ℕ)) (told : Option Told)
    → IsReleasing n left r r written written held held told told
releasing_begins e r written held told = rw e (record {
  value = refl;
  kept = refl;
  bytes = [];
  grew = Grew-none held;
  others = refl;
  freed = [];
  grows = grows_none told;
  places = refl;
})

module _ {n left k : ℕ} {first now : Reception} {written_first written : Written}
    {held_first held : Option (List ℕ)} {told_first told : Option Told} (one_left : left ≡ suc k)
    (so_far : IsReleasing n left first now written_first written held_first held told_first told)
    (picture : Releasable) (next : next_picture now ≡ Some picture) where
  p : IsReleasing n (suc k) first now written_first written held_first held told_first told
  p = rw one_left at so_far

  abbrev bytes : List ℕ
  bytes = released_output written now picture

  abbrev then : Reception
  then = releases_picture_of now picture

  abbrev behind_it : Written
  behind_it = written_behind_picture written now picture

  pub releasing_goes_on : (behind : Reception) (written_later : Written)
      (held_behind : Option (List ℕ)) (told_behind : Option Told)
      → behind ≡ then → written_later ≡ behind_it
      → Grew held held_behind bytes
      → Grows told told_behind (freeing (freed_places now picture.number))
      → IsReleasing n k first behind written_first written_later held_first held_behind told_first
      told_behind
  releasing_goes_on behind written_later held_behind told_behind e s grew grows = record {
    value = ap (releases_up_to k) e ∙ sym (next_value now picture next k) ∙ p.value;
    kept = ap (λ (o : Written). written_behind_up_to o k behind) s
        ∙ ap (written_behind_up_to behind_it k) e
        ∙ sym (next_written now picture next k written) ∙ p.kept;
    bytes = p.bytes ++ bytes;
    grew = Grew-then held_first held held_behind p.bytes bytes p.grew grew;
    others = append_assoc p.bytes bytes (output_up_to written_later k behind)
        ∙ ap (λ (o : Written). p.bytes ++ (bytes ++ output_up_to o k behind)) s
        ∙ ap (λ (r : Reception). p.bytes ++ (bytes ++ output_up_to behind_it k r)) e
        ∙ ap (λ (l : List ℕ). p.bytes ++ l) (sym (next_bytes now picture next k written)) ∙ p.others;
    freed = p.freed ++ freed_places now picture.number;
    grows = grows_twice told_first told told_behind (freeing p.freed)
        (freeing (freed_places now picture.number)) p.grows grows;
    places = append_assoc p.freed (freed_places now picture.number) (freed_up_to k behind)
        ∙ ap (λ (r : Reception). p.freed ++ (freed_places now picture.number ++ freed_up_to k r)) e
        ∙ ap (λ (l : List ℕ). p.freed ++ l) (sym (next_freed now picture next k)) ∙ p.places;
  }

  pub releasing_fails : (held_behind : Option (List ℕ))
      → GrewBySome held held_behind bytes
      → GrewBySome held_first held_behind (output_up_to written_first n first)
  releasing_fails held_behind some = subst (GrewBySome held_first held_behind)
      (ap (λ (l : List ℕ). p.bytes ++ l) (sym (next_bytes now picture next k written)) ∙ p.others)
      (GrewBySome-then held_first held held_behind p.bytes
      (bytes ++ output_up_to behind_it k then) p.grew
      (GrewBySome-front held held_behind bytes (output_up_to behind_it k then) some))

-- the releases are done
module _ {left : ℕ} {first now : Reception} {written_first written : Written}
    {held_first held : Option (List ℕ)} {told_first told : Option Told}
    (p : IsReleasing (book_count first) left first now written_first written held_first held
    told_first told) where
  abbrev Released : Type 0
  Released = AreReleased told_first told held_first held written_first written first now

  done : releases_up_to left now ≡ now → written_behind_up_to written left now ≡ written
      → output_up_to written left now ≡ [] → freed_up_to left now ≡ [] → Released
  done e s b f = grind (arith, append-nil)

  pub releasing_stops : next_picture now ≡ None → Released
  releasing_stops none = done (none_value now none left) (none_written now none written left)
      (none_bytes now none written left) (none_freed now none left)

  pub releasing_ends : left ≡ 0 → Released
  releasing_ends e = grind (arith, done, none_released, last_written, last_bytes, last_freed)
