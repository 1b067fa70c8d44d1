-- What is written of one release after another, and that nothing is once the next session opened.
use Rattle.std.proofs.Common.{◌≡◌, ℕ, zero, suc, Bool, true, refl, ap, ◌∙◌}
use Rattle.std.proofs.Common.{List, [], ◌++◌, Option, Some, None, cond, arith}
use Rattle.std.specs.Option.{option_map_or}
use Rattle.link_model.specs.Windows.{Releasable}
use Rattle.receiver_model.specs.Receptions.{Reception}
use Rattle.receiver_model.specs.Releasing.{next_picture, releases_picture_of}
use Rattle.link_pictures.specs.Writing.{WrittenStream, ReleasedPicture, writes_picture}
use Rattle.link_pictures.specs.Writing.{picture_bytes, behind_picture, released_pictures, bytes_next}
use Rattle.link_pictures.specs.Receiving.{streams_picture, streamed_bytes, streams_up_to}
use Rattle.link_pictures.specs.Receiving.{streamed_up_to}

pub none_streamed : (r : Reception) (w : WrittenStream) → streams_up_to 0 r w ≡ w
unfolding streams_up_to
none_streamed r w = refl

pub no_bytes : (r : Reception) (w : WrittenStream) → streamed_up_to 0 r w ≡ []
unfolding streamed_up_to
no_bytes r w = refl

-- ---- the next one, and then the rest

module _ (k : ℕ) (r : Reception) (w : WrittenStream) (picture : Releasable)
    (is : next_picture r ≡ Some picture) where
  pub stream_on : streams_up_to (suc k) r w
      ≡ streams_up_to k (releases_picture_of r picture) (streams_picture r picture w)
  unfolding streams_up_to
  stream_on = ap (λ (o : Option Releasable). option_map_or (λ picture.
      streams_up_to k (releases_picture_of r picture) (streams_picture r picture w)) o w) is

  pub bytes_on : streamed_up_to (suc k) r w ≡ streamed_bytes r picture w
      ++ streamed_up_to k (releases_picture_of r picture) (streams_picture r picture w)
  unfolding streamed_up_to
  bytes_on = ap (λ (o : Option Releasable). option_map_or (λ picture. streamed_bytes r picture w
      ++ streamed_up_to k (releases_picture_of r picture) (streams_picture r picture w)) o []) is

-- ---- none is next

pub stream_stops : (k : ℕ) (r : Reception) (w : WrittenStream) → next_picture r ≡ None
    → streams_up_to k r w ≡ w
unfolding streams_up_to
stream_stops k r w none = grind arith

pub bytes_stop : (k : ℕ) (r : Reception) (w : WrittenStream) → next_picture r ≡ None
    → streamed_up_to k r w ≡ []
unfolding streamed_up_to
bytes_stop k r w none = grind arith

-- ---- once the next session has opened

module _ (w : WrittenStream) (over : w.is_over ≡ true) where
  writes_none : (p : ReleasedPicture) → writes_picture w p ≡ w
  unfolding writes_picture
  writes_none p = ap (λ (b : Bool). cond b w (behind_picture w p)) over

  no_picture_bytes : (p : ReleasedPicture) → picture_bytes w p ≡ []
  unfolding picture_bytes
  no_picture_bytes p = ap (λ (b : Bool). cond b [] (bytes_next w (released_pictures w p))) over

  over_picture : (r : Reception) (picture : Releasable) → streams_picture r picture w ≡ w
  over_picture r picture = grind (arith, writes_none)

  over_bytes : (r : Reception) (picture : Releasable) → streamed_bytes r picture w ≡ []
  over_bytes r picture = grind (arith, no_picture_bytes)

  pub over_stays : (k : ℕ) (r : Reception) → streams_up_to k r w ≡ w
  over_stays zero r = none_streamed r w
  over_stays (suc k) r = by_next (next_picture r) refl (λ v. over_stays k v)
    where
      by_next : (o : Option Releasable) → next_picture r ≡ o
          → ((v : Reception) → streams_up_to k v w ≡ w) → streams_up_to (suc k) r w ≡ w
      by_next None is rest = stream_stops (suc k) r w is
      by_next (Some picture) is rest = stream_on k r w picture is
          ∙ ap (streams_up_to k (releases_picture_of r picture)) (over_picture r picture)
          ∙ rest (releases_picture_of r picture)

  pub over_writes_nothing : (k : ℕ) (r : Reception) → streamed_up_to k r w ≡ []
  over_writes_nothing zero r = no_bytes r w
  over_writes_nothing (suc k) r = by_next (next_picture r) refl (λ v. over_writes_nothing k v)
    where
      by_next : (o : Option Releasable) → next_picture r ≡ o
          → ((v : Reception) → streamed_up_to k v w ≡ []) → streamed_up_to (suc k) r w ≡ []
      by_next None is rest = bytes_stop (suc k) r w is
      by_next (Some picture) is rest = bytes_on k r w picture is
          ∙ ap (λ (l : List ℕ). l ++ streamed_up_to k (releases_picture_of r picture)
          (streams_picture r picture w)) (over_bytes r picture)
          ∙ ap (streamed_up_to k (releases_picture_of r picture)) (over_picture r picture)
          ∙ rest (releases_picture_of r picture)
