-- The frames that raw bytes hold have the settings' sizes, and their raw bytes are these bytes.
use Rattle.std.proofs.Common.{◌≡◌, ◌<◌, ℕ, ◌+◌, ◌-◌, ◌*◌, Bool, true, false, cond, List, [], ◌∷◌, ◌++◌, length, take, drop, map, None, refl, sym, ap, subst, ◌∙◌, arith, All, length-drop, length-take-le}
use Rattle.std.specs.List.{concat}
use Rattle.std.proofs.lemmas.List.Concat.{flat_map-cons}
use Rattle.std.proofs.lemmas.List.Elements.{All-head, All-map, All-tail, All-weaker}
use Rattle.cmd_send.specs.FramesSent.{frame_shape}
use Rattle.cmd_send.proofs.FrameSizes.{sized}
use Rattle.field_pairs.specs.Sizes.{AreWhole}
use Rattle.frame_writer.specs.FrameBytes.{frame_length, frame_of_bytes, plane_length, sample_count, samples_of_bytes}
use Rattle.frame_writer.specs.WholeFrames.{HoldFrames}
use Rattle.frame_writer.proofs.Holding.{bytes_are}
use Rattle.frame_writer.proofs.ReadBack.{frame_back}
use Rattle.link_laws.specs.IndexZero.{raw_frame, raw_video}
use Rattle.link_laws.proofs.Among.{All-back, All-front}
use Rattle.link_model.specs.SendingPictures.{IsFrame, sent_sequence}
use Rattle.vc_types.specs.declared.shape.Shape.{Shape}
use Rattle.vc_types.specs.declared.video.Component.TheVariants.{C1, Y}
use Rattle.vc_types.specs.Planes.{Planes}
use Rattle.vc_types.specs.RawFrames.{frame_bytes, is_wide}
use Rattle.vc_types.specs.SenderSettings.{Sending}
use Rattle.vc_types.specs.SequenceHeader.{picture_shape}

-- ---- a plane has all its samples

wide_many : (n : ℕ) (bytes : List ℕ) → length bytes ≡ 2 * n → length (samples_of_bytes true bytes) ≡ n
unfolding samples_of_bytes
wide_many n [] long = omega (arith, long)
wide_many n (low ∷ []) long = absurd (omega (arith, long))
wide_many n (low ∷ high ∷ bytes) long = omega (arith, long, wide_many (n - 1) bytes (omega (arith, long)))

module _ (shape : Shape) where
  abbrev many : Bool → ℕ → ℕ
  many true n = 2 * n
  many false n = n

  samples_many : (wide : Bool) (n : ℕ) (bytes : List ℕ) → length bytes ≡ many wide n → length (samples_of_bytes wide bytes) ≡ n
  unfolding samples_of_bytes
  samples_many true n bytes long = wide_many n bytes long
  samples_many false n bytes long = long

  as_many : (wide : Bool) (n : ℕ) → many wide n ≡ cond wide (2 * n) n
  as_many wide n = grind arith

  three : (wide : Bool) (luma colour : ℕ) → cond wide (2 * (luma + (colour + colour))) (luma + (colour + colour)) ≡ cond wide (2 * luma) luma + (cond wide (2 * colour) colour + cond wide (2 * colour) colour)
  three wide luma colour = grind arith

  module _ (bytes : List ℕ) (long : length bytes ≡ frame_length shape) where
    abbrev luma : ℕ
    luma = plane_length shape Y

    abbrev colour : ℕ
    colour = plane_length shape C1

    abbrev behind : List ℕ
    behind = drop luma bytes

    sum : length bytes ≡ luma + (colour + colour)
    sum = long ∙ three (is_wide shape) (sample_count shape Y) (sample_count shape C1)

    long_behind : length behind ≡ colour + colour
    long_behind = length-drop luma bytes ∙ omega (arith, sum)

    pub are_whole : AreWhole (frame_of_bytes shape bytes)
    unfolding frame_of_bytes
    are_whole = record {
      y = samples_many (is_wide shape) (sample_count shape Y) (take luma bytes) (length-take-le luma bytes (omega (arith, sum)) ∙ sym (as_many (is_wide shape) (sample_count shape Y)));
      c1 = samples_many (is_wide shape) (sample_count shape C1) (take colour behind) (length-take-le colour behind (omega (arith, long_behind)) ∙ sym (as_many (is_wide shape) (sample_count shape C1)));
      c2 = samples_many (is_wide shape) (sample_count shape C1) (drop colour behind) (length-drop colour behind ∙ omega (arith, long_behind) ∙ sym (as_many (is_wide shape) (sample_count shape C1)));
    }

-- ---- frames, one after another

module _ (s : Sending) where
  abbrev shape : Shape
  shape = frame_shape s

  abbrev frame_of : List ℕ → Planes
  frame_of piece = frame_of_bytes shape piece

  abbrev IsLong : List ℕ → Type 0
  IsLong piece = length piece ≡ frame_length shape

  has_sizes : (piece : List ℕ) → IsLong piece → IsFrame s (frame_of piece)
  has_sizes piece long = sized s shape (frame_of piece) None None refl (record { bytes = piece; whole = long; gave = refl; frame_is = refl })

  as_wide : is_wide (picture_shape (sent_sequence s)) ≡ is_wide shape
  unfolding picture_shape
  as_wide = refl

  abbrev AreBytes : List ℕ → Type 0
  AreBytes bytes = All (λ byte. byte < 256) bytes

  raw_back : (pieces : List (List ℕ)) → All IsLong pieces → AreBytes (concat pieces) → raw_video s (map frame_of pieces) ≡ concat pieces
  raw_back [] long are = refl
  raw_back (piece ∷ pieces) long are =
      let own = frame_back shape piece (All-head IsLong piece pieces long) (All-front (λ byte. byte < 256) piece (concat pieces) are) in
      let raw : raw_frame s (frame_of piece) ≡ piece = ap (frame_bytes (frame_of piece)) as_wide ∙ own in
      let rest = raw_back pieces (All-tail IsLong piece pieces long) (All-back (λ byte. byte < 256) piece (concat pieces) are) in
      flat_map-cons (raw_frame s) (frame_of piece) (map frame_of pieces) ∙ (λ i. raw i ++ rest i)

  module _ (bytes : List ℕ) (frames : List Planes) (holds : HoldFrames shape bytes frames []) where
    pub all_sized : All (IsFrame s) frames
    all_sized = subst (λ (l : List Planes). All (IsFrame s) l) (sym holds.frames_are)
        (All-map (IsFrame s) frame_of holds.pieces (All-weaker IsLong (λ piece. IsFrame s (frame_of piece)) has_sizes holds.pieces holds.whole))

    pub all_whole : All AreWhole frames
    all_whole = subst (λ (l : List Planes). All AreWhole l) (sym holds.frames_are)
        (All-map AreWhole frame_of holds.pieces (All-weaker IsLong (λ piece. AreWhole (frame_of piece)) (are_whole shape) holds.pieces holds.whole))

    pub raw_is : AreBytes bytes → raw_video s frames ≡ bytes
    raw_is are =
        let is = bytes_are shape bytes frames holds in
        ap (raw_video s) holds.frames_are ∙ raw_back holds.pieces holds.whole (subst AreBytes is are) ∙ sym is
