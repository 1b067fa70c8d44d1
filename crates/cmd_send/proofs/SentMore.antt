-- The datagrams of frames, and those of one frame more.
use Rattle.std.proofs.Common.{◌≡◌, ℕ, suc, ◌+◌, ◌*◌, List, [], ◌∷◌, ◌++◌, length, take, drop, map, arith, refl, ap, sym, ◌∙◌, append_assoc, append-nil}
use Rattle.std.specs.List.{flat_map, enumerate_from}
use Rattle.std.proofs.Math.Seq.{take-append_seam, drop-append_seam, take-length}
use Rattle.std.proofs.lemmas.Grind.{common_steps}
use Rattle.std.proofs.lemmas.List.{length-map}
use Rattle.std.proofs.lemmas.List.FromFn.{length-range_with_len}
use Rattle.std.proofs.lemmas.List.Concat.{flat_map-cons, flat_map-append}
use Rattle.link_model.specs.Sending.{Outgoing, outgoing, HeaderContent, ParametersContent, SlicesContent, runs_of_slices, picture_outgoing, pictures_outgoing, datagrams_from, sent_datagram, sent_datagrams, frames_outgoing, frames_indices, frame_datagrams, pictures_of, pictures_per_frame}
use Rattle.link_model.specs.SendingPictures.{sent_parameters, sent_slices, sent_slice, slice_room, chosen_indices, picture_needs}
use Rattle.vc_types.specs.Planes.{Planes}
use Rattle.vc_types.specs.SenderSettings.{Sending}
use Rattle.vc_types.specs.Subbands.{slice_count}
use Rattle.vc_types.specs.TransformParameters.{Parameters}
use Rattle.cmd_send.specs.FramesSent.{frame_indices, frames_sent}

-- how many slices a picture has
abbrev slices : Sending → ℕ
slices s = slice_count (sent_parameters s)

length-chosen : (s : Sending) (planes : Planes) → length (chosen_indices s planes) ≡ slices s
unfolding chosen_indices picture_needs
length-chosen s planes = length-map _ _ ∙ length-map _ _ ∙ length-range_with_len 0 (slices s)

-- ---- one picture, whose indices stand before others

module _ (n : ℕ) (front more : List ℕ) (long : length front ≡ n) where
  take-front : take n (front ++ more) ≡ front
  take-front = ap (λ (k : ℕ). take k (front ++ more)) (sym long) ∙ take-append_seam front more

  take-all : take n front ≡ front
  take-all = ap (λ (k : ℕ). take k front) (sym long) ∙ take-length front

  drop-front : drop n (front ++ more) ≡ more
  drop-front = ap (λ (k : ℕ). drop k (front ++ more)) (sym long) ∙ drop-append_seam front more

slices-front : (p : Parameters) (planes : Planes) (front more : List ℕ) → length front ≡ slice_count p → sent_slices p planes (front ++ more) ≡ sent_slices p planes front
unfolding sent_slices
slices-front p planes front more long =
    ap (λ (l : List ℕ). map (λ z. sent_slice p planes z.0 z.1) (enumerate_from 0 l)) (take-front (slice_count p) front more long ∙ sym (take-all (slice_count p) front more long))

outgoing-front : (s : Sending) (k : ℕ) (planes : Planes) (front more : List ℕ) → length front ≡ slices s → picture_outgoing s k (front ++ more) planes ≡ picture_outgoing s k front planes
unfolding picture_outgoing
outgoing-front s k planes front more long =
    ap (λ (l : List (List ℕ)). map (outgoing k) (HeaderContent ∷ ParametersContent ∷ map SlicesContent (runs_of_slices (slice_room s) l))) (slices-front (sent_parameters s) planes front more long)

first-outgoing : (s : Sending) (k : ℕ) (planes : Planes) (pictures : List Planes) (front more : List ℕ) → length front ≡ slices s
    → pictures_outgoing s k (front ++ more) (planes ∷ pictures) ≡ picture_outgoing s k front planes ++ pictures_outgoing s (k + 1) more pictures
unfolding pictures_outgoing
first-outgoing s k planes pictures front more long =
    ap (λ (l : List Outgoing). l ++ pictures_outgoing s (k + 1) (drop (slices s) (front ++ more)) pictures) (outgoing-front s k planes front more long)
    ∙ ap (λ (l : List ℕ). picture_outgoing s k front planes ++ pictures_outgoing s (k + 1) l pictures) (drop-front (slices s) front more long)

-- ---- pictures at their chosen indices, and others behind them

abbrev chosen : Sending → List Planes → List ℕ
chosen s pictures = flat_map (chosen_indices s) pictures

no-pictures : (s : Sending) (k : ℕ) → pictures_outgoing s k [] [] ≡ []
unfolding pictures_outgoing
no-pictures s k = refl

pub pictures-more : (s : Sending) (k : ℕ) (pictures others : List Planes) (indices : List ℕ)
    → pictures_outgoing s k (chosen s pictures ++ indices) (pictures ++ others)
    ≡ pictures_outgoing s k (chosen s pictures) pictures ++ pictures_outgoing s (k + length pictures) indices others
pictures-more s k [] others indices = grind (arith, no-pictures s k)
pictures-more s k (planes ∷ pictures) others indices =
    let front = chosen_indices s planes in
    let behind = chosen s pictures in
    let long = length-chosen s planes in
    grind (arith, flat_map-cons, append_assoc, first-outgoing s k planes (pictures ++ others) front (behind ++ indices) long, first-outgoing s k planes pictures front behind long, pictures-more s (k + 1) pictures others indices)

-- ---- sequence numbers

pub datagrams-cons : (s : Sending) (a : ℕ) (o : Outgoing) (os : List Outgoing) → datagrams_from s a (o ∷ os) ≡ sent_datagram s a o ∷ datagrams_from s (a + 1) os
unfolding datagrams_from
datagrams-cons s a o os = refl

no-datagrams : (s : Sending) (a : ℕ) → datagrams_from s a [] ≡ []
unfolding datagrams_from
no-datagrams s a = refl

pub length-datagrams : (s : Sending) (a : ℕ) (os : List Outgoing) → length (datagrams_from s a os) ≡ length os
length-datagrams s a [] = ap length (no-datagrams s a)
length-datagrams s a (o ∷ os) = ap length (datagrams-cons s a o os) ∙ ap suc (length-datagrams s (a + 1) os)

pub datagrams-append : (s : Sending) (a : ℕ) (os others : List Outgoing) → datagrams_from s a (os ++ others) ≡ datagrams_from s a os ++ datagrams_from s (a + length os) others
datagrams-append s a [] others = grind (arith, no-datagrams s a)
datagrams-append s a (o ∷ os) others = grind (arith, datagrams-cons, datagrams-append s (a + 1) os others)

-- ---- frames

length-pictures : (s : Sending) (frame : Planes) → length (pictures_of s frame) ≡ pictures_per_frame s
unfolding pictures_of
length-pictures s frame = grind (arith, common_steps)

pub length-all_pictures : (s : Sending) (frames : List Planes) → length (flat_map (pictures_of s) frames) ≡ length frames * pictures_per_frame s
length-all_pictures s [] = omega arith
length-all_pictures s (frame ∷ frames) = grind (arith, common_steps, flat_map-cons, length-pictures s frame, length-all_pictures s frames)

one_frame : {A : Type 0} (f : Planes → List A) (frame : Planes) → flat_map f (frame ∷ []) ≡ f frame
one_frame f frame = flat_map-cons f frame [] ∙ append-nil (f frame)

abbrev all_pictures : Sending → List Planes → List Planes
all_pictures s frames = flat_map (pictures_of s) frames

pictures-append : (s : Sending) (frames : List Planes) (frame : Planes) → all_pictures s (frames ++ frame ∷ []) ≡ all_pictures s frames ++ pictures_of s frame
pictures-append s frames frame =
    flat_map-append (pictures_of s) frames (frame ∷ [])
    ∙ ap (λ (l : List Planes). all_pictures s frames ++ l) (one_frame (pictures_of s) frame)

-- what is sent of frames, and of one frame more
outgoing-more : (s : Sending) (frames : List Planes) (frame : Planes)
    → frames_outgoing s (frames_indices s (frames ++ frame ∷ [])) (frames ++ frame ∷ [])
    ≡ frames_outgoing s (frames_indices s frames) frames
    ++ pictures_outgoing s (length frames * pictures_per_frame s) (frame_indices s frame) (pictures_of s frame)
unfolding frames_indices
outgoing-more s frames frame =
    grind (arith, common_steps, pictures-append, flat_map-append, pictures-more, length-all_pictures)

-- how many datagrams frames have
pub length-frames_sent : (s : Sending) (frames : List Planes) → length (frames_sent s frames) ≡ length (frames_outgoing s (frames_indices s frames) frames)
unfolding sent_datagrams
length-frames_sent s frames = length-datagrams s s.seq (frames_outgoing s (frames_indices s frames) frames)

-- a frame's datagrams behind those of the frames before
pub frames_sent-more : (s : Sending) (frames : List Planes) (frame : Planes)
    → frames_sent s (frames ++ frame ∷ []) ≡ frames_sent s frames ++ frame_datagrams s (length frames) (s.seq + length (frames_sent s frames)) (frame_indices s frame) frame
unfolding sent_datagrams frame_datagrams
frames_sent-more s frames frame =
    grind (arith, common_steps, outgoing-more, datagrams-append, length-frames_sent)
