-- A frame whose planes are taken one after another: whole, or up to the end or a fault of the source.
use Rattle.std.proofs.Common.{◌≡◌, ℕ, ◌+◌, ◌*◌, ◌<◌, ◌≤◌, Bool, true, false, List, ◌++◌, length, take, drop, Option, Result, Err, refl, subst, ap, sym, ◌∙◌, arith}
use Rattle.std.specs.Prelude.{IsTrue, nat_le}
use Rattle.std.proofs.lemmas.Bool.{and_parts, leb-true}
use Rattle.std.proofs.lemmas.Grind.{common_steps}
use Rattle.std.proofs.lemmas.List.{length-append}
use Rattle.std.proofs.Math.Nat.{le-mul_of_pos_right}
use Rattle.std.proofs.Math.Seq.{take-append_seam, drop-append_seam}
use Rattle.vc_ports.specs.Reading.{Gave}
use Rattle.vc_ports.proofs.Given.{Gave-then, GaveAll-then}
use Rattle.vc_types.specs.declared.shape.Shape.{Shape}
use Rattle.vc_types.specs.declared.video.Component.TheVariants.{Y, C1}
use Rattle.vc_types.specs.Limits.{shape_fits}
use Rattle.vc_types.specs.RawFrames.{is_wide}
use Rattle.vc_types.specs.Video.{side_fits}
use Rattle.frame_writer.proofs.ReadBack.{lens}
use Rattle.frame_writer.specs.FrameBytes.{frame_of_bytes, planes_of_bytes, frame_length, length_in, sample_count, samples_of_bytes}
use Rattle.frame_writer.specs.Memory.{planes_with}
use Rattle.frame_writer.specs.Reading.{GaveFrame, GaveCutFrame, GavePartOfFrame, ReadsFrame}
use Rattle.frame_writer.specs.Taking.{GaveSamples, GaveFewer, GaveLast, Takes, read_fault_of}
use Rattle.frame_writer.specs.declared.taking.Short.{Short}
use Rattle.frame_writer.specs.declared.taking.Short.TheVariants.{End, Failed}

pub front : (n : ℕ) (first second : List ℕ) → length first ≡ n → take n (first ++ second) ≡ first
front n first second long = ap (λ (k : ℕ). take k (first ++ second)) (sym long) ∙ take-append_seam first second

behind : (n : ℕ) (first second : List ℕ) → length first ≡ n → drop n (first ++ second) ≡ second
behind n first second long = ap (λ (k : ℕ). drop k (first ++ second)) (sym long) ∙ drop-append_seam first second

pub same_planes : (shape : Shape) {y c1 c2 y_too c1_too c2_too : List ℕ} → y ≡ y_too → c1 ≡ c1_too → c2 ≡ c2_too → planes_with shape y c1 c2 ≡ planes_with shape y_too c1_too c2_too
same_planes shape same_y same_c1 same_c2 = rw (same_y, same_c1, same_c2) refl

-- what is taken, said by equal numbers
pub same_takes : {two wide : Bool} {count n : ℕ} (before after : Option (List ℕ)) (samples : List ℕ) (answer : Result (Unit {0}) Short) → two ≡ wide → count ≡ n → Takes two count before after samples answer → Takes wide n before after samples answer
same_takes {two = two} {n = n} before after samples answer same_width same_count takes =
    subst (λ (w : Bool). Takes w n before after samples answer) same_width (subst (λ (m : ℕ). Takes two m before after samples answer) same_count takes)

-- ---- a luma plane has samples

some_side : (side : ℕ) → IsTrue (side_fits side) → 1 ≤ side
some_side side fits = leb-true 1 side (and_parts (nat_le 1 side) (nat_le side 8192) fits).0

product : (a b : ℕ) → 1 ≤ a → 1 ≤ b → 0 < a * b
product a b h k = let grows : a ≤ a * b = le-mul_of_pos_right a k in omega (arith, grows, h)

pub some_samples : (shape : Shape) → IsTrue (shape_fits shape) → 0 < sample_count shape Y
some_samples shape fits = grind (arith, common_steps, and_parts, product, some_side)

-- ---- a plane that is short, behind the bytes of the planes before it
module _ (shape : Shape) (before mid after : Option (List ℕ)) (front : List ℕ) (count : ℕ) (gave : Gave before mid front) (within : length front + length_in (is_wide shape) count ≤ frame_length shape) where
  cut_behind : (len : ℕ) → 0 < length front + len → GaveLast (length_in (is_wide shape) count) len mid after → GaveCutFrame shape before after
  cut_behind len some last =
      let long : length (front ++ last.part) ≡ length front + len = length-append front last.part ∙ ap (λ (n : ℕ). length front + n) last.long in
      record {
        part = front ++ last.part;
        gave = GaveAll-then before mid after front last.part gave last.gave;
        some = λ none. omega (arith, sym long ∙ ap length none, some);
        short = omega (arith, long, last.short, within);
      }

  part_behind : GaveFewer (length_in (is_wide shape) count) mid after → GavePartOfFrame shape before after
  part_behind fewer = record {
    part = front ++ fewer.part;
    gave = Gave-then before mid after front fewer.part gave fewer.gave;
    short = omega (arith, length-append front fewer.part, fewer.short, within);
  }

  pub short_behind : (samples : List ℕ) (short : Short) → ((len : ℕ) → short ≡ End len → 0 < length front + len) → Takes (is_wide shape) count mid after samples (Err short) → ReadsFrame shape before after (Err (read_fault_of short))
  short_behind samples (End len) some takes = cut_behind len (some len refl) takes
  short_behind samples Failed some takes = part_behind takes

-- ---- the planes one after another
module _ (shape : Shape) (before mid : Option (List ℕ)) (y : List ℕ) (took_y : GaveSamples (is_wide shape) (sample_count shape Y) before mid y) where
  abbrev luma : ℕ
  luma = length_in (is_wide shape) (sample_count shape Y)

  abbrev colour : ℕ
  colour = length_in (is_wide shape) (sample_count shape C1)

  abbrev of_bytes : List ℕ → List ℕ
  of_bytes bytes = samples_of_bytes (is_wide shape) bytes

  sum : frame_length shape ≡ luma + (colour + colour)
  sum = lens (is_wide shape) (sample_count shape Y) (sample_count shape C1)

  some_luma : 0 < sample_count shape Y → 0 < luma
  some_luma some = all (is_wide shape) where
    all : (two : Bool) → 0 < length_in two (sample_count shape Y)
    all true = omega (arith, some)
    all false = some

  -- the first colour plane is short
  pub short_first : (after : Option (List ℕ)) (samples : List ℕ) (short : Short) → 0 < sample_count shape Y → Takes (is_wide shape) (sample_count shape C1) mid after samples (Err short) → ReadsFrame shape before after (Err (read_fault_of short))
  short_first after samples short some =
      short_behind shape before mid after took_y.bytes (sample_count shape C1) took_y.gave (omega (arith, took_y.whole, sum)) samples short (λ len is. omega (arith, took_y.whole, some_luma some))

  module _ (next : Option (List ℕ)) (c1 : List ℕ) (took_c1 : GaveSamples (is_wide shape) (sample_count shape C1) mid next c1) where
    both : length (took_y.bytes ++ took_c1.bytes) ≡ luma + colour
    both = length-append took_y.bytes took_c1.bytes ∙ omega (arith, took_y.whole, took_c1.whole)

    -- the second is short
    pub short_second : (after : Option (List ℕ)) (samples : List ℕ) (short : Short) → 0 < sample_count shape Y → Takes (is_wide shape) (sample_count shape C1) next after samples (Err short) → ReadsFrame shape before after (Err (read_fault_of short))
    short_second after samples short some =
        short_behind shape before next after (took_y.bytes ++ took_c1.bytes) (sample_count shape C1) (Gave-then before mid next took_y.bytes took_c1.bytes took_y.gave took_c1.gave) (omega (arith, both, sum)) samples short (λ len is. omega (arith, both, some_luma some))

    -- all are whole
    pub whole_frame : (after : Option (List ℕ)) (c2 : List ℕ) → GaveSamples (is_wide shape) (sample_count shape C1) next after c2 → GaveFrame shape before after (planes_with shape y c1 c2)
    unfolding frame_of_bytes
    whole_frame after c2 took_c2 = record {
      bytes = took_y.bytes ++ (took_c1.bytes ++ took_c2.bytes);
      whole = length-append took_y.bytes (took_c1.bytes ++ took_c2.bytes) ∙ omega (arith, length-append took_c1.bytes took_c2.bytes, took_y.whole, took_c1.whole, took_c2.whole, sum);
      gave = Gave-then before mid after took_y.bytes (took_c1.bytes ++ took_c2.bytes) took_y.gave (Gave-then mid next after took_c1.bytes took_c2.bytes took_c1.gave took_c2.gave);
      frame_is =
          rw (took_y.samples_are, took_c1.samples_are, took_c2.samples_are) (sym (
          ap (λ (l : List ℕ). planes_of_bytes shape l (drop luma (took_y.bytes ++ (took_c1.bytes ++ took_c2.bytes)))) (front luma took_y.bytes (took_c1.bytes ++ took_c2.bytes) took_y.whole)
          ∙ ap (λ (l : List ℕ). planes_of_bytes shape took_y.bytes l) (behind luma took_y.bytes (took_c1.bytes ++ took_c2.bytes) took_y.whole)
          ∙ ap (λ (l : List ℕ). planes_with shape (of_bytes took_y.bytes) (of_bytes l) (of_bytes (drop colour (took_c1.bytes ++ took_c2.bytes)))) (front colour took_c1.bytes took_c2.bytes took_c1.whole)
          ∙ ap (λ (l : List ℕ). planes_with shape (of_bytes took_y.bytes) (of_bytes took_c1.bytes) (of_bytes l)) (behind colour took_c1.bytes took_c2.bytes took_c1.whole)
          ));
    }
