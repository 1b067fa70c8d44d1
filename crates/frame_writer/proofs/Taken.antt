-- Samples that are taken, one piece after another.
use Rattle.std.proofs.Common.{◌≡◌, ℕ, ◌+◌, ◌-◌, ◌*◌, ◌≤◌, Bool, true, false, List, [], ◌∷◌, ◌++◌, length, take, Option, refl, ap, sym, ◌∙◌, arith}
use Rattle.std.proofs.lemmas.List.{length-append, length-take-le}
use Rattle.std.proofs.Math.Seq.{take-append-add, take-append_seam}
use Rattle.vc_ports.specs.Filling.{Fills}
use Rattle.vc_ports.specs.Reading.{Gave}
use Rattle.vc_ports.specs.declared.whole.Filled.TheVariants.{End, Failed}
use Rattle.vc_ports.proofs.Given.{Gave-none, Gave-then, GaveAll-then}
use Rattle.frame_writer.specs.FrameBytes.{length_in, samples_of_bytes}
use Rattle.frame_writer.specs.Taking.{GaveSamples, GaveFewer, GaveLast}

wide-append : (count : ℕ) (first second : List ℕ) → length first ≡ 2 * count → samples_of_bytes true (first ++ second) ≡ samples_of_bytes true first ++ samples_of_bytes true second
unfolding samples_of_bytes
wide-append count [] second long = refl
wide-append count (low ∷ []) second long = absurd (omega (arith, long))
wide-append count (low ∷ high ∷ first) second long = ap (λ (l : List ℕ). (low + 256 * high) ∷ l) (wide-append (count - 1) first second (omega (arith, long)))

-- the samples of whole samples' bytes and of bytes behind them
samples_of_bytes-append : (two : Bool) (count : ℕ) (first second : List ℕ) → length first ≡ length_in two count → samples_of_bytes two (first ++ second) ≡ samples_of_bytes two first ++ samples_of_bytes two second
unfolding samples_of_bytes
samples_of_bytes-append true count first second long = wide-append count first second long
samples_of_bytes-append false count first second long = refl

length_in-add : (two : Bool) (first second : ℕ) → length_in two (first + second) ≡ length_in two first + length_in two second
length_in-add true first second = omega arith
length_in-add false first second = refl

-- none are taken yet
pub took_none : (two : Bool) (before : Option (List ℕ)) → GaveSamples two 0 before before []
unfolding samples_of_bytes
took_none true before = record { bytes = []; whole = refl; gave = Gave-none before; samples_are = refl }
took_none false before = record { bytes = []; whole = refl; gave = Gave-none before; samples_are = refl }

module _ (two : Bool) (at more : ℕ) (before mid after : Option (List ℕ)) (samples piece : List ℕ) (took : GaveSamples two at before mid samples) (long : length piece ≡ length_in two more) where
  took_more : Gave mid after piece → GaveSamples two (at + more) before after (samples ++ samples_of_bytes two piece)
  took_more gave = record {
    bytes = took.bytes ++ piece;
    whole = length-append took.bytes piece ∙ omega (arith, took.whole, long, length_in-add two at more);
    gave = Gave-then before mid after took.bytes piece took.gave gave;
    samples_are =
        ap (λ (l : List ℕ). l ++ samples_of_bytes two piece) took.samples_are
        ∙ sym (samples_of_bytes-append two at took.bytes piece took.whole);
  }

  -- a piece more, before the place of the samples that aren't taken yet
  pub took_next : (next rest : List ℕ) → length samples ≡ at → length next ≡ more → next ≡ samples_of_bytes two piece → Gave mid after piece → GaveSamples two (at + length next) before after (take (at + length next) (samples ++ (next ++ rest)))
  took_next next rest front same of_piece gave =
      let taken : take (at + length next) (samples ++ (next ++ rest)) ≡ samples ++ next =
      ap (λ (n : ℕ). take (n + length next) (samples ++ (next ++ rest))) (sym front)
      ∙ take-append-add samples (next ++ rest) (length next)
      ∙ ap (λ (l : List ℕ). samples ++ l) (take-append_seam next rest) in
      rw (taken, same, of_piece) (took_more gave)

  module _ (count n : ℕ) (within : at + more ≤ count) where
    longest : length_in two at + length_in two more ≤ length_in two count
    longest = all two where
      all : (wide : Bool) → length_in wide at + length_in wide more ≤ length_in wide count
      all true = omega (arith, within)
      all false = within

    -- the source ended within a piece
    pub took_last : Fills mid after piece (End n) → GaveLast (length_in two count) (length_in two at + n) before after
    took_last fills =
        let front : length (take n piece) ≡ n = length-take-le n piece (omega (arith, fills.0)) in
        record {
          part = took.bytes ++ take n piece;
          gave = GaveAll-then before mid after took.bytes (take n piece) took.gave fills.1;
          long = length-append took.bytes (take n piece) ∙ omega (arith, took.whole, front);
          short = omega (arith, fills.0, long, longest);
        }

    -- a read failed within a piece
    pub took_fewer : Fills mid after piece (Failed n) → GaveFewer (length_in two count) before after
    took_fewer fills =
        let front : length (take n piece) ≡ n = length-take-le n piece (omega (arith, fills.0)) in
        let all : length (took.bytes ++ take n piece) ≡ length_in two at + n = length-append took.bytes (take n piece) ∙ omega (arith, took.whole, front) in
        record {
          part = took.bytes ++ take n piece;
          gave = Gave-then before mid after took.bytes (take n piece) took.gave fills.1;
          short = omega (arith, all, fills.0, long, longest);
        }
