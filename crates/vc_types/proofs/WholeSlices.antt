-- A slice at the front of bytes: where it ends, and that it is decoded from its own bytes.
use Rattle.std.proofs.Common.{◌≡◌, ℕ, suc, ◌+◌, ◌-◌, ◌*◌, ◌≤◌, List, [], ◌∷◌, ◌++◌, length, take, drop, Some, None, Result, Ok, Err, refl, sym, ap, ◌∙◌, arith, append-nil, length-append}
use Rattle.std.proofs.lemmas.Option.{same_Some}
use Rattle.std.proofs.Math.Seq.{drop-append_seam, take-append_seam, take-length}
use Rattle.vc_types.specs.declared.refusal.Unsound.{Unsound}
use Rattle.vc_types.specs.Fields.{and_then, next, next_items}
use Rattle.vc_types.specs.Pictures.{slices_from, sound}
use Rattle.vc_types.specs.Slices.{CodedSlice, Coefficients, block, coded_slice, length_read, slice_length, decoded_slice, decoded_from, slice_coefficients}
use Rattle.vc_types.specs.TransformParameters.{Parameters}
use Rattle.vc_types.proofs.FieldCodecs.{next_items_codec}
use Rattle.vc_types.proofs.OwnBits.{ReadsOwn, then_own, give_own, next_own}

-- ---- the bytes of a slice say where it ends

items_own : (n : ℕ) → ReadsOwn {T = ℕ} {E = Unit {0}} (next_items tt n)
items_own n = record {
  own = λ all x rest h.
      let a = (next_items_codec {T = ℕ} {E = Unit {0}} tt n).takes all x rest h in
      (a.0, a.3, λ more. (next_items_codec {T = ℕ} {E = Unit {0}} tt n).again a.0 more a.1 ∙ ap (λ (items : List ℕ). Ok (items, more)) a.2);
}

block_own : (scaler : ℕ) → ReadsOwn (block scaler)
unfolding block
block_own scaler = then_own (next tt) (λ units. next_items tt (units * scaler)) (next_own tt) (λ units. items_own (units * scaler))

coded_slice_own : (prefix scaler : ℕ) → ReadsOwn (coded_slice prefix scaler)
unfolding coded_slice
coded_slice_own prefix scaler =
    then_own (next_items tt prefix) _ (items_own prefix) (λ skipped.
    then_own (next tt) _ (next_own tt) (λ index.
    then_own (block scaler) _ (block_own scaler) (λ y.
    then_own (block scaler) _ (block_own scaler) (λ c1.
    then_own (block scaler) _ (block_own scaler) (λ c2.
    give_own (record { index = index; y = y; c1 = c1; c2 = c2 }))))))

-- a slice that begins bytes: it is read there, and from its own bytes
pub record Begins (prefix scaler : ℕ) (bytes : List ℕ) (len : ℕ) : Type 0 where
  pub coded : CodedSlice
  pub within : len ≤ length bytes
  pub read : coded_slice prefix scaler bytes ≡ Ok (coded, drop len bytes)
  pub alone : coded_slice prefix scaler (take len bytes) ≡ Ok (coded, [])
  pub again : (more : List ℕ) → coded_slice prefix scaler (take len bytes ++ more) ≡ Ok (coded, more)

begins_by : (prefix scaler : ℕ) (bytes : List ℕ) (len : ℕ) (r : Result (CodedSlice × List ℕ) (Unit {0})) → coded_slice prefix scaler bytes ≡ r → length_read bytes r ≡ Some len → Begins prefix scaler bytes len
begins_by prefix scaler bytes len (Ok read) is h =
    let own = (coded_slice_own prefix scaler).own bytes read.0 read.1 is in
    let whole = ap length own.1 ∙ length-append own.0 read.1 in
    let used : length own.0 ≡ len = omega (arith, whole, same_Some (length bytes - length read.1) len h) in
    let behind : drop len bytes ≡ read.1 = ap (λ (n : ℕ). drop n bytes) (sym used) ∙ ap (drop (length own.0)) own.1 ∙ drop-append_seam own.0 read.1 in
    let front : take len bytes ≡ own.0 = ap (λ (n : ℕ). take n bytes) (sym used) ∙ ap (take (length own.0)) own.1 ∙ take-append_seam own.0 read.1 in
    record {
      coded = read.0;
      within = omega (arith, whole, used);
      read = is ∙ ap (λ (rest : List ℕ). Ok (read.0, rest)) (sym behind);
      alone = ap (coded_slice prefix scaler) (front ∙ sym (append-nil own.0)) ∙ own.2 [];
      again = λ more. ap (λ (own : List ℕ). coded_slice prefix scaler (own ++ more)) front ∙ own.2 more;
    }
begins_by prefix scaler bytes len (Err short) is h = absurd cc

pub begins : (prefix scaler : ℕ) (bytes : List ℕ) (len : ℕ) → slice_length prefix scaler bytes ≡ Some len → Begins prefix scaler bytes len
unfolding slice_length
begins prefix scaler bytes len h = begins_by prefix scaler bytes len (coded_slice prefix scaler bytes) refl h

-- the slice's own bytes are one whole slice
pub whole_slice : (prefix scaler : ℕ) (bytes : List ℕ) (len : ℕ) → slice_length prefix scaler bytes ≡ Some len → slice_length prefix scaler (take len bytes) ≡ Some (length (take len bytes))
unfolding slice_length
whole_slice prefix scaler bytes len h =
    let first = begins prefix scaler bytes len h in
    ap (length_read (take len bytes)) first.alone ∙ ap Some (let all : length (take len bytes) - 0 ≡ length (take len bytes) = omega arith in all)

-- a whole slice begins itself and what follows it
pub slice_before : (prefix scaler : ℕ) (bytes behind : List ℕ) → slice_length prefix scaler bytes ≡ Some (length bytes) → slice_length prefix scaler (bytes ++ behind) ≡ Some (length bytes)
unfolding slice_length
slice_before prefix scaler bytes behind h =
    let first = begins prefix scaler bytes (length bytes) h in
    let read : coded_slice prefix scaler (bytes ++ behind) ≡ Ok (first.coded, behind) = ap (λ (own : List ℕ). coded_slice prefix scaler (own ++ behind)) (sym (take-length bytes)) ∙ first.again behind in
    let long : length (bytes ++ behind) - length behind ≡ length bytes = omega (arith, length-append bytes behind) in
    ap (length_read (bytes ++ behind)) read ∙ ap Some long

-- ---- one slice of a picture, and those behind it

coded_whole : (p : Parameters) (slice len : ℕ) (bytes : List ℕ) (first : Begins p.prefix p.scaler bytes len) → slice_coefficients p slice (take len bytes) ≡ decoded_slice p slice first.coded
unfolding slice_coefficients
coded_whole p slice len bytes first = ap (decoded_from p slice) first.alone

-- the answer of the slice decides whether those behind it are read
pub slices_from-whole : (p : Parameters) (i n len : ℕ) (bytes : List ℕ) → slice_length p.prefix p.scaler bytes ≡ Some len
    → slices_from p i (suc n) bytes ≡ and_then (sound (slice_coefficients p i (take len bytes)) (drop len bytes)) (λ first. and_then (slices_from p (i + 1) n first.1) (λ read. Ok (first.0 ∷ read.0, read.1)))
unfolding slices_from
slices_from-whole p i n len bytes h =
    let first = begins p.prefix p.scaler bytes len h in
    rw first.read (rw (sym (coded_whole p i len bytes first)) refl)

pub slices_from-sound : (p : Parameters) (i n len : ℕ) (bytes : List ℕ) (s : Coefficients) → slice_length p.prefix p.scaler bytes ≡ Some len → slice_coefficients p i (take len bytes) ≡ Ok s
    → slices_from p i (suc n) bytes ≡ and_then (slices_from p (i + 1) n (drop len bytes)) (λ read. Ok (s ∷ read.0, read.1))
slices_from-sound p i n len bytes s h answer = slices_from-whole p i n len bytes h ∙ rw answer refl

pub slices_from-unsound : (p : Parameters) (i n len : ℕ) (bytes : List ℕ) (why : Unsound) → slice_length p.prefix p.scaler bytes ≡ Some len → slice_coefficients p i (take len bytes) ≡ Err why
    → slices_from p i (suc n) bytes ≡ Err tt
slices_from-unsound p i n len bytes why h answer = slices_from-whole p i n len bytes h ∙ rw answer refl

none_begins : (bytes : List ℕ) (r : Result (CodedSlice × List ℕ) (Unit {0})) → length_read bytes r ≡ None → r ≡ Err tt
none_begins bytes (Ok read) h = absurd cc
none_begins bytes (Err short) h = refl

-- no slice begins the bytes
pub slices_from-short : (p : Parameters) (i n : ℕ) (bytes : List ℕ) → slice_length p.prefix p.scaler bytes ≡ None → slices_from p i (suc n) bytes ≡ Err tt
unfolding slices_from slice_length
slices_from-short p i n bytes h = rw (none_begins bytes (coded_slice p.prefix p.scaler bytes) h) refl
