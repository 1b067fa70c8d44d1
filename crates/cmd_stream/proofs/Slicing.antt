-- The slices that begin bytes, and their own bytes.
use Rattle.std.proofs.Common.{◌≡◌, ℕ, zero, suc, ◌-◌, List, [], ◌∷◌, ◌++◌, length, take, drop, Option, Some, None, Ok, Err, refl, ap, sym, ◌∙◌, subst, arith, append_assoc, append-nil, length-append, take-append-drop}
use Rattle.std.proofs.Math.Seq.{drop-append_seam, take-append_seam}
use Rattle.link_model.specs.Kept.{cut_off, next_slice, next_slices}
use Rattle.stream_model.specs.Packing.{slices_in, slices_read}
use Rattle.cmd_stream.specs.PackSteps.{EndsSlices}
use Rattle.link_sender.proofs.Cutting.{Cut, cut_is}
use Rattle.vc_types.proofs.FieldCodecs.{and_then_ok}
use Rattle.vc_types.proofs.WholeSlices.{slice_before, whole_slice}
use Rattle.vc_types.specs.Fields.{and_then}
use Rattle.vc_types.specs.Slices.{slice_length}
use Rattle.vc_types.specs.Subbands.{slice_count}
use Rattle.vc_types.specs.TransformParameters.{Parameters}

-- ---- one slice

-- a slice that was cut is cut again, whatever follows
record IsOwn (p : Parameters) (bytes slice behind : List ℕ) : Type 0 where
  are : bytes ≡ slice ++ behind
  again : (more : List ℕ) → next_slice p (slice ++ more) ≡ Ok (slice, more)

own_by : (p : Parameters) (bytes slice behind : List ℕ) (found : Option ℕ) → slice_length p.prefix p.scaler bytes ≡ found → cut_off bytes found ≡ Ok (slice, behind) → IsOwn p bytes slice behind
unfolding next_slice
own_by p bytes slice behind None is e = absurd cc
own_by p bytes slice behind (Some len) is e =
    let same = cut_is (take len bytes, drop len bytes) (slice, behind) e in
    let front : take len bytes ≡ slice = ap (λ (x : List ℕ × List ℕ). x.0) same in
    let rest : drop len bytes ≡ behind = ap (λ (x : List ℕ × List ℕ). x.1) same in
    let whole = subst (λ (l : List ℕ). slice_length p.prefix p.scaler l ≡ Some (length l)) front (whole_slice p.prefix p.scaler bytes len is) in
    record {
      are = sym (take-append-drop len bytes) ∙ (λ i. front i ++ rest i);
      again = λ more.
          ap (cut_off (slice ++ more)) (slice_before p.prefix p.scaler slice more whole)
          ∙ (λ i. Ok (take-append_seam slice more i, drop-append_seam slice more i));
    }

slice_own : (p : Parameters) (bytes slice behind : List ℕ) → next_slice p bytes ≡ Ok (slice, behind) → IsOwn p bytes slice behind
unfolding next_slice
slice_own p bytes slice behind e = own_by p bytes slice behind (slice_length p.prefix p.scaler bytes) refl e

-- ---- so many

pub record AreOwn (p : Parameters) (n : ℕ) (bytes : List ℕ) (slices : List (List ℕ)) (behind : List ℕ) : Type 0 where
  pub own : List ℕ
  pub are : bytes ≡ own ++ behind
  pub again : (more : List ℕ) → next_slices p n (own ++ more) ≡ Ok (slices, more)

module _ (p : Parameters) where
  pub one_more : (n : ℕ) (bytes slice behind : List ℕ) → next_slice p bytes ≡ Ok (slice, behind) → next_slices p (suc n) bytes ≡ and_then (next_slices p n behind) (λ read. Ok (slice ∷ read.0, read.1))
  unfolding next_slices
  one_more n bytes slice behind e = ap (λ (r : Cut (List ℕ)). and_then r (λ read. and_then (next_slices p n read.1) (λ more. Ok (read.0 ∷ more.0, more.1)))) e

  pub none_more : (n : ℕ) (bytes : List ℕ) → slice_length p.prefix p.scaler bytes ≡ None → next_slices p (suc n) bytes ≡ Err tt
  unfolding next_slices next_slice
  none_more n bytes e = ap (λ (o : Option ℕ). and_then (cut_off bytes o) (λ read. and_then (next_slices p n read.1) (λ more. Ok (read.0 ∷ more.0, more.1)))) e

  pub cut_to : (bytes : List ℕ) (len : ℕ) → slice_length p.prefix p.scaler bytes ≡ Some len → next_slice p bytes ≡ Ok (take len bytes, drop len bytes)
  unfolding next_slice
  cut_to bytes len e = ap (cut_off bytes) e

  pub no_more : (bytes : List ℕ) → next_slices p 0 bytes ≡ Ok ([], bytes)
  unfolding next_slices
  no_more bytes = refl

  pub slices_own : (n : ℕ) (bytes : List ℕ) (slices : List (List ℕ)) (behind : List ℕ) → next_slices p n bytes ≡ Ok (slices, behind) → AreOwn p n bytes slices behind
  unfolding next_slices
  slices_own zero bytes slices behind e =
      let same = cut_is ([], bytes) (slices, behind) e in
      record {
        own = [];
        are = ap (λ (x : List (List ℕ) × List ℕ). x.1) same;
        again = λ more. ap (λ (x : List (List ℕ) × List ℕ). Ok (x.0, more)) same;
      }
  slices_own (suc n) bytes slices behind e =
      let first = and_then_ok (next_slice p bytes) (λ read. and_then (next_slices p n read.1) (λ more. Ok (read.0 ∷ more.0, more.1))) (slices, behind) e in
      let second = and_then_ok (next_slices p n first.0.1) (λ more. Ok (first.0.0 ∷ more.0, more.1)) (slices, behind) first.2 in
      let same = cut_is (first.0.0 ∷ second.0.0, second.0.1) (slices, behind) second.2 in
      let one = slice_own p bytes first.0.0 first.0.1 first.1 in
      let others = slices_own n first.0.1 second.0.0 second.0.1 second.1 in
      record {
        own = first.0.0 ++ others.own;
        are = one.are ∙ ap (λ l. first.0.0 ++ l) (others.are ∙ ap (λ (x : List (List ℕ) × List ℕ). others.own ++ x.1) same) ∙ sym (append_assoc first.0.0 others.own behind);
        again = λ more.
            ap (next_slices p (suc n)) (append_assoc first.0.0 others.own more)
            ∙ one_more n (first.0.0 ++ (others.own ++ more)) first.0.0 (others.own ++ more) (one.again (others.own ++ more))
            ∙ ap (λ (r : Cut (List (List ℕ))). and_then r (λ read. Ok (first.0.0 ∷ read.0, read.1))) (others.again more)
            ∙ ap (λ (x : List (List ℕ) × List ℕ). Ok (x.0, more)) same;
      }

  -- all of them were cut
  pub all_cut : (bytes behind : List ℕ) (slices : List (List ℕ)) → next_slices p (slice_count p) bytes ≡ Ok (slices, behind) → EndsSlices p bytes (Some (length bytes - length behind))
  all_cut bytes behind slices e =
      let o = slices_own (slice_count p) bytes slices behind e in
      let long = ap length o.are ∙ length-append o.own behind in
      let n : length bytes - length behind ≡ length o.own = omega (arith, long) in
      let front : take (length bytes - length behind) bytes ≡ o.own = ap (λ (k : ℕ). take k bytes) n ∙ ap (take (length o.own)) o.are ∙ take-append_seam o.own behind in
      let rest : drop (length bytes - length behind) bytes ≡ behind = ap (λ (k : ℕ). drop k bytes) n ∙ ap (drop (length o.own)) o.are ∙ drop-append_seam o.own behind in
      let alone : next_slices p (slice_count p) o.own ≡ Ok (slices, []) = ap (next_slices p (slice_count p)) (sym (append-nil o.own)) ∙ o.again [] in
      let whole : next_slices p (slice_count p) (take (length bytes - length behind) bytes) ≡ Ok (slices, []) = ap (next_slices p (slice_count p)) front ∙ alone in
      let are : slices_in p (take (length bytes - length behind) bytes) ≡ slices = ap slices_read whole in (
        omega (arith, long),
        e ∙ (λ i. Ok (sym are i, sym rest i)),
        whole ∙ ap (λ (l : List (List ℕ)). Ok (l, [])) (sym are),
      )

-- ---- slices in front of others

pub put_none : (r : Cut (List (List ℕ))) → r ≡ and_then r (λ read. Ok ([] ++ read.0, read.1))
put_none (Ok read) = refl
put_none (Err short) = refl

pub put_one : (slices : List (List ℕ)) (slice : List ℕ) (r : Cut (List (List ℕ)))
    → and_then {A = List (List ℕ) × List ℕ} {B = List (List ℕ) × List ℕ} (and_then {A = List (List ℕ) × List ℕ} {B = List (List ℕ) × List ℕ} r (λ read. Ok (slice ∷ read.0, read.1))) (λ read. Ok (slices ++ read.0, read.1)) ≡ and_then {A = List (List ℕ) × List ℕ} {B = List (List ℕ) × List ℕ} r (λ read. Ok ((slices ++ slice ∷ []) ++ read.0, read.1))
put_one slices slice (Ok read) = ap (λ (l : List (List ℕ)). Ok (l, read.1)) (sym (append_assoc slices (slice ∷ []) read.0))
put_one slices slice (Err short) = refl
