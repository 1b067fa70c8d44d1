-- A field depends on nothing but what it reads.
use Rattle.std.proofs.Common.{◌≡◌, ℕ, Bool, true, false, cond, ltb, List, [], ◌∷◌, ◌++◌, Option, Some, None, Result, Ok, Err, refl, sym, ap, ◌∙◌, append_assoc}
use Rattle.std.specs.Prelude.{if◌then◌else◌}
use Rattle.vc_types.specs.Codes.{uint_bits, uint_at}
use Rattle.vc_types.specs.Fields.{Field, and_then, ◌>>=◌, give, refuse, tested, next, number_from, number_up_to, behind_flag}
use Rattle.vc_types.proofs.Codes.{uint_at-is, uint_at-uint_bits}
use Rattle.vc_types.proofs.FieldCodecs.{ok_is, and_then_ok, passed}

-- what a field that was read depends on: the part that was used, whatever follows it
abbrev pub OwnPart : {T E X : Type 0} → Field T E X → List T → X → List T → Type 0
OwnPart {T = T} field all x rest = (used : List T) × (all ≡ used ++ rest) × ((more : List T) → field (used ++ more) ≡ Ok (x, more))

pub record ReadsOwn {T E X : Type 0} (field : Field T E X) : Type 0 where
  pub own : (all : List T) (x : X) (rest : List T) → field all ≡ Ok (x, rest) → OwnPart field all x rest

pub give_own : {T E X : Type 0} (x : X) → ReadsOwn {T = T} {E = E} (give x)
give_own {T = T} {E = E} {X = X} x = record {
  own = λ all y rest h.
      let both : (x, all) ≡ (y, rest) = ok_is {E = E} (x, all) (y, rest) h in
      ([], ap (λ (p : X × List T). p.1) both, λ more. ap (λ (p : X × List T). Ok (p.0, more)) both);
}

pub then_own : {T E X Y : Type 0} (first : Field T E X) (second : X → Field T E Y) → ReadsOwn first → ((x : X) → ReadsOwn (second x)) → ReadsOwn (first >>= second)
then_own {T = T} {E = E} {X = X} {Y = Y} first second p q = record {
  own = λ all y rest h.
      let one = and_then_ok (first all) (λ read. second read.0 read.1) (y, rest) h in
      let a = p.own all one.0.0 one.0.1 one.1 in
      let b = (q one.0.0).own one.0.1 y rest one.2 in (
        a.0 ++ b.0,
        a.1 ∙ ap (λ (l : List T). a.0 ++ l) b.1 ∙ sym (append_assoc a.0 b.0 rest),
        λ more. ap (first >>= second) (append_assoc a.0 b.0 more) ∙ ap (λ (r : Result (X × List T) E). and_then r (λ read. second read.0 read.1)) (a.2 (b.0 ++ more)) ∙ b.2 more,
      );
}

pub refuse_own : {T E X : Type 0} (refusal : E) → ReadsOwn {T = T} {E = E} {X = X} (refuse refusal)
refuse_own refusal = record { own = λ all x rest h. absurd cc }

pub tested_own : {T E X : Type 0} (test : X → Bool) (refusal : E) (field : Field T E X) → ReadsOwn field → ReadsOwn (tested test refusal field)
tested_own {T = T} {E = E} {X = X} test refusal field p = record {
  own = λ all x rest h.
      let one = and_then_ok (field all) (λ read. if test read.0 then Ok read else Err refusal) (x, rest) h in
      let is = passed (test one.0.0) one.0 (x, rest) refusal one.2 in
      let a = p.own all one.0.0 one.0.1 one.1 in
      let x-is : one.0.0 ≡ x = ap (λ (r : X × List T). r.0) is.1 in
      let rest-is : one.0.1 ≡ rest = ap (λ (r : X × List T). r.1) is.1 in (
        a.0,
        a.1 ∙ ap (λ (l : List T). a.0 ++ l) rest-is,
        λ more.
            ap (λ (r : Result (X × List T) E). and_then r (λ read. if test read.0 then Ok read else Err refusal)) (a.2 more)
            ∙ ap (λ (b : Bool). cond b (Ok (one.0.0, more)) (Err refusal)) is.0
            ∙ ap (λ (y : X). Ok (y, more)) x-is,
      );
}

next_part : {T E : Type 0} (short : E) (all : List T) (x : T) (rest : List T) → next short all ≡ Ok (x, rest) → OwnPart (next short) all x rest
next_part short [] x rest h = absurd cc
next_part {T = T} {E = E} short (item ∷ all) x rest h =
    let both : (item, all) ≡ (x, rest) = ok_is {E = E} (item, all) (x, rest) h in
    (item ∷ [], ap (λ (p : T × List T). item ∷ p.1) both, λ more. ap (λ (p : T × List T). Ok (p.0, more)) both)

pub next_own : {T E : Type 0} (short : E) → ReadsOwn {T = T} (next short)
next_own short = record { own = next_part short }

number_part : {E : Type 0} (short too_large : E) (max : ℕ) (read : Option (ℕ × List Bool)) (x : ℕ) (rest : List Bool) → number_from short too_large max read ≡ Ok (x, rest) → (read ≡ Some (x, rest)) × (ltb max x ≡ false)
number_part short too_large max None x rest h = absurd cc
number_part {E = E} short too_large max (Some y) x rest h = small (ltb max y.0) refl h
  where
    small : (b : Bool) → ltb max y.0 ≡ b → cond b (Err too_large) (Ok y) ≡ Ok (x, rest) → (Some y ≡ Some (x, rest)) × (ltb max x ≡ false)
    small true t g = absurd cc
    small false t g = let same : y ≡ (x, rest) = ok_is {E = E} y (x, rest) g in (ap Some same, ap (λ (z : ℕ × List Bool). ltb max z.0) (sym same) ∙ t)

pub number_own : {E : Type 0} (short too_large : E) (max : ℕ) → ReadsOwn (number_up_to short too_large max)
unfolding number_up_to
number_own short too_large max = record {
  own = λ all x rest h.
      let read = number_part short too_large max (uint_at all) x rest h in
      (uint_bits x, uint_at-is all x rest read.0, λ more. rw (uint_at-uint_bits x more, read.1) refl);
}

pub behind_flag_own : {E X : Type 0} (short : E) (default : X) (field : Field Bool E X) → ReadsOwn field → ReadsOwn (behind_flag short default field)
behind_flag_own {E = E} {X = X} short default field p = record { own = part }
  where
    part : (all : List Bool) (x : X) (rest : List Bool) → behind_flag short default field all ≡ Ok (x, rest) → OwnPart (behind_flag short default field) all x rest
    part [] x rest h = absurd cc
    part (true ∷ all) x rest h = let a = p.own all x rest h in (true ∷ a.0, ap (λ (l : List Bool). true ∷ l) a.1, a.2)
    part (false ∷ all) x rest h =
        let both : (default, all) ≡ (x, rest) = ok_is {E = E} (default, all) (x, rest) h in
        (false ∷ [], ap (λ (r : X × List Bool). false ∷ r.1) both, λ more. ap (λ (r : X × List Bool). Ok (r.0, more)) both)
