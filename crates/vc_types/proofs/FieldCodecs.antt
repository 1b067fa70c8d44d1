-- Reading and writing belong together, combinator by combinator.
use Rattle.std.proofs.Common.{◌≡◌, ℕ, length-append, ◌≤◌, Bool, true, false, cond, ltb, List, [], ◌∷◌, ◌++◌, length, take, drop, Option, Some, None, Result, Ok, Err, refl, sym, ap, subst, ◌∙◌, append_assoc, arith}
use Rattle.std.proofs.lemmas.Bool.{ltb-false, le-ltb}
use Rattle.std.specs.Prelude.{IsTrue, IfSome, MatchOption, unwrap_or}
use Rattle.std.proofs.lemmas.List.{take-append-drop, length-take-le}
use Rattle.std.proofs.Math.Seq.{drop-append_seam, take-append_seam}
use Rattle.vc_types.specs.Codes.{uint_bits, uint_at}
use Rattle.vc_types.specs.Fields.{Field, and_then, ◌>>=◌, give, refuse, tested, next_items, flag, number_from, number_up_to, behind_flag, flagged_bits, flagged_value, IsCodec}
use Rattle.vc_types.proofs.Codes.{uint_at-is, uint_at-uint_bits}

-- ---- results

abbrev done : {A E : Type 0} → A → Result A E
done x = Ok x

pub ok_is : {A E : Type 0} (x y : A) → done {E = E} x ≡ done y → x ≡ y
ok_is x y e = cc

-- the value of a first step that did not fail
pub and_then_ok : {A B E : Type 0} (r : Result A E) (f : A → Result B E) (y : B) → and_then r f ≡ Ok y → (x : A) × (r ≡ Ok x) × (f x ≡ Ok y)
and_then_ok (Ok x) f y e = (x, refl, e)
and_then_ok (Err d) f y e = absurd cc

-- ---- nothing is read

pub give_codec : {T E X : Type 0} (value : X) → IsCodec (give {T = T} {E = E} value) (λ (a : Unit {0}). []) (λ a. value) (λ a. Unit {0})
give_codec {T = T} {X = X} value = record {
  takes = λ all x rest h.
      let whole : (value, all) ≡ (x, rest) = ok_is (value, all) (x, rest) h in
      (tt, tt, ap (λ (w : X × List T). w.0) whole, ap (λ (w : X × List T). w.1) whole);
  again = λ a rest ok. refl;
}

-- ---- one field after another

pub then_codec : {T E A B X Y : Type 0} {first : Field T E X} {second : X → Field T E Y} {first_bits : A → List T} {second_bits : B → List T} {first_value : A → X} {second_value : X → B → Y} {IsFirst : A → Type 0} {IsSecond : X → B → Type 0}
    → IsCodec first first_bits first_value IsFirst → ((x : X) → IsCodec (second x) second_bits (second_value x) (IsSecond x))
    → IsCodec (first >>= second) (λ (ab : A × B). first_bits ab.0 ++ second_bits ab.1) (λ ab. second_value (first_value ab.0) ab.1) (λ ab. IsFirst ab.0 × IsSecond (first_value ab.0) ab.1)
then_codec {T = T} {E = E} {A = A} {B = B} {X = X} {Y = Y} {first = first} {second = second} {first_bits = p_bits} {second_bits = q_bits} {first_value = p_value} {second_value = q_value} {IsSecond = Q} c d = record {
  takes = λ all y rest h.
      let one = and_then_ok (first all) (λ read. second read.0 read.1) (y, rest) h in
      let a = c.takes all one.0.0 one.0.1 one.1 in
      let b = (d one.0.0).takes one.0.1 y rest one.2 in
      let accepted : Q (p_value a.0) b.0 = subst (λ (x : X). Q x b.0) (sym a.2) b.1 in
      let value : q_value (p_value a.0) b.0 ≡ y = ap (λ (x : X). q_value x b.0) a.2 ∙ b.2 in
      let bits : all ≡ (p_bits a.0 ++ q_bits b.0) ++ rest = a.3 ∙ ap (λ (l : List T). p_bits a.0 ++ l) b.3 ∙ sym (append_assoc (p_bits a.0) (q_bits b.0) rest) in
      ((a.0, b.0), (a.1, accepted), value, bits);
  again = λ ab rest ok.
      let regrouped : (p_bits ab.0 ++ q_bits ab.1) ++ rest ≡ p_bits ab.0 ++ (q_bits ab.1 ++ rest) = append_assoc (p_bits ab.0) (q_bits ab.1) rest in
      ap (first >>= second) regrouped ∙ ap (λ (r : Result (X × List T) E). and_then r (λ read. second read.0 read.1)) (c.again ab.0 (q_bits ab.1 ++ rest) ok.0) ∙ (d (p_value ab.0)).again ab.1 rest ok.1;
}

-- a value under a test
pub give_if_codec : {T E X : Type 0} (test : Bool) (value : X) (refusal : E) → IsCodec (cond test (give {T = T} value) (refuse refusal)) (λ (a : Unit {0}). []) (λ a. value) (λ a. IsTrue test)
give_if_codec {T = T} {X = X} true value refusal = record {
  takes = λ all x rest h.
      let whole : (value, all) ≡ (x, rest) = ok_is (value, all) (x, rest) h in
      (tt, refl, ap (λ (w : X × List T). w.0) whole, ap (λ (w : X × List T). w.1) whole);
  again = λ a rest ok. refl;
}
give_if_codec {T = T} {X = X} false value refusal = record {
  takes = λ all x rest h. absurd cc;
  again = λ a rest ok. absurd cc;
}

-- a field by another value
pub mapped_codec : {T E A X Y : Type 0} {field : Field T E X} {bits : A → List T} {value : A → X} {IsRead : A → Type 0} (f : X → Y)
    → IsCodec field bits value IsRead → IsCodec (field >>= λ x. give (f x)) bits (λ a. f (value a)) IsRead
mapped_codec {T = T} {E = E} {X = X} {Y = Y} {field = field} {bits = bits} f c = record {
  takes = λ all y rest h.
      let one = and_then_ok (field all) (λ read. Ok (f read.0, read.1)) (y, rest) h in
      let whole : (f one.0.0, one.0.1) ≡ (y, rest) = ok_is {E = E} (f one.0.0, one.0.1) (y, rest) one.2 in
      let a = c.takes all one.0.0 one.0.1 one.1 in
      (a.0, a.1, ap f a.2 ∙ ap (λ (w : Y × List T). w.0) whole, a.3 ∙ ap (λ (w : Y × List T). bits a.0 ++ w.1) whole);
  again = λ a rest ok. ap (λ (r : Result (X × List T) E). and_then r (λ read. Ok (f read.0, read.1))) (c.again a rest ok);
}

-- ---- other words for what is written

-- The spellings b of the second kind say the same as the spellings a of the first.
pub retold : {T E A B X : Type 0} {field : Field T E X} {first_bits : A → List T} {first_value : A → X} {IsFirst : A → Type 0} (bits : B → List T) (value : B → X) (IsSecond : B → Type 0) (to : A → B) (from : B → A)
    → ((a : A) → IsFirst a → IsSecond (to a) × (value (to a) ≡ first_value a) × (first_bits a ≡ bits (to a)))
    → ((b : B) → IsSecond b → IsFirst (from b) × (first_value (from b) ≡ value b) × (bits b ≡ first_bits (from b)))
    → IsCodec field first_bits first_value IsFirst → IsCodec field bits value IsSecond
retold {T = T} {E = E} {X = X} {field = field} bits value IsSecond to from there back c = record {
  takes = λ all x rest h.
      let a = c.takes all x rest h in
      let told = there a.0 a.1 in
      (to a.0, told.0, told.1 ∙ a.2, a.3 ∙ ap (λ (l : List T). l ++ rest) told.2);
  again = λ b rest ok.
      let told = back b ok in
      ap (λ (l : List T). field (l ++ rest)) told.2 ∙ c.again (from b) rest told.0 ∙ ap (λ (x : X). done {E = E} (x, rest)) told.1;
}

-- ---- numbers

number_takes : {E : Type 0} (short too_large : E) (max : ℕ) (read : Option (ℕ × List Bool)) (x : ℕ × List Bool) → number_from short too_large max read ≡ Ok x → (read ≡ Some x) × (x.0 ≤ max)
number_takes short too_large max None x h = absurd cc
number_takes {E = E} short too_large max (Some y) x h = chosen (ltb max y.0) refl h
  where
    chosen : (b : Bool) → ltb max y.0 ≡ b → cond b (Err too_large) (done y) ≡ Ok x → (Some y ≡ Some x) × (x.0 ≤ max)
    chosen true t h = absurd cc
    chosen false t h =
        let same : y ≡ x = ok_is {E = E} y x h in
        let small : y.0 ≤ max = ltb-false _ _ t in
        (ap Some same, subst (λ (z : ℕ × List Bool). z.0 ≤ max) same small)

number_again : {E : Type 0} (short too_large : E) (max n : ℕ) (rest : List Bool) → n ≤ max → number_up_to short too_large max (uint_bits n ++ rest) ≡ Ok (n, rest)
unfolding number_up_to
number_again short too_large max n rest small =
    let fits : ltb max n ≡ false = le-ltb _ _ small in
    rw (uint_at-uint_bits n rest, fits) refl

pub number_codec : {E : Type 0} (short too_large : E) (max : ℕ) → IsCodec (number_up_to short too_large max) uint_bits (λ n. n) (λ n. n ≤ max)
unfolding number_up_to
number_codec short too_large max = record {
  takes = λ all x rest h. let t = number_takes short too_large max (uint_at all) (x, rest) h in (x, t.1, refl, uint_at-is all x rest t.0);
  again = number_again short too_large max;
}

-- ---- a field that passes a test

pub passed : {A E : Type 0} (b : Bool) (y x : A) (refusal : E) → cond b (done y) (Err refusal) ≡ Ok x → (b ≡ true) × (y ≡ x)
passed {E = E} true y x refusal h = (refl, ok_is {E = E} y x h)
passed false y x refusal h = absurd cc

pub tested_codec : {T E A X : Type 0} {field : Field T E X} {bits : A → List T} {value : A → X} {IsRead : A → Type 0} (test : X → Bool) (refusal : E)
    → IsCodec field bits value IsRead → IsCodec (tested test refusal field) bits value (λ a. IsRead a × IsTrue (test (value a)))
tested_codec {T = T} {E = E} {X = X} {field = field} {bits = bits} {value = value} test refusal c = record {
  takes = λ all x rest h.
      let one = and_then_ok (field all) (λ read. cond (test read.0) (Ok read) (Err refusal)) (x, rest) h in
      let is = passed (test one.0.0) one.0 (x, rest) refusal one.2 in
      let a = c.takes all one.0.0 one.0.1 one.1 in
      (a.0, (a.1, ap test a.2 ∙ is.0), a.2 ∙ ap (λ (w : X × List T). w.0) is.1, a.3 ∙ ap (λ (w : X × List T). bits a.0 ++ w.1) is.1);
  again = λ a rest ok. ap (λ (r : Result (X × List T) E). and_then r (λ read. cond (test read.0) (Ok read) (Err refusal))) (c.again a rest ok.0) ∙ ap (λ (b : Bool). cond b (done (value a, rest)) (Err refusal)) ok.1;
}

-- ---- a field behind a flag

pub behind_flag_codec : {E A X : Type 0} {field : Field Bool E X} {bits : A → List Bool} {value : A → X} {IsRead : A → Type 0} (short : E) (default : X)
    → IsCodec field bits value IsRead → IsCodec (behind_flag short default field) (flagged_bits bits) (flagged_value default value) (λ a. IfSome a IsRead)
behind_flag_codec {E = E} {A = A} {X = X} {field = field} {bits = bits} {value = value} {IsRead = IsRead} short default c = record {
  takes = flag_takes;
  again = flag_again;
}
  where
    flag_takes : (all : List Bool) (x : X) (rest : List Bool) → behind_flag short default field all ≡ Ok (x, rest) → (a : Option A) × IfSome a IsRead × (flagged_value default value a ≡ x) × (all ≡ flagged_bits bits a ++ rest)
    flag_takes [] x rest h = absurd cc
    flag_takes (true ∷ all) x rest h = let t = c.takes all x rest h in (Some t.0, t.1, t.2, ap (λ (l : List Bool). true ∷ l) t.3)
    flag_takes (false ∷ all) x rest h =
        let whole : (default, all) ≡ (x, rest) = ok_is {E = E} (default, all) (x, rest) h in
        (None, tt, ap (λ (w : X × List Bool). w.0) whole, ap (λ (w : X × List Bool). false ∷ w.1) whole)

    flag_again : (a : Option A) (rest : List Bool) → IfSome a IsRead → behind_flag short default field (flagged_bits bits a ++ rest) ≡ Ok (flagged_value default value a, rest)
    flag_again None rest ok = refl
    flag_again (Some a) rest ok = c.again a rest ok

-- the field's own value behind a flag
pub plain_flag_codec : {E X : Type 0} {field : Field Bool E X} {bits : X → List Bool} {IsRead : X → Type 0} (short : E) (default : X)
    → IsCodec field bits (λ x. x) IsRead → IsCodec (behind_flag short default field) (flagged_bits bits) (λ a. unwrap_or a default) (λ a. IfSome a IsRead)
plain_flag_codec {X = X} {bits = bits} {IsRead = IsRead} short default c = retold (flagged_bits bits) (λ a. unwrap_or a default) (λ a. IfSome a IsRead) (λ (a : Option X). a) (λ (a : Option X). a)
    (λ a ok. (ok, same a, refl))
    (λ a ok. (ok, sym (same a), refl))
    (behind_flag_codec short default c)
  where
    same : (a : Option X) → unwrap_or a default ≡ flagged_value default (λ x. x) a
    same None = refl
    same (Some x) = refl

-- one field where a flag is 1, and another, that reads nothing, where it is 0
pub flag_choice_codec : {E A X : Type 0} {field other : Field Bool E X} {bits : A → List Bool} {value : A → X} {default : X} {IsRead : A → Type 0} {IsDefault : Type 0} (short : E)
    → IsCodec field bits value IsRead → IsCodec other (λ (a : Unit {0}). []) (λ a. default) (λ a. IsDefault)
    → IsCodec (flag short >>= λ custom. cond custom field other) (flagged_bits bits) (flagged_value default value) (λ a. MatchOption a IsDefault IsRead)
flag_choice_codec {E = E} {A = A} {X = X} {field = field} {other = other} {bits = bits} {value = value} {default = default} {IsRead = IsRead} {IsDefault = IsDefault} short c d = record {
  takes = flag_takes;
  again = flag_again;
}
  where
    flag_takes : (all : List Bool) (x : X) (rest : List Bool) → (flag short >>= λ custom. cond custom field other) all ≡ Ok (x, rest) → (a : Option A) × MatchOption a IsDefault IsRead × (flagged_value default value a ≡ x) × (all ≡ flagged_bits bits a ++ rest)
    flag_takes [] x rest h = absurd cc
    flag_takes (true ∷ all) x rest h = let t = c.takes all x rest h in (Some t.0, t.1, t.2, ap (λ (l : List Bool). true ∷ l) t.3)
    flag_takes (false ∷ all) x rest h = let t = d.takes all x rest h in (None, t.1, t.2, ap (λ (l : List Bool). false ∷ l) t.3)

    flag_again : (a : Option A) (rest : List Bool) → MatchOption a IsDefault IsRead → (flag short >>= λ custom. cond custom field other) (flagged_bits bits a ++ rest) ≡ Ok (flagged_value default value a, rest)
    flag_again None rest ok = d.again tt rest ok
    flag_again (Some a) rest ok = c.again a rest ok

-- ---- the next bits or bytes

items_takes : {T E : Type 0} (b : Bool) (y x : List T × List T) (short : E) → cond b (Err short) (done y) ≡ Ok x → (b ≡ false) × (y ≡ x)
items_takes true y x short h = absurd cc
items_takes {E = E} false y x short h = (refl, ok_is {E = E} y x h)

pub next_items_codec : {T E : Type 0} (short : E) (n : ℕ) → IsCodec (next_items {T = T} short n) (λ a. a) (λ a. a) (λ a. length a ≡ n)
next_items_codec {T = T} {E = E} short n = record {
  takes = λ all x rest h.
      let is = items_takes (ltb (length all) n) (take n all, drop n all) (x, rest) short h in
      let enough : n ≤ length all = ltb-false _ _ is.0 in
      let x-is : take n all ≡ x = ap (λ (w : List T × List T). w.0) is.1 in
      let rest-is : drop n all ≡ rest = ap (λ (w : List T × List T). w.1) is.1 in
      (x, ap length (sym x-is) ∙ length-take-le n all enough, refl, sym (take-append-drop n all) ∙ ap (λ (w : List T × List T). w.0 ++ w.1) is.1);
  again = λ a rest ok.
      let fits : ltb (length (a ++ rest)) n ≡ false = le-ltb _ _ (omega (arith, length-append a rest)) in
      let front : take n (a ++ rest) ≡ a = ap (λ (k : ℕ). take k (a ++ rest)) (sym ok) ∙ take-append_seam a rest in
      let behind : drop n (a ++ rest) ≡ rest = ap (λ (k : ℕ). drop k (a ++ rest)) (sym ok) ∙ drop-append_seam a rest in
      rw (fits, front, behind) refl;
}
