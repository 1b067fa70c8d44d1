-- Fields at the front of bytes: what is read is what is spelled there, and what is written is read again.
use Rattle.std.proofs.Common.{◌≡◌, ℕ, ◌+◌, ◌*◌, ◌<◌, Bool, List, ◌++◌, length, Result, Ok, Err, sym, ap, subst, ◌∙◌, append_assoc, length-append, arith}
use Rattle.std.specs.Prelude.{IfOk}
use Rattle.vc_types.specs.Bits.{bits_of}
use Rattle.vc_types.specs.Fields.{Field, IsReadAs, Begins, bytes_for, IsCodec}
use Rattle.vc_types.specs.SequenceHeader.{bytes_used, with_bytes_used}
use Rattle.vc_types.proofs.Bits.{bits_of-append, length-bits_of}
use Rattle.vc_types.proofs.FieldCodecs.{ok_is}

used_is : (bytes : List ℕ) (written rest : List Bool) → bits_of bytes ≡ written ++ rest → bytes_used bytes rest ≡ bytes_for (length written)
used_is bytes written rest h =
    let long : 8 * length bytes ≡ length written + length rest = sym (length-bits_of bytes) ∙ ap length h ∙ length-append written rest in
    omega (arith, long)

read_ok : {E X : Type 0} (bytes : List ℕ) (read : Result (X × List Bool) E) (x : X × ℕ) → with_bytes_used bytes read ≡ Ok x → (rest : List Bool) × (read ≡ Ok (x.0, rest)) × (x.1 ≡ bytes_used bytes rest)
read_ok {E = E} {X = X} bytes (Ok read) x h =
    let same : (read.0, bytes_used bytes read.1) ≡ x = ok_is {E = E} (read.0, bytes_used bytes read.1) x h in
    (read.1, ap (λ (w : X × ℕ). Ok (w.0, read.1)) same, sym (ap (λ (w : X × ℕ). w.1) same))
read_ok bytes (Err refusal) x h = absurd cc

-- What is read at the front of bytes is spelled so.
pub found : {E A X Y : Type 0} {field : Field Bool E X} {bits : A → List Bool} {value : A → X} {IsRead : A → Type 0} (bytes : List ℕ) (view : Y → X × ℕ) (result : Result Y E)
    → IsCodec field bits value IsRead → IsReadAs view result (with_bytes_used bytes (field (bits_of bytes))) → IfOk result (λ y. Begins bits value IsRead bytes (view y).0 (view y).1)
found {field = field} {bits = bits} bytes view (Ok y) c h =
    let read = read_ok bytes (field (bits_of bytes)) (view y) h in
    let a = c.takes (bits_of bytes) (view y).0 read.0 read.1 in
    record {
      spelling = a.0;
      rest = read.0;
      accepted = a.1;
      stands_for = a.2;
      bits = a.3;
      takes = read.2 ∙ used_is bytes (bits a.0) read.0 a.3;
    }
found bytes view (Err refusal) c h = tt

-- What is spelled at the front of bytes is read.
pub only : {E A X Y : Type 0} {field : Field Bool E X} {bits : A → List Bool} {value : A → X} {IsRead : A → Type 0} (bytes : List ℕ) (view : Y → X × ℕ) (result : Result Y E)
    → IsCodec field bits value IsRead → IsReadAs view result (with_bytes_used bytes (field (bits_of bytes))) → (a : A) (rest : List Bool) → IsRead a → bits_of bytes ≡ bits a ++ rest → IsReadAs view result (Ok (value a, bytes_for (length (bits a))))
only {E = E} {X = X} {field = field} {bits = bits} {value = value} bytes view result c h a rest ok begins =
    let read : field (bits_of bytes) ≡ Ok (value a, rest) = ap field begins ∙ c.again a rest ok in
    let whole : with_bytes_used bytes (field (bits_of bytes)) ≡ Ok (value a, bytes_for (length (bits a))) =
    ap (with_bytes_used bytes) read ∙ ap (λ (n : ℕ). Ok (value a, n)) (used_is bytes (bits a) rest begins) in
    subst (λ (r : Result (X × ℕ) E). IsReadAs view result r) whole h

-- What is written, filled up to the edge of a byte, is read again, whatever follows.
pub read_again : {E A X : Type 0} {field : Field Bool E X} {bits : A → List Bool} {value : A → X} {IsRead : A → Type 0} (bytes behind : List ℕ) (a : A) (fill : List Bool)
    → IsCodec field bits value IsRead → IsRead a → bits_of bytes ≡ bits a ++ fill → length fill < 8 → with_bytes_used (bytes ++ behind) (field (bits_of (bytes ++ behind))) ≡ Ok (value a, length bytes)
read_again {field = field} {bits = bits} {value = value} bytes behind a fill c ok written short =
    let all : bits_of (bytes ++ behind) ≡ bits a ++ (fill ++ bits_of behind) = bits_of-append bytes behind ∙ ap (λ (l : List Bool). l ++ bits_of behind) written ∙ append_assoc (bits a) fill (bits_of behind) in
    let read : field (bits_of (bytes ++ behind)) ≡ Ok (value a, fill ++ bits_of behind) = ap field all ∙ c.again a (fill ++ bits_of behind) ok in
    let used : bytes_used (bytes ++ behind) (fill ++ bits_of behind) ≡ length bytes =
    omega (arith, length-append bytes behind, length-append fill (bits_of behind), length-bits_of behind) in
    ap (with_bytes_used (bytes ++ behind)) read ∙ ap (λ (n : ℕ). Ok (value a, n)) used
