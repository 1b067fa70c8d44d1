-- What reports and names are written as, and what a list has that they are appended to.
use Rattle.std.proofs.Common.{◌≡◌, ℕ, ◌+◌, ◌-◌, ◌*◌, ◌/◌, List, [], ◌∷◌, ◌++◌, length, take, replicate, Option, Some, None, Result, OnOk, refl, sym, subst, ap, ap₂, ◌∙◌, arith, append_assoc}
use Rattle.std.proofs.lemmas.List.{length-append, length-replicate, take_all}
use Rattle.byteorder.specs.Endian.{big_bytes}
use Rattle.rtcp_reports.specs.Rtcp.{packet_bytes, block_bytes, receiver_bytes, sender_info_bytes, sender_bytes, zeros_behind, name_words, description_bytes}
use Rattle.rtcp_reports.specs.declared.block.Block.{Block}
use Rattle.rtcp_reports.specs.declared.block.SenderInfo.{SenderInfo}

-- the body of a description
abbrev pub describing : ℕ → List ℕ → List ℕ
describing ssrc name = big_bytes 4 ssrc ++ (1 ∷ length name ∷ (name ++ replicate (zeros_behind (length name)) 0))

words_of : (n : ℕ) → 4 + (2 + (n + zeros_behind n)) ≡ 4 * name_words n
words_of n = omega arith

pub length-describing : (ssrc : ℕ) (name : List ℕ) → length (describing ssrc name) ≡ 4 * name_words (length name)
length-describing ssrc name = omega (arith, length-append name (replicate (zeros_behind (length name)) 0), length-replicate {A = ℕ} (zeros_behind (length name)) 0, words_of (length name))

-- its bytes up to the name
abbrev pub described_head : ℕ → ℕ → List ℕ
described_head ssrc count = 129 ∷ 202 ∷ (big_bytes 2 (name_words count) ++ (big_bytes 4 ssrc ++ (1 ∷ count ∷ [])))

whole_description : (ssrc : ℕ) (name : List ℕ) → (described_head ssrc (length name) ++ name) ++ replicate (zeros_behind (length name)) 0 ≡ description_bytes ssrc name
unfolding description_bytes packet_bytes
whole_description ssrc name =
    let words : length (describing ssrc name) / 4 ≡ name_words (length name) = omega (arith, length-describing ssrc name) in
    ap (λ (n : ℕ). 129 ∷ 202 ∷ (big_bytes 2 n ++ describing ssrc name)) (sym words)

-- a list that is filled up with zeros
filled : (items : List ℕ) (end count zeros : ℕ) → count ≡ length items → end ≡ count + zeros → take end items ++ replicate (end - count) 0 ≡ items ++ replicate zeros 0
filled items end count zeros c e =
    let all : take end items ≡ items = take_all end items (omega arith) in
    let rest : end - count ≡ zeros = omega arith in
    rw (all, rest) refl

pub described_behind : (old head name items new : List ℕ) (ssrc end count : ℕ) → head ≡ described_head ssrc (length name) → items ≡ old ++ (head ++ name) → count ≡ length items → end ≡ count + zeros_behind (length name)
    → new ≡ take end items ++ replicate (end - count) 0 → new ≡ old ++ description_bytes ssrc name
described_behind old head name items new ssrc end count is before c e after =
    let zeros : List ℕ = replicate (zeros_behind (length name)) 0 in
    after ∙ filled items end count (zeros_behind (length name)) c e
    ∙ ap (λ (l : List ℕ). l ++ zeros) before
    ∙ append_assoc old (head ++ name) zeros
    ∙ ap (λ (l : List ℕ). old ++ ((l ++ name) ++ zeros)) is
    ∙ ap (λ (l : List ℕ). old ++ l) (whole_description ssrc name)

-- ---- reports

-- what is written of a report, behind its head
some_report : (ssrc : ℕ) (block : Block) → (129 ∷ 201 ∷ (big_bytes 2 7 ++ big_bytes 4 ssrc)) ++ block_bytes block ≡ receiver_bytes ssrc (Some block)
unfolding receiver_bytes packet_bytes block_bytes
some_report ssrc block = refl

pub one_report : (ssrc : ℕ) (block : Block) (given : Option Block) (head body : List ℕ) → given ≡ Some block → head ≡ 129 ∷ 201 ∷ (big_bytes 2 7 ++ big_bytes 4 ssrc) → body ≡ block_bytes block → head ++ body ≡ receiver_bytes ssrc given
one_report ssrc block given head body is is_head is_body =
    ap₂ (λ (x y : List ℕ). x ++ y) is_head is_body ∙ some_report ssrc block ∙ sym (ap (λ (o : Option Block). receiver_bytes ssrc o) is)

none_report : (ssrc : ℕ) → (128 ∷ 201 ∷ (big_bytes 2 1 ++ big_bytes 4 ssrc)) ++ [] ≡ receiver_bytes ssrc None
unfolding receiver_bytes packet_bytes
none_report ssrc = refl

pub no_report : (ssrc : ℕ) (given : Option Block) (head body : List ℕ) → given ≡ None → head ≡ 128 ∷ 201 ∷ (big_bytes 2 1 ++ big_bytes 4 ssrc) → body ≡ [] → head ++ body ≡ receiver_bytes ssrc given
no_report ssrc given head body is is_head is_body =
    ap₂ (λ (x y : List ℕ). x ++ y) is_head is_body ∙ none_report ssrc ∙ sym (ap (λ (o : Option Block). receiver_bytes ssrc o) is)

pub sender_report_of : (s : SenderInfo) (head body : List ℕ) → head ≡ 128 ∷ 200 ∷ (big_bytes 2 6 ++ big_bytes 4 s.ssrc) → body ≡ sender_info_bytes s → head ++ body ≡ sender_bytes s
unfolding sender_bytes packet_bytes sender_info_bytes
sender_report_of s head body is_head is_body = ap₂ (λ (x y : List ℕ). x ++ y) is_head is_body

-- a report with a description behind it
pub compound_behind : {T E : Type 0} (result : Result T E) (old new report is rest : List ℕ) → OnOk result (new ≡ old ++ (report ++ rest)) → report ≡ is → OnOk result (new ≡ old ++ (is ++ rest))
compound_behind result old new report is rest wrote same =
    subst (λ (x : List ℕ). OnOk result (new ≡ old ++ (x ++ rest))) same wrote
