-- Parts of a header that are written one after another.
use Rattle.std.proofs.Common.{◌≡◌, Bool, List, [], ◌∷◌, ◌++◌, refl, sym, ap, ◌∙◌, append_assoc}
use Rattle.vc_types.specs.Fields.{joined}

pub joined-append : (some more : List (List Bool)) → joined (some ++ more) ≡ joined some ++ joined more
joined-append [] more = refl
joined-append (part ∷ some) more = ap (λ (l : List Bool). part ++ l) (joined-append some more) ∙ sym (append_assoc part (joined some) (joined more))

pub joined_four : (a b c d : List (List Bool)) → ((joined a ++ joined b) ++ joined c) ++ joined d ≡ joined (((a ++ b) ++ c) ++ d)
joined_four a b c d =
    ap (λ (l : List Bool). (l ++ joined c) ++ joined d) (sym (joined-append a b))
    ∙ ap (λ (l : List Bool). l ++ joined d) (sym (joined-append (a ++ b) c))
    ∙ sym (joined-append ((a ++ b) ++ c) d)
