-- What is told, after two calls.
use Rattle.std.proofs.Common.{◌≡◌, append_assoc, append-nil, ap, ◌∙◌}
use Rattle.std.specs.Prelude.{Option, None, Some}
use Rattle.vc_slice.specs.Asked.{Told, Grows, nothing_told, told_more}

pub told_assoc : (a b c : Told) → told_more (told_more a b) c ≡ told_more a (told_more b c)
told_assoc a b c = simp append_assoc

pub grows_twice : (a b c : Option Told) (d e : Told) → Grows a b d → Grows b c e
    → Grows a c (told_more d e)
grows_twice None None None d e p q = tt
grows_twice None None (Some z) d e p q = absurd q
grows_twice None (Some y) c d e p q = absurd p
grows_twice (Some x) None None d e p q = tt
grows_twice (Some x) None (Some z) d e p q = absurd q
grows_twice (Some x) (Some y) None d e p q = tt
grows_twice (Some x) (Some y) (Some z) d e p q = q ∙ (ap (λ t. told_more t e) p ∙ told_assoc x d e)

pub grows_none : (a : Option Told) → Grows a a nothing_told
grows_none None = tt
grows_none (Some x) = simp append-nil
