-- A read of an unsigned number by a caller that has refusals of its own, which names the ruleset `renamed` in its tactic.
use Rattle.std.proofs.Common.{◌≡◌, ℕ, ◌<◌, ◌≤◌, Bool, true, false, ltb, List, Some, Ok, Err, ap, ◌∙◌, refl}
use borrow.Author.Tests.{lt-ltb, le-ltb}
use Rattle.vc_types.specs.Codes.{uint_at}
use Rattle.vc_types.specs.Fields.{number_from, number_up_to}
use Rattle.vc_golomb.specs.declared.uint.UintRefusal.TheVariants.{End, TooLarge}
use Rattle.vc_golomb.proofs.Reading.{accepted, refused, ended}

pub small_is : {E : Type 0} (short large : E) (max : ℕ) (x : ℕ × List Bool) → x.0 ≤ max → number_from short large max (Some x) ≡ Ok x
small_is short large max x le = let test : ltb max x.0 ≡ false = le-ltb _ _ le in rw test refl

large_is : {E : Type 0} (short large : E) (max : ℕ) (x : ℕ × List Bool) → max < x.0 → number_from short large max (Some x) ≡ Err large
large_is short large max x lt = let test : ltb max x.0 ≡ true = lt-ltb _ _ lt in rw test refl

-- a number that is read
pub read_again : {E : Type 0} (short large : E) (max : ℕ) (bits : List Bool) (v : ℕ) (new : List Bool) → number_up_to End TooLarge max bits ≡ Ok (v, new) → number_up_to short large max bits ≡ Ok (v, new)
unfolding number_up_to
read_again short large max bits v new h = let both = accepted max (uint_at bits) (v, new) h in ap (number_from short large max) both.0 ∙ small_is short large max (v, new) both.1

-- none
pub short_again : {E : Type 0} (short large : E) (max : ℕ) (bits : List Bool) → number_up_to End TooLarge max bits ≡ Err End → number_up_to short large max bits ≡ Err short
unfolding number_up_to
short_again short large max bits h = ap (number_from short large max) (ended max (uint_at bits) h)

-- one that is too large
pub large_again : {E : Type 0} (short large : E) (max : ℕ) (bits : List Bool) → number_up_to End TooLarge max bits ≡ Err TooLarge → number_up_to short large max bits ≡ Err large
unfolding number_up_to
large_again short large max bits h = let x = refused max (uint_at bits) h in ap (number_from short large max) x.1 ∙ large_is short large max x.0 x.2

pub ruleset renamed = (read_again, short_again, large_again)
