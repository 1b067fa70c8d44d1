-- Numbers among others, how many pass a test, and pictures that are opened.
use Rattle.std.proofs.Common.{◌≡◌, ℕ, zero, suc, ◌+◌, ◌<◌, ◌≤◌, Bool, true, refl, ap}
use Rattle.std.proofs.Common.{List, [], ◌∷◌, ◌++◌, Option, Some, None, arith}
use Rattle.std.specs.Prelude.{is_some, filter, count_by}
use Rattle.std.specs.List.{range_with_len}
use Rattle.std.specs.Option.{option_and_then}
use Rattle.std.proofs.lemmas.Bool.{false≢true}
use Rattle.std.proofs.lemmas.Grind.{common_steps}
use Rattle.std.proofs.lemmas.List.Elements.{filter-append}
use Rattle.std.proofs.lemmas.List.Sums.{length-filter}
use Rattle.std.proofs.lemmas.Option.{none-some}
use Rattle.link_model.specs.Complete.{whole_picture}
use Rattle.machine_model.specs.Feeders.{is_among}
use Rattle.link_model.specs.Kept.{Own, own, split_parts}
use Rattle.link_model.specs.Numbers.{Numbered, is_opened, parts_of}
use Rattle.link_model.specs.Output.{complete_at, planes_at}
use Rattle.link_model.proofs.Leaving.{complete_opened}
use Rattle.vc_types.specs.Planes.{Planes, decoded_planes}
use Rattle.vc_types.specs.SequenceHeader.{Sequence}
use Rattle.receiver_model.specs.Releasing.{one_if}

-- ---- lists

pub among_filter : (test : ℕ → Bool) (l : List ℕ) (k : ℕ) → is_among l k ≡ true → test k ≡ true
    → is_among (filter test l) k ≡ true
among_filter test [] k there passes = absurd (false≢true there)
among_filter test (j ∷ l) k there passes = grind (arith, among_filter test l k)

pub among_range : (k m a : ℕ) → a ≤ k → k < a + m → is_among (range_with_len a m) k ≡ true
among_range k zero a from to = absurd (omega arith)
among_range k (suc m) a from to = grind (arith, among_range k m)

pub count_push : (test : ℕ → Bool) (l : List ℕ) (n : ℕ)
    → count_by test (l ++ n ∷ []) ≡ count_by test l + one_if (test n)
count_push test l n = grind (arith, common_steps, filter-append, length-filter)

-- ---- planes of what was entered

module _ (s : Sequence) (es : List Numbered) (m : ℕ) where
  -- a picture that has planes is opened
  pub planes_opened : (planes : Planes) → planes_at s es m ≡ Some planes
      → is_opened es m ≡ true
  unfolding planes_at complete_at
  planes_opened planes e = complete_opened s es m
      (by_whole (whole_picture s (parts_of m es)) refl e)
    where
      by_whole : (o : Option (List ℕ)) → whole_picture s (parts_of m es) ≡ o
          → option_and_then (decoded_planes s) o ≡ Some planes
          → is_some (whole_picture s (parts_of m es)) ≡ true
      by_whole None at e = absurd (none-some planes e)
      by_whole (Some bytes) at e = ap is_some at

  -- and so is one that keeps something
  pub keeps_opened : (kept : Own) → own s (parts_of m es) ≡ Some kept → is_opened es m ≡ true
  unfolding own split_parts
  keeps_opened kept is = grind arith
