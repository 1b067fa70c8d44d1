-- Pictures are let go in rising order: those that are let go later stand after those that are let go now, and so does
-- what they write.
use Rattle.std.proofs.Common.{◌≡◌, ℕ, ◌+◌, ◌-◌, ◌<◌, ◌≤◌, Bool, true, false, List, [], ◌∷◌, ◌++◌, refl, ap, sym, ◌∙◌, inl, inr, arith, cond, ◌⊎◌, filter}
use Rattle.std.specs.List.{flat_map, range_with_len}
use Rattle.std.proofs.lemmas.Bool.{cases_lt, false≢true}
use Rattle.std.proofs.lemmas.List.Concat.{flat_map-append}
use Rattle.link_model.specs.Complete.{whole_picture}
use Rattle.link_model.specs.Kept.{own, split_parts}
use Rattle.link_model.specs.Numbers.{Numbered, greatest, least, parts_of, entered, has_parts, is_opened, opened_numbers}
use Rattle.link_model.specs.Output.{complete_at, frame_bytes_at, is_let_go, all_frames, frames_so_far, let_go_numbers, IsPrefixOf}
use Rattle.link_model.specs.Session.{Part, Fragment}
use Rattle.link_model.proofs.Numbering.{Follows, entered_follows, parts_of-outside}
use Rattle.link_model.proofs.Ranges.{filter_is, flat_map-filter, same_pieces, in_longer, prefix_over}
use Rattle.link_model.proofs.Releasing.{let_go_at, let_go_before, let_go_later, frame_same}
use Rattle.vc_types.specs.SequenceHeader.{Sequence}

-- ---- pictures that are opened

opened_inside : (es : List Numbered) (n : ℕ) → (n < least es) ⊎ (greatest es < n) → is_opened es n ≡ false
opened_inside es n outside = ap has_parts (parts_of-outside n es outside)

module _ (s : Sequence) (es : List Numbered) where
  pub complete_opened : (n : ℕ) → complete_at s es n ≡ true → is_opened es n ≡ true
  unfolding complete_at whole_picture own split_parts
  complete_opened n e = grind arith

pub no_parts : (parts : List Part) → has_parts parts ≡ false → parts ≡ []
no_parts [] e = refl
no_parts (part ∷ parts) e = absurd (false≢true (sym e))

pub has_more : (parts more : List Part) → has_parts parts ≡ true → has_parts (parts ++ more) ≡ true
has_more [] more e = absurd (false≢true e)
has_more (part ∷ parts) more e = refl

-- ---- the opened pictures over any longer range

module _ (es : List Numbered) where
  abbrev pub one : ℕ → List ℕ
  one n = cond (is_opened es n) (n ∷ []) []

  abbrev pub long : ℕ
  long = greatest es + 1 - least es

  abbrev pub past : ℕ
  past = least es + long

  one-outside : (n : ℕ) → (n < least es) ⊎ (past ≤ n) → one n ≡ []
  one-outside n (inl below) = ap (λ (b : Bool). cond b (n ∷ []) []) (opened_inside es n (inl below))
  one-outside n (inr above) = ap (λ (b : Bool). cond b (n ∷ []) []) (opened_inside es n (inr (omega arith)))

  pub opened-over : (n rest : ℕ) → past + rest ≡ n → opened_numbers es ≡ flat_map one (range_with_len 0 n)
  unfolding opened_numbers
  opened-over n rest size = grind (arith, filter_is, in_longer, one-outside)

  -- those that pass a test
  module _ (test : ℕ → Bool) where
    abbrev pub passing : ℕ → List ℕ
    passing n = cond (test n) (one n) []

    exchanged : (n : ℕ) → cond (is_opened es n) (cond (test n) (n ∷ []) []) [] ≡ passing n
    exchanged n = grind arith

    pub passing-over : (n rest : ℕ) → past + rest ≡ n → filter test (opened_numbers es) ≡ flat_map passing (range_with_len 0 n)
    unfolding opened_numbers
    passing-over n rest size =
        grind (arith, exchanged, filter_is, flat_map-filter, in_longer, one-outside, same_pieces)

-- ---- pictures that are let go

module _ (window : ℕ) (s : Sequence) (old new : List Numbered) (later : Follows window old new) where
  pub opened_same : (n : ℕ) → is_let_go window s old n ≡ true → is_opened new n ≡ is_opened old n
  opened_same n gone = elim (cases_lt (greatest old) (n + window)) [
    | inl unclosed ↦ (let was = complete_opened s old n (let_go_at window s old n n gone unclosed (omega arith)) in
        ap has_parts (later.adds n).1 ∙ has_more (parts_of n old) (later.adds n).0 was ∙ sym was)
    | inr closed ↦ ap has_parts (later.closed n closed)
  ]

  one_same : (n : ℕ) → is_let_go window s old n ≡ true → one old n ≡ one new n
  one_same n gone = ap (λ (b : Bool). cond b (n ∷ []) []) (sym (opened_same n gone))

  abbrev both : ℕ
  both = past old + past new

  -- what is let go later stands after what is let go now
  pub let_go_numbers_grow : IsPrefixOf (let_go_numbers window s old) (let_go_numbers window s new)
  unfolding let_go_numbers
  let_go_numbers_grow =
      let prefix = prefix_over (is_let_go window s old) (is_let_go window s new) (one old) (one new) (λ f g h gone. let_go_before window s old g f h gone)
      (λ n gone. let_go_later window s old new later n gone) one_same 0 both in (
        prefix.0,
        passing-over new (is_let_go window s new) both (past old) (omega arith)
            ∙ prefix.1
            ∙ ap (λ (l : List ℕ). l ++ prefix.0) (sym (passing-over old (is_let_go window s old) both (past new) (omega arith))),
      )

  -- what was written stays
  abbrev piece : List Numbered → ℕ → List ℕ
  piece es n = cond (is_let_go window s old n) (frame_bytes_at s es n) []

  written_same : flat_map (frame_bytes_at s new) (let_go_numbers window s old) ≡ frames_so_far window s old
  unfolding let_go_numbers frames_so_far
  written_same = grind (arith, flat_map-filter, same_pieces, frame_same)

  -- the pictures that are let go now, and what they add
  pub releases : (rest : List ℕ) × (let_go_numbers window s new ≡ let_go_numbers window s old ++ rest) × (frames_so_far window s new ≡ frames_so_far window s old ++ flat_map (frame_bytes_at s new) rest)
  unfolding frames_so_far
  releases = grind (arith, flat_map-append, let_go_numbers_grow, written_same)

-- the pictures that are left when the input ends
module _ (window : ℕ) (s : Sequence) (es : List Numbered) where
  pub opened_grow : IsPrefixOf (let_go_numbers window s es) (opened_numbers es)
  unfolding let_go_numbers
  opened_grow =
      let prefix = prefix_over (is_let_go window s es) (λ n. true) (one es) (one es) (λ f g h gone. let_go_before window s es g f h gone) (λ n gone. refl) (λ n gone. refl) 0 (past es + 0) in
      (prefix.0, opened-over es (past es + 0) 0 refl ∙ prefix.1 ∙ ap (λ (l : List ℕ). l ++ prefix.0) (sym (passing-over es (is_let_go window s es) (past es + 0) 0 refl)))

  pub last_releases : (rest : List ℕ) × (opened_numbers es ≡ let_go_numbers window s es ++ rest) × (all_frames s es ≡ frames_so_far window s es ++ flat_map (frame_bytes_at s es) rest)
  unfolding frames_so_far all_frames
  last_releases = grind (arith, flat_map-append, opened_grow)

-- ---- the same, of fragments

pub releases_of : (base window : ℕ) (s : Sequence) (fragments more : List Fragment) → (rest : List ℕ) × (let_go_numbers window s (entered base window (fragments ++ more)) ≡ let_go_numbers window s (entered base window fragments) ++ rest)
    × (frames_so_far window s (entered base window (fragments ++ more)) ≡ frames_so_far window s (entered base window fragments) ++ flat_map (frame_bytes_at s (entered base window (fragments ++ more))) rest)
releases_of base window s fragments more = releases window s (entered base window fragments) (entered base window (fragments ++ more)) (entered_follows base window fragments more)

pub ruleset laws = (releases_of, last_releases)
