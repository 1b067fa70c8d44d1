-- What a sender tells of how its frames are shown can be coded.
use Rattle.std.proofs.Common.{◌≡◌, ℕ, ◌+◌, ◌-◌, ◌^◌, ◌/◌, ◌<◌, ◌≤◌, Bool, true, false, cond, List, length, Option, Some, None, refl, lit≤, arith, nat_lt, div-le_self}
use Rattle.std.specs.Prelude.{IsTrue, IfSome, ◌&&◌}
use Rattle.std.specs.List.{position_or_len}
use Rattle.std.specs.Option.{option_map, option_map_or}
use Rattle.std.proofs.lemmas.Bool.{and_parts}
use Rattle.std.proofs.lemmas.Bool.Decides.{nat_tests}
use Rattle.vc_types.specs.HeaderSpelling.{IsNumber, IsChoice, ArePair, IsArea, IsColour, IsPresentation}
use Rattle.vc_types.specs.Presentations.{area, choice_in, frame_rates, is_ratio, pixel_aspect_ratios, ratio_within, told_fits, told_presentation}
use Rattle.vc_types.specs.Ratios.{greatest_divisor, lowest_terms}
use Rattle.vc_types.specs.Settings.{within}
use Rattle.vc_types.specs.declared.presentation.Choice.{Choice}
use Rattle.vc_types.specs.declared.presentation.Choice.TheVariants.{Preset, Custom}
use Rattle.vc_types.specs.declared.presentation.Colour.{Colour}
use Rattle.vc_types.specs.declared.settings.Told.{Told}

choice_is : (table : List (ℕ × ℕ)) (r : ℕ × ℕ) → length table ≤ 16 → ArePair r → IsChoice (2 ^ 32 - 1) ArePair (choice_in table r)
unfolding choice_in
choice_is table r few are = by_place (nat_lt (position_or_len (is_ratio r) table) (length table)) refl
  where
    by_place : (b : Bool) → nat_lt (position_or_len (is_ratio r) table) (length table) ≡ b
        → IsChoice (2 ^ 32 - 1) ArePair (option_map_or (λ place. Preset (place + 1)) (cond b (Some (position_or_len (is_ratio r) table)) None) (Custom r))
    by_place true found =
        let place : position_or_len (is_ratio r) table < length table = grind (arith, nat_tests) in (omega arith, omega (arith, place, few))
    by_place false found = are

quotient_fits : (a b : ℕ) → IsNumber a → IsNumber (a / b)
quotient_fits a b fits = omega (arith, div-le_self a b, fits)

terms_fit : (r : ℕ × ℕ) → ArePair r → ArePair (lowest_terms r)
unfolding lowest_terms
terms_fit r are = (quotient_fits r.0 (greatest_divisor r.0 r.1) are.0, quotient_fits r.1 (greatest_divisor r.0 r.1) are.1)

pair_of : (high : ℕ) (r : ℕ × ℕ) → high ≤ 2 ^ 32 - 1 → IsTrue (ratio_within high r) → ArePair r
pair_of high r low fits = (grind (arith, nat_tests), grind (arith, nat_tests))

aspect_is : (aspect : Option (ℕ × ℕ)) → option_map_or (ratio_within 65535) aspect true ≡ true → IfSome (option_map (λ r. choice_in pixel_aspect_ratios (lowest_terms r)) aspect) (IsChoice (2 ^ 32 - 1) ArePair)
aspect_is None fits = tt
aspect_is (Some r) fits = choice_is pixel_aspect_ratios (lowest_terms r) (lit≤ tt) (terms_fit r (pair_of 65535 r (lit≤ tt) fits))

colour_is : (colour : Option ℕ) → option_map_or (within 1 7) colour true ≡ true → IfSome {T = Choice Colour} (option_map Preset colour) (IsChoice (2 ^ 32 - 1) IsColour)
colour_is None fits = tt
colour_is (Some number) fits = (grind (arith, nat_tests), grind (arith, nat_tests))

pub is_coded : (width height : ℕ) (t : Told) → IsNumber width → IsNumber height → IsTrue (told_fits t) → IsPresentation (told_presentation width height t)
is_coded width height t across down fits =
    let whole = and_parts (ratio_within 4294967295 t.rate && option_map_or (ratio_within 65535) t.aspect true) (option_map_or (within 1 7) t.colour true) fits in
    let ratios = and_parts (ratio_within 4294967295 t.rate) (option_map_or (ratio_within 65535) t.aspect true) whole.0 in
    record {
      frame_rate = choice_is frame_rates (lowest_terms t.rate) (lit≤ tt) (terms_fit t.rate (pair_of 4294967295 t.rate (lit≤ tt) ratios.0));
      aspect_ratio = aspect_is t.aspect ratios.1;
      clean_area = record { width = across; height = down; left = lit≤ tt; top = lit≤ tt };
      colour = colour_is t.colour whole.1;
    }
