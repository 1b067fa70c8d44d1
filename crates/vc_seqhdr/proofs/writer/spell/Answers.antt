use Rattle.std.proofs.Common.{◌≡◌, ℕ, true, Bool, List, [], ◌∷◌, ◌++◌, ap, ◌∙◌}
use Rattle.vc_types.specs.Bits.{digit_of}
use Rattle.vc_types.specs.Codes.{uint_bits}
use Rattle.vc_types.specs.Fields.{flagged_bits, joined, pair_bits, filled_up}
use Rattle.vc_types.specs.HeaderSpelling.{area_bits, choice_bits, colour_bits, header_bits, encoder_header_with, encoder_base, sampling_index, preset_of}
use Rattle.vc_types.specs.SequenceHeader.{sequence_of}
use Rattle.vc_seqhdr.proofs.HeaderParts.{joined_four}
use Rattle.vc_seqhdr.proofs.writer.spell.Goals as goal

abbrev versions : ℕ → List (List Bool)
versions base = uint_bits 3 ∷ uint_bits 0 ∷ uint_bits 3 ∷ uint_bits 0 ∷ uint_bits base ∷ []

pub returns : goal.returns
returns c =
    let h = c.args.h.now in
    let shown = c.args.shown.now in
    let picture : List (List Bool) = (true ∷ pair_bits (h.width, h.height)) ∷ (true ∷ uint_bits (sampling_index h.sampling)) ∷ (true ∷ uint_bits (digit_of h.fields)) ∷ [] in
    let shape : List (List Bool) = flagged_bits (choice_bits pair_bits) shown.frame_rate ∷ flagged_bits (choice_bits pair_bits) shown.aspect_ratio ∷ flagged_bits area_bits shown.clean_area ∷ [] in
    let colour : List (List Bool) = (true ∷ uint_bits (preset_of h.range)) ∷ flagged_bits (choice_bits colour_bits) shown.colour ∷ uint_bits (digit_of h.fields) ∷ [] in
    let version : c.write_version.new.w ≡ joined (versions (encoder_base h.top_first)) =
    c.in_ok-write_version.ensures ∙ ap (λ (l : List Bool). l ++ joined (versions h.base)) c.new-w.ensures ∙ ap (λ (base : ℕ). joined (versions base)) c.requires in
    let whole : c.write_colour.new.w ≡ header_bits (encoder_header_with shown (sequence_of h)) =
    c.in_ok-write_colour.ensures ∙ ap (λ (l : List Bool). l ++ joined colour) (c.in_ok-write_shape.ensures ∙ ap (λ (l : List Bool). l ++ joined shape) (c.in_ok-write_picture.ensures ∙ ap (λ (l : List Bool). l ++ joined picture) version))
    ∙ joined_four (versions (encoder_base h.top_first)) picture shape colour in
    c.finish.ensures ∙ ap filled_up whole
