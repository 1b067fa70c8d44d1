-- The book of a list of parts has whole slices, and is of a picture of its sequence.
use Rattle.std.proofs.Common.{◌≡◌, Bool, List, [], ◌∷◌, Option, Some, None, Result, Ok, Err}
use Rattle.std.proofs.Common.{refl, sym, ap, subst, ◌∙◌, arith}
use Rattle.std.specs.Option.{option_map}
use Rattle.std.proofs.lemmas.List.FromFn.{length-map-range_with_len}
use Rattle.std.proofs.lemmas.Option.{none-some, same_Some}
use Rattle.link_model.specs.Books.{Book, book_of, gathered_of}
use Rattle.link_model.specs.Kept.{KeptParameters, kept_parameters, parameters_in, SplitParts}
use Rattle.link_model.specs.Kept.{split_parts, Own, own}
use Rattle.link_model.specs.Session.{Part, ParamsPart, SlicesPart}
use Rattle.link_model.proofs.Slots.{slot_inside, slot_outside}
use Rattle.link_model.proofs.WholeBytes.{own_slice_whole}
use Rattle.receiver_model.specs.WholeBooks.{IsWholeGathered, IsWholeBook}
use Rattle.vc_types.specs.Bits.{bits_of}
use Rattle.vc_types.specs.SequenceHeader.{Sequence, picture_shape, with_bytes_used}
use Rattle.vc_types.specs.TransformParameters.{Parameters, transform_parameters}
use Rattle.vc_types.specs.declared.refusal.ParamsRefusal.{ParamsRefusal}
use Rattle.vc_types.proofs.ParameterCodecs.{parameters_are}
use Rattle.vc_types.proofs.WholeSlices.{whole_slice}

module _ (s : Sequence) where
  abbrev HasShape : Parameters → Type 0
  HasShape p = p.shape ≡ picture_shape s

  planned_shape : (part : Part) (plan : KeptParameters) → parameters_in s part ≡ Some plan
      → HasShape plan.parameters
  unfolding parameters_in
  planned_shape (SlicesPart slices) plan e = absurd (none-some plan e)
  planned_shape (ParamsPart body) plan e = by_read (transform_parameters s (bits_of body)) refl e
    where
      by_read : (r : Result (Parameters × List Bool) ParamsRefusal)
          → transform_parameters s (bits_of body) ≡ r
          → kept_parameters body (with_bytes_used body r) ≡ Some plan → HasShape plan.parameters
      by_read (Err refusal) is e = absurd (none-some plan e)
      by_read (Ok read) is e =
          let spelled = (parameters_are s).takes (bits_of body) read.0 read.1 is in
          ap (λ (k : KeptParameters). k.parameters.shape) (sym (same_Some _ plan e))
          ∙ ap (λ (p : Parameters). p.shape) (sym spelled.2)

  parted_shape : (parts : List Part) (p : SplitParts) → split_parts s parts ≡ Some p
      → HasShape p.plan.parameters
  unfolding split_parts
  parted_shape [] p e = absurd (none-some p e)
  parted_shape (part ∷ parts) p e = grind (arith, planned_shape, parted_shape parts)

  module _ (parts : List Part) where
    own_shape : (kept : Own) → own s parts ≡ Some kept → HasShape kept.plan.parameters
    unfolding own
    own_shape kept e = grind (arith, parted_shape)

    gathered_whole : (kept : Own) → own s parts ≡ Some kept → IsWholeGathered s (gathered_of kept)
    gathered_whole kept is =
        grind (arith, own_shape, length-map-range_with_len, own_slice_whole, whole_slice, slot_inside, slot_outside)

    pub book_is_whole : (book : Book) → book ≡ book_of s parts → IsWholeBook s book
    unfolding book_of
    book_is_whole book is g e =
        by_own (own s parts) refl (sym (ap (λ (b : Book). b.gathered) is) ∙ e)
      where
        by_own : (o : Option Own) → own s parts ≡ o → option_map gathered_of o ≡ Some g
            → IsWholeGathered s g
        by_own None at e = absurd (none-some g e)
        by_own (Some kept) at e = subst (IsWholeGathered s) (same_Some (gathered_of kept) g e)
            (gathered_whole kept at)
