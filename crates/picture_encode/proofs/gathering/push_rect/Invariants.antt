use Rattle.std.proofs.Common.{◌≡◌, ◌++◌, ◌*◌, map}
use Rattle.std.specs.List.{range_with_len}
use Rattle.link_model.specs.SendingPictures.{number_at_place}
use Rattle.vc_types.specs.Rasters.{cell_at}
use Rattle.vc_types.specs.Subbands.{place_in}
use Rattle.picture_encode.proofs.gathering.push_rect.Given as goal

abbrev pub invariant-loop-row : goal.invariant-loop-row
invariant-loop-row l = l.coeffs.items ≡ l.initial.coeffs.items ++ map (λ i. number_at_place (cell_at l.grid) (place_in l.rect i)) (range_with_len 0 (l.row * l.rect.width))
