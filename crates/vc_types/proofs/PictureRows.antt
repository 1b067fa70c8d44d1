-- Two pictures worked by hand, from their header's bits to their planes, by computation; all other rows are data, on which the code runs.
use Rattle.std.proofs.Common.{◌≡◌, ℕ, false, List, [], ◌∷◌, Some, Ok, refl, replicate}
use Rattle.vc_types.specs.Bits.{bits_of, byte_bits}
use Rattle.vc_types.specs.Codes.{uint_at, uint_after}
use Rattle.vc_types.specs.Bounded.{bounded_uint_after, bounded_uint, bounded_sint, bounded_sints}
use Rattle.vc_types.specs.Fields.{number_up_to}
use Rattle.vc_types.specs.Lifting.{weighted, change, lifted}
use Rattle.vc_types.specs.Presentations.{presentation_of}
use Rattle.vc_types.specs.Pictures.{slices_from, decoded_picture, all_placed, standing_at, component_cells}
use Rattle.vc_types.specs.Planes.{output_sample, component_plane, decoded_planes}
use Rattle.vc_types.specs.Quantisation.{quant_factor, quant_offset, dequantised, default_matrix}
use Rattle.vc_types.specs.Rasters.{Raster, raster}
use Rattle.vc_types.specs.SequenceHeader as header
use Rattle.vc_types.specs.SequenceHeader.{Sequence, sequence_header_of, whole_header_of, sequence_header}
use Rattle.vc_types.specs.Slices.{block, coded_slice, quantisers, block_coefficients, decoded_slice}
use Rattle.vc_types.specs.Subbands.{slice_rectangle, place_among, slice_coefficient_count, coefficient_place}
use Rattle.vc_types.specs.TransformParameters as parameters
use Rattle.vc_types.specs.TransformParameters.{transform_parameters}
use Rattle.vc_types.specs.Transforms.{interleaved_across, interleaved, on_columns, on_rows, on_cells, inverse_level, inverse_levels, level_across, levels_across, inverse_transform}
use Rattle.vc_types.specs.Video.{format_of, range_of, video_depth}
use Rattle.vc_types.specs.Wavelets.{synthesis_steps, lifted_by, synthesised}
use Rattle.vc_types.specs.declared.video.Sampling.TheVariants.{S444}

-- the header 70 F6 F0 20: base format 0, 2 by 2, 4:4:4, frames
abbrev pub sequence : Sequence
sequence = record {
  major = 2;
  minor = 0;
  level = 0;
  base = 0;
  width = 2;
  height = 2;
  sampling = S444;
  interlaced = false;
  top_first = false;
  range = record { luma_offset = 0; luma_excursion = 255; colour_offset = 128; colour_excursion = 255 };
  fields = false;
}

pub header_is : sequence_header (bits_of (0x70 ∷ 0xf6 ∷ 0xf0 ∷ 0x20 ∷ [])) ≡ Ok (sequence, false ∷ false ∷ false ∷ false ∷ false ∷ [])
unfolding sequence_header_of whole_header_of header.header_number header.major_version header.profile header.base_video_format header.frame_size header.colour_difference_sampling header.scan_format header.ratio header.clean_area header.excursion header.custom_signal_range header.signal_range_of header.colour_part header.colour_specification header.picture_coding_mode number_up_to uint_at uint_after bits_of byte_bits format_of range_of presentation_of
header_is = refl

-- the planes of a component: these samples, row by row
abbrev pub two_by_two : List ℕ → Raster
two_by_two samples = record { width = 2; height = 2; samples = samples }

-- one slice, whose luma coefficients are LL 0, HL 1, LH 0 and HH 1
pub planes_are : decoded_planes sequence (0x09 ∷ 0x26 ∷ 0x40 ∷ 0x00 ∷ 0x02 ∷ 0x94 ∷ 0x80 ∷ 0x00 ∷ 0x00 ∷ []) ≡ Some (record { y = two_by_two (0x80 ∷ 0x80 ∷ 0x7f ∷ 0x80 ∷ []); c1 = two_by_two (0x80 ∷ 0x80 ∷ 0x80 ∷ 0x80 ∷ []); c2 = two_by_two (0x80 ∷ 0x80 ∷ 0x80 ∷ 0x80 ∷ []) })
unfolding decoded_planes decoded_picture transform_parameters parameters.wavelet_transform parameters.with_matrix parameters.number parameters.wavelet_index parameters.wavelet_depth parameters.extended_parameters parameters.slice_counts parameters.prefix_bytes parameters.size_scaler parameters.matrix_value parameters.matrix_values parameters.quantisation_matrix default_matrix header.picture_shape video_depth number_up_to uint_at uint_after bits_of byte_bits slices_from coded_slice block decoded_slice block_coefficients quantisers slice_rectangle slice_coefficient_count bounded_sints bounded_sint bounded_uint bounded_uint_after dequantised quant_factor quant_offset component_plane raster output_sample inverse_transform levels_across inverse_levels inverse_level on_cells on_rows on_columns interleaved synthesised lifted_by synthesis_steps lifted change weighted component_cells standing_at all_placed coefficient_place place_among
planes_are = refl

-- one level across alone below one both ways, and H is 1
abbrev four_by_two : List ℕ → Raster
four_by_two samples = record { width = 4; height = 2; samples = samples }

pub level_across_alone : decoded_planes (record sequence { major = 3; width = 4 }) (0x09 ∷ 0x49 ∷ 0x33 ∷ 0xf8 ∷ 0x00 ∷ 0x01 ∷ 0x97 ∷ 0x00 ∷ 0x00 ∷ []) ≡ Some (record { y = four_by_two (0x7f ∷ 0x7f ∷ 0x80 ∷ 0x80 ∷ 0x7f ∷ 0x7f ∷ 0x80 ∷ 0x80 ∷ []); c1 = four_by_two (replicate 8 0x80); c2 = four_by_two (replicate 8 0x80) })
unfolding decoded_planes decoded_picture transform_parameters parameters.wavelet_transform parameters.with_matrix parameters.number parameters.wavelet_index parameters.wavelet_depth parameters.extended_parameters parameters.slice_counts parameters.prefix_bytes parameters.size_scaler parameters.matrix_value parameters.matrix_values parameters.quantisation_matrix default_matrix header.picture_shape video_depth number_up_to uint_at uint_after bits_of byte_bits slices_from coded_slice block decoded_slice block_coefficients quantisers slice_rectangle slice_coefficient_count bounded_sints bounded_sint bounded_uint bounded_uint_after dequantised quant_factor quant_offset component_plane raster output_sample inverse_transform levels_across level_across interleaved_across inverse_levels inverse_level on_cells on_rows on_columns interleaved synthesised lifted_by synthesis_steps lifted change weighted component_cells standing_at all_placed coefficient_place place_among
level_across_alone = refl
