-- How many bits the samples of generated frames have.
use Rattle.std.proofs.Common.{◌≡◌, ◌≤◌, ℕ, zero, suc, refl, arith}
use Rattle.std.specs.Prelude.{IsTrue}
use Rattle.std.proofs.lemmas.Bool.{false≢true}
use Rattle.cmd_gen.specs.Defaults.{shape_of_frames}
use Rattle.link_model.specs.SendingPictures.{sent_sequence}
use Rattle.vc_types.specs.SenderSettings.{Frames}
use Rattle.vc_types.specs.SequenceHeader.{picture_shape}
use Rattle.vc_types.specs.Settings.{within}
use Rattle.vc_types.specs.Video.{range_of, video_depth}

abbrev luma_bits : ℕ → ℕ
luma_bits range = video_depth (range_of range).luma_excursion

abbrev colour_bits : ℕ → ℕ
colour_bits range = video_depth (range_of range).colour_excursion

at_most_4 : (range : ℕ) → IsTrue (within 1 4 range) → range ≤ 4
at_most_4 range known = grind arith

same_bits : (range : ℕ) → IsTrue (within 1 4 range) → colour_bits range ≡ luma_bits range
unfolding range_of video_depth
same_bits zero known = absurd (false≢true known)
same_bits (suc zero) known = refl
same_bits (suc (suc zero)) known = refl
same_bits (suc (suc (suc zero))) known = refl
same_bits (suc (suc (suc (suc zero)))) known = refl
same_bits (suc (suc (suc (suc (suc more))))) known = absurd (omega (arith, at_most_4 (suc (suc (suc (suc (suc more))))) known))

few_bits : (range : ℕ) → IsTrue (within 1 4 range) → luma_bits range ≤ 16
unfolding range_of video_depth
few_bits zero known = absurd (false≢true known)
few_bits (suc zero) known = omega arith
few_bits (suc (suc zero)) known = omega arith
few_bits (suc (suc (suc zero))) known = omega arith
few_bits (suc (suc (suc (suc zero)))) known = omega arith
few_bits (suc (suc (suc (suc (suc more))))) known = absurd (omega (arith, at_most_4 (suc (suc (suc (suc (suc more))))) known))

-- luma and colour have as many
pub same_depth : (f : Frames) → IsTrue (within 1 4 f.range) → (shape_of_frames f).colour_depth ≡ (shape_of_frames f).luma_depth
unfolding picture_shape sent_sequence
same_depth f known = same_bits f.range known

pub few_luma_bits : (f : Frames) → IsTrue (within 1 4 f.range) → (shape_of_frames f).luma_depth ≤ 16
unfolding picture_shape sent_sequence
few_luma_bits f known = few_bits f.range known
