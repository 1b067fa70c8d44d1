-- The first fault of a frame's samples, by those of its planes.
use Rattle.std.proofs.Common.{◌≡◌, ◌*◌, ◌%◌, ◌^◌, ◌<◌, ◌≤◌, ℕ, List, ◌++◌, All, Option, None, Result, Ok, Err, ap, subst, sym, ◌∙◌, OnOk, IfErr, arith}
use Rattle.std.proofs.lemmas.Nat.{one_shl}
use Rattle.std.proofs.lemmas.List.Elements.{All-append, All-weaker}
use Rattle.vc_types.specs.Rasters.{Raster}
use Rattle.std.specs.Option.{option_map, option_or}
use Rattle.link_model.specs.SendingFaults.{SendFault, plane_fault, first_sample_fault, sample_fault}
use Rattle.link_model.specs.SendingPictures.{sent_parameters}
use Rattle.link_sender.specs.Refusals.{SaysFault}
use Rattle.link_sender.specs.declared.refusal.SendRefusal.{SendRefusal}
use Rattle.link_sender.specs.declared.refusal.SendRefusal.TheVariants.{NoMemory}
use Rattle.link_sender.proofs.SentFrames.{none_outside}
use Rattle.vc_types.specs.declared.shape.Shape.{Shape}
use Rattle.vc_types.specs.Planes.{Planes}
use Rattle.vc_types.specs.SenderSettings.{Sending}
use Rattle.vc_types.specs.TransformParameters.{Parameters}

-- a fault that is told stays the first
pub says_first : (a rest : Option SendFault) (e : SendRefusal) → SaysFault a e → SaysFault (option_or a rest) e
says_first a rest NoMemory h = tt
says_first a rest e h = ap (λ (o : Option SendFault). option_or o rest) h

-- where there is none before it
pub says_rest : (a rest : Option SendFault) (e : SendRefusal) → a ≡ None → SaysFault rest e → SaysFault (option_or a rest) e
says_rest a rest NoMemory none h = tt
says_rest a rest e none h = ap (λ (o : Option SendFault). option_or o rest) none ∙ h

pub none_rest : (a rest : Option SendFault) → a ≡ None → rest ≡ None → option_or a rest ≡ None
none_rest a rest none h = ap (λ (o : Option SendFault). option_or o rest) none ∙ h

pub same_says : (a b : Option SendFault) (e : SendRefusal) → a ≡ b → SaysFault a e → SaysFault b e
same_says a b NoMemory same h = tt
same_says a b e same h = sym same ∙ h

-- the first of three planes
abbrev three : Shape → Raster → Raster → Raster → Option SendFault
three shape y c1 c2 = option_or (plane_fault shape.luma_depth 0 y) (option_or (plane_fault shape.colour_depth 1 c1) (plane_fault shape.colour_depth 2 c2))

module _ (p : Parameters) (frame : Planes) (y c1 c2 : Raster) (is_y : y ≡ frame.y) (is_c1 : c1 ≡ frame.c1) (is_c2 : c2 ≡ frame.c2) where
  of_frame : (s : Sending) → sent_parameters s ≡ p → first_sample_fault s frame ≡ three p.shape y c1 c2
  unfolding first_sample_fault
  of_frame s same = λ i. three (same i).shape (sym is_y i) (sym is_c1 i) (sym is_c2 i)

  pub samples_sound : (r : Result (Unit {0}) SendRefusal) → OnOk r (three p.shape y c1 c2 ≡ None) → OnOk r ((s : Sending) → sent_parameters s ≡ p → first_sample_fault s frame ≡ None)
  samples_sound (Ok done) none = λ s same. of_frame s same ∙ none
  samples_sound (Err e) none = tt

  pub samples_refused : (r : Result (Unit {0}) SendRefusal) → IfErr r (λ e. SaysFault (three p.shape y c1 c2) e) → IfErr r (λ e. (s : Sending) → sent_parameters s ≡ p → SaysFault (first_sample_fault s frame) e)
  samples_refused (Ok done) told = tt
  samples_refused (Err e) told = λ s same. same_says (three p.shape y c1 c2) (first_sample_fault s frame) e (sym (of_frame s same)) told

-- samples up to one below the limit are no fault
module _ (depth number most : ℕ) (small : depth ≤ 16) (below : most < 1 * 2 ^ depth % 2 ^ 32) where
  limit_is : 1 * 2 ^ depth % 2 ^ 32 ≡ 2 ^ depth
  limit_is = one_shl depth 32 (omega (arith, small))

  pub no_fault : (r : Raster) → All (λ s. s ≤ most) r.samples → plane_fault depth number r ≡ None
  no_fault r all =
      ap (λ (o : Option (ℕ × ℕ)). option_map (sample_fault number) o)
      (none_outside (2 ^ depth) 0 r.samples (All-weaker (λ s. s ≤ most) (λ s. s < 2 ^ depth) (λ s up. omega (arith, up, below, limit_is)) r.samples all))

  -- the same of samples in two parts
  pub no_fault_in_parts : (r : Raster) (front back : List ℕ) → r.samples ≡ front ++ back → All (λ s. s ≤ most) front → All (λ s. s ≤ most) back → plane_fault depth number r ≡ None
  no_fault_in_parts r front back is some others =
      no_fault r (subst (λ (l : List ℕ). All (λ s. s ≤ most) l) (sym is) (All-append (λ s. s ≤ most) front back some others))
