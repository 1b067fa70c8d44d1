-- What went out of the frames that were generated so far.
use Rattle.std.proofs.Common.{◌≡◌, ◌<◌, ℕ, suc, ◌+◌, ◌*◌, ◌-◌, List, [], ◌∷◌, ◌++◌, Option, Err, sym, ap, subst, ◌∙◌, arith}
use Rattle.std.proofs.lemmas.Grind.{flat_map-append}
use Rattle.std.proofs.lemmas.List.{append-nil}
use Rattle.cmd_gen.specs.Generating.{GenerateEnded, generated_bytes, raw_bytes_of_frames}
use Rattle.cmd_gen.specs.Steps.{PutsFrame, next_bytes}
use Rattle.cmd_gen.proofs.Frames.{frames_then, one_frame_more}
use Rattle.cmd_gen.specs.Defaults.{shape_of_frames}
use Rattle.cmd_gen.specs.Generator.{frame_samples, generated_frame, generated_frames, state_behind}
use Rattle.link_report.specs.declared.ending.Ending.{Ending}
use Rattle.link_report.specs.declared.ending.Ending.TheVariants as endings
use Rattle.vc_ports.proofs.Growing.{Grew-none, Grew-then, GrewBySome-then, GrewBySome-front}
use Rattle.vc_ports.specs.Changes.{OutputChange}
use Rattle.vc_ports.specs.Writing.{Grew, GrewBySome}
use Rattle.vc_types.specs.declared.shape.Shape.{Shape}
use Rattle.vc_types.specs.Planes.{Planes}
use Rattle.vc_types.specs.RawFrames.{frame_bytes, is_wide}
use Rattle.vc_types.specs.SenderSettings.{Generating}

-- ---- before the first frame

pub none_written : (shape : Shape) (z : ℕ) (held : Option (List ℕ)) → Grew held held (raw_bytes_of_frames shape (generated_frames shape z 0))
unfolding generated_frames
none_written shape z held = Grew-none held

pub none_behind : (shape : Shape) (z : ℕ) → z ≡ state_behind z (0 * frame_samples shape)
unfolding state_behind
none_behind shape z = let none : 0 ≡ 0 * frame_samples shape = omega arith in ap (state_behind z) none

-- ---- a frame more

raw_more : (shape : Shape) (frames more : List Planes) → raw_bytes_of_frames shape (frames ++ more) ≡ raw_bytes_of_frames shape frames ++ raw_bytes_of_frames shape more
raw_more shape frames more = flat_map-append (λ (frame : Planes). frame_bytes frame (is_wide shape)) frames more

one_more_bytes : (shape : Shape) (z k : ℕ) → raw_bytes_of_frames shape (generated_frames shape z (k + 1)) ≡ raw_bytes_of_frames shape (generated_frames shape z k) ++ next_bytes shape (state_behind z (k * frame_samples shape))
one_more_bytes shape z k =
    let next = generated_frame shape (state_behind z (k * frame_samples shape)) in
    ap (raw_bytes_of_frames shape) (one_frame_more shape z k)
    ∙ raw_more shape (generated_frames shape z k) (next ∷ [])
    ∙ ap (λ (bytes : List ℕ). raw_bytes_of_frames shape (generated_frames shape z k) ++ bytes) (append-nil (frame_bytes next (is_wide shape)))

pub written_more : (shape : Shape) (z k : ℕ) (before mid after : Option (List ℕ)) → Grew before mid (raw_bytes_of_frames shape (generated_frames shape z k)) → Grew mid after (next_bytes shape (state_behind z (k * frame_samples shape))) → Grew before after (raw_bytes_of_frames shape (generated_frames shape z (k + 1)))
written_more shape z k before mid after wrote next =
    subst (Grew before after) (sym (one_more_bytes shape z k)) (Grew-then before mid after _ _ wrote next)

-- the bytes of all frames begin with those of some, and of the next
all_bytes : (shape : Shape) (z k rest : ℕ) → raw_bytes_of_frames shape (generated_frames shape z (k + suc rest)) ≡ raw_bytes_of_frames shape (generated_frames shape z k) ++ (next_bytes shape (state_behind z (k * frame_samples shape)) ++ raw_bytes_of_frames shape (generated_frames shape (state_behind (state_behind z (k * frame_samples shape)) (frame_samples shape)) rest))
unfolding generated_frames
all_bytes shape z k rest =
    ap (raw_bytes_of_frames shape) (frames_then shape z k (suc rest))
    ∙ raw_more shape (generated_frames shape z k) (generated_frames shape (state_behind z (k * frame_samples shape)) (suc rest))

pub written_part : (shape : Shape) (z k count : ℕ) (before mid after : Option (List ℕ)) → k < count → Grew before mid (raw_bytes_of_frames shape (generated_frames shape z k)) → GrewBySome mid after (next_bytes shape (state_behind z (k * frame_samples shape))) → GrewBySome before after (raw_bytes_of_frames shape (generated_frames shape z count))
written_part shape z k count before mid after some wrote part =
    let n = frame_samples shape in
    let whole : k + suc (count - k - 1) ≡ count = omega (arith, some) in
    let more = raw_bytes_of_frames shape (generated_frames shape (state_behind (state_behind z (k * n)) n) (count - k - 1)) in
    subst (GrewBySome before after) (sym (all_bytes shape z k (count - k - 1)) ∙ ap (λ (frames : ℕ). raw_bytes_of_frames shape (generated_frames shape z frames)) whole)
    (GrewBySome-then before mid after _ _ wrote (GrewBySome-front mid after (next_bytes shape (state_behind z (k * n))) more part))

-- a frame isn't written whole behind others
module _ (g : Generating) (k state : ℕ) (mid : Option (List ℕ)) (output : OutputChange) (room : k < g.count) (at : state ≡ state_behind g.seed (k * frame_samples (shape_of_frames g.frames))) (wrote : Grew output.held.before mid (raw_bytes_of_frames (shape_of_frames g.frames) (generated_frames (shape_of_frames g.frames) g.seed k))) where
  part_out : GrewBySome mid output.held.after (next_bytes (shape_of_frames g.frames) state) → GrewBySome output.held.before output.held.after (generated_bytes g)
  part_out part =
      let shape = shape_of_frames g.frames in
      written_part shape g.seed k g.count _ mid _ room wrote (subst (λ (z : ℕ). GrewBySome mid output.held.after (next_bytes shape z)) at part)

  pub stopped : (ending : Ending) → PutsFrame (shape_of_frames g.frames) state mid output.held.after (Err ending) → GenerateEnded g (Err ending) output
  stopped endings.NoMemory puts = part_out puts
  stopped endings.OutputFailed puts = part_out puts
  stopped ending puts = absurd puts
