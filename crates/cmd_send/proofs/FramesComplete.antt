-- Where no fault came, whole frames that aren't refused, at most as many as were asked for, are encoded
-- to their end, unless memory runs out.
use Rattle.std.proofs.Common.{◌≡◌, ◌⊎◌, ℕ, ◌<◌, List, [], ◌∷◌, ◌++◌, length, map, All, Some, None, IsSomeAnd, Result, Ok, Err, inl, inr, refl, sym, ap, ◌∙◌, arith, append_assoc, append-nil, length-append}
use Rattle.std.specs.List.{concat}
use Rattle.std.specs.Result.{IsOk}
use Rattle.std.proofs.Math.Seq.{take-append_seam, drop-append_seam}
use Rattle.std.proofs.lemmas.List.{length-map, map-append}
use Rattle.std.proofs.lemmas.List.Elements.{All-head, All-tail}
use Rattle.std.proofs.lemmas.Grind.{common_steps}
use Rattle.link_outside.specs.declared.outlet.OutletFault.{OutletFault}
use Rattle.link_outside.specs.declared.outlet.OutletFault.TheVariants as outlets
use Rattle.cmd_send.specs.Sends.{SendEnded, SendsFrames, EndsWithRefusedFrame, IsCutWithin, IsSendable, IsPastFrames}
use Rattle.cmd_send.specs.FramesSent.{AreSendable, frame_fault, frame_shape}
use Rattle.frame_writer.specs.FrameBytes.{frame_of_bytes, frame_length}
use Rattle.frame_writer.specs.WholeFrames.{HoldFrames}
use Rattle.link_model.specs.SendingFaults.{SendFault}
use Rattle.link_model.specs.SendingFaults as faults
use Rattle.link_report.specs.declared.ending.Ending.{Ending}
use Rattle.link_report.specs.declared.ending.Ending.TheVariants as endings
use Rattle.link_report.specs.declared.summary.Summary.{Summary}
use Rattle.vc_ports.proofs.Given.{behind_given}
use Rattle.vc_ports.specs.Changes.{InputChange, HasRisen, Took}
use Rattle.vc_types.specs.Planes.{Planes}
use Rattle.vc_types.specs.SenderSettings.{Sending}

-- ---- pieces of one length

same_front : (x y xs ys : List ℕ) → length x ≡ length y → x ++ xs ≡ y ++ ys → x ≡ y
same_front x y xs ys long same = cc (take-append_seam x xs, take-append_seam y ys)

same_back : (x y xs ys : List ℕ) → length x ≡ length y → x ++ xs ≡ y ++ ys → xs ≡ ys
same_back x y xs ys long same = cc (drop-append_seam x xs, drop-append_seam y ys)

abbrev AreLong : ℕ → List (List ℕ) → Type 0
AreLong n pieces = All (λ piece. length piece ≡ n) pieces

-- the pieces behind some, which have these bytes
abbrev Behind : ℕ → (all pieces : List (List ℕ)) → List ℕ → Type 0
Behind n all pieces bytes = (behind : List (List ℕ)) × (all ≡ pieces ++ behind) × (concat behind ≡ bytes) × AreLong n behind

-- pieces whose bytes begin with those of others begin with these
pieces_behind : (n : ℕ) → 0 < n → (pieces all : List (List ℕ)) (bytes : List ℕ) → AreLong n pieces → AreLong n all → concat all ≡ concat pieces ++ bytes → Behind n all pieces bytes
pieces_behind n some [] all bytes long_pieces long_all same = (all, refl, same, long_all)
pieces_behind n some (piece ∷ pieces) [] bytes long_pieces long_all same =
    let long : length piece ≡ n = All-head (λ p. length p ≡ n) piece pieces long_pieces in
    let none : 0 ≡ length ((piece ++ concat pieces) ++ bytes) = ap length same in
    absurd (omega (arith, some, long, none, length-append (piece ++ concat pieces) bytes, length-append piece (concat pieces)))
pieces_behind n some (piece ∷ pieces) (first ∷ all) bytes long_pieces long_all same =
    let long : length first ≡ length piece = All-head (λ p. length p ≡ n) first all long_all ∙ sym (All-head (λ p. length p ≡ n) piece pieces long_pieces) in
    let joined : first ++ concat all ≡ piece ++ (concat pieces ++ bytes) = same ∙ append_assoc piece (concat pieces) bytes in
    let b : Behind n all pieces bytes = pieces_behind n some pieces all bytes (All-tail (λ p. length p ≡ n) piece pieces long_pieces) (All-tail (λ p. length p ≡ n) first all long_all) (same_back first piece (concat all) (concat pieces ++ bytes) long joined) in
    let fronts : first ≡ piece = same_front first piece (concat all) (concat pieces ++ bytes) long joined in
    (b.0, ap (λ (l : List (List ℕ)). first ∷ l) b.1 ∙ ap (λ (p : List ℕ). p ∷ (pieces ++ b.0)) fronts, b.2, b.3)

-- fewer bytes than a piece has are none
none_shorter : (n : ℕ) (pieces : List (List ℕ)) (bytes : List ℕ) → AreLong n pieces → concat pieces ≡ bytes → length bytes < n → bytes ≡ []
none_shorter n [] bytes long same short = sym same
none_shorter n (piece ∷ pieces) bytes long same short =
    let one : length piece ≡ n = All-head (λ p. length p ≡ n) piece pieces long in
    absurd (omega (arith, one, length-append piece (concat pieces), ap length same, short))

none_more : (pieces : List (List ℕ)) → length pieces ≡ 0 → concat pieces ≡ []
none_more [] none = refl
none_more (piece ∷ pieces) none = absurd (omega (arith, none))

-- what holds of a list holds of the last of its front
at_seam : (P : Planes → Type 0) (front : List Planes) (last : Planes) (behind : List Planes) → All P ((front ++ last ∷ []) ++ behind) → P last
at_seam P [] last behind all = All-head P last behind all
at_seam P (first ∷ front) last behind all = at_seam P front last behind (All-tail P first ((front ++ last ∷ []) ++ behind) all)

-- ---- what encodable bytes exclude, where the first of them were given

module _ (s : Sending) (most : ℕ) (given more : List ℕ) (frames : List Planes) (rest : List ℕ) (holds : HoldFrames (frame_shape s) given frames rest) (whole : IsSendable s most (given ++ more)) where
  abbrev n : ℕ
  n = frame_length (frame_shape s)

  abbrev frame_of : List ℕ → Planes
  frame_of bytes = frame_of_bytes (frame_shape s) bytes

  joined : concat whole.holds.pieces ≡ concat holds.pieces ++ (rest ++ more)
  joined = grind (arith, common_steps)

  behind : Behind n whole.holds.pieces holds.pieces (rest ++ more)
  behind = pieces_behind n whole.holds.short holds.pieces whole.holds.pieces (rest ++ more) holds.whole whole.holds.whole joined

  all_frames : whole.frames ≡ frames ++ map frame_of behind.0
  all_frames = grind (arith, common_steps, behind, map-append)

  no_cut : (input : InputChange) (went : List (List ℕ) → Type 0) (number : ℕ) → input.left.after ≡ Some more → IsCutWithin s most input went frames rest number → ⊥
  no_cut input went number tells cut =
      let none : more ≡ [] = rw tells at cut.ended in
      cut.some_rest (none_shorter n behind.0 rest behind.3 (behind.2 ∙ ap (λ (l : List ℕ). rest ++ l) none ∙ append-nil rest) holds.short)

  no_refused : (went : List (List ℕ) → Type 0) (fault : SendFault) → EndsWithRefusedFrame s most went frames rest fault → ⊥
  no_refused went fault r =
      let all : AreSendable s ((r.others ++ r.last ∷ []) ++ map frame_of behind.0) = rw (sym r.frames_are, sym all_frames) whole.sendable in
      cc (sym (at_seam (λ frame. frame_fault s frame ≡ None) r.others r.last (map frame_of behind.0) all) ∙ r.refused)

  no_limit : (went : List (List ℕ) → Type 0) (limit : ℕ) → IsPastFrames s most went frames rest limit → ⊥
  no_limit went limit p = grind (arith, common_steps, behind, all_frames, length-map, none_more)

-- ---- by how it ended

module _ (s : Sending) (most : ℕ) (input : InputChange) (went : List (List ℕ) → Type 0) (broke : List (List ℕ) → OutletFault → Type 0)
    (sound_input : HasRisen input.faults → ⊥) (sound_output : (datagrams : List (List ℕ)) → broke datagrams outlets.Output → ⊥) (sound_wire : (datagrams : List (List ℕ)) → broke datagrams outlets.Wire → ⊥)
    (whole : IsSomeAnd input.left.before (IsSendable s most)) where
  abbrev failed : Ending → Result Summary Ending
  failed ending = Err ending

  abbrev Came : Result Summary Ending → Type 0
  Came answer = IsOk answer ⊎ (answer ≡ Err endings.NoMemory)

  abbrev Left : List ℕ → Type 0
  Left given = (more : List ℕ) × (input.left.after ≡ Some more) × IsSendable s most (given ++ more)

  left : (given : List ℕ) → Took input given → Left given
  left given took = behind_given (IsSendable s most) given input.left.before input.left.after took whole

  stopped : (ending : Ending) (given : List ℕ) (frames : List Planes) (rest : List ℕ) → Left given → HoldFrames (frame_shape s) given frames rest → SendEnded s most (Err ending) input went broke frames rest
      → (ending ≡ endings.InputFailed → ⊥) → Came (Err ending)
  stopped endings.NoMemory given frames rest l holds ended read = inr refl
  stopped endings.InputFailed given frames rest l holds ended read = absurd (read refl)
  stopped endings.OutputFailed given frames rest l holds ended read = absurd (sound_output _ ended.part_sent)
  stopped endings.WireFailed given frames rest l holds ended read = absurd (sound_wire _ ended.part_sent)
  stopped (endings.RawCut number) given frames rest l holds ended read = absurd (no_cut s most given l.0 frames rest holds l.2 input went number l.1 ended)
  stopped (endings.SampleTooLarge place plane value) given frames rest l holds ended read = absurd (no_refused s most given l.0 frames rest holds l.2 went (faults.SampleRange plane place value) ended)
  stopped (endings.SliceTooLarge slice bytes) given frames rest l holds ended read = absurd (no_refused s most given l.0 frames rest holds l.2 went (faults.SliceTooLarge slice bytes) ended)
  stopped (endings.FrameLimit limit) given frames rest l holds ended read = absurd (no_limit s most given l.0 frames rest holds l.2 went limit ended)
  stopped ending given frames rest l holds ended read = absurd ended

  pub sending_completes : (answer : Result Summary Ending) → SendsFrames s most answer input went broke → IsOk answer ⊎ (answer ≡ Err endings.NoMemory)
  sending_completes (Ok summary) e = inl refl
  sending_completes (Err ending) e = stopped ending e.given e.frames e.rest (left e.given e.took) e.holds e.ended (λ f. sound_input (e.input_failed (ap failed f)))
