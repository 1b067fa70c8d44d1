-- What goes out of a released picture by its planes, what is kept of what was written, and what the
-- picture leaves.
use Rattle.std.specs.Prelude.{◌≡◌, ℕ, is_some, List, Option, Some, None, IfSome}
use Rattle.std.specs.Prelude.{Result, Err, OnOk, OnErr}
use Rattle.fill_model.specs.Filled.{WrittenFrame, filled_behind, last_frame}
use Rattle.fill_model.specs.FilledSessions.{written_frame}
use Rattle.link_model.specs.Output.{raw_bytes}
use Rattle.receiver_model.specs.Receptions.{StandingSession, FirstField, PictureAnswers}
use Rattle.receiver_model.specs.Receptions.{answers_without}
use Rattle.receiver_model.specs.Releasing.{released_planes, released_frame, field_behind}
use Rattle.receiver_model.specs.Releasing.{fields_alone}
use Rattle.receiver_model.specs.WholeBooks.{ArePicturePlanes}
use Rattle.link_receiver.specs.declared.fault.StepFault.{StepFault}
use Rattle.link_receiver.specs.declared.fault.StepFault.TheVariants as step
use Rattle.link_receiver.specs.declared.showing.Seen.{Seen}
use Rattle.link_pictures.specs.Receiving.{whole_in}
use Rattle.link_pictures.specs.Writing.{ReleasedPicture}
use Rattle.link_pictures.specs.Writing.{writes_picture, picture_bytes}
use Rattle.link_pictures.specs.declared.written.Written.{Written}
use Rattle.link_pictures.specs.declared.written.Written.TheVariants.{Frames, Filled, Units}
use Rattle.vc_ports.specs.Faults.{HasCause}
use Rattle.vc_ports.specs.Writing.{Grew, GrewBySome}
use Rattle.vc_types.specs.Planes.{Planes}

-- the frame of which a picture is the last, by the answers to its slices
abbrev pub shown_frame : StandingSession → List PictureAnswers → Option FirstField → ℕ
    → Option Planes
shown_frame st answers field n =
    released_frame st.session.sequence field n (released_planes answers st.window n)

abbrev pub shown_picture : StandingSession → List PictureAnswers → Option FirstField → ℕ
    → ReleasedPicture
shown_picture st answers field n = record {
  number = n;
  whole = whole_in st.window n;
  has_frame = is_some (shown_frame st answers field n);
  waits = is_some (field_behind st.session.sequence n (released_planes answers st.window n));
}

abbrev pub shown_frames : StandingSession → List PictureAnswers → Option FirstField → ℕ
    → List WrittenFrame
shown_frames st answers field n =
    written_frame st.session.sequence n (shown_frame st answers field n)

-- its frame, with repeats of the one before it where gaps are filled, or the units of that frame's
-- pictures
abbrev pub shown_bytes : Written → StandingSession → List PictureAnswers → Option FirstField → ℕ
    → List ℕ
shown_bytes Frames st answers field n =
    raw_bytes st.session.sequence (shown_frame st answers field n)
shown_bytes (Filled last) st answers field n =
    filled_behind last (shown_frames st answers field n)
shown_bytes (Units w) st answers field n = picture_bytes w (shown_picture st answers field n)

abbrev pub written_behind_shown : Written → StandingSession → List PictureAnswers
    → Option FirstField → ℕ → Written
written_behind_shown Frames st answers field n = Frames
written_behind_shown (Filled last) st answers field n =
    Filled (last_frame last (shown_frames st answers field n))
written_behind_shown (Units w) st answers field n =
    Units (writes_picture w (shown_picture st answers field n))

-- ---- what it leaves

-- a field that waits is a picture of the session
abbrev pub WaitsIn : StandingSession → Option FirstField → Type 0
WaitsIn st field = IfSome field (λ field. ArePicturePlanes st.session.sequence field.planes)

-- its answers are forgotten, and it waits, or no field does; whether it is complete and sound,
-- whether a frame is complete, and how many fields are part of none
pub record IsSeen (st : StandingSession) (n : ℕ)
    (old_answers : List PictureAnswers) (old_field : Option FirstField)
    (new_answers : List PictureAnswers) (new_field : Option FirstField) (seen : Seen)
    : Type 0 where
  pub answers : new_answers ≡ answers_without old_answers n
  pub field : new_field
      ≡ field_behind st.session.sequence n (released_planes old_answers st.window n)
  pub waiting : WaitsIn st new_field
  pub sound : seen.is_sound ≡ is_some (released_planes old_answers st.window n)
  pub has_frame : seen.shown.has_frame ≡ is_some (shown_frame st old_answers old_field n)
  pub alone : seen.shown.alone
      ≡ fields_alone st.session.sequence old_field n (released_planes old_answers st.window n)

-- ---- what goes out

-- these bytes, or, where the step fails, a part of them
pub record StepWrites {O A : Type 0} (held : O → Option (List ℕ)) (faults : O → ℕ) (before after : O)
    (result : Result A StepFault) (bytes : List ℕ) : Type 0 where
  pub ok : OnOk result (Grew (held before) (held after) bytes)
  pub err : OnErr result (GrewBySome (held before) (held after) bytes)
  pub cause : HasCause (faults before) (faults after) (result ≡ Err step.WriteFault)
