-- A budget for the slices of a picture, and what they have of it.
use Rattle.std.specs.Prelude.{◌≡◌, ◌<◌, ◌≤◌, ℕ, ◌==◌, if◌then◌else◌, List, [], length, slice_get, Some}
use Rattle.std.specs.List.{flat_map}
use Rattle.link_laws.specs.FramesToSend.{pictures_of_all}
use Rattle.link_model.specs.Sending.{DatagramContent, HeaderContent, ParametersContent, SlicesContent}
use Rattle.link_model.specs.Sending.{EndContent, Outgoing, frames_indices, frames_outgoing, run_bytes}
use Rattle.link_model.specs.SendingPictures.{budget_share, chosen_indices, sent_length}
use Rattle.link_model.specs.SendingPictures.{sent_parameters, sent_slices}
use Rattle.vc_types.specs.declared.choice.IndexChoice.TheVariants.{Budget}
use Rattle.vc_types.specs.declared.settings.SendSettings.{SendSettings}
use Rattle.vc_types.specs.Fields.{joined}
use Rattle.vc_types.specs.Planes.{Planes}
use Rattle.vc_types.specs.SenderSettings.{Sending, sending_view}
use Rattle.vc_types.specs.Subbands.{slice_count}

-- a slice has an index at which it has at most so many bytes
abbrev pub CanKeep : Sending → Planes → (slice bytes : ℕ) → Type 0
CanKeep s planes slice bytes = (index : ℕ) × (index < 128)
    × (sent_length (sent_parameters s) planes slice index ≤ bytes)

-- each slice of a picture can keep to its share
abbrev pub CanKeepShares : Sending → Planes → (bytes : ℕ) → Type 0
CanKeepShares s planes bytes = (slice : ℕ) → slice < slice_count (sent_parameters s)
    → CanKeep s planes slice (budget_share bytes (slice_count (sent_parameters s)) slice)

-- the bytes of all slices of a picture, at the indices that the settings choose
abbrev pub coded_slices : Sending → Planes → List ℕ
coded_slices s planes = joined (sent_slices (sent_parameters s) planes (chosen_indices s planes))

-- Where each slice of a picture can keep to its share, all of them together keep to the budget.
abbrev pub BudgetsAreKept : Type 0
BudgetsAreKept = (settings : SendSettings) (planes : Planes) (bytes : ℕ)
    → settings.choice ≡ Budget bytes
    → CanKeepShares (sending_view settings) planes bytes
    → length (coded_slices (sending_view settings) planes) ≤ bytes

-- ---- what is sent

abbrev pub slice_bytes : DatagramContent → List ℕ
slice_bytes HeaderContent = []
slice_bytes ParametersContent = []
slice_bytes (SlicesContent run) = run_bytes run
slice_bytes EndContent = []

-- the bytes of slices that a datagram has of a picture
abbrev pub slices_of_picture : ℕ → Outgoing → List ℕ
slices_of_picture picture o = if o.picture == picture then slice_bytes o.content else []

-- and all datagrams that are sent of frames
abbrev pub slices_sent : Sending → List Planes → ℕ → List ℕ
slices_sent s frames picture =
    flat_map (slices_of_picture picture) (frames_outgoing s (frames_indices s frames) frames)

-- So do the slices in the datagrams that are sent of it.
abbrev pub SentBudgetsAreKept : Type 0
SentBudgetsAreKept = (settings : SendSettings) (frames : List Planes) (picture : ℕ) (planes : Planes)
    (bytes : ℕ) → settings.choice ≡ Budget bytes
    → slice_get (pictures_of_all (sending_view settings) frames) picture ≡ Some planes
    → CanKeepShares (sending_view settings) planes bytes
    → length (slices_sent (sending_view settings) frames picture) ≤ bytes
