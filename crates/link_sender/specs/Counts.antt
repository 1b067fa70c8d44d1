-- How much is sent of frames (this project's own): few enough datagrams and bytes for counts of 64
-- bits, however many frames there are.
use Rattle.std.specs.Prelude.{◌≡◌, ◌≤◌, ℕ, ◌*◌, ◌^◌, List, All, length, None}
use Rattle.std.specs.List.{sum_by}
use Rattle.link_model.specs.SendingFaults.{first_sample_fault}
use Rattle.vc_types.specs.Planes.{Planes}
use Rattle.vc_types.specs.SenderSettings.{Sending}

-- no sample of these frames is too large
abbrev pub HaveSoundSamples : Sending → List Planes → Type 0
HaveSoundSamples s frames = All (λ frame. first_sample_fault s frame ≡ None) frames

-- each of so many frames is sent in at most 2 ^ 19 datagrams and in at most 2 ^ 31 bytes
pub record AreFew (frames : ℕ) (datagrams : List (List ℕ)) : Type 0 where
  pub count : length datagrams ≤ 2 ^ 19 * frames
  pub bytes : sum_by length datagrams ≤ 2 ^ 31 * frames
