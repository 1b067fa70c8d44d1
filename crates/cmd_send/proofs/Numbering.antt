-- What a sender goes on with, and what is counted, behind no frames and behind one more.
use Rattle.std.proofs.Common.{◌≡◌, ℕ, ◌+◌, ◌-◌, ◌*◌, ◌/◌, ◌%◌, ◌^◌, ◌<◌, ◌≤◌, Bool, true, false, if◌then◌else◌, List, [], ◌∷◌, ◌++◌, length, refl, ap, sym, ◌∙◌, arith, length-append}
use Rattle.std.proofs.Math.Nat.{zero-div}
use Rattle.std.proofs.lemmas.List.Sums.{sum_by-append}
use Rattle.std.proofs.lemmas.Grind.{common_steps}
use Rattle.cmd_send.specs.declared.totals.Totals.{Totals}
use Rattle.cmd_send.specs.FramesSent.{bytes_in, frames_sent}
use Rattle.cmd_send.specs.Looping.{next_sent}
use Rattle.cmd_send.specs.Counted.{totals_of, totals_with}
use Rattle.cmd_send.specs.Steps.{numbers_after}
use Rattle.cmd_send.proofs.SentMore.{frames_sent-more}
use Rattle.cmd_send.proofs.Stopping.{none_sent}
use Rattle.link_model.specs.Sending.{pictures_per_frame, timestamp_of}
use Rattle.link_sender.specs.Sent.{Numbers, numbers_behind}
use Rattle.vc_types.specs.Planes.{Planes}
use Rattle.vc_types.specs.Rates.{stamp_at}
use Rattle.vc_types.specs.SenderSettings.{Sending}

-- ---- numbers

no_halves : (fields : Bool) → (if fields then 0 else 2 * 0) ≡ 0
no_halves true = refl
no_halves false = refl

no_ticks : (ticks frames : ℕ) → 0 * ticks / (2 * frames) % 2 ^ 32 ≡ 0
no_ticks ticks frames =
    let none : 0 * ticks ≡ 0 = omega arith in
    ap (λ n. n / (2 * frames) % 2 ^ 32) none ∙ ap (λ n. n % 2 ^ 32) (zero-div (2 * frames))

first_timestamp : (s : Sending) → timestamp_of s 0 ≡ 0
unfolding timestamp_of stamp_at
first_timestamp s =
    ap (λ n. n * s.rate.ticks / (2 * s.rate.frames) % 2 ^ 32) (no_halves s.frames.fields)
    ∙ no_ticks s.rate.ticks s.rate.frames

pub numbers_none : (s : Sending) → s.seq < 2 ^ 32 → ◌≡◌ {A = Numbers} (record { frame = 0; number = s.seq; timestamp = 0 }) (numbers_after s [])
numbers_none s small = grind (arith, common_steps, none_sent, first_timestamp)

some_pictures : (s : Sending) → 1 ≤ pictures_per_frame s
some_pictures s = grind (arith, common_steps)

last_place : (n each : ℕ) → 1 ≤ each → n * each + (each - 1) ≡ (n + 1) * each - 1
last_place n each some = omega (arith, some)

module _ (s : Sending) (frames : List Planes) (frame : Planes) (small : length frames + 1 < 2 ^ 32) where
  length_more : length (frames ++ frame ∷ []) ≡ length frames + 1
  length_more = length-append frames (frame ∷ [])

  sent_more : length (frames_sent s (frames ++ frame ∷ [])) ≡ length (frames_sent s frames) + length (next_sent s frames frame)
  sent_more = ap length (frames_sent-more s frames frame) ∙ length-append (frames_sent s frames) (next_sent s frames frame)

  pub numbers_more : (old new : Numbers) (count : ℕ) → old ≡ numbers_after s frames → count ≡ length (next_sent s frames frame) → new ≡ numbers_behind s old count → new ≡ numbers_after s (frames ++ frame ∷ [])
  numbers_more old new count is counted behind =
      grind (arith, common_steps, length_more, sent_more, last_place, some_pictures)

-- ---- totals

pub sum-append : (xs ys : List (List ℕ)) → bytes_in (xs ++ ys) ≡ bytes_in xs + bytes_in ys
sum-append xs ys = sum_by-append length xs ys

pub totals_none : (s : Sending) → ◌≡◌ {A = Totals} (record { frames = 0; datagrams = 0; bytes = 0 }) (totals_of s [])
totals_none s = ap (λ (sent : List (List ℕ)). record { frames = 0; datagrams = length sent; bytes = bytes_in sent }) (sym (none_sent s))

-- the totals behind a frame more
abbrev pub with_frame_more : Totals → Totals
with_frame_more t = record { frames = t.frames + 1; datagrams = t.datagrams; bytes = t.bytes }

pub totals_more : (s : Sending) (frames : List Planes) (frame : Planes) (old now new : Totals) → old ≡ totals_of s frames → now ≡ totals_with old (next_sent s frames frame) → new ≡ with_frame_more now → new ≡ totals_of s (frames ++ frame ∷ [])
totals_more s frames frame old now new is step counted =
    grind (arith, common_steps, frames_sent-more, sum-append)
