-- When frames come, by the clock of RTP's timestamps.
use Rattle.std.specs.Prelude.{ℕ, ◌*◌, ◌/◌, ◌%◌, ◌^◌}
use Rattle.vc_types.specs.declared.rate.FrameRate.{FrameRate}

-- so many frames take so many ticks
pub record Rate : Type 0 where
  pub ticks : ℕ
  pub frames : ℕ

abbrev pub rate_view : FrameRate → Rate
rate_view r = record {
  ticks = r.ticks;
  frames = r.frames;
}

-- the whole ticks before a moment that is told in halves of a frame, in 32 bits
unfoldable pub stamp_at : Rate → ℕ → ℕ
stamp_at rate half_frames = half_frames * rate.ticks / (2 * rate.frames) % 2 ^ 32
