-- The settings of a sender, of a packer and of a generator without their facts.
use Rattle.std.specs.Prelude.{ℕ, Bool, Option}
use Rattle.vc_types.specs.declared.choice.IndexChoice.{IndexChoice}
use Rattle.vc_types.specs.declared.settings.GenSettings.{GenSettings}
use Rattle.vc_types.specs.declared.settings.PackSettings.{PackSettings}
use Rattle.vc_types.specs.declared.settings.SendSettings.{SendSettings}
use Rattle.vc_types.specs.declared.settings.Told.{Told}
use Rattle.vc_types.specs.declared.video.Sampling.{Sampling}
use Rattle.vc_types.specs.Rates.{Rate, rate_view}

-- which frames are sent; the range is the number of their signal range
pub record Frames : Type 0 where
  pub width : ℕ
  pub height : ℕ
  pub sampling : Sampling
  pub range : ℕ
  pub fields : Bool
  pub top : Bool

-- how they are coded and sent
pub record Sending : Type 0 where
  pub frames : Frames
  pub wavelet : ℕ
  pub depth : ℕ
  pub across : ℕ
  pub down : ℕ
  pub prefix : ℕ
  pub scaler : ℕ
  pub size : ℕ
  pub choice : IndexChoice
  pub ssrc : ℕ
  pub seq : ℕ
  pub picture : ℕ
  pub rate : Rate
  pub pt : ℕ
  pub told : Option Told

abbrev pub sending_view : SendSettings → Sending
sending_view s = record {
  frames = record {
    width = s.width;
    height = s.height;
    sampling = s.sampling;
    range = s.range;
    fields = s.fields;
    top = s.top;
  };
  wavelet = s.wavelet;
  depth = s.depth;
  across = s.slices_x;
  down = s.slices_y;
  prefix = s.prefix;
  scaler = s.scaler;
  size = s.size;
  choice = s.choice;
  ssrc = s.ssrc;
  seq = s.seq;
  picture = s.picture;
  rate = rate_view s.rate;
  pt = s.pt;
  told = s.told;
}

-- how the pictures of an elementary stream are sent
pub record Packing : Type 0 where
  pub size : ℕ
  pub ssrc : ℕ
  pub pt : ℕ
  pub seq : ℕ
  pub rate : Rate
  pub fields : Bool

abbrev pub packing_view : PackSettings → Packing
packing_view p = record {
  size = p.size;
  ssrc = p.ssrc;
  pt = p.pt;
  seq = p.seq;
  rate = rate_view p.rate;
  fields = p.fields;
}

-- which frames are generated
pub record Generating : Type 0 where
  pub frames : Frames
  pub seed : ℕ
  pub count : ℕ

abbrev pub generating_view : GenSettings → Generating
generating_view g = record {
  frames = record {
    width = g.width;
    height = g.height;
    sampling = g.sampling;
    range = g.range;
    fields = g.fields;
    top = g.top;
  };
  seed = g.seed;
  count = g.frames;
}
