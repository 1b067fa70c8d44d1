-- What one picture keeps of its parts, in the order in which they came (this project's profile):
-- the first transform parameters that are accepted, and of each slice the first copy.
use Rattle.std.specs.Prelude.{ℕ, zero, suc, ◌+◌, ◌-◌, ◌*◌, Bool, ◌&&◌, not, nat_lt, nat_le, ◌==◌}
use Rattle.std.specs.Prelude.{if◌then◌else◌, List, [], ◌∷◌, ◌++◌, take, drop, slice_get, filter_map}
use Rattle.std.specs.Prelude.{Option, Some, None, Result, Ok, Err}
use Rattle.std.specs.Option.{option_map, option_map_or, option_or}
use Rattle.link_model.specs.Session.{Part, ParamsPart, SlicesPart, SlicePart}
use Rattle.link_model.specs.declared.outcome.Outcome.{Outcome}
use Rattle.link_model.specs.declared.outcome.Outcome.TheVariants.{SlicesForm, SlicesPlace, SlicesCut}
use Rattle.vc_types.specs.Fields.{◌>>=◌, give}
use Rattle.vc_types.specs.SequenceHeader.{Sequence}
use Rattle.vc_types.specs.Slices.{ByteField, slice_length}
use Rattle.vc_types.specs.Subbands.{slice_count}
use Rattle.vc_types.specs.TransformParameters.{Parameters, coded_parameters}
use Rattle.vc_types.specs.declared.refusal.ParamsRefusal.{ParamsRefusal}

-- ---- parameters

-- transform parameters that were accepted, and the bytes that they take
pub record KeptParameters : Type 0 where
  pub parameters : Parameters
  pub bytes : List ℕ

-- what is read of a part's body
abbrev pub ReadParameters : Type 0
ReadParameters = Result (Parameters × ℕ) ParamsRefusal

abbrev pub kept_parameters : List ℕ → ReadParameters → Option KeptParameters
kept_parameters body (Ok read) = Some (record { parameters = read.0; bytes = take read.1 body })
kept_parameters body (Err refusal) = None

-- the parameters in a part, if they are accepted
unfoldable pub parameters_in : Sequence → Part → Option KeptParameters
parameters_in sequence (ParamsPart body) = kept_parameters body (coded_parameters sequence body)
parameters_in sequence (SlicesPart slices) = None

abbrev pub part_slices : Part → Option SlicePart
part_slices (ParamsPart body) = None
part_slices (SlicesPart slices) = Some slices

-- the first parameters that are accepted, and the slices that came before and after them
pub record SplitParts : Type 0 where
  pub plan : KeptParameters
  pub before : List SlicePart
  pub behind : List SlicePart

abbrev pub split_by : List Part → KeptParameters → SplitParts
split_by behind plan = record { plan = plan; before = []; behind = filter_map part_slices behind }

abbrev pub also_before : Part → SplitParts → SplitParts
also_before (ParamsPart body) p = p
also_before (SlicesPart slices) p = record p { before = slices ∷ p.before }

unfoldable pub split_parts : Sequence → List Part → Option SplitParts
split_parts sequence [] = None
split_parts sequence (part ∷ parts) =
    option_map_or (λ plan. Some (split_by parts plan)) (parameters_in sequence part)
    (option_map (also_before part) (split_parts sequence parts))

-- ---- slices

-- how many slice parts wait for their picture's parameters
abbrev pub waiting_limit : ℕ
waiting_limit = 16384

-- slices one after another in raster order, the first by its number
pub record SliceRun : Type 0 where
  pub first : ℕ
  pub slices : List (List ℕ)

abbrev pub cut_off : List ℕ → Option ℕ → Result (List ℕ × List ℕ) (Unit {0})
cut_off bytes None = Err tt
cut_off bytes (Some n) = Ok (take n bytes, drop n bytes)

-- the bytes of the next slice
unfoldable pub next_slice : Parameters → ByteField (List ℕ)
next_slice p bytes = cut_off bytes (slice_length p.prefix p.scaler bytes)

-- the bytes of so many slices, one after another
unfoldable pub next_slices : Parameters → ℕ → ByteField (List (List ℕ))
next_slices p zero = give []
next_slices p (suc n) = do
  slice ← next_slice p
  slices ← next_slices p n
  give (slice ∷ slices)

-- the number of a part's first slice
abbrev pub first_slice : Parameters → SlicePart → ℕ
first_slice p s = s.y * p.slices_x + s.x

abbrev pub has_form : Parameters → SlicePart → Bool
has_form p s = s.prefix == p.prefix && s.scaler == p.scaler

abbrev pub has_place : Parameters → SlicePart → Bool
has_place p s =
    nat_lt s.x p.slices_x && nat_lt s.y p.slices_y
    && nat_le (first_slice p s + s.count) (slice_count p)

abbrev pub run_from : ℕ → Result (List (List ℕ) × List ℕ) (Unit {0}) → Result SliceRun Outcome
run_from first (Ok read) = Ok (record { first = first; slices = read.0 })
run_from first (Err short) = Err SlicesCut

-- the slices of a part, or why they aren't taken
unfoldable pub slice_run : Parameters → SlicePart → Result SliceRun Outcome
slice_run p s =
    if not (has_form p s) then Err SlicesForm
    else (if not (has_place p s) then Err SlicesPlace
    else run_from (first_slice p s) (next_slices p s.count s.body))

abbrev pub run_taken : Result SliceRun Outcome → Option SliceRun
run_taken (Ok run) = Some run
run_taken (Err outcome) = None

-- what is kept of a picture: its parameters, and runs of slices in the order in which they came
pub record Own : Type 0 where
  pub plan : KeptParameters
  pub runs : List SliceRun

abbrev pub runs_of : Parameters → List SlicePart → List SliceRun
runs_of p parts = filter_map (λ s. run_taken (slice_run p s)) parts

-- of the slices before the parameters only so many wait
abbrev pub own_of : SplitParts → Own
own_of p = record {
  plan = p.plan;
  runs = runs_of p.plan.parameters (take waiting_limit p.before ++ p.behind);
}

-- what a picture keeps of its parts, once it has parameters
unfoldable pub own : Sequence → List Part → Option Own
own sequence parts = option_map own_of (split_parts sequence parts)

abbrev pub slice_in : SliceRun → ℕ → Option (List ℕ)
slice_in run i = if nat_le run.first i then slice_get run.slices (i - run.first) else None

-- the bytes of a slice by its number: those of the first run that has it
unfoldable pub first_copy : List SliceRun → ℕ → Option (List ℕ)
first_copy [] i = None
first_copy (run ∷ runs) i = option_or (slice_in run i) (first_copy runs i)

abbrev pub own_slice : Own → ℕ → Option (List ℕ)
own_slice kept i = first_copy kept.runs i

-- the parameters that a picture keeps
abbrev pub own_parameters : Sequence → List Part → Option KeptParameters
own_parameters sequence parts = option_map (λ kept. kept.plan) (own sequence parts)
