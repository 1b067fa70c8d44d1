-- The parts of a picture's slices, put together in their order.
use Rattle.std.proofs.Common.{◌≡◌, ℕ, ◌+◌, ◌*◌, ◌/◌, ◌<◌, ◌≤◌, Bool, List, [], ◌∷◌, ◌++◌, length, get_or, Result, Ok, Err, sym, ap, subst, ◌∙◌, arith, mul-add, div-mul-le_self, le-div_iff_mul-le, div-lt_iff_lt-mul, mul-div_cancel}
use Rattle.std.proofs.lemmas.List.{length_push}
use Rattle.picture_encode.specs.IndexedSlices.{IndexedSlice}
use Rattle.picture_encode.specs.Encoded.{Chooses, AreSlices, RefusesSlices, EncodesSlices}
use Rattle.picture_encode.specs.declared.refusal.SliceRefusal.{SliceRefusal}
use Rattle.picture_encode.specs.declared.refusal.SliceRefusal.TheVariants.{SliceTooLarge, NoMemory}
use Rattle.picture_encode.proofs.SlicesInTurn.{slices_joined}
use Rattle.vc_types.specs.Planes.{Planes}
use Rattle.vc_types.specs.SenderSettings.{Sending}
use Rattle.vc_types.specs.Subbands.{share_start}
use Rattle.vc_wave.proofs.ExactSides.{share_upto}

-- ---- where parts begin

pub first_share : (n parts : ℕ) → 0 < parts → share_start n parts 0 ≤ 0
first_share n parts some =
    let below : n * 0 / parts < 1 = (div-lt_iff_lt-mul some).1 (omega arith) in
    omega (arith, below)

last_share : (n parts : ℕ) → 0 < parts → share_start n parts parts ≡ n
last_share n parts some = mul-div_cancel n some

shares_rise : (n parts k : ℕ) → 0 < parts → share_start n parts k ≤ share_start n parts (k + 1)
shares_rise n parts k some =
    let more : n * (k + 1) ≡ n * k + n * 1 = mul-add n k 1 in
    let most : n * k / parts * parts ≤ n * k = div-mul-le_self (n * k) parts in
    (le-div_iff_mul-le some).1 (omega (arith, more, most))

-- ---- their answers

abbrev Answer : Type 0
Answer = Result (List IndexedSlice) SliceRefusal

module _ (choice : Chooses) (wanted : Bool) (s : Sending) (planes : Planes) where
  refused_behind : (mid to all : ℕ) (front : List IndexedSlice) (e : SliceRefusal) → to ≤ all → AreSlices choice wanted s planes 0 mid front → RefusesSlices choice wanted s planes mid to e → RefusesSlices choice wanted s planes 0 all e
  refused_behind mid to all front (SliceTooLarge n bytes) upto before is = record {
    slice = is.slice;
    within = (omega arith, omega (arith, is.within.1, upto));
    before = front ++ is.before;
    encoded = slices_joined choice wanted s planes 0 mid is.slice front is.before (omega arith) is.within.0 before is.encoded;
    refused = is.refused;
  }
  refused_behind mid to all front NoMemory upto before is = tt

  module _ (n parts : ℕ) (answers yielded : List Answer) (answer : Answer) (front : List IndexedSlice) (some : 0 < parts) (long : length answers ≡ parts)
      (each : (part : ℕ) (d : Answer) → part < parts → EncodesSlices choice wanted s planes (share_start n parts part) (share_start n parts (part + 1)) (get_or answers part d))
      (turn : (length yielded < length answers) × (answer ≡ get_or answers (length yielded) answer))
      (before : AreSlices choice wanted s planes 0 (share_start n parts (length yielded)) front) where
    abbrev part : ℕ
    part = length yielded

    own : EncodesSlices choice wanted s planes (share_start n parts part) (share_start n parts (part + 1)) answer
    own =
        subst (λ (r : Answer). EncodesSlices choice wanted s planes (share_start n parts part) (share_start n parts (part + 1)) r) (sym turn.1)
        (each part answer (omega (arith, turn.0, long)))

    pub part_joined : (more all : List IndexedSlice) → answer ≡ Ok more → all ≡ front ++ more → AreSlices choice wanted s planes 0 (share_start n parts (length (yielded ++ answer ∷ []))) all
    part_joined more all is grown =
        let here : AreSlices choice wanted s planes (share_start n parts part) (share_start n parts (part + 1)) more =
        subst (λ (r : Answer). EncodesSlices choice wanted s planes (share_start n parts part) (share_start n parts (part + 1)) r) is own in
        let joined = slices_joined choice wanted s planes 0 (share_start n parts part) (share_start n parts (part + 1)) front more (omega arith) (shares_rise n parts part some) before here in
        subst (λ (k : ℕ). AreSlices choice wanted s planes 0 (share_start n parts k) all) (sym (length_push yielded answer))
        (subst (λ (l : List IndexedSlice). AreSlices choice wanted s planes 0 (share_start n parts (part + 1)) l) (sym grown) joined)

    pub part_refused : (e : SliceRefusal) → answer ≡ Err e → RefusesSlices choice wanted s planes 0 n e
    part_refused e is =
        let here : RefusesSlices choice wanted s planes (share_start n parts part) (share_start n parts (part + 1)) e =
        subst (λ (r : Answer). EncodesSlices choice wanted s planes (share_start n parts part) (share_start n parts (part + 1)) r) is own in
        refused_behind (share_start n parts part) (share_start n parts (part + 1)) n front e (share_upto n parts (part + 1) (omega (arith, turn.0, long))) before here

  pub all_joined : (n parts k : ℕ) (all : List IndexedSlice) → 0 < parts → k ≡ parts → AreSlices choice wanted s planes 0 (share_start n parts k) all → AreSlices choice wanted s planes 0 n all
  all_joined n parts k all some last is = subst (λ (m : ℕ). AreSlices choice wanted s planes 0 m all) (ap (share_start n parts) last ∙ last_share n parts some) is
