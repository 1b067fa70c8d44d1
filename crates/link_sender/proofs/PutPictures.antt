-- The datagrams of a picture and of a frame, put one behind another.
use Rattle.std.proofs.Common.{◌≡◌, ℕ, zero, suc, ◌+◌, ◌^◌, ◌<◌, ◌≤◌, List, [], ◌∷◌, ◌++◌, length, map, refl, sym, ap, subst, ◌∙◌, arith, append_assoc, ◌-◌, ◌*◌, ◌%◌, true, Option, Some, None, All, mul-pos}
use Rattle.std.proofs.lemmas.Bool.Decides.{nat_tests}
use Rattle.std.proofs.lemmas.List.{append-nil, length-append, map-append, length-map}
use Rattle.std.proofs.lemmas.Grind.{common_steps}
use Rattle.link_model.specs.Kept.{SliceRun}
use Rattle.link_model.specs.Sending.{DatagramContent, SlicesContent, run_end, run_of_one, run_with, runs_from, runs_of_slices, Outgoing, pictures_per_frame, timestamp_of}
use Rattle.stream_model.specs.Packing.{slices_room}
use Rattle.link_sender.specs.declared.outbox.Outbox.{Outbox}
use Rattle.link_sender.specs.declared.picture.Picture.{Picture}
use Rattle.link_sender.specs.declared.runs.OpenRun.{OpenRun}
use Rattle.link_sender.specs.Puts.{PutsDatagrams}
use Rattle.link_sender.specs.Runs.{EndsRun, HoldsSlices, PacksSlices, first_run, run_with_slices, FitsRun}
use Rattle.link_sender.proofs.Putting.{puts_none, puts_more}
use Rattle.vc_types.specs.Fields.{joined}
use Rattle.vc_types.specs.SenderSettings.{Packing, packing_view, Sending}
use Rattle.std.specs.Global.{Vec}
use Rattle.std.proofs.lemmas.List.Elements.{All-head, All-tail, All-weaker}
use Rattle.link_model.specs.SendingPictures.{sent_parameters}
use Rattle.link_sender.specs.declared.encoding.FrameSlices.{FrameSlices}
use Rattle.link_sender.specs.Packing.{Appends, packing_of}
use Rattle.link_sender.specs.Sent.{IsPicture, coded_frame_outgoing, coded_outgoing, coded_pictures_outgoing, slices_by_picture, second_pictures}
use Rattle.link_sender.proofs.Numbered.{appends_more}
use Rattle.link_sender.proofs.SentBytes.{datagrams_count}
use Rattle.picture_encode.specs.IndexedSlices.{IndexedSlice}
use Rattle.picture_encode.specs.Encoded.{IsSized, bytes_of_slices}
use Rattle.picture_encode.proofs.CodedRuns.{joined_more}
use Rattle.vc_types.specs.Bits.{digit_of}
use Rattle.vc_types.specs.Limits.{slices_fit}
use Rattle.vc_types.specs.Subbands.{slice_count}
use Rattle.vc_types.specs.TransformParameters.{Parameters}

-- ---- runs of slices

module _ (room : ℕ) (run : SliceRun) (slice : List ℕ) (slices : List (List ℕ)) where
  pub taken : length (joined run.slices) + length slice ≤ room → runs_from room run (slice ∷ slices) ≡ runs_from room (run_with run slice) slices
  unfolding runs_from
  taken fits = grind (arith, nat_tests)

  pub begun : room < length (joined run.slices) + length slice → runs_from room run (slice ∷ slices) ≡ run ∷ runs_from room (run_of_one (run_end run) slice) slices
  unfolding runs_from
  begun large = grind (arith, nat_tests)

pub ended : (room : ℕ) (run : SliceRun) → runs_from room run [] ≡ run ∷ []
unfolding runs_from
ended room run = refl

pub runs_are : (room : ℕ) (slice : List ℕ) (slices : List (List ℕ)) → length slice ≤ room → runs_from room first_run (slice ∷ slices) ≡ runs_of_slices room (slice ∷ slices)
unfolding runs_of_slices
runs_are room slice slices fits = taken room first_run slice slices (omega (arith, fits))

-- ---- what is packed

pub starts : (s : Packing) (run : OpenRun) → 64 ≤ s.size → run.first ≡ 0 → run.count ≡ 0 → run.body.items ≡ [] → EndsRun s 0 run
starts s run room first count body =
    let none = ap (λ (l : List ℕ). length l) body in
    record { end = omega (arith, first, count); some = λ h. absurd (omega (arith, h)); empty = λ h. none; body = omega (arith, count); fits = omega (arith, room, none) }

pub has_some : (s : Packing) (n : ℕ) (run : OpenRun) → EndsRun s n run → 0 < length run.body.items → 1 ≤ run.count
has_some s zero run ends some = absurd (let none = ends.empty refl in omega (arith, none, some))
has_some s (suc n) run ends some = ends.some (omega arith)

module _ (p : Picture) where
  abbrev room : ℕ
  room = slices_room (packing_view p.settings)

  pub none_packed : (x : Outbox) (run : OpenRun) → x.sequence < 2 ^ 32 → run.first ≡ 0 → run.count ≡ 0 → run.body.items ≡ [] → PacksSlices p [] x x run
  none_packed x run small first count body = record {
    put = [];
    left = [];
    holds = record { count = count; body = body };
    puts = puts_none p x small;
    goes_on = λ more. ap (λ (f : ℕ). runs_from room (record { first = f; slices = [] }) more) (sym first);
  }

  module _ (slices : List (List ℕ)) (first x : Outbox) (run : OpenRun) (packed : PacksSlices p slices first x run) where
    length_is : length run.body.items ≡ length (joined packed.left)
    length_is = ap length packed.holds.body

    module _ (slice : List ℕ) (next : OpenRun) where
      on : (more : List (List ℕ)) → runs_from room first_run ((slices ++ slice ∷ []) ++ more) ≡ packed.put ++ runs_from room (run_with_slices run packed.left) (slice ∷ more)
      on more = ap (runs_from room first_run) (append_assoc slices (slice ∷ []) more) ∙ packed.goes_on (slice ∷ more)

      -- there was room in the run
      pub one_more : length run.body.items + length slice ≤ room → next.first ≡ run.first → next.count ≡ run.count + 1 → next.body.items ≡ run.body.items ++ slice → PacksSlices p (slices ++ slice ∷ []) first x next
      one_more fits same_first count body =
          grind (arith, common_steps, length-append, joined_more, on, taken, length_is)

      -- there was none, and the run was put
      pub another_run : (y : Outbox) → room < length run.body.items + length slice → ((left : List (List ℕ)) → HoldsSlices run left → PutsDatagrams p (SlicesContent (run_with_slices run left) ∷ []) x y)
          → next.first ≡ run.first + run.count → next.count ≡ 1 → next.body.items ≡ slice → PacksSlices p (slices ++ slice ∷ []) first y next
      another_run y large puts behind count body =
          let r : SliceRun = run_with_slices run packed.left in
          let at : run_end r ≡ next.first = omega (arith, behind, packed.holds.count) in
          record {
            put = packed.put ++ r ∷ [];
            left = slice ∷ [];
            holds = record { count = count; body = body ∙ sym (append-nil slice) };
            puts = subst (λ (l : List DatagramContent). PutsDatagrams p l first y) (sym (map-append SlicesContent packed.put (r ∷ []))) (puts_more p (map SlicesContent packed.put) (SlicesContent r ∷ []) first x y packed.puts (puts packed.left packed.holds));
            goes_on = λ more.
                on more
                ∙ ap (λ l. packed.put ++ l) (begun room r slice more (omega (arith, large, length_is)))
                ∙ sym (append_assoc packed.put (r ∷ []) (runs_from room (run_of_one (run_end r) slice) more))
                ∙ ap (λ (f : ℕ). (packed.put ++ r ∷ []) ++ runs_from room (run_of_one f slice) more) at;
          }

    -- the last run was put
    pub all_packed : (y : Outbox) (slice : List ℕ) (behind : List (List ℕ)) → slices ≡ slice ∷ behind → length slice ≤ room
        → ((left : List (List ℕ)) → HoldsSlices run left → PutsDatagrams p (SlicesContent (run_with_slices run left) ∷ []) x y)
        → PutsDatagrams p (map SlicesContent (runs_of_slices room slices)) first y
    all_packed y slice behind is fits puts =
        let r : SliceRun = run_with_slices run packed.left in
        let runs : packed.put ++ r ∷ [] ≡ runs_of_slices room slices =
        ap (λ l. packed.put ++ l) (sym (ended room r))
        ∙ sym (packed.goes_on [])
        ∙ ap (runs_from room first_run) (append-nil slices ∙ is)
        ∙ runs_are room slice behind fits
        ∙ ap (runs_of_slices room) (sym is) in
        subst (λ (l : List SliceRun). PutsDatagrams p (map SlicesContent l) first y) runs
        (subst (λ (l : List DatagramContent). PutsDatagrams p l first y) (sym (map-append SlicesContent packed.put (r ∷ []))) (puts_more p (map SlicesContent packed.put) (SlicesContent r ∷ []) first x y packed.puts (puts packed.left packed.holds)))

-- the slices of a picture, of which there is at least one
pub whole_packed : (p : Picture) (slices : List (List ℕ)) (first x y : Outbox) (run : OpenRun) → 1 ≤ length slices
    → ((slice : List ℕ) (behind : List (List ℕ)) → slices ≡ slice ∷ behind → length slice ≤ slices_room (packing_view p.settings)) → PacksSlices p slices first x run
    → ((left : List (List ℕ)) → HoldsSlices run left → PutsDatagrams p (SlicesContent (run_with_slices run left) ∷ []) x y)
    → PutsDatagrams p (map SlicesContent (runs_of_slices (slices_room (packing_view p.settings)) slices)) first y
whole_packed p [] first x y run some fits packed puts = absurd (omega (arith, some))
whole_packed p (slice ∷ behind) first x y run some fits packed puts = all_packed p (slice ∷ behind) first x run packed y slice behind refl (fits slice behind refl) puts

-- ---- pictures

-- ---- slices

pub some_slices : (across down : ℕ) → slices_fit across down ≡ true → 1 ≤ across * down
some_slices across down fits = grind (arith, common_steps, nat_tests, mul-pos)

pub all_fit : (s : Sending) (p : Picture) (slices : List (List ℕ)) → packing_view p.settings ≡ packing_of s → All (IsSized s) slices → All (FitsRun (packing_view p.settings)) slices
all_fit s p slices is sized =
    let size : p.settings.size ≡ s.size = ap (λ (t : Packing). t.size) is in
    All-weaker (IsSized s) (FitsRun (packing_view p.settings)) (λ slice one. record { some = omega (arith, one.some); room = omega (arith, one.room, size) }) slices sized

pub sent_slice_count : (s : Sending) (p : Parameters) → p ≡ sent_parameters s → s.across * s.down ≡ slice_count p
unfolding sent_parameters
sent_slice_count s p is = ap slice_count (sym is)

-- ---- pictures

module _ (s : Sending) (coded : FrameSlices) where
  pub first_is : (runs : List (List IndexedSlice)) → runs ≡ coded.first.items → All (IsPicture s) (slices_by_picture coded) → IsPicture s (joined runs)
  first_is runs is each = subst (λ (l : List (List IndexedSlice)). IsPicture s (joined l)) (sym is) (All-head (IsPicture s) (joined coded.first.items) (second_pictures coded.second) each)

  pub second_is : (second : Vec (List IndexedSlice)) (runs : List (List IndexedSlice)) → coded.second ≡ Some second → runs ≡ second.items → All (IsPicture s) (slices_by_picture coded) → IsPicture s (joined runs)
  second_is second runs some is each =
      let rest = All-tail (IsPicture s) (joined coded.first.items) (second_pictures coded.second) each in
      let own : All (IsPicture s) (joined second.items ∷ []) = subst (λ (o : Option (Vec (List IndexedSlice))). All (IsPicture s) (second_pictures o)) some rest in
      subst (λ (l : List (List IndexedSlice)). IsPicture s (joined l)) (sym is) (All-head (IsPicture s) (joined second.items) [] own)

  abbrev at : ℕ → ℕ
  at f = f * pictures_per_frame s

  -- what is sent of the first picture's slices
  abbrev first_outgoing : ℕ → List Outgoing
  first_outgoing f = coded_outgoing s (at f) (bytes_of_slices (joined coded.first.items))

  second_outgoing : (f : ℕ) (second : Option (Vec (List IndexedSlice))) → coded.second ≡ second
      → first_outgoing f ++ coded_pictures_outgoing s (at f + 1) (second_pictures second) ≡ coded_frame_outgoing s f coded
  second_outgoing f second is = ap (λ (o : Option (Vec (List IndexedSlice))). first_outgoing f ++ coded_pictures_outgoing s (at f + 1) (second_pictures o)) (sym is)

  pub one_sent : (f : ℕ) (runs : List (List IndexedSlice)) (x y : Outbox) → runs ≡ coded.first.items → coded.second ≡ None
      → Appends s (coded_outgoing s (at f + 0) (bytes_of_slices (joined runs))) x y → Appends s (coded_frame_outgoing s f coded) x y
  one_sent f runs x y is none appends =
      let here : at f + 0 ≡ at f = omega arith in
      let outgoing : coded_outgoing s (at f + 0) (bytes_of_slices (joined runs)) ≡ coded_frame_outgoing s f coded =
      (λ i. coded_outgoing s (here i) (bytes_of_slices (joined (is i))))
      ∙ sym (append-nil (first_outgoing f))
      ∙ second_outgoing f None none in
      subst (λ (l : List Outgoing). Appends s l x y) outgoing appends

  pub two_sent : (f : ℕ) (runs others : List (List IndexedSlice)) (second : Vec (List IndexedSlice)) (x y z : Outbox) → runs ≡ coded.first.items → coded.second ≡ Some second → others ≡ second.items
      → Appends s (coded_outgoing s (at f + 0) (bytes_of_slices (joined runs))) x y → Appends s (coded_outgoing s (at f + 1) (bytes_of_slices (joined others))) y z → Appends s (coded_frame_outgoing s f coded) x z
  two_sent f runs others second x y z is some are one two =
      let here : at f + 0 ≡ at f = omega arith in
      let a = coded_outgoing s (at f + 0) (bytes_of_slices (joined runs)) in
      let b = coded_outgoing s (at f + 1) (bytes_of_slices (joined others)) in
      let outgoing : a ++ b ≡ coded_frame_outgoing s f coded =
      (λ i. coded_outgoing s (here i) (bytes_of_slices (joined (is i))) ++ coded_outgoing s (at f + 1) (bytes_of_slices (joined (are i))))
      ∙ ap (λ l. first_outgoing f ++ l) (sym (append-nil (coded_outgoing s (at f + 1) (bytes_of_slices (joined second.items)))))
      ∙ second_outgoing f (Some second) some in
      subst (λ (l : List Outgoing). Appends s l x z) outgoing (appends_more s a b x y z one two)

-- ---- the numbers behind a frame

module _ (s : Sending) where
  pub number_behind : (more : List Outgoing) (x y : Outbox) → x.datagrams.items ≡ [] → Appends s more x y → y.sequence ≡ (x.sequence + length y.datagrams.items) % 2 ^ 32
  number_behind more x y none appends = grind (arith, common_steps, length-map, datagrams_count)

  pub last_timestamp : (f time : ℕ) → time ≡ timestamp_of s (f * pictures_per_frame s + digit_of s.frames.fields) → time ≡ timestamp_of s (f * pictures_per_frame s + (pictures_per_frame s - 1))
  last_timestamp f time is = grind (arith, common_steps)
