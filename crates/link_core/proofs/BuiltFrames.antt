-- Frames by the windows of the sessions are those that the feeder builds.
use Rattle.std.proofs.Common.{◌≡◌, ℕ, ◌≤◌, Bool, true, false, cond, List, [], ◌∷◌, Option, Some, None, arith}
use Rattle.std.proofs.Common.{Result, Ok, Err, refl, ap, sym, subst, ◌∙◌}
use Rattle.std.specs.Prelude.{take}
use Rattle.std.specs.Option.{option_and_then, option_map_or}
use Rattle.std.proofs.lemmas.Option.{same_Some, none-some}
use Rattle.link_core.specs.Frames.{answered_book_planes, window_planes, window_bytes}
use Rattle.link_core.specs.Frames.{sessions_bytes, IsAnswered, HasAnsweredBooks}
use Rattle.link_core.specs.Hearing.{SessionWindow, session_windows, session_among}
use Rattle.link_core.proofs.HeardSessions.{IsSessionOf, IsFound, session_found}
use Rattle.link_core.proofs.KeptBooks.{plan_of_kept, plan_of_none}
use Rattle.link_model.specs.Books.{book_of, book_plan}
use Rattle.machine_model.specs.Feeders.{SliceAnswer, EnteredSession, session_opening, keeps_of, kept_job}
use Rattle.machine_model.specs.Feeders.{answer_in}
use Rattle.machine_model.specs.Feeding.{built_bytes, built_planes, planes_by}
use Rattle.machine_model.specs.Interleavings.{AreOwnAnswers}
use Rattle.link_model.specs.Kept.{KeptParameters, kept_parameters, parameters_in, SplitParts}
use Rattle.link_model.specs.Kept.{split_parts, Own, own}
use Rattle.link_model.specs.Numbers.{is_opened, parts_of}
use Rattle.machine_model.specs.Places.{Job, decoding}
use Rattle.link_model.specs.Session.{HeardSession, Part, ParamsPart, SlicesPart}
use Rattle.link_model.proofs.Leaving.{no_parts}
use Rattle.machine_model.proofs.PicturesHeard.{session_here, session_earlier, session_opened}
use Rattle.machine_model.proofs.PicturesStay.{kept_slice}
use Rattle.picture_build.proofs.WholeSlices.{whole_slice}
use Rattle.vc_types.specs.SequenceHeader.{Sequence, picture_shape}
use Rattle.vc_types.specs.SliceCoefficients.{AreSliceCoefficients}
use Rattle.vc_types.specs.Slices.{Coefficients}
use Rattle.vc_types.specs.TransformParameters.{Parameters, coded_parameters}
use Rattle.vc_types.specs.declared.refusal.ParamsRefusal.{ParamsRefusal}
use Rattle.vc_types.specs.declared.refusal.Unsound.{Unsound}
use Rattle.vc_types.proofs.CodedBytes.{found}
use Rattle.vc_types.proofs.ParameterCodecs.{parameters_are}

-- ---- parameters are of their sequence

module _ (s : Sequence) where
  coded_shape : (body : List ℕ) (r : Result (Parameters × ℕ) ParamsRefusal) → coded_parameters s body ≡ r → (plan : KeptParameters) → kept_parameters body r ≡ Some plan → plan.parameters.shape ≡ picture_shape s
  coded_shape body (Err refusal) is plan e = absurd (none-some plan e)
  coded_shape body (Ok read) is plan e =
      let begins = found body (λ (x : Parameters × ℕ). x) (Ok read) (parameters_are s) is in
      subst (λ (p : KeptParameters). p.parameters.shape ≡ picture_shape s) (same_Some (record { parameters = read.0; bytes = take read.1 body }) plan e)
      (ap (λ (p : Parameters). p.shape) (sym begins.stands_for))

  planned_shape : (part : Part) (plan : KeptParameters) → parameters_in s part ≡ Some plan → plan.parameters.shape ≡ picture_shape s
  unfolding parameters_in
  planned_shape (SlicesPart slices) plan e = absurd (none-some plan e)
  planned_shape (ParamsPart body) plan e = coded_shape body (coded_parameters s body) refl plan e

  parted_shape : (parts : List Part) (p : SplitParts) → split_parts s parts ≡ Some p → p.plan.parameters.shape ≡ picture_shape s
  unfolding split_parts
  parted_shape [] p e = absurd (none-some p e)
  parted_shape (part ∷ parts) p e = grind (arith, planned_shape, parted_shape parts)

  own_shape : (parts : List Part) (kept : Own) → own s parts ≡ Some kept → kept.plan.parameters.shape ≡ picture_shape s
  unfolding own
  own_shape parts kept is = grind (arith, parted_shape)

  own_nothing : own s [] ≡ None
  unfolding own split_parts
  own_nothing = refl

-- ---- answers are own

answer_own : (size : ℕ) (hs : List HeardSession) (decoded : List SliceAnswer) (n i : ℕ) (answer : Result Coefficients Unsound) → AreOwnAnswers size hs decoded
    → answer_in decoded n i ≡ Some answer → (job : Job) × (kept_job size hs n i ≡ Some job) × (answer ≡ decoding job)
answer_own size hs [] n i answer each e = absurd (none-some answer e)
answer_own size hs (a ∷ later) n i answer each e = grind (arith, answer_own size hs later n i answer each.1)

-- ---- the session of the window

module _ (decoded : List SliceAnswer) (s : SessionWindow) (e : EnteredSession) (of : IsSessionOf s e) where
  planes_of_book : (n : ℕ) → answered_book_planes decoded n (book_of e.sequence (parts_of n e.entries)) ≡ built_planes decoded e n
  planes_of_book n = grind (arith, plan_of_none, plan_of_kept)

  unopened : (n : ℕ) → is_opened e.entries n ≡ false → None ≡ built_planes decoded e n
  unopened n none = sym (ap (option_and_then (planes_by decoded n)) (ap (own e.sequence) (no_parts (parts_of n e.entries) none) ∙ own_nothing e.sequence))

  window_planes_are : (n : ℕ) → window_planes decoded s.window n ≡ built_planes decoded e n
  window_planes_are n = grind (arith, planes_of_book, unopened)

  window_bytes_are : (n : ℕ) → window_bytes decoded s n ≡ built_bytes decoded n e
  window_bytes_are n = grind (arith, window_planes_are)

  module _ (size : ℕ) (hs : List HeardSession) (answers : AreOwnAnswers size hs decoded)
      (opens : (n : ℕ) → is_opened e.entries n ≡ true → session_opening size hs n ≡ Some e) where
    kept_answers : (n : ℕ) → is_opened e.entries n ≡ true → (kept : Own) → keeps_of e n ≡ Some kept → IsAnswered decoded e.sequence n kept.plan
    kept_answers n opened kept is = record {
      shape = own_shape e.sequence (parts_of n e.entries) kept is;
      sound = λ i c answer. (
          let own = answer_own size hs decoded n i (Ok c) answers answer in
          let k = kept_slice size hs n i own.0 own.1 in
          let session : k.session ≡ e = same_Some k.session e (sym k.found ∙ opens n opened) in
          let same : k.kept ≡ kept = same_Some k.kept kept (sym k.keeps ∙ ap (λ (e : EnteredSession). keeps_of e n) session ∙ is) in
          let plan : own.0.plan ≡ kept.plan.parameters = sym (ap (λ (j : Job). j.plan) k.is) ∙ ap (λ (o : Own). o.plan.parameters) same in
          let index : own.0.index ≡ i = sym (ap (λ (j : Job). j.index) k.is) in
          subst (λ (p : Parameters). AreSliceCoefficients p i c) plan
          (subst (λ j. AreSliceCoefficients own.0.plan j c) index (whole_slice own.0.plan own.0.index c own.0.bytes (sym own.2))));
    }

    books_answered : HasAnsweredBooks decoded s
    books_answered n book there plan planned = by_opened (is_opened e.entries n) refl (sym (of.book n) ∙ there)
      where
        by_own : (o : Option Own) → own e.sequence (parts_of n e.entries) ≡ o → is_opened e.entries n ≡ true → book_plan (book_of e.sequence (parts_of n e.entries)) ≡ Some plan → IsAnswered decoded s.session.sequence n plan
        by_own None is opened at = absurd (none-some plan (sym (plan_of_none e.sequence (parts_of n e.entries) is) ∙ at))
        by_own (Some kept) is opened at =
            subst (λ (q : Sequence). IsAnswered decoded q n plan) (sym of.sequence)
            (subst (IsAnswered decoded e.sequence n) (same_Some kept.plan plan (sym (plan_of_kept e.sequence (parts_of n e.entries) kept is) ∙ at)) (kept_answers n opened kept is))

        by_opened : (b : Bool) → is_opened e.entries n ≡ b → cond b (Some (book_of e.sequence (parts_of n e.entries))) None ≡ Some book → IsAnswered decoded s.session.sequence n plan
        by_opened false is at = absurd (none-some book at)
        by_opened true is at = by_own (own e.sequence (parts_of n e.entries)) refl is (ap book_plan (same_Some (book_of e.sequence (parts_of n e.entries)) book at) ∙ planned)

-- ---- what is written

pub sessions_bytes_are : (size : ℕ) (hs : List HeardSession) (decoded : List SliceAnswer) (n : ℕ)
    → sessions_bytes decoded (session_among (session_windows size hs) n) n ≡ option_map_or (built_bytes decoded n) (session_opening size hs n) []
sessions_bytes_are size hs decoded n = by_found (session_among (session_windows size hs) n) (session_opening size hs n) (session_found size hs n)
  where
    by_found : (o : Option SessionWindow) (p : Option EnteredSession) → IsFound o p → sessions_bytes decoded o n ≡ option_map_or (built_bytes decoded n) p []
    by_found None None found = refl
    by_found (Some s) (Some e) found = window_bytes_are decoded s e found n
    by_found None (Some e) found = absurd found
    by_found (Some s) None found = absurd found

module _ (size : ℕ) (small : size ≤ 8) where
  opening_all : (hs : List HeardSession) (n m : ℕ) (e : EnteredSession) → session_opening size hs n ≡ Some e → is_opened e.entries m ≡ true → session_opening size hs m ≡ Some e
  unfolding session_opening
  opening_all [] n m e found opened = absurd (none-some e found)
  opening_all (h ∷ hs) n m e found opened =
      grind (arith, session_here, session_earlier, session_opened, opening_all hs n m e)

  pub among_answered : (hs : List HeardSession) (decoded : List SliceAnswer) (n : ℕ) (s : SessionWindow) → AreOwnAnswers size hs decoded
      → session_among (session_windows size hs) n ≡ Some s → HasAnsweredBooks decoded s
  among_answered hs decoded n s answers is = by_found (session_opening size hs n) refl (subst (λ (o : Option SessionWindow). IsFound o (session_opening size hs n)) is (session_found size hs n))
    where
      by_found : (p : Option EnteredSession) → session_opening size hs n ≡ p → IsFound (Some s) p → HasAnsweredBooks decoded s
      by_found None at found = absurd found
      by_found (Some e) at found = books_answered decoded s e found size hs answers (λ m opened. opening_all hs n m e at opened)

pub bytes_found : (size : ℕ) (hs : List HeardSession) (decoded : List SliceAnswer) (n : ℕ) (ss : List SessionWindow) (o : Option SessionWindow)
    → o ≡ session_among ss n → ss ≡ session_windows size hs → sessions_bytes decoded o n ≡ option_map_or (built_bytes decoded n) (session_opening size hs n) []
bytes_found size hs decoded n ss o is same = grind (arith, sessions_bytes_are)
