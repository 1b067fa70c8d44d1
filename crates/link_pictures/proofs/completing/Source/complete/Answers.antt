use Rattle.std.proofs.Common.{◌≡◌, ℕ, sym, ap, subst, ◌∙◌, arith}
use Rattle.link_pictures.proofs.CompletedSlices.{none_came, one_came, all_came, one_unsound, comes_again}
use Rattle.link_pictures.specs.Completing.{comes_to, HaveCome}
use Rattle.vc_types.specs.Subbands.{slice_count}
use Rattle.vc_types.specs.TransformParameters.{parameters_of}
use Rattle.link_pictures.proofs.completing.Source.complete.Goals as goal

pub complete_slice-requires-clause-plan : goal.complete_slice-requires-clause-plan
complete_slice-requires-clause-plan c = c.loop-index.invariant.parameters ∙ c.requires.plan

pub complete_slice-requires-clause-entries : goal.complete_slice-requires-clause-entries
complete_slice-requires-clause-entries c = grind arith

pub loop-index-init : goal.loop-index-init
loop-index-init c = none_came (comes_to c.args.builder.now c.args.unsound.now c.args.self.now.book.now) c.args.builder.now

pub loop-index-preserved : goal.loop-index-preserved
loop-index-preserved c =
    let first = c.args.builder.now in
    let unsound = c.args.unsound.now in
    let book = c.args.self.now.book.now in
    let i = c.loop-index.index in
    let before = c.loop-index.invariant in
    one_came (comes_to first unsound book) i first c.loop-index.builder c.complete_slice.new.builder
    (comes_to c.loop-index.builder unsound book i) before
    (comes_again first c.loop-index.builder unsound book i (before.others i (omega arith)) before.parameters)
    (rw c.if-not-branch.false at c.in_ok-complete_slice.ensures.value)

pub returns-then-not-branch : goal.returns-then-not-branch
returns-then-not-branch c =
    let first = c.args.builder.now in
    let unsound = c.args.unsound.now in
    let book = c.args.self.now.book.now in
    let i = c.loop-index.index in
    let p = parameters_of c.args.self.now.plan in
    let before = c.loop-index.invariant in
    let same = comes_again first c.loop-index.builder unsound book i (before.others i (omega arith)) before.parameters in
    let gave = rw c.if-not-branch.true at c.in_ok-complete_slice.ensures.value in
    record {
      value = one_unsound (comes_to first unsound book) p first c.requires.plan (c.requires.entries.sound_entries ∙ ap slice_count c.requires.plan)
          i gave.0 (omega (arith, c.loop-index-test.true)) (sym same ∙ gave.1);
    }

pub returns : goal.returns
returns c =
    let first = c.args.builder.now in
    let decoding = comes_to first c.args.unsound.now c.args.self.now.book.now in
    let p = parameters_of c.args.self.now.plan in
    let all : c.loop-index.index ≡ slice_count p = omega (arith, c.loop-index-test.false, c.loop-index.auto.index-end) in
    record {
      value = all_came decoding p first c.requires.plan (c.requires.entries.sound_entries ∙ ap slice_count c.requires.plan) c.loop-index.builder
          (subst (λ (k : ℕ). HaveCome decoding k first c.loop-index.builder) all c.loop-index.invariant);
    }
