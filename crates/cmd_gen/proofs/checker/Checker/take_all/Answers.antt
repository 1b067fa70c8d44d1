use Rattle.std.proofs.Common.{arith, append-nil, ◌∷◌, [], ◌++◌, List, ℕ, take, ap, sym, subst, ◌∙◌}
use Rattle.std.proofs.lemmas.List.{take_all, take_more}
use Rattle.cmd_gen.specs.Comparing.{IsCheckedUpTo}
use Rattle.cmd_gen.proofs.Checked.{one_more_taken}
use Rattle.link_receiver.proofs.Asked.{asked_none, asked_twice}
use Rattle.link_sender.specs.declared.datagram.Datagram.{Datagram}
use Rattle.link_sender.specs.Packing.{bytes_of_all}
use Rattle.cmd_gen.proofs.checker.Checker.take_all.Goals as goal

pub loop-datagram-preserved : goal.loop-datagram-preserved
loop-datagram-preserved g c =
    let all = c.args.datagrams.now in
    let i = c.loop-datagram.datagram-index in
    let more = take_more all i c.datagram-item.result c.loop-datagram-test.true ∙ ap (λ (d : Datagram). take i all ++ d ∷ []) (sym c.datagram-item.is) in
    record {
      checked = λ generating window heard is.
          subst (λ (l : List (List ℕ)). IsCheckedUpTo generating window l c.take.new.self) (one_more_taken all i c.datagram-item.result more heard)
          (rw c.deref.ensures.value at (c.in_ok-take.ensures.checked generating window (heard ++ bytes_of_all (take i all)) (c.loop-datagram.invariant.checked generating window heard is)));
      told = asked_twice _ _ _ c.loop-datagram.invariant.told c.in_ok-take.ensures.told;
      below = c.in_ok-take.ensures.below;
    }

pub loop-datagram-init : goal.loop-datagram-init
loop-datagram-init g c = record {
  checked = λ generating window heard is. subst (λ (l : List (List ℕ)). IsCheckedUpTo generating window l c.args.self.now) (sym (append-nil heard)) is;
  told = asked_none _;
  below = c.requires.below;
}

pub returns-in_err-take-clause-told : goal.returns-in_err-take-clause-told
returns-in_err-take-clause-told g c = asked_twice _ _ _ c.loop-datagram.invariant.told c.in_err-take.ensures.told

pub returns-clause-checked : goal.returns-clause-checked
returns-clause-checked g c = λ generating window heard is.
    let all = take_all c.loop-datagram.datagram-index c.args.datagrams.now (omega (arith, c.loop-datagram-test.false)) in
    subst (λ (l : List Datagram). IsCheckedUpTo generating window (heard ++ bytes_of_all l) c.loop-datagram.self) all (c.loop-datagram.invariant.checked generating window heard is)
