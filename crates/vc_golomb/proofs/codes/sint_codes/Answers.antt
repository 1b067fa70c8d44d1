use Rattle.std.proofs.Common.{◌≡◌, append-nil, arith, rules, get_or, pos, to_z, of_z}
use Rattle.std.specs.Int.{w32}
use Rattle.vc_types.proofs.Bits.{bits_of-nil}
use Rattle.vc_golomb.proofs.AppendedCodes.{triple_added, code_more}
use Rattle.vc_golomb.proofs.codes.sint_codes.Goals as goal

pub triples-init : goal.triples-init
triples-init c = grind (arith, append-nil, bits_of-nil)

pub add_triple-requires-clause-room : goal.add_triple-requires-clause-room
add_triple-requires-clause-room c = omega arith

pub triples-preserved-then-begins_triple : goal.triples-preserved-then-begins_triple
triples-preserved-then-begins_triple c = record {
  within = omega arith;
  bits = triple_added c.args.numbers.now c.triples.at _ _ (omega arith) c.triples.invariant.bits c.add_triple.ensures.bits;
  len = omega arith;
  capacity = omega arith;
}

pub add_code-requires : goal.add_code-requires
add_code-requires c = record { room = omega arith }

pub triples-preserved : goal.triples-preserved
triples-preserved c =
    let numbers = c.args.numbers.now in
    let i = c.triples.at in
    let own : to_z w32 (of_z w32 (get_or numbers i (pos 0))) ≡ get_or numbers i (pos 0) = search rules in
    record {
      within = omega arith;
      bits = code_more numbers i _ _ (omega arith) c.triples.invariant.bits (rw own at c.add_code.ensures.bits);
      len = omega arith;
      capacity = omega arith;
    }

pub add_code-requires-in-last : goal.add_code-requires-in-last
add_code-requires-in-last c = record { room = omega arith }

pub last-preserved : goal.last-preserved
last-preserved c =
    let numbers = c.args.numbers.now in
    let i = c.last.at in
    let own : to_z w32 (of_z w32 (get_or numbers i (pos 0))) ≡ get_or numbers i (pos 0) = search rules in
    record {
      within = omega arith;
      bits = code_more numbers i _ _ c.last-test.true c.last.invariant.bits (rw own at c.add_code-in-last.ensures.bits);
      len = omega arith;
      capacity = omega arith;
    }

pub finish-requires : goal.finish-requires
finish-requires c = record { room = omega arith }
