use Rattle.std.proofs.Common.{refl, sym}
use Rattle.pcap_in.proofs.FeedSteps.{payload_step, other_step, last_step}
use Rattle.pcap_in.proofs.feed.next_step.Goals as goal

pub returns-in_default-clause-did : goal.returns-in_default-clause-did
returns-in_default-clause-did g c =
    let was = c.in_ok-kept.ensures in
    let sound = c.requires.sound in
    last_step _ _ (rw c.in_default.is at (rw sound at was.reads)) (rw c.in_default.is at (rw sound at was.place)) (record { port = refl; packets = refl; later = (rw sound at was.cause).later }) refl refl

pub returns-in-Some-part_of-clause-did : goal.returns-in-Some-part_of-clause-did
returns-in-Some-part_of-clause-did g c =
    let was = c.in_ok-kept.ensures in
    let sound = c.requires.sound in
    payload_step _ _ c.in-Some.kept c.in-Some-part_of.from c.in-Some-part_of.to
    (record {
      same = record { port = refl; packets = refl; later = (rw sound at was.cause).later };
      wanted = c.requires.more;
      counted = refl;
      reads = rw c.in-Some.is at (rw sound at was.reads);
      moved = rw c.in-Some.is at (rw sound at was.place);
    })
    refl (sym (rw c.deref.ensures.value at c.in-Some-part_of.ensures.value)) (rw c.deref.ensures.value at c.in-Some-part_of.ensures.within)

pub returns-in-None-clause-did : goal.returns-in-None-clause-did
returns-in-None-clause-did g c =
    let was = c.in_ok-kept.ensures in
    let sound = c.requires.sound in (
      refl,
      other_step _ _ c.in-Some.kept
          (record {
            same = record { port = refl; packets = refl; later = (rw sound at was.cause).later };
            wanted = c.requires.more;
            counted = refl;
            reads = rw c.in-Some.is at (rw sound at was.reads);
            moved = rw c.in-Some.is at (rw sound at was.place);
          })
          refl (sym (rw c.deref.ensures.value at c.in-None.ensures.value)),
    )
