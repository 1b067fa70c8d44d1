use Rattle.std.proofs.Common.{rules, ◌≡◌, ◌≢◌, ℕ, List, Some, Result, Err, refl, sym, subst, ◌∙◌, arith}
use Rattle.std.specs.Global.{Vec}
use Rattle.link_sender.specs.declared.datagram.Datagram.{Datagram}
use Rattle.cmd_stream.specs.declared.pack_fault.UnitRefusal.{UnitRefusal}
use Rattle.cmd_stream.specs.declared.pack_fault.UnitRefusal.TheVariants as refusals
use Rattle.cmd_stream.specs.declared.stream.StreamPacker.{StreamPacker}
use Rattle.cmd_stream.specs.PackSteps.{PacksBody}
use Rattle.cmd_stream.specs.PackViews.{IsOpened}
use Rattle.cmd_stream.proofs.Taking.{opened_none, takes_header, takes_low, takes_none, takes_other, takes_packed, takes_refused, takes_unput}
use Rattle.vc_units.specs.Reading.{unit_of}
use Rattle.cmd_stream.proofs.stream.StreamPacker.take.Goals as goal

pub returns-in-0-clause-value : goal.returns-in-0-clause-value
returns-in-0-clause-value g c = λ s stream was. takes_header s stream (unit_of c.args.unit) c.take_header.new.self (g.O.Sink.held c.args.output.now) c.in-0.is c.take_header.result (c.take_header.ensures.value s stream was)

pub returns-in-0-clause-cause : goal.returns-in-0-clause-cause
returns-in-0-clause-cause g c = record { later = omega arith; rose = λ e. absurd (c.take_header.ensures.written e) }

pub returns-in_err-datagrams-in-Some-clause-value : goal.returns-in_err-datagrams-in-Some-clause-value
returns-in_err-datagrams-in-Some-clause-value g c = λ s stream was.
    let e = c.in_err-datagrams-in-Some.field-0.0 in
    let told : c.from_residual.result ≡ Err e = search rules in
    let new : StreamPacker = record { alloc = c.args.self.now.alloc; settings = c.args.self.now.settings; stream = Some c.pack_picture.new.self; totals = c.args.self.now.totals } in
    rw told (takes_refused s stream (unit_of c.args.unit) c.args.self.now new c.in-Some.stream c.pack_picture.new.self was c.in-Some.is c.in-232.is (g.O.Sink.held c.args.output.now) e (λ t behind. subst (λ (l : List ℕ). PacksBody s t l c.pack_picture.new.self (Err e)) c.deref.ensures.value (c.in_err-datagrams-in-Some.ensures.value s t behind)))

pub returns-in_err-datagrams-in-Some-clause-cause : goal.returns-in_err-datagrams-in-Some-clause-cause
returns-in_err-datagrams-in-Some-clause-cause g c =
    let e = c.in_err-datagrams-in-Some.field-0.0 in
    let told : c.from_residual.result ≡ Err e = search rules in
    record { later = omega arith; rose = λ wrote. absurd (c.pack_picture.ensures.written (c.in_err-datagrams-in-Some.was ∙ same_fault e (sym told ∙ wrote))) }
  where
    same_fault : (e : UnitRefusal) → ◌≡◌ {A = Result (Unit {0}) UnitRefusal} (Err e) (Err refusals.WriteFault) → ◌≡◌ {A = Result (Vec Datagram) UnitRefusal} (Err e) (Err refusals.WriteFault)
    same_fault e is = cc

pub returns-in_err-put_all-in-Some-clause-value : goal.returns-in_err-put_all-in-Some-clause-value
returns-in_err-put_all-in-Some-clause-value g c = λ s stream was.
    let told : c.from_residual-in_err-put_all-in-Some.result ≡ Err refusals.WriteFault = search rules in
    let new : StreamPacker = record { alloc = c.args.self.now.alloc; settings = c.args.self.now.settings; stream = Some c.pack_picture.new.self; totals = c.put_all.new.self } in
    rw told (takes_unput s stream (unit_of c.args.unit) c.args.self.now new c.in-Some.stream c.pack_picture.new.self was c.in-Some.is c.in-232.is (g.O.Sink.held c.args.output.now) (g.O.Sink.held c.put_all.new.output) c.in_ok-datagrams-in-Some.datagrams (λ t behind. rw c.deref.ensures.value at (c.in_ok-datagrams-in-Some.ensures.value s t behind))
    (rw c.deref-in-Some.ensures.value at c.in_err-put_all-in-Some.ensures.err))

pub returns-in-Some-clause-value : goal.returns-in-Some-clause-value
returns-in-Some-clause-value g c = λ s stream was.
    takes_packed s stream (unit_of c.args.unit) c.args.self.now _ c.in-Some.stream c.pack_picture.new.self was c.in-Some.is c.in-232.is (g.O.Sink.held c.args.output.now) (g.O.Sink.held c.put_all.new.output) c.in_ok-datagrams-in-Some.datagrams (λ t behind. rw c.deref.ensures.value at (c.in_ok-datagrams-in-Some.ensures.value s t behind))
    refl refl (rw c.deref-in-Some.ensures.value at c.in_ok-put_all-in-Some.ensures.totals) (rw c.deref-in-Some.ensures.value at c.in_ok-put_all-in-Some.ensures.ok)

pub returns-in-232-clause-value : goal.returns-in-232-clause-value
returns-in-232-clause-value g c = λ s stream was. takes_none s stream (unit_of c.args.unit) c.args.self.now (g.O.Sink.held c.args.output.now) c.in-232.is (opened_none s stream (subst (IsOpened s stream) c.in-None.is was.opened))

pub returns-in-200-clause-value : goal.returns-in-200-clause-value
returns-in-200-clause-value g c = λ s stream was.
    let held = g.O.Sink.held c.args.output.now in
    takes_low s stream (unit_of c.args.unit) c.args.self.now held c.in-200.is

pub returns-clause-value : goal.returns-clause-value
returns-clause-value g c = λ s stream was.
    let header : c.args.unit.code ≢ 0 = search rules in
    let picture : c.args.unit.code ≢ 0xE8 = search rules in
    let low : c.args.unit.code ≢ 0xC8 = search rules in
    let held = g.O.Sink.held c.args.output.now in
    takes_other s stream (unit_of c.args.unit) c.args.self.now held header picture low was
