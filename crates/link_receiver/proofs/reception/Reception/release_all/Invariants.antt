use Rattle.std.proofs.Common.{◌≡◌, ◌-◌, ◌≤◌}
use Rattle.std.specs.Option.{option_map}
use Rattle.receiver_model.specs.Releasing.{book_count, next_picture}
use Rattle.link_window.specs.Views.{releasable_of}
use Rattle.link_receiver.proofs.ReleaseLoop.{IsReleasing}
use Rattle.link_receiver.specs.States.{WaitsForSecond}
use Rattle.link_receiver.specs.Exchanged.{KeepsPlaces}
use Rattle.link_receiver.proofs.reception.Reception.release_all.Given as goal

abbrev pub invariant-loop : goal.invariant-loop
invariant-loop g l = record {
  releasing : IsReleasing (book_count l.fn.self) (book_count l.fn.self - l.counter) l.fn.self
      l.self l.fn.written l.written (g.O.Sink.held l.fn.sink) (g.O.Sink.held l.sink) (g.P.Places.told l.fn.places)
      (g.P.Places.told l.places);
  within : l.end ≡ book_count l.fn.self;
  later : g.O.Sink.faults l.fn.sink ≤ g.O.Sink.faults l.sink;
  next : option_map releasable_of l.next ≡ next_picture l.self;
  waiting : WaitsForSecond l.self.standing l.self.field;
  places : KeepsPlaces g.P.Places.told g.P.Places.bound l.fn.places l.places l.self.out;
}
