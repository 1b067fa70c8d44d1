-- A datagram that came fits the buffer.
use Rattle.std.specs.Prelude.{◌≤◌}
use Rattle.link_net.specs.declared.backlog.Arrival.{Arrival}
use Rattle.link_net.specs.declared.backlog.Arrival.TheVariants as arrival

abbrev pub Fits : Arrival → Type 0
Fits (arrival.Datagram n) = n ≤ 65535
Fits arrival.Silence = Unit {0}
Fits (arrival.Failed e) = Unit {0}
