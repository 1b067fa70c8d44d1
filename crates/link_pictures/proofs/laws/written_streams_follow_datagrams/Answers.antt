use Rattle.link_pictures.proofs.Following.{new_streams, stream_follows, stream_grows, stream_ends}
use Rattle.link_pictures.proofs.laws.written_streams_follow_datagrams.Goals as goal

pub returns-clause-nothing : goal.returns-clause-nothing
returns-clause-nothing c size = new_streams size

pub returns-clause-stands : goal.returns-clause-stands
returns-clause-stands c r size f w small stands runs streams xs right d =
    stream_follows r size f w small stands runs streams xs right d

pub returns-clause-datagram : goal.returns-clause-datagram
returns-clause-datagram c r size f w small stands runs streams xs right d =
    stream_grows r size f w small stands runs streams xs right d

pub returns-clause-at_end : goal.returns-clause-at_end
returns-clause-at_end c r size f w small stands runs streams xs right =
    stream_ends r size f w small stands runs streams xs right
