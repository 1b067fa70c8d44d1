use Rattle.fill_model.proofs.AtEnd.{ends}
use Rattle.fill_model.proofs.Datagrams.{grows}
use Rattle.fill_model.proofs.laws.filled_frames_follow_datagrams.Goals as goal

pub returns-clause-last : goal.returns-clause-last
returns-clause-last c r size f small stands runs xs right d =
    (grows r size f small stands runs xs right d).last

pub returns-clause-datagram : goal.returns-clause-datagram
returns-clause-datagram c r size f small stands runs xs right d =
    (grows r size f small stands runs xs right d).bytes

pub returns-clause-at_end : goal.returns-clause-at_end
returns-clause-at_end c r size f small stands runs xs right =
    ends r size f small stands runs xs right
