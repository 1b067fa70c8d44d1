-- What a receiver stands for, whatever session stands.
use Rattle.std.proofs.Common.{◌≡◌, ℕ, ◌≤◌, false, refl, ap, ◌∙◌, List, [], ◌∷◌, ◌++◌}
use Rattle.std.proofs.Common.{Bool, arith}
use Rattle.machine_model.specs.Feeders.{Feeder, releasable}
use Rattle.machine_model.specs.Feeding.{hears_datagram, hears_end}
use Rattle.link_model.specs.Judgement.{outcome_behind, tally_of}
use Rattle.machine_model.specs.Machine.{Enter, Finish}
use Rattle.machine_model.specs.Next.{next_feeder, taken_back}
use Rattle.link_model.specs.Output.{output_so_far, full_output}
use Rattle.link_model.specs.Session.{HeardSession, sessions_of, opens_behind, begins}
use Rattle.receiver_model.specs.Entering.{takes_datagram, datagram_bytes, takes_end, end_bytes}
use Rattle.receiver_model.specs.Entering.{before_releases}
use Rattle.receiver_model.specs.Exchanging.{Exchange, dones_in, all_exchanged}
use Rattle.receiver_model.specs.Judging.{judged, ends_input}
use Rattle.receiver_model.specs.Receptions.{Reception}
use Rattle.receiver_model.specs.Standing.{StandsFor, StandsForHeard, AreDecodings}
use Rattle.receiver_model.proofs.HeardMore.{written_of}
use Rattle.receiver_model.specs.Standing.{out_without}
use Rattle.receiver_model.proofs.EarlyDatagrams.{early_follows}
use Rattle.receiver_model.proofs.EarlyEnd.{early_end}
use Rattle.receiver_model.proofs.Entered.{follows, follows_end, heard_again, heard_still}
use Rattle.receiver_model.proofs.Followed.{FollowsDatagram, FollowsEnd}
use Rattle.receiver_model.proofs.JudgedOutcomes.{judged_is}

pub outcome_is : (r : Reception) (size : ℕ) (datagrams : List (List ℕ)) (d : List ℕ)
    → StandsForHeard r size datagrams false → judged r d ≡ outcome_behind size datagrams d
outcome_is r size datagrams d stands = judged_is r size datagrams d stands.session

module _ (r : Reception) (size : ℕ) (f : Feeder) (small : size ≤ 8) (stands : StandsFor r size f)
    (runs : f.has_ended ≡ false) (xs : List Exchange) (right : AreDecodings (dones_in xs)) where
  so_far : f.written ≡ output_so_far size f.heard
  so_far = stands.written ∙ ap (λ (over : Bool). written_of size over f.heard) runs

  module _ (d : List ℕ) where
    abbrev then : Feeder
    then = next_feeder size f (Enter d) (dones_in xs)

    follows_it : FollowsDatagram r size f xs d
    follows_it = by_sessions (sessions_of f.heard) refl
      where
        by_sessions : (l : List HeardSession) → sessions_of f.heard ≡ l
            → FollowsDatagram r size f xs d
        by_sessions [] at = early_follows r size small f stands runs at xs d (begins d) refl
        by_sessions (h ∷ hs) at = follows r size small f stands runs h hs at xs right d
            (opens_behind h (begins d)) refl

    pub datagram_stands : StandsFor (takes_datagram r d xs) size then
    datagram_stands = follows_it.stands

    -- the slices of released pictures aren't out any more
    pub datagram_out : (takes_datagram r d xs).out ≡ out_without
        (releasable size (taken_back size (hears_datagram f d) (dones_in xs)))
        (before_releases r d xs).out
    datagram_out = follows_it.out

    -- the output so far grows by what it writes
    pub datagram_writes : output_so_far size (f.heard ++ d ∷ [])
        ≡ output_so_far size f.heard ++ datagram_bytes r d xs
    datagram_writes = grind (arith, follows_it, heard_again, so_far, written_of)

  -- ---- the end

  abbrev over : Feeder
  over = next_feeder size f Finish (dones_in xs)

  follows_its_end : FollowsEnd r size f xs
  follows_its_end = by_sessions (sessions_of f.heard) refl
    where
      by_sessions : (l : List HeardSession) → sessions_of f.heard ≡ l → FollowsEnd r size f xs
      by_sessions [] at = early_end r size f stands runs at xs
      by_sessions (h ∷ hs) at = follows_end r size small f stands runs h hs at xs right

  pub finished_stands : StandsFor (takes_end r xs) size over
  finished_stands = follows_its_end.stands

  pub finished_out : (takes_end r xs).out ≡ out_without
      (releasable size (taken_back size (hears_end f) (dones_in xs)))
      (all_exchanged (ends_input r) xs).out
  finished_out = follows_its_end.out

  pub finished_writes : full_output size f.heard ≡ output_so_far size f.heard ++ end_bytes r xs
  finished_writes = grind (arith, follows_its_end, heard_still, so_far, written_of)

  pub finished_counts : (takes_end r xs).counts ≡ tally_of size f.heard
  unfolding tally_of
  finished_counts = grind (arith, follows_its_end, heard_still)
