-- What one call of a scribe, and the write behind it, do to what was heard.
use Rattle.std.proofs.Common.{◌≡◌, ℕ, ◌+◌, ◌≤◌, List, [], ◌∷◌, ◌++◌, Ok, Err, refl, arith, append-nil, length-append}
use Rattle.std.specs.Prelude.{Result}
use Rattle.link_hearing.specs.declared.listener.ListenerFault.{ListenerFault}
use Rattle.link_hearing.specs.declared.listener.ListenerFault.TheVariants as faults
use Rattle.link_model.specs.Output.{IsPrefixOf}
use Rattle.vc_ports.proofs.Growing.{Grew-then, GrewBySome-all, GrewBySome-then}
use Rattle.vc_ports.specs.Writing.{Grew, GrewBySome}
use Rattle.vc_types.specs.declared.memory.NoMemory.{NoMemory}
use Rattle.cmd_rtcp.specs.Due.{Due}
use Rattle.cmd_rtcp.specs.Pieces.{WritesPiece, piece_bytes}
use Rattle.cmd_rtcp.specs.WritingLaws.{part_of, part_of_more}
use Rattle.cmd_rtcp.specs.Writings.{WritingState, BreaksOff, Drains, Hears, Stumbles, TakesEnd}
use Rattle.cmd_rtcp.specs.declared.piece.Piece.{Piece}

module _ {S : Type 0} (knows ended : S → S → List (List ℕ) → Type 0) (due : S → Due)
    (x y : WritingState S) (later : x.faults ≤ y.faults) where
  -- ---- a datagram

  module _ (d : List ℕ) where
    -- what a scribe says of it
    abbrev pub Says : Piece → Type 0
    Says piece = (first : S) (heard : List (List ℕ)) → knows first x.scribe heard
        → knows first y.scribe (heard ++ d ∷ [])
        × ((due first).so_far (heard ++ d ∷ []) ≡ (due first).so_far heard ++ piece_bytes piece)

    pub hears_one : (piece : Piece) → Says piece → Grew x.held y.held (piece_bytes piece)
        → y.datagrams ≡ x.datagrams + 1 → Hears knows due x y (d ∷ [])
    hears_one piece says grew counted = record {
      later = later;
      since = λ first held before was.
          let said = says first before was.knows_so in
          record {
            knows_so = said.0;
            wrote = rw said.1 (Grew-then held x.held y.held _ _ was.wrote grew);
            count = omega (arith, counted, was.count, length-append before (d ∷ []));
          };
    }

    module _ (more : (first : S) (heard : List (List ℕ)) (e : List ℕ)
        → IsPrefixOf ((due first).so_far heard) ((due first).so_far (heard ++ e ∷ [])))
        (all : (first : S) (heard : List (List ℕ))
        → IsPrefixOf ((due first).so_far heard) ((due first).in_all heard)) where
      stumbles_at : (piece : Piece) → Says piece → GrewBySome x.held y.held (piece_bytes piece)
          → Stumbles knows due x y (d ∷ [])
      stumbles_at piece says part = record {
        later = later;
        since = λ first held before was.
            let said = says first before was.knows_so in
            part_of held y.held ((due first).in_all (before ++ d ∷ []))
            ((due first).so_far (before ++ d ∷ [])) (all first (before ++ d ∷ []))
            (rw said.1 (GrewBySome-then held x.held y.held _ _ was.wrote part));
      }

      -- there was no memory for what is to be said
      silent_at : y.held ≡ x.held → Stumbles knows due x y (d ∷ [])
      silent_at stays = record {
        later = later;
        since = λ first held before was.
            rw stays (part_of_more knows due more all first held x.held before d
            (GrewBySome-all held x.held _ was.wrote));
      }

      pub breaks_one : (piece : Result Piece NoMemory) (fault : ListenerFault)
          → ((said : Piece) → piece ≡ Ok said → Says said)
          → WritesPiece piece x.held y.held x.faults y.faults (Err fault)
          → BreaksOff knows due x y (d ∷ []) fault
      breaks_one (Ok piece) faults.Output says w = (stumbles_at piece (says piece refl) w.0, w.1)
      breaks_one (Ok piece) faults.NoMemory says w = absurd w
      breaks_one (Err none) faults.NoMemory says w = silent_at w
      breaks_one (Err none) faults.Output says w = absurd w

  -- ---- the end

  abbrev pub SaysLast : Piece → Type 0
  SaysLast piece = (first : S) (heard : List (List ℕ)) → knows first x.scribe heard
      → ended first y.scribe heard
      × ((due first).in_all heard ≡ (due first).so_far heard ++ piece_bytes piece)

  drains_so : (piece : Piece) → SaysLast piece → Grew x.held y.held (piece_bytes piece)
      → y.datagrams ≡ x.datagrams → Drains knows ended due x y
  drains_so piece says grew counted = record {
    later = later;
    since = λ first held heard was.
        let said = says first heard was.knows_so in
        record {
          ended_so = said.0;
          wrote = rw said.1 (Grew-then held x.held y.held _ _ was.wrote grew);
          count = omega (arith, counted, was.count);
        };
  }

  stumbles_at_end : (piece : Piece) → SaysLast piece → GrewBySome x.held y.held (piece_bytes piece)
      → Stumbles knows due x y []
  stumbles_at_end piece says part = record {
    later = later;
    since = λ first held before was.
        let said = says first before was.knows_so in
        rw (append-nil before, said.1) (GrewBySome-then held x.held y.held _ _ was.wrote part);
  }

  module _ (all : (first : S) (heard : List (List ℕ))
      → IsPrefixOf ((due first).so_far heard) ((due first).in_all heard)) where
    silent_at_end : y.held ≡ x.held → Stumbles knows due x y []
    silent_at_end stays = record {
      later = later;
      since = λ first held before was. rw (append-nil before, stays)
          (part_of held x.held ((due first).in_all before) ((due first).so_far before) (all first before)
          (GrewBySome-all held x.held _ was.wrote));
    }

    pub takes_end : (piece : Result Piece NoMemory) (result : Result (Unit {0}) ListenerFault)
        → ((said : Piece) → piece ≡ Ok said → SaysLast said) → y.datagrams ≡ x.datagrams
        → WritesPiece piece x.held y.held x.faults y.faults result
        → TakesEnd knows ended due x y result
    takes_end (Ok piece) (Ok done) says counted w = drains_so piece (says piece refl) w counted
    takes_end (Ok piece) (Err faults.Output) says counted w = (stumbles_at_end piece (says piece refl) w.0, w.1)
    takes_end (Ok piece) (Err faults.NoMemory) says counted w = absurd w
    takes_end (Err none) (Ok done) says counted w = absurd w
    takes_end (Err none) (Err faults.NoMemory) says counted w = silent_at_end w
    takes_end (Err none) (Err faults.Output) says counted w = absurd w
