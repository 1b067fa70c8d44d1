-- The text of datagrams grows with each. The laws of a scribe cite these.
use Rattle.std.proofs.Common.{ℕ, List, [], ◌∷◌, ◌++◌, sym, append-nil}
use Rattle.std.proofs.lemmas.List.Concat.{flat_map-append}
use Rattle.link_model.specs.Output.{IsPrefixOf}
use Rattle.cmd_rtcp.specs.Showing.{due_text, shown_lines, shown_text}

pub more_shown : (ds : List (List ℕ)) (d : List ℕ)
    → IsPrefixOf (due_text.so_far ds) (due_text.so_far (ds ++ d ∷ []))
more_shown ds d = (shown_text (d ∷ []), flat_map-append shown_lines ds (d ∷ []))

pub all_shown : (ds : List (List ℕ)) → IsPrefixOf (due_text.so_far ds) (due_text.in_all ds)
all_shown ds = ([], sym (append-nil (shown_text ds)))
