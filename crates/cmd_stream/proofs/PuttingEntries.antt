-- Entries of datagrams that are written one after another.
use Rattle.std.proofs.Common.{◌≡◌, ℕ, ◌+◌, List, [], ◌∷◌, ◌++◌, take, drop, Option, ap, sym, ◌∙◌, subst}
use Rattle.cmd_send.proofs.PuttingAll.{bytes_more, whole as put_whole}
use Rattle.link_capture.specs.Capture.{entry}
use Rattle.link_sender.specs.declared.datagram.Datagram.{Datagram}
use Rattle.link_sender.specs.Packing.{bytes_of_all}
use Rattle.link_outside.specs.Outlets.{capture_of}
use Rattle.link_outside.specs.CaptureLaws.{capture-append, capture-one}
use Rattle.vc_ports.specs.Writing.{Grew, GrewBySome}
use Rattle.vc_ports.proofs.Growing.{GrewBySome-then, GrewBySome-front}

module _ (datagrams : List Datagram) (i : ℕ) (one : Datagram) (more : take (i + 1) datagrams ≡ take i datagrams ++ one ∷ []) where
  capture_more : capture_of (bytes_of_all (take (i + 1) datagrams)) ≡ capture_of (bytes_of_all (take i datagrams)) ++ entry one.bytes.items
  capture_more =
      ap capture_of (bytes_more datagrams i one more)
      ∙ capture-append (bytes_of_all (take i datagrams)) (one.bytes.items ∷ [])
      ∙ ap (λ (l : List ℕ). capture_of (bytes_of_all (take i datagrams)) ++ l) (capture-one one.bytes.items)

  module _ (before mid after : Option (List ℕ)) (grew : Grew before mid (capture_of (bytes_of_all (take i datagrams)))) where
    pub entry_some : GrewBySome mid after (entry one.bytes.items) → GrewBySome before after (capture_of (bytes_of_all datagrams))
    entry_some some = subst (GrewBySome before after) whole
        (GrewBySome-front before after (capture_of (bytes_of_all (take (i + 1) datagrams))) (capture_of (bytes_of_all (drop (i + 1) datagrams)))
        (subst (GrewBySome before after) (sym capture_more) (GrewBySome-then before mid after (capture_of (bytes_of_all (take i datagrams))) (entry one.bytes.items) grew some)))
      where
        whole : capture_of (bytes_of_all (take (i + 1) datagrams)) ++ capture_of (bytes_of_all (drop (i + 1) datagrams)) ≡ capture_of (bytes_of_all datagrams)
        whole =
            sym (capture-append (bytes_of_all (take (i + 1) datagrams)) (bytes_of_all (drop (i + 1) datagrams)))
            ∙ ap capture_of (put_whole datagrams i one more)
