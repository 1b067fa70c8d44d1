-- What a checker has compared, behind the datagrams that its receiver heard.
use Rattle.std.proofs.Common.{◌≡◌, ℕ, ◌+◌, List, take, [], ◌∷◌, ◌++◌, Some, sym, ap, ◌∙◌, append_assoc, append-nil}
use Rattle.std.proofs.lemmas.List.{map-append}
use Rattle.cmd_gen.specs.Comparing.{IsCheckedUpTo}
use Rattle.cmd_gen.specs.Counting.{counted_with}
use Rattle.cmd_gen.specs.declared.checker.Checker.{Checker}
use Rattle.cmd_gen.specs.declared.comparison.Comparison.{Comparison}
use Rattle.cmd_gen.specs.Differences.{differences}
use Rattle.link_receiver.proofs.Due.{due_at_end, due_with, nothing_due}
use Rattle.link_model.specs.Output.{full_output, output_so_far}
use Rattle.link_receiver.specs.HeardLists.{AsFrames, HasHeard, newly_due, still_due}
use Rattle.link_sender.specs.declared.datagram.Datagram.{Datagram}
use Rattle.link_sender.specs.Packing.{bytes_of_all}
use Rattle.vc_ports.specs.Writing.{Grew}
use Rattle.vc_types.specs.SenderSettings.{Generating}

pub nothing_checked : {H : Type 0} (g : Generating) (window : ℕ) (checker : Checker H) → HasHeard AsFrames checker.receiver window [] → ((bytes : List ℕ) → counted_with checker.comparison bytes ≡ differences g bytes) → IsCheckedUpTo g window [] checker
nothing_checked g window checker heard fresh = record {
  has_heard = heard;
  counted = λ bytes. fresh bytes ∙ ap (λ (l : List ℕ). differences g (l ++ bytes)) (sym (nothing_due AsFrames window));
}

-- what went out to a sink that held nothing
pub all_written : (written bytes : List ℕ) → Grew (Some []) (Some written) bytes → written ≡ bytes
all_written written bytes grew = cc grew

module _ {H : Type 0} (g : Generating) (window : ℕ) (heard : List (List ℕ)) (old : Checker H) (is : IsCheckedUpTo g window heard old) (written : List ℕ) where
  counted_behind : (due : List ℕ) → written ≡ due → (bytes : List ℕ) → counted_with old.comparison (written ++ bytes) ≡ differences g ((output_so_far window heard ++ due) ++ bytes)
  counted_behind due same bytes =
      is.counted (written ++ bytes)
      ∙ ap (λ (l : List ℕ). differences g (output_so_far window heard ++ (l ++ bytes))) same
      ∙ ap (differences g) (sym (append_assoc (output_so_far window heard) due bytes))

  -- one datagram more
  pub one_checked : (new : Checker H) (datagram : List ℕ) → HasHeard AsFrames new.receiver window (heard ++ datagram ∷ []) → Grew (Some []) (Some written) (newly_due AsFrames window heard datagram)
      → ((bytes : List ℕ) → counted_with new.comparison bytes ≡ counted_with old.comparison (written ++ bytes)) → IsCheckedUpTo g window (heard ++ datagram ∷ []) new
  one_checked new datagram has_heard wrote counts = record {
    has_heard = has_heard;
    counted = λ bytes.
        counts bytes
        ∙ counted_behind (newly_due AsFrames window heard datagram) (all_written written (newly_due AsFrames window heard datagram) wrote) bytes
        ∙ ap (λ (l : List ℕ). differences g (l ++ bytes)) (due_with AsFrames window heard datagram);
  }

  -- the end
  pub all_checked : (new : Comparison) → Grew (Some []) (Some written) (still_due AsFrames window heard)
      → ((bytes : List ℕ) → counted_with new bytes ≡ counted_with old.comparison (written ++ bytes)) → counted_with new [] ≡ differences g (full_output window heard)
  all_checked new wrote counts =
      counts []
      ∙ counted_behind (still_due AsFrames window heard) (all_written written (still_due AsFrames window heard) wrote) []
      ∙ ap (λ (l : List ℕ). differences g (l ++ [])) (due_at_end AsFrames window heard)
      ∙ ap (differences g) (append-nil (full_output window heard))

-- datagrams one behind another
pub one_more_taken : (datagrams : List Datagram) (i : ℕ) (one : Datagram) → take (i + 1) datagrams ≡ take i datagrams ++ one ∷ [] → (heard : List (List ℕ)) → (heard ++ bytes_of_all (take i datagrams)) ++ one.bytes.items ∷ [] ≡ heard ++ bytes_of_all (take (i + 1) datagrams)
one_more_taken datagrams i one more heard =
    append_assoc heard (bytes_of_all (take i datagrams)) (one.bytes.items ∷ [])
    ∙ ap (λ (l : List (List ℕ)). heard ++ l) (sym (ap bytes_of_all more ∙ map-append (λ (d : Datagram). d.bytes.items) (take i datagrams) (one ∷ [])))
