-- The lines of one block more.
use Rattle.std.proofs.Common.{◌≡◌, ℕ, zero, suc, ◌+◌, List, [], ◌∷◌, ◌++◌, ap, ◌∙◌, arith}
use Rattle.std.proofs.lemmas.List.{flat_map_more}
use Rattle.std.specs.List.{flat_map, range_with_len}
use Rattle.rtcp_reports.specs.Rtcp.{block_of_report}
use Rattle.rtcp_reports.specs.declared.block.CompoundView.{CompoundView}
use Rattle.cmd_rtcp.specs.Showing.{block_line, block_lines}

range_more : (a n : ℕ) → range_with_len a n ++ (a + n) ∷ [] ≡ range_with_len a (suc n)
range_more a zero = ap (λ (k : ℕ). k ∷ []) (omega arith)
range_more a (suc n) =
    let next : a + suc n ≡ a + 1 + n = omega arith in
    ap (λ (l : List ℕ). a ∷ l) (ap (λ (k : ℕ). range_with_len (a + 1) n ++ k ∷ []) next ∙ range_more (a + 1) n)

range_next : (n : ℕ) → range_with_len 0 n ++ n ∷ [] ≡ range_with_len 0 (n + 1)
range_next n =
    let same : n ≡ 0 + n = omega arith in
    let more : suc n ≡ n + 1 = omega arith in
    ap (λ (k : ℕ). range_with_len 0 n ++ k ∷ []) same ∙ range_more 0 n ∙ ap (range_with_len 0) more

pub lines_more : (bytes : List ℕ) (view : CompoundView) (front : List ℕ) (i : ℕ)
    → (front ++ block_lines bytes view i) ++ block_line (block_of_report bytes view i) ≡ front ++ block_lines bytes view (i + 1)
lines_more bytes view front i =
    flat_map_more (λ (k : ℕ). block_line (block_of_report bytes view k)) front (range_with_len 0 i) i
    ∙ ap (λ (l : List ℕ). front ++ flat_map (λ (k : ℕ). block_line (block_of_report bytes view k)) l) (range_next i)
