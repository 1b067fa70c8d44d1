-- How many bytes payloads have.
use Rattle.std.proofs.Common.{◌≡◌, ℕ, ◌+◌, ◌≤◌, true, List, length, arith}
use Rattle.std.proofs.lemmas.Bool.Decides.{nat_tests}
use Rattle.link_model.specs.Packets.{End, FragmentHead, Header, Params, Slices, fragment_bytes, payload_bytes, payload_head}
use Rattle.vc_types.specs.Settings.{within}

pub header_length : (high from : ℕ) (body : List ℕ) → length (payload_bytes (Header high from body)) ≡ 4 + length body
unfolding payload_bytes payload_head
header_length high from body = omega arith

pub end_length : (high : ℕ) → length (payload_bytes (End high)) ≡ 4
unfolding payload_bytes payload_head
end_length high = omega arith

pub parameters_length : (head : FragmentHead) (from : ℕ) (body : List ℕ) → length (payload_bytes (Params head from body)) ≡ 16 + length body
unfolding payload_bytes fragment_bytes payload_head
parameters_length head from body = omega arith

pub slices_length : (head : FragmentHead) (count x y from : ℕ) (body : List ℕ) → length (payload_bytes (Slices head count x y from body)) ≡ 20 + length body
unfolding payload_bytes fragment_bytes payload_head
slices_length head count x y from body = omega arith

pub some_room : (size : ℕ) → within 64 65507 size ≡ true → 64 ≤ size
some_room size fits = grind (arith, nat_tests)

pub most_room : (size : ℕ) → within 64 65507 size ≡ true → size ≤ 65507
most_room size fits = grind (arith, nat_tests)
