-- The datagrams of a picture, one after another.
use Rattle.std.proofs.Common.{◌≡◌, ℕ, suc, ◌+◌, ◌%◌, ◌^◌, Bool, List, [], ◌∷◌, ◌++◌, length, refl, ap, arith}
use Rattle.link_model.specs.Packets.{PayloadValue, payload_bytes, rtp_header}
use Rattle.link_model.specs.Sending.{DatagramContent, high_half}
use Rattle.stream_model.specs.Packing.{PackedPicture, contents_from, datagram_around, end_around, ends_picture, packed_value}
use Rattle.vc_types.specs.SenderSettings.{Packing}

module _ (s : Packing) (t : ℕ) (p : PackedPicture) where
  same_value : (a b : ℕ) (c : DatagramContent) → high_half a ≡ high_half b → packed_value s p a c ≡ packed_value s p b c
  same_value a b c same = grind arith

  low_half : (a b : ℕ) → a % 2 ^ 32 ≡ b % 2 ^ 32 → a % 2 ^ 16 ≡ b % 2 ^ 16
  low_half a b same = omega (arith, same)

  abbrev datagram : ℕ → DatagramContent → List ℕ
  datagram n c = datagram_around s n t (ends_picture p.parameters c) (packed_value s p n c)

  same_datagram : (a b : ℕ) (c : DatagramContent) → a % 2 ^ 32 ≡ b % 2 ^ 32 → datagram a c ≡ datagram b c
  unfolding datagram_around
  same_datagram a b c same = grind (arith, low_half, same_value)

  -- numbers that are the same modulo 2 ^ 32 give the same datagrams
  pub wrapped : (a b : ℕ) (cs : List DatagramContent) → a % 2 ^ 32 ≡ b % 2 ^ 32 → contents_from s t p a cs ≡ contents_from s t p b cs
  unfolding contents_from
  wrapped a b [] same = refl
  wrapped a b (c ∷ cs) same = λ i. same_datagram a b c same i ∷ wrapped (a + 1) (b + 1) cs (omega (arith, same)) i

  pub appended : (n : ℕ) (xs ys : List DatagramContent) → contents_from s t p n (xs ++ ys) ≡ contents_from s t p n xs ++ contents_from s t p (n + length xs) ys
  unfolding contents_from
  appended n [] ys = let none : n ≡ n + 0 = omega arith in ap (λ k. contents_from s t p k ys) none
  appended n (x ∷ xs) ys = grind (arith, appended (n + 1) xs ys)

  pub how_many : (n : ℕ) (cs : List DatagramContent) → length (contents_from s t p n cs) ≡ length cs
  unfolding contents_from
  how_many n [] = refl
  how_many n (c ∷ cs) = ap suc (how_many (n + 1) cs)

  pub one_datagram : (n : ℕ) (c : DatagramContent) → contents_from s t p n (c ∷ []) ≡ datagram n c ∷ []
  unfolding contents_from
  one_datagram n c = refl

  pub no_datagram : (n : ℕ) → contents_from s t p n [] ≡ []
  unfolding contents_from
  no_datagram n = refl

-- so do they give the same end
pub end_wrapped : (s : Packing) (t a b : ℕ) → a % 2 ^ 32 ≡ b % 2 ^ 32 → end_around s a t ≡ end_around s b t
unfolding end_around datagram_around
end_wrapped s t a b same = grind arith
