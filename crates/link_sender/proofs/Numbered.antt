-- Datagrams one behind another, and sequence numbers that wrap.
use Rattle.std.proofs.Common.{◌≡◌, ℕ, suc, ◌+◌, ◌/◌, ◌%◌, ◌^◌, List, [], ◌∷◌, ◌++◌, length, Result, Ok, Err, refl, ap, ◌∙◌, arith, OnOk, length-append}
use Rattle.std.proofs.lemmas.Grind.{common_steps}
use Rattle.link_model.specs.Packets.{PayloadValue, Header, End, Params, FragmentHead, payload_bytes, rtp_header}
use Rattle.link_model.specs.Sending.{Outgoing, DatagramContent, HeaderContent, ParametersContent, SlicesContent, EndContent, content_value, datagrams_from, flags_byte, has_marker, high_half, number_bits, run_value, sent_datagram, sent_packet, sent_value, timestamp_of}
use Rattle.link_model.specs.SendingPictures.{sent_header, sent_parameter_bytes}
use Rattle.link_sender.specs.declared.outbox.Outbox.{Outbox}
use Rattle.link_sender.specs.Packing.{Appends}
use Rattle.vc_types.specs.SenderSettings.{Sending}

-- ---- numbers of 32 bits

module _ (s : Sending) where
  abbrev head_with : ℕ → ℕ → FragmentHead
  head_with picture high = record {
    high = high;
    flags = flags_byte s picture;
    number = number_bits s picture;
    prefix = s.prefix;
    scaler = s.scaler;
  }

  same_content : (a b picture : ℕ) (c : DatagramContent) → high_half a ≡ high_half b → content_value s a picture c ≡ content_value s b picture c
  same_content a b picture HeaderContent same = ap (λ h. Header h 4 (sent_header s)) same
  same_content a b picture ParametersContent same = ap (λ h. Params (head_with picture h) 16 (sent_parameter_bytes s)) same
  same_content a b picture (SlicesContent run) same = ap (λ h. run_value s (head_with picture h) run) same
  same_content a b picture EndContent same = ap (λ h. End h) same

  abbrev datagram_of : Outgoing → ℕ → PayloadValue → List ℕ
  datagram_of o sequence value = rtp_header (record {
    marker = has_marker s o.content;
    payload_type = s.pt;
    sequence = sequence;
    timestamp = timestamp_of s o.picture;
    ssrc = s.ssrc;
    from = 12;
    to = 12 + length (payload_bytes value);
  }) ++ payload_bytes value

  same_datagram : (a b : ℕ) (o : Outgoing) → a % 2 ^ 32 ≡ b % 2 ^ 32 → sent_datagram s a o ≡ sent_datagram s b o
  unfolding sent_datagram sent_packet sent_value
  same_datagram a b o same =
      let value = same_content a b o.picture o.content (ap (λ n. n / 2 ^ 16) same) in
      let low : a % 2 ^ 16 ≡ b % 2 ^ 16 = omega (arith, same) in
      λ i. datagram_of o (low i) (value i)

  -- numbers that are the same modulo 2 ^ 32 give the same datagrams
  pub wrapped : (a b : ℕ) (os : List Outgoing) → a % 2 ^ 32 ≡ b % 2 ^ 32 → datagrams_from s a os ≡ datagrams_from s b os
  unfolding datagrams_from
  wrapped a b [] same = refl
  wrapped a b (o ∷ os) same = λ i. same_datagram a b o same i ∷ wrapped (a + 1) (b + 1) os (omega (arith, same)) i

  pub appended : (n : ℕ) (xs ys : List Outgoing) → datagrams_from s n (xs ++ ys) ≡ datagrams_from s n xs ++ datagrams_from s (n + length xs) ys
  unfolding datagrams_from
  appended n [] ys = let none : n ≡ n + 0 = omega arith in ap (λ k. datagrams_from s k ys) none
  appended n (x ∷ xs) ys =
      let next : n + 1 + length xs ≡ n + suc (length xs) = omega arith in
      ap (λ l. sent_datagram s n x ∷ l) (appended (n + 1) xs ys ∙ ap (λ k. datagrams_from s (n + 1) xs ++ datagrams_from s k ys) next)

  -- ---- what is put

  pub appends_more : (a b : List Outgoing) (x y z : Outbox) → Appends s a x y → Appends s b y z → Appends s (a ++ b) x z
  appends_more a b x y z first second = grind (arith, common_steps, length-append, wrapped, appended)

-- two clauses on what is answered make a third
pub both_ok : {A E P Q R : Type 0} (r : Result A E) → OnOk r P → OnOk r Q → (P → Q → R) → OnOk r R
both_ok (Ok x) p q f = f p q
both_ok (Err e) p q f = tt

pub then_ok : {A E P R : Type 0} (r : Result A E) → OnOk r P → (P → R) → OnOk r R
then_ok (Ok x) p f = f p
then_ok (Err e) p f = tt
