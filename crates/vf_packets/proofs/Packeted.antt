-- One packet after another.
use Rattle.std.proofs.Common.{◌≡◌, ℕ, ◌+◌, ◌-◌, ◌<◌, ◌≤◌, refl, sym, ◌∙◌, ap, subst, arith, List, [], ◌∷◌, length, take, drop, get_or, slice_index, nat_lt, length-drop, drop-cons, add-one}
use Rattle.std.specs.Prelude.{None, Some, slice_range}
use Rattle.std.proofs.lemmas.Bool.{cond-true, cond-false}
use Rattle.std.proofs.lemmas.Bool.Decides.{nat_tests}
use Rattle.std.proofs.lemmas.List.{take_rest, drop-drop}
use Rattle.vf_packets.specs.Packets.{CharacterPacket, head_len, content_len, code_in, extent, packet_at}
use Rattle.vf_packets.specs.PacketFaults.{IsPacketAt}

-- the bytes from a place on
pub ahead : (xs : List ℕ) (i : ℕ) → i < length xs → drop i xs ≡ get_or xs i 0 ∷ drop (i + 1) xs
ahead xs i h = drop-cons xs i 0 h ∙ ap (λ k. get_or xs i 0 ∷ drop k xs) (sym (add-one i))

packet_whole : (first : ℕ) (args : List ℕ) → first ≤ 242 → extent first args ≤ length args →
    packet_at (first ∷ args) ≡ Some (record { code = code_in first args; commands = take (content_len first args) (drop (head_len first) args) }, drop (extent first args) args)
unfolding packet_at
packet_whole first args l h =
    cond-false (nat_lt 242 first) _ _ (grind (arith, nat_tests))
    ∙ cond-false (nat_lt (length args) (extent first args)) _ _ (grind (arith, nat_tests))

packet_short : (first : ℕ) (args : List ℕ) → first ≤ 242 → length args < extent first args → packet_at (first ∷ args) ≡ None
unfolding packet_at
packet_short first args l h =
    cond-false (nat_lt 242 first) _ _ (grind (arith, nat_tests))
    ∙ cond-true (nat_lt (length args) (extent first args)) _ _ (grind (arith, nat_tests))

packet_none : (first : ℕ) (args : List ℕ) → 242 < first → packet_at (first ∷ args) ≡ None
unfolding packet_at
packet_none first args l = cond-true (nat_lt 242 first) _ _ (grind (arith, nat_tests))

-- no packet begins with a byte from 243 on, and the end begins none
pub none_from : (xs : List ℕ) (b : ℕ) → 242 < b → packet_at (b ∷ xs) ≡ None
none_from xs b h = packet_none b xs h

pub nil_is_none : packet_at [] ≡ None
unfolding packet_at
nil_is_none = refl

pub none_at : (bytes : List ℕ) (at : ℕ) → at < length bytes → 242 < slice_index bytes at → packet_at (drop at bytes) ≡ None
none_at bytes at h u = rw (ahead bytes at h) (packet_none (slice_index bytes at) (drop (at + 1) bytes) u)

pub short_at : (bytes : List ℕ) (at : ℕ) → at < length bytes → slice_index bytes at ≤ 242 → length bytes < at + 1 + extent (slice_index bytes at) (drop (at + 1) bytes) → packet_at (drop at bytes) ≡ None
short_at bytes at h l s = rw (ahead bytes at h) (packet_short (slice_index bytes at) (drop (at + 1) bytes) l (omega (arith, length-drop (at + 1) bytes, s)))

-- what the reader of a packet has found
pub found_at : (bytes rest : List ℕ) (at head len code : ℕ) → rest ≡ take (length bytes - (at + 1)) (drop (at + 1) bytes) → at < length bytes → slice_index bytes at ≤ 242 →
    head ≡ head_len (slice_index bytes at) → len ≡ content_len (slice_index bytes at) rest → code ≡ code_in (slice_index bytes at) rest → head + len ≤ length rest →
    IsPacketAt bytes at (record { code = code; start = at + 1 + head; end = at + 1 + head + len })
found_at bytes rest at head len code r h f hs ls cs room =
    let first = slice_index bytes at in
    let args = drop (at + 1) bytes in
    let whole : rest ≡ args = r ∙ take_rest bytes (at + 1) in
    let lens : len ≡ content_len first args = ls ∙ ap (content_len first) whole in
    let codes : code ≡ code_in first args = cs ∙ ap (code_in first) whole in
    let fits : head + len ≤ length args = subst (λ (xs : List ℕ). head + len ≤ length xs) whole room in
    let w = packet_whole first args f (omega (arith, fits, hs, lens)) in
    let P : CharacterPacket → List ℕ → Type 0 = λ p xs. packet_at (drop at bytes) ≡ Some (p, xs) in
    let commands : take (content_len first args) (drop (head_len first) args) ≡ slice_range bytes (at + 1 + head) (at + 1 + head + len) =
    ap (λ (n : ℕ). take n (drop (head_len first) args)) (sym lens)
    ∙ ap (λ (n : ℕ). take len (drop n args)) (sym hs)
    ∙ ap (λ (xs : List ℕ). take len xs) (drop-drop head (at + 1) bytes)
    ∙ (let n : len ≡ at + 1 + head + len - (at + 1 + head) = omega arith in ap (λ (n : ℕ). take n (drop (at + 1 + head) bytes)) n) in
    let behind : drop (extent first args) args ≡ drop (at + 1 + head + len) bytes =
    drop-drop (extent first args) (at + 1) bytes ∙ (let n : at + 1 + extent first args ≡ at + 1 + head + len = omega (arith, hs, lens) in ap (λ (n : ℕ). drop n bytes) n) in
    record {
      further = omega arith;
      order = omega arith;
      within = omega (arith, fits, length-drop (at + 1) bytes, h);
      found = ap packet_at (ahead bytes at h) ∙ w
          ∙ ap (λ (p : CharacterPacket). Some (p, drop (extent first args) args)) (ap (λ (n : ℕ). record { code = n; commands = take (content_len first args) (drop (head_len first) args) }) (sym codes) ∙ ap (λ (xs : List ℕ). record { code = code; commands = xs }) commands)
          ∙ ap (λ (xs : List ℕ). Some (record { code = code; commands = slice_range bytes (at + 1 + head) (at + 1 + head + len) }, xs)) behind;
    }
