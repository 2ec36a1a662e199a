-- The packets of a VF file are no longer than the file.
use Rattle.std.proofs.Common.{◌≡◌, ℕ, zero, suc, ◌+◌, ◌≤◌, Bool, true, false, List, [], ◌∷◌, length, take, drop, Option, Some, None, arith, refl, ap, sym, subst, ◌∙◌, nat_lt, nat_eq, if◌then◌else◌}
use Rattle.std.specs.Prelude.{map}
use Rattle.std.specs.List.{AllByRecursion}
use Rattle.std.proofs.lemmas.List.{length-append}
use Rattle.std.proofs.lemmas.Bool.Decides.{nat_tests}
use Rattle.dvi_ops.specs.Command.{Definition}
use Rattle.dv_base.specs.FontName.{IsFontName}
use Rattle.vf_packets.specs.Font.{LocalFont, VirtualFont, Apart, entry, packet_of}
use Rattle.vf_packets.specs.Programs.{IsProgram}
use Rattle.vf_packets.specs.Packets.{CharacterPacket, Packets, packet_at, extent, code_in, content_len, head_len}
use Rattle.vf_packets.specs.File.{IsVf, Definitions, kept, times, local_of, body_at}
use Rattle.font_set.specs.Stored.{IsFit}

drop_short : (n : ℕ) (xs : List ℕ) → length (drop n xs) ≤ length xs
drop_short zero xs = omega arith
drop_short (suc n) [] = omega arith
drop_short (suc n) (x ∷ xs) = omega (arith, drop_short n xs)

take_short : (n : ℕ) (xs : List ℕ) → length (take n xs) ≤ length xs
take_short zero xs = omega arith
take_short (suc n) [] = omega arith
take_short (suc n) (x ∷ xs) = omega (arith, take_short n xs)

abbrev front : ℕ → List ℕ → CharacterPacket × List ℕ
front first args = (record { code = code_in first args; commands = take (content_len first args) (drop (head_len first) args) }, drop (extent first args) args)

either : (a b : Bool) (r s : CharacterPacket × List ℕ) → (if a then None else if b then None else Some r) ≡ Some s → r ≡ s
either true b r s h = absurd cc
either false true r s h = absurd cc
either false false r s h = cc

packet_parts : (first : ℕ) (args : List ℕ) (p : CharacterPacket) (more : List ℕ) (a b : Bool)
    → (if a then None else if b then None else Some (front first args)) ≡ Some (p, more) → (length p.commands ≤ length (first ∷ args)) × (length more ≤ length (first ∷ args))
packet_parts first args p more a b h =
    let t = take_short (content_len first args) (drop (head_len first) args) in
    let d = drop_short (head_len first) args in
    let r = drop_short (extent first args) args in
    subst (λ (x : CharacterPacket × List ℕ). (length x.0.commands ≤ length (first ∷ args)) × (length x.1 ≤ length (first ∷ args))) (either a b (front first args) (p, more) h)
    (omega (arith, t, d), omega (arith, r))

packet_short : (bytes : List ℕ) (p : CharacterPacket) (more : List ℕ) → packet_at bytes ≡ Some (p, more) → (length p.commands ≤ length bytes) × (length more ≤ length bytes)
unfolding packet_at
packet_short [] p more e = absurd cc
packet_short (first ∷ args) p more e = packet_parts first args p more (nat_lt 242 first) (nat_lt (length args) (extent first args)) e

abbrev Within : ℕ → CharacterPacket → Type 0
Within n p = length p.commands ≤ n

packets_short : (bytes : List ℕ) (ps : List CharacterPacket) (rest : List ℕ) (n : ℕ) → Packets bytes ps rest → length bytes ≤ n → AllByRecursion (Within n) ps
unfolding Packets
packets_short bytes [] rest n h l = tt
packets_short bytes (p ∷ ps) rest n h l =
    let s = packet_short bytes p h.0 h.1 in
    (omega (arith, s.0, l), packets_short h.0 ps rest n h.2 (omega (arith, s.1, l)))

kept_short : (n : ℕ) (ps : List CharacterPacket) → AllByRecursion (Within n) ps → AllByRecursion (Within n) (kept ps)
unfolding kept
kept_short n [] a = tt
kept_short n (p ∷ ps) a = kept_more n (nat_lt 255 p.code) p (kept ps) a.0 (kept_short n ps a.1)
  where
    kept_more : (n : ℕ) (b : Bool) (p : CharacterPacket) (qs : List CharacterPacket) → Within n p → AllByRecursion (Within n) qs → AllByRecursion (Within n) (if b then qs else p ∷ qs)
    kept_more n true p qs h a = a
    kept_more n false p qs h a = (h, a)

module _ (table : List (Option (List ℕ))) (code n : ℕ) (bytes : List ℕ) (has : entry table code ≡ Some bytes) where
  abbrev IsEntry : CharacterPacket → Type 0
  IsEntry p = (entry table p.code ≡ Some p.commands) × IsProgram p.commands

  this_one : (p : CharacterPacket) → nat_eq p.code code ≡ true → entry table p.code ≡ Some p.commands → length p.commands ≤ n → length bytes ≤ n
  this_one p h e l =
      let same : p.code ≡ code = grind (arith, nat_tests, h) in
      let both : Some p.commands ≡ Some bytes = sym e ∙ ap (λ (c : ℕ). entry table c) same ∙ has in
      let eq : p.commands ≡ bytes = cc in
      subst (λ (xs : List ℕ). length xs ≤ n) eq l

  one_of : (ps : List CharacterPacket) → AllByRecursion IsEntry ps → AllByRecursion (Within n) ps → (times code ps ≡ 0 → ⊥) → length bytes ≤ n
  unfolding times
  one_of [] a s t = absurd (t refl)
  one_of (p ∷ ps) a s t = by (nat_eq p.code code) refl t (one_of ps a.1 s.1)
    where
      by : (b : Bool) → nat_eq p.code code ≡ b → ((if b then 1 + times code ps else times code ps) ≡ 0 → ⊥) → ((times code ps ≡ 0 → ⊥) → length bytes ≤ n) → length bytes ≤ n
      by true e u rest = this_one p e a.0.0 s.0
      by false e u rest = rest u

definitions_short : (bytes : List ℕ) (ds : List Definition) (rest : List ℕ) → Definitions bytes ds rest → length rest ≤ length bytes
definitions_short bytes [] rest h = omega (arith, ap length h)
definitions_short bytes (d ∷ ds) rest h =
    let long : length bytes ≡ length h.0 + length h.1 = ap length h.2 ∙ length-append h.0 h.1 in
    omega (arith, long, definitions_short h.1 ds rest h.5)

packet_within : (bytes : List ℕ) (vf : VirtualFont) (n : ℕ) → length bytes ≤ n → IsVf bytes vf → (code : ℕ) (commands : List ℕ) → packet_of vf code ≡ Some commands → length commands ≤ n
packet_within bytes vf n l v code commands e =
    let middle : length v.middle ≤ n = omega (arith, l, definitions_short (drop (body_at bytes) bytes) v.definitions v.middle v.defined, drop_short (body_at bytes) bytes) in
    let all = kept_short n v.packets (packets_short v.middle v.packets _ n v.body middle) in
    one_of vf.packets code n commands e (kept v.packets) v.told.each all (λ t. none_some (sym (v.told.others code t) ∙ e))
  where
    none_some : {x : List ℕ} → None ≡ Some x → ⊥
    none_some h = cc

named_map : (ds : List Definition) → AllByRecursion (λ (d : Definition). IsFontName d.name) ds → AllByRecursion (λ (l : LocalFont). IsFontName l.name) (map local_of ds)
named_map [] a = tt
named_map (d ∷ ds) a = (a.0, named_map ds a.1)

pub vf_fit : (bytes : List ℕ) (vf : VirtualFont) → length bytes ≤ 4194304 → IsVf bytes vf → IsFit vf
vf_fit bytes vf l v =
    record {
      short = packet_within bytes vf 4194304 l v;
      apart = subst Apart (sym v.locals) v.apart;
      named = subst (AllByRecursion (λ (f : LocalFont). IsFontName f.name)) (sym v.locals) (named_map v.definitions v.named);
    }
