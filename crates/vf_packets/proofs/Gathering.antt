-- The packets of a file, one after another, and the table that tells them.
use Rattle.std.proofs.Common.{◌≡◌, ◌≢◌, ℕ, zero, suc, ◌+◌, ◌-◌, ◌<◌, ◌≤◌, inl, inr, ⊎_elim, refl, sym, ◌∙◌, ap, subst, arith, List, [], ◌∷◌, ◌++◌, length, drop, get_or, set, length-set, slice_index, nat_eq, nat_lt, length-drop}
use Rattle.std.specs.Prelude.{map, replicate, Option, None, Some}
use Rattle.std.specs.List.{AllByRecursion}
use Rattle.std.proofs.lemmas.List.{append-nil, drop_all, get_or-drop, get_or-set_same, get_or-set_other, get_or-replicate, get_or_default, length-replicate, same_lists}
use Rattle.std.proofs.lemmas.List.Elements.{All-from_recursion}
use Rattle.std.proofs.lemmas.Bool.{cond-true, cond-false, cases_eq, cases_lt}
use Rattle.std.proofs.lemmas.Bool.Decides.{nat_tests}
use Rattle.dvi_ops.specs.Command.{Definition}
use Rattle.dvi_ops.specs.Laws.{OneSpelling}
use Rattle.vf_packets.specs.Programs.{IsProgram}
use Rattle.vf_packets.specs.Font.{VirtualFont, LocalFont, Apart, entry}
use Rattle.vf_packets.specs.Packets.{CharacterPacket, Packets, packet_at}
use Rattle.vf_packets.specs.PacketFaults.{IsShortPacket}
use Rattle.vf_packets.specs.File.{IsDefinitionByte, IsVf, kept, times, Tells, checksum_of}
use Rattle.vf_packets.specs.Faults.{DefinedTo, ReadTo, RefusesFile, NoDefinitionAt, PacketsTo, EndsAt, OnlyFill, LocalsTo}
use Rattle.vf_packets.specs.Slots.{packet_in, IsInside, IsTaken, AreSlots}
use Rattle.vf_packets.specs.declared.vf.Slot.{Slot}
use Rattle.vf_packets.specs.declared.vf.Slot.TheVariants as slot
use Rattle.vf_packets.specs.declared.fault.VfFault.TheVariants as fault
use Rattle.vf_packets.proofs.Packeted.{ahead, none_at, none_from, short_at, nil_is_none}
use Rattle.vf_packets.proofs.Locating.{middle_is}

-- counts of codes

pub times_here : (code : ℕ) (p : CharacterPacket) (ps : List CharacterPacket) → p.code ≡ code → times code (p ∷ ps) ≡ 1 + times code ps
unfolding times
times_here code p ps e = cond-true (nat_eq p.code code) _ _ (grind (arith, nat_tests))

pub times_other : (code : ℕ) (p : CharacterPacket) (ps : List CharacterPacket) → p.code ≢ code → times code (p ∷ ps) ≡ times code ps
unfolding times
times_other code p ps e = cond-false (nat_eq p.code code) _ _ (grind (arith, nat_tests))

times_nil : (code : ℕ) → times code [] ≡ 0
unfolding times
times_nil code = refl

times-append : (code : ℕ) (ps qs : List CharacterPacket) → times code (ps ++ qs) ≡ times code ps + times code qs
times-append code [] qs = omega (arith, times_nil code)
times-append code (p ∷ ps) qs =
    let e = times-append code ps qs in
    ⊎_elim (λ h. omega (arith, times_here code p (ps ++ qs) h, times_here code p ps h, e)) (λ h. omega (arith, times_other code p (ps ++ qs) h, times_other code p ps h, e)) (cases_eq p.code code)

kept-append : (ps qs : List CharacterPacket) → kept (ps ++ qs) ≡ kept ps ++ kept qs
unfolding kept
kept-append [] qs = refl
kept-append (p ∷ ps) qs =
    ⊎_elim
    (λ h. cond-true (nat_lt 255 p.code) _ _ (grind (arith, nat_tests)) ∙ kept-append ps qs ∙ sym (ap (λ xs. xs ++ kept qs) (cond-true (nat_lt 255 p.code) (kept ps) (p ∷ kept ps) (grind (arith, nat_tests)))))
    (λ h. cond-false (nat_lt 255 p.code) _ _ (grind (arith, nat_tests)) ∙ ap (λ xs. p ∷ xs) (kept-append ps qs) ∙ sym (ap (λ xs. xs ++ kept qs) (cond-false (nat_lt 255 p.code) (kept ps) (p ∷ kept ps) (grind (arith, nat_tests)))))
    (cases_lt 255 p.code)

kept_nil : kept [] ≡ []
unfolding kept
kept_nil = refl

passed_over : (p : CharacterPacket) → 255 < p.code → kept (p ∷ []) ≡ []
unfolding kept
passed_over p h = cond-true (nat_lt 255 p.code) _ _ (grind (arith, nat_tests))

one_kept : (p : CharacterPacket) (ps : List CharacterPacket) → p.code ≤ 255 → kept (p ∷ ps) ≡ p ∷ kept ps
unfolding kept
one_kept p ps h = cond-false (nat_lt 255 p.code) _ _ (grind (arith, nat_tests))

kept_push : (ps : List CharacterPacket) (p : CharacterPacket) → p.code ≤ 255 → kept (ps ++ p ∷ []) ≡ kept ps ++ p ∷ []
kept_push ps p small = kept-append ps (p ∷ []) ∙ ap (λ qs. kept ps ++ qs) (one_kept p [] small ∙ ap (λ qs. p ∷ qs) kept_nil)

-- tables

abbrev IsTold : List (Option (List ℕ)) → CharacterPacket → Type 0
IsTold table p = (entry table p.code ≡ Some p.commands) × IsProgram p.commands

has_some : Option (List ℕ) → ℕ
has_some None = 0
has_some (Some xs) = 1

-- a table that has nothing for a code tells no packet of it
untold : (table : List (Option (List ℕ))) (ps : List CharacterPacket) (code : ℕ) → AllByRecursion (IsTold table) ps → entry table code ≡ None → times code ps ≡ 0
unfolding has_some
untold table [] code a n = times_nil code
untold table (p ∷ ps) code a n =
    ⊎_elim
    (λ e. (let s = a.0.0 in absurd (omega (arith, ap has_some (sym s ∙ ap (entry table) e ∙ n)))))
    (λ e. times_other code p ps e ∙ untold table ps code a.1 n)
    (cases_eq p.code code)

others_same : (table : List (Option (List ℕ))) (ps : List CharacterPacket) (code : ℕ) (x : Option (List ℕ)) → times code ps ≡ 0 → AllByRecursion (IsTold table) ps → AllByRecursion (IsTold (set table code x)) ps
others_same table [] code x z a = tt
others_same table (p ∷ ps) code x z a =
    let ne : p.code ≢ code = λ e. absurd (omega (arith, times_here code p ps e, z)) in
    ((get_or-set_other table code p.code x None ne ∙ a.0.0, a.0.1), others_same table ps code x (omega (arith, times_other code p ps ne, z)) a.1)

all_push : (P : CharacterPacket → Type 0) (ps : List CharacterPacket) (p : CharacterPacket) → AllByRecursion P ps → P p → AllByRecursion P (ps ++ p ∷ [])
all_push P [] p a h = (h, tt)
all_push P (q ∷ ps) p a h = (a.0, all_push P ps p a.1 h)

all_middle : (P : CharacterPacket → Type 0) (ps : List CharacterPacket) (p : CharacterPacket) (qs : List CharacterPacket) → AllByRecursion P (ps ++ p ∷ qs) → P p
all_middle P [] p qs a = a.0
all_middle P (q ∷ ps) p qs a = all_middle P ps p qs a.1

-- one packet more
told_more : (table : List (Option (List ℕ))) (ps : List CharacterPacket) (p : CharacterPacket) → Tells table ps → p.code ≤ 255 → entry table p.code ≡ None → IsProgram p.commands → Tells (set table p.code (Some p.commands)) (ps ++ p ∷ [])
told_more table ps p t small n g =
    let z = untold table ps p.code t.each n in
    let new = set table p.code (Some p.commands) in
    record {
      long = length-set table p.code (Some p.commands) ∙ t.long;
      each = all_push (IsTold new) ps p (others_same table ps p.code (Some p.commands) z t.each) (get_or-set_same table p.code (Some p.commands) None (omega (arith, t.long, small)), g);
      once = λ code. ⊎_elim
          (λ e. (let a = times-append code ps (p ∷ []) in let b = times_here code p [] e in let c = times_nil code in let d = subst (λ x. times x ps ≡ 0) e z in omega (arith, a, b, c, d)))
          (λ e. (let a = times-append code ps (p ∷ []) in let b = times_other code p [] e in let c = times_nil code in let d = t.once code in omega (arith, a, b, c, d)))
          (cases_eq p.code code);
      others = λ code w. (let a = times-append code ps (p ∷ []) in
          let ne : p.code ≢ code = λ e. absurd (omega (arith, a, times_here code p [] e, w)) in
          let b = times_other code p [] ne in
          get_or-set_other table p.code code (Some p.commands) None (λ e. ne (sym e)) ∙ t.others code (omega (arith, a, b, w)));
    }

-- an entry that isn't nothing belongs to a packet
some_told : (table : List (Option (List ℕ))) (ps : List CharacterPacket) (code : ℕ) → Tells table ps → entry table code ≢ None → 0 < times code ps
some_told table ps code t n = ⊎_elim (λ h. h) (λ h. absurd (n (t.others code (omega (arith, h))))) (cases_lt 0 (times code ps))

-- packets of one list of bytes

packets_push : (xs : List ℕ) (ps : List CharacterPacket) (ys : List ℕ) (p : CharacterPacket) (zs : List ℕ) → Packets xs ps ys → packet_at ys ≡ Some (p, zs) → Packets xs (ps ++ p ∷ []) zs
unfolding Packets
packets_push xs [] ys p zs s e = (zs, ap packet_at s ∙ e, refl)
packets_push xs (q ∷ ps) ys p zs s e = (s.0, s.1, packets_push s.0 ps ys p zs s.2 e)

packet_of_some : Option (CharacterPacket × List ℕ) → CharacterPacket → CharacterPacket
packet_of_some None d = d
packet_of_some (Some r) d = r.0

rest_of_some : Option (CharacterPacket × List ℕ) → List ℕ
rest_of_some None = []
rest_of_some (Some r) = r.1

is_found : Option (CharacterPacket × List ℕ) → ℕ
is_found None = 0
is_found (Some r) = 1

pub none_found : (p : CharacterPacket) (zs : List ℕ) → ◌≡◌ {A = Option (CharacterPacket × List ℕ)} None (Some (p, zs)) → ⊥
unfolding is_found
none_found p zs e = absurd (omega (arith, ap is_found e))

same_packet : (p q : CharacterPacket) (ys zs : List ℕ) → ◌≡◌ {A = Option (CharacterPacket × List ℕ)} (Some (p, ys)) (Some (q, zs)) → p ≡ q
unfolding packet_of_some
same_packet p q ys zs e = ap (λ o. packet_of_some o p) e

same_rest : (p q : CharacterPacket) (ys zs : List ℕ) → ◌≡◌ {A = Option (CharacterPacket × List ℕ)} (Some (p, ys)) (Some (q, zs)) → ys ≡ zs
unfolding rest_of_some
same_rest p q ys zs e = ap rest_of_some e

-- the packets that come next
pub record Next (ys : List ℕ) (ps qs : List CharacterPacket) (end : List ℕ) : Type 0 where
  pub more : List CharacterPacket
  pub joined : qs ≡ ps ++ more
  pub read : Packets ys more end

-- Packets of the same bytes agree, as far as both go.
pub next : (xs : List ℕ) (ps : List CharacterPacket) (ys : List ℕ) (qs : List CharacterPacket) (end : List ℕ) → packet_at end ≡ None → Packets xs ps ys → Packets xs qs end → Next ys ps qs end
unfolding Packets
next xs [] ys qs end n s t = let P : List ℕ → Type 0 = λ v. Packets v qs end in record { more = qs; joined = refl; read = subst P s t }
next xs (p ∷ ps) ys [] end n s t = absurd (none_found p s.0 (sym n ∙ ap packet_at (sym t) ∙ s.1))
next xs (p ∷ ps) ys (q ∷ qs) end n s t =
    let e = sym s.1 ∙ t.1 in
    let P : List ℕ → Type 0 = λ v. Packets v qs end in
    let r = next s.0 ps ys qs end n s.2 (subst P (sym (same_rest p q s.0 t.0 e)) t.2) in
    record { more = r.more; joined = ap (λ x. x ∷ qs) (sym (same_packet p q s.0 t.0 e)) ∙ ap (λ xs. p ∷ xs) r.joined; read = r.read }

none_next : (ys : List ℕ) (ps : List CharacterPacket) (end : List ℕ) → packet_at ys ≡ None → Packets ys ps end → ys ≡ end
unfolding Packets
none_next ys [] end n s = s
none_next ys (p ∷ ps) end n s = absurd (none_found p s.0 (sym n ∙ s.1))

packet_next : (ys : List ℕ) (p : CharacterPacket) (zs : List ℕ) (ps : List CharacterPacket) (end : List ℕ) → packet_at end ≡ None → packet_at ys ≡ Some (p, zs) → Packets ys ps end → (qs : List CharacterPacket) × (ps ≡ p ∷ qs)
unfolding Packets
packet_next ys p zs [] end n e s = absurd (none_found p zs (sym n ∙ ap packet_at (sym s) ∙ e))
packet_next ys p zs (q ∷ ps) end n e s = (ps, ap (λ x. x ∷ ps) (sym (same_packet p q zs s.0 (sym e ∙ s.1))))

-- what the table has come to
module _ (one : OneSpelling) (bytes : List ℕ) (middle : ℕ) (table : List (Option (List ℕ))) (at : ℕ) (r : PacketsTo bytes middle table at) where
  read_to : ReadTo bytes r.packets at
  read_to = record { definitions = r.definitions; middle = middle; defined = r.defined; within = r.within; read = r.read }

  read_on : (p : CharacterPacket) (to : ℕ) → to ≤ length bytes → packet_at (drop at bytes) ≡ Some (p, drop to bytes) → Packets (drop middle bytes) (r.packets ++ p ∷ []) (drop to bytes)
  read_on p to w e = packets_push (drop middle bytes) r.packets (drop at bytes) p (drop to bytes) r.read e

  read_to_on : (p : CharacterPacket) (to : ℕ) → to ≤ length bytes → packet_at (drop at bytes) ≡ Some (p, drop to bytes) → ReadTo bytes (r.packets ++ p ∷ []) to
  read_to_on p to w e = record { definitions = r.definitions; middle = middle; defined = r.defined; within = w; read = read_on p to w e }

  -- a file's packets behind those that are read
  behind : (font : VirtualFont) (x : IsVf bytes font) → Next (drop at bytes) r.packets x.packets (248 ∷ replicate x.fill 248)
  behind font x =
      let m = (middle_is one bytes r.definitions middle r.defined r.stops font x).0 in
      let P : List ℕ → Type 0 = λ v. Packets v x.packets (248 ∷ replicate x.fill 248) in
      next (drop middle bytes) r.packets (drop at bytes) x.packets (248 ∷ replicate x.fill 248) (none_from (replicate x.fill 248) 248 (omega arith)) r.read (subst P m x.body)

  -- where no packet begins, the packets end
  ended : packet_at (drop at bytes) ≡ None → (font : VirtualFont) (x : IsVf bytes font) → drop at bytes ≡ 248 ∷ replicate x.fill 248
  ended n font x = none_next (drop at bytes) (behind font x).more (248 ∷ replicate x.fill 248) n (behind font x).read

  -- the packet that comes next is one of the file's
  taken : (p : CharacterPacket) (zs : List ℕ) → p.code ≤ 255 → packet_at (drop at bytes) ≡ Some (p, zs) → (font : VirtualFont) (x : IsVf bytes font) → (qs : List CharacterPacket) × (kept x.packets ≡ kept r.packets ++ p ∷ qs)
  taken p zs small e font x =
      let b = behind font x in
      let n = packet_next (drop at bytes) p zs b.more (248 ∷ replicate x.fill 248) (none_from (replicate x.fill 248) 248 (omega arith)) e b.read in
      (kept n.0, ap kept b.joined ∙ kept-append r.packets b.more ∙ ap (λ ps. kept r.packets ++ kept ps) n.1 ∙ ap (λ ps. kept r.packets ++ ps) (one_kept p n.0 small))

  -- a packet that is passed over
  pub passed : (p : CharacterPacket) (to : ℕ) → to ≤ length bytes → packet_at (drop at bytes) ≡ Some (p, drop to bytes) → 255 < p.code → PacketsTo bytes middle table to
  passed p to w e big = record {
    definitions = r.definitions;
    defined = r.defined;
    stops = r.stops;
    packets = r.packets ++ p ∷ [];
    within = w;
    read = read_on p to w e;
    told = subst (Tells table) (sym (kept-append r.packets (p ∷ []) ∙ ap (λ ps. kept r.packets ++ ps) (passed_over p big) ∙ append-nil (kept r.packets))) r.told;
  }

  -- a packet that is taken
  pub more : (p : CharacterPacket) (to : ℕ) (new : List (Option (List ℕ))) → to ≤ length bytes → packet_at (drop at bytes) ≡ Some (p, drop to bytes) → p.code ≤ 255 → entry table p.code ≡ None → IsProgram p.commands → new ≡ set table p.code (Some p.commands) → PacketsTo bytes middle new to
  more p to new w e small n g is = record {
    definitions = r.definitions;
    defined = r.defined;
    stops = r.stops;
    packets = r.packets ++ p ∷ [];
    within = w;
    read = read_on p to w e;
    told = (let T : List (Option (List ℕ)) → Type 0 = λ t. Tells t (kept (r.packets ++ p ∷ [])) in
        subst T (sym is) (subst (Tells (set table p.code (Some p.commands))) (sym (kept_push r.packets p small)) (told_more table (kept r.packets) p r.told small n g)));
  }

  -- a packet that isn't whole commands
  pub bad_program : (p : CharacterPacket) (to c : ℕ) → to ≤ length bytes → packet_at (drop at bytes) ≡ Some (p, drop to bytes) → p.code ≤ 255 → c ≡ p.code → (IsProgram p.commands → ⊥) → RefusesFile bytes (fault.BadOp c)
  bad_program p to c w e small is bad = record {
    says = (r.packets, p, to, read_to_on p to w e, is, bad);
    none = λ _ font x. (let t = taken p (drop to bytes) small e font x in
        bad (all_middle (IsTold font.packets) (kept r.packets) p t.0 (subst (λ ps. AllByRecursion (IsTold font.packets) ps) t.1 x.told.each)).1);
  }

  -- a packet of a code that has one
  pub twice : (p : CharacterPacket) (to c : ℕ) → to ≤ length bytes → packet_at (drop at bytes) ≡ Some (p, drop to bytes) → p.code ≤ 255 → c ≡ p.code → entry table p.code ≢ None → RefusesFile bytes (fault.Twice c)
  twice p to c w e small is n =
      let some = some_told table (kept r.packets) p.code r.told n in
      let T : ℕ → Type 0 = λ v. 1 < times v (kept (r.packets ++ p ∷ [])) in
      record {
        says = (
          r.packets ++ p ∷ [],
          to,
          read_to_on p to w e,
          subst T (sym is) (omega (arith, ap (times p.code) (kept_push r.packets p small), times-append p.code (kept r.packets) (p ∷ []), times_here p.code p [] refl, times_nil p.code, some)),
        );
        none = λ _ font x. (let t = taken p (drop to bytes) small e font x in
            let o = x.told.once p.code in
            absurd (omega (arith, o, some, ap (times p.code) t.1, times-append p.code (kept r.packets) (p ∷ t.0), times_here p.code p t.0 refl)));
      }

  -- a packet that runs past the end
  pub short : IsShortPacket bytes at → RefusesFile bytes (fault.Short at)
  short s = record {
    says = inr (r.packets, read_to, s);
    none = λ _ font x. (let e = ended (short_at bytes at s.here s.first s.past) font x in
        let b : slice_index bytes at ≡ 248 = ap (λ ys. get_or ys 0 0) (sym (ahead bytes at s.here) ∙ e) in
        let f = s.first in absurd (omega (arith, b, f)));
  }

  -- no packet has been read where a definition could still come
  nothing_read : (ps : List CharacterPacket) → Packets (drop middle bytes) ps (drop at bytes) → at < length bytes → IsDefinitionByte (slice_index bytes at) → 0 < length ps
  unfolding Packets
  nothing_read [] s h b =
      let l : length bytes - middle ≡ length bytes - at = sym (length-drop middle bytes) ∙ ap length s ∙ length-drop at bytes in
      let e : at ≡ middle = omega (arith, l, h) in
      let B : ℕ → Type 0 = λ n. IsDefinitionByte (slice_index bytes n) in
      absurd (r.stops (omega (arith, e, h)) (subst B e b))
  nothing_read (p ∷ ps) s h b = omega arith

  -- a byte that begins nothing
  pub bad_order : at < length bytes → 242 < slice_index bytes at → slice_index bytes at ≢ 248 → RefusesFile bytes (fault.BadOrder at)
  bad_order h big ne = record {
    says = record {
      packets = r.packets;
      read = read_to;
      here = h;
      byte = ⊎_elim
          (λ d. inl (nothing_read r.packets r.read h (omega (arith, big), omega (arith, d)), (omega (arith, big), omega (arith, d))))
          (λ d. inr (⊎_elim (λ e. inl e) (λ n. inr (omega (arith, n, ne, d))) (cases_eq (slice_index bytes at) 247)))
          (cases_lt (slice_index bytes at) 247);
    };
    none = λ _ font x. ne (ap (λ ys. get_or ys 0 0) (sym (ahead bytes at h) ∙ ended (none_at bytes at h big) font x));
  }

-- places and what they tell

is_there : Option (List ℕ) → ℕ
is_there None = 0
is_there (Some xs) = 1

pub told_at : (bytes : List ℕ) (spans : List Slot) (i : ℕ) (s : Slot) → i < length spans → s ≡ get_or spans i s → entry (map (packet_in bytes) spans) i ≡ packet_in bytes s
told_at bytes [] i s l e = absurd (omega (arith, l))
told_at bytes (x ∷ spans) zero s l e = ap (packet_in bytes) (sym e)
told_at bytes (x ∷ spans) (suc i) s l e = told_at bytes spans i s (omega (arith, l)) e

pub told_some : (bytes : List ℕ) (s : Slot) → IsTaken s → packet_in bytes s ≢ None
unfolding is_there
told_some bytes slot.Empty t e = t
told_some bytes (slot.Packet x) t e = absurd (omega (arith, ap is_there e))

pub told_none : (bytes : List ℕ) (s : Slot) → (IsTaken s → ⊥) → packet_in bytes s ≡ None
told_none bytes slot.Empty t = refl
told_none bytes (slot.Packet x) t = absurd (t tt)

pub map_set : (f : Slot → Option (List ℕ)) (xs : List Slot) (i : ℕ) (x : Slot) → map f (set xs i x) ≡ set (map f xs) i (f x)
map_set f [] i x = refl
map_set f (y ∷ xs) zero x = refl
map_set f (y ∷ xs) (suc i) x = ap (λ ys. f y ∷ ys) (map_set f xs i x)

-- before all packets

nothing_at : (n code : ℕ) → get_or (replicate {A = Option (List ℕ)} n None) code None ≡ None
nothing_at zero code = refl
nothing_at (suc n) zero = refl
nothing_at (suc n) (suc code) = nothing_at n code

pub none_kept : (bytes : List ℕ) (n : ℕ) → map (packet_in bytes) (replicate n slot.Empty) ≡ replicate n None
none_kept bytes zero = refl
none_kept bytes (suc n) = ap (λ ys. None ∷ ys) (none_kept bytes n)

no_packets : (xs : List ℕ) → Packets xs [] xs
unfolding Packets
no_packets xs = refl

pub packets_start : (bytes : List ℕ) (ds : List Definition) (middle : ℕ) (table : List (Option (List ℕ))) → DefinedTo bytes ds middle → NoDefinitionAt bytes middle → table ≡ replicate 256 None → PacketsTo bytes middle table middle
packets_start bytes ds middle table d n e =
    let T : List (Option (List ℕ)) → Type 0 = λ t. Tells t (kept []) in
    let new : List (Option (List ℕ)) = replicate 256 None in
    record {
      definitions = ds;
      defined = d;
      stops = n;
      packets = [];
      within = d.within;
      read = no_packets (drop middle bytes);
      told = subst T (sym e) (subst (Tells new) (sym kept_nil) (record {
        long = length-replicate {A = Option (List ℕ)} 256 None;
        each = tt;
        once = λ code. omega (arith, times_nil code);
        others = λ code _. nothing_at 256 code;
      }));
    }

-- the end of a file

tail_is : (bytes : List ℕ) (at : ℕ) → OnlyFill bytes at → drop at bytes ≡ 248 ∷ replicate (length bytes - (at + 1)) 248
tail_is bytes at f =
    let xs = drop (at + 1) bytes in
    let same : xs ≡ replicate (length bytes - (at + 1)) 248 = same_lists xs (replicate (length bytes - (at + 1)) 248)
    (length-drop (at + 1) bytes ∙ sym (length-replicate {A = ℕ} (length bytes - (at + 1)) 248))
    (λ k d q. (let l : at + 1 + k < length bytes = omega (arith, q, length-drop (at + 1) bytes) in
    get_or-drop (at + 1) bytes k d ∙ get_or_default bytes (at + 1 + k) d 0 l ∙ f.all (at + 1 + k) (omega arith) l ∙ sym (get_or-replicate (length bytes - (at + 1)) k 248 d (omega (arith, l))))) in
    ahead bytes at f.some ∙ ap (λ b. b ∷ xs) (f.all at (omega arith) f.some) ∙ ap (λ ys. 248 ∷ ys) same

at_fill : (n j : ℕ) → j < suc n → (let xs : List ℕ = 248 ∷ replicate {A = ℕ} n 248 in get_or xs j 0) ≡ 248
at_fill n zero h = refl
at_fill n (suc j) h = get_or-replicate n j 248 0 (omega (arith, h))

fill_is : (bytes : List ℕ) (at n : ℕ) → drop at bytes ≡ 248 ∷ replicate n 248 → OnlyFill bytes at
fill_is bytes at n e =
    let l : length bytes - at ≡ suc n = sym (length-drop at bytes) ∙ ap length e ∙ ap suc (length-replicate {A = ℕ} n 248) in
    record {
      some = omega (arith, l);
      all = λ i h k. (let s : at + (i - at) ≡ i = omega (arith, h) in
          ap (λ j. get_or bytes j 0) (sym s) ∙ sym (get_or-drop at bytes (i - at) 0) ∙ ap (λ xs. get_or xs (i - at) 0) e ∙ at_fill n (i - at) (omega (arith, l, h, k)));
    }

pub whole_file : (bytes : List ℕ) (locals : List LocalFont) (middle : ℕ) (table : List (Option (List ℕ))) (at checksum : ℕ) → LocalsTo bytes locals middle → Apart locals → PacketsTo bytes middle table at → OnlyFill bytes at → checksum ≡ checksum_of bytes →
    IsVf bytes (record { checksum = checksum; locals = locals; packets = table })
whole_file bytes locals middle table at checksum l apart r f c = record {
  preamble = l.read.preamble;
  checksum = c;
  definitions = l.definitions;
  middle = drop middle bytes;
  defined = l.read.read;
  packets = r.packets;
  fill = length bytes - (at + 1);
  body = subst (Packets (drop middle bytes) r.packets) (tail_is bytes at f) r.read;
  locals = l.are;
  named = l.named;
  apart = subst Apart l.are apart;
  told = r.told;
}

pub bad_tail : OneSpelling → (bytes : List ℕ) (middle : ℕ) (table : List (Option (List ℕ))) (at : ℕ) → PacketsTo bytes middle table at → EndsAt bytes at → (OnlyFill bytes at → ⊥) → RefusesFile bytes fault.NoPost
bad_tail one bytes middle table at r ends n =
    let none : packet_at (drop at bytes) ≡ None = ⊎_elim
    (λ h. none_at bytes at h (let e = ends h in omega (arith, e)))
    (λ h. ap packet_at (drop_all at bytes h) ∙ nil_is_none)
    (cases_lt at (length bytes)) in
    record {
      says = record { packets = r.packets; at = at; read = read_to one bytes middle table at r; last = ends; other = λ k e. n (fill_is bytes at k e) };
      none = λ _ font x. n (fill_is bytes at x.fill (ended one bytes middle table at r none font x));
    }

none_inside : (n k : ℕ) → AllByRecursion (IsInside n) (replicate k slot.Empty)
none_inside n zero = tt
none_inside n (suc k) = (tt, none_inside n k)

pub empty_slots : (bytes : List ℕ) (slots : List Slot) → slots ≡ replicate 256 slot.Empty → AreSlots bytes slots
empty_slots bytes slots e =
    let A : List Slot → Type 0 = AreSlots bytes in
    subst A (sym e) (record { long = length-replicate 256 slot.Empty; inside = All-from_recursion (IsInside (length bytes)) (replicate 256 slot.Empty) (none_inside (length bytes) 256) })
