-- Bytes tell at most one font.
use Rattle.std.proofs.Common.{◌≡◌, ℕ, ◌<◌, ⊎_elim, refl, sym, ◌∙◌, ap, subst, arith, List, [], ◌∷◌, ◌++◌, drop}
use Rattle.std.specs.Prelude.{map, replicate, Option, None, Some}
use Rattle.std.specs.List.{AllByRecursion}
use Rattle.std.proofs.lemmas.List.{append-nil, same_lists, get_or_default}
use Rattle.std.proofs.lemmas.Bool.{cases_eq, cases_lt}
use Rattle.dvi_ops.specs.Command.{Definition}
use Rattle.dvi_ops.specs.Laws.{OneSpelling}
use Rattle.vf_packets.specs.Programs.{IsProgram}
use Rattle.vf_packets.specs.Font.{VirtualFont, LocalFont, entry}
use Rattle.vf_packets.specs.Packets.{CharacterPacket, Packets, packet_at}
use Rattle.vf_packets.specs.File.{IsVf, HoldsPrograms, Definitions, local_of, kept, times, Tells, body_at}
use Rattle.vf_packets.specs.Laws.{OneFont}
use Rattle.vf_packets.proofs.Packeted.{none_from}
use Rattle.vf_packets.proofs.Locating.{next_definitions, no_definition_first}
use Rattle.vf_packets.proofs.Gathering.{next, none_found, times_other}

-- what a table tells of a code

abbrev IsTold : List (Option (List ℕ)) → CharacterPacket → Type 0
IsTold table p = (entry table p.code ≡ Some p.commands) × IsProgram p.commands

-- a packet of a code that has one
a_packet : (P : CharacterPacket → Type 0) (code : ℕ) (ps : List CharacterPacket) → 0 < times code ps → AllByRecursion P ps → (p : CharacterPacket) × (p.code ≡ code) × P p
unfolding times
a_packet P code [] h a = absurd (omega (arith, h))
a_packet P code (p ∷ ps) h a =
    ⊎_elim
    (λ e. (p, e, a.0))
    (λ n. a_packet P code ps (omega (arith, h, times_other code p ps n)) a.1)
    (cases_eq p.code code)

some_of : Option (List ℕ) → List ℕ
some_of None = []
some_of (Some xs) = xs

is_some_one : Option (List ℕ) → ℕ
is_some_one None = 0
is_some_one (Some xs) = 1

nothing_is_none : (xs : List ℕ) → ◌≡◌ {A = Option (List ℕ)} None (Some xs) → ⊥
unfolding is_some_one
nothing_is_none xs e = absurd (omega (arith, ap is_some_one e))

same_commands : (xs ys : List ℕ) → ◌≡◌ {A = Option (List ℕ)} (Some xs) (Some ys) → xs ≡ ys
unfolding some_of
same_commands xs ys e = ap some_of e

module _ (table : List (Option (List ℕ))) (ps : List CharacterPacket) (t : Tells table ps) where
  told_program : (code : ℕ) (commands : List ℕ) → entry table code ≡ Some commands → IsProgram commands
  told_program code commands e =
      ⊎_elim
      (λ h. (let p = a_packet (IsTold table) code ps h t.each in
      subst IsProgram (same_commands p.0.commands commands (sym p.2.0 ∙ ap (entry table) p.1 ∙ e)) p.2.1))
      (λ h. absurd (nothing_is_none commands (sym (t.others code (omega (arith, h))) ∙ e)))
      (cases_lt 0 (times code ps))

pub holds_programs : (bytes : List ℕ) (font : VirtualFont) → IsVf bytes font → HoldsPrograms font
holds_programs bytes font x code commands e = told_program font.packets (kept x.packets) x.told code commands e

both : (P Q : CharacterPacket → Type 0) (ps : List CharacterPacket) → AllByRecursion P ps → AllByRecursion Q ps → AllByRecursion (λ p. P p × Q p) ps
both P Q [] a b = tt
both P Q (p ∷ ps) a b = ((a.0, b.0), both P Q ps a.1 b.1)

-- two tables that tell the same packets
module _ (a b : List (Option (List ℕ))) (ps : List CharacterPacket) (t : Tells a ps) (u : Tells b ps) where
  same_entry : (code : ℕ) → entry a code ≡ entry b code
  same_entry code =
      ⊎_elim
      (λ h. (let p = a_packet (λ q. IsTold a q × IsTold b q) code ps h (both (IsTold a) (IsTold b) ps t.each u.each) in
      sym (ap (entry a) p.1) ∙ p.2.0.0 ∙ sym p.2.1.0 ∙ ap (entry b) p.1))
      (λ h. t.others code (omega (arith, h)) ∙ sym (u.others code (omega (arith, h))))
      (cases_lt 0 (times code ps))

  same_table : a ≡ b
  same_table =
      same_lists a b (t.long ∙ sym u.long)
      (λ k d l. get_or_default a k d None l ∙ same_entry k ∙ sym (get_or_default b k d None (omega (arith, l, t.long, u.long))))

-- where no packet begins, none is read
nothing_more : (ys : List ℕ) (ps : List CharacterPacket) (end : List ℕ) → packet_at ys ≡ None → Packets ys ps end → ps ≡ []
unfolding Packets
nothing_more ys [] end n s = refl
nothing_more ys (p ∷ ps) end n s = absurd (none_found p s.0 (sym n ∙ s.1))

module _ (one : OneSpelling) (bytes : List ℕ) (c d : VirtualFont) (x : IsVf bytes c) (y : IsVf bytes d) where
  stops : (more : List Definition) → Definitions x.middle more y.middle → y.definitions ≡ x.definitions ++ more → (y.middle ≡ x.middle) × (y.definitions ≡ x.definitions)
  stops [] s j = (sym s, j ∙ append-nil x.definitions)
  stops (e ∷ more) s j = absurd (no_definition_first x.middle x.packets x.fill x.body s.3)

  same_definitions : (y.middle ≡ x.middle) × (y.definitions ≡ x.definitions)
  same_definitions =
      let n = next_definitions one (drop (body_at bytes) bytes) x.definitions x.middle y.definitions y.middle (no_definition_first y.middle y.packets y.fill y.body) x.defined y.defined in
      stops n.more n.read n.joined

  same_packets : y.packets ≡ x.packets
  same_packets =
      let xs : List ℕ = 248 ∷ replicate x.fill 248 in
      let ys : List ℕ = 248 ∷ replicate y.fill 248 in
      let there : Packets x.middle y.packets ys = subst (λ (m : List ℕ). Packets m y.packets ys) same_definitions.0 y.body in
      let n = next x.middle x.packets xs y.packets ys (none_from (replicate y.fill 248) 248 (omega arith)) x.body there in
      n.joined ∙ ap (λ (qs : List CharacterPacket). x.packets ++ qs) (nothing_more xs n.more ys (none_from (replicate x.fill 248) 248 (omega arith)) n.read) ∙ append-nil x.packets

  same_font : c ≡ d
  same_font =
      let checksums : c.checksum ≡ d.checksum = x.checksum ∙ sym y.checksum in
      let fonts : c.locals ≡ d.locals = x.locals ∙ ap (map local_of) (sym same_definitions.1) ∙ sym y.locals in
      let tables : c.packets ≡ d.packets = same_table c.packets d.packets (kept x.packets) x.told (subst (λ (ps : List CharacterPacket). Tells d.packets (kept ps)) same_packets y.told) in
      ap (λ (v : ℕ). record { checksum = v; locals = c.locals; packets = c.packets }) checksums
      ∙ ap (λ (v : List LocalFont). record { checksum = d.checksum; locals = v; packets = c.packets }) fonts
      ∙ ap (λ (v : List (Option (List ℕ))). record { checksum = d.checksum; locals = d.locals; packets = v }) tables

pub one_font : OneSpelling → OneFont
one_font one bytes c d x y = same_font one bytes c d x y
