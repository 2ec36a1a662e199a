-- The definitions of a file, one after another.
use Rattle.std.proofs.Common.{◌≡◌, ℕ, ℤ, ◌+◌, ◌<◌, ◌≤◌, inl, inr, ⊎_elim, refl, sym, ◌∙◌, ap, subst, arith, List, [], ◌∷◌, ◌++◌, length, length-append, length-drop, drop, get_or, slice_index}
use Rattle.std.specs.Prelude.{map, replicate, slice_range, Option, None, Some}
use Rattle.std.specs.List.{AllByRecursion}
use Rattle.std.proofs.lemmas.List.{append_cancel_left, append-nil, append_assoc, drop_all, drop_at, drop-drop, get_or-drop}
use Rattle.std.proofs.lemmas.Bool.{cases_lt}
use Rattle.dvi_ops.specs.Command.{Command, Definition}
use Rattle.dvi_ops.specs.Command.Command.{FntDef}
use Rattle.dvi_ops.specs.Spelling.{Spell, RunsPast}
use Rattle.dvi_ops.specs.Laws.{OneSpelling}
use Rattle.dvi_ops.specs.View.{NoSpelling}
use Rattle.dv_base.specs.FontName.{IsFontName}
use Rattle.dvi_ops.specs.Numbered.{HasTwice}
use Rattle.vf_packets.specs.Font.{LocalFont, VirtualFont, Has, numbers_of}
use Rattle.vf_packets.specs.Packets.{CharacterPacket, Packets}
use Rattle.vf_packets.specs.File.{HasPreamble, body_at, IsDefinitionByte, Definitions, local_of, IsVf}
use Rattle.vf_packets.specs.Faults.{DefinedTo, RefusesFile, LocalsTo, NoDefinitionAt}
use Rattle.vf_packets.specs.LocalFaults.{IsTwice}
use Rattle.vf_packets.specs.declared.fault.VfFault.{VfFault}
use Rattle.vf_packets.specs.declared.fault.VfFault.TheVariants as fault
use Rattle.vf_packets.proofs.Stepping.{parted}
use Rattle.vf_packets.proofs.Packeted.{none_from}

-- lists of definitions

NoDefinition : List ℕ → Type 0
NoDefinition xs = IsDefinitionByte (slice_index xs 0) → ⊥

pub no_definitions : (xs : List ℕ) → Definitions xs [] xs
no_definitions xs = refl

defs_push : (xs : List ℕ) (ds : List Definition) (ys : List ℕ) (d : Definition) (front zs : List ℕ) → Definitions xs ds ys → ys ≡ front ++ zs → IsDefinitionByte (slice_index ys 0) → Spell (FntDef d) front → Definitions xs (ds ++ d ∷ []) zs
defs_push xs [] ys d front zs s e b f = let B : List ℕ → Type 0 = λ v. IsDefinitionByte (slice_index v 0) in (front, zs, s ∙ e, subst B (sym s) b, f, refl)
defs_push xs (c ∷ ds) ys d front zs s e b f = (s.0, s.1, s.2, s.3, s.4, defs_push s.1 ds ys d front zs s.5 e b f)

definition_in : Command → Definition → Definition
definition_in (FntDef d) e = d
definition_in _ e = e

same_definition : (d e : Definition) → FntDef d ≡ FntDef e → d ≡ e
unfolding definition_in
same_definition d e q = ap (λ c. definition_in c d) q

-- the definitions that come next
pub record NextDefinitions (ys : List ℕ) (ds es : List Definition) (end : List ℕ) : Type 0 where
  pub more : List Definition
  pub joined : es ≡ ds ++ more
  pub read : Definitions ys more end

-- Definitions of the same bytes agree, as far as both go.
pub next_definitions : OneSpelling → (xs : List ℕ) (ds : List Definition) (ys : List ℕ) (es : List Definition) (end : List ℕ) → (IsDefinitionByte (slice_index end 0) → ⊥) → Definitions xs ds ys → Definitions xs es end → NextDefinitions ys ds es end
next_definitions one xs [] ys es end n s t = let D : List ℕ → Type 0 = λ v. Definitions v es end in record { more = es; joined = refl; read = subst D s t }
next_definitions one xs (d ∷ ds) ys [] end n s t = let B : List ℕ → Type 0 = λ v. IsDefinitionByte (slice_index v 0) in absurd (n (subst B t s.3))
next_definitions one xs (d ∷ ds) ys (e ∷ es) end n s t =
    let q = one s.0 t.0 (FntDef d) (FntDef e) s.1 t.1 s.4 t.4 (sym s.2 ∙ t.2) in
    let rest : t.1 ≡ s.1 = append_cancel_left t.0 t.1 s.1 (sym t.2 ∙ s.2 ∙ ap (λ v. v ++ s.1) q.0) in
    let D : List ℕ → Type 0 = λ v. Definitions v es end in
    let r = next_definitions one s.1 ds ys es end n s.5 (subst D rest t.5) in
    record { more = r.more; joined = ap (λ x. x ∷ es) (sym (same_definition d e q.1)) ∙ ap (λ xs. d ∷ xs) r.joined; read = r.read }

some_packet : Option (CharacterPacket × List ℕ) → ℕ
some_packet None = 0
some_packet (Some r) = 1

-- packets and the end begin no definition
pub no_definition_first : (xs : List ℕ) (ps : List CharacterPacket) (fill : ℕ) → Packets xs ps (248 ∷ replicate fill 248) → IsDefinitionByte (slice_index xs 0) → ⊥
unfolding Packets some_packet
no_definition_first xs [] fill s b = (let h : slice_index xs 0 ≡ 248 = ap (λ v. get_or v 0 0) s in let t = b.1 in absurd (omega (arith, h, t)))
no_definition_first [] (p ∷ ps) fill s b = (let l = b.0 in absurd (omega (arith, l)))
no_definition_first (x ∷ xs) (p ∷ ps) fill s b = (let l = b.0 in absurd (omega (arith, ap some_packet (sym (none_from xs x (omega (arith, l))) ∙ s.1))))

-- a file's definitions behind those that are read
module _ (one : OneSpelling) (bytes : List ℕ) (ds : List Definition) (at : ℕ) (r : DefinedTo bytes ds at) (font : VirtualFont) (x : IsVf bytes font) where
  pub behind : NextDefinitions (drop at bytes) ds x.definitions x.middle
  behind = next_definitions one (drop (body_at bytes) bytes) ds (drop at bytes) x.definitions x.middle (no_definition_first x.middle x.packets x.fill x.body) r.read x.defined

first_byte : (bytes : List ℕ) (at : ℕ) → slice_index (drop at bytes) 0 ≡ slice_index bytes at
first_byte bytes at = get_or-drop at bytes 0 0 ∙ (let e : at + 0 ≡ at = omega arith in ap (λ n. get_or bytes n 0) e)

definition_byte : (bytes : List ℕ) (at : ℕ) → IsDefinitionByte (slice_index bytes at) → IsDefinitionByte (slice_index (drop at bytes) 0)
definition_byte bytes at b = let B : ℕ → Type 0 = IsDefinitionByte in subst B (sym (first_byte bytes at)) b

-- where a definition's byte stands, a definition comes next
definition_next : (bytes : List ℕ) (at : ℕ) (ds : List Definition) (end : List ℕ) → IsDefinitionByte (slice_index bytes at) → (IsDefinitionByte (slice_index end 0) → ⊥) → Definitions (drop at bytes) ds end →
    (d : Definition) × (more : List Definition) × (front : List ℕ) × (rest : List ℕ) × (ds ≡ d ∷ more) × (drop at bytes ≡ front ++ rest) × Spell (FntDef d) front
definition_next bytes at [] end b n s = let B : List ℕ → Type 0 = λ v. IsDefinitionByte (slice_index v 0) in absurd (n (subst B s (definition_byte bytes at b)))
definition_next bytes at (d ∷ ds) end b n s = (d, ds, s.0, s.1, refl, s.2, s.4)

-- numbers

-- the first of the definitions that has a number
split_once : (ds : List Definition) (k : ℤ) → Has (map local_of ds) k → (xs : List Definition) × (d : Definition) × (ys : List Definition) × (ds ≡ xs ++ d ∷ ys) × (d.k ≡ k)
split_once [] k h = absurd h
split_once (d ∷ ds) k h =
    ⊎_elim
    (λ e. ([], d, ds, refl, e))
    (λ g. (let r = split_once ds k g in (d ∷ r.0, r.1, r.2, ap (λ (es : List Definition). d ∷ es) r.3, r.4)))
    h

-- a definition with a number that one before it has
split_twice : (ds : List Definition) (k : ℤ) → HasTwice (numbers_of (map local_of ds)) k → (xs : List Definition) × (d : Definition) × (ys : List Definition) × (ds ≡ xs ++ d ∷ ys) × (d.k ≡ k) × Has (map local_of xs) k
split_twice [] k h = absurd h
split_twice (d ∷ ds) k h =
    ⊎_elim
    (λ g. (let r = split_once ds k g.1 in (d ∷ r.0, r.1, r.2, ap (λ (es : List Definition). d ∷ es) r.3, r.4, inl g.0)))
    (λ g. (let r = split_twice ds k g in (d ∷ r.0, r.1, r.2, ap (λ (es : List Definition). d ∷ es) r.3, r.4, inr r.5)))
    h

has_longer : (ds es : List Definition) (k : ℤ) → Has (map local_of ds) k → Has (map local_of (ds ++ es)) k
has_longer [] es k h = absurd h
has_longer (d ∷ ds) es k h = ⊎_elim (λ e. inl e) (λ g. inr (has_longer ds es k g)) h

twice_longer : (ds es : List Definition) (k : ℤ) → HasTwice (numbers_of (map local_of ds)) k → HasTwice (numbers_of (map local_of (ds ++ es))) k
twice_longer [] es k h = absurd h
twice_longer (d ∷ ds) es k h = ⊎_elim (λ e. inl (e.0, has_longer ds es k e.1)) (λ g. inr (twice_longer ds es k g)) h

-- the definitions up to one of them
definitions_front : (xs : List ℕ) (ds : List Definition) (d : Definition) (es : List Definition) (rest : List ℕ) → Definitions xs (ds ++ d ∷ es) rest
    → (front : List ℕ) × (behind : List ℕ) × (xs ≡ front ++ behind) × Definitions xs (ds ++ d ∷ []) behind
definitions_front xs [] d es rest s = (s.0, s.1, s.2, (s.0, s.1, s.2, s.3, s.4, refl))
definitions_front xs (c ∷ ds) d es rest s =
    let r = definitions_front s.1 ds d es rest s.5 in
    (s.0 ++ r.0, r.1, s.2 ∙ ap (λ (ys : List ℕ). s.0 ++ ys) r.2 ∙ sym (append_assoc s.0 r.0 r.1), (s.0, s.1, s.2, s.3, s.4, r.3))

defined_front : (bytes : List ℕ) (ds : List Definition) (d : Definition) (es all : List Definition) (at : ℕ) → all ≡ ds ++ d ∷ es → DefinedTo bytes all at → (to : ℕ) × DefinedTo bytes (ds ++ d ∷ []) to
defined_front bytes ds d es all at e r =
    let body = body_at bytes in
    let f = definitions_front (drop body bytes) ds d es (drop at bytes) (subst (λ (l : List Definition). Definitions (drop body bytes) l (drop at bytes)) e r.read) in
    let behind : drop (body + length f.0) bytes ≡ f.1 = sym (drop-drop (length f.0) body bytes) ∙ ap (drop (length f.0)) f.2 ∙ drop_at f.0 f.1 (length f.0) refl in (
      body + length f.0,
      record {
        preamble = r.preamble;
        within = (let w = r.preamble.whole in omega (arith, w, ap length f.2, length-append f.0 f.1, length-drop body bytes));
        read = subst (λ (l : List ℕ). Definitions (drop body bytes) (ds ++ d ∷ []) l) (sym behind) f.3;
      },
    )

pub map-append : (ds es : List Definition) → map local_of (ds ++ es) ≡ map local_of ds ++ map local_of es
map-append [] es = refl
map-append (d ∷ ds) es = ap (λ ls. local_of d ∷ ls) (map-append ds es)

named_push : (ds : List Definition) (d : Definition) → AllByRecursion (λ e. IsFontName e.name) ds → IsFontName d.name → AllByRecursion (λ e. IsFontName e.name) (ds ++ d ∷ [])
named_push [] d a n = (n, tt)
named_push (e ∷ ds) d a n = (a.0, named_push ds d a.1 n)

named_middle : (ds es : List Definition) (d : Definition) → AllByRecursion (λ e. IsFontName e.name) (ds ++ d ∷ es) → IsFontName d.name
named_middle [] es d a = a.0
named_middle (e ∷ ds) es d a = named_middle ds es d a.1

-- one definition more is read
pub defined_more : (bytes : List ℕ) (ds : List Definition) (at to : ℕ) (d : Definition) → DefinedTo bytes ds at → at < to → to ≤ length bytes → IsDefinitionByte (slice_index bytes at) → Spell (FntDef d) (slice_range bytes at to) → DefinedTo bytes (ds ++ d ∷ []) to
defined_more bytes ds at to d r h l b s = record {
  preamble = r.preamble;
  within = l;
  read = defs_push (drop (body_at bytes) bytes) ds (drop at bytes) d (slice_range bytes at to) (drop to bytes) r.read (parted bytes at to (omega (arith, h))) (definition_byte bytes at b) s;
}

-- a definition that is taken
pub local_more : (bytes : List ℕ) (locals new : List LocalFont) (at to : ℕ) (d : Definition) → LocalsTo bytes locals at → at < to → to ≤ length bytes → IsDefinitionByte (slice_index bytes at) → Spell (FntDef d) (slice_range bytes at to) →
    new ≡ locals ++ local_of d ∷ [] → IsFontName d.name → LocalsTo bytes new to
local_more bytes locals new at to d r h l b s is name = record {
  definitions = r.definitions ++ d ∷ [];
  read = defined_more bytes r.definitions at to d r.read h l b s;
  are = is ∙ ap (λ ls. ls ++ local_of d ∷ []) r.are ∙ sym (map-append r.definitions (d ∷ []));
  named = named_push r.definitions d r.named name;
}

-- a file has the definition that is read
pub has_definition : OneSpelling → (bytes : List ℕ) (ds : List Definition) (at to : ℕ) (d : Definition) → DefinedTo bytes ds at → at < to → IsDefinitionByte (slice_index bytes at) → Spell (FntDef d) (slice_range bytes at to) →
    (font : VirtualFont) (x : IsVf bytes font) → (more : List Definition) × (x.definitions ≡ ds ++ d ∷ more)
has_definition one bytes ds at to d r h b s font x =
    let n = behind one bytes ds at r font x in
    let q = definition_next bytes at n.more x.middle b (no_definition_first x.middle x.packets x.fill x.body) n.read in
    let o = one (slice_range bytes at to) q.2 (FntDef d) (FntDef q.0) (drop to bytes) q.3 s q.6 (sym (parted bytes at to (omega (arith, h))) ∙ q.5) in
    (q.1, n.joined ∙ ap (λ es. ds ++ es) (q.4 ∙ ap (λ e. e ∷ q.1) (sym (same_definition d q.0 o.1))))

-- a definition with a name that no font may have
pub not_named : OneSpelling → (bytes : List ℕ) (locals : List LocalFont) (at to : ℕ) (d : Definition) → LocalsTo bytes locals at → at < to → to ≤ length bytes → IsDefinitionByte (slice_index bytes at) → Spell (FntDef d) (slice_range bytes at to) →
    (IsFontName d.name → ⊥) → RefusesFile bytes (fault.BadName d.k)
not_named one bytes locals at to d r h l b s n = record {
  says = (r.definitions, d, to, defined_more bytes r.definitions at to d r.read h l b s, refl, n);
  none = λ _ font x. (let q = has_definition one bytes r.definitions at to d r.read h b s font x in
      let N : List Definition → Type 0 = λ es. AllByRecursion (λ c. IsFontName c.name) es in
      n (named_middle r.definitions q.0 d (subst N q.1 x.named)));
}

-- two definitions with one number
pub not_apart : OneSpelling → (bytes : List ℕ) (locals : List LocalFont) (at : ℕ) (k : ℤ) → LocalsTo bytes locals at → HasTwice (numbers_of locals) k → RefusesFile bytes (fault.FontTwice k)
not_apart one bytes locals at k r h =
    let twice : HasTwice (numbers_of (map local_of r.definitions)) k = subst (λ (ls : List LocalFont). HasTwice (numbers_of ls) k) r.are h in
    let p = split_twice r.definitions k twice in
    let q = defined_front bytes p.0 p.1 p.2 r.definitions at p.3 r.read in
    record {
      says = (p.0, p.1, q.0, q.1, sym p.4, subst (λ (z : ℤ). Has (map local_of p.0) z) (sym p.4) p.5);
      none = λ _ font x. (let n = behind one bytes r.definitions at r.read font x in
          x.apart k (subst (λ (ds : List Definition). HasTwice (numbers_of (map local_of ds)) k) (sym n.joined) (twice_longer r.definitions n.more k twice)));
    }

-- what is wrong with the numbers of all of them
pub not_taken : OneSpelling → (bytes : List ℕ) (locals : List LocalFont) (at : ℕ) (numbers : List ℤ) (e : VfFault) → LocalsTo bytes locals at → numbers_of locals ≡ numbers → IsTwice numbers e → RefusesFile bytes e
not_taken one bytes locals at numbers (fault.FontTwice k) r same h = not_apart one bytes locals at k r (subst (λ (ns : List ℤ). HasTwice ns k) (sym same) h)
not_taken one bytes locals at numbers fault.OutOfMemory r same h = record { says = tt; none = λ ne. absurd (ne refl) }
not_taken one bytes locals at numbers fault.BadPreamble r same h = absurd h
not_taken one bytes locals at numbers (fault.BadOrder place) r same h = absurd h
not_taken one bytes locals at numbers (fault.Short place) r same h = absurd h
not_taken one bytes locals at numbers (fault.BadOp c) r same h = absurd h
not_taken one bytes locals at numbers (fault.Twice c) r same h = absurd h
not_taken one bytes locals at numbers (fault.BadName k) r same h = absurd h
not_taken one bytes locals at numbers fault.NoPost r same h = absurd h

-- a definition that runs past the end
pub short_definition : OneSpelling → (bytes : List ℕ) (locals : List LocalFont) (at : ℕ) → LocalsTo bytes locals at → IsDefinitionByte (slice_index bytes at) → RunsPast bytes at → NoSpelling bytes at → RefusesFile bytes (fault.Short at)
short_definition one bytes locals at r b p n = record {
  says = inl (r.definitions, r.read, b, p);
  none = λ _ font x. (let m = behind one bytes r.definitions at r.read font x in
      let q = definition_next bytes at m.more x.middle b (no_definition_first x.middle x.packets x.fill x.body) m.read in
      n (FntDef q.0) q.2 q.3 q.5 q.6);
}

-- before all definitions
pub locals_start : (bytes : List ℕ) (locals : List LocalFont) (at : ℕ) → locals ≡ [] → HasPreamble bytes → at ≡ body_at bytes → LocalsTo bytes locals at
locals_start bytes locals at e pre a =
    let D : ℕ → Type 0 = λ n. Definitions (drop (body_at bytes) bytes) [] (drop n bytes) in
    record {
      definitions = [];
      read = record { preamble = pre; within = (let w = pre.whole in omega (arith, a, w)); read = subst D (sym a) refl };
      are = e;
      named = tt;
    }

-- where no definition begins, the packets of a file begin
pub middle_is : OneSpelling → (bytes : List ℕ) (ds : List Definition) (at : ℕ) → DefinedTo bytes ds at → NoDefinitionAt bytes at → (font : VirtualFont) (x : IsVf bytes font) → (x.middle ≡ drop at bytes) × (x.definitions ≡ ds)
middle_is one bytes ds at r n font x = go (behind one bytes ds at r font x) where
  none : IsDefinitionByte (slice_index (drop at bytes) 0) → ⊥
  none b = ⊎_elim
      (λ h. n h (let B : ℕ → Type 0 = IsDefinitionByte in subst B (first_byte bytes at) b))
      (λ h. (let z : slice_index (drop at bytes) 0 ≡ 0 = ap (λ v. get_or v 0 0) (drop_all at bytes h) in let l = b.0 in absurd (omega (arith, z, l))))
      (cases_lt at (length bytes))

  go : NextDefinitions (drop at bytes) ds x.definitions x.middle → (x.middle ≡ drop at bytes) × (x.definitions ≡ ds)
  go m = stops m.more m.read m.joined where
    stops : (more : List Definition) → Definitions (drop at bytes) more x.middle → x.definitions ≡ ds ++ more → (x.middle ≡ drop at bytes) × (x.definitions ≡ ds)
    stops [] s j = (sym s, j ∙ append-nil ds)
    stops (d ∷ more) s j = absurd (none s.3)
