-- The command at a place, and what it does with fonts.
use Rattle.std.proofs.Common.{◌≡◌, ◌≤◌, ◌<◌, ◌+◌, ◌-◌, ℕ, ℤ, List, [], ◌∷◌, ◌++◌, length, drop, slice_range, refl, sym, ap, subst, ◌∙◌, arith, length-append, length-drop}
use Rattle.std.proofs.lemmas.List.{drop_at}
use Rattle.std.proofs.lemmas.List.Folds.{drop_split}
use Rattle.dvi_ops.specs.Command.{Command}
use Rattle.dvi_ops.specs.Command.Command.{Set, Put, Fnt}
use Rattle.dvi_ops.specs.Placed.{Placed, Lexes}
use Rattle.dvi_ops.specs.Spelling.{Spell}
use Rattle.dvi_ops.specs.Laws.{OneSpelling}
use Rattle.font_set.specs.Fonts.{FontSet}
use Rattle.font_set.specs.Programs.{Named, Scope, HasNumber}
use Rattle.font_set.specs.Search.{IsTurnFault, IsSelectable, Next, Tells, program_of, bytes_of, first_of, fonts_of}
use Rattle.font_set.specs.Found.{PageBytes, IsPlaced, Reads}
use Rattle.font_set.specs.Asking.{IsAsked, DoesAsked, AskedFault}
use Rattle.font_set.specs.declared.agenda.Place.{Place}
use Rattle.font_set.specs.declared.turn.Asked.{Asked}
use Rattle.font_set.specs.declared.turn.Asked.TheVariants as asked
use Rattle.font_set.specs.declared.turn.Does.{Does}
use Rattle.font_set.specs.declared.turn.Does.TheVariants as does
use Rattle.font_set.specs.declared.turn.Turn.{Turn}
use Rattle.font_set.specs.declared.fault.LoadFault.{LoadFault}
use Rattle.font_set.specs.declared.fault.LoadFault.TheVariants as load

-- the first command of the rest is the one that is spelled there
lexed_next : OneSpelling → (bytes : List ℕ) (from at end : ℕ) (cmd : Command) (rest : List Placed) → at < end → end ≤ length bytes → Spell cmd (slice_range bytes at end) → Lexes (from + at) (drop at bytes) rest → Next from at end bytes rest
lexed_next one bytes from at end cmd [] a b s l = absurd (omega (arith, length-drop at bytes, ap length l))
lexed_next one bytes from at end cmd (c ∷ cs) a b s l =
    let front = slice_range bytes at end in
    let split : drop at bytes ≡ front ++ drop end bytes = drop_split bytes at end (omega arith) in
    let both : l.1 ++ l.2 ≡ front ++ drop end bytes = sym l.3 ∙ split in
    let law = one l.1 front c.command cmd l.2 (drop end bytes) l.4 s both in
    let long : length front + (length bytes - end) ≡ length bytes - at = omega (arith, ap length split, length-append front (drop end bytes), length-drop at bytes, length-drop end bytes) in
    let width : from + at + length l.1 ≡ from + end = omega (arith, ap length law.0) in
    let behind : l.2 ≡ drop end bytes = sym (drop_at l.1 l.2 (length l.1) refl) ∙ ap (drop (length l.1)) both ∙ drop_at front (drop end bytes) (length l.1) (ap length (sym law.0)) in
    record {
      command = cmd;
      behind = cs;
      split = ap (λ (n : ℕ). let x : Placed = record { place = n; command = c.command } in x ∷ cs) l.0
          ∙ ap (λ (d : Command). let x : Placed = record { place = from + at; command = d } in x ∷ cs) law.1;
      lexed = subst (λ (k : ℕ). Lexes k (drop end bytes) cs) width (subst (λ (bs : List ℕ). Lexes (from + at + length l.1) bs cs) behind l.5);
    }

named : (h : OneSpelling) (bytes : List ℕ) (from at end : ℕ) (cmd : Command) (rest : List Placed) (a : at < end) (b : end ≤ length bytes) (s : Spell cmd (slice_range bytes at end)) (l : Lexes (from + at) (drop at bytes) rest)
    → (n : Next from at end bytes rest) × (n.command ≡ cmd)
unfolding lexed_next
named one bytes from at end cmd [] a b s l = absurd (omega (arith, length-drop at bytes, ap length l))
named one bytes from at end cmd (c ∷ cs) a b s l = (lexed_next one bytes from at end cmd (c ∷ cs) a b s l, refl)

tells : (scope : Scope) (cmd : Command) (a : Asked) (d : Does) → IsAsked cmd a → DoesAsked scope.fonts a d → Tells scope cmd d
tells scope (Fnt k) a d e f =
    let g : DoesAsked scope.fonts (asked.Font k) d = subst (λ (x : Asked). DoesAsked scope.fonts x d) e f in
    subst (Tells scope (Fnt k)) (sym g.1) (k, refl, g.2)
tells scope (Set z) a d e f =
    let g : d ≡ does.Sets z = subst (λ (x : Asked). DoesAsked scope.fonts x d) e f in
    subst (Tells scope (Set z)) (sym g) refl
tells scope (Put z) a d e f =
    let g : d ≡ does.Sets z = subst (λ (x : Asked). DoesAsked scope.fonts x d) e f in
    subst (Tells scope (Put z)) (sym g) refl
tells scope c a d e f =
    let g : d ≡ does.Nothing = subst (λ (x : Asked). DoesAsked scope.fonts x d) e f in
    subst (Tells scope c) (sym g) tt

selectable : (fonts : List Named) (a : Asked) (d : Does) → DoesAsked fonts a d → IsSelectable d
selectable fonts asked.Nothing d f = subst IsSelectable (sym f) tt
selectable fonts (asked.Char z) d f = subst IsSelectable (sym f) tt
selectable fonts (asked.Font k) d f = subst IsSelectable (sym f.1) f.3

asks_font : (cmd : Command) (k : ℤ) → IsAsked cmd (asked.Font k) → cmd ≡ Fnt k
asks_font (Fnt n) k e = let q : k ≡ n = cc in ap Fnt (sym q)
asks_font (Set z) k e = absurd cc
asks_font (Put z) k e = absurd cc
asks_font _ k e = absurd cc

pub reads : OneSpelling → (s : PageBytes) (set : FontSet) (p : Place) (t : Turn) (a : Asked) (cmd : Command) → p.at < p.end → IsPlaced s set p
    → p.at < t.next → t.next ≤ p.end → Spell cmd (slice_range (bytes_of set s.bytes p.home) p.at t.next) → IsAsked cmd a
    → DoesAsked (fonts_of set s.page p.home) a t.does → Reads s set p t
reads one s set p t a cmd inside x further within spelled asks d =
    let scope = (program_of set s.page p.home).scope in
    let bytes = bytes_of set s.bytes p.home in
    let ends : length bytes ≡ p.end = x.ends in
    let long : t.next ≤ length bytes = omega (arith, ends, within) in
    let f : DoesAsked scope.fonts a t.does = subst (λ (fonts : List Named). DoesAsked fonts a t.does) (sym (x.fonts inside)) d in
    record {
      further = further;
      within = within;
      command = λ rest l.
          let n = named one bytes (first_of s.first p.home) p.at t.next cmd rest further long spelled l in
          (n.0, subst (λ (c : Command). Tells scope c t.does) (sym n.1) (tells scope cmd a t.does asks f));
      selectable = selectable (fonts_of set s.page p.home) a t.does d;
    }

pub stops : OneSpelling → (s : PageBytes) (set : FontSet) (p : Place) (next : ℕ) (a : Asked) (cmd : Command) (e : LoadFault) → p.at < p.end → IsPlaced s set p
    → p.at < next → next ≤ p.end → Spell cmd (slice_range (bytes_of set s.bytes p.home) p.at next) → IsAsked cmd a
    → AskedFault set p.home (fonts_of set s.page p.home) (first_of s.first p.home + p.at) a e
    → IsTurnFault set p.home (program_of set s.page p.home).scope (first_of s.first p.home) p.at (bytes_of set s.bytes p.home) e
stops one s set p next asked.Nothing cmd e inside x further within spelled asks h = absurd h
stops one s set p next (asked.Char z) cmd e inside x further within spelled asks h = absurd h
stops one s set p next (asked.Font k) cmd (load.UndefinedFont spot) inside x further within spelled asks h =
    let scope = (program_of set s.page p.home).scope in
    let bytes = bytes_of set s.bytes p.home in
    let ends : length bytes ≡ p.end = x.ends in
    let long : next ≤ length bytes = omega (arith, ends, within) in (
      h.0,
      λ rest l.
          let n = named one bytes (first_of s.first p.home) p.at next cmd rest further long spelled l in
          let m = n.0 in
          (m.command, m.behind, m.split, k, n.1 ∙ asks_font cmd k asks, subst (λ (fonts : List Named). HasNumber fonts k → ⊥) (sym (x.fonts inside)) h.1),
    )
stops one s set p next (asked.Font k) cmd (load.Font f) inside x further within spelled asks h =
    let bytes = bytes_of set s.bytes p.home in
    let ends : length bytes ≡ p.end = x.ends in
    let long : next ≤ length bytes = omega (arith, ends, within) in
    λ rest l.
    let n = named one bytes (first_of s.first p.home) p.at next cmd rest further long spelled l in
    let m = n.0 in
    (m.command, m.behind, m.split, k, n.1 ∙ asks_font cmd k asks, h)
stops one s set p next (asked.Font k) cmd e inside x further within spelled asks h = absurd h
