-- Why a walk stops doesn't depend on what a canvas may answer.
use Rattle.std.proofs.Common.{◌≡◌, ◌+◌, ◌⊎◌, ℕ, zero, suc, ℤ, List, length, Option, Some, inl, inr, subst}
use Rattle.dv_base.specs.declared.font_id.Spot.{Spot}
use Rattle.dv_base.specs.declared.font_id.Spot.TheVariants as spot
use Rattle.positions.specs.Place.{Place, origin}
use Rattle.positions.specs.declared.canvas.NoFault.{NoFault}
use Rattle.dvi_ops.specs.Command.{Command, Definition}
use Rattle.dvi_ops.specs.Command.Command.{Put, Set}
use Rattle.dvi_ops.specs.Placed.{Placed}
use Rattle.dvi_doc.specs.Document.{PageOf}
use Rattle.font_set.specs.Fonts.{FontSet}
use Rattle.font_set.specs.Programs.{page_program, page_scope}
use Rattle.vf_expand.specs.Causes.{IsCauseBy, IsCharCause, IsFree, IsLeft, IsMany, IsNested, IsOwnCause, inside}
use Rattle.vf_expand.specs.Grid.{Grid, State}
use Rattle.vf_expand.specs.Meaning.{Meaning}
use Rattle.vf_expand.specs.Page.{IsPageCause}
use Rattle.vf_expand.specs.Pages.{inner, meaning, start_in}
use Rattle.vf_expand.specs.declared.fault.WalkFault.{WalkFault}
use Rattle.vf_expand.specs.declared.fault.WalkFault.TheVariants as walk
use Rattle.dv_top.specs.Checking.{alone}

-- what is said of the one fault is said of the other
record Follows {E F : Type 0} (e : WalkFault E) (f : WalkFault F) : Type 0 where
  own : (m : Meaning) (sp : Spot) (around : ℕ) (c : Command) (os : List Place) (s : State) → IsOwnCause m sp around c os s e → IsOwnCause m sp around c os s f
  left : (m : Meaning) (first : State) (cs : List Placed) (end : Spot) → IsLeft m first cs end e → IsLeft m first cs end f
  nested : (set : FontSet) (font : Option ℕ) (z : ℤ) → IsNested set font z e → IsNested set font z f
  free : IsFree e → IsFree f
  many : (n : ℕ) → IsMany n e → IsMany n f

module _ {E F : Type 0} where
  under : (x : Spot) → Follows {E = E} {F = F} (walk.StackUnder x) (walk.StackUnder x)
  under x = record { own = λ m sp around c os s h. h; left = λ m first cs end h. h; nested = λ set font z h. h; free = λ h. h; many = λ n h. h }

  kept_open : (x : Spot) → Follows {E = E} {F = F} (walk.StackLeft x) (walk.StackLeft x)
  kept_open x = record { own = λ m sp around c os s h. h; left = λ m first cs end h. h; nested = λ set font z h. h; free = λ h. h; many = λ n h. h }

  deep : (x : Spot) → Follows {E = E} {F = F} (walk.StackDeep x) (walk.StackDeep x)
  deep x = record { own = λ m sp around c os s h. h; left = λ m first cs end h. h; nested = λ set font z h. h; free = λ h. h; many = λ n h. h }

  nest : (id code : ℕ) → Follows {E = E} {F = F} (walk.NestDeep id code) (walk.NestDeep id code)
  nest id code = record { own = λ m sp around c os s h. h; left = λ m first cs end h. h; nested = λ set font z h. h; free = λ h. h; many = λ n h. h }

  steps : Follows {E = E} {F = F} walk.TooManySteps walk.TooManySteps
  steps = record { own = λ m sp around c os s h. h; left = λ m first cs end h. h; nested = λ set font z h. h; free = λ h. h; many = λ n h. h }

  over : (x : Spot) → Follows {E = E} {F = F} (walk.Overflow x) (walk.Overflow x)
  over x = record { own = λ m sp around c os s h. h; left = λ m first cs end h. h; nested = λ set font z h. h; free = λ h. h; many = λ n h. h }

follows : {E : Type 0} (a : WalkFault E) (f : WalkFault NoFault) → alone a ≡ Some f → Follows a f
follows (walk.StackUnder x) f e = let same : walk.StackUnder x ≡ f = cc in subst (Follows (walk.StackUnder x)) same (under x)
follows (walk.StackLeft x) f e = let same : walk.StackLeft x ≡ f = cc in subst (Follows (walk.StackLeft x)) same (kept_open x)
follows (walk.StackDeep x) f e = let same : walk.StackDeep x ≡ f = cc in subst (Follows (walk.StackDeep x)) same (deep x)
follows (walk.NestDeep id code) f e = let same : walk.NestDeep id code ≡ f = cc in subst (Follows (walk.NestDeep id code)) same (nest id code)
follows walk.TooManySteps f e = let same : walk.TooManySteps ≡ f = cc in subst (Follows walk.TooManySteps) same steps
follows (walk.Overflow x) f e = let same : walk.Overflow x ≡ f = cc in subst (Follows (walk.Overflow x)) same (over x)
follows (walk.Canvas x) f e = absurd cc

turn : {A B C D : Type 0} → (A → C) → (B → D) → A ⊎ B → C ⊎ D
turn f g (inl a) = inl (f a)
turn f g (inr b) = inr (g b)

module _ {E F : Type 0} (e : WalkFault E) (f : WalkFault F) (same : Follows e f) where
  char : (A : Option ℕ → ℤ → Place → WalkFault E → Type 0) (B : Option ℕ → ℤ → Place → WalkFault F → Type 0) → ((font : Option ℕ) (z : ℤ) (p : Place) → A font z p e → B font z p f) → (c : Command) (s : State)
      → IsCharCause A c s e → IsCharCause B c s f
  char A B step (Set z) s h = step s.font z s.place h
  char A B step (Put z) s h = step s.font z s.place h
  char A B step _ s h = absurd h

  frame : (A : ℕ → Option ℕ → ℤ → Place → WalkFault E → Type 0) (B : ℕ → Option ℕ → ℤ → Place → WalkFault F → Type 0) → ((around : ℕ) (font : Option ℕ) (z : ℤ) (p : Place) → A around font z p e → B around font z p f)
      → (m : Meaning) (first : State) (cs : List Placed) (at : ℕ → Spot) (end around : ℕ) → IsCauseBy A m first cs at end around e → IsCauseBy B m first cs at end around f
  frame A B step m first cs at end around =
      turn
      (λ h. (
        h.0,
        h.1,
        turn (same.own m (at h.0) around h.1.command h.1.pushes h.1.state) (char (A (around + length h.1.pushes)) (B (around + length h.1.pushes)) (step (around + length h.1.pushes)) h.1.command h.1.state) h.2,
      ))
      (same.left m first cs (at end))

  packet : (g : Grid) (set : FontSet) (n around : ℕ) (font : Option ℕ) (z : ℤ) (p : Place) → inside g set n around font z p e → inside g set n around font z p f
  unfolding inside
  packet g set zero around font z p = same.nested set font z
  packet g set (suc n) around font z p =
      turn same.free
      (λ h. record {
        id = h.id;
        code = h.code;
        program = h.program;
        bytes = h.bytes;
        same_font = h.same_font;
        same_code = h.same_code;
        packet = h.packet;
        runs = h.runs;
        stops =
            frame (inside g set n) (inside g set n) (λ a font z p. packet g set n a font z p) (meaning g set n h.program.scope) (start_in set h.program (inner p)) h.program.commands (λ at. spot.Packet h.id h.code at) (length h.bytes) around
            h.stops;
      })

  page : (g : Grid) (set : FontSet) (ds : List Definition) (p : PageOf) → IsPageCause g set ds p e → IsPageCause g set ds p f
  page g set ds p =
      frame (inside g set 16) (inside g set 16) (λ a font z q. packet g set 16 a font z q) (meaning g set 16 (page_scope ds)) (start_in set (page_program ds p.commands) origin) p.commands (λ at. spot.Page at) p.eop 0

-- what holds of a fault holds of it alone
pub alone_cause : {E : Type 0} (a : WalkFault E) (f : WalkFault NoFault) → alone a ≡ Some f → (g : Grid) (set : FontSet) (ds : List Definition) (p : PageOf) → IsPageCause g set ds p a → IsPageCause g set ds p f
alone_cause a f e g set ds p = page a f (follows a f e) g set ds p

pub alone_many : {E : Type 0} (a : WalkFault E) (f : WalkFault NoFault) → alone a ≡ Some f → (n : ℕ) → IsMany n a → IsMany n f
alone_many a f e n = (follows a f e).many n
