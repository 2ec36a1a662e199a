-- Nops ahead: behind them all is as before, but for the steps.
use Rattle.std.proofs.Common.{◌≡◌, ◌≤◌, ◌<◌, ◌+◌, ◌-◌, ℕ, zero, suc, ℤ, List, [], ◌++◌, length, drop, slice_range, Option, refl, sym, ap, subst, ◌∙◌, arith}
use Rattle.dvi_ops.specs.Command.{Command}
use Rattle.dvi_ops.specs.Command.Command.{Nop}
use Rattle.dvi_ops.specs.Laws.{OneSpelling}
use Rattle.dvi_ops.specs.Placed.{Placed, Lexes}
use Rattle.dvi_ops.specs.Spelling.{Spell}
use Rattle.positions.specs.Mark.{Mark}
use Rattle.positions.specs.Place.{Place}
use Rattle.font_set.specs.Count.{weight, font_behind, count_by}
use Rattle.font_set.specs.Fonts.{FontSet}
use Rattle.font_set.specs.Frames.{FontAct}
use Rattle.font_set.specs.Programs.{Scope}
use Rattle.vf_expand.specs.Grid.{State}
use Rattle.vf_expand.specs.Marks.{step}
use Rattle.vf_expand.specs.Meaning.{Meaning}
use Rattle.vf_expand.specs.Nops.{AreNops}
use Rattle.vf_expand.specs.Shallow.{FindsRoom, AllFindRoom}
use Rattle.vf_expand.specs.Takes.{FollowsTurn}
use Rattle.vf_expand.specs.Turn.{turned}
use Rattle.vf_expand.proofs.Bytes.{Going, lexed_next, more_room}
use Rattle.vf_expand.proofs.Covering.{Ahead, ahead_next}

first_nop : (bytes : List ℕ) (at n : ℕ) → AreNops bytes at (at + suc n) → Spell Nop (slice_range bytes at (at + 1))
first_nop bytes at n s = s at (omega arith) (omega arith)

other_nops : (bytes : List ℕ) (at n : ℕ) → AreNops bytes at (at + suc n) → AreNops bytes (at + 1) (at + 1 + n)
other_nops bytes at n s = λ i a b. s i (omega (arith, a)) (omega (arith, b))

ahead_over : OneSpelling → (set : FontSet) (scope : Scope) (all : List FontAct) (font : Option ℕ) (bytes : List ℕ) (from at n : ℕ) → at + n ≤ length bytes → AreNops bytes at (at + n) → Ahead set scope all font (drop at bytes) (from + at) → Ahead set scope all font (drop (at + n) bytes) (from + (at + n))
ahead_over one set scope all font bytes from at zero b s h = subst (λ (k : ℕ). Ahead set scope all font (drop k bytes) (from + k)) (omega arith) h
ahead_over one set scope all font bytes from at (suc n) b s h =
    let x = ahead_next one set scope all font bytes from at (at + 1) Nop (omega arith) (omega (arith, b)) (first_nop bytes at n s) h in
    subst (λ (k : ℕ). Ahead set scope all font (drop k bytes) (from + k)) (omega arith)
    (ahead_over one set scope all font bytes from (at + 1) n (omega (arith, b)) (other_nops bytes at n s) x.left)

counted_over : OneSpelling → (w : Option ℕ → ℤ → ℕ) (named : ℤ → Option ℕ) (font : Option ℕ) (bytes : List ℕ) (from at n : ℕ) → at + n ≤ length bytes → AreNops bytes at (at + n) → (rest : List Placed) → Lexes (from + at) (drop at bytes) rest
    → (cs : List Placed) × Lexes (from + (at + n)) (drop (at + n) bytes) cs × (count_by w named font rest ≡ n + count_by w named font cs)
counted_over one w named font bytes from at zero b s rest l = (rest, subst (λ (k : ℕ). Lexes (from + k) (drop k bytes) rest) (omega arith) l, omega arith)
counted_over one w named font bytes from at (suc n) b s rest l =
    let x = lexed_next one bytes from at (at + 1) Nop rest (omega arith) (omega (arith, b)) (first_nop bytes at n s) l in
    let r = counted_over one w named font bytes from (at + 1) n (omega (arith, b)) (other_nops bytes at n s) x.1 x.5 in
    let c : count_by w named font rest ≡ 1 + count_by w named font x.1 = ap (count_by w named font) x.2 ∙ ap (λ (d : Command). weight w font d + count_by w named (font_behind named font d) x.1) x.3 in
    (r.0, subst (λ (k : ℕ). Lexes (from + k) (drop k bytes) r.0) (omega arith) r.1, omega (arith, c, r.2))

nop_turn : {C : Type 0} (takes : C → C → List Mark → Type 0) (c : C) → takes c c [] → (m : Meaning) (os : List Place) (s : State) → FollowsTurn takes c c os s (turned m Nop os s)
unfolding step
nop_turn takes c none m os s = (none, refl, refl)

nop_room : (inside : ℕ → Option ℕ → ℤ → Place → Type 0) (around : ℕ) (os : List Place) (s : State) → FindsRoom inside around Nop os s
nop_room inside around os s = (λ no. absurd cc, tt)

goes_over : {C : Type 0} (takes : C → C → List Mark → Type 0) → ((a b c : C) (xs ys : List Mark) → takes a b xs → takes b c ys → takes a c (xs ++ ys)) → OneSpelling → (m : Meaning) (s0 : State) (cs : List Placed) (bytes : List ℕ) (from at n : ℕ) (first now : C) (os : List Place) (s : State) → takes now now [] → at + n ≤ length bytes → AreNops bytes at (at + n)
    → (inside : ℕ → Option ℕ → ℤ → Place → Type 0) (around : ℕ) → (go : Going takes m s0 cs (drop at bytes) (from + at) first now os s) × AllFindRoom inside m s0 go.before around
    → (go : Going takes m s0 cs (drop (at + n) bytes) (from + (at + n)) first now os s) × AllFindRoom inside m s0 go.before around
goes_over takes chains one m s0 cs bytes from at zero first now os s none b ns inside around h =
    subst (λ (k : ℕ). (go : Going takes m s0 cs (drop k bytes) (from + k) first now os s) × AllFindRoom inside m s0 go.before around) (omega arith) h
goes_over takes chains one m s0 cs bytes from at (suc n) first now os s none b ns inside around h =
    let x = more_room takes chains one m s0 cs bytes from at (at + 1) Nop first now now os os s s (omega arith) (omega (arith, b)) (first_nop bytes at n ns) h.0 (nop_turn takes now none m os s) inside around h.1 (nop_room inside around os s) in
    subst (λ (k : ℕ). (go : Going takes m s0 cs (drop k bytes) (from + k) first now os s) × AllFindRoom inside m s0 go.before around) (omega arith)
    (goes_over takes chains one m s0 cs bytes from (at + 1) n first now os s none (omega (arith, b)) (other_nops bytes at n ns) inside around x)

-- ---- up to a place

up_to : (bytes : List ℕ) (at end : ℕ) → at + (end - at) ≡ end → AreNops bytes at end → AreNops bytes at (at + (end - at))
up_to bytes at end e ns = subst (λ (k : ℕ). AreNops bytes at k) (sym e) ns

pub ahead_behind : OneSpelling → (set : FontSet) (scope : Scope) (all : List FontAct) (font : Option ℕ) (bytes : List ℕ) (from at end : ℕ) → at < end → end ≤ length bytes → AreNops bytes at end → Ahead set scope all font (drop at bytes) (from + at) → Ahead set scope all font (drop end bytes) (from + end)
ahead_behind one set scope all font bytes from at end a b ns h =
    let e : at + (end - at) ≡ end = omega (arith, a) in
    subst (λ (k : ℕ). Ahead set scope all font (drop k bytes) (from + k)) e (ahead_over one set scope all font bytes from at (end - at) (omega (arith, b, e)) (up_to bytes at end e ns) h)

pub counted_behind : OneSpelling → (w : Option ℕ → ℤ → ℕ) (named : ℤ → Option ℕ) (font : Option ℕ) (bytes : List ℕ) (from at end : ℕ) → at < end → end ≤ length bytes → AreNops bytes at end → (rest : List Placed) → Lexes (from + at) (drop at bytes) rest
    → (cs : List Placed) × Lexes (from + end) (drop end bytes) cs × (count_by w named font rest + at ≡ end + count_by w named font cs)
counted_behind one w named font bytes from at end a b ns rest l =
    let e : at + (end - at) ≡ end = omega (arith, a) in
    let r = counted_over one w named font bytes from at (end - at) (omega (arith, b, e)) (up_to bytes at end e ns) rest l in
    (r.0, subst (λ (k : ℕ). Lexes (from + k) (drop k bytes) r.0) e r.1, omega (arith, e, r.2))

pub goes_behind : {C : Type 0} (takes : C → C → List Mark → Type 0) → ((a b c : C) (xs ys : List Mark) → takes a b xs → takes b c ys → takes a c (xs ++ ys)) → OneSpelling → (m : Meaning) (s0 : State) (cs : List Placed) (bytes : List ℕ) (from at end : ℕ) (first now : C) (os : List Place) (s : State) → takes now now [] → at < end → end ≤ length bytes → AreNops bytes at end
    → (inside : ℕ → Option ℕ → ℤ → Place → Type 0) (around : ℕ) → (go : Going takes m s0 cs (drop at bytes) (from + at) first now os s) × AllFindRoom inside m s0 go.before around
    → (go : Going takes m s0 cs (drop end bytes) (from + end) first now os s) × AllFindRoom inside m s0 go.before around
goes_behind takes chains one m s0 cs bytes from at end first now os s none a b ns inside around h =
    let e : at + (end - at) ≡ end = omega (arith, a) in
    subst (λ (k : ℕ). (go : Going takes m s0 cs (drop k bytes) (from + k) first now os s) × AllFindRoom inside m s0 go.before around) e
    (goes_over takes chains one m s0 cs bytes from at (end - at) first now os s none (omega (arith, b, e)) (up_to bytes at end e ns) inside around h)
