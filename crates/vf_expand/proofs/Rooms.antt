-- Pushes that find room.
use Rattle.std.proofs.Common.{◌≡◌, ◌<◌, ◌+◌, ◌-◌, ℕ, zero, suc, ℤ, pos, List, [], ◌∷◌, ◌++◌, length, Option, Some, None, refl, sym, ap, subst, ◌∙◌, ◌⊎◌, inl, inr, arith}
use Rattle.dvi_ops.specs.Command.{Command}
use Rattle.dvi_ops.specs.Command.Command.{Push, Pop, Set, Put, Fnt}
use Rattle.positions.specs.Place.{Place}
use Rattle.dvi_ops.specs.Placed.{Placed}
use Rattle.font_set.specs.Fonts.{FontSet}
use Rattle.font_set.specs.Programs.{Program, program_at}
use Rattle.vf_expand.specs.Commands.{IsPlain}
use Rattle.vf_expand.specs.Grid.{Grid, State}
use Rattle.vf_expand.specs.Meaning.{Meaning}
use Rattle.vf_expand.specs.Turn.{Standing, left_by}
use Rattle.vf_expand.specs.Pages.{inner}
use Rattle.vf_expand.specs.Causes.{Moment}
use Rattle.vf_expand.specs.Shallow.{FindsRoom, AllFindRoom, PacketFinds, IsShallow}

-- a command among others and one more behind them: it is the last, or it is among the others
among : (bs : List Placed) (d : Placed) (ds xs : List Placed) (c : Placed) → bs ++ d ∷ ds ≡ xs ++ c ∷ [] → ((bs ≡ xs) × (d ≡ c)) ⊎ ((es : List Placed) × (bs ++ d ∷ es ≡ xs))
among [] d ds [] c e = let same : d ≡ c = cc in inl (refl, same)
among [] d ds (x ∷ xs) c e = let same : d ≡ x = cc in inr (xs, ap (λ (y : Placed). y ∷ xs) same)
among (b ∷ bs) d ds [] c e = let none : bs ++ d ∷ ds ≡ [] = cc in absurd (nothing bs none)
  where
    nothing : (bs : List Placed) → bs ++ d ∷ ds ≡ [] → ⊥
    nothing [] k = cc
    nothing (b ∷ bs) k = cc
among (b ∷ bs) d ds (x ∷ xs) c e =
    let head : b ≡ x = cc in
    let tail : bs ++ d ∷ ds ≡ xs ++ c ∷ [] = cc in
    onwards (among bs d ds xs c tail) head
  where
    onwards : ((bs ≡ xs) × (d ≡ c)) ⊎ ((es : List Placed) × (bs ++ d ∷ es ≡ xs)) → b ≡ x → ((b ∷ bs ≡ x ∷ xs) × (d ≡ c)) ⊎ ((es : List Placed) × (b ∷ (bs ++ d ∷ es) ≡ x ∷ xs))
    onwards (inl h) k = let both : b ∷ bs ≡ x ∷ xs = cc in inl (both, h.1)
    onwards (inr h) k = let both : b ∷ (bs ++ d ∷ h.0) ≡ x ∷ xs = cc in inr (h.0, both)

same_standing : (a b : Standing) (o : Option Standing) → o ≡ Some a → o ≡ Some b → a ≡ b
same_standing a b None h k = absurd cc
same_standing a b (Some x) h k =
    let before : x ≡ a = cc in
    let behind : x ≡ b = cc in
    sym before ∙ behind

nothing : (bs : List Placed) (d : Placed) (ds : List Placed) → bs ++ d ∷ ds ≡ [] → ⊥
nothing [] d ds k = cc
nothing (b ∷ bs) d ds k = cc

pub room_nil : (inside : ℕ → Option ℕ → ℤ → Place → Type 0) (m : Meaning) (s0 : State) (around : ℕ) → AllFindRoom inside m s0 [] around
room_nil inside m s0 around = λ place o. absurd (nothing o.before (record { place = place; command = o.command }) o.behind o.whole)

pub room_next : (inside : ℕ → Option ℕ → ℤ → Place → Type 0) (m : Meaning) (s0 : State) (xs : List Placed) (c : Placed) (os : List Place) (s : State) (around : ℕ) → AllFindRoom inside m s0 xs around → left_by m s0 xs ≡ Some (record { pushes = os; state = s }) → FindsRoom inside around c.command os s → AllFindRoom inside m s0 (xs ++ c ∷ []) around
room_next inside m s0 xs c os s around h left few =
    λ place o. cases place o (among o.before (record { place = place; command = o.command }) o.behind xs c o.whole)
  where
    cases : (place : ℕ) (o : Moment m s0 (xs ++ c ∷ []) place) → ((o.before ≡ xs) × (record { place = place; command = o.command } ≡ c)) ⊎ ((es : List Placed) × (o.before ++ record { place = place; command = o.command } ∷ es ≡ xs)) → FindsRoom inside around o.command o.pushes o.state
    cases place o (inl k) =
        let here : Standing = record { pushes = os; state = s } in
        let there : Standing = record { pushes = o.pushes; state = o.state } in
        let same : here ≡ there = same_standing here there (left_by m s0 xs) left (ap (left_by m s0) (sym k.0) ∙ o.left) in
        let cmd : c.command ≡ o.command = ap (λ (d : Placed). d.command) (sym k.1) in
        subst (λ (a : Standing). FindsRoom inside around o.command a.pushes a.state) same (subst (λ (d : Command). FindsRoom inside around d os s) cmd few)
    cases place o (inr k) = h place (record { before = o.before; command = o.command; behind = k.0; pushes = o.pushes; state = o.state; whole = k.1; left = o.left })

-- ---- characters

no_program : (o : Option Program) (x : Program) → o ≡ None → o ≡ Some x → ⊥
no_program None x e k = cc
no_program (Some y) x e k = cc

same_id : (a b : ℕ) → Some a ≡ Some b → a ≡ b
same_id a b e = cc

same_code : (a b : ℕ) → pos a ≡ pos b → a ≡ b
same_code a b e = cc

same_program : (a b : Program) → Some a ≡ Some b → a ≡ b
same_program a b e = cc

at_same : (set : FontSet) (id code i c : ℕ) (x : Program) → Some id ≡ Some i → pos code ≡ pos c → program_at set i c ≡ Some x → program_at set id code ≡ Some x
at_same set id code i c x f k h = ap (λ (y : ℕ). program_at set y code) (same_id id i f) ∙ ap (λ (y : ℕ). program_at set i y) (same_code code c k) ∙ h

-- a character without a packet
pub room_real : (g : Grid) (set : FontSet) (n around id code : ℕ) (p : Place) → program_at set id code ≡ None → PacketFinds g set n around (Some id) (pos code) p
unfolding PacketFinds
room_real g set zero around id code p e = tt
room_real g set (suc n) around id code p e = λ i c x f k h. absurd (no_program (program_at set id code) x e (at_same set id code i c x f k h))

room_by : (g : Grid) (set : FontSet) (id code : ℕ) (p : Place) (n nest around : ℕ) (program : Program) → nest ≡ suc n → nest - 1 ≡ n → program_at set id code ≡ Some program → IsShallow g set (nest - 1) program (inner p) around → PacketFinds g set nest around (Some id) (pos code) p
unfolding PacketFinds
room_by g set id code p n nest around program e d k h =
    rw e
    (λ i c x f z q.
    subst (λ (y : Program). IsShallow g set n y (inner p) around) (same_program program x (sym k ∙ at_same set id code i c x f z q))
    (subst (λ (j : ℕ). IsShallow g set j program (inner p) around) d h))

-- a character whose packet finds room
pub room_packet : (g : Grid) (set : FontSet) (id code : ℕ) (p : Place) (nest around : ℕ) (program : Program) → 0 < nest → program_at set id code ≡ Some program → IsShallow g set (nest - 1) program (inner p) around → PacketFinds g set nest around (Some id) (pos code) p
room_packet g set id code p nest around program n k h = room_by g set id code p (nest - 1) nest around program (omega arith) refl k h

-- ---- commands

pub push_room : (inside : ℕ → Option ℕ → ℤ → Place → Type 0) (around : ℕ) (os : List Place) (s : State) → around + length os < 1000 → FindsRoom inside around Push os s
push_room inside around os s h = (λ e. h, tt)

pub pop_room : (inside : ℕ → Option ℕ → ℤ → Place → Type 0) (around : ℕ) (os : List Place) (s : State) → FindsRoom inside around Pop os s
pop_room inside around os s = (λ e. absurd cc, tt)

pub font_room : (inside : ℕ → Option ℕ → ℤ → Place → Type 0) (around : ℕ) (os : List Place) (s : State) (k : ℤ) → FindsRoom inside around (Fnt k) os s
font_room inside around os s k = (λ e. absurd cc, tt)

pub set_room : (inside : ℕ → Option ℕ → ℤ → Place → Type 0) (around : ℕ) (os : List Place) (s : State) (z : ℤ) → inside (around + length os) s.font z s.place → FindsRoom inside around (Set z) os s
set_room inside around os s z h = (λ e. absurd cc, h)

pub put_room : (inside : ℕ → Option ℕ → ℤ → Place → Type 0) (around : ℕ) (os : List Place) (s : State) (z : ℤ) → inside (around + length os) s.font z s.place → FindsRoom inside around (Put z) os s
put_room inside around os s z h = (λ e. absurd cc, h)

pub plain_room : (inside : ℕ → Option ℕ → ℤ → Place → Type 0) (around : ℕ) (c : Command) (os : List Place) (s : State) → IsPlain c → FindsRoom inside around c os s
plain_room inside around Push os s p = absurd p
plain_room inside around (Set z) os s p = absurd p
plain_room inside around (Put z) os s p = absurd p
plain_room inside around _ os s p = (λ e. absurd cc, tt)
