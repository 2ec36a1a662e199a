-- The operators on operands and numbers (PostScript Language Reference, 8.1: "Operand stack manipulation" and "Arithmetic"): what they take from the
-- top of the stack and what they leave there. What no rule here covers is none.
use Rattle.std.specs.Prelude.{ℕ, List, [], ◌∷◌, ◌++◌, Option, Some, None, if◌then◌else◌, ◌&&◌, nat_lt, nat_le, length, slice_get, option_and_then, option_map, take, drop}
use Rattle.ps_subset.specs.Fraction.{Fraction, natural_of}
use Rattle.ps_subset.specs.State.{Object, Number, Place, Machine, push}

-- a number on top
abbrev pub with_number : List Object → (Fraction → List Object → Option Machine) → Option Machine
with_number (Number x ∷ rest) go = go x rest
with_number _ go = None

-- two numbers on top, the lower one first
abbrev pub with_pair : List Object → (Fraction → Fraction → List Object → Option Machine) → Option Machine
with_pair operands go = with_number operands (λ y below. with_number below (λ x rest. go x y rest))

-- a count on top: a whole number from 0 to 65,535
abbrev pub with_count : List Object → (ℕ → List Object → Option Machine) → Option Machine
with_count (Number x ∷ rest) go = option_and_then (λ n. if nat_lt n 65536 then go n rest else None) (natural_of x)
with_count _ go = None

abbrev pub with_place : Option Place → (Place → Option Machine) → Option Machine
with_place (Some p) go = go p
with_place None go = None

-- Operands.
abbrev pub exch_effect : List Object → Machine → Option Machine
exch_effect (a ∷ b ∷ rest) m = Some (record m { operands = b ∷ a ∷ rest })
exch_effect _ m = None

abbrev pub dup_effect : List Object → Machine → Option Machine
dup_effect (a ∷ rest) m = push a m
dup_effect [] m = None

abbrev pub pop_effect : List Object → Machine → Option Machine
pop_effect (a ∷ rest) m = Some (record m { operands = rest })
pop_effect [] m = None

abbrev pub with_quotient : Option Fraction → List Object → Machine → Option Machine
with_quotient (Some q) rest m = Some (record m { operands = Number q ∷ rest })
with_quotient None rest m = None

-- Arrays and fonts.
-- the n-th operand from the top
abbrev pub index_effect : List Object → Machine → Option Machine
index_effect operands m =
    with_count operands (λ n rest. option_map (λ x. record m { operands = x ∷ rest }) (slice_get rest n))

-- the top j of n operands go below the others
abbrev pub rolled : ℕ → ℕ → List Object → List Object
rolled n j rest = drop j (take n rest) ++ (take j rest ++ drop n rest)

abbrev pub roll_effect : List Object → Machine → Option Machine
roll_effect operands m =
    with_count operands (λ j below. with_count below (λ n rest.
    if nat_le j n && nat_le n (length rest) then Some (record m { operands = rolled n j rest }) else None))
