-- The command that a definition's byte begins is a definition.
use Rattle.std.proofs.Common.{◌≡◌, ℕ, suc, ◌+◌, ◌-◌, ◌<◌, refl, sym, ◌∙◌, ap, subst, arith, List, ◌∷◌, length, take, drop, slice_index, nat_lt}
use Rattle.std.specs.Prelude.{slice_range}
use Rattle.std.proofs.lemmas.Bool.{cond-true, cond-false}
use Rattle.std.proofs.lemmas.Bool.Decides.{nat_tests}
use Rattle.dvi_ops.specs.Command.{Command, Definition}
use Rattle.dvi_ops.specs.Command.Command.{FntDef}
use Rattle.dvi_ops.specs.Spelling.{Spell, meaning, high, definition}
use Rattle.dvi_ops.specs.View.{view}
use Rattle.dvi_ops.specs.declared.cmd.Cmd.{Cmd}
use Rattle.dvi_ops.specs.declared.cmd.Cmd.TheVariants as cmd
use Rattle.dvi_ops.specs.declared.cmd.Def.{Def}
use Rattle.vf_packets.specs.File.{IsDefinitionByte}
use Rattle.vf_packets.proofs.Packeted.{ahead}

defines : (op : ℕ) (args : List ℕ) → IsDefinitionByte op → meaning op args ≡ FntDef (definition (op - 242) args)
unfolding meaning high
defines op args h =
    let low = h.0 in
    let top = h.1 in
    cond-false (nat_lt op 143) _ _ (grind (arith, nat_tests, low))
    ∙ cond-false (nat_lt op 171) _ _ (grind (arith, nat_tests, low))
    ∙ cond-false (nat_lt op 235) _ _ (grind (arith, nat_tests, low))
    ∙ cond-false (nat_lt op 239) _ _ (grind (arith, nat_tests, low))
    ∙ cond-false (nat_lt op 243) _ _ (grind (arith, nat_tests, low))
    ∙ cond-true (nat_lt op 247) _ _ (grind (arith, nat_tests, top))

-- the first byte of a part
pub first_of : (bytes : List ℕ) (at next : ℕ) → at < next → at < length bytes → slice_range bytes at next ≡ slice_index bytes at ∷ take (next - at - 1) (drop (at + 1) bytes)
first_of bytes at next h l =
    let n : next - at ≡ suc (next - at - 1) = omega (arith, h) in
    ap (take (next - at)) (ahead bytes at l) ∙ ap (λ k. take k (slice_index bytes at ∷ drop (at + 1) bytes)) n

kind : Command → ℕ
kind (FntDef d) = 1
kind _ = 0

is_def : (c : Cmd) (d : Definition) → view c ≡ FntDef d → (x : Def) × (c ≡ cmd.FntDef x)
unfolding kind
is_def (cmd.FntDef x) d e = (x, refl)
is_def c d e = absurd (omega (arith, ap kind e))

-- what is read where a definition's byte stands
pub only_definition : (bytes : List ℕ) (at next : ℕ) (c : Cmd) → at < next → at < length bytes → IsDefinitionByte (slice_index bytes at) → Spell (view c) (slice_range bytes at next) → (x : Def) × (c ≡ cmd.FntDef x)
only_definition bytes at next c h l b s =
    let args = take (next - at - 1) (drop (at + 1) bytes) in
    let t = subst (Spell (view c)) (first_of bytes at next h l) s in
    is_def c (definition (slice_index bytes at - 242) args) (sym t.2 ∙ defines (slice_index bytes at) args b)
