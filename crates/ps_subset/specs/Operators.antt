-- The operators, and what each does: its operands, its result and what else it changes (PostScript Language Reference, chapter 8, for the subset that
-- the texts use). What no rule covers is none.
use Rattle.std.specs.Prelude.{ℕ, suc, [], ◌∷◌, Option, Some, None, if◌then◌else◌, nat_lt, option_and_then, codes, replicate}
use Rattle.ps_subset.specs.Fraction.{plus, times, over, negative}
use Rattle.ps_subset.specs.Token.{Body}
use Rattle.ps_subset.specs.State.{Number, Array, Dictionary, Mark, Null, Elements, Entries, Machine, Shown, Outcome, failed, quiet, value_in, push, held_glyphs, in_order}
use Rattle.ps_subset.specs.StackEffects.{with_number, with_pair, with_count, with_place, exch_effect, dup_effect, pop_effect, with_quotient, index_effect, roll_effect}
use Rattle.ps_subset.specs.StoreEffects.{def_effect, make, begin_effect, end_effect, down_to_mark, close_effect, save_effect, restore_effect, put_effect, get_effect, aload_effect}
use Rattle.ps_subset.specs.GraphicsEffects.{gsave_effect, grestore_effect, point, moved, translated, with_frame, at_place, scale_effect, push_place, first_frame}
use Rattle.ps_subset.specs.MaskEffects.{count_of, imagemask_effect}
use Rattle.ps_subset.specs.FontEffects.{definefont_effect, setfont_effect, setcachedevice_effect, show_effect}

-- the operators
pub data Operator : Type 0 where
  Def : Operator
  Exch : Operator
  Dup : Operator
  Pop : Operator
  Index : Operator
  Roll : Operator
  Dict : Operator
  Begin : Operator
  End : Operator
  OpenArray : Operator
  CloseArray : Operator
  NewArray : Operator
  Put : Operator
  Get : Operator
  Aload : Operator
  Add : Operator
  Mul : Operator
  Div : Operator
  Neg : Operator
  SaveState : Operator
  Restore : Operator
  Gsave : Operator
  Grestore : Operator
  Translate : Operator
  Scale : Operator
  Moveto : Operator
  Rmoveto : Operator
  Currentpoint : Operator
  Definefont : Operator
  Setfont : Operator
  Show : Operator
  Setcachedevice : Operator
  Imagemask : Operator
  Showpage : Operator

-- showpage takes the copies from #copies, a whole number from 1 to 65,535
abbrev pub show_page : Option ℕ → Machine → Outcome
show_page (Some (suc n)) m =
    if nat_lt (suc n) 65536 then (Some (record m { graphics = record m.graphics { frame = first_frame; place = None } }), Shown (suc n) (in_order (held_glyphs m.fonts m.store)) ∷ []) else failed
show_page _ m = failed

-- What an operator does, where `beside` runs a procedure at the level at which the operator itself runs, and `deeper` one level deeper.
abbrev pub effect : (Body → Machine → Outcome) → (Body → Machine → Outcome) → Operator → Machine → Outcome
effect deeper beside Def m = quiet (def_effect m.operands m)
effect deeper beside Exch m = quiet (exch_effect m.operands m)
effect deeper beside Dup m = quiet (dup_effect m.operands m)
effect deeper beside Pop m = quiet (pop_effect m.operands m)
effect deeper beside Index m = quiet (index_effect m.operands m)
effect deeper beside Roll m = quiet (roll_effect m.operands m)
effect deeper beside Dict m = quiet (with_count m.operands (λ n rest. make (Entries n []) Dictionary rest m))
effect deeper beside Begin m = quiet (begin_effect m.operands m)
effect deeper beside End m = quiet (end_effect m.dictionaries m)
effect deeper beside OpenArray m = quiet (push Mark m)
effect deeper beside CloseArray m = quiet (close_effect (down_to_mark m.operands []) m)
effect deeper beside NewArray m = quiet (with_count m.operands (λ n rest. make (Elements (replicate n Null)) Array rest m))
effect deeper beside Put m = put_effect m.operands m
effect deeper beside Get m = quiet (get_effect m.operands m)
effect deeper beside Aload m = quiet (aload_effect m.operands m)
effect deeper beside Add m = quiet (with_pair m.operands (λ x y rest. Some (record m { operands = Number (plus x y) ∷ rest })))
effect deeper beside Mul m = quiet (with_pair m.operands (λ x y rest. Some (record m { operands = Number (times x y) ∷ rest })))
effect deeper beside Div m = quiet (with_pair m.operands (λ x y rest. with_quotient (over x y) rest m))
effect deeper beside Neg m = quiet (with_number m.operands (λ x rest. Some (record m { operands = Number (negative x) ∷ rest })))
effect deeper beside SaveState m = quiet (save_effect m)
effect deeper beside Restore m = quiet (restore_effect m.operands m)
effect deeper beside Gsave m = quiet (gsave_effect m)
effect deeper beside Grestore m = quiet (grestore_effect m.pushed m)
effect deeper beside Translate m = quiet (with_pair m.operands (λ x y rest. Some (with_frame (translated m.graphics.frame x y) rest m)))
effect deeper beside Scale m = quiet (with_pair m.operands (λ x y rest. scale_effect x y rest m))
effect deeper beside Moveto m = quiet (with_pair m.operands (λ x y rest. Some (at_place (point m.graphics.frame x y) rest m)))
effect deeper beside Rmoveto m =
    quiet (with_pair m.operands (λ x y rest. with_place m.graphics.place (λ p. Some (at_place (moved m.graphics.frame x y p) rest m))))
effect deeper beside Currentpoint m = quiet (with_place m.graphics.place (push_place m))
effect deeper beside Definefont m = definefont_effect m.operands m
effect deeper beside Setfont m = quiet (setfont_effect m.operands m)
effect deeper beside Show m = show_effect deeper m.operands m
effect deeper beside Setcachedevice m = quiet (setcachedevice_effect m.operands m)
effect deeper beside Imagemask m = imagemask_effect beside m.operands m
effect deeper beside Showpage m = show_page (option_and_then count_of (value_in m.store m.dictionaries (codes "#copies"))) m
