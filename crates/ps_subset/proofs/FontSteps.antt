-- One step of the machine: a lemma for each operator that fonts, glyphs and strings run.
use Rattle.std.proofs.Common.{◌≡◌, refl, ap, ◌∙◌, ℕ, zero, suc, ◌+◌, ◌*◌, ◌<◌, ◌≤◌, List, [], ◌∷◌, ◌++◌, length, Some, None, arith, true}
use Rattle.std.specs.Prelude.{codes, nat_le, nat_eq, slice_get, slice_set, reverse, replicate}
use Rattle.std.proofs.lemmas.Bool.Decides.{nat_tests}
use Rattle.ps_subset.specs.Token as token
use Rattle.ps_subset.specs.Token.{Token, Body, Then, End}
use Rattle.ps_subset.specs.Fraction.{Fraction, whole, is_zero, natural_of}
use Rattle.ps_subset.specs.State.{Object, Number, Literal, Text, Procedure, Truth, Array, Dictionary, Mark, Null, Entry, Elements, Entries, Machine, FontMade, Character, Outcome, quiet, go_on, entry, entries_of, elements_of}
use Rattle.ps_subset.specs.Operators.{Dict, Begin, OpenArray, CloseArray, NewArray, Put, Get, Aload, Pop, Index, Roll, Definefont, Setfont, Setcachedevice, Imagemask}
use Rattle.ps_subset.specs.StoreEffects.{holds_key, down_to_mark, put_events}
use Rattle.ps_subset.specs.StackEffects.{rolled}
use Rattle.ps_subset.specs.FontEffects.{with_font}
use Rattle.ps_subset.specs.MaskEffects.{row_bytes, rows_mark, mask_events, mask_at, mask_by, painted, imagemask_effect}
use Rattle.ps_subset.specs.Run.{meet, run_beside, run_deeper}
use Rattle.ps_subset.specs.Leads.{Meets, Goes}
use Rattle.ps_subset.specs.Conditions.{HasProlog, TakesKey, put_entry, number}
use Rattle.ps_subset.proofs.Equality.{objects_themselves, same_number}
use Rattle.ps_subset.proofs.Steps.{◌▸◌, done, nat_lt_yes, pushed_is, operator_goes}

pub nat_le_yes : (n k : ℕ) → n ≤ k → nat_le n k ≡ true
nat_le_yes n k h = grind (arith, nat_tests)

pub text_goes : {levels nest : ℕ} {bytes : List ℕ} {m : Machine} → length m.operands < 500 → Meets levels nest (token.Text bytes) m (record m { operands = Text bytes ∷ m.operands }) []
unfolding meet
text_goes {bytes = bytes} {m} h = record { by = ap quiet (pushed_is (Text bytes) m h) }

module _ {levels nest matrix : ℕ} {m : Machine} (k : HasProlog matrix m.store m.dictionaries) where
  pub pop_goes : {x : Object} {rest : List Object} → m.operands ≡ x ∷ rest → Meets levels nest (token.Name (codes "pop")) m (record m { operands = rest }) []
  pop_goes h = operator_goes Pop (k.operators_stand (codes "pop") Pop refl) (rw h)

  pub index_goes : (n : ℕ) {x : Object} {rest : List Object} → n < 65536 → m.operands ≡ number n ∷ rest → slice_get rest n ≡ Some x → Meets levels nest (token.Name (codes "index")) m (record m { operands = x ∷ rest }) []
  unfolding natural_of whole
  index_goes n few h e = operator_goes Index (k.operators_stand (codes "index") Index refl) (rw (h, nat_lt_yes n 65536 few, e))

  pub roll_goes : (n j : ℕ) {rest : List Object} → n < 65536 → j ≤ n → m.operands ≡ number j ∷ number n ∷ rest → n ≤ length rest → Meets levels nest (token.Name (codes "roll")) m (record m { operands = rolled n j rest }) []
  unfolding natural_of whole
  roll_goes n j {rest} few less h long =
      operator_goes Roll (k.operators_stand (codes "roll") Roll refl) (rw (h, nat_lt_yes j 65536 (omega arith), nat_lt_yes n 65536 few, nat_le_yes j n less, nat_le_yes n (length rest) long))

  pub dict_goes : (n : ℕ) {rest : List Object} → n < 65536 → m.operands ≡ number n ∷ rest → Meets levels nest (token.Name (codes "dict")) m (record m { operands = Dictionary (length m.store) ∷ rest; store = m.store ++ Entries n [] ∷ [] }) []
  unfolding natural_of whole
  dict_goes n few h = operator_goes Dict (k.operators_stand (codes "dict") Dict refl) (rw (h, nat_lt_yes n 65536 few))

  pub array_goes : (n : ℕ) {rest : List Object} → n < 65536 → m.operands ≡ number n ∷ rest → Meets levels nest (token.Name (codes "array")) m (record m { operands = Array (length m.store) ∷ rest; store = m.store ++ Elements (replicate n Null) ∷ [] }) []
  unfolding natural_of whole
  array_goes n few h = operator_goes NewArray (k.operators_stand (codes "array") NewArray refl) (rw (h, nat_lt_yes n 65536 few))

  pub begin_goes : {d : ℕ} {rest : List Object} → m.operands ≡ Dictionary d ∷ rest → length m.dictionaries < 19 → Meets levels nest (token.Name (codes "begin")) m (record m { operands = rest; dictionaries = d ∷ m.dictionaries }) []
  begin_goes h room = operator_goes Begin (k.operators_stand (codes "begin") Begin refl) (rw (h, nat_lt_yes (length m.dictionaries) 19 room))

  pub open_goes : length m.operands < 500 → Meets levels nest (token.Name (codes "[")) m (record m { operands = Mark ∷ m.operands }) []
  open_goes room = operator_goes OpenArray (k.operators_stand (codes "[") OpenArray refl) (ap quiet (pushed_is Mark m room))

  pub close_goes : {xs rest : List Object} → down_to_mark m.operands [] ≡ Some (xs, rest) → Meets levels nest (token.Name (codes "]")) m (record m { operands = Array (length m.store) ∷ rest; store = m.store ++ Elements xs ∷ [] }) []
  close_goes h = operator_goes CloseArray (k.operators_stand (codes "]") CloseArray refl) (rw h)

  pub put_goes : (i : ℕ) {a : ℕ} {x : Object} {xs rest : List Object} → m.operands ≡ x ∷ number i ∷ Array a ∷ rest → slice_get m.store a ≡ Some (Elements xs) → i < length xs → Meets levels nest (token.Name (codes "put")) m (record m { operands = rest; store = slice_set m.store a (Elements (slice_set xs i x)) }) (put_events x i)
  unfolding natural_of whole
  put_goes i {xs = xs} h e less = operator_goes Put (k.operators_stand (codes "put") Put refl) (rw (h, e, nat_lt_yes i (length xs) less) refl)

  pub get_entry_goes : {key : List ℕ} {d : ℕ} {rest : List Object} {x : Object} → m.operands ≡ Literal key ∷ Dictionary d ∷ rest → entry key (entries_of (slice_get m.store d)) ≡ Some x → Meets levels nest (token.Name (codes "get")) m (record m { operands = x ∷ rest }) []
  get_entry_goes h e = operator_goes Get (k.operators_stand (codes "get") Get refl) (rw (h, e))

  pub get_element_goes : (i : ℕ) {a : ℕ} {rest : List Object} {x : Object} → m.operands ≡ number i ∷ Array a ∷ rest → slice_get (elements_of (slice_get m.store a)) i ≡ Some x → Meets levels nest (token.Name (codes "get")) m (record m { operands = x ∷ rest }) []
  unfolding natural_of whole
  get_element_goes i h e = operator_goes Get (k.operators_stand (codes "get") Get refl) (rw (h, e))

  pub aload_goes : {a : ℕ} {rest xs : List Object} → m.operands ≡ Array a ∷ rest → slice_get m.store a ≡ Some (Elements xs) → length xs + length rest + 1 ≤ 500 → Meets levels nest (token.Name (codes "aload")) m (record m { operands = Array a ∷ (reverse xs ++ rest) }) []
  aload_goes {rest = rest} {xs} h e room = operator_goes Aload (k.operators_stand (codes "aload") Aload refl) (rw (h, e, nat_le_yes (length xs + length rest + 1) 500 room))

  pub definefont_goes : {d room : ℕ} {es : List Entry} {key : List ℕ} {rest : List Object} → m.operands ≡ Dictionary d ∷ Literal key ∷ rest → slice_get m.store d ≡ Some (Entries room es) → TakesKey (codes "FID") room es → Meets levels nest (token.Name (codes "definefont")) m (record m { operands = Dictionary d ∷ rest; store = put_entry m.store d room es (codes "FID") (Literal key); fonts = with_font key d m.fonts }) (FontMade key ∷ [])
  definefont_goes h e fits = operator_goes Definefont (k.operators_stand (codes "definefont") Definefont refl) (rw (h, e, fits) refl)

  pub setfont_goes : {d : ℕ} {rest : List Object} → m.operands ≡ Dictionary d ∷ rest → holds_key (entry (codes "FID") (entries_of (slice_get m.store d))) ≡ true → Meets levels nest (token.Name (codes "setfont")) m (record m { operands = rest; graphics = record m.graphics { font = Some d } }) []
  setfont_goes h e = operator_goes Setfont (k.operators_stand (codes "setfont") Setfont refl) (rw (h, e))

  pub setcachedevice_goes : {wx wy llx lly urx ury : Fraction} {rest : List Object} {who : Character} → m.operands ≡ Number ury ∷ Number urx ∷ Number lly ∷ Number llx ∷ Number wy ∷ Number wx ∷ rest → is_zero wy ≡ true → m.showing ≡ Some who → m.width ≡ None → Meets levels nest (token.Name (codes "setcachedevice")) m (record m { operands = rest; width = Some wx }) []
  setcachedevice_goes h z now fresh = operator_goes Setcachedevice (k.operators_stand (codes "setcachedevice") Setcachedevice refl) (rw (h, z, now, fresh))

-- imagemask with a procedure that pushes its rows
mask_by_is : (beside : Body → Machine → Outcome) (procedure : Body) (tx ty : Fraction) (w h : ℕ) (rest : List Object) (m : Machine) → 0 < w → 0 < h → h * row_bytes w ≤ 16777216 →
    mask_by beside procedure (Some (tx, ty)) (Some w) (Some h) rest m ≡ go_on (beside procedure (record m { operands = rest })) (λ n. painted n.operands rest tx ty w h n)
mask_by_is beside procedure tx ty zero h rest m hw hh small = absurd (omega arith)
mask_by_is beside procedure tx ty (suc w) zero rest m hw hh small = absurd (omega arith)
mask_by_is beside procedure tx ty (suc w) (suc h) rest m hw hh small = rw (nat_le_yes (suc h * row_bytes (suc w)) 16777216 small) refl

pub mask_goes : {levels nest matrix : ℕ} {m : Machine} (w h : ℕ) {a : ℕ} {tx ty : Fraction} {rows : List ℕ} {rest : List Object} (k : HasProlog matrix m.store m.dictionaries) → m.operands ≡ Procedure (Then (token.Text rows) End) ∷ Array a ∷ Truth ∷ number h ∷ number w ∷ rest → slice_get m.store a ≡ Some (Elements (number 1 ∷ number 0 ∷ number 0 ∷ number 1 ∷ Number tx ∷ Number ty ∷ [])) → 0 < w → 0 < h → length rows ≡ h * row_bytes w → length rows ≤ 16777216 → length rest < 500 →
    Meets levels (suc nest) (token.Name (codes "imagemask")) m (record m { operands = rest }) (mask_events (rows_mark w h rows) (mask_at m.showing m.graphics.frame tx ty w h rows))
unfolding run_beside natural_of whole
mask_goes {levels} {nest} {matrix} {m} w h {a} {tx} {ty} {rows} {rest} k o e hw hh exact fits room =
    let ran : Goes levels nest (token.Text rows ∷ []) (record m { operands = rest }) (record m { operands = Text rows ∷ rest }) [] = text_goes room ▸ done in
    let small : h * row_bytes w ≤ 16777216 = omega (arith, exact, fits) in
    let equal : nat_eq (length rows) (h * row_bytes w) ≡ true = ap (λ n. nat_eq n (h * row_bytes w)) exact ∙ same_number (h * row_bytes w) in
    let beside = run_beside (run_deeper levels) (suc nest) in
    operator_goes Imagemask (k.operators_stand (codes "imagemask") Imagemask refl) (ap (λ q. imagemask_effect beside q m) o ∙ rw e (mask_by_is beside (Then (token.Text rows) End) tx ty w h rest m hw hh small ∙ rw (ran.by, equal, objects_themselves rest) refl))
