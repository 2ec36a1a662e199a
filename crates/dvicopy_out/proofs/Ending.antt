-- How a copy ends.
use Rattle.std.proofs.Common.{◌≡◌, ◌<◌, ◌≤◌, ◌+◌, ◌-◌, ◌%◌, ◌^◌, ℕ, zero, suc, List, [], ◌∷◌, ◌++◌, length, take, Option, Some, None, refl, sym, ap, ◌∙◌, subst, arith, length-append}
use Rattle.std.specs.Prelude.{min, replicate, Result, Ok, Err, OnOk, IfErr}
use Rattle.std.specs.List.{AllByRecursion}
use Rattle.std.proofs.lemmas.List.{length-replicate}
use Rattle.dv_base.specs.Tray.{Output, Seen, WhereTold, Appends, AppendsFront, Begins, KeepsNames, append_last}
use Rattle.dvicopy_out.specs.Copies.{Page, Work, body, file, filling, front_commands, pages_length}
use Rattle.dvicopy_out.specs.Numbered.{definitions}
use Rattle.dvicopy_out.specs.Spelled.{spelled}
use Rattle.dvi_doc.specs.View.{ReadDoc}
use Rattle.font_set.specs.Fonts.{FontSet}
use Rattle.vf_expand.specs.Grid.{Grid}
use Rattle.dvicopy_out.specs.Leaves.{Began, Copied, CopiedFront, CopyFails, OneCut, OneMore, Untouched, WriteFails}
use Rattle.dvicopy_out.specs.declared.fault.CopyFault.{CopyFault}
use Rattle.dvicopy_out.specs.declared.fault.CopyFault.TheVariants as fault
use Rattle.dvicopy_out.proofs.Paging.{HasTen, length_body}

append_new : (os : List Output) (name text : List ℕ) → append_last (os ++ record { name = name; bytes = [] } ∷ []) text ≡ os ++ record { name = name; bytes = text } ∷ []
append_new [] name text = refl
append_new (o ∷ []) name text = refl
append_new (o ∷ p ∷ os) name text = ap (λ (xs : List Output). o ∷ xs) (append_new (p ∷ os) name text)

told_new : (name text : List ℕ) (o p q : Option (List Output)) → WhereTold (Begins name) o p → WhereTold (Appends text) p q → WhereTold (OneMore name text) o q
told_new name text o p None f g = tt
told_new name text o None (Some q) f g = absurd g
told_new name text None (Some p) (Some q) f g = absurd f
told_new name text (Some o) (Some p) (Some q) f g = g ∙ ap (λ (xs : List Output). append_last xs text) f ∙ append_new o name text

told_cut : (name text : List ℕ) (o p q : Option (List Output)) → WhereTold (Begins name) o p → WhereTold (AppendsFront text) p q → WhereTold (OneCut name text) o q
told_cut name text o p None f g = tt
told_cut name text o None (Some q) f g = absurd g
told_cut name text None (Some p) (Some q) f g = absurd f
told_cut name text (Some o) (Some p) (Some q) f g = (g.0, g.1, g.2 ∙ ap (λ (xs : List Output). append_last xs (take g.0 text)) f ∙ append_new o name (take g.0 text))

began_then : (name : List ℕ) (x y z : Seen) → y.begun ≡ min (x.begun + 1) (2 ^ 64 - 1) → y.last ≡ Some name → y.messages ≡ x.messages → KeepsNames y z → Began name x z
began_then name x y z begun last messages keeps = record {
  begun = keeps.begun_same ∙ begun;
  last = keeps.last_same ∙ last;
  messages = keeps.messages_same ∙ messages;
}

pub copied_whole : (name text : List ℕ) (x y z : Seen) → WhereTold (Begins name) x.outputs y.outputs → y.begun ≡ min (x.begun + 1) (2 ^ 64 - 1) → y.last ≡ Some name → y.messages ≡ x.messages
    → WhereTold (Appends text) y.outputs z.outputs → KeepsNames y z → Copied name text x z
copied_whole name text x y z told begun last messages all keeps = record {
  began = began_then name x y z begun last messages keeps;
  whole = told_new name text x.outputs y.outputs z.outputs told all;
}

pub copied_front : (name text : List ℕ) (x y z : Seen) → WhereTold (Begins name) x.outputs y.outputs → y.begun ≡ min (x.begun + 1) (2 ^ 64 - 1) → y.last ≡ Some name → y.messages ≡ x.messages
    → WhereTold (AppendsFront text) y.outputs z.outputs → KeepsNames y z → CopiedFront name text x z
copied_front name text x y z told begun last messages front keeps = record {
  began = began_then name x y z begun last messages keeps;
  front = told_cut name text x.outputs y.outputs z.outputs told front;
}

pub untouched : (x : Seen) → Untouched x x
untouched x = record { outputs = refl; begun = refl; last = refl; messages = refl }

-- what is known whatever the answer
pub on_ok : {X E : Type 0} (r : Result X E) {P : Type 0} → P → OnOk r P
on_ok (Ok x) p = p
on_ok (Err e) p = tt

-- why a copy isn't written is why the document isn't copied
write_fails : (g : Grid) (set : FontSet) (r : ReadDoc) (ks name bytes : List ℕ) (x y : Seen) (e : CopyFault) → WriteFails name bytes x y e → CopyFails g set r ks name bytes x y e
write_fails g set r ks name bytes x y (fault.Walk e) h = absurd h
write_fails g set r ks name bytes x y fault.CopyTooLong h = h
write_fails g set r ks name bytes x y fault.WriteFault h = h
write_fails g set r ks name bytes x y fault.OutOfMemory h = h

pub copy_fails : {X : Type 0} (g : Grid) (set : FontSet) (r : ReadDoc) (ks name bytes : List ℕ) (x y : Seen) (e : Result X CopyFault) → IfErr e (WriteFails name bytes x y) → IfErr e (CopyFails g set r ks name bytes x y)
copy_fails g set r ks name bytes x y (Ok z) h = tt
copy_fails g set r ks name bytes x y (Err e) h = write_fails g set r ks name bytes x y e h

-- ---- how long it is

pub length_filling : (n : ℕ) → length (filling n) ≡ 7 - (n + 3) % 4
length_filling n = length-replicate (7 - (n + 3) % 4) 223

sum_long : (a b p n m : ℕ) → b ≡ min (0 + p) (2 ^ 64 - 1) → n ≡ a + b + 35 → m ≡ a + p + 35 → 2 ^ 31 - 1 < n + (7 - (n + 3) % 4) → 2 ^ 31 - 1 < m + (7 - (m + 3) % 4)
sum_long a b p n m counted short whole long = omega arith

sum_short : (a b p n m : ℕ) → b ≡ min (0 + p) (2 ^ 64 - 1) → n ≡ a + b + 35 → m ≡ a + p + 35 → n + (7 - (n + 3) % 4) ≤ 2 ^ 31 - 1 → m + (7 - (m + 3) % 4) < 2 ^ 31
sum_short a b p n m counted short whole few = omega arith

-- as it was measured, it is too long
pub is_long : (w : Work) (ps : List Page) (b : ℕ) → AllByRecursion HasTen ps → b ≡ min (0 + pages_length w.set ps) (2 ^ 64 - 1) → let n = (length (spelled (front_commands w)) + length (spelled (definitions w.set))) + b + 35 in 2 ^ 31 - 1 < n + length (filling n) → 2 ^ 31 - 1 < length (file w ps)
is_long w ps b ten measured long =
    let a : ℕ = length (spelled (front_commands w)) + length (spelled (definitions w.set)) in
    let n : ℕ = a + b + 35 in
    let m : ℕ = length (body w ps) in
    let long_n : 2 ^ 31 - 1 < n + (7 - (n + 3) % 4) = subst (λ (k : ℕ). 2 ^ 31 - 1 < n + k) (length_filling n) long in
    let long_m : 2 ^ 31 - 1 < m + (7 - (m + 3) % 4) = sum_long a b (pages_length w.set ps) n m measured refl (length_body w ps ten) long_n in
    subst (λ (k : ℕ). 2 ^ 31 - 1 < k) (ap (λ (k : ℕ). m + k) (sym (length_filling m)) ∙ sym (length-append (body w ps) (filling m))) long_m

-- as it was measured, it is not too long
pub is_short : (w : Work) (ps : List Page) (b : ℕ) → AllByRecursion HasTen ps → b ≡ min (0 + pages_length w.set ps) (2 ^ 64 - 1) → let n = (length (spelled (front_commands w)) + length (spelled (definitions w.set))) + b + 35 in n + length (filling n) ≤ 2 ^ 31 - 1 → length (file w ps) < 2 ^ 31
is_short w ps b ten measured few =
    let a : ℕ = length (spelled (front_commands w)) + length (spelled (definitions w.set)) in
    let n : ℕ = a + b + 35 in
    let m : ℕ = length (body w ps) in
    let few_n : n + (7 - (n + 3) % 4) ≤ 2 ^ 31 - 1 = subst (λ (k : ℕ). n + k ≤ 2 ^ 31 - 1) (length_filling n) few in
    let few_m : m + (7 - (m + 3) % 4) < 2 ^ 31 = sum_short a b (pages_length w.set ps) n m measured refl (length_body w ps ten) few_n in
    subst (λ (k : ℕ). k < 2 ^ 31) (ap (λ (k : ℕ). m + k) (sym (length_filling m)) ∙ sym (length-append (body w ps) (filling m))) few_m

take_fill : (x k n : ℕ) → k ≤ n → take k (replicate n x) ≡ replicate k x
take_fill x zero zero h = refl
take_fill x zero (suc n) h = refl
take_fill x (suc k) zero h = absurd (omega arith)
take_fill x (suc k) (suc n) h = ap (λ (bs : List ℕ). x ∷ bs) (take_fill x k n (omega arith))

-- as many bytes 223 as fill a file up
pub filled : (place at count : ℕ) → at ≡ place → count ≡ length (filling at) → take count (223 ∷ 223 ∷ 223 ∷ 223 ∷ 223 ∷ 223 ∷ 223 ∷ []) ≡ filling place
filled place at count e f =
    let few : length (filling at) ≤ 7 = omega (arith, length_filling at) in
    let fill : List ℕ = 223 ∷ 223 ∷ 223 ∷ 223 ∷ 223 ∷ 223 ∷ 223 ∷ [] in
    let byte : ℕ = 223 in
    ap (λ (n : ℕ). take n fill) f ∙ take_fill byte (length (filling at)) 7 few ∙ ap (λ (n : ℕ). replicate n byte) (length_filling at) ∙ ap filling e
