-- Files that are read one after another.
use Rattle.std.proofs.Common.{◌≡◌, ◌<◌, ◌≤◌, ◌+◌, ℕ, List, [], ◌∷◌, ◌++◌, Option, Some, None, Result, Ok, Err, OnOk, IfErr, length, get_or, map, take, arith, ap, ◌∙◌, subst, sym, inl, inr}
use Rattle.std.proofs.lemmas.List.{get_or-map, length-map, length-take, take_all}
use Rattle.std.proofs.lemmas.List.Elements.{Contains-get_or}
use Rattle.dv_base.specs.FileName.{text_of}
use Rattle.dv_base.specs.declared.name.FileName.{FileName}
use Rattle.std.specs.List.{Contains}
use Rattle.dv_base.specs.Causes.{Rose}
use Rattle.dv_base.specs.Shelf.{Contents, IsLong, Keeps, Told, WhereHeld}
use Rattle.dv_top.specs.Headers.{HeldEach, IsHeld, NotHeld}
use Rattle.dv_top.specs.Reading.{NotRead, Unread, UnreadHolds}
use Rattle.dv_top.specs.declared.outcome.Outcome.{Outcome}

pub held_more : (told : Told) (ns bs : List (List ℕ)) (n b : List ℕ) → HeldEach told ns bs → IsHeld told n b → HeldEach told (ns ++ n ∷ []) (bs ++ b ∷ [])
held_more told [] [] n b h one = (one, tt)
held_more told [] (c ∷ cs) n b h one = absurd h
held_more told (m ∷ ms) [] n b h one = absurd h
held_more told (m ∷ ms) (c ∷ cs) n b h one = (h.0, held_more told ms cs n b h.1 one)

-- what is held now was held before
pub held_before : (a b : Told) (name bytes : List ℕ) → Keeps a b → (length bytes ≤ 4194304) × WhereHeld b.held (λ held. held name ≡ Some bytes) → IsHeld a name bytes
held_before a b name bytes keeps h = (h.0, subst (λ (o : Option Contents). WhereHeld o (λ held. held name ≡ Some bytes)) keeps.held_same h.1)

-- why a file was not read, told from earlier on
pub unread_before : (name : List ℕ) (limit : ℕ) (a b c : Told) → Keeps a b → (why : Unread) → UnreadHolds name limit b c why → UnreadHolds name limit a c why
unread_before name limit a b c keeps Unread.Absent h =
    let later = keeps.absents_later in
    (omega (arith, later, h.0), subst (λ (o : Option Contents). WhereHeld o (λ held. held name ≡ None)) keeps.held_same h.1)
unread_before name limit a b c keeps Unread.Long h =
    let later = keeps.overs_later in
    (omega (arith, later, h.0), subst (λ (o : Option Contents). WhereHeld o (λ held. IsLong limit (held name))) keeps.held_same h.1)
unread_before name limit a b c keeps Unread.Failed h = let later = keeps.faults_later in omega (arith, later, h)

pub not_held : (names : List (List ℕ)) (name : List ℕ) (a b c : Told) (o : Outcome) → Contains names name → Keeps a b → NotRead name 4194304 b c o → NotHeld names a c o
not_held names name a b c o among keeps (inl e) = inl e
not_held names name a b c o among keeps (inr (why, tells, holds)) = inr (name, among, (why, tells, unread_before name 4194304 a b c keeps why holds))

-- the name at a place is one of the names
pub name_among : (names : List FileName) (i : ℕ) (d : FileName) → i < length names → Contains (map text_of names) (text_of (get_or names i d))
name_among names i d h =
    subst (Contains (map text_of names)) (get_or-map text_of names i d (text_of d) h)
    (Contains-get_or (map text_of names) i (text_of d) (omega (arith, h, length-map names text_of)))

-- ---- the names that notes keep: the first 65

pub few_kept : (all : List (List ℕ)) (names : List FileName) → map text_of names ≡ take 65 all → length names ≤ 64 → (length all ≤ 64) × (map text_of names ≡ all)
few_kept all names e h =
    let same : length (map text_of names) ≡ length (take 65 all) = ap length e in
    let few : length all ≤ 64 = omega (arith, h, same, length-map names text_of, length-take 65 all) in
    (few, e ∙ take_all 65 all (omega (arith, few)))

pub many_kept : (all : List (List ℕ)) (names : List FileName) → map text_of names ≡ take 65 all → 64 < length names → 64 < length all
many_kept all names e h =
    let same : length (map text_of names) ≡ length (take 65 all) = ap length e in
    omega (arith, h, same, length-map names text_of, length-take 65 all)

pub on_ok : {X E : Type 0} (r : Result X E) (P : Type 0) → P → OnOk r P
on_ok (Ok v) P h = h
on_ok (Err e) P h = tt

pub err_as : {X E : Type 0} (P Q : E → Type 0) (r : Result X E) → ((e : E) → P e → Q e) → IfErr r P → IfErr r Q
err_as P Q (Ok v) f h = tt
err_as P Q (Err e) f h = f e h

-- what each name holds now it held before
pub each_before : (a b : Told) (names files : List (List ℕ)) → Keeps a b → HeldEach b names files → HeldEach a names files
each_before a b [] [] keeps h = tt
each_before a b [] (f ∷ fs) keeps h = absurd h
each_before a b (n ∷ ns) [] keeps h = absurd h
each_before a b (n ∷ ns) (f ∷ fs) keeps h = (held_before a b n f keeps h.0, each_before a b ns fs keeps h.1)
