-- Where a fault's sentence is true, the bytes are no document.
use Rattle.std.proofs.Common.{◌≡◌, ◌<◌, ◌+◌, ◌-◌, ◌%◌, ℕ, zero, suc, inl, inr, List, [], ◌∷◌, ◌++◌, length, take, drop, refl, sym, ap, subst, ◌∙◌, arith, slice_range, length-append}
use Rattle.std.specs.List.{All, Contains}
use Rattle.std.proofs.lemmas.List.{take_at, length-drop}
use Rattle.std.proofs.lemmas.List.Folds.{drop_split}
use Rattle.dvi_ops.specs.Command.{Command, Preamble}
use Rattle.dvi_ops.specs.Command.Command.{Pre, PostPost}
use Rattle.dvi_ops.specs.Spelling.{Spell, byte_at}
use Rattle.dvi_ops.specs.Laws.{OneSpelling}
use Rattle.dvi_ops.specs.View.{NoSpelling}
use Rattle.dvi_doc.specs.Document.{File, Document}
use Rattle.dvi_doc.specs.Grammar.{IsFile, IsDoc, NoDoc, IsNamed, DefinesTwice, SameUnits, IsSized}
use Rattle.dvi_doc.specs.Order.{SpelledTo, IsPre, at_start}
use Rattle.dvi_doc.specs.Faults.{InFile, SomeFont, FaultIn, NoneBut}
use Rattle.dvi_doc.specs.declared.fault.DocFault.{DocFault}
use Rattle.dvi_doc.specs.declared.fault.DocFault.TheVariants as fault
use Rattle.dvi_doc.proofs.Reached.{reach_start, goes_on, spells_on, fits_on}
use Rattle.dvi_doc.proofs.Trailers.{file_trailer, one_trailer, not_passed, end_there}
use Rattle.dvi_doc.proofs.OneFile.{same_document}

some_bytes : (c : Command) (front : List ℕ) → Spell c front → 0 < length front
some_bytes c [] s = absurd s
some_bytes c (op ∷ args) s = omega arith

-- what a list begins with is spelled in it
pub spelled_here : (bytes : List ℕ) (at : ℕ) (c : Command) (front rest : List ℕ) → drop at bytes ≡ front ++ rest → Spell c front → SpelledTo bytes at (at + length front) c
spelled_here bytes at c front rest e s =
    let some = some_bytes c front s in
    let less : at + length front - at ≡ length front = omega arith in
    let is : slice_range bytes at (at + length front) ≡ front = ap (λ (n : ℕ). take n (drop at bytes)) less ∙ ap (take (length front)) e ∙ take_at front rest (length front) refl in
    (omega arith, omega (arith, ap length e, length-append front rest, length-drop at bytes), subst (λ (bs : List ℕ). Spell c bs) (sym is) s)

-- what is spelled at a place is one command
pub other_spelled : OneSpelling → (bytes : List ℕ) (at end other : ℕ) (c d : Command) → SpelledTo bytes at end c → SpelledTo bytes at other d → c ≡ d
other_spelled one bytes at end other c d s t =
    (one (slice_range bytes at end) (slice_range bytes at other) c d (drop end bytes) (drop other bytes) s.2 t.2 (sym (drop_split bytes at end (omega (arith, s.0))) ∙ drop_split bytes at other (omega (arith, t.0)))).1

pub none_spelled : (bytes : List ℕ) (at end : ℕ) (c : Command) → NoSpelling bytes at → SpelledTo bytes at end c → ⊥
none_spelled bytes at end c n s = n c (slice_range bytes at end) (drop end bytes) (drop_split bytes at end (omega (arith, s.0))) s.2

-- pre and post_post don't begin at one place
pub pre_first : OneSpelling → (bytes : List ℕ) (ends start back : ℕ) (head : Preamble) → SpelledTo bytes 0 start (Pre head) → SpelledTo bytes ends (ends + 6) (PostPost back 2) → 0 < ends
pre_first one bytes zero start back head s t = let e : Pre head ≡ PostPost back 2 = other_spelled one bytes 0 start (0 + 6) (Pre head) (PostPost back 2) s t in absurd cc
pre_first one bytes (suc n) start back head s t = omega arith

pre_is : (c : Command) → IsPre c → (head : Preamble) × (c ≡ Pre head)
pre_is (Pre head) h = (head, refl)
pre_is _ h = absurd h

begins : OneSpelling → (bytes : List ℕ) (f : File) → IsFile bytes f → (head : Preamble) × (end : ℕ) × SpelledTo bytes 0 end (Pre head)
begins one bytes f h =
    let x = goes_on one bytes f 0 at_start h (reach_start bytes) in
    let p = pre_is x.0 x.5.0 in
    (p.0, 0 + length x.1, subst (λ (c : Command). SpelledTo bytes 0 (0 + length x.1) c) p.1 (spelled_here bytes 0 x.0 x.1 x.2 x.3 x.4))

pub member : {X : Type 0} (P : X → Type 0) (xs : List X) (x : X) → All P xs → Contains xs x → P x
member P xs x all has = subst P has.2 (all has.0 x has.1)

in_doc : OneSpelling → (bytes : List ℕ) (doc : Document) (P : Document → Type 0) → IsDoc bytes doc → InFile bytes P → P doc
in_doc one bytes doc P d h = subst P (same_document one bytes h.0 d.0 h.1 d.1 ∙ d.2) h.2

pub refute : OneSpelling → (bytes : List ℕ) (e : DocFault) → FaultIn bytes e → NoneBut (NoDoc bytes) e
refute one bytes fault.NoPreamble h = λ doc d. let b = begins one bytes d.0 d.1 in h b.0 b.1 b.2
refute one bytes (fault.BadId at) h = λ doc d.
    elim h [
      | inl x ↦ x.4 (fits_on one bytes d.0 0 at_start (Pre x.1) d.1 (reach_start bytes, x.2, x.3)).3
      | inr x ↦
          let t = file_trailer bytes d.0 d.1 in
          let same = one_trailer bytes x.0 d.0.ends x.2 t.0 in
          x.3 (ap (λ (n : ℕ). byte_at bytes n) x.1 ∙ ap (λ (n : ℕ). byte_at bytes (n + 5)) same ∙ t.1)
    ]
refute one bytes fault.NoTrailer h = λ doc d. h d.0.ends (file_trailer bytes d.0 d.1).0
refute one bytes (fault.BadPostPointer at) h = λ doc d. h.5 (fits_on one bytes d.0 at h.0 (PostPost h.1 h.2) d.1 h.3).2
refute one bytes (fault.BadBackPointer at) h = λ doc d. h.4 (fits_on one bytes d.0 at h.0 h.1 d.1 h.2).1
refute one bytes (fault.BadOrder at) h = λ doc d.
    elim h [
      | inl x ↦ x.3 (fits_on one bytes d.0 at x.0 x.1 d.1 x.2).0
      | inr y ↦ elim y [
        | inl x ↦
            let same = one_trailer bytes x.4 d.0.ends x.5 (file_trailer bytes d.0 d.1).0 in
            let here = end_there one bytes d.0 at x.3.1 x.1 x.2 x.0 d.1 x.3.0 x.3.2 in
            omega (arith, same, here, x.6)
        | inr x ↦
            let same = one_trailer bytes at d.0.ends x.0 (file_trailer bytes d.0 d.1).0 in
            not_passed one bytes d.0 x.1 x.4 x.2 x.3 d.1 x.5 x.6 (omega (arith, same, x.7)) (omega (arith, same, x.8))
      ]
    ]
refute one bytes (fault.Undefined at) h = λ doc d. spells_on one bytes d.0 at h.0 d.1 h.1 h.3
refute one bytes (fault.Short at) h = λ doc d. spells_on one bytes d.0 at h.0 d.1 h.1 h.3
refute one bytes (fault.FontTwice k) h = λ doc d. d.3.0.0 k (in_doc one bytes doc (λ x. DefinesTwice x.fonts k) d h)
refute one bytes (fault.FontDiffers k) h = λ doc d.
    let x = in_doc one bytes doc (λ y. SomeFont y.before k (λ z. Contains y.fonts z)) d h in
    x.3 (member (λ z. Contains doc.fonts z) doc.before x.0 d.3.1 x.1)
refute one bytes (fault.BadName k) h = λ doc d.
    let x = in_doc one bytes doc (λ y. SomeFont y.fonts k IsNamed) d h in
    x.3 (member IsNamed doc.fonts x.0 d.3.0.1 x.1)
refute one bytes (fault.BadSize k) h = λ doc d.
    let x = in_doc one bytes doc (λ y. SomeFont y.fonts k IsSized) d h in
    x.3 (member IsSized doc.fonts x.0 d.3.0.2 x.1)
refute one bytes (fault.PageCount found told) h = λ doc d.
    let x = in_doc one bytes doc (λ y. (found ≡ length y.pages % 65536) × (told ≡ y.tail.pages) × (found ≡ told → ⊥)) d h in
    x.2 (x.0 ∙ d.3.2 ∙ sym x.1)
refute one bytes fault.PostDiffers h = λ doc d. in_doc one bytes doc (λ y. SameUnits y.head y.tail → ⊥) d h d.3.3
refute one bytes fault.OutOfMemory h = tt
