-- One message more behind those that are kept.
use Rattle.std.proofs.Common.{◌≡◌, ℕ, ◌+◌, Bool, true, false, arith, List, [], ◌∷◌, ◌++◌, length, take, drop, sym, ap, ◌∙◌, append_assoc, length-append, length-drop, nat_lt, Some, refl, ◌<◌, ◌-◌}
use Rattle.std.proofs.lemmas.List.{append-nil, take-append-le, drop-append-le}
use Rattle.std.proofs.Math.Seq.{take-append_seam}
use Rattle.dv_base.specs.Messages.{texts_of, lines_of, room_of}
use Rattle.dv_base.specs.Tray.{WhereTold, AddsMessage}
use Rattle.std.proofs.lemmas.Bool.{cond-false}
use Rattle.std.proofs.lemmas.Bool.Decides.{nat_tests}
use Rattle.dv_base.specs.MemTray.{messages_of, messages_after}

-- a text behind bytes, and a line end behind it
abbrev pub ended : List ℕ → List ℕ → List ℕ
ended bytes text = (bytes ++ text) ++ 10 ∷ []

pub room_of-append : (ns : List ℕ) (n : ℕ) → room_of (ns ++ n ∷ []) ≡ room_of ns + (n + 1)
room_of-append [] n = omega arith
room_of-append (m ∷ ns) n = omega (arith, room_of-append ns n)

pub lines_of-append : (xs : List (List ℕ)) (t : List ℕ) → lines_of (xs ++ t ∷ []) ≡ ended (lines_of xs) t
lines_of-append [] t = append-nil (t ++ 10 ∷ [])
lines_of-append (x ∷ xs) t =
    ap (λ (ys : List ℕ). x ++ 10 ∷ [] ++ ys) (lines_of-append xs t)
    ∙ ap (λ (ys : List ℕ). ys) (sym (append_assoc (x ++ 10 ∷ []) (lines_of xs ++ t) (10 ∷ [])))
    ∙ ap (λ (ys : List ℕ). ys ++ 10 ∷ []) (sym (append_assoc (x ++ 10 ∷ []) (lines_of xs) t))

pub texts_of-append : (ns bs t : List ℕ) → room_of ns ≡ length bs → texts_of (ns ++ length t ∷ []) (ended bs t) ≡ texts_of ns bs ++ t ∷ []
texts_of-append [] [] t e = ap (λ (x : List ℕ). x ∷ []) (take-append_seam t (10 ∷ []))
texts_of-append [] (b ∷ bs) t e = absurd (omega arith)
texts_of-append (n ∷ ns) bs t e =
    let first : take n (ended bs t) ≡ take n bs =
    take-append-le n (bs ++ t) (10 ∷ []) (omega (arith, length-append bs t)) ∙ take-append-le n bs t (omega arith) in
    let others : drop (n + 1) (ended bs t) ≡ ended (drop (n + 1) bs) t =
    drop-append-le (n + 1) (bs ++ t) (10 ∷ []) (omega (arith, length-append bs t))
    ∙ ap (λ (ys : List ℕ). ys ++ 10 ∷ []) (drop-append-le (n + 1) bs t (omega arith)) in
    ap (λ (x : List ℕ). x ∷ texts_of (ns ++ length t ∷ []) (drop (n + 1) (ended bs t))) first
    ∙ ap (λ (ys : List ℕ). take n bs ∷ texts_of (ns ++ length t ∷ []) ys) others
    ∙ ap (λ (xs : List (List ℕ)). take n bs ∷ xs) (texts_of-append ns (drop (n + 1) bs) t (omega (arith, length-drop (n + 1) bs)))

-- the bytes are the lines again
pub lines-ended : (ns bs t : List ℕ) → room_of ns ≡ length bs → lines_of (texts_of ns bs) ≡ bs
    → lines_of (texts_of (ns ++ length t ∷ []) (ended bs t)) ≡ ended bs t
lines-ended ns bs t room lines =
    ap lines_of (texts_of-append ns bs t room) ∙ lines_of-append (texts_of ns bs) t ∙ ap (λ (xs : List ℕ). ended xs t) lines

-- lengths and bytes as the code appends them
pub record Appended (ns bs t ns' bs' : List ℕ) : Type 0 where
  pub lengths : ns' ≡ ns ++ length t ∷ []
  pub bytes : bs' ≡ ended bs t

pub appended : (ns bs t ns' bs' bs'' : List ℕ) (n : ℕ) → n ≡ length t → ns' ≡ ns ++ n ∷ [] → bs'' ≡ bs ++ t → bs' ≡ bs'' ++ 10 ∷ [] → Appended ns bs t ns' bs'
appended ns bs t ns' bs' bs'' n e f g h =
    record { lengths = f ∙ ap (λ (m : ℕ). ns ++ m ∷ []) e; bytes = h ∙ ap (λ (xs : List ℕ). xs ++ 10 ∷ []) g }

pub lines_more : (ns bs t ns' bs' : List ℕ) → Appended ns bs t ns' bs' → room_of ns ≡ length bs → lines_of (texts_of ns bs) ≡ bs → lines_of (texts_of ns' bs') ≡ bs'
lines_more ns bs t ns' bs' h room lines = rw (h.lengths, h.bytes) (lines-ended ns bs t room lines)

pub room_more : (ns bs t ns' bs' : List ℕ) → Appended ns bs t ns' bs' → room_of ns ≡ length bs → room_of ns' ≡ length bs'
room_more ns bs t ns' bs' h room =
    omega (arith, ap room_of h.lengths, room_of-append ns (length t), ap length h.bytes, length-append (bs ++ t) (10 ∷ []), length-append bs t)

pub messages_more : (lost : Bool) (ns bs t ns' bs' : List ℕ) → Appended ns bs t ns' bs' → room_of ns ≡ length bs
    → WhereTold (AddsMessage t) (messages_of lost (texts_of ns bs)) (messages_of lost (texts_of ns' bs'))
messages_more true ns bs t ns' bs' h room = tt
messages_more false ns bs t ns' bs' h room = rw (h.lengths, h.bytes) (texts_of-append ns bs t room)

-- a message that fits is told
pub messages_fit : (lost : Bool) (ns bs t ns' bs' : List ℕ) (room : ℕ) → Appended ns bs t ns' bs' → room_of ns ≡ length bs → lines_of (texts_of ns bs) ≡ bs
    → length t < room - length bs → messages_of lost (texts_of ns' bs') ≡ messages_after room t (messages_of lost (texts_of ns bs))
messages_fit true ns bs t ns' bs' room h cut lines fits = refl
messages_fit false ns bs t ns' bs' room h cut lines fits =
    let size : length (lines_of (texts_of ns bs)) ≡ length bs = ap length lines in
    ap Some (messages_more false ns bs t ns' bs' h cut) ∙ sym (cond-false (nat_lt room (length (lines_of (texts_of ns bs)) + length t + 1)) _ _ (grind (arith, nat_tests)))
