-- How long a comment is.
use Rattle.std.proofs.Common.{◌≡◌, ◌<◌, ℕ, inl, inr, List, ◌++◌, length, slice_index, ap, subst, ◌∙◌, arith}
use Rattle.std.proofs.lemmas.Bool.{cases_lt}
use Rattle.std.proofs.lemmas.List.{get_or_append_left, get_or_past}
use Rattle.dvi_ops.specs.Command.Command.{Pre}
use Rattle.dvi_ops.proofs.Roomy.{spelled_has_room}
use Rattle.dvi_doc.specs.Document.{Document}
use Rattle.dvi_doc.specs.Grammar.{IsDoc}

-- bytes at the front of others are bytes
front_bytes : (front rest bytes : List ℕ) → bytes ≡ front ++ rest → ((i : ℕ) → slice_index bytes i < 256) → (i : ℕ) → slice_index front i < 256
front_bytes front rest bytes e b i =
    elim (cases_lt i (length front)) [
      | inl h ↦
          let same : slice_index bytes i ≡ slice_index front i = ap (λ (xs : List ℕ). slice_index xs i) e ∙ get_or_append_left front rest 0 i h in
          subst (λ (x : ℕ). x < 256) same (b i)
      | inr h ↦ (let none : slice_index front i ≡ 0 = get_or_past front i 0 h in omega (arith, none))
    ]

-- the number before it is one byte
pub short_comment : (bytes : List ℕ) (doc : Document) → ((i : ℕ) → slice_index bytes i < 256) → IsDoc bytes doc → length doc.head.comment < 256
short_comment bytes doc b is =
    let f = is.0 in
    let whole = front_bytes is.1.4 is.1.5 bytes is.1.6 b in
    let first = is.1.9 in
    let bytes_of_pre = front_bytes first.1 first.2 is.1.4 first.3 whole in
    let room = spelled_has_room (Pre f.head) first.1 bytes_of_pre first.4 in
    subst (λ (d : Document). length d.head.comment < 256) is.2 room.1
