-- Reading a file from its start: in which part of it a place is, and what may stand there. The faults of a document speak of it.
use Rattle.std.specs.Prelude.{◌≡◌, ◌<◌, ◌≤◌, ℕ, ℤ, pos, negsuc, List, [], ◌∷◌, length, slice_range}
use Rattle.dvi_ops.specs.Command.{Command}
use Rattle.dvi_ops.specs.Command.Command.{Bop, Eop, Pre, Post, PostPost}
use Rattle.dvi_ops.specs.Spelling.{Spell}
use Rattle.dvi_ops.specs.Placed.{Placed, Lexes}
use Rattle.dvi_doc.specs.Grammar.{IsFiller, IsInner}

-- before pre; between pages; inside a page; behind post; behind post_post
pub data Part : Type 0 where
  Start : Part
  Between : Part
  Inside : Part
  Behind : Part
  Past : Part

-- the part, the place of the last bop or -1, and the place of post (0 before it)
pub record Reading : Type 0 where
  pub part : Part
  pub last : ℤ
  pub post : ℕ

abbrev pub reading : Part → ℤ → ℕ → Reading
reading part last post = record { part = part; last = last; post = post }

-- before the first byte
abbrev pub at_start : Reading
at_start = reading Start (negsuc 0) 0

-- what may stand between pages: fillers, bop and post
abbrev pub IsOutside : Command → Type 0
IsOutside (Bop counts back) = Unit {0}
IsOutside (Post tail) = Unit {0}
IsOutside c = IsFiller c

-- what may stand behind bop: what a page holds, and eop
abbrev pub IsPaged : Command → Type 0
IsPaged Eop = Unit {0}
IsPaged c = IsInner c

-- what may stand behind post: fillers and post_post
abbrev pub IsEnding : Command → Type 0
IsEnding (PostPost back id) = Unit {0}
IsEnding c = IsFiller c

abbrev pub IsPre : Command → Type 0
IsPre (Pre head) = Unit {0}
IsPre _ = ⊥

abbrev pub MayStand : Part → Command → Type 0
MayStand Start c = IsPre c
MayStand Between c = IsOutside c
MayStand Inside c = IsPaged c
MayStand Behind c = IsEnding c
MayStand Past c = ⊥

-- bop and post name the last bop before them, or -1
abbrev pub NamesLast : ℤ → Command → Type 0
NamesLast last (Bop counts back) = back ≡ last
NamesLast last (Post tail) = tail.back ≡ last
NamesLast last _ = Unit {0}

-- post_post names post
abbrev pub NamesPost : ℕ → Command → Type 0
NamesPost post (PostPost back id) = back ≡ post
NamesPost post _ = Unit {0}

-- pre and post_post name version 2
abbrev pub NamesVersion : Command → Type 0
NamesVersion (Pre head) = head.id ≡ 2
NamesVersion (PostPost back id) = id ≡ 2
NamesVersion _ = Unit {0}

-- the command is right at this point of a reading
abbrev pub Fits : Reading → Command → Type 0
Fits r c = MayStand r.part c × NamesLast r.last c × NamesPost r.post c × NamesVersion c

-- the reading behind a command at a place
abbrev pub after : Reading → ℕ → Command → Reading
after r at (Pre head) = reading Between r.last r.post
after r at (Bop counts back) = reading Inside (pos at) r.post
after r at Eop = reading Between r.last r.post
after r at (Post tail) = reading Behind r.last at
after r at (PostPost back id) = reading Past r.last r.post
after r at _ = r

-- each of the commands is right where it stands, and they lead from one point of the reading to the other
abbrev pub Leads : Reading → List Placed → Reading → Type 0
Leads r [] s = r ≡ s
Leads r (c ∷ cs) s = Fits r c.command × Leads (after r c.place c.command) cs s

-- post_post was not read yet
abbrev pub IsOpen : Part → Type 0
IsOpen Past = ⊥
IsOpen _ = Unit {0}

-- Reading commands from the start comes to this place; each was right, and this is the point that is reached.
abbrev pub Reaches : List ℕ → ℕ → Reading → Type 0
Reaches bytes at r = IsOpen r.part × (cs : List Placed) × Lexes 0 (slice_range bytes 0 at) cs × Leads at_start cs r

-- the bytes from at to end are a spelling of the command
abbrev pub SpelledTo : List ℕ → ℕ → ℕ → Command → Type 0
SpelledTo bytes at end c = (at < end) × (end ≤ length bytes) × Spell c (slice_range bytes at end)

-- reading from the start comes to this place at this point, and the command stands there
abbrev pub Meets : List ℕ → ℕ → Reading → Command → Type 0
Meets bytes at r c = Reaches bytes at r × (end : ℕ) × SpelledTo bytes at end c
