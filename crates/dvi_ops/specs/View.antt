-- What contracts see of the code's commands: their values, with the texts that they lend.
use Rattle.std.specs.Prelude.{◌≡◌, ◌≤◌, ℕ, List, ◌++◌, drop}
use Rattle.dvi_ops.specs.declared.cmd.Cmd.{Cmd}
use Rattle.dvi_ops.specs.declared.cmd.Cmd.TheVariants as cmd
use Rattle.dvi_ops.specs.declared.cmd.Def.{Def}
use Rattle.dvi_ops.specs.declared.cmd.Head.{Head}
use Rattle.dvi_ops.specs.declared.cmd.Tail.{Tail}
use Rattle.dvi_ops.specs.declared.cmd.OpFault.{OpFault}
use Rattle.dvi_ops.specs.declared.cmd.OpFault.TheVariants as fault
use Rattle.dvi_ops.specs.Spelling.{byte_at, RunsPast, Spell}
use Rattle.dvi_ops.specs.Command.{Command, Definition, Preamble, Postamble}
use Rattle.dvi_ops.specs.Command.Command.{Set, SetRule, Put, PutRule, Nop, Bop, Eop, Push, Pop, Right, W0, W, X0, X, Down, Y0, Y, Z0, Z, Fnt, Xxx, FntDef, Pre, Post, PostPost}

abbrev pub def_view : Def → Definition
def_view d = record { k = d.k; checksum = d.checksum; size = d.size; design = d.design; area = d.area; name = d.name.now }

abbrev pub head_view : Head → Preamble
head_view h = record { id = h.id; num = h.num; den = h.den; mag = h.mag; comment = h.comment.now }

abbrev pub tail_view : Tail → Postamble
tail_view t = record { back = t.back; num = t.num; den = t.den; mag = t.mag; tall = t.tall; wide = t.wide; depth = t.depth; pages = t.pages }

abbrev pub view : Cmd → Command
view (cmd.Set c) = Set c
view (cmd.SetRule a b) = SetRule a b
view (cmd.Put c) = Put c
view (cmd.PutRule a b) = PutRule a b
view cmd.Nop = Nop
view (cmd.Bop counts back) = Bop counts back
view cmd.Eop = Eop
view cmd.Push = Push
view cmd.Pop = Pop
view (cmd.Right q) = Right q
view cmd.W0 = W0
view (cmd.W q) = W q
view cmd.X0 = X0
view (cmd.X q) = X q
view (cmd.Down q) = Down q
view cmd.Y0 = Y0
view (cmd.Y q) = Y q
view cmd.Z0 = Z0
view (cmd.Z q) = Z q
view (cmd.Fnt k) = Fnt k
view (cmd.Xxx text) = Xxx text.now
view (cmd.FntDef d) = FntDef (def_view d)
view (cmd.Pre h) = Pre (head_view h)
view (cmd.Post t) = Post (tail_view t)
view (cmd.PostPost back id) = PostPost back id

-- Why no command was read at a place: the byte there begins none, or the bytes end before the command does.
abbrev pub FaultAt : List ℕ → ℕ → OpFault → Type 0
FaultAt bytes at (fault.Undefined place) = (place ≡ at) × (250 ≤ byte_at bytes at)
FaultAt bytes at (fault.Short place) = (place ≡ at) × RunsPast bytes at

-- No command is spelled from this place on, however many bytes it takes.
abbrev pub NoSpelling : List ℕ → ℕ → Type 0
NoSpelling bytes at = (cmd : Command) (front rest : List ℕ) → drop at bytes ≡ front ++ rest → Spell cmd front → ⊥
