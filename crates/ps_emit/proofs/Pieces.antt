-- Texts that are put together piece by piece, and go out as the line is full.
use Rattle.std.proofs.Common.{refl, sym, ap, ◌∙◌, subst, append_assoc, List, [], ◌++◌, ℕ}
use Rattle.std.specs.Prelude.{Result, Ok, Err, OnErr}
use Rattle.dv_base.specs.declared.tray.Tray.{Ghosts}
use Rattle.ps_emit.specs.Written.{Cut, Writes, wrote_nothing, wrote_more, cut_later, cut_longer, then_writes}
use Rattle.ps_emit.specs.Shown.{out_of}
use Rattle.ps_emit.specs.Pending.{Ahead}
use Rattle.ps_emit.specs.declared.emitter.Emitter.{Emitter}

pub nothing_ahead : {T : Type 0} {G : Ghosts T} (e : Emitter T G) → Ahead e.line e e
nothing_ahead e = record { front = []; wrote = wrote_nothing (out_of e) e.fits; joined = refl }

-- what stands ahead, and then a step that began with its line followed by other bytes
pub ahead_more : {T : Type 0} {G : Ghosts T} (text more : List ℕ) (a b c : Emitter T G) → Ahead text a b → Ahead (b.line ++ more) b c → Ahead (text ++ more) a c
ahead_more text more a b c f g = record {
  front = f.front ++ g.front;
  wrote = wrote_more f.front g.front (out_of a) (out_of b) (out_of c) f.wrote g.wrote;
  joined = append_assoc f.front g.front c.line ∙ ap (λ bs. f.front ++ bs) g.joined ∙ sym (append_assoc f.front b.line more) ∙ ap (λ bs. bs ++ more) f.joined;
}

-- a cut of the line that stands ahead cuts the text
pub cut_ahead : {T : Type 0} {G : Ghosts T} (text more : List ℕ) (a b c : Emitter T G) → Ahead text a b → Cut b.line (out_of b) (out_of c) → Cut (text ++ more) (out_of a) (out_of c)
cut_ahead text more a b c f g =
    subst (λ bs. Cut (bs ++ more) (out_of a) (out_of c)) f.joined (cut_longer (f.front ++ b.line) more (out_of a) (out_of c) (cut_later f.front b.line (out_of a) (out_of b) (out_of c) f.wrote g))

-- the line that stands ahead and more bytes go out
pub writes_ahead : {T X E : Type 0} {G : Ghosts T} (text more : List ℕ) (a b c : Emitter T G) (r : Result X E) → Ahead text a b → Writes (b.line ++ more) (out_of b) (out_of c) r → Writes (text ++ more) (out_of a) (out_of c) r
writes_ahead text more a b c r f g =
    subst (λ bs. Writes bs (out_of a) (out_of c) r) (sym (append_assoc f.front b.line more) ∙ ap (λ bs. bs ++ more) f.joined)
    (then_writes f.front (b.line ++ more) (out_of a) (out_of b) (out_of c) r f.wrote g)

-- what stands ahead, and then a step that began with its line
pub ahead_then : {T : Type 0} {G : Ghosts T} (text : List ℕ) (a b c : Emitter T G) → Ahead text a b → Ahead b.line b c → Ahead text a c
ahead_then text a b c f g = record {
  front = f.front ++ g.front;
  wrote = wrote_more f.front g.front (out_of a) (out_of b) (out_of c) f.wrote g.wrote;
  joined = append_assoc f.front g.front c.line ∙ ap (λ bs. f.front ++ bs) g.joined ∙ f.joined;
}

pub on_err : {X E : Type 0} (r : Result X E) (P : Type 0) → P → OnErr r P
on_err (Ok v) P p = tt
on_err (Err e) P p = p
