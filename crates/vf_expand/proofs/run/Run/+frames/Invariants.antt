use Rattle.std.proofs.Common.{length, take, drop, ◌-◌, ◌+◌, ◌*◌, ◌≡◌, ◌≤◌, List}
use Rattle.positions.specs.Conditions.{SameCondition}
use Rattle.dvi_ops.specs.Placed.{Placed, Lexes}
use Rattle.font_set.specs.Count.{count_from}
use Rattle.vf_expand.specs.Turn.{open_at}
use Rattle.vf_expand.specs.Pages.{start_in}
use Rattle.vf_expand.specs.Homes.{first_of, scope_in, program_in, acts_in, meaning_in, count_in, IsReady}
use Rattle.vf_expand.specs.Takes.{Took}
use Rattle.vf_expand.specs.Painted.{HasGlyph}
use Rattle.vf_expand.specs.Wide.{AreMet}
use Rattle.vf_expand.specs.Shallow.{AllFindRoom, PacketFinds}
use Rattle.vf_expand.proofs.Bytes.{Going}
use Rattle.vf_expand.proofs.Covering.{Ahead}
use Rattle.vf_expand.proofs.run.Run.+frames.Given as goal

abbrev pub decreases-frame : goal.decreases-frame
decreases-frame g l = 3 * l.frame.now.nest + 2

abbrev pub decreases-show : goal.decreases-show
decreases-show g l = 3 * l.frame.now.nest

abbrev pub decreases-turn : goal.decreases-turn
decreases-turn g l = 3 * l.frame.now.nest + 1

abbrev pub invariant-frame-loop-at : goal.invariant-frame-loop-at
invariant-frame-loop-at g l =
    let canvas = g.C.Canvas in
    let f = l.frame in
    let first = first_of f.home in
    record {
      inside : l.at ≤ length l.bytes;
      higher : f.base ≤ length l.self.saved.items;
      below : take f.base l.self.saved.items ≡ l.fn.self.saved.items;
      same : SameCondition canvas.can l.fn.canvas l.canvas;
      met : AreMet f.grid f.fonts.now l.self.glyphs;
      ahead : (cs : List Placed) × Lexes first l.bytes cs × IsReady canvas.can f l.fn.canvas cs l.fn.start × Ahead f.fonts.now (scope_in f) (acts_in f cs) l.font (drop l.at l.bytes) (first + l.at);
      counted : (cs : List Placed) → Lexes first l.bytes cs →
          (rest : List Placed) × Lexes (first + l.at) (drop l.at l.bytes) rest × (l.self.steps + count_from f.fonts.now f.nest (scope_in f) l.font rest ≡ l.fn.self.steps + count_in f cs);
      goes : (cs : List Placed) → Lexes first l.bytes cs →
          (go : Going (Took (HasGlyph f.grid f.fonts.now) canvas.takes) (meaning_in f) (start_in f.fonts.now (program_in f cs) l.fn.start) cs (drop l.at l.bytes) (first + l.at) l.fn.canvas l.canvas
          (open_at f.base l.self.saved.items) (record { place = l.pos; font = l.font }))
          × AllFindRoom (PacketFinds f.grid f.fonts.now f.nest) (meaning_in f) (start_in f.fonts.now (program_in f cs) l.fn.start) go.before f.base;
    }

abbrev pub decreases-frame-loop-at : goal.decreases-frame-loop-at
decreases-frame-loop-at g l = length l.bytes - l.at
