use Rattle.std.proofs.Common.{◌≡◌, ◌+◌, ◌-◌, ℕ, suc, List, [], ◌∷◌, ◌++◌, ◌<◌, length, refl, subst, arith, rules}
use Rattle.std.proofs.lemmas.Int.{to_z-of_z}
use Rattle.std.proofs.lemmas.List.{append-nil}
use Rattle.std.proofs.lemmas.Result.{err_from_is_err_and}
use Rattle.dvi_ops.specs.Spelling.{byte_at}
use Rattle.positions.specs.Mark.{Mark}
use Rattle.positions.specs.MarkOf.{glyph_of}
use Rattle.vf_expand.specs.Quick.{AreSet, Sets, TookSet}
use Rattle.vf_expand.proofs.Stopping.{same_start, same_chain}
use Rattle.vf_expand.proofs.run.Run.characters.Goals as goal

pub loop-at-init : goal.loop-at-init
loop-at-init g c =
    let none : 0 ≡ c.args.start - c.args.start = omega arith in
    let h = c.excess-told.ensures in
    record {
      further = omega arith;
      within = omega arith;
      quick = c.requires.first;
      set = record {
        marks = [];
        set = subst (λ (k : ℕ). AreSet c.args.frame.now c.args.first.font c.args.bytes.now c.args.start k c.args.pos.now c.args.pos.now []) none (refl, refl);
        took = g.met.C.Canvas.starts c.args.canvas.now;
      };
      told = search (rules, to_z-of_z, h);
      same = same_start g.C.Canvas.can c.args.canvas.now;
    }

pub glyph-requires : goal.glyph-requires
glyph-requires g c =
    let f = c.args.frame.now in
    let start = c.args.start in
    let at = c.loop-at.at in
    let bytes = c.args.bytes.now in
    let inv = c.loop-at.invariant in
    let s = inv.set in
    let here : at ≡ start + (at - start) = omega (arith, inv.further) in
    let m = glyph_of c.glyph-mark.result in
    let sets : Sets f c.args.first.font (byte_at bytes (start + (at - start))) c.loop-at.here c.past_told-told.new.here m =
    subst (λ (k : ℕ). Sets f c.args.first.font (byte_at bytes k) c.loop-at.here c.past_told-told.new.here m) here
    (record { wide = c.loop-at.wide; quick = inv.quick; past = c.past_told-told.ensures.past; shown = c.glyph-mark.ensures.mark; moderate = c.glyph-mark.ensures.fit }) in
    let inside : start + (at - start) < length bytes = omega (arith, inv.further) in
    (inv.same m).0 (c.requires.can (at - start) c.loop-at.here c.past_told-told.new.here s.marks m inside s.set sets)

pub returns-in_err-glyph-clause-refused : goal.returns-in_err-glyph-clause-refused
returns-in_err-glyph-clause-refused g c =
    let f = c.args.frame.now in
    let start = c.args.start in
    let at = c.loop-at.at in
    let bytes = c.args.bytes.now in
    let inv = c.loop-at.invariant in
    let s = inv.set in
    let here : at ≡ start + (at - start) = omega (arith, inv.further) in
    let m = glyph_of c.glyph-mark.result in
    let sets : Sets f c.args.first.font (byte_at bytes (start + (at - start))) c.loop-at.here c.past_told-told.new.here m =
    subst (λ (k : ℕ). Sets f c.args.first.font (byte_at bytes k) c.loop-at.here c.past_told-told.new.here m) here
    (record { wide = c.loop-at.wide; quick = inv.quick; past = c.past_told-told.ensures.past; shown = c.glyph-mark.ensures.mark; moderate = c.glyph-mark.ensures.fit }) in
    let inside : start + (at - start) < length bytes = omega (arith, inv.further) in
    let p = err_from_is_err_and c.from_residual.result c.from_residual.ensures.1 in
    rw (p.1, p.2)
    (record {
      count = at - start;
      marks = s.marks;
      mark = m;
      here = c.loop-at.here;
      behind = c.past_told-told.new.here;
      inside = inside;
      set = s.set;
      next = sets;
      refused = subst (λ (ms : List Mark). g.C.Canvas.refuses c.args.canvas.now c.glyph.new.self ms m c.in_err-glyph.field-0.0) (append-nil s.marks) (g.met.C.Canvas.refused_later c.args.canvas.now c.loop-at.canvas c.glyph.new.self s.marks [] m c.in_err-glyph.field-0.0 s.took c.in_err-glyph.ensures.err);
    })

pub loop-at-preserved : goal.loop-at-preserved
loop-at-preserved g c =
    let f = c.args.frame.now in
    let start = c.args.start in
    let at = c.loop-at.at in
    let bytes = c.args.bytes.now in
    let inv = c.loop-at.invariant in
    let s = inv.set in
    let here : at ≡ start + (at - start) = omega (arith, inv.further) in
    let m = glyph_of c.glyph-mark.result in
    let sets : Sets f c.args.first.font (byte_at bytes (start + (at - start))) c.loop-at.here c.past_told-told.new.here m =
    subst (λ (k : ℕ). Sets f c.args.first.font (byte_at bytes k) c.loop-at.here c.past_told-told.new.here m) here
    (record { wide = c.loop-at.wide; quick = inv.quick; past = c.past_told-told.ensures.past; shown = c.glyph-mark.ensures.mark; moderate = c.glyph-mark.ensures.fit }) in
    let next : suc (at - start) ≡ at + 1 - start = omega (arith, inv.further) in
    let h = c.past_told-told.ensures.told in
    let after : TookSet g.C.Canvas.takes f c.args.first.font bytes start (suc (at - start)) c.args.pos.now c.past_told-told.new.here c.args.canvas.now c.glyph.new.self =
    record { marks = s.marks ++ m ∷ []; set = (c.loop-at.here, s.marks, m, s.set, sets, refl); took = g.met.C.Canvas.chains c.args.canvas.now c.loop-at.canvas c.glyph.new.self s.marks (m ∷ []) s.took c.in_ok-glyph.ensures.ok } in
    record {
      further = omega (arith, inv.further);
      within = omega arith;
      quick = c.in-Some.ensures;
      set = subst (λ (k : ℕ). TookSet g.C.Canvas.takes f c.args.first.font bytes start k c.args.pos.now c.past_told-told.new.here c.args.canvas.now c.glyph.new.self) next after;
      told = search (rules, to_z-of_z, h);
      same = same_chain g.C.Canvas.can c.args.canvas.now c.loop-at.canvas c.glyph.new.self inv.same c.in_ok-glyph.ensures.same;
    }

pub returns-clause-ok : goal.returns-clause-ok
returns-clause-ok g c =
    let f = c.args.frame.now in
    let start = c.args.start in
    let at = c.loop-at.at in
    let bytes = c.args.bytes.now in
    let inv = c.loop-at.invariant in
    let s = inv.set in
    let here : at ≡ start + (at - start) = omega (arith, inv.further) in
    let m = glyph_of c.glyph-mark.result in
    let sets : Sets f c.args.first.font (byte_at bytes (start + (at - start))) c.loop-at.here c.past_told-told.new.here m =
    subst (λ (k : ℕ). Sets f c.args.first.font (byte_at bytes k) c.loop-at.here c.past_told-told.new.here m) here
    (record { wide = c.loop-at.wide; quick = inv.quick; past = c.past_told-told.ensures.past; shown = c.glyph-mark.ensures.mark; moderate = c.glyph-mark.ensures.fit }) in
    let next : suc (at - start) ≡ at + 1 - start = omega (arith, inv.further) in
    let after : TookSet g.C.Canvas.takes f c.args.first.font bytes start (suc (at - start)) c.args.pos.now c.past_told-told.new.here c.args.canvas.now c.glyph.new.self =
    record { marks = s.marks ++ m ∷ []; set = (c.loop-at.here, s.marks, m, s.set, sets, refl); took = g.met.C.Canvas.chains c.args.canvas.now c.loop-at.canvas c.glyph.new.self s.marks (m ∷ []) s.took c.in_ok-glyph.ensures.ok } in
    subst (λ (k : ℕ). TookSet g.C.Canvas.takes f c.args.first.font bytes start k c.args.pos.now c.past_told-told.new.here c.args.canvas.now c.glyph.new.self) next after

pub returns-clause-same : goal.returns-clause-same
returns-clause-same g c = same_chain g.C.Canvas.can c.args.canvas.now c.loop-at.canvas c.glyph.new.self c.loop-at.invariant.same c.in_ok-glyph.ensures.same
