use Rattle.std.proofs.Common.{arith, ◌≡◌, ◌∷◌, ◌++◌, [], List, inl, sym, ap, subst, ◌∙◌}
use Rattle.std.specs.List.{All}
use Rattle.dvi_ops.specs.Command.{Command, Definition}
use Rattle.dvi_ops.specs.Command.Command.{Eop, FntDef}
use Rattle.dvi_ops.specs.View.{view, def_view}
use Rattle.dvi_ops.specs.declared.cmd.Cmd.{Cmd}
use Rattle.dvi_doc.specs.Document.{put_definition}
use Rattle.dvi_doc.specs.Order.{SpelledTo, reading}
use Rattle.dvi_doc.specs.Order.Part.{Inside}
use Rattle.dvi_doc.proofs.Further.{reach_inner, reach_eop, not_paged, bad_end, no_definition, page_none, page_more}
use Rattle.dvi_doc.specs.Standing.{Stands, definitions_at}
use Rattle.dvi_doc.specs.declared.font_def.FontDef.{FontDef}
use Rattle.dvi_doc.proofs.Standing.{definition_there, stands_there, more_at, more_stand}
use Rattle.dvi_doc.proofs.Passing.{same_definitions, page_passed, reach_passed}
use Rattle.dvi_doc.proofs.page.read_page.Goals as goal

pub returns-in-Eop-clause-found : goal.returns-in-Eop-clause-found
returns-in-Eop-clause-found c =
    let f = c.in_ok-cmd.ensures.found in
    let i = c.loop-at.invariant in
    let eop : SpelledTo c.args.bytes.now c.loop-at.at c.in_ok-cmd.end Eop = subst (λ (x : Cmd). SpelledTo c.args.bytes.now c.loop-at.at c.in_ok-cmd.end (view x)) c.in-Eop.is f.0 in
    (i.onward, f.1, eop, i.holds, λ last h. reach_eop c.args.bytes.now c.loop-at.at c.in_ok-cmd.end last eop (i.reached last h))

pub loop-at-init : goal.loop-at-init
loop-at-init c =
    let p = c.pass_commands-at.ensures in
    let bytes = c.args.bytes.now in
    let start = c.args.start in
    let at = c.pass_commands-at.result in
    let defs = definitions_at bytes c.args.earlier.now.items in
    record {
      onward = p.further;
      inside = p.within;
      holds = page_passed p.passed.0 bytes start start at defs defs (omega arith) p.passed.1 (page_none bytes start defs);
      stands = λ all. all;
      reached = λ last h. reach_passed p.passed.0 bytes start at last p.passed.1 h;
    }

pub loop-at-preserved-in-FntDef : goal.loop-at-preserved-in-FntDef
loop-at-preserved-in-FntDef c =
    let f = c.in_ok-cmd.ensures.found in
    let i = c.loop-at.invariant in
    let p = c.pass_commands-at-in-FntDef.ensures in
    let bytes = c.args.bytes.now in
    let start = c.args.start in
    let at = c.loop-at.at in
    let end = c.in_ok-cmd.end in
    let old = definitions_at bytes c.args.earlier.now.items in
    let held = c.loop-at.earlier.items in
    let defs = definitions_at bytes held in
    let new = definitions_at bytes c.push.new.self.items in
    let font : FontDef = record { at = at } in
    let def = def_view c.in-FntDef.field-0 in
    let d : Command = FntDef def in
    let s : SpelledTo bytes at end d = subst (λ (x : Cmd). SpelledTo bytes at end (view x)) c.in-FntDef.is f.0 in
    let pushed : c.push.new.self.items ≡ held ++ font ∷ [] = c.in_ok-push-in-FntDef.ensures.items in
    let more : new ≡ defs ++ put_definition d [] =
    ap (λ (fs : List FontDef). definitions_at bytes fs) pushed ∙ more_at bytes held font ∙ ap (λ (x : Definition). defs ++ x ∷ []) (definition_there bytes at end def s) in
    record {
      onward = omega (arith, i.onward, f.0.0, p.further);
      inside = p.within;
      holds = page_passed p.passed.0 bytes start end c.pass_commands-at-in-FntDef.result old new (omega (arith, i.onward, f.0.0)) p.passed.1
          (page_more bytes start at end d old defs new i.onward s tt more i.holds);
      stands = λ all. subst (λ (fs : List FontDef). All (Stands bytes) fs) (sym pushed) (more_stand bytes held font (i.stands all) (stands_there bytes font end def s));
      reached = λ last h. reach_passed p.passed.0 bytes end c.pass_commands-at-in-FntDef.result last p.passed.1 (reach_inner bytes at end last d s tt (i.reached last h));
    }

pub returns-then-not-is_inner : goal.returns-then-not-is_inner
returns-then-not-is_inner c =
    let last = c.requires.reached.0 in
    record {
      found = tt;
      stands = tt;
      fault = inl (reading Inside last 0, view c.in_ok-cmd.cmd, (c.loop-at.invariant.reached last c.requires.reached.1, c.in_ok-cmd.end, c.in_ok-cmd.ensures.found.0), λ x. not_paged c.in_ok-cmd.cmd c.in_default.not-Eop c.if-not-is_inner.ensures x);
    }

pub loop-at-preserved : goal.loop-at-preserved
loop-at-preserved c =
    let f = c.in_ok-cmd.ensures.found in
    let i = c.loop-at.invariant in
    let p = c.pass_commands-at-in_default.ensures in
    let bytes = c.args.bytes.now in
    let start = c.args.start in
    let at = c.loop-at.at in
    let end = c.in_ok-cmd.end in
    let old = definitions_at bytes c.args.earlier.now.items in
    let new = definitions_at bytes c.loop-at.earlier.items in
    let d : Command = view c.in_ok-cmd.cmd in
    let none : put_definition d [] ≡ [] = no_definition c.in_ok-cmd.cmd c.in_default.not-FntDef in
    record {
      onward = omega (arith, i.onward, f.0.0, p.further);
      inside = p.within;
      holds = page_passed p.passed.0 bytes start end c.pass_commands-at-in_default.result old new (omega (arith, i.onward, f.0.0)) p.passed.1
          (page_more bytes start at end d old new new i.onward f.0 c.if-not-is_inner.ensures (same_definitions d new none) i.holds);
      stands = i.stands;
      reached = λ last h. reach_passed p.passed.0 bytes end c.pass_commands-at-in_default.result last p.passed.1 (reach_inner bytes at end last d f.0 c.if-not-is_inner.ensures (i.reached last h));
    }

pub returns-clause-fault : goal.returns-clause-fault
returns-clause-fault c =
    let last = c.requires.reached.0 in
    bad_end c.args.bytes.now c.loop-at.at c.args.ends (reading Inside last 0) c.requires.trailer (omega (arith, c.loop-at.invariant.inside, c.loop-at-test.false)) (c.loop-at.invariant.reached last c.requires.reached.1) (λ back h. h)
