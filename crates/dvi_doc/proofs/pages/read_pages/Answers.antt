use Rattle.std.proofs.Common.{arith, ◌≡◌, ◌∷◌, ◌++◌, [], inl, refl, sym, ap, subst, ◌∙◌, ℤ, List, pos, rules, FitsSigned, w32}
use Rattle.std.specs.List.{All}
use Rattle.std.proofs.lemmas.Int.{to_z-of_z}
use Rattle.std.proofs.lemmas.Result.{err_from_is_err_and}
use Rattle.std.proofs.lemmas.List.{append-nil}
use Rattle.dvi_ops.specs.Command.{Command, Definition}
use Rattle.dvi_ops.specs.Command.Command.{Nop, FntDef, Bop, Post}
use Rattle.dvi_ops.specs.View.{view, def_view, tail_view}
use Rattle.dvi_ops.specs.declared.cmd.Cmd.{Cmd}
use Rattle.dvi_doc.specs.Document.{put_definition}
use Rattle.dvi_doc.specs.Order.{SpelledTo, Reaches, reading}
use Rattle.dvi_doc.specs.Order.Part.{Between}
use Rattle.dvi_doc.specs.Steps.{HasItems, last_of}
use Rattle.dvi_doc.proofs.Further.{reach_between, reach_bop, reach_post, not_outside, back_fault, bad_end}
use Rattle.dvi_doc.specs.Standing.{Stands, definitions_at}
use Rattle.dvi_doc.specs.declared.font_def.FontDef.{FontDef}
use Rattle.dvi_doc.proofs.Standing.{definition_there, stands_there, more_at, more_stand}
use Rattle.dvi_doc.proofs.Gathered.{filler_more, page_gathered}
use Rattle.dvi_doc.proofs.pages.read_pages.Goals as goal

pub loop-at-preserved-in-Nop : goal.loop-at-preserved-in-Nop
loop-at-preserved-in-Nop c =
    let f = c.in_ok-cmd.ensures.found in
    let i = c.loop-at.invariant in
    let bytes = c.args.bytes.now in
    let at = c.loop-at.at in
    let end = c.in_ok-cmd.end in
    let last = last_of c.loop-at.last in
    let defs = definitions_at bytes c.loop-at.earlier.items in
    let s : SpelledTo bytes at end Nop = subst (λ (x : Cmd). SpelledTo bytes at end (view x)) c.in-Nop.is f.0 in
    record {
      onward = omega (arith, i.onward, f.0.0);
      inside = f.1;
      holds = filler_more bytes c.args.start at end Nop c.loop-at.pages.items defs defs last i.onward s tt (sym (append-nil defs)) i.holds;
      stands = i.stands;
      reached = reach_between bytes at end last Nop s tt i.reached;
    }

pub loop-at-preserved-in-FntDef : goal.loop-at-preserved-in-FntDef
loop-at-preserved-in-FntDef c =
    let f = c.in_ok-cmd.ensures.found in
    let i = c.loop-at.invariant in
    let bytes = c.args.bytes.now in
    let at = c.loop-at.at in
    let end = c.in_ok-cmd.end in
    let last = last_of c.loop-at.last in
    let def = def_view c.in-FntDef.field-0 in
    let d : Command = FntDef def in
    let s : SpelledTo bytes at end d = subst (λ (x : Cmd). SpelledTo bytes at end (view x)) c.in-FntDef.is f.0 in
    let held = c.loop-at.earlier.items in
    let defs = definitions_at bytes held in
    let new = definitions_at bytes c.push.new.self.items in
    let font : FontDef = record { at = at } in
    let pushed : c.push.new.self.items ≡ held ++ font ∷ [] = c.in_ok-push-in-FntDef.ensures.items in
    let more : new ≡ defs ++ put_definition d [] =
    ap (λ (fs : List FontDef). definitions_at bytes fs) pushed ∙ more_at bytes held font ∙ ap (λ (x : Definition). defs ++ x ∷ []) (definition_there bytes at end def s) in
    record {
      onward = omega (arith, i.onward, f.0.0);
      inside = f.1;
      holds = filler_more bytes c.args.start at end d c.loop-at.pages.items defs new last i.onward s tt more i.holds;
      stands = subst (λ (fs : List FontDef). All (Stands bytes) fs) (sym pushed) (more_stand bytes held font i.stands (stands_there bytes font end def s));
      reached = reach_between bytes at end last d s tt i.reached;
    }

pub read_page-requires-clause-reached : goal.read_page-requires-clause-reached
read_page-requires-clause-reached c =
    let f = c.in_ok-cmd.ensures.found in
    let bytes = c.args.bytes.now in
    let fits : FitsSigned w32 c.in-Bop.back = search rules in
    let names = rw (to_z-of_z w32 c.in-Bop.back fits) at c.in_ok-check_back-in-Bop.ensures.last in
    let s : SpelledTo bytes c.loop-at.at c.in_ok-cmd.end (Bop c.in-Bop.counts c.in-Bop.back) = subst (λ (x : Cmd). SpelledTo bytes c.loop-at.at c.in_ok-cmd.end (view x)) c.in-Bop.is f.0 in
    (pos c.loop-at.at, reach_bop bytes c.loop-at.at c.in_ok-cmd.end (last_of c.loop-at.last) c.in-Bop.back c.in-Bop.counts s names c.loop-at.invariant.reached)

pub loop-at-preserved : goal.loop-at-preserved
loop-at-preserved c =
    let f = c.in_ok-cmd.ensures.found in
    let i = c.loop-at.invariant in
    let bytes = c.args.bytes.now in
    let at = c.loop-at.at in
    let end = c.in_ok-cmd.end in
    let last = last_of c.loop-at.last in
    let fits : FitsSigned w32 c.in-Bop.back = search rules in
    let names = rw (to_z-of_z w32 c.in-Bop.back fits) at c.in_ok-check_back-in-Bop.ensures.last in
    let s : SpelledTo bytes at end (Bop c.in-Bop.counts c.in-Bop.back) = subst (λ (x : Cmd). SpelledTo bytes at end (view x)) c.in-Bop.is f.0 in
    let g = c.in_ok-eop-in-Bop.ensures.found in
    record {
      onward = omega (arith, i.onward, f.0.0, g.0, g.2.0);
      inside = g.1;
      holds = page_gathered bytes c.args.start at end c.in_ok-eop-in-Bop.eop c.in_ok-eop-in-Bop.next c.args.ends c.in-Bop.counts c.in-Bop.back last _ c.loop-at.pages.items c.push-in-Bop.new.self.items (definitions_at bytes c.loop-at.earlier.items) (definitions_at bytes c.read_page.new.earlier.items) i.onward s names g refl c.in_ok-push-in-Bop.ensures.items i.holds;
      stands = c.in_ok-eop-in-Bop.ensures.stands i.stands;
      reached = g.4 (pos at) (reach_bop bytes at end last c.in-Bop.back c.in-Bop.counts s names i.reached);
    }

pub returns-in-Post-clause-found : goal.returns-in-Post-clause-found
returns-in-Post-clause-found c =
    let f = c.in_ok-cmd.ensures.found in
    let i = c.loop-at.invariant in
    let bytes = c.args.bytes.now in
    let at = c.loop-at.at in
    let tail = tail_view c.in-Post.tail in
    let last = last_of c.loop-at.last in
    let fits : FitsSigned w32 c.in-Post.tail.back = search rules in
    let names : c.in-Post.tail.back ≡ last = rw (to_z-of_z w32 c.in-Post.tail.back fits) at c.in_ok-check_back-in-Post.ensures.last in
    let s : SpelledTo bytes at c.in_ok-cmd.end (Post tail) = subst (λ (x : Cmd). SpelledTo bytes at c.in_ok-cmd.end (view x)) c.in-Post.is f.0 in
    let defs = definitions_at bytes c.loop-at.earlier.items in
    let items : HasItems bytes c.args.start at c.loop-at.pages.items defs c.in-Post.tail.back =
    subst (λ (z : ℤ). HasItems bytes c.args.start at c.loop-at.pages.items defs z) (sym names) i.holds in
    let reached : Reaches bytes at (reading Between c.in-Post.tail.back 0) = subst (λ (z : ℤ). Reaches bytes at (reading Between z 0)) (sym names) i.reached in
    (i.onward, f.1, s, items, i.stands, reach_post bytes at c.in_ok-cmd.end c.in-Post.tail.back tail s refl reached)

pub returns-in_default : goal.returns-in_default
returns-in_default c =
    record {
      found = tt;
      fault = inl (
        reading Between (last_of c.loop-at.last) 0,
        view c.in_ok-cmd.cmd,
        (c.loop-at.invariant.reached, c.in_ok-cmd.end, c.in_ok-cmd.ensures.found.0),
        λ x. not_outside c.in_ok-cmd.cmd c.in_default.not-Nop c.in_default.not-Bop c.in_default.not-FntDef c.in_default.not-Post x,
      );
    }

pub returns-clause-fault : goal.returns-clause-fault
returns-clause-fault c =
    bad_end c.args.bytes.now c.loop-at.at c.args.ends (reading Between (last_of c.loop-at.last) 0) c.requires.trailer (omega (arith, c.loop-at.invariant.inside, c.loop-at-test.false)) c.loop-at.invariant.reached (λ back h. h)

pub returns-in_err-check_back-in-Bop-clause-fault : goal.returns-in_err-check_back-in-Bop-clause-fault
returns-in_err-check_back-in-Bop-clause-fault c =
    let p = err_from_is_err_and c.from_residual-in_err-check_back-in-Bop.result c.from_residual-in_err-check_back-in-Bop.ensures.1 in
    let f = c.in_ok-cmd.ensures.found in
    let bytes = c.args.bytes.now in
    let at = c.loop-at.at in
    let end = c.in_ok-cmd.end in
    let bop = Bop c.in-Bop.counts c.in-Bop.back in
    let fits : FitsSigned w32 c.in-Bop.back = search rules in
    let wrong = rw (to_z-of_z w32 c.in-Bop.back fits) at c.in_err-check_back-in-Bop.ensures.fault in
    let s : SpelledTo bytes at end bop = subst (λ (x : Cmd). SpelledTo bytes at end (view x)) c.in-Bop.is f.0 in
    rw (p.1, p.2) (back_fault bytes at end (last_of c.loop-at.last) c.in-Bop.back bop c.in_err-check_back-in-Bop.field-0.0 tt (λ x. x) c.loop-at.invariant.reached s wrong)

pub returns-in_err-check_back-in-Post-clause-fault : goal.returns-in_err-check_back-in-Post-clause-fault
returns-in_err-check_back-in-Post-clause-fault c =
    let p = err_from_is_err_and c.from_residual-in_err-check_back-in-Post.result c.from_residual-in_err-check_back-in-Post.ensures.1 in
    let f = c.in_ok-cmd.ensures.found in
    let bytes = c.args.bytes.now in
    let at = c.loop-at.at in
    let end = c.in_ok-cmd.end in
    let post = Post (tail_view c.in-Post.tail) in
    let fits : FitsSigned w32 c.in-Post.tail.back = search rules in
    let wrong = rw (to_z-of_z w32 c.in-Post.tail.back fits) at c.in_err-check_back-in-Post.ensures.fault in
    let s : SpelledTo bytes at end post = subst (λ (x : Cmd). SpelledTo bytes at end (view x)) c.in-Post.is f.0 in
    rw (p.1, p.2) (back_fault bytes at end (last_of c.loop-at.last) c.in-Post.tail.back post c.in_err-check_back-in-Post.field-0.0 tt (λ x. x) c.loop-at.invariant.reached s wrong)
