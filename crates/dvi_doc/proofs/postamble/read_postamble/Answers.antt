use Rattle.std.proofs.Common.{arith, ◌≡◌, ◌∷◌, ◌++◌, [], refl, sym, ap, subst, ◌∙◌, ℕ, ℤ, List, length, rules, FitsSigned, w32}
use Rattle.std.proofs.lemmas.Int.{to_z-of_z}
use Rattle.std.proofs.lemmas.List.{append-nil, length-map}
use Rattle.std.proofs.lemmas.List.Elements.{All-nil}
use Rattle.std.specs.List.{All}
use Rattle.dvi_ops.specs.Command.{Definition}
use Rattle.dvi_ops.specs.Command.Command.{Nop, FntDef}
use Rattle.dvi_ops.specs.Numbered.{numbered}
use Rattle.dvi_ops.specs.View.{view, def_view}
use Rattle.dvi_ops.specs.declared.cmd.Cmd.{Cmd}
use Rattle.dvi_ops.specs.declared.cmd.Cmd.TheVariants as cmd
use Rattle.dvi_ops.specs.declared.cmd.Def.{Def}
use Rattle.dvi_doc.specs.Order.{SpelledTo, Reaches, reading}
use Rattle.dvi_doc.specs.Order.Part.{Behind}
use Rattle.dvi_doc.specs.Grammar.{IsNamed, IsSized, numbers_of}
use Rattle.dvi_doc.specs.PartFaults.{AreJudged}
use Rattle.dvi_doc.specs.Standing.{HoldsEnding, Stands, definition_at, definitions_at}
use Rattle.dvi_doc.specs.declared.font_def.FontDef.{FontDef}
use Rattle.dvi_doc.proofs.Further.{reach_behind, not_filler, not_ending, ending_more}
use Rattle.dvi_doc.proofs.Standing.{none_held, definition_there, stands_there, more_at, more_stand, numbered_more}
use Rattle.dvi_doc.proofs.postamble.read_postamble.Goals as goal

pub loop-at-init : goal.loop-at-init
loop-at-init c =
    let bytes = c.args.bytes.now in
    let start = c.args.start in
    let none : c.in_ok-fonts.fonts.items ≡ [] = c.in_ok-fonts.ensures.items in
    record {
      onward = omega arith;
      inside = c.requires.inside;
      few = omega (arith, ap length none);
      holds = subst (λ (fs : List FontDef). HoldsEnding bytes start start (definitions_at bytes fs)) (sym none) (none_held bytes start);
      stands = subst (λ (fs : List FontDef). All (Stands bytes) fs) (sym none) (All-nil (Stands bytes));
      numbered = c.in_ok-numbers.ensures ∙ ap (λ (fs : List FontDef). numbered 0 (numbers_of (definitions_at bytes fs))) (sym none);
      judged = subst (λ (fs : List FontDef). All IsNamed (definitions_at bytes fs) × All IsSized (definitions_at bytes fs)) (sym none) (All-nil IsNamed, All-nil IsSized);
      reached = λ last post h. h;
    }

pub loop-at-preserved : goal.loop-at-preserved
loop-at-preserved c =
    let f = c.in_ok-cmd.ensures.found in
    let i = c.loop-at.invariant in
    let bytes = c.args.bytes.now in
    let at = c.loop-at.at in
    let end = c.in_ok-cmd.end in
    let defs = definitions_at bytes c.loop-at.fonts.items in
    let s : SpelledTo bytes at end Nop = subst (λ (x : Cmd). SpelledTo bytes at end (view x)) c.in-Nop.is f.0 in
    record {
      onward = omega (arith, i.onward, f.0.0);
      inside = f.1;
      few = omega (arith, i.few, f.0.0);
      holds = ending_more bytes c.args.start at end Nop defs defs i.onward s tt (sym (append-nil defs)) i.holds;
      stands = i.stands;
      numbered = i.numbered;
      judged = i.judged;
      reached = λ last post h. reach_behind bytes at end last post Nop s tt (i.reached last post h);
    }

pub loop-at-preserved-in-Some : goal.loop-at-preserved-in-Some
loop-at-preserved-in-Some c =
    let f = c.in-Some.ensures in
    let i = c.loop-at.invariant in
    let bytes = c.args.bytes.now in
    let at = c.loop-at.at in
    let end = c.in-Some.end in
    let d = def_view c.in-Some.def in
    let font : FontDef = record { at = at } in
    let old = c.loop-at.fonts.items in
    let defs = definitions_at bytes old in
    let new : c.push-in-Some.new.self.items ≡ old ++ font ∷ [] = c.in_ok-push-2.ensures.items in
    let there : definition_at bytes at ≡ d = definition_there bytes at end d f.0 in
    let more : definitions_at bytes c.push-in-Some.new.self.items ≡ defs ++ d ∷ [] =
    ap (λ (fs : List FontDef). definitions_at bytes fs) new ∙ more_at bytes old font ∙ ap (λ (x : Definition). defs ++ x ∷ []) there in
    let fits : FitsSigned w32 c.in-Some.def.k = search rules in
    let which = c.len.result in
    let count : which ≡ length old = search rules in
    let long : length defs ≡ which = omega (arith, length-map old (λ (f : FontDef). definition_at bytes f.at), count) in
    let pushed : c.push.new.self ≡ c.loop-at.numbers ++ (d.k, which) ∷ [] = rw (to_z-of_z w32 c.in-Some.def.k fits) at c.in_ok-push.ensures in
    record {
      onward = omega (arith, i.onward, f.0.0);
      inside = f.1;
      few = omega (arith, i.few, f.0.0, ap length new);
      holds = subst (λ (ds : List Definition). HoldsEnding bytes c.args.start end ds) (sym more) (ending_more bytes c.args.start at end (FntDef d) defs (defs ++ d ∷ []) i.onward f.0 tt refl i.holds);
      stands = subst (λ (fs : List FontDef). All (Stands bytes) fs) (sym new) (more_stand bytes old font i.stands (stands_there bytes font end d f.0));
      numbered = pushed ∙ ap (λ (ps : List (ℤ × ℕ)). ps ++ (d.k, which) ∷ []) i.numbered ∙ numbered_more defs d which long
          ∙ ap (λ (ds : List Definition). numbered 0 (numbers_of ds)) (sym more);
      judged = subst (λ (ds : List Definition). AreJudged ds c.first_fault-fault.result) (sym more) (c.first_fault-fault.ensures defs i.judged);
      reached = λ last post h. reach_behind bytes at end last post (FntDef d) f.0 tt (i.reached last post h);
    }

pub returns-in_default-cmd : goal.returns-in_default-cmd
returns-in_default-cmd c =
    let last = c.requires.reached.0 in
    let post = c.requires.reached.1 in
    let bytes = c.args.bytes.now in
    let at = c.loop-at.at in
    let end = c.in_ok-cmd.end in
    let f = c.in_ok-cmd.ensures.found in
    let none : (d : Def) → c.in_ok-cmd.cmd ≡ cmd.FntDef d → ⊥ = λ d is. c.in_default.ensures (def_view d) end (subst (λ (x : Cmd). SpelledTo bytes at end (view x)) is f.0) f.1 in
    record {
      found = tt;
      fault = not_ending bytes at end c.args.ends last post c.in_ok-cmd.cmd (not_filler c.in_ok-cmd.cmd c.in_default-cmd.not-Nop none) c.loop-at-test.true c.requires.trailer.0
          (c.loop-at.invariant.reached last post c.requires.reached.2) f.0;
    }

pub invariant_of-result : goal.invariant_of-result
invariant_of-result c = let i = c.loop-at.invariant in (i.stands, i.numbered, i.judged)

pub returns-clause-found : goal.returns-clause-found
returns-clause-found c =
    let bytes = c.args.bytes.now in
    let i = c.loop-at.invariant in
    let here : c.loop-at.at ≡ c.args.ends = omega (arith, i.inside, c.loop-at-test.false) in (
      refl,
      (
        subst (λ (n : ℕ). HoldsEnding bytes c.args.start n (definitions_at bytes c.loop-at.fonts.items)) here i.holds,
        λ last post h. subst (λ (n : ℕ). Reaches bytes n (reading Behind last post)) here (i.reached last post h),
      ),
    )
