use Rattle.std.proofs.Common.{◌≡◌, ◌<◌, ◌+◌, ◌-◌, ◌++◌, ℕ, List, drop, arith, subst}
use Rattle.std.proofs.Math.ListN.{drop_of_length-le}
use Rattle.dv_base.specs.TrayLaws.{kept_start, kept_more}
use Rattle.dvi_ops.specs.Following.{IsFirst}
use Rattle.dvi_doc.specs.Grammar.{AllInner}
use Rattle.dvi_ops.specs.Placed.{Lexes, Placed}
use Rattle.dvi_ops.specs.View.{view}
use Rattle.font_set.proofs.Growing.{extends_self}
use Rattle.font_set.proofs.Steps.{keeps_on}
use Rattle.dvitype_list.specs.Listing.{commands_run}
use Rattle.dvitype_list.specs.Widths.{setting}
use Rattle.dvitype_list.specs.declared.fault.ListFault.TheVariants as fault
use Rattle.dvitype_list.proofs.Going.{gathered_here, going_end, going_failed, going_next, going_start, inner_listed, inner_next, keeps_none}
use Rattle.dvitype_list.proofs.Widening.{any_held, any_on, any_self}
use Rattle.dvitype_list.proofs.listing.commands.Goals as goal

none_more : (n : ℕ) → n ≡ n + 0
none_more n = omega arith

pub loop-at-init : goal.loop-at-init
loop-at-init g c =
    let scene = c.args.scene.now in
    let bytes = c.args.body.now in
    let set = c.args.fonts.now in
    let seen = g.T.Tray.seen c.args.tray.now in
    let first = none_more c.args.first in
    record {
      inside = omega arith;
      ahead = subst (λ (n : ℕ). (cs : List Placed) × Lexes n c.args.body.now cs × AllInner cs) first c.requires.commands;
      keeps = kept_start _;
      shelf = keeps_none _;
      gains = any_self _ _;
      stands = c.requires.stands;
      goes = λ begun text st cs h k l. going_start (setting scene.conv scene.doc.now.fonts set) scene.detail cs (c.args.first + 0) bytes st set c.args.state.now begun seen c.args.out.now.kept.items text (subst (λ (n : ℕ). Lexes n bytes cs) first l) k h;
    }

pub quick_command-requires-clause-begun : goal.quick_command-requires-clause-begun
quick_command-requires-clause-begun g c = omega (arith, c.loop-at.invariant.keeps.begun_same, c.requires.begun)

pub quick_command-requires-clause-listed : goal.quick_command-requires-clause-listed
quick_command-requires-clause-listed g c =
    let inv = c.loop-at.invariant in
    inner_listed _ (inner_next (c.args.first + c.loop-at.at) _ _ _ inv.ahead.0 inv.ahead.2 (c.command_at-end.ensures.first (c.args.first + c.loop-at.at) inv.ahead.0 inv.ahead.1)).0

pub quick_command-requires-clause-stands : goal.quick_command-requires-clause-stands
quick_command-requires-clause-stands g c = c.loop-at.invariant.stands

pub command-requires-clause-begun : goal.command-requires-clause-begun
command-requires-clause-begun g c = omega (arith, c.quick_command.ensures.keeps.begun_same, c.loop-at.invariant.keeps.begun_same, c.requires.begun)

pub command-requires-clause-listed : goal.command-requires-clause-listed
command-requires-clause-listed g c =
    let inv = c.loop-at.invariant in
    inner_listed _ (inner_next (c.args.first + c.loop-at.at) _ _ _ inv.ahead.0 inv.ahead.2 (c.command_at-end.ensures.first (c.args.first + c.loop-at.at) inv.ahead.0 inv.ahead.1)).0

pub command-requires-clause-stands : goal.command-requires-clause-stands
command-requires-clause-stands g c =
    let inv = c.loop-at.invariant in
    let stayed = rw c.in-Ok-false.field-0-test at (c.in-Ok-false.ensures.ok (g.T.Tray.seen c.loop-at.tray) _ inv.stands.0 (gathered_here _ _) inv.stands.1) in
    (inv.stands.0, stayed.0)

-- the place behind the command, counted from the first
next_place : (first at end : ℕ) → at < end → first + at + (end - at) ≡ first + end
next_place first at end l = omega (arith, l)

pub returns-in-Err-clause-fault : goal.returns-in-Err-clause-fault
returns-in-Err-clause-fault g c = λ begun text st cs h k l.
    let scene = c.args.scene.now in
    let ds = scene.doc.now.fonts in
    let told = g.S.Shelf.told in
    let at = c.loop-at.at in
    let set = c.loop-at.fonts in
    let go = c.loop-at.invariant.goes begun text st cs h k l in
    let x = c.command_at-end.ensures.first (c.args.first + at) go.rest go.lexed in
    going_failed scene.conv ds set set (extends_self set) scene.detail cs (c.args.first + at) _ _ _ _ st c.loop-at.state begun (g.T.Tray.seen c.loop-at.tray) (g.T.Tray.seen c.quick_command.new.tray) _ c.quick_command.new.out.kept.items text
    (told c.args.shelf.now) (told c.loop-at.shelf) (told c.loop-at.shelf) fault.WriteFault c.loop-at.invariant.shelf go x
    (c.in-Err.ensures.cut begun (text ++ (commands_run (setting scene.conv ds set) scene.detail go.before st).text) go.ran.behind go.ran.gathered go.ran.stands)

pub returns-in-Err-clause-keeps : goal.returns-in-Err-clause-keeps
returns-in-Err-clause-keeps g c = kept_more _ _ _ c.loop-at.invariant.keeps c.quick_command.ensures.keeps

pub returns-in-Err-command-clause-fault : goal.returns-in-Err-command-clause-fault
returns-in-Err-command-clause-fault g c = λ begun text st cs h k l.
    let scene = c.args.scene.now in
    let ds = scene.doc.now.fonts in
    let told = g.S.Shelf.told in
    let at = c.loop-at.at in
    let go = c.loop-at.invariant.goes begun text st cs h k l in
    let x = c.command_at-end.ensures.first (c.args.first + at) go.rest go.lexed in
    let front = text ++ (commands_run (setting scene.conv ds c.loop-at.fonts) scene.detail go.before st).text in
    let left = rw c.in-Ok-false.field-0-test at (c.in-Ok-false.ensures.ok begun front go.ran.behind go.ran.gathered go.ran.stands) in
    going_failed scene.conv ds c.loop-at.fonts c.command.new.fonts c.command.ensures.gains.extends scene.detail cs (c.args.first + at) _ _ _ _ st c.loop-at.state begun (g.T.Tray.seen c.loop-at.tray) (g.T.Tray.seen c.command.new.tray) _ _ text
    (told c.args.shelf.now) (told c.loop-at.shelf) (told c.command.new.shelf) c.in-Err-command.fault c.loop-at.invariant.shelf go x
    (c.in-Err-command.ensures.fault begun front go.ran.behind left.1 left.0)

pub returns-in-Err-command-clause-gains : goal.returns-in-Err-command-clause-gains
returns-in-Err-command-clause-gains g c =
    let told = g.S.Shelf.told in
    any_on _ c.args.fonts.now c.loop-at.fonts c.command.new.fonts c.loop-at.invariant.gains (any_held _ _ _ _ c.loop-at.invariant.shelf.held_same c.command.ensures.gains)

pub returns-in-Err-command-clause-shelf : goal.returns-in-Err-command-clause-shelf
returns-in-Err-command-clause-shelf g c = keeps_on _ _ _ c.loop-at.invariant.shelf c.command.ensures.shelf

pub returns-in-Err-command-clause-keeps : goal.returns-in-Err-command-clause-keeps
returns-in-Err-command-clause-keeps g c = kept_more _ _ _ (kept_more _ _ _ c.loop-at.invariant.keeps c.quick_command.ensures.keeps) c.command.ensures.keeps

pub loop-at-preserved-in-Ok-true : goal.loop-at-preserved-in-Ok-true
loop-at-preserved-in-Ok-true g c =
    let scene = c.args.scene.now in
    let ds = scene.doc.now.fonts in
    let seen = g.T.Tray.seen in
    let at = c.loop-at.at in
    let set = c.loop-at.fonts in
    let inv = c.loop-at.invariant in
    let end = c.command_at-end.result.1 in
    let same = next_place c.args.first at end c.command_at-end.ensures.further in
    let first = c.command_at-end.ensures.first (c.args.first + at) inv.ahead.0 inv.ahead.1 in
    let more = rw c.in-Ok-true.field-0-test at (c.in-Ok-true.ensures.ok (seen c.loop-at.tray) _ inv.stands.0 (gathered_here _ _) inv.stands.1) in
    record {
      inside = c.command_at-end.ensures.within;
      ahead = (first.0, subst (λ (n : ℕ). Lexes n (drop end c.args.body.now) first.0) same first.2, (inner_next (c.args.first + at) _ _ _ inv.ahead.0 inv.ahead.2 first).1);
      keeps = kept_more _ _ _ inv.keeps c.quick_command.ensures.keeps;
      shelf = inv.shelf;
      gains = inv.gains;
      stands = (more.behind, more.stands);
      goes = λ begun text st cs h k l.
          let go = inv.goes begun text st cs h k l in
          let x = subst (λ (n : ℕ). IsFirst (c.args.first + at) (view c.command_at-end.result.0) n (drop end c.args.body.now) go.rest) same (c.command_at-end.ensures.first (c.args.first + at) go.rest go.lexed) in
          going_next scene.conv ds set set (extends_self set) scene.detail cs (c.args.first + at) (c.args.first + end) _ _ _ st c.loop-at.state c.quick_command.new.state begun (seen c.loop-at.tray) (seen c.quick_command.new.tray) _ _ text go x
          (rw c.in-Ok-true.field-0-test at (c.in-Ok-true.ensures.ok begun (text ++ (commands_run (setting scene.conv ds set) scene.detail go.before st).text) go.ran.behind go.ran.gathered go.ran.stands));
    }

pub loop-at-preserved : goal.loop-at-preserved
loop-at-preserved g c =
    let scene = c.args.scene.now in
    let ds = scene.doc.now.fonts in
    let seen = g.T.Tray.seen in
    let at = c.loop-at.at in
    let inv = c.loop-at.invariant in
    let end = c.command_at-end.result.1 in
    let same = next_place c.args.first at end c.command_at-end.ensures.further in
    let first = c.command_at-end.ensures.first (c.args.first + at) inv.ahead.0 inv.ahead.1 in
    let stayed = rw c.in-Ok-false.field-0-test at (c.in-Ok-false.ensures.ok (seen c.loop-at.tray) _ inv.stands.0 (gathered_here _ _) inv.stands.1) in
    let more = c.in_default.ensures.ok (seen c.loop-at.tray) _ inv.stands.0 stayed.1 stayed.0 in
    record {
      inside = c.command_at-end.ensures.within;
      ahead = (first.0, subst (λ (n : ℕ). Lexes n (drop end c.args.body.now) first.0) same first.2, (inner_next (c.args.first + at) _ _ _ inv.ahead.0 inv.ahead.2 first).1);
      keeps = kept_more _ _ _ (kept_more _ _ _ inv.keeps c.quick_command.ensures.keeps) c.command.ensures.keeps;
      shelf = keeps_on _ _ _ inv.shelf c.command.ensures.shelf;
      gains = any_on _ c.args.fonts.now c.loop-at.fonts c.command.new.fonts inv.gains (any_held _ _ _ _ inv.shelf.held_same c.command.ensures.gains);
      stands = (more.behind, more.stands);
      goes = λ begun text st cs h k l.
          let go = inv.goes begun text st cs h k l in
          let x = subst (λ (n : ℕ). IsFirst (c.args.first + at) (view c.command_at-end.result.0) n (drop end c.args.body.now) go.rest) same (c.command_at-end.ensures.first (c.args.first + at) go.rest go.lexed) in
          let front = text ++ (commands_run (setting scene.conv ds c.loop-at.fonts) scene.detail go.before st).text in
          let left = rw c.in-Ok-false.field-0-test at (c.in-Ok-false.ensures.ok begun front go.ran.behind go.ran.gathered go.ran.stands) in
          going_next scene.conv ds c.loop-at.fonts c.command.new.fonts c.command.ensures.gains.extends scene.detail cs (c.args.first + at) (c.args.first + end) _ _ _ st c.loop-at.state c.command.new.state begun (seen c.loop-at.tray) (seen c.command.new.tray) _ _ text go x
          (c.in_default.ensures.ok begun front go.ran.behind left.1 left.0);
    }

pub returns-clause-ok : goal.returns-clause-ok
returns-clause-ok g c = λ begun text st cs h k l.
    let scene = c.args.scene.now in
    going_end (setting scene.conv scene.doc.now.fonts c.loop-at.fonts) scene.detail cs _ _ st c.loop-at.fonts c.loop-at.state begun _ _ text (drop_of_length-le c.args.body.now c.loop-at-test.false) (c.loop-at.invariant.goes begun text st cs h k l)
