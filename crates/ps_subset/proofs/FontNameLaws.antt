-- The laws of the prolog's names for fonts and strings, as they are promised.
use Rattle.std.proofs.Common.{◌≡◌, refl, ap, subst, length, arith, ℕ, List}
use Rattle.std.proofs.lemmas.List.{append-nil}
use Rattle.ps_subset.specs.Token.{Token}
use Rattle.ps_subset.specs.State.{Machine, Event}
use Rattle.ps_subset.specs.Leads.{Meets}
use Rattle.ps_subset.specs.FontNameLaws.{BeginsFont, PutsGlyph, EndsFont, SetsFont, BuildsLetter, Shows, ShowsAndSteps, ShowsAndMoves, MovesAndKeeps, ShowsAndKeeps, ShowsAndAdds, ShowsNear, PushesArrays, PushesDelta, shown_events}
use Rattle.ps_subset.proofs.Steps.{value_goes}
use Rattle.ps_subset.proofs.FontLaws.{FB_goes, D_goes, E_goes, F_goes}
use Rattle.ps_subset.proofs.Show.{CB_goes, p_pixel}
use Rattle.ps_subset.proofs.Ways.{tail_pixel, short_pixel, y_pixel, b_pixel, M_pixel, near_pixel, short_stands, near_stands}

recast : {levels nest : ℕ} {t : Token} {m m' : Machine} {es fs : List Event} → es ≡ fs → Meets levels nest t m m' es → Meets levels nest t m m' fs
recast {levels} {nest} {t} {m} {m'} e h = subst (λ es. Meets levels nest t m m' es) e h

pub begins_font : BeginsFont
begins_font levels nest matrix fm fx en m k arrays old few room = FB_goes k arrays old few room

pub puts_glyph : PutsGlyph
puts_glyph levels nest matrix glyphs p code m xs rest k ops table is less room = D_goes code k ops table is less room

pub ends_font : EndsFont
ends_font levels nest matrix f d room room' below es es' m key rest k k' stack ops here fits there apart takes long = E_goes k k' stack ops here fits there apart takes long

pub sets_font : SetsFont
sets_font levels nest matrix d m rest k ops fid = F_goes k ops fid

pub builds_letter : BuildsLetter
builds_letter levels nest matrix d glyphs m rest who l k good ops table held now fresh room = CB_goes l k good ops table held now fresh room

pub shows : Shows
shows levels nest matrix m j key x y ls rest good c ops =
    let l = ap length ops in p_pixel j good key x y ls c.knows c.is c.held c.frame c.set c.place ops (omega (arith, l, c.room)) c.pushable

pub shows_and_steps : ShowsAndSteps
shows_and_steps levels nest matrix m j key short x y n ls rest good c ops is =
    let l = ap length ops in
    recast (append-nil (shown_events j key x y ls)) (short_pixel j good {rest = rest} c.knows c.is ls c.held c.frame c.set x y c.place (omega (arith, l, c.room)) c.pushable n short (short_stands n short is) ops)

pub shows_and_moves : ShowsAndMoves
shows_and_moves levels nest matrix m j key x y x' y' ls rest good c ops =
    let l = ap length ops in
    recast (append-nil (shown_events j key x y ls)) (y_pixel j good {rest = rest} c.knows c.is ls c.held c.frame c.set x y c.place (omega (arith, l, c.room)) c.pushable x' y' ops)

pub moves_and_keeps : MovesAndKeeps
moves_and_keeps levels nest matrix d room below es m j x y n rest good k top fits frame ops place long = tail_pixel j good k top fits frame x y n ops place long

pub shows_and_keeps : ShowsAndKeeps
shows_and_keeps levels nest matrix d room below es m j key x y n ls rest good c top fits ops =
    let l = ap length ops in
    recast (append-nil (shown_events j key x y ls)) (b_pixel j good {rest = rest} c.knows c.is ls c.held c.frame c.set x y c.place (omega (arith, l, c.room)) c.pushable top fits n ops)

pub shows_and_adds : ShowsAndAdds
shows_and_adds levels nest matrix d room below es m j key x y n delta ls rest good c top fits is ops =
    let l = ap length ops in
    recast (append-nil (shown_events j key x y ls)) (M_pixel j good {rest = rest} c.knows c.is ls c.held c.frame c.set x y c.place (omega (arith, l, c.room)) c.pushable top fits n delta ops is)

pub shows_near : ShowsNear
shows_near levels nest matrix d room below es m j key near x y n delta ls rest good c top fits is ops by =
    let l = ap length ops in
    recast (append-nil (shown_events j key x y ls)) (near_pixel j good {rest = rest} c.knows c.is ls c.held c.frame c.set x y c.place (omega (arith, l, c.room)) c.pushable top fits n delta near (near_stands n near by) ops is)

pub pushes_arrays : PushesArrays
pushes_arrays levels nest fm fx en m a room = (value_goes a.FM_stands (λ q n. refl) room, value_goes a.FX_stands (λ q n. refl) room, value_goes a.EN_stands (λ q n. refl) room)

pub pushes_delta : PushesDelta
pushes_delta levels nest m delta is room = value_goes is (λ q n. refl) room
