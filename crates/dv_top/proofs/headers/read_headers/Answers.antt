use Rattle.std.proofs.Common.{◌≡◌, ◌+◌, ℕ, List, [], ◌∷◌, ◌++◌, Vec, Global, IfErr, arith, ap, sym, subst, ◌∙◌, get_or, map, take}
use Rattle.std.specs.Prelude.{vec_capacity, vec_len}
use Rattle.std.specs.List.{Contains}
use Rattle.std.proofs.lemmas.List.{map-append, take_more}
use Rattle.std.proofs.lemmas.Result.{err_from_is_err_and}
use Rattle.dv_base.specs.FileName.{text_of}
use Rattle.dv_top.specs.Headers.{HeldEach, NotHeld}
use Rattle.font_set.proofs.Steps.{keeps_on}
use Rattle.dv_top.proofs.HeldFiles.{held_before, held_more, name_among, not_held}
use Rattle.dv_top.proofs.headers.read_headers.Goals as goal

pub returns-in_err-file-clause-cause : goal.returns-in_err-file-clause-cause
returns-in_err-file-clause-cause g c =
    let told = g.S.Shelf.told in
    let names = c.args.names.now in
    let name = c.name-item.result in
    let among : Contains (map text_of names) (text_of name) = subst (λ n. Contains (map text_of names) (text_of n)) (sym c.name-item.is) (name_among names c.loop-name.name-index name c.loop-name-test.true) in
    let p = err_from_is_err_and c.from_residual-in_err-file.result c.from_residual-in_err-file.ensures.1 in
    rw (p.1, p.2) (not_held (map text_of names) (text_of name) (told c.args.shelf.now) (told c.loop-name.shelf) (told c.read_file.new.shelf) _ among c.loop-name.invariant.keeps c.in_err-file.ensures.cause)

pub loop-name-preserved : goal.loop-name-preserved
loop-name-preserved g c =
    let told = g.S.Shelf.told in
    let names = c.args.names.now in
    let i = c.loop-name.name-index in
    let name = c.name-item.result in
    let inv = c.loop-name.invariant in
    let count = inv.count in
    let next : map text_of (take (i + 1) names) ≡ map text_of (take i names) ++ text_of name ∷ [] =
    ap (map text_of) (take_more names i name c.loop-name-test.true ∙ ap (λ x. take i names ++ x ∷ []) (sym c.name-item.is)) ∙ map-append text_of (take i names) (name ∷ []) in
    let files : map (λ (f : Vec ℕ Global). f.items) c.push_reserved.new.self.items ≡ map (λ (f : Vec ℕ Global). f.items) c.loop-name.files.items ++ c.in_ok-file.file.items ∷ [] =
    ap (map (λ (f : Vec ℕ Global). f.items)) c.push_reserved.ensures.items ∙ map-append (λ (f : Vec ℕ Global). f.items) c.loop-name.files.items (c.in_ok-file.file ∷ []) in
    record {
      held =
          rw (next, files)
          (held_more (told c.args.shelf.now) _ _ _ _ inv.held (held_before (told c.args.shelf.now) (told c.loop-name.shelf) (text_of name) c.in_ok-file.file.items inv.keeps c.in_ok-file.ensures.bytes));
      count = omega (arith, count, c.push_reserved.ensures.len);
      room = c.push_reserved.ensures.capacity ∙ inv.room;
      keeps = keeps_on _ _ _ inv.keeps c.in_ok-file.ensures.keeps;
    }
