use Rattle.std.proofs.Common.{◌≡◌, ◌<◌, length, arith}
use Rattle.std.specs.Prelude.{slice_index}
use Rattle.std.proofs.lemmas.Result.{err_from_is_err_and}
use Rattle.pk_raster.proofs.Filed.{read_start, whole_file, bad_tail}
use Rattle.pk_raster.proofs.pk.Pk.read.Goals as goal
use Rattle.pk_raster.proofs.pk.Pk.read.Goals.{then-parts-test+else-bytes-at, else-parts-test}

pub parts-init : goal.parts-init
parts-init c =
    let e = c.in-Some.ensures in
    read_start c.args.bytes.now c.args.most c.in-Some.preamble.0 c.in-Some.preamble.1 c.in_ok-pk.pk c.in_ok-pk.ensures e.0 e.1 e.2

pub returns-in_err-read_tail-clause-none : goal.returns-in_err-read_tail-clause-none
returns-in_err-read_tail-clause-none c =
    let bytes = c.args.bytes.now in
    let at = c.parts.at in
    let stop : at < length bytes → slice_index bytes at ≡ 245 = elim c.parts-test.branch [ then-parts-test+else-bytes-at w ↦ λ h. w.if-bytes-at.false | else-parts-test w ↦ λ h. absurd (let l = w.parts-test.false in omega (arith, h, l)) ] in
    let p = err_from_is_err_and c.from_residual-in_err-read_tail.result c.from_residual-in_err-read_tail.ensures.1 in
    rw (p.1, p.2) (bad_tail bytes c.args.most c.parts.pk at c.in_err-read_tail.field-0.0 c.parts.invariant stop c.in_err-read_tail.ensures.err).none

pub returns-in_err-read_tail-clause-fault : goal.returns-in_err-read_tail-clause-fault
returns-in_err-read_tail-clause-fault c =
    let bytes = c.args.bytes.now in
    let at = c.parts.at in
    let stop : at < length bytes → slice_index bytes at ≡ 245 = elim c.parts-test.branch [ then-parts-test+else-bytes-at w ↦ λ h. w.if-bytes-at.false | else-parts-test w ↦ λ h. absurd (let l = w.parts-test.false in omega (arith, h, l)) ] in
    let p = err_from_is_err_and c.from_residual-in_err-read_tail.result c.from_residual-in_err-read_tail.ensures.1 in
    rw (p.1, p.2) (bad_tail bytes c.args.most c.parts.pk at c.in_err-read_tail.field-0.0 c.parts.invariant stop c.in_err-read_tail.ensures.err).says

pub returns-clause-found : goal.returns-clause-found
returns-clause-found c =
    let bytes = c.args.bytes.now in
    let at = c.parts.at in
    let here = c.in_ok-read_tail.ensures.some in
    let stop : slice_index bytes at ≡ 245 = elim c.parts-test.branch [ then-parts-test+else-bytes-at w ↦ w.if-bytes-at.false | else-parts-test w ↦ absurd (let l = w.parts-test.false in omega (arith, here, l)) ] in
    whole_file bytes c.args.most c.parts.pk at c.parts.invariant here stop c.in_ok-read_tail.ensures.nops
