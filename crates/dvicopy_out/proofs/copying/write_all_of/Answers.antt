use Rattle.std.proofs.Common.{rules, ◌≡◌, ◌<◌, ◌+◌, ◌^◌, ◌++◌, ℕ, ℤ, negsuc, unsigned_abs, w32, List, arith, subst, sym, ap, ◌∙◌, length, length-append}
use Rattle.std.proofs.lemmas.List.{length-map}
use Rattle.std.specs.Prelude.{FitsSigned}
use Rattle.std.proofs.lemmas.Int.{to_z-of_z}
use Rattle.font_set.specs.Fonts.{FontSet}
use Rattle.dvicopy_out.specs.Spelled.{spelled}
use Rattle.dvicopy_out.specs.Copies.{Page, Work, back_commands, filling, front_commands, last_bop, pages_bytes}
use Rattle.dvicopy_out.specs.Numbered.{definitions}
use Rattle.dvicopy_out.specs.Leaves.{work_of}
use Rattle.dvicopy_out.specs.Pages.{copy_page, copy_pages}
use Rattle.dvicopy_out.specs.Sent.{Cut, Sends, Sent, cut_sends}
use Rattle.dvicopy_out.specs.Shown.{fonts_of, last_of, out_of, place_of}
use Rattle.dvicopy_out.proofs.Rows.{last_within}
use Rattle.dvicopy_out.proofs.Sending.{first_cut, second_cut, third_cut, whole_sends}
use Rattle.dvicopy_out.proofs.Walked.{begin_there}
use Rattle.dvicopy_out.proofs.copying.write_all_of.Goals as goal

pub returns-in_err-put-clause-sends : goal.returns-in_err-put-clause-sends
returns-in_err-put-clause-sends g c =
    let a = c.args.writer.now in
    let r = c.args.doc.now in
    let set = c.args.fonts.now in
    let grid = c.args.walker.now.grid in
    let w : Work = work_of r set c.args.mag in
    let ps : List Page = copy_pages grid set r c.args.pages.now in
    let front : List ℕ = spelled (front_commands w) in
    let pages : List ℕ = pages_bytes set (negsuc 0) (length front) ps in
    let last : ℤ = last_bop set (negsuc 0) (length front) ps in
    let back : List ℕ = spelled (back_commands w last (length front + length pages) (length ps)) in
    let ends : List ℕ = filling (length (front ++ pages ++ back)) in
    let long1 = length-append front pages in
    let long2 = length-append (front ++ pages) back in
    let long3 = length-append (front ++ pages ++ back) ends in
    let room = c.requires.room in
    let is = c.as_slice.ensures ∙ c.requires.front in
    let v = out_of {T = g.row.T.Denot} {G = g.T.Tray} a in
    let x = out_of {T = g.row.T.Denot} {G = g.T.Tray} c.put.new.self in
    cut_sends _ v x c.from_residual.result c.from_residual.ensures.0 (first_cut front pages back ends v x (subst (λ bs. Cut bs v x) is c.in_err-put.ensures.sends))

pub write_pages-requires-clause-begun : goal.write_pages-requires-clause-begun
write_pages-requires-clause-begun g c =
    let a = c.args.writer.now in
    let r = c.args.doc.now in
    let set = c.args.fonts.now in
    let grid = c.args.walker.now.grid in
    let w : Work = work_of r set c.args.mag in
    let ps : List Page = copy_pages grid set r c.args.pages.now in
    let front : List ℕ = spelled (front_commands w) in
    let pages : List ℕ = pages_bytes set (negsuc 0) (length front) ps in
    let last : ℤ = last_bop set (negsuc 0) (length front) ps in
    let back : List ℕ = spelled (back_commands w last (length front + length pages) (length ps)) in
    let ends : List ℕ = filling (length (front ++ pages ++ back)) in
    let long1 = length-append front pages in
    let long2 = length-append (front ++ pages) back in
    let long3 = length-append (front ++ pages ++ back) ends in
    let room = c.requires.room in
    let is = c.as_slice.ensures ∙ c.requires.front in
    let v = out_of {T = g.row.T.Denot} {G = g.T.Tray} a in
    let x = out_of {T = g.row.T.Denot} {G = g.T.Tray} c.put.new.self in
    let one : Sent front v x = subst (λ bs. Sent bs v x) is c.in_ok-put.ensures.sends in
    let begun1 = begin_there front v x c.requires.begun one in
    let place1 : place_of {T = g.row.T.Denot} {G = g.T.Tray} c.put.new.self ≡ length front = omega (arith, c.in_ok-put.ensures.place, c.requires.starts, ap (λ (bs : List ℕ). length bs) is, long1, long2, long3, room) in
    let fonts1 : fonts_of {T = g.row.T.Denot} {G = g.T.Tray} c.put.new.self ≡ set = c.in_ok-put.ensures.holds.fonts_same ∙ c.requires.fonts in
    begun1

pub write_pages-requires-clause-fonts : goal.write_pages-requires-clause-fonts
write_pages-requires-clause-fonts g c =
    c.in_ok-put.ensures.holds.fonts_same ∙ c.requires.fonts

pub write_pages-requires-clause-last : goal.write_pages-requires-clause-last
write_pages-requires-clause-last g c =
    c.in_ok-put.ensures.last ∙ c.requires.last

pub write_pages-requires-clause-room : goal.write_pages-requires-clause-room
write_pages-requires-clause-room g c =
    let a = c.args.writer.now in
    let r = c.args.doc.now in
    let set = c.args.fonts.now in
    let grid = c.args.walker.now.grid in
    let w : Work = work_of r set c.args.mag in
    let ps : List Page = copy_pages grid set r c.args.pages.now in
    let front : List ℕ = spelled (front_commands w) in
    let pages : List ℕ = pages_bytes set (negsuc 0) (length front) ps in
    let last : ℤ = last_bop set (negsuc 0) (length front) ps in
    let back : List ℕ = spelled (back_commands w last (length front + length pages) (length ps)) in
    let ends : List ℕ = filling (length (front ++ pages ++ back)) in
    let long1 = length-append front pages in
    let long2 = length-append (front ++ pages) back in
    let long3 = length-append (front ++ pages ++ back) ends in
    let room = c.requires.room in
    let is = c.as_slice.ensures ∙ c.requires.front in
    let v = out_of {T = g.row.T.Denot} {G = g.T.Tray} a in
    let x = out_of {T = g.row.T.Denot} {G = g.T.Tray} c.put.new.self in
    let one : Sent front v x = subst (λ bs. Sent bs v x) is c.in_ok-put.ensures.sends in
    let begun1 = begin_there front v x c.requires.begun one in
    let place1 : place_of {T = g.row.T.Denot} {G = g.T.Tray} c.put.new.self ≡ length front = omega (arith, c.in_ok-put.ensures.place, c.requires.starts, ap (λ (bs : List ℕ). length bs) is, long1, long2, long3, room) in
    let fonts1 : fonts_of {T = g.row.T.Denot} {G = g.T.Tray} c.put.new.self ≡ set = c.in_ok-put.ensures.holds.fonts_same ∙ c.requires.fonts in
    subst (λ (n : ℕ). n + length (pages_bytes set (negsuc 0) n ps) < 2 ^ 31) (sym place1) (omega (arith, long1, long2, long3, room))

pub returns-in_err-write_pages-clause-sends : goal.returns-in_err-write_pages-clause-sends
returns-in_err-write_pages-clause-sends g c =
    let a = c.args.writer.now in
    let r = c.args.doc.now in
    let set = c.args.fonts.now in
    let grid = c.args.walker.now.grid in
    let w : Work = work_of r set c.args.mag in
    let ps : List Page = copy_pages grid set r c.args.pages.now in
    let front : List ℕ = spelled (front_commands w) in
    let pages : List ℕ = pages_bytes set (negsuc 0) (length front) ps in
    let last : ℤ = last_bop set (negsuc 0) (length front) ps in
    let back : List ℕ = spelled (back_commands w last (length front + length pages) (length ps)) in
    let ends : List ℕ = filling (length (front ++ pages ++ back)) in
    let long1 = length-append front pages in
    let long2 = length-append (front ++ pages) back in
    let long3 = length-append (front ++ pages ++ back) ends in
    let room = c.requires.room in
    let is = c.as_slice.ensures ∙ c.requires.front in
    let v = out_of {T = g.row.T.Denot} {G = g.T.Tray} a in
    let x = out_of {T = g.row.T.Denot} {G = g.T.Tray} c.put.new.self in
    let one : Sent front v x = subst (λ bs. Sent bs v x) is c.in_ok-put.ensures.sends in
    let begun1 = begin_there front v x c.requires.begun one in
    let place1 : place_of {T = g.row.T.Denot} {G = g.T.Tray} c.put.new.self ≡ length front = omega (arith, c.in_ok-put.ensures.place, c.requires.starts, ap (λ (bs : List ℕ). length bs) is, long1, long2, long3, room) in
    let fonts1 : fonts_of {T = g.row.T.Denot} {G = g.T.Tray} c.put.new.self ≡ set = c.in_ok-put.ensures.holds.fonts_same ∙ c.requires.fonts in
    let y = out_of {T = g.row.T.Denot} {G = g.T.Tray} c.write_pages.new.writer in
    cut_sends _ v y c.from_residual-in_err-write_pages.result c.from_residual-in_err-write_pages.ensures.0
    (second_cut front pages back ends v x y one (subst (λ (n : ℕ). Cut (pages_bytes set (negsuc 0) n ps) x y) place1 c.in_err-write_pages.ensures.sends))

pub write_back-requires-clause-begun : goal.write_back-requires-clause-begun
write_back-requires-clause-begun g c =
    let a = c.args.writer.now in
    let r = c.args.doc.now in
    let set = c.args.fonts.now in
    let grid = c.args.walker.now.grid in
    let w : Work = work_of r set c.args.mag in
    let ps : List Page = copy_pages grid set r c.args.pages.now in
    let front : List ℕ = spelled (front_commands w) in
    let pages : List ℕ = pages_bytes set (negsuc 0) (length front) ps in
    let last : ℤ = last_bop set (negsuc 0) (length front) ps in
    let back : List ℕ = spelled (back_commands w last (length front + length pages) (length ps)) in
    let ends : List ℕ = filling (length (front ++ pages ++ back)) in
    let long1 = length-append front pages in
    let long2 = length-append (front ++ pages) back in
    let long3 = length-append (front ++ pages ++ back) ends in
    let room = c.requires.room in
    let is = c.as_slice.ensures ∙ c.requires.front in
    let v = out_of {T = g.row.T.Denot} {G = g.T.Tray} a in
    let x = out_of {T = g.row.T.Denot} {G = g.T.Tray} c.put.new.self in
    let one : Sent front v x = subst (λ bs. Sent bs v x) is c.in_ok-put.ensures.sends in
    let begun1 = begin_there front v x c.requires.begun one in
    let place1 : place_of {T = g.row.T.Denot} {G = g.T.Tray} c.put.new.self ≡ length front = omega (arith, c.in_ok-put.ensures.place, c.requires.starts, ap (λ (bs : List ℕ). length bs) is, long1, long2, long3, room) in
    let fonts1 : fonts_of {T = g.row.T.Denot} {G = g.T.Tray} c.put.new.self ≡ set = c.in_ok-put.ensures.holds.fonts_same ∙ c.requires.fonts in
    let y = out_of {T = g.row.T.Denot} {G = g.T.Tray} c.write_pages.new.writer in
    let two : Sent pages x y = subst (λ (n : ℕ). Sent (pages_bytes set (negsuc 0) n ps) x y) place1 c.in_ok-write_pages.ensures.sends in
    let begun2 = begin_there pages x y begun1 two in
    let here2 = ap (λ (n : ℕ). n + length (pages_bytes set (negsuc 0) n ps)) place1 in
    let place2 : place_of {T = g.row.T.Denot} {G = g.T.Tray} c.write_pages.new.writer ≡ length front + length pages = c.in_ok-write_pages.ensures.place ∙ here2 in
    let last2 : last_of {T = g.row.T.Denot} {G = g.T.Tray} c.write_pages.new.writer ≡ last = c.in_ok-write_pages.ensures.last ∙ ap (λ (n : ℕ). last_bop set (negsuc 0) n ps) place1 in
    let fonts2 : fonts_of {T = g.row.T.Denot} {G = g.T.Tray} c.write_pages.new.writer ≡ set = c.in_ok-write_pages.ensures.holds.fonts_same ∙ fonts1 in
    let count : length c.args.pages.now ≡ length ps = sym (length-map c.args.pages.now (copy_page grid set r)) in
    let least : unsigned_abs (negsuc 0) < 2 ^ 31 = search rules in
    let within = last_within set (negsuc 0) (length front) (2 ^ 31) ps least (omega (arith, long1, long2, long3, room)) in
    let hm : FitsSigned w32 c.args.mag = search rules in
    let text : spelled (back_commands (work_of r (fonts_of {T = g.row.T.Denot} {G = g.T.Tray} c.write_pages.new.writer) c.args.mag) (last_of {T = g.row.T.Denot} {G = g.T.Tray} c.write_pages.new.writer) (place_of {T = g.row.T.Denot} {G = g.T.Tray} c.write_pages.new.writer) (length c.args.pages.now)) ≡ back = λ i. spelled (back_commands (work_of r (fonts2 i) c.args.mag) (last2 i) (place2 i) (count i)) in
    begun2

pub write_back-requires-clause-definitions : goal.write_back-requires-clause-definitions
write_back-requires-clause-definitions g c =
    let a = c.args.writer.now in
    let r = c.args.doc.now in
    let set = c.args.fonts.now in
    let grid = c.args.walker.now.grid in
    let w : Work = work_of r set c.args.mag in
    let ps : List Page = copy_pages grid set r c.args.pages.now in
    let front : List ℕ = spelled (front_commands w) in
    let pages : List ℕ = pages_bytes set (negsuc 0) (length front) ps in
    let last : ℤ = last_bop set (negsuc 0) (length front) ps in
    let back : List ℕ = spelled (back_commands w last (length front + length pages) (length ps)) in
    let ends : List ℕ = filling (length (front ++ pages ++ back)) in
    let long1 = length-append front pages in
    let long2 = length-append (front ++ pages) back in
    let long3 = length-append (front ++ pages ++ back) ends in
    let room = c.requires.room in
    let is = c.as_slice.ensures ∙ c.requires.front in
    let v = out_of {T = g.row.T.Denot} {G = g.T.Tray} a in
    let x = out_of {T = g.row.T.Denot} {G = g.T.Tray} c.put.new.self in
    let one : Sent front v x = subst (λ bs. Sent bs v x) is c.in_ok-put.ensures.sends in
    let begun1 = begin_there front v x c.requires.begun one in
    let place1 : place_of {T = g.row.T.Denot} {G = g.T.Tray} c.put.new.self ≡ length front = omega (arith, c.in_ok-put.ensures.place, c.requires.starts, ap (λ (bs : List ℕ). length bs) is, long1, long2, long3, room) in
    let fonts1 : fonts_of {T = g.row.T.Denot} {G = g.T.Tray} c.put.new.self ≡ set = c.in_ok-put.ensures.holds.fonts_same ∙ c.requires.fonts in
    let y = out_of {T = g.row.T.Denot} {G = g.T.Tray} c.write_pages.new.writer in
    let two : Sent pages x y = subst (λ (n : ℕ). Sent (pages_bytes set (negsuc 0) n ps) x y) place1 c.in_ok-write_pages.ensures.sends in
    let begun2 = begin_there pages x y begun1 two in
    let here2 = ap (λ (n : ℕ). n + length (pages_bytes set (negsuc 0) n ps)) place1 in
    let place2 : place_of {T = g.row.T.Denot} {G = g.T.Tray} c.write_pages.new.writer ≡ length front + length pages = c.in_ok-write_pages.ensures.place ∙ here2 in
    let last2 : last_of {T = g.row.T.Denot} {G = g.T.Tray} c.write_pages.new.writer ≡ last = c.in_ok-write_pages.ensures.last ∙ ap (λ (n : ℕ). last_bop set (negsuc 0) n ps) place1 in
    let fonts2 : fonts_of {T = g.row.T.Denot} {G = g.T.Tray} c.write_pages.new.writer ≡ set = c.in_ok-write_pages.ensures.holds.fonts_same ∙ fonts1 in
    let count : length c.args.pages.now ≡ length ps = sym (length-map c.args.pages.now (copy_page grid set r)) in
    let least : unsigned_abs (negsuc 0) < 2 ^ 31 = search rules in
    let within = last_within set (negsuc 0) (length front) (2 ^ 31) ps least (omega (arith, long1, long2, long3, room)) in
    let hm : FitsSigned w32 c.args.mag = search rules in
    let text : spelled (back_commands (work_of r (fonts_of {T = g.row.T.Denot} {G = g.T.Tray} c.write_pages.new.writer) c.args.mag) (last_of {T = g.row.T.Denot} {G = g.T.Tray} c.write_pages.new.writer) (place_of {T = g.row.T.Denot} {G = g.T.Tray} c.write_pages.new.writer) (length c.args.pages.now)) ≡ back = λ i. spelled (back_commands (work_of r (fonts2 i) c.args.mag) (last2 i) (place2 i) (count i)) in
    c.requires.definitions ∙ ap (λ (s : FontSet). spelled (definitions s)) (sym fonts2)

pub write_back-requires-clause-place : goal.write_back-requires-clause-place
write_back-requires-clause-place g c =
    let a = c.args.writer.now in
    let r = c.args.doc.now in
    let set = c.args.fonts.now in
    let grid = c.args.walker.now.grid in
    let w : Work = work_of r set c.args.mag in
    let ps : List Page = copy_pages grid set r c.args.pages.now in
    let front : List ℕ = spelled (front_commands w) in
    let pages : List ℕ = pages_bytes set (negsuc 0) (length front) ps in
    let last : ℤ = last_bop set (negsuc 0) (length front) ps in
    let back : List ℕ = spelled (back_commands w last (length front + length pages) (length ps)) in
    let ends : List ℕ = filling (length (front ++ pages ++ back)) in
    let long1 = length-append front pages in
    let long2 = length-append (front ++ pages) back in
    let long3 = length-append (front ++ pages ++ back) ends in
    let room = c.requires.room in
    let is = c.as_slice.ensures ∙ c.requires.front in
    let v = out_of {T = g.row.T.Denot} {G = g.T.Tray} a in
    let x = out_of {T = g.row.T.Denot} {G = g.T.Tray} c.put.new.self in
    let one : Sent front v x = subst (λ bs. Sent bs v x) is c.in_ok-put.ensures.sends in
    let begun1 = begin_there front v x c.requires.begun one in
    let place1 : place_of {T = g.row.T.Denot} {G = g.T.Tray} c.put.new.self ≡ length front = omega (arith, c.in_ok-put.ensures.place, c.requires.starts, ap (λ (bs : List ℕ). length bs) is, long1, long2, long3, room) in
    let fonts1 : fonts_of {T = g.row.T.Denot} {G = g.T.Tray} c.put.new.self ≡ set = c.in_ok-put.ensures.holds.fonts_same ∙ c.requires.fonts in
    let y = out_of {T = g.row.T.Denot} {G = g.T.Tray} c.write_pages.new.writer in
    let two : Sent pages x y = subst (λ (n : ℕ). Sent (pages_bytes set (negsuc 0) n ps) x y) place1 c.in_ok-write_pages.ensures.sends in
    let begun2 = begin_there pages x y begun1 two in
    let here2 = ap (λ (n : ℕ). n + length (pages_bytes set (negsuc 0) n ps)) place1 in
    let place2 : place_of {T = g.row.T.Denot} {G = g.T.Tray} c.write_pages.new.writer ≡ length front + length pages = c.in_ok-write_pages.ensures.place ∙ here2 in
    let last2 : last_of {T = g.row.T.Denot} {G = g.T.Tray} c.write_pages.new.writer ≡ last = c.in_ok-write_pages.ensures.last ∙ ap (λ (n : ℕ). last_bop set (negsuc 0) n ps) place1 in
    let fonts2 : fonts_of {T = g.row.T.Denot} {G = g.T.Tray} c.write_pages.new.writer ≡ set = c.in_ok-write_pages.ensures.holds.fonts_same ∙ fonts1 in
    let count : length c.args.pages.now ≡ length ps = sym (length-map c.args.pages.now (copy_page grid set r)) in
    let least : unsigned_abs (negsuc 0) < 2 ^ 31 = search rules in
    let within = last_within set (negsuc 0) (length front) (2 ^ 31) ps least (omega (arith, long1, long2, long3, room)) in
    let hm : FitsSigned w32 c.args.mag = search rules in
    let text : spelled (back_commands (work_of r (fonts_of {T = g.row.T.Denot} {G = g.T.Tray} c.write_pages.new.writer) c.args.mag) (last_of {T = g.row.T.Denot} {G = g.T.Tray} c.write_pages.new.writer) (place_of {T = g.row.T.Denot} {G = g.T.Tray} c.write_pages.new.writer) (length c.args.pages.now)) ≡ back = λ i. spelled (back_commands (work_of r (fonts2 i) c.args.mag) (last2 i) (place2 i) (count i)) in
    omega (arith, place2, long1, long2, long3, room)

pub write_back-requires-clause-last : goal.write_back-requires-clause-last
write_back-requires-clause-last g c =
    let a = c.args.writer.now in
    let r = c.args.doc.now in
    let set = c.args.fonts.now in
    let grid = c.args.walker.now.grid in
    let w : Work = work_of r set c.args.mag in
    let ps : List Page = copy_pages grid set r c.args.pages.now in
    let front : List ℕ = spelled (front_commands w) in
    let pages : List ℕ = pages_bytes set (negsuc 0) (length front) ps in
    let last : ℤ = last_bop set (negsuc 0) (length front) ps in
    let back : List ℕ = spelled (back_commands w last (length front + length pages) (length ps)) in
    let ends : List ℕ = filling (length (front ++ pages ++ back)) in
    let long1 = length-append front pages in
    let long2 = length-append (front ++ pages) back in
    let long3 = length-append (front ++ pages ++ back) ends in
    let room = c.requires.room in
    let is = c.as_slice.ensures ∙ c.requires.front in
    let v = out_of {T = g.row.T.Denot} {G = g.T.Tray} a in
    let x = out_of {T = g.row.T.Denot} {G = g.T.Tray} c.put.new.self in
    let one : Sent front v x = subst (λ bs. Sent bs v x) is c.in_ok-put.ensures.sends in
    let begun1 = begin_there front v x c.requires.begun one in
    let place1 : place_of {T = g.row.T.Denot} {G = g.T.Tray} c.put.new.self ≡ length front = omega (arith, c.in_ok-put.ensures.place, c.requires.starts, ap (λ (bs : List ℕ). length bs) is, long1, long2, long3, room) in
    let fonts1 : fonts_of {T = g.row.T.Denot} {G = g.T.Tray} c.put.new.self ≡ set = c.in_ok-put.ensures.holds.fonts_same ∙ c.requires.fonts in
    let y = out_of {T = g.row.T.Denot} {G = g.T.Tray} c.write_pages.new.writer in
    let two : Sent pages x y = subst (λ (n : ℕ). Sent (pages_bytes set (negsuc 0) n ps) x y) place1 c.in_ok-write_pages.ensures.sends in
    let begun2 = begin_there pages x y begun1 two in
    let here2 = ap (λ (n : ℕ). n + length (pages_bytes set (negsuc 0) n ps)) place1 in
    let place2 : place_of {T = g.row.T.Denot} {G = g.T.Tray} c.write_pages.new.writer ≡ length front + length pages = c.in_ok-write_pages.ensures.place ∙ here2 in
    let last2 : last_of {T = g.row.T.Denot} {G = g.T.Tray} c.write_pages.new.writer ≡ last = c.in_ok-write_pages.ensures.last ∙ ap (λ (n : ℕ). last_bop set (negsuc 0) n ps) place1 in
    let fonts2 : fonts_of {T = g.row.T.Denot} {G = g.T.Tray} c.write_pages.new.writer ≡ set = c.in_ok-write_pages.ensures.holds.fonts_same ∙ fonts1 in
    let count : length c.args.pages.now ≡ length ps = sym (length-map c.args.pages.now (copy_page grid set r)) in
    let least : unsigned_abs (negsuc 0) < 2 ^ 31 = search rules in
    let within = last_within set (negsuc 0) (length front) (2 ^ 31) ps least (omega (arith, long1, long2, long3, room)) in
    let hm : FitsSigned w32 c.args.mag = search rules in
    let text : spelled (back_commands (work_of r (fonts_of {T = g.row.T.Denot} {G = g.T.Tray} c.write_pages.new.writer) c.args.mag) (last_of {T = g.row.T.Denot} {G = g.T.Tray} c.write_pages.new.writer) (place_of {T = g.row.T.Denot} {G = g.T.Tray} c.write_pages.new.writer) (length c.args.pages.now)) ≡ back = λ i. spelled (back_commands (work_of r (fonts2 i) c.args.mag) (last2 i) (place2 i) (count i)) in
    subst (λ (n : ℤ). unsigned_abs n < 2 ^ 31) (sym last2) within

pub returns-in_err-write_back-clause-sends : goal.returns-in_err-write_back-clause-sends
returns-in_err-write_back-clause-sends g c =
    let a = c.args.writer.now in
    let r = c.args.doc.now in
    let set = c.args.fonts.now in
    let grid = c.args.walker.now.grid in
    let w : Work = work_of r set c.args.mag in
    let ps : List Page = copy_pages grid set r c.args.pages.now in
    let front : List ℕ = spelled (front_commands w) in
    let pages : List ℕ = pages_bytes set (negsuc 0) (length front) ps in
    let last : ℤ = last_bop set (negsuc 0) (length front) ps in
    let back : List ℕ = spelled (back_commands w last (length front + length pages) (length ps)) in
    let ends : List ℕ = filling (length (front ++ pages ++ back)) in
    let long1 = length-append front pages in
    let long2 = length-append (front ++ pages) back in
    let long3 = length-append (front ++ pages ++ back) ends in
    let room = c.requires.room in
    let is = c.as_slice.ensures ∙ c.requires.front in
    let v = out_of {T = g.row.T.Denot} {G = g.T.Tray} a in
    let x = out_of {T = g.row.T.Denot} {G = g.T.Tray} c.put.new.self in
    let one : Sent front v x = subst (λ bs. Sent bs v x) is c.in_ok-put.ensures.sends in
    let begun1 = begin_there front v x c.requires.begun one in
    let place1 : place_of {T = g.row.T.Denot} {G = g.T.Tray} c.put.new.self ≡ length front = omega (arith, c.in_ok-put.ensures.place, c.requires.starts, ap (λ (bs : List ℕ). length bs) is, long1, long2, long3, room) in
    let fonts1 : fonts_of {T = g.row.T.Denot} {G = g.T.Tray} c.put.new.self ≡ set = c.in_ok-put.ensures.holds.fonts_same ∙ c.requires.fonts in
    let y = out_of {T = g.row.T.Denot} {G = g.T.Tray} c.write_pages.new.writer in
    let two : Sent pages x y = subst (λ (n : ℕ). Sent (pages_bytes set (negsuc 0) n ps) x y) place1 c.in_ok-write_pages.ensures.sends in
    let begun2 = begin_there pages x y begun1 two in
    let here2 = ap (λ (n : ℕ). n + length (pages_bytes set (negsuc 0) n ps)) place1 in
    let place2 : place_of {T = g.row.T.Denot} {G = g.T.Tray} c.write_pages.new.writer ≡ length front + length pages = c.in_ok-write_pages.ensures.place ∙ here2 in
    let last2 : last_of {T = g.row.T.Denot} {G = g.T.Tray} c.write_pages.new.writer ≡ last = c.in_ok-write_pages.ensures.last ∙ ap (λ (n : ℕ). last_bop set (negsuc 0) n ps) place1 in
    let fonts2 : fonts_of {T = g.row.T.Denot} {G = g.T.Tray} c.write_pages.new.writer ≡ set = c.in_ok-write_pages.ensures.holds.fonts_same ∙ fonts1 in
    let count : length c.args.pages.now ≡ length ps = sym (length-map c.args.pages.now (copy_page grid set r)) in
    let least : unsigned_abs (negsuc 0) < 2 ^ 31 = search rules in
    let within = last_within set (negsuc 0) (length front) (2 ^ 31) ps least (omega (arith, long1, long2, long3, room)) in
    let hm : FitsSigned w32 c.args.mag = search rules in
    let text : spelled (back_commands (work_of r (fonts_of {T = g.row.T.Denot} {G = g.T.Tray} c.write_pages.new.writer) c.args.mag) (last_of {T = g.row.T.Denot} {G = g.T.Tray} c.write_pages.new.writer) (place_of {T = g.row.T.Denot} {G = g.T.Tray} c.write_pages.new.writer) (length c.args.pages.now)) ≡ back = λ i. spelled (back_commands (work_of r (fonts2 i) c.args.mag) (last2 i) (place2 i) (count i)) in
    let z = out_of {T = g.row.T.Denot} {G = g.T.Tray} c.write_back.new.writer in
    cut_sends _ v z c.from_residual-in_err-write_back.result c.from_residual-in_err-write_back.ensures.0
    (third_cut front pages back ends v x y z one two (subst (λ bs. Cut bs y z) text (simp (to_z-of_z w32 c.args.mag hm) at c.in_err-write_back.ensures.sends)))

pub write_end-requires-clause-begun : goal.write_end-requires-clause-begun
write_end-requires-clause-begun g c =
    let a = c.args.writer.now in
    let r = c.args.doc.now in
    let set = c.args.fonts.now in
    let grid = c.args.walker.now.grid in
    let w : Work = work_of r set c.args.mag in
    let ps : List Page = copy_pages grid set r c.args.pages.now in
    let front : List ℕ = spelled (front_commands w) in
    let pages : List ℕ = pages_bytes set (negsuc 0) (length front) ps in
    let last : ℤ = last_bop set (negsuc 0) (length front) ps in
    let back : List ℕ = spelled (back_commands w last (length front + length pages) (length ps)) in
    let ends : List ℕ = filling (length (front ++ pages ++ back)) in
    let long1 = length-append front pages in
    let long2 = length-append (front ++ pages) back in
    let long3 = length-append (front ++ pages ++ back) ends in
    let room = c.requires.room in
    let is = c.as_slice.ensures ∙ c.requires.front in
    let v = out_of {T = g.row.T.Denot} {G = g.T.Tray} a in
    let x = out_of {T = g.row.T.Denot} {G = g.T.Tray} c.put.new.self in
    let one : Sent front v x = subst (λ bs. Sent bs v x) is c.in_ok-put.ensures.sends in
    let begun1 = begin_there front v x c.requires.begun one in
    let place1 : place_of {T = g.row.T.Denot} {G = g.T.Tray} c.put.new.self ≡ length front = omega (arith, c.in_ok-put.ensures.place, c.requires.starts, ap (λ (bs : List ℕ). length bs) is, long1, long2, long3, room) in
    let fonts1 : fonts_of {T = g.row.T.Denot} {G = g.T.Tray} c.put.new.self ≡ set = c.in_ok-put.ensures.holds.fonts_same ∙ c.requires.fonts in
    let y = out_of {T = g.row.T.Denot} {G = g.T.Tray} c.write_pages.new.writer in
    let two : Sent pages x y = subst (λ (n : ℕ). Sent (pages_bytes set (negsuc 0) n ps) x y) place1 c.in_ok-write_pages.ensures.sends in
    let begun2 = begin_there pages x y begun1 two in
    let here2 = ap (λ (n : ℕ). n + length (pages_bytes set (negsuc 0) n ps)) place1 in
    let place2 : place_of {T = g.row.T.Denot} {G = g.T.Tray} c.write_pages.new.writer ≡ length front + length pages = c.in_ok-write_pages.ensures.place ∙ here2 in
    let last2 : last_of {T = g.row.T.Denot} {G = g.T.Tray} c.write_pages.new.writer ≡ last = c.in_ok-write_pages.ensures.last ∙ ap (λ (n : ℕ). last_bop set (negsuc 0) n ps) place1 in
    let fonts2 : fonts_of {T = g.row.T.Denot} {G = g.T.Tray} c.write_pages.new.writer ≡ set = c.in_ok-write_pages.ensures.holds.fonts_same ∙ fonts1 in
    let count : length c.args.pages.now ≡ length ps = sym (length-map c.args.pages.now (copy_page grid set r)) in
    let least : unsigned_abs (negsuc 0) < 2 ^ 31 = search rules in
    let within = last_within set (negsuc 0) (length front) (2 ^ 31) ps least (omega (arith, long1, long2, long3, room)) in
    let hm : FitsSigned w32 c.args.mag = search rules in
    let text : spelled (back_commands (work_of r (fonts_of {T = g.row.T.Denot} {G = g.T.Tray} c.write_pages.new.writer) c.args.mag) (last_of {T = g.row.T.Denot} {G = g.T.Tray} c.write_pages.new.writer) (place_of {T = g.row.T.Denot} {G = g.T.Tray} c.write_pages.new.writer) (length c.args.pages.now)) ≡ back = λ i. spelled (back_commands (work_of r (fonts2 i) c.args.mag) (last2 i) (place2 i) (count i)) in
    let z = out_of {T = g.row.T.Denot} {G = g.T.Tray} c.write_back.new.writer in
    let three : Sent back y z = subst (λ bs. Sent bs y z) text (simp (to_z-of_z w32 c.args.mag hm) at c.in_ok-write_back.ensures.sends) in
    let begun3 = begin_there back y z begun2 three in
    let said3 = ap (λ (bs : List ℕ). length bs) text in
    let place3 : place_of {T = g.row.T.Denot} {G = g.T.Tray} c.write_back.new.writer ≡ length (front ++ pages ++ back) = omega (arith, (simp (to_z-of_z w32 c.args.mag hm) at c.in_ok-write_back.ensures.place), said3, place2, long1, long2, long3, room) in
    begun3

pub write_end-requires-clause-place : goal.write_end-requires-clause-place
write_end-requires-clause-place g c =
    let a = c.args.writer.now in
    let r = c.args.doc.now in
    let set = c.args.fonts.now in
    let grid = c.args.walker.now.grid in
    let w : Work = work_of r set c.args.mag in
    let ps : List Page = copy_pages grid set r c.args.pages.now in
    let front : List ℕ = spelled (front_commands w) in
    let pages : List ℕ = pages_bytes set (negsuc 0) (length front) ps in
    let last : ℤ = last_bop set (negsuc 0) (length front) ps in
    let back : List ℕ = spelled (back_commands w last (length front + length pages) (length ps)) in
    let ends : List ℕ = filling (length (front ++ pages ++ back)) in
    let long1 = length-append front pages in
    let long2 = length-append (front ++ pages) back in
    let long3 = length-append (front ++ pages ++ back) ends in
    let room = c.requires.room in
    let is = c.as_slice.ensures ∙ c.requires.front in
    let v = out_of {T = g.row.T.Denot} {G = g.T.Tray} a in
    let x = out_of {T = g.row.T.Denot} {G = g.T.Tray} c.put.new.self in
    let one : Sent front v x = subst (λ bs. Sent bs v x) is c.in_ok-put.ensures.sends in
    let begun1 = begin_there front v x c.requires.begun one in
    let place1 : place_of {T = g.row.T.Denot} {G = g.T.Tray} c.put.new.self ≡ length front = omega (arith, c.in_ok-put.ensures.place, c.requires.starts, ap (λ (bs : List ℕ). length bs) is, long1, long2, long3, room) in
    let fonts1 : fonts_of {T = g.row.T.Denot} {G = g.T.Tray} c.put.new.self ≡ set = c.in_ok-put.ensures.holds.fonts_same ∙ c.requires.fonts in
    let y = out_of {T = g.row.T.Denot} {G = g.T.Tray} c.write_pages.new.writer in
    let two : Sent pages x y = subst (λ (n : ℕ). Sent (pages_bytes set (negsuc 0) n ps) x y) place1 c.in_ok-write_pages.ensures.sends in
    let begun2 = begin_there pages x y begun1 two in
    let here2 = ap (λ (n : ℕ). n + length (pages_bytes set (negsuc 0) n ps)) place1 in
    let place2 : place_of {T = g.row.T.Denot} {G = g.T.Tray} c.write_pages.new.writer ≡ length front + length pages = c.in_ok-write_pages.ensures.place ∙ here2 in
    let last2 : last_of {T = g.row.T.Denot} {G = g.T.Tray} c.write_pages.new.writer ≡ last = c.in_ok-write_pages.ensures.last ∙ ap (λ (n : ℕ). last_bop set (negsuc 0) n ps) place1 in
    let fonts2 : fonts_of {T = g.row.T.Denot} {G = g.T.Tray} c.write_pages.new.writer ≡ set = c.in_ok-write_pages.ensures.holds.fonts_same ∙ fonts1 in
    let count : length c.args.pages.now ≡ length ps = sym (length-map c.args.pages.now (copy_page grid set r)) in
    let least : unsigned_abs (negsuc 0) < 2 ^ 31 = search rules in
    let within = last_within set (negsuc 0) (length front) (2 ^ 31) ps least (omega (arith, long1, long2, long3, room)) in
    let hm : FitsSigned w32 c.args.mag = search rules in
    let text : spelled (back_commands (work_of r (fonts_of {T = g.row.T.Denot} {G = g.T.Tray} c.write_pages.new.writer) c.args.mag) (last_of {T = g.row.T.Denot} {G = g.T.Tray} c.write_pages.new.writer) (place_of {T = g.row.T.Denot} {G = g.T.Tray} c.write_pages.new.writer) (length c.args.pages.now)) ≡ back = λ i. spelled (back_commands (work_of r (fonts2 i) c.args.mag) (last2 i) (place2 i) (count i)) in
    let z = out_of {T = g.row.T.Denot} {G = g.T.Tray} c.write_back.new.writer in
    let three : Sent back y z = subst (λ bs. Sent bs y z) text (simp (to_z-of_z w32 c.args.mag hm) at c.in_ok-write_back.ensures.sends) in
    let begun3 = begin_there back y z begun2 three in
    let said3 = ap (λ (bs : List ℕ). length bs) text in
    let place3 : place_of {T = g.row.T.Denot} {G = g.T.Tray} c.write_back.new.writer ≡ length (front ++ pages ++ back) = omega (arith, (simp (to_z-of_z w32 c.args.mag hm) at c.in_ok-write_back.ensures.place), said3, place2, long1, long2, long3, room) in
    omega (arith, place3, long3, room)

pub returns-clause-sends : goal.returns-clause-sends
returns-clause-sends g c =
    let a = c.args.writer.now in
    let r = c.args.doc.now in
    let set = c.args.fonts.now in
    let grid = c.args.walker.now.grid in
    let w : Work = work_of r set c.args.mag in
    let ps : List Page = copy_pages grid set r c.args.pages.now in
    let front : List ℕ = spelled (front_commands w) in
    let pages : List ℕ = pages_bytes set (negsuc 0) (length front) ps in
    let last : ℤ = last_bop set (negsuc 0) (length front) ps in
    let back : List ℕ = spelled (back_commands w last (length front + length pages) (length ps)) in
    let ends : List ℕ = filling (length (front ++ pages ++ back)) in
    let long1 = length-append front pages in
    let long2 = length-append (front ++ pages) back in
    let long3 = length-append (front ++ pages ++ back) ends in
    let room = c.requires.room in
    let is = c.as_slice.ensures ∙ c.requires.front in
    let v = out_of {T = g.row.T.Denot} {G = g.T.Tray} a in
    let x = out_of {T = g.row.T.Denot} {G = g.T.Tray} c.put.new.self in
    let one : Sent front v x = subst (λ bs. Sent bs v x) is c.in_ok-put.ensures.sends in
    let begun1 = begin_there front v x c.requires.begun one in
    let place1 : place_of {T = g.row.T.Denot} {G = g.T.Tray} c.put.new.self ≡ length front = omega (arith, c.in_ok-put.ensures.place, c.requires.starts, ap (λ (bs : List ℕ). length bs) is, long1, long2, long3, room) in
    let fonts1 : fonts_of {T = g.row.T.Denot} {G = g.T.Tray} c.put.new.self ≡ set = c.in_ok-put.ensures.holds.fonts_same ∙ c.requires.fonts in
    let y = out_of {T = g.row.T.Denot} {G = g.T.Tray} c.write_pages.new.writer in
    let two : Sent pages x y = subst (λ (n : ℕ). Sent (pages_bytes set (negsuc 0) n ps) x y) place1 c.in_ok-write_pages.ensures.sends in
    let begun2 = begin_there pages x y begun1 two in
    let here2 = ap (λ (n : ℕ). n + length (pages_bytes set (negsuc 0) n ps)) place1 in
    let place2 : place_of {T = g.row.T.Denot} {G = g.T.Tray} c.write_pages.new.writer ≡ length front + length pages = c.in_ok-write_pages.ensures.place ∙ here2 in
    let last2 : last_of {T = g.row.T.Denot} {G = g.T.Tray} c.write_pages.new.writer ≡ last = c.in_ok-write_pages.ensures.last ∙ ap (λ (n : ℕ). last_bop set (negsuc 0) n ps) place1 in
    let fonts2 : fonts_of {T = g.row.T.Denot} {G = g.T.Tray} c.write_pages.new.writer ≡ set = c.in_ok-write_pages.ensures.holds.fonts_same ∙ fonts1 in
    let count : length c.args.pages.now ≡ length ps = sym (length-map c.args.pages.now (copy_page grid set r)) in
    let least : unsigned_abs (negsuc 0) < 2 ^ 31 = search rules in
    let within = last_within set (negsuc 0) (length front) (2 ^ 31) ps least (omega (arith, long1, long2, long3, room)) in
    let hm : FitsSigned w32 c.args.mag = search rules in
    let text : spelled (back_commands (work_of r (fonts_of {T = g.row.T.Denot} {G = g.T.Tray} c.write_pages.new.writer) c.args.mag) (last_of {T = g.row.T.Denot} {G = g.T.Tray} c.write_pages.new.writer) (place_of {T = g.row.T.Denot} {G = g.T.Tray} c.write_pages.new.writer) (length c.args.pages.now)) ≡ back = λ i. spelled (back_commands (work_of r (fonts2 i) c.args.mag) (last2 i) (place2 i) (count i)) in
    let z = out_of {T = g.row.T.Denot} {G = g.T.Tray} c.write_back.new.writer in
    let three : Sent back y z = subst (λ bs. Sent bs y z) text (simp (to_z-of_z w32 c.args.mag hm) at c.in_ok-write_back.ensures.sends) in
    let begun3 = begin_there back y z begun2 three in
    let said3 = ap (λ (bs : List ℕ). length bs) text in
    let place3 : place_of {T = g.row.T.Denot} {G = g.T.Tray} c.write_back.new.writer ≡ length (front ++ pages ++ back) = omega (arith, (simp (to_z-of_z w32 c.args.mag hm) at c.in_ok-write_back.ensures.place), said3, place2, long1, long2, long3, room) in
    let u = out_of {T = g.row.T.Denot} {G = g.T.Tray} c.write_end.new.writer in
    let four : Sends ends z u c.write_end.result = subst (λ (n : ℕ). Sends (filling n) z u c.write_end.result) place3 c.write_end.ensures.sends in
    whole_sends front pages back ends v x y z u c.write_end.result one two three four
