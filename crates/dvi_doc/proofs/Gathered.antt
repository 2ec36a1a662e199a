-- Pages and fillers one after another, and the whole file from its parts.
use Rattle.std.proofs.Common.{◌≡◌, ◌≤◌, ◌<◌, ◌+◌, ◌-◌, ℕ, zero, suc, ℤ, pos, negsuc, List, [], ◌∷◌, ◌++◌, length, map, take, drop, refl, sym, ap, subst, ◌∙◌, arith, slice_range, slice_index_or}
use Rattle.std.proofs.lemmas.List.{append_assoc, append-nil, map-append, length-drop, get_or-drop}
use Rattle.std.proofs.lemmas.List.Folds.{drop_split}
use Rattle.dvi_ops.specs.Command.{Command, Definition, Preamble, Postamble}
use Rattle.dvi_ops.specs.Command.Command.{Bop, Eop, Pre, Post, PostPost}
use Rattle.dvi_ops.specs.Spelling.{byte_at}
use Rattle.dvi_ops.specs.Placed.{Placed, Lexes}
use Rattle.dvi_doc.specs.Document.{placed, PageOf, Item, File, between, last_bop, commands_of, pages_of, put_definition, definitions_of, definitions_before, document_of}
use Rattle.dvi_doc.specs.Document.Item.{Filler, Paged}
use Rattle.dvi_doc.specs.Grammar.{IsFiller, AllFillers, AllItems, first_place, IsFile}
use Rattle.dvi_doc.specs.Order.{SpelledTo}
use Rattle.dvi_doc.specs.View.{Outline, outline, page_view}
use Rattle.dvi_doc.specs.Faults.{TrailerAt}
use Rattle.dvi_doc.specs.Steps.{HasItems, FoundPage}
use Rattle.dvi_doc.specs.declared.page.Page.{Page}
use Rattle.dvi_doc.proofs.Lexing.{range_len, lex_one, lex_join, lex_more}
use Rattle.dvi_doc.proofs.Further.{put_append}

regroup : (ms : List Placed) (c : Placed) (bs cs : List Placed) → (ms ++ c ∷ bs) ++ cs ≡ ms ++ c ∷ (bs ++ cs)
regroup [] c bs cs = refl
regroup (x ∷ ms) c bs cs = ap (λ (l : List Placed). x ∷ l) (regroup ms c bs cs)

between_append : (is js : List Item) (last : ℤ) → between last (is ++ js) ≡ between last is ++ between (last_bop last is) js
between_append [] js last = refl
between_append (Filler c ∷ is) js last = ap (λ (l : List Placed). c ∷ l) (between_append is js last)
between_append (Paged p ∷ is) js last =
    ap (λ (l : List Placed). placed p.at (Bop p.counts last) ∷ l)
    (ap (λ (l : List Placed). p.commands ++ placed p.eop Eop ∷ l) (between_append is js (pos p.at))
    ∙ sym (regroup p.commands (placed p.eop Eop) (between (pos p.at) is) (between (last_bop (pos p.at) is) js)))

last_append : (is js : List Item) (last : ℤ) → last_bop last (is ++ js) ≡ last_bop (last_bop last is) js
last_append [] js last = refl
last_append (Filler c ∷ is) js last = last_append is js last
last_append (Paged p ∷ is) js last = last_append is js (pos p.at)

all_append : (is js : List Item) → AllItems is → AllItems js → AllItems (is ++ js)
all_append [] js h k = k
all_append (Filler c ∷ is) js h k = (h.0, all_append is js h.1 k)
all_append (Paged p ∷ is) js h k = (h.0, h.1, all_append is js h.2 k)

pages_append : (is js : List Item) → pages_of (is ++ js) ≡ pages_of is ++ pages_of js
pages_append [] js = refl
pages_append (Filler c ∷ is) js = pages_append is js
pages_append (Paged p ∷ is) js = ap (λ (l : List PageOf). p ∷ l) (pages_append is js)

before_append : (is js : List Item) → definitions_before (is ++ js) ≡ definitions_before is ++ definitions_before js
before_append [] js = refl
before_append (Filler c ∷ is) js = ap (put_definition c.command) (before_append is js) ∙ put_append c.command (definitions_before is) (definitions_before js)
before_append (Paged p ∷ is) js =
    ap (λ (l : List Definition). definitions_of p.commands ++ l) (before_append is js)
    ∙ sym (append_assoc (definitions_of p.commands) (definitions_before is) (definitions_before js))

pub no_items : (bytes : List ℕ) (start : ℕ) → HasItems bytes start start [] [] (negsuc 0)
no_items bytes start =
    let none : start - start ≡ 0 = omega arith in
    ([], tt, ap (λ (n : ℕ). take n (drop start bytes)) none, refl, refl, refl)

-- a filler more
pub filler_more : (bytes : List ℕ) (start at end : ℕ) (c : Command) (pages : List Page) (old new : List Definition) (last : ℤ) → start ≤ at → SpelledTo bytes at end c → IsFiller c → new ≡ old ++ put_definition c [] → HasItems bytes start at pages old last → HasItems bytes start end pages new last
filler_more bytes start at end c pages old new last le s i e h =
    let more : List Item = Filler (placed at c) ∷ [] in (
      h.0 ++ more,
      all_append h.0 more h.1 (i, tt),
      subst (λ (l : List Placed). Lexes start (slice_range bytes start end) l) (sym (between_append h.0 more (negsuc 0))) (lex_more bytes start at end c (between (negsuc 0) h.0) le s h.2),
      ap (map outline) (pages_append h.0 more ∙ append-nil (pages_of h.0)) ∙ h.3,
      before_append h.0 more ∙ ap (λ (l : List Definition). l ++ put_definition c []) h.4 ∙ sym e,
      last_append h.0 more (negsuc 0) ∙ h.5,
    )

-- the first command of a page stands where the page starts
first_is : (bytes : List ℕ) (first eop : ℕ) (cs : List Placed) → first ≤ eop → eop ≤ length bytes → Lexes first (slice_range bytes first eop) cs → first ≡ first_place cs eop
first_is bytes first eop [] a b h = omega (arith, ap length h, range_len bytes first eop a b)
first_is bytes first eop (c ∷ cs) a b h = sym h.0

-- a page more
pub page_gathered : (bytes : List ℕ) (start at first eop next ends : ℕ) (counts : List ℤ) (back last : ℤ) (page : Page) (pages newer : List Page) (old new : List Definition) → start ≤ at → SpelledTo bytes at first (Bop counts back) → back ≡ last → FoundPage bytes first eop next ends old new → page_view page ≡ record { at = at; first = first; eop = eop; counts = counts } → newer ≡ pages ++ page ∷ [] → HasItems bytes start at pages old last → HasItems bytes start next newer new (pos at)
page_gathered bytes start at first eop next ends counts back last page pages newer old new le s e f v w h =
    let cs = f.3.0 in
    let eop_spelled = f.2 in
    let p : PageOf = record { at = at; first = first; eop = eop; counts = counts; commands = cs } in
    let more : List Item = Paged p ∷ [] in
    let before : ℤ = last_bop (negsuc 0) h.0 in
    let names : back ≡ before = e ∙ sym h.5 in
    let bop : SpelledTo bytes at first (Bop counts before) = subst (λ (z : ℤ). SpelledTo bytes at first (Bop counts z)) names s in
    let held : Lexes first (slice_range bytes first next) (cs ++ placed eop Eop ∷ []) = lex_more bytes first eop next Eop cs f.0 eop_spelled f.3.2 in
    let whole : Lexes at (slice_range bytes at next) (placed at (Bop counts before) ∷ (cs ++ placed eop Eop ∷ [])) =
    lex_join bytes at first next (placed at (Bop counts before) ∷ []) (cs ++ placed eop Eop ∷ []) (omega (arith, s.0)) (omega (arith, f.0, eop_spelled.0)) eop_spelled.1 (lex_one at (Bop counts before) (slice_range bytes at first) bop.2) held in
    let all : Lexes start (slice_range bytes start next) (between (negsuc 0) h.0 ++ placed at (Bop counts before) ∷ (cs ++ placed eop Eop ∷ [])) =
    lex_join bytes start at next (between (negsuc 0) h.0) (placed at (Bop counts before) ∷ (cs ++ placed eop Eop ∷ [])) le (omega (arith, s.0, f.0, eop_spelled.0)) eop_spelled.1 h.2 whole in
    let first_at : first ≡ first_place cs eop = first_is bytes first eop cs f.0 (omega (arith, eop_spelled.0, eop_spelled.1)) f.3.2 in (
      h.0 ++ more,
      all_append h.0 more h.1 (f.3.1, first_at, tt),
      subst (λ (l : List Placed). Lexes start (slice_range bytes start next) l) (sym (between_append h.0 more (negsuc 0))) all,
      ap (map outline) (pages_append h.0 more) ∙ map-append outline (pages_of h.0) (p ∷ []) ∙ ap (λ (l : List Outline). l ++ outline p ∷ []) h.3
          ∙ ap (λ (o : Outline). map page_view pages ++ o ∷ []) (sym v) ∙ sym (map-append page_view pages (page ∷ [])) ∙ sym (ap (map page_view) w),
      before_append h.0 more ∙ ap (λ (l : List Definition). l ++ (definitions_of cs ++ [])) h.4 ∙ ap (λ (l : List Definition). old ++ l) (append-nil (definitions_of cs)) ∙ sym f.3.3,
      last_append h.0 more (negsuc 0),
    )

-- ---- the whole file

pub file_from : (bytes : List ℕ) (start next ends : ℕ) (head : Preamble) (post : ℕ) (tail : Postamble) (pages : List Page) (old defs : List Definition) →
    SpelledTo bytes 0 start (Pre head) → head.id ≡ 2 → start ≤ post → HasItems bytes start post pages old tail.back → SpelledTo bytes post next (Post tail) → next ≤ ends →
    ((cs : List Placed) × AllFillers cs × Lexes next (slice_range bytes next ends) cs × (definitions_of cs ≡ defs)) →
    TrailerAt bytes ends → SpelledTo bytes ends (ends + 6) (PostPost post 2) →
    (f : File) × IsFile bytes f × (head ≡ (document_of f).head) × (map page_view pages ≡ map outline (document_of f).pages) × (old ≡ (document_of f).before) × (tail ≡ (document_of f).tail) × (defs ≡ (document_of f).fonts)
file_from bytes start next ends head post tail pages old defs pre id le items at_post fits behind trailer last =
    let f : File = record { head = head; items = items.0; post = post; tail = tail; behind = behind.0; ends = ends } in
    let inside : ends + 10 ≤ length bytes = trailer.0 in
    let z = ends + 6 in
    let ended : Lexes next (slice_range bytes next z) (behind.0 ++ placed ends (PostPost post 2) ∷ []) =
    lex_more bytes next ends z (PostPost post 2) behind.0 fits last behind.2 in
    let posted : Lexes post (slice_range bytes post z) (placed post (Post tail) ∷ (behind.0 ++ placed ends (PostPost post 2) ∷ [])) =
    lex_join bytes post next z (placed post (Post tail) ∷ []) (behind.0 ++ placed ends (PostPost post 2) ∷ []) (omega (arith, at_post.0)) (omega arith) (omega arith)
    (lex_one post (Post tail) (slice_range bytes post next) at_post.2) ended in
    let paged : Lexes start (slice_range bytes start z) (between (negsuc 0) items.0 ++ placed post (Post tail) ∷ (behind.0 ++ placed ends (PostPost post 2) ∷ [])) =
    lex_join bytes start post z (between (negsuc 0) items.0) (placed post (Post tail) ∷ (behind.0 ++ placed ends (PostPost post 2) ∷ [])) le (omega (arith, at_post.0)) (omega arith) items.2 posted in
    let all : Lexes 0 (slice_range bytes 0 z) (commands_of f) =
    lex_join bytes 0 start z (placed 0 (Pre head) ∷ []) (between (negsuc 0) items.0 ++ placed post (Post tail) ∷ (behind.0 ++ placed ends (PostPost post 2) ∷ [])) (omega arith) (omega (arith, at_post.0)) (omega arith)
    (lex_one 0 (Pre head) (slice_range bytes 0 start) pre.2) paged in
    let filling : (k : ℕ) (d : ℕ) → k < length (drop z bytes) → slice_index_or (drop z bytes) k d ≡ 223 = λ k d h.
    fill_at bytes z k d (trailer.3 (z + k) (omega arith) (omega (arith, h, length-drop z bytes))) (omega (arith, h, length-drop z bytes)) in (
      f,
      (id, items.1, behind.1, sym items.5, slice_range bytes 0 z, drop z bytes, drop_split bytes 0 z (omega arith), omega (arith, length-drop z bytes), filling, all),
      refl,
      sym items.3,
      sym items.4,
      refl,
      sym behind.3,
    )
  where
    same_default : (xs : List ℕ) (k a b : ℕ) → k < length xs → slice_index_or xs k a ≡ slice_index_or xs k b
    same_default [] k a b h = absurd (omega arith)
    same_default (x ∷ xs) zero a b h = refl
    same_default (x ∷ xs) (suc k) a b h = same_default xs k a b (omega arith)

    fill_at : (bytes : List ℕ) (z k d : ℕ) → byte_at bytes (z + k) ≡ 223 → z + k < length bytes → slice_index_or (drop z bytes) k d ≡ 223
    fill_at bytes z k d e h = get_or-drop z bytes k d ∙ same_default bytes (z + k) d 0 h ∙ e
