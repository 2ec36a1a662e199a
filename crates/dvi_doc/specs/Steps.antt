-- What the steps of reading a document find: the pages, the postamble and both together. No public clause cites this module.
use Rattle.std.specs.Prelude.{◌≡◌, ◌≤◌, ◌+◌, ℕ, zero, suc, ℤ, pos, negsuc, Option, Some, None, List, [], ◌++◌, map, slice_range}
use Rattle.std.specs.List.{All}
use Rattle.dvi_ops.specs.Command.{Command, Definition}
use Rattle.dvi_ops.specs.Command.Command.{Eop, Post, PostPost}
use Rattle.dvi_ops.specs.View.{head_view, tail_view}
use Rattle.dvi_ops.specs.Placed.{Placed, Lexes}
use Rattle.dvi_doc.specs.Document.{Item, File, Document, between, last_bop, pages_of, put_definition, definitions_of, definitions_before, document_of}
use Rattle.dvi_doc.specs.Grammar.{IsInner, AllInner, AllItems, IsFile}
use Rattle.dvi_doc.specs.Order.{Reaches, reading, SpelledTo}
use Rattle.dvi_doc.specs.Order.Part.{Between, Inside, Behind}
use Rattle.dvi_doc.specs.Standing.{HoldsEnding, Stands, definitions_at, fonts_in}
use Rattle.dvi_doc.specs.View.{outline, page_view}
use Rattle.dvi_doc.specs.Faults.{TrailerAt}
use Rattle.dvi_doc.specs.declared.page.Page.{Page}
use Rattle.dvi_doc.specs.declared.pages.Body.{Body}
use Rattle.dvi_doc.specs.declared.parts.Parts.{Parts}

-- the trailer's post_post stands at this place, with version 2
abbrev pub EndsAt : List ℕ → ℕ → Type 0
EndsAt bytes ends = TrailerAt bytes ends × (back : ℕ) × SpelledTo bytes ends (ends + 6) (PostPost back 2)

-- the place of the last bop, or -1
abbrev pub last_of : Option ℕ → ℤ
last_of None = negsuc 0
last_of (Some place) = pos place

-- So many commands stand from start to at: a page may hold each of them, and none is a definition.
abbrev pub PassedTo : ℕ → List ℕ → ℕ → ℕ → Type 0
PassedTo zero bytes start at = at ≡ start
PassedTo (suc n) bytes start at =
    (mid : ℕ) × PassedTo n bytes start mid × (c : Command) × SpelledTo bytes mid at c × IsInner c × (put_definition c [] ≡ [])

-- From start on stand the commands of a page and, at eop, its end; their definitions were put behind old.
abbrev pub FoundPage : List ℕ → ℕ → ℕ → ℕ → ℕ → List Definition → List Definition → Type 0
FoundPage bytes start eop next ends old new =
    (start ≤ eop) × (next ≤ ends) × SpelledTo bytes eop next Eop
    × ((cs : List Placed) × AllInner cs × Lexes start (slice_range bytes start eop) cs × (new ≡ old ++ definitions_of cs))
    × ((last : ℤ) → Reaches bytes start (reading Inside last 0) → Reaches bytes next (reading Between last 0))

-- From start to at stand these pages, with fillers between them and these definitions.
abbrev pub HasItems : List ℕ → ℕ → ℕ → List Page → List Definition → ℤ → Type 0
HasItems bytes start at pages earlier last =
    (is : List Item) × AllItems is × Lexes start (slice_range bytes start at) (between (negsuc 0) is) × (map outline (pages_of is) ≡ map page_view pages)
    × (definitions_before is ≡ earlier) × (last_bop (negsuc 0) is ≡ last)

-- From start on stand pages, and then post.
abbrev pub FoundBody : List ℕ → ℕ → ℕ → Body → Type 0
FoundBody bytes start ends b =
    (start ≤ b.post) × (b.next ≤ ends) × SpelledTo bytes b.post b.next (Post (tail_view b.tail)) × HasItems bytes start b.post b.pages.items (definitions_at bytes b.earlier.items) b.tail.back
    × All (Stands bytes) b.earlier.items
    × Reaches bytes b.next (reading Behind b.tail.back b.post)

-- From start to ends stand fillers with these definitions.
abbrev pub FoundEnding : List ℕ → ℕ → ℕ → List Definition → Type 0
FoundEnding bytes start ends defs =
    HoldsEnding bytes start ends defs
    × ((last : ℤ) (post : ℕ) → Reaches bytes start (reading Behind last post) → Reaches bytes ends (reading Behind last post))

-- the document's parts as they were found
abbrev pub PartsOf : List ℕ → Parts → Document → Type 0
PartsOf bytes p doc =
    (head_view p.head ≡ doc.head) × (map page_view p.body.pages.items ≡ map outline doc.pages) × (definitions_at bytes p.body.earlier.items ≡ doc.before)
    × (tail_view p.body.tail ≡ doc.tail) × (fonts_in p.fonts ≡ doc.fonts)

-- the bytes are a file's, with these parts
abbrev pub FoundParts : List ℕ → Parts → Type 0
FoundParts bytes p =
    (f : File) × IsFile bytes f × PartsOf bytes p (document_of f) × All (Stands bytes) p.body.earlier.items × (p.fonts.bytes ≡ bytes)
