-- What a shelf holds to which the three files of the sample were added.
use Rattle.std.proofs.Common.{◌≡◌, ℕ, List, Option, Some, None, ap}
use Rattle.std.specs.Prelude.{codes}
use Rattle.dv_base.specs.MemShelf.{Puts}
use Rattle.dv_base.specs.Shelf.{Contents}
use Rattle.sample_files.specs.Bitmaps.{pk}
use Rattle.sample_files.specs.Document.{document}
use Rattle.sample_files.specs.Widths.{tfm}
use Rattle.dv_top.specs.Sampled.{sample_file}

-- what is held under a name, where that is told
abbrev at : Option Contents → List ℕ → Option (List ℕ)
at None name = None
at (Some held) name = held name

-- an empty shelf holds nothing under any name
pub nothing_held : (held : Contents) (name : List ℕ) → Some held ≡ Some (λ (n : List ℕ). None) → held name ≡ None
nothing_held held name same = ap (λ (o : Option Contents). at o name) same

pub three_files :
    (pages : ℕ) (h0 h1 h2 h3 : Contents) (d w b : List ℕ) → ((n : List ℕ) → h0 n ≡ None) → Puts (codes "sample.dvi") d h0 h1
    → Puts (codes "smp.tfm") w h1 h2 → Puts (codes "smp.300pk") b h2 h3 → d ≡ document pages → w ≡ tfm → b ≡ pk → (name : List ℕ)
    → h3 name ≡ sample_file pages name
three_files pages h0 h1 h2 h3 d w b none first second third is_document is_tfm is_pk name =
    let p0 = none name in
    let p1 = first name in
    let p2 = second name in
    let p3 = third name in
    cc
