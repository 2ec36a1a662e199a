-- The grammar of each tool's words.
use Rattle.std.specs.Prelude.{ℕ, List, [], ◌∷◌, ◌++◌, true, false, Option, Some, None, codes}
use Rattle.dv_words.specs.Grammar.{Front, Grammar}
use Rattle.dv_words.specs.Draft.{Draft, is_whole}
use Rattle.dv_words.specs.Names.{name_of, with_dvi}
use Rattle.dv_words.specs.Settings.{reads, stands}
use Rattle.dv_words.specs.declared.setting.Setting.{Setting}
use Rattle.dv_words.specs.declared.setting.Setting.TheVariants as setting
use Rattle.dv_words.specs.declared.tool.Tool.{Tool}
use Rattle.dv_words.specs.declared.tool.Tool.TheVariants.{Dvips, Dvitype, Dvicopy}

-- an option whose parameter is the rest of its word or the next word
abbrev pub short : List ℕ → Setting → List (Front Setting)
short text o = record { text = text; apart = true; option = o } ∷ record { text = text; apart = false; option = o } ∷ []

-- an option whose parameter stands in the same word, or a flag, whose parameter is empty
abbrev pub within : List ℕ → Setting → List (Front Setting)
within text o = record { text = text; apart = false; option = o } ∷ []

-- an option with one or two dashes, whose parameter stands after = or is the next word
abbrev pub long : List ℕ → Setting → List (Front Setting)
long name o =
    record { text = codes "-" ++ name; apart = true; option = o } ∷ record { text = codes "-" ++ name ++ codes "="; apart = false; option = o }
    ∷ record { text = codes "--" ++ name; apart = true; option = o } ∷ record { text = codes "--" ++ name ++ codes "="; apart = false; option = o } ∷ []

abbrev pub dvips_fronts : List (Front Setting)
dvips_fronts =
    short (codes "-pp") setting.Ranges
    ++ short (codes "-p") setting.First
    ++ short (codes "-l") setting.Last
    ++ short (codes "-n") setting.Limit
    ++ within (codes "-r") setting.Reverse
    ++ within (codes "-A") setting.Odd
    ++ within (codes "-B") setting.Even
    ++ short (codes "-c") setting.Copies
    ++ short (codes "-C") setting.Collated
    ++ short (codes "-x") setting.Magnification
    ++ short (codes "-D") setting.Resolution
    ++ short (codes "-X") setting.Across
    ++ short (codes "-Y") setting.Down
    ++ short (codes "-S") setting.PerSection
    ++ short (codes "-h") setting.Header
    ++ within (codes "-q") setting.Quiet
    ++ within (codes "-N") setting.Bare
    ++ short (codes "-o") setting.Output
    ++ short (codes "-t") setting.Paper
    ++ short (codes "-T") setting.PaperSize
    ++ short (codes "-O") setting.Offset
    ++ short (codes "-e") setting.Drift
    ++ within (codes "--memory=") setting.Memory
    ++ within (codes "--pass=") setting.PassPs

abbrev pub dvicopy_fronts : List (Front Setting)
dvicopy_fronts = long (codes "page-start") setting.Start ++ long (codes "max-pages") setting.Limit ++ long (codes "magnification") setting.Magnification

abbrev pub dvitype_fronts : List (Front Setting)
dvitype_fronts = dvicopy_fronts ++ long (codes "dpi") setting.Resolution ++ long (codes "detail") setting.Detail

abbrev pub fronts_of : Tool → List (Front Setting)
fronts_of Dvips = dvips_fronts
fronts_of Dvitype = dvitype_fronts
fronts_of Dvicopy = dvicopy_fronts

-- The first name is the input; dvicopy takes a second one, the output. Both are names of DVI files.
abbrev pub with_input : Option (List ℕ) → Draft → Option Draft
with_input None d = None
with_input (Some name) d = Some (record d { input = Some (with_dvi name) })

abbrev pub with_output : Option (List ℕ) → Draft → Option Draft
with_output None d = None
with_output (Some name) d = Some (record d { output = Some (with_dvi name) })

abbrev pub second_name : Tool → Option (List ℕ) → Option (List ℕ) → Draft → Option Draft
second_name Dvicopy None name d = with_output name d
second_name tool output name d = None

abbrev pub next_name : Tool → Option (List ℕ) → Option (List ℕ) → Draft → Option Draft
next_name tool None name d = with_input name d
next_name tool (Some input) name d = second_name tool d.output name d

abbrev pub takes_name : Tool → List ℕ → Draft → Option Draft
takes_name tool word d = next_name tool d.input (name_of word) d

abbrev pub grammar : Tool → Grammar Setting Draft
grammar tool = record { fronts = fronts_of tool; stands = stands; reads = reads; names = takes_name tool; whole = is_whole }
