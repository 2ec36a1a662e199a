-- The sample's events, number by number, as another model of the machine gives them.
use Rattle.std.specs.Prelude.{◌≡◌, ◌∷◌, [], Some, None, pos}
use Rattle.ps_subset.specs.State as state
use Rattle.ps_subset.specs.Run.{events}
use Rattle.ps_subset.specs.Printout.{text_of}
use Rattle.ps_subset.specs.PageSamples.{sample_text}

abbrev pub SampleNumbers : Type 0
SampleNumbers = events (text_of sample_text) ≡ Some (
    state.Note (37 ∷ 33 ∷ 80 ∷ 83 ∷ 45 ∷ 65 ∷ 100 ∷ 111 ∷ 98 ∷ 101 ∷ 45 ∷ 50 ∷ 46 ∷ 48 ∷ []) ∷
    state.Note (37 ∷ 37 ∷ 66 ∷ 101 ∷ 103 ∷ 105 ∷ 110 ∷ 80 ∷ 114 ∷ 111 ∷ 108 ∷ 111 ∷ 103 ∷ []) ∷
    state.Block (47 ∷ 120 ∷ 123 ∷ []) ∷
    state.Note (37 ∷ 37 ∷ 69 ∷ 110 ∷ 100 ∷ 80 ∷ 114 ∷ 111 ∷ 108 ∷ 111 ∷ 103 ∷ []) ∷
    state.Note (37 ∷ 37 ∷ 66 ∷ 101 ∷ 103 ∷ 105 ∷ 110 ∷ 83 ∷ 101 ∷ 116 ∷ 117 ∷ 112 ∷ []) ∷
    state.Note (37 ∷ 37 ∷ 69 ∷ 110 ∷ 100 ∷ 83 ∷ 101 ∷ 116 ∷ 117 ∷ 112 ∷ []) ∷
    state.PutArray 40 ∷
    state.PutArray 65 ∷
    state.PutArray 200 ∷
    state.FontMade (70 ∷ 48 ∷ []) ∷
    state.PutArray 65 ∷
    state.FontMade (70 ∷ 49 ∷ 50 ∷ []) ∷
    state.Note (37 ∷ 37 ∷ 80 ∷ 97 ∷ 103 ∷ 101 ∷ 58 ∷ 32 ∷ 45 ∷ 49 ∷ 32 ∷ 49 ∷ []) ∷
    state.TextShown (70 ∷ 48 ∷ []) (65 ∷ []) (record { x = record { up = pos 72; under = 0 }; y = record { up = pos 1184071657; under = 1644543 } }) ∷
    state.Mask (Some (record { key = 70 ∷ 48 ∷ []; code = 65 })) (record { x = record { up = pos 72; under = 0 }; y = record { up = pos 29606725057; under = 41113599 } }) (record { x = record { up = pos 6; under = 24 }; y = record { up = pos 3; under = 24 } }) 4 2 (240 ∷ 144 ∷ []) ∷
    state.TextShown (70 ∷ 48 ∷ []) (65 ∷ []) (record { x = record { up = pos 2106; under = 24 }; y = record { up = pos 1184071657; under = 1644543 } }) ∷
    state.Mask (Some (record { key = 70 ∷ 48 ∷ []; code = 65 })) (record { x = record { up = pos 2106; under = 24 }; y = record { up = pos 29606725057; under = 41113599 } }) (record { x = record { up = pos 6; under = 24 }; y = record { up = pos 3; under = 24 } }) 4 2 (240 ∷ 144 ∷ []) ∷
    state.TextShown (70 ∷ 48 ∷ []) (65 ∷ []) (record { x = record { up = pos 2418; under = 24 }; y = record { up = pos 1184071657; under = 1644543 } }) ∷
    state.Mask (Some (record { key = 70 ∷ 48 ∷ []; code = 65 })) (record { x = record { up = pos 2418; under = 24 }; y = record { up = pos 29606725057; under = 41113599 } }) (record { x = record { up = pos 6; under = 24 }; y = record { up = pos 3; under = 24 } }) 4 2 (240 ∷ 144 ∷ []) ∷
    state.TextShown (70 ∷ 48 ∷ []) (65 ∷ 200 ∷ 40 ∷ []) (record { x = record { up = pos 2556; under = 24 }; y = record { up = pos 1184071657; under = 1644543 } }) ∷
    state.Mask (Some (record { key = 70 ∷ 48 ∷ []; code = 65 })) (record { x = record { up = pos 2556; under = 24 }; y = record { up = pos 29606725057; under = 41113599 } }) (record { x = record { up = pos 6; under = 24 }; y = record { up = pos 3; under = 24 } }) 4 2 (240 ∷ 144 ∷ []) ∷
    state.Mask (Some (record { key = 70 ∷ 48 ∷ []; code = 200 })) (record { x = record { up = pos 534; under = 4 }; y = record { up = pos 29586990529; under = 41113599 } }) (record { x = record { up = pos 6; under = 24 }; y = record { up = pos 3; under = 24 } }) 8 33 (1 ∷ 2 ∷ 3 ∷ 4 ∷ 5 ∷ 6 ∷ 7 ∷ 8 ∷ 9 ∷ 10 ∷ 11 ∷ 12 ∷ 13 ∷ 14 ∷ 15 ∷ 16 ∷ 17 ∷ 18 ∷ 19 ∷ 20 ∷ 21 ∷ 22 ∷ 23 ∷ 24 ∷ 25 ∷ 26 ∷ 27 ∷ 28 ∷ 29 ∷ 30 ∷ 31 ∷ 32 ∷ 33 ∷ []) ∷
    state.Mask (Some (record { key = 70 ∷ 48 ∷ []; code = 40 })) (record { x = record { up = pos 2706; under = 24 }; y = record { up = pos 29606725057; under = 41113599 } }) (record { x = record { up = pos 6; under = 24 }; y = record { up = pos 3; under = 24 } }) 9 2 (255 ∷ 128 ∷ 1 ∷ 0 ∷ []) ∷
    state.TextShown (70 ∷ 49 ∷ 50 ∷ []) (65 ∷ []) (record { x = record { up = pos 372; under = 4 }; y = record { up = pos 29567256001; under = 41113599 } }) ∷
    state.Mask (Some (record { key = 70 ∷ 49 ∷ 50 ∷ []; code = 65 })) (record { x = record { up = pos 372; under = 4 }; y = record { up = pos 29572189633; under = 41113599 } }) (record { x = record { up = pos 6; under = 24 }; y = record { up = pos 3; under = 24 } }) 4 2 (240 ∷ 144 ∷ []) ∷
    state.Mask None (record { x = record { up = pos 372; under = 4 }; y = record { up = pos 29512986049; under = 41113599 } }) (record { x = record { up = pos 6; under = 4 }; y = record { up = pos 9; under = 24 } }) 1 1 (128 ∷ []) ∷
    state.TextShown (70 ∷ 49 ∷ 50 ∷ []) (65 ∷ []) (record { x = record { up = pos 408; under = 4 }; y = record { up = pos 5900623757; under = 8222719 } }) ∷
    state.Mask (Some (record { key = 70 ∷ 49 ∷ 50 ∷ []; code = 65 })) (record { x = record { up = pos 408; under = 4 }; y = record { up = pos 29508052417; under = 41113599 } }) (record { x = record { up = pos 6; under = 24 }; y = record { up = pos 3; under = 24 } }) 4 2 (240 ∷ 144 ∷ []) ∷
    state.Block (125 ∷ 125 ∷ 10 ∷ []) ∷
    state.TextShown (70 ∷ 48 ∷ []) (65 ∷ []) (record { x = record { up = pos 408; under = 4 }; y = record { up = pos 1179138025; under = 1644543 } }) ∷
    state.Mask (Some (record { key = 70 ∷ 48 ∷ []; code = 65 })) (record { x = record { up = pos 408; under = 4 }; y = record { up = pos 29483384257; under = 41113599 } }) (record { x = record { up = pos 6; under = 24 }; y = record { up = pos 3; under = 24 } }) 4 2 (240 ∷ 144 ∷ []) ∷
    state.TextShown (70 ∷ 48 ∷ []) (65 ∷ []) (record { x = record { up = pos 408; under = 4 }; y = record { up = pos 1179138025; under = 1644543 } }) ∷
    state.Mask (Some (record { key = 70 ∷ 48 ∷ []; code = 65 })) (record { x = record { up = pos 408; under = 4 }; y = record { up = pos 29483384257; under = 41113599 } }) (record { x = record { up = pos 6; under = 24 }; y = record { up = pos 3; under = 24 } }) 4 2 (240 ∷ 144 ∷ []) ∷
    state.Mask None (record { x = record { up = pos 2166; under = 24 }; y = record { up = pos 29562322369; under = 41113599 } }) (record { x = record { up = pos 6; under = 24 }; y = record { up = pos 6; under = 24 } }) 1 1 (128 ∷ []) ∷
    state.Shown 2 (record { key = 70 ∷ 48 ∷ []; code = 40 } ∷ record { key = 70 ∷ 48 ∷ []; code = 65 } ∷ record { key = 70 ∷ 48 ∷ []; code = 200 } ∷ record { key = 70 ∷ 49 ∷ 50 ∷ []; code = 65 } ∷ []) ∷
    state.Note (37 ∷ 37 ∷ 84 ∷ 114 ∷ 97 ∷ 105 ∷ 108 ∷ 101 ∷ 114 ∷ []) ∷
    state.Note (37 ∷ 37 ∷ 69 ∷ 79 ∷ 70 ∷ []) ∷ [])
