-- The state that the prolog and the setup leave.
use Rattle.std.proofs.Common.{◌≡◌, refl, ap, ◌∙◌, subst, ℕ, ◌*◌, ◌<◌, List, [], ◌∷◌, ◌++◌, Some, arith, Bool, true, false}
use Rattle.std.specs.Prelude.{codes, pos, ℤ, ◌*ℤ◌, bytes_eq, if◌then◌else◌}
use Rattle.std.specs.Fmt.{digits}
use Rattle.ps_subset.specs.Token as token
use Rattle.ps_subset.specs.Token.{Token}
use Rattle.ps_subset.specs.Reading.{reading_after, tokens, tokens_from, next, begin}
use Rattle.ps_subset.specs.Prolog.{prolog, line}
use Rattle.ps_subset.specs.Fraction.{Fraction, whole, times, over, lowest, low}
use Rattle.ps_subset.specs.State.{Object, Number, Dictionary, Machine, Entry, Cell, Entries, entry, value_in}
use Rattle.ps_subset.specs.Operators.{Operator}
use Rattle.ps_subset.specs.Run.{meaning_in, start, nests, Value, Operation, Named, table, operator_in}
use Rattle.ps_subset.specs.Job.{Job, IsGoodJob, points}
use Rattle.ps_subset.specs.Lines.{setup_lines}
use Rattle.ps_subset.specs.FontConditions.{HasFontArrays}
use Rattle.ps_subset.specs.Leads.{Goes}
use Rattle.ps_subset.specs.Conditions.{HasProlog, OnTop, JobStands, number, names, prolog_entries, prolog_cells, prolog_state}
use Rattle.ps_subset.proofs.Open.{machine_open}
use Rattle.ps_subset.proofs.Dictionaries.{bytes_same}
use Rattle.ps_subset.proofs.Fractions.{times-whole, mul_1}
use Rattle.ps_subset.proofs.Reading.{Reads, Reads-append, closed_reads, def_reads, TS_reads}
use Rattle.ps_subset.proofs.Numbers.{number_reads, signed_reads}
use Rattle.ps_subset.proofs.Runs.{Runs}

pub prolog_goes : Goes 100 nests (tokens prolog) start prolog_state []
unfolding machine_open digits
prolog_goes = record { by = refl }

prolog_reads : Reads prolog (tokens prolog)
unfolding tokens tokens_from next begin reading_after machine_open
prolog_reads = closed_reads prolog refl

pub prolog_runs : Runs prolog start prolog_state []
prolog_runs = record { tokens = tokens prolog; reads = prolog_reads; goes = prolog_goes }

-- the tokens of the setup
abbrev setup_tokens : ℕ → Job → List Token
setup_tokens copies j =
    token.Literal (codes "#copies") ∷ token.Number (pos copies) ∷ token.Name (codes "def") ∷ token.Name (codes "TeXDict") ∷ token.Name (codes "begin") ∷
    token.Number j.height ∷ token.Number (pos j.across) ∷ token.Number (pos j.down) ∷ token.Number j.origin_x ∷ token.Number j.origin_y ∷ token.Name (codes "TS") ∷ []

copies_reads : Reads (codes "/#copies ") (token.Literal (codes "#copies") ∷ [])
unfolding tokens_from reading_after next begin
copies_reads = record { by = λ rest. refl }

begin_reads : Reads (line (codes "TeXDict begin")) (token.Name (codes "TeXDict") ∷ token.Name (codes "begin") ∷ [])
unfolding tokens_from next begin
begin_reads = record { by = λ rest. refl }

setup_reads : (copies : ℕ) (j : Job) → copies < 65536 → IsGoodJob j → Reads (setup_lines copies j) (setup_tokens copies j)
setup_reads copies j few good =
    Reads-append (Reads-append copies_reads (Reads-append (number_reads copies (omega arith)) def_reads))
    (Reads-append begin_reads
    (Reads-append (signed_reads j.height good.height) (Reads-append (number_reads j.across (omega (arith, good.across))) (Reads-append (number_reads j.down (omega (arith, good.down)))
    (Reads-append (signed_reads j.origin_x good.origin_x) (Reads-append (signed_reads j.origin_y good.origin_y) TS_reads))))))

-- the paper's height, as the line TS computes it
abbrev height : ℤ → Fraction
height h = lowest ((times (whole h) (whole (pos 100))).up *ℤ pos 1) (low (times (whole h) (whole (pos 100))) * 6578176)

height_is : (h : ℤ) → height h ≡ points h
unfolding whole
height_is h = ap (λ q. lowest (q.up *ℤ pos 1) (low q * 6578176)) (times-whole h (pos 100)) ∙ ap (λ z. lowest z 6578176) (mul_1 (h *ℤ pos 100))

abbrev user_cell : ℕ → Cell
user_cell copies = Entries 200 (record { key = codes "#copies"; value = number copies } ∷ record { key = codes "TeXDict"; value = Dictionary 1 } ∷ [])

abbrev pub setup_entries : Job → Fraction → List Entry
setup_entries j vs =
    prolog_entries ++
    (record { key = codes "OY"; value = Number (whole j.origin_y) } ∷ record { key = codes "OX"; value = Number (whole j.origin_x) } ∷
    record { key = codes "VR"; value = number j.down } ∷ record { key = codes "R"; value = number j.across } ∷ record { key = codes "VS"; value = Number vs } ∷ [])

-- the state after the setup
abbrev state_of : ℕ → Job → Fraction → Machine
state_of copies j vs = record start { dictionaries = 1 ∷ 0 ∷ []; store = user_cell copies ∷ Entries 1200 (setup_entries j vs) ∷ prolog_cells }

abbrev pub setup_state : ℕ → Job → Machine
setup_state copies j = state_of copies j (points j.height)

setup_goes : (copies : ℕ) (j : Job) → Goes 100 nests (setup_tokens copies j) prolog_state (state_of copies j (height j.height)) []
unfolding machine_open over
setup_goes copies j = record { by = refl }

pub setup_runs : (copies : ℕ) (j : Job) → copies < 65536 → IsGoodJob j → Runs (setup_lines copies j) prolog_state (setup_state copies j) []
setup_runs copies j few good = record {
  tokens = setup_tokens copies j;
  reads = setup_reads copies j few good;
  goes = subst (λ v. Goes 100 nests (setup_tokens copies j) prolog_state (state_of copies j v) []) (height_is j.height) (setup_goes copies j);
}

-- every entry of the first list is found in the dictionaries
abbrev AllFound : List Entry → List Cell → List ℕ → Type 0
AllFound [] store ds = Unit {0}
AllFound (e ∷ es) store ds = (meaning_in store ds e.key ≡ Value e.value) × AllFound es store ds

found : (store : List Cell) (ds : List ℕ) (es : List Entry) → AllFound es store ds → (name : List ℕ) (x : Object) → entry name es ≡ Some x → meaning_in store ds name ≡ Value x
unfolding entry
found store ds [] all name x h = absurd (grind arith)
found store ds (e ∷ es) all name x h = go (bytes_eq e.key name) refl (found store ds es all.1 name x) h
  where
    go : (b : Bool) → bytes_eq e.key name ≡ b → (entry name es ≡ Some x → meaning_in store ds name ≡ Value x) → (if b then Some e.value else entry name es) ≡ Some x → meaning_in store ds name ≡ Value x
    go true q ih f =
        let same : e.key ≡ name = bytes_same e.key name q in
        let value : e.value ≡ x = grind (arith, f) in
        subst (λ n. meaning_in store ds n ≡ Value x) same (all.0 ∙ ap Value value)
    go false q ih f = ih f

abbrev AllPlain : List Named → List Cell → List ℕ → Type 0
AllPlain [] store ds = Unit {0}
AllPlain (n ∷ ns) store ds = (meaning_in store ds n.name ≡ Operation n.operator) × AllPlain ns store ds

plain : (store : List Cell) (ds : List ℕ) (ns : List Named) → AllPlain ns store ds → (name : List ℕ) (op : Operator) → operator_in ns name ≡ Some op → meaning_in store ds name ≡ Operation op
plain store ds [] all name op h = absurd (grind arith)
plain store ds (n ∷ ns) all name op h = go (bytes_eq n.name name) refl (plain store ds ns all.1 name op) h
  where
    go : (b : Bool) → bytes_eq n.name name ≡ b → (operator_in ns name ≡ Some op → meaning_in store ds name ≡ Operation op) → (if b then Some n.operator else operator_in ns name) ≡ Some op → meaning_in store ds name ≡ Operation op
    go true q ih f =
        let same : n.name ≡ name = bytes_same n.name name q in
        let value : n.operator ≡ op = grind (arith, f) in
        subst (λ t. meaning_in store ds t ≡ Operation op) same (all.0 ∙ ap Operation value)
    go false q ih f = ih f

-- in the prolog's state, with TeXDict on top
pub prolog_knows : HasProlog 2 prolog_state.store (1 ∷ 0 ∷ [])
unfolding machine_open
prolog_knows =
    let store = prolog_state.store in
    let ds : List ℕ = 1 ∷ 0 ∷ [] in
    record {
      names_stand = found store ds names (refl, (refl, (refl, (refl, (refl, (refl, (refl, (refl, (refl, (refl, (refl, (refl, (refl, (refl, (refl, (refl, (refl, (refl, (refl, (refl, (refl, (refl, (refl, (refl, (refl, (refl, (refl, (refl, (refl, (refl, (refl, (refl, (refl, (refl, (refl, (refl, (refl, (refl, (refl, (refl, (refl, tt)))))))))))))))))))))))))))))))))))))))));
      operators_stand = plain store ds table (refl, (refl, (refl, (refl, (refl, (refl, (refl, (refl, (refl, (refl, (refl, (refl, (refl, (refl, (refl, (refl, (refl, (refl, (refl, (refl, (refl, (refl, (refl, (refl, (refl, (refl, (refl, (refl, (refl, (refl, (refl, (refl, (refl, (refl, tt))))))))))))))))))))))))))))))))));
      truth = refl;
      matrix_stands = refl;
      matrix_is = refl;
    }

pub prolog_dictionary : meaning_in prolog_state.store prolog_state.dictionaries (codes "TeXDict") ≡ Value (Dictionary 1)
unfolding machine_open
prolog_dictionary = refl

pub prolog_arrays : HasFontArrays 3 4 5 prolog_state.store (1 ∷ 0 ∷ [])
unfolding machine_open
prolog_arrays = record { FM_stands = refl; FX_stands = refl; EN_stands = refl; FM_is = refl }

pub prolog_delta : meaning_in prolog_state.store (1 ∷ 0 ∷ []) (codes "delta") ≡ Value (number 0)
unfolding machine_open
prolog_delta = refl

module _ (copies : ℕ) (j : Job) where
  pub setup_knows : HasProlog 2 (setup_state copies j).store (1 ∷ 0 ∷ [])
  unfolding machine_open
  setup_knows =
      let store = (setup_state copies j).store in
      let ds : List ℕ = 1 ∷ 0 ∷ [] in
      record {
        names_stand = found store ds names (refl, (refl, (refl, (refl, (refl, (refl, (refl, (refl, (refl, (refl, (refl, (refl, (refl, (refl, (refl, (refl, (refl, (refl, (refl, (refl, (refl, (refl, (refl, (refl, (refl, (refl, (refl, (refl, (refl, (refl, (refl, (refl, (refl, (refl, (refl, (refl, (refl, (refl, (refl, (refl, (refl, tt)))))))))))))))))))))))))))))))))))))))));
        operators_stand = plain store ds table (refl, (refl, (refl, (refl, (refl, (refl, (refl, (refl, (refl, (refl, (refl, (refl, (refl, (refl, (refl, (refl, (refl, (refl, (refl, (refl, (refl, (refl, (refl, (refl, (refl, (refl, (refl, (refl, (refl, (refl, (refl, (refl, (refl, (refl, tt))))))))))))))))))))))))))))))))));
        truth = refl;
        matrix_stands = refl;
        matrix_is = refl;
      }

  pub setup_top : OnTop 1 (0 ∷ []) 1200 (setup_entries j (points j.height)) (setup_state copies j).store (1 ∷ 0 ∷ [])
  setup_top = record { top = refl; stands = refl }

  pub setup_job : JobStands (whole (pos j.across)) (whole (pos j.down)) (whole j.origin_x) (whole j.origin_y) (points j.height) (setup_state copies j).store (1 ∷ 0 ∷ [])
  unfolding machine_open
  setup_job = record { r_stands = refl; vr_stands = refl; ox_stands = refl; oy_stands = refl; vs_stands = refl }

  pub setup_copies : value_in (setup_state copies j).store (1 ∷ 0 ∷ []) (codes "#copies") ≡ Some (number copies)
  unfolding value_in entry
  setup_copies = refl
