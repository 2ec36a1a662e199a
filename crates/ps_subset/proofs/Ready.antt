-- What holds between the lines of a section, and what keeps it: a further key, more cells.
use Rattle.std.proofs.Common.{◌≡◌, refl, ap, ◌∙◌, ℕ, suc, ◌+◌, ◌<◌, ◌≤◌, ◌^◌, List, [], ◌∷◌, ◌++◌, length, Some, None, arith, Bool, true, false}
use Rattle.std.specs.Prelude.{codes, pos, decimal, nat_eq, slice_get, bytes_eq}
use Rattle.std.specs.Char.{is_ascii_digit}
use Rattle.std.specs.Str.{all_ascii_digits}
use Rattle.std.proofs.Math.ListN.{length-set}
use Rattle.std.proofs.lemmas.List.{length-append}
use Rattle.std.proofs.lemmas.Bool.Decides.{nat_tests}
use Rattle.std.proofs.lemmas.Fmt.{digits_decimal, decimal_nonempty}
use Rattle.ps_subset.specs.Fraction.{whole}
use Rattle.ps_subset.specs.State.{Object, Entry, Cell, Entries, Elements, Machine, entry, with_entry, value_in}
use Rattle.ps_subset.specs.GraphicsEffects.{first_frame}
use Rattle.ps_subset.specs.StoreEffects.{all_old, all_below}
use Rattle.ps_subset.specs.Job.{Job, points}
use Rattle.ps_subset.specs.Conditions.{HasProlog, OnTop, JobStands, number, put_entry, font_matrix_cell}
use Rattle.ps_subset.specs.Fonts.{font_name}
use Rattle.ps_subset.specs.FontConditions.{HasFontArrays}
use Rattle.ps_subset.proofs.Dictionaries.{IsFree, HasProlog-put, OnTop-put, meaning_kept, value_kept, length-with_entry, bytes_same, entry-with_other, slice_get-set_other}
use Rattle.ps_subset.proofs.Pages.{SI_free, SS_free}
use Rattle.ps_subset.proofs.Stores.{slice_get-grown, slice_get-some, Keeps-grown, value_keeps, meaning_keeps, HasProlog-keeps, below_more, old_more, Onward-grown, AllHeld-onward, IsFont-onward, array_apart}
use Rattle.ps_subset.proofs.Numbers.{own, first_digit}
use Rattle.ps_subset.proofs.FontWords.{decimal_same}
use Rattle.ps_subset.proofs.Stands.{Placed, directory, AllStand, NoFont, AllStand-put}

-- A key that is none of those that a section rests on.
pub record IsOther (key : List ℕ) : Type 0 where
  pub free : IsFree key
  pub no_FM : bytes_eq key (codes "FM") ≡ false
  pub no_FX : bytes_eq key (codes "FX") ≡ false
  pub no_EN : bytes_eq key (codes "EN") ≡ false
  pub no_R : bytes_eq key (codes "R") ≡ false
  pub no_VR : bytes_eq key (codes "VR") ≡ false
  pub no_OX : bytes_eq key (codes "OX") ≡ false
  pub no_OY : bytes_eq key (codes "OY") ≡ false
  pub no_VS : bytes_eq key (codes "VS") ≡ false
  pub no_delta : bytes_eq key (codes "delta") ≡ false
  pub no_copies : bytes_eq key (codes "#copies") ≡ false

pub SI_other : IsOther (codes "SI")
SI_other = record { free = SI_free; no_FM = refl; no_FX = refl; no_EN = refl; no_R = refl; no_VR = refl; no_OX = refl; no_OY = refl; no_VS = refl; no_delta = refl; no_copies = refl }

pub SS_other : IsOther (codes "SS")
SS_other = record { free = SS_free; no_FM = refl; no_FX = refl; no_EN = refl; no_R = refl; no_VR = refl; no_OX = refl; no_OY = refl; no_VS = refl; no_delta = refl; no_copies = refl }

-- so are the names of fonts: F and a digit
pub digit_apart : (c d : ℕ) → is_ascii_digit c ≡ true → 57 < d → nat_eq c d ≡ false
digit_apart c d h less = grind (arith, nat_tests)

pub digit_apart' : (c d : ℕ) → is_ascii_digit c ≡ true → 57 < d → nat_eq d c ≡ false
digit_apart' c d h less = grind (arith, nat_tests)

pub F_digit_other : (c : ℕ) (cs : List ℕ) → is_ascii_digit c ≡ true → IsOther (70 ∷ c ∷ cs)
unfolding entry
F_digit_other c cs h =
    let b = digit_apart' c 66 h (omega arith) in
    record {
      free = record { no_name = rw b refl; no_operator = refl; no_truth = refl; no_matrix = refl };
      no_FM = rw (digit_apart c 77 h (omega arith)) refl;
      no_FX = rw (digit_apart c 88 h (omega arith)) refl;
      no_EN = refl;
      no_R = refl;
      no_VR = refl;
      no_OX = refl;
      no_OY = refl;
      no_VS = refl;
      no_delta = refl;
      no_copies = refl;
    }

pub font_other : (id : ℕ) → id < 2 ^ 64 → IsOther (font_name id)
font_other id small = go (decimal id) (digits_decimal own id small) (decimal_nonempty id small)
  where
    go : (ds : List ℕ) → all_ascii_digits ds ≡ true → 0 < length ds → IsOther (70 ∷ ds)
    go [] h some = absurd (omega arith)
    go (c ∷ cs) h some = F_digit_other c cs (first_digit c cs h)

pub fonts_apart : (a b : ℕ) → a < 2 ^ 64 → b < 2 ^ 64 → (a ≡ b → ⊥) → bytes_eq (font_name a) (font_name b) ≡ false
fonts_apart a b ha hb apart = go (bytes_eq (font_name a) (font_name b)) refl
  where
    tail_same : (xs ys : List ℕ) → 70 ∷ xs ≡ 70 ∷ ys → xs ≡ ys
    tail_same xs ys h = grind (arith, h)

    go : (q : Bool) → bytes_eq (font_name a) (font_name b) ≡ q → bytes_eq (font_name a) (font_name b) ≡ false
    go false e = e
    go true e = absurd (apart (decimal_same a b ha hb (tail_same (decimal a) (decimal b) (bytes_same (font_name a) (font_name b) e))))

-- A state in which sections, fonts or pages may follow, with room for so many saves and so many keys in the dictionary on top.
pub record IsReady (j : Job) (copies saves keys matrix fm fx en d : ℕ) (below : List ℕ) (room : ℕ) (es : List Entry) (ps : List Placed) (m : Machine) : Type 0 where
  pub knows : HasProlog matrix m.store m.dictionaries
  pub arrays : HasFontArrays fm fx en m.store m.dictionaries
  pub top : OnTop d below room es m.store m.dictionaries
  pub free : length es + keys ≤ room
  pub delta : entry (codes "delta") es ≡ Some (number 0)
  pub job : JobStands (whole (pos j.across)) (whole (pos j.down)) (whole j.origin_x) (whole j.origin_y) (points j.height) m.store m.dictionaries
  pub frame : m.graphics.frame ≡ first_frame
  pub fonts : m.fonts ≡ directory ps
  pub stand : AllStand d ps m.store m.dictionaries
  pub copies_are : value_in m.store m.dictionaries (codes "#copies") ≡ Some (number copies)
  pub operands_room : length m.operands + 60 ≤ 500
  pub old_operands : all_old (length m.store) m.operands ≡ true
  pub old_dictionaries : all_below (length m.store) m.dictionaries ≡ true
  pub stack_room : length m.dictionaries < 19
  pub saves_room : length m.saves + saves ≤ 15
  pub pushed_room : length m.pushed < 31
  pub nobody : m.showing ≡ None

module _ {j : Job} {copies saves keys matrix fm fx en d : ℕ} {below : List ℕ} {room : ℕ} {es : List Entry} {ps : List Placed} (m : Machine) where
  -- a further key
  pub IsReady-put : (key : List ℕ) (v : Object) → IsOther key → NoFont key ps → IsReady j copies saves (suc keys) matrix fm fx en d below room es ps m →
      IsReady j copies saves keys matrix fm fx en d below room (with_entry key v es) ps (record m { store = put_entry m.store d room es key v })
  IsReady-put key v other off r =
      let here = r.top.stands in
      let kept = λ (name : List ℕ) (e : bytes_eq key name ≡ false). meaning_kept m.store d room es key v here name m.dictionaries e in
      let longer = length-set m.store d (Entries room (with_entry key v es)) in
      let grown = length-with_entry key v es in
      record {
        knows = HasProlog-put m.store d room es key v here m.dictionaries other.free r.knows;
        arrays = record {
          FM_stands = kept (codes "FM") other.no_FM ∙ r.arrays.FM_stands;
          FX_stands = kept (codes "FX") other.no_FX ∙ r.arrays.FX_stands;
          EN_stands = kept (codes "EN") other.no_EN ∙ r.arrays.EN_stands;
          FM_is = slice_get-set_other m.store d fm (Entries room (with_entry key v es)) (array_apart m.store fm here r.arrays.FM_is) ∙ r.arrays.FM_is;
        };
        top = OnTop-put key v r.top;
        free = omega (arith, r.free, grown);
        delta = entry-with_other key (codes "delta") v es other.no_delta ∙ r.delta;
        job = record {
          r_stands = kept (codes "R") other.no_R ∙ r.job.r_stands;
          vr_stands = kept (codes "VR") other.no_VR ∙ r.job.vr_stands;
          ox_stands = kept (codes "OX") other.no_OX ∙ r.job.ox_stands;
          oy_stands = kept (codes "OY") other.no_OY ∙ r.job.oy_stands;
          vs_stands = kept (codes "VS") other.no_VS ∙ r.job.vs_stands;
        };
        frame = r.frame;
        fonts = r.fonts;
        stand = AllStand-put d m.store m.dictionaries ps key v here off r.stand;
        copies_are = value_kept m.store d room es key v here (codes "#copies") m.dictionaries other.no_copies ∙ r.copies_are;
        operands_room = r.operands_room;
        old_operands = ap (λ n. all_old n m.operands) longer ∙ r.old_operands;
        old_dictionaries = ap (λ n. all_below n m.dictionaries) longer ∙ r.old_dictionaries;
        stack_room = r.stack_room;
        saves_room = r.saves_room;
        pushed_room = r.pushed_room;
        nobody = r.nobody;
      }

pub AllStand-grown : {room : ℕ} {es : List Entry} (d : ℕ) (store : List Cell) (ds : List ℕ) (ps : List Placed) (more : List Cell) → slice_get store d ≡ Some (Entries room es) → all_below (length store) ds ≡ true → AllStand d ps store ds → AllStand d ps (store ++ more) ds
AllStand-grown d store ds [] more here old all = tt
AllStand-grown {room} {es} d store ds (p ∷ ps) more here old all =
    let s = all.0 in
    let on = Onward-grown d store more in (
      record {
        name_is = meaning_keeps (Keeps-grown store more) ds (font_name p.font.id) old ∙ s.name_is;
        apart = s.apart;
        font_is = IsFont-onward on here s.apart s.font_is;
        letters = AllHeld-onward on here (suc p.at) p.font.letters s.letters;
        all = record { table = s.all.table; table_is = on.by (suc p.at) (Elements s.all.table) (array_apart store (suc p.at) here s.all.table_is) s.all.table_is; held = s.all.held };
        codes_fit = s.codes_fit;
        small = s.small;
      },
      AllStand-grown d store ds ps more here old all.1,
    )

module _ {j : Job} {copies saves keys matrix fm fx en d : ℕ} {below : List ℕ} {room : ℕ} {es : List Entry} {ps : List Placed} (m : Machine) where
  -- more cells
  pub IsReady-grown : (more : List Cell) → IsReady j copies saves keys matrix fm fx en d below room es ps m → IsReady j copies saves keys matrix fm fx en d below room es ps (record m { store = m.store ++ more })
  IsReady-grown more r =
      let g = Keeps-grown m.store more in
      let old = r.old_dictionaries in
      let n = length-append m.store more in
      let kept = λ (name : List ℕ). meaning_keeps g m.dictionaries name old in
      record {
        knows = HasProlog-keeps g old (slice_get-some m.store matrix _ r.knows.matrix_is) r.knows;
        arrays = record {
          FM_stands = kept (codes "FM") ∙ r.arrays.FM_stands;
          FX_stands = kept (codes "FX") ∙ r.arrays.FX_stands;
          EN_stands = kept (codes "EN") ∙ r.arrays.EN_stands;
          FM_is = slice_get-grown m.store more fm font_matrix_cell r.arrays.FM_is;
        };
        top = record { top = r.top.top; stands = slice_get-grown m.store more d (Entries room es) r.top.stands };
        free = r.free;
        delta = r.delta;
        job = record {
          r_stands = kept (codes "R") ∙ r.job.r_stands;
          vr_stands = kept (codes "VR") ∙ r.job.vr_stands;
          ox_stands = kept (codes "OX") ∙ r.job.ox_stands;
          oy_stands = kept (codes "OY") ∙ r.job.oy_stands;
          vs_stands = kept (codes "VS") ∙ r.job.vs_stands;
        };
        frame = r.frame;
        fonts = r.fonts;
        stand = AllStand-grown d m.store m.dictionaries ps more r.top.stands old r.stand;
        copies_are = value_keeps g m.dictionaries (codes "#copies") old ∙ r.copies_are;
        operands_room = r.operands_room;
        old_operands = old_more (length m.store) (length (m.store ++ more)) m.operands (omega (arith, n)) r.old_operands;
        old_dictionaries = below_more (length m.store) (length (m.store ++ more)) m.dictionaries (omega (arith, n)) old;
        stack_room = r.stack_room;
        saves_room = r.saves_room;
        pushed_room = r.pushed_room;
        nobody = r.nobody;
      }
