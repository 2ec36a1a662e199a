-- A string is shown and the place moves on: tail, b, M, c to k, l to t and y.
use Rattle.std.proofs.Common.{◌≡◌, refl, ap, subst, ℕ, zero, suc, ◌+◌, ◌<◌, ◌≤◌, List, [], ◌∷◌, ◌++◌, length, Some, arith}
use Rattle.std.specs.Prelude.{codes, ℤ, pos, negsuc, ◌+ℤ◌}
use Rattle.ps_subset.specs.Token as token
use Rattle.ps_subset.specs.Token.{Token}
use Rattle.ps_subset.specs.Fraction.{whole}
use Rattle.ps_subset.specs.State.{Object, Number, Text, Entry, Machine, entry}
use Rattle.ps_subset.specs.GraphicsEffects.{at_place}
use Rattle.ps_subset.specs.StackEffects.{rolled}
use Rattle.ps_subset.specs.Run.{Value, meaning_in}
use Rattle.ps_subset.specs.Job.{Job, IsGoodJob, pixel_place}
use Rattle.ps_subset.specs.Leads.{Meets}
use Rattle.ps_subset.specs.Conditions.{HasProlog, OnTop, TakesKey, number, name, procedure, names, job_frame}
use Rattle.ps_subset.specs.Fonts.{Letter, string_end, letter_codes}
use Rattle.ps_subset.specs.FontConditions.{IsFont, AllHeld}
use Rattle.ps_subset.specs.FontNameLaws.{shown_events, gone}
use Rattle.ps_subset.specs.Ways.{short_name, near_name}
use Rattle.ps_subset.proofs.Fractions.{plus-whole}
use Rattle.ps_subset.proofs.Dictionaries.{IsFree, HasProlog-put}
use Rattle.ps_subset.proofs.Steps.{◌▸◌, done, ending, number_goes, literal_goes, name_goes, value_goes, add_goes}
use Rattle.ps_subset.proofs.FontSteps.{roll_goes}
use Rattle.ps_subset.proofs.Rules.{A_goes, S_goes, X_goes}
use Rattle.ps_subset.proofs.Pixels.{a_pixel, w_pixel, rmoveto_pixel}
use Rattle.ps_subset.specs.Reading.{reading_after, tokens_from, next, begin}
use Rattle.ps_subset.specs.Prolog.{line}
use Rattle.ps_subset.proofs.Reading.{Reads, name_reads}
use Rattle.ps_subset.proofs.Show.{p_pixel}

pub delta_free : IsFree (codes "delta")
unfolding entry
delta_free = record { no_name = refl; no_operator = refl; no_truth = refl; no_matrix = refl }

module _ (j : Job) (good : IsGoodJob j) {matrix : ℕ} where
  pub tail_pixel : {levels nest : ℕ} {m : Machine} {d room : ℕ} {below : List ℕ} {es : List Entry} {rest : List Object} (k : HasProlog matrix m.store m.dictionaries) → OnTop d below room es m.store m.dictionaries → TakesKey (codes "delta") room es → m.graphics.frame ≡ job_frame j → (x y n : ℤ) → m.operands ≡ Number (whole n) ∷ rest → m.graphics.place ≡ Some (pixel_place j x y) → length rest + 3 ≤ 500 →
      Meets (suc (suc (suc levels))) nest (token.Name (codes "tail")) m (gone j m d room es rest n (x +ℤ n) y) []
  unfolding entry
  tail_pixel {m = m} {d} {room} {es = es} k w fits frame x y n h here long =
      let l = ap length h in
      let k' = HasProlog-put m.store d room es (codes "delta") (Number (whole n)) w.stands m.dictionaries delta_free k in
      name_goes (k.names_stand (codes "tail") _ refl) (
      A_goes k h (omega (arith, l))
      ▸ literal_goes (omega (arith, l))
      ▸ X_goes k w fits refl
      ▸ number_goes (omega (arith, l))
      ▸ rmoveto_pixel j good k' frame x y n (ap (λ r. number 0 ∷ r) h) here
      ▸ done)

  module _ {levels nest f glyphs : ℕ} {m : Machine} {key : List ℕ} {rest : List Object} (k : HasProlog matrix m.store m.dictionaries) (font : IsFont key f glyphs m.store) (ls : List Letter) (all : AllHeld glyphs ls m.store) (frame : m.graphics.frame ≡ job_frame j) (set : m.graphics.font ≡ Some f) (x y : ℤ) (here : m.graphics.place ≡ Some (pixel_place j x y)) (long : length rest + 14 ≤ 500) (pushable : length m.pushed < 31) where
    -- a short way
    pub short_pixel : (n : ℤ) (short : List ℕ) → entry short names ≡ Some (procedure (name (codes "p") ∷ token.Number n ∷ name (codes "w") ∷ [])) → m.operands ≡ Text (letter_codes ls) ∷ rest →
        Meets (suc (suc (suc (suc (suc levels))))) nest (token.Name short) m (at_place (pixel_place j (string_end x ls +ℤ n) y) rest m) (shown_events j key x y ls ++ [])
    short_pixel n short is h =
        let l = ap length h in
        name_goes (k.names_stand short _ is) (
        p_pixel j good key x y ls k font all frame set here h (omega (arith, l)) pushable
        ▸ number_goes (omega (arith, l))
        ▸ w_pixel j good k frame (string_end x ls) y n refl refl (omega (arith, l))
        ▸ done)

    -- to another row
    pub y_pixel : (x' y' : ℤ) → m.operands ≡ Number (whole y') ∷ Number (whole x') ∷ Text (letter_codes ls) ∷ rest →
        Meets (suc (suc (suc (suc (suc levels))))) nest (token.Name (codes "y")) m (at_place (pixel_place j x' y') rest m) (shown_events j key x y ls ++ [])
    unfolding entry
    y_pixel x' y' h =
        let l = ap length h in
        name_goes (k.names_stand (codes "y") _ refl) (
        number_goes (omega (arith, l))
        ▸ number_goes (omega (arith, l))
        ▸ roll_goes k 3 2 (omega arith) (omega arith) refl (omega (arith, l))
        ▸ p_pixel j good key x y ls k font all frame set here (ap (rolled 3 2) h) (omega (arith, l)) pushable
        ▸ a_pixel j good k frame x' y' refl
        ▸ done)

    module _ {d room : ℕ} {below : List ℕ} {es : List Entry} (w : OnTop d below room es m.store m.dictionaries) (fits : TakesKey (codes "delta") room es) where
      -- by so many pixels, which delta keeps
      pub b_pixel : (n : ℤ) → m.operands ≡ Number (whole n) ∷ Text (letter_codes ls) ∷ rest →
          Meets (suc (suc (suc (suc (suc levels))))) nest (token.Name (codes "b")) m (gone j m d room es rest n (string_end x ls +ℤ n) y) (shown_events j key x y ls ++ [])
      unfolding entry
      b_pixel n h =
          let l = ap length h in
          name_goes (k.names_stand (codes "b") _ refl) (
          S_goes k h
          ▸ p_pixel j good key x y ls k font all frame set here refl (omega (arith, l)) pushable
          ▸ tail_pixel k w fits frame (string_end x ls) y n refl refl (omega arith)
          ▸ done)

      -- by delta and so many pixels
      pub M_pixel : (n delta : ℤ) → m.operands ≡ Number (whole n) ∷ Text (letter_codes ls) ∷ rest → meaning_in m.store m.dictionaries (codes "delta") ≡ Value (Number (whole delta)) →
          Meets (suc (suc (suc (suc (suc levels))))) nest (token.Name (codes "M")) m (gone j m d room es rest (n +ℤ delta) (string_end x ls +ℤ (n +ℤ delta)) y) (shown_events j key x y ls ++ [])
      unfolding entry
      M_pixel n delta h is =
          let l = ap length h in
          name_goes (k.names_stand (codes "M") _ refl) (
          S_goes k h
          ▸ p_pixel j good key x y ls k font all frame set here refl (omega (arith, l)) pushable
          ▸ value_goes is (λ q r. refl) (omega (arith, l))
          ▸ add_goes k refl
          ▸ tail_pixel k w fits frame (string_end x ls) y (n +ℤ delta) (λ i. Number (plus-whole n delta i) ∷ rest) refl (omega arith)
          ▸ done)

  pub near_pixel : {levels nest d room f glyphs : ℕ} {below : List ℕ} {es : List Entry} {m : Machine} {key : List ℕ} {rest : List Object} (k : HasProlog matrix m.store m.dictionaries) (font : IsFont key f glyphs m.store) (ls : List Letter) (all : AllHeld glyphs ls m.store) (frame : m.graphics.frame ≡ job_frame j) (set : m.graphics.font ≡ Some f) (x y : ℤ) (here : m.graphics.place ≡ Some (pixel_place j x y)) (long : length rest + 14 ≤ 500) (pushable : length m.pushed < 31) (w : OnTop d below room es m.store m.dictionaries) (fits : TakesKey (codes "delta") room es)
      (n delta : ℤ) (near : List ℕ) → entry near names ≡ Some (procedure (token.Number n ∷ name (codes "M") ∷ [])) → m.operands ≡ Text (letter_codes ls) ∷ rest → meaning_in m.store m.dictionaries (codes "delta") ≡ Value (Number (whole delta)) →
      Meets (suc (suc (suc (suc (suc (suc levels)))))) nest (token.Name near) m (gone j m d room es rest (n +ℤ delta) (string_end x ls +ℤ (n +ℤ delta)) y) (shown_events j key x y ls ++ [])
  near_pixel k font ls all frame set x y here long pushable w fits n delta near is h stands =
      let l = ap length h in
      name_goes (k.names_stand near _ is) (
      number_goes (omega (arith, l))
      ▸ ending (M_pixel k font ls all frame set x y here long pushable w fits n delta (ap (λ r. Number (whole n) ∷ r) h) stands))

pick : {a key : List ℕ} (P : List ℕ → Type 0) → Some a ≡ Some key → P a → P key
pick {a} {key} P h p = let e : a ≡ key = grind arith in subst P e p

-- what the names stand for
pub short_stands : (n : ℤ) (key : List ℕ) → short_name n ≡ Some key → entry key names ≡ Some (procedure (name (codes "p") ∷ token.Number n ∷ name (codes "w") ∷ []))
unfolding entry
short_stands (negsuc (suc (suc (suc zero)))) key h = pick (λ q. entry q names ≡ Some (procedure (name (codes "p") ∷ token.Number (negsuc 3) ∷ name (codes "w") ∷ []))) h refl
short_stands (negsuc (suc (suc zero))) key h = pick (λ q. entry q names ≡ Some (procedure (name (codes "p") ∷ token.Number (negsuc 2) ∷ name (codes "w") ∷ []))) h refl
short_stands (negsuc (suc zero)) key h = pick (λ q. entry q names ≡ Some (procedure (name (codes "p") ∷ token.Number (negsuc 1) ∷ name (codes "w") ∷ []))) h refl
short_stands (negsuc zero) key h = pick (λ q. entry q names ≡ Some (procedure (name (codes "p") ∷ token.Number (negsuc 0) ∷ name (codes "w") ∷ []))) h refl
short_stands (pos (suc zero)) key h = pick (λ q. entry q names ≡ Some (procedure (name (codes "p") ∷ token.Number (pos 1) ∷ name (codes "w") ∷ []))) h refl
short_stands (pos (suc (suc zero))) key h = pick (λ q. entry q names ≡ Some (procedure (name (codes "p") ∷ token.Number (pos 2) ∷ name (codes "w") ∷ []))) h refl
short_stands (pos (suc (suc (suc zero)))) key h = pick (λ q. entry q names ≡ Some (procedure (name (codes "p") ∷ token.Number (pos 3) ∷ name (codes "w") ∷ []))) h refl
short_stands (pos (suc (suc (suc (suc zero))))) key h = pick (λ q. entry q names ≡ Some (procedure (name (codes "p") ∷ token.Number (pos 4) ∷ name (codes "w") ∷ []))) h refl
short_stands _ key h = absurd (grind arith)

pub near_stands : (n : ℤ) (key : List ℕ) → near_name n ≡ Some key → entry key names ≡ Some (procedure (token.Number n ∷ name (codes "M") ∷ []))
unfolding entry
near_stands (negsuc (suc (suc (suc zero)))) key h = pick (λ q. entry q names ≡ Some (procedure (token.Number (negsuc 3) ∷ name (codes "M") ∷ []))) h refl
near_stands (negsuc (suc (suc zero))) key h = pick (λ q. entry q names ≡ Some (procedure (token.Number (negsuc 2) ∷ name (codes "M") ∷ []))) h refl
near_stands (negsuc (suc zero)) key h = pick (λ q. entry q names ≡ Some (procedure (token.Number (negsuc 1) ∷ name (codes "M") ∷ []))) h refl
near_stands (negsuc zero) key h = pick (λ q. entry q names ≡ Some (procedure (token.Number (negsuc 0) ∷ name (codes "M") ∷ []))) h refl
near_stands (pos zero) key h = pick (λ q. entry q names ≡ Some (procedure (token.Number (pos 0) ∷ name (codes "M") ∷ []))) h refl
near_stands (pos (suc zero)) key h = pick (λ q. entry q names ≡ Some (procedure (token.Number (pos 1) ∷ name (codes "M") ∷ []))) h refl
near_stands (pos (suc (suc zero))) key h = pick (λ q. entry q names ≡ Some (procedure (token.Number (pos 2) ∷ name (codes "M") ∷ []))) h refl
near_stands (pos (suc (suc (suc zero)))) key h = pick (λ q. entry q names ≡ Some (procedure (token.Number (pos 3) ∷ name (codes "M") ∷ []))) h refl
near_stands (pos (suc (suc (suc (suc zero))))) key h = pick (λ q. entry q names ≡ Some (procedure (token.Number (pos 4) ∷ name (codes "M") ∷ []))) h refl
near_stands _ key h = absurd (grind arith)

pub short_reads : (n : ℤ) (key : List ℕ) → short_name n ≡ Some key → Reads (line key) (token.Name key ∷ [])
unfolding tokens_from reading_after next begin
short_reads (negsuc (suc (suc (suc zero)))) key h = pick (λ q. Reads (line q) (token.Name q ∷ [])) h (name_reads (codes "l") refl refl)
short_reads (negsuc (suc (suc zero))) key h = pick (λ q. Reads (line q) (token.Name q ∷ [])) h (name_reads (codes "m") refl refl)
short_reads (negsuc (suc zero)) key h = pick (λ q. Reads (line q) (token.Name q ∷ [])) h (name_reads (codes "n") refl refl)
short_reads (negsuc zero) key h = pick (λ q. Reads (line q) (token.Name q ∷ [])) h (name_reads (codes "o") refl refl)
short_reads (pos (suc zero)) key h = pick (λ q. Reads (line q) (token.Name q ∷ [])) h (name_reads (codes "q") refl refl)
short_reads (pos (suc (suc zero))) key h = pick (λ q. Reads (line q) (token.Name q ∷ [])) h (name_reads (codes "r") refl refl)
short_reads (pos (suc (suc (suc zero)))) key h = pick (λ q. Reads (line q) (token.Name q ∷ [])) h (name_reads (codes "s") refl refl)
short_reads (pos (suc (suc (suc (suc zero))))) key h = pick (λ q. Reads (line q) (token.Name q ∷ [])) h (name_reads (codes "t") refl refl)
short_reads _ key h = absurd (grind arith)

pub near_reads : (n : ℤ) (key : List ℕ) → near_name n ≡ Some key → Reads (line key) (token.Name key ∷ [])
unfolding tokens_from reading_after next begin
near_reads (negsuc (suc (suc (suc zero)))) key h = pick (λ q. Reads (line q) (token.Name q ∷ [])) h (name_reads (codes "c") refl refl)
near_reads (negsuc (suc (suc zero))) key h = pick (λ q. Reads (line q) (token.Name q ∷ [])) h (name_reads (codes "d") refl refl)
near_reads (negsuc (suc zero)) key h = pick (λ q. Reads (line q) (token.Name q ∷ [])) h (name_reads (codes "e") refl refl)
near_reads (negsuc zero) key h = pick (λ q. Reads (line q) (token.Name q ∷ [])) h (name_reads (codes "f") refl refl)
near_reads (pos zero) key h = pick (λ q. Reads (line q) (token.Name q ∷ [])) h (name_reads (codes "g") refl refl)
near_reads (pos (suc zero)) key h = pick (λ q. Reads (line q) (token.Name q ∷ [])) h (name_reads (codes "h") refl refl)
near_reads (pos (suc (suc zero))) key h = pick (λ q. Reads (line q) (token.Name q ∷ [])) h (name_reads (codes "i") refl refl)
near_reads (pos (suc (suc (suc zero)))) key h = pick (λ q. Reads (line q) (token.Name q ∷ [])) h (name_reads (codes "j") refl refl)
near_reads (pos (suc (suc (suc (suc zero))))) key h = pick (λ q. Reads (line q) (token.Name q ∷ [])) h (name_reads (codes "k") refl refl)
near_reads _ key h = absurd (grind arith)
