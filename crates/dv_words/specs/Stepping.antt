-- No public clause cites this. Reading word by word: the option that a word begins with, and the state between two words.
use Rattle.std.specs.Prelude.{ℕ, List, [], ◌∷◌, Option, Some, None, Bool, true, false, nat_eq, if◌then◌else◌}
use Rattle.dv_words.specs.Grammar.{Front, Grammar, is_option}

-- what follows the text in the word
abbrev pub cut : List ℕ → List ℕ → Option (List ℕ)
cut [] word = Some word
cut (c ∷ text) [] = None
cut (c ∷ text) (b ∷ word) = if nat_eq c b then cut text word else None

-- the option that a word begins with, by the first front that fits, and its parameter where it stands in the word
pub record Opened (O : Type 0) : Type 0 where
  pub option : O
  pub rest : Option (List ℕ)

abbrev pub fit : {O : Type 0} → Front O → List ℕ → Bool → Option (List ℕ) → Option (Opened O)
fit front word true (Some []) = Some (record { option = front.option; rest = None })
fit front word true (Some (b ∷ bs)) = None
fit front word true None = None
fit front word false (Some rest) = Some (record { option = front.option; rest = Some rest })
fit front word false None = None

abbrev pub fits : {O : Type 0} → Front O → List ℕ → Option (Opened O)
fits front word = fit front word front.apart (cut front.text word)

abbrev pub or_else : {X : Type 0} → Option X → Option X → Option X
or_else (Some x) other = Some x
or_else None other = other

abbrev pub opened : {O : Type 0} → List (Front O) → List ℕ → Option (Opened O)
opened [] word = None
opened (front ∷ fronts) word = or_else (fits front word) (opened fronts word)

-- between two words: a draft, and maybe an option that still wants its parameter
pub data State (O D : Type 0) : Type 0 where
  Ready : (draft : D) → State O D
  Waits : (option : O) (draft : D) → State O D

module _ {O D : Type 0} (G : Grammar O D) where
  abbrev pub changed : D → Option (D → D) → Option (State O D)
  changed d None = None
  changed d (Some change) = Some (Ready (change d))

  abbrev pub with_rest : O → D → Option (List ℕ) → Option (State O D)
  with_rest o d None = Some (Waits o d)
  with_rest o d (Some rest) = changed d (G.reads o rest)

  abbrev pub begun : D → Option (Opened O) → Option (State O D)
  begun d None = None
  begun d (Some op) = if G.stands op.option d then with_rest op.option d op.rest else None

  abbrev pub named : Option D → Option (State O D)
  named None = None
  named (Some d) = Some (Ready d)

  abbrev pub step : State O D → List ℕ → Option (State O D)
  step (Ready d) word = if is_option word then begun d (opened G.fronts word) else named (G.names word d)
  step (Waits o d) word = changed d (G.reads o word)

  abbrev pub and_then : Option (State O D) → (State O D → Option (State O D)) → Option (State O D)
  and_then None f = None
  and_then (Some s) f = f s

  abbrev pub run : List (List ℕ) → State O D → Option (State O D)
  run [] s = Some s
  run (word ∷ words) s = and_then (step s word) (run words)

  abbrev pub is_end : State O D → Bool
  is_end (Ready d) = G.whole d
  is_end (Waits o d) = false
