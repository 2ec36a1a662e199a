-- How far a search with a memory has come: the frames that are open, the packets that were visited, and the keys that are known.
use Rattle.std.specs.Prelude.{◌≡◌, ℕ, Bool, true, ◌⊎◌, List, [], ◌∷◌, ◌++◌, fold}
use Rattle.std.specs.List.{list_any}
use Rattle.indexmap.specs.IndexSet.{insert_key}
use Rattle.font_set.specs.Acts.{Act, Every, HasBy, Inside, Reached}
use Rattle.font_set.specs.Acts.Act.{Selects, Runs, Wrong}

-- A frame that is open: its packet, the acts before its place, and those from there on.
pub record Frame (K P : Type 0) : Type 0 where
  pub packet : P
  pub done : List (Act K P)
  pub ahead : List (Act K P)

module _ {K : Type 0} (eq : K → K → Bool) where
  -- a key is one of those known
  abbrev pub Knows : List K → K → Type 0
  Knows ks k = list_any (eq k) ks ≡ true

module _ {K P : Type 0} (eq : K → K → Bool) (body : P → List (Act K P)) where
  -- A key that is selected is known, and a packet that is run was visited.
  abbrev pub Seen : (P → Type 0) → List K → Act K P → Type 0
  Seen V ks (Selects k) = Knows eq ks k
  Seen V ks (Runs p) = V p
  Seen V ks Wrong = ⊥

  abbrev pub IsOpen : List (Frame K P) → P → Type 0
  IsOpen [] p = ⊥
  IsOpen (f ∷ fs) p = (f.packet ≡ p) ⊎ IsOpen fs p

  -- The packet of a frame is what the frame below it runs there, and the lowest is the root.
  abbrev pub Under : P → P → List (Frame K P) → Type 0
  Under root p [] = p ≡ root
  Under root p (f ∷ fs) = (front : List (Act K P)) × (f.done ≡ front ++ Runs p ∷ [])

  abbrev pub Chain : P → (P → Type 0) → List K → List (Frame K P) → Type 0
  Chain root V ks [] = Unit {0}
  Chain root V ks (f ∷ fs) =
      (body f.packet ≡ f.done ++ f.ahead) × Every (Seen V ks) f.done × V f.packet × Under root f.packet fs × Chain root V ks fs

  -- the keys that are still ahead
  abbrev pub Pending : List (Frame K P) → List K → Type 0
  Pending [] ks = ks ≡ []
  Pending (f ∷ fs) ks =
      (n : ℕ) × (inner : List K) × (rest : List K) × HasBy (Inside body n) f.ahead inner × Pending fs rest × (ks ≡ inner ++ rest)

  -- V are the packets visited, ks the keys known now and ks0 those at the start; the last frame stands first. Each packet visited is done
  -- with or open, it is reached from the root, and the keys known are those of the expansion up to here.
  pub record Search (root : P) (ks0 : List K) (V : P → Type 0) (ks : List K) (fs : List (Frame K P)) : Type 0 where
    pub rooted : V root
    pub chain : Chain root V ks fs
    pub closed : (p : P) → V p → Every (Seen V ks) (body p) ⊎ IsOpen fs p
    pub reached : (p : P) → V p → (n : ℕ) × Reached body n root p
    pub order : (n : ℕ) (all : List K) → Inside body n root all → (rest : List K) × Pending fs rest × (fold (insert_key eq) ks0 all ≡ fold (insert_key eq) ks rest)
