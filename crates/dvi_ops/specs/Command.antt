-- The commands of DVI files (DVI format, the table of commands) as values: what a command says, without where its bytes lie.
use Rattle.std.specs.Prelude.{ℕ, ℤ, List}

-- A font definition. name is its area and its name joined, and area the length of the first.
pub record Definition : Type 0 where
  pub k : ℤ
  pub checksum : ℕ
  pub size : ℤ
  pub design : ℤ
  pub area : ℕ
  pub name : List ℕ

-- what pre says of the file
pub record Preamble : Type 0 where
  pub id : ℕ
  pub num : ℤ
  pub den : ℤ
  pub mag : ℤ
  pub comment : List ℕ

-- what post says: back is the place of the last page, or -1; tall, wide and depth are what the pages need at most
pub record Postamble : Type 0 where
  pub back : ℤ
  pub num : ℤ
  pub den : ℤ
  pub mag : ℤ
  pub tall : ℤ
  pub wide : ℤ
  pub depth : ℕ
  pub pages : ℕ

-- One constructor for each kind of command. Of several spellings, as set_char_65 and set1 65, nothing is left here.
pub data Command : Type 0 where
  Set : (code : ℤ) → Command
  SetRule : (a b : ℤ) → Command
  Put : (code : ℤ) → Command
  PutRule : (a b : ℤ) → Command
  Nop : Command
  Bop : (counts : List ℤ) (back : ℤ) → Command
  Eop : Command
  Push : Command
  Pop : Command
  Right : (q : ℤ) → Command
  W0 : Command
  W : (q : ℤ) → Command
  X0 : Command
  X : (q : ℤ) → Command
  Down : (q : ℤ) → Command
  Y0 : Command
  Y : (q : ℤ) → Command
  Z0 : Command
  Z : (q : ℤ) → Command
  Fnt : (k : ℤ) → Command
  Xxx : (text : List ℕ) → Command
  FntDef : (definition : Definition) → Command
  Pre : (head : Preamble) → Command
  Post : (tail : Postamble) → Command
  PostPost : (back id : ℕ) → Command
