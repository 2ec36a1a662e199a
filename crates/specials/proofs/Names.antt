-- A file's name is text.
use Rattle.std.proofs.Common.{◌≡◌, ◌<◌, ℕ, List, length, get_or, Bool, true, false, arith, nat_le, ◌&&◌, refl}
use Rattle.std.specs.List.{list_all}
use Rattle.std.specs.Str.{IsUtf8}
use Rattle.std.proofs.lemmas.List.Sums.{AllPass-from_list_all}
use Rattle.std.proofs.lemmas.Str.{IsUtf8-from_ascii}
use Rattle.std.proofs.lemmas.Str.Ascii.{IsAscii-from_all}
use Rattle.std.proofs.lemmas.Bool.Decides.{nat_tests}
use Rattle.specials.specs.FileNames.{is_file_name, is_visible}

small : (byte : ℕ) → is_visible byte ≡ true → byte < 128
small byte h = grind (arith, nat_tests)

are_visible : (name : List ℕ) → is_file_name name ≡ true → list_all is_visible name ≡ true
are_visible name h = by (list_all is_visible name) (nat_le 1 (length name) && nat_le (length name) 500) h where
  by : (a b : Bool) → (a && b) ≡ true → a ≡ true
  by true b e = refl
  by false b e = e

pub name_is_text : (name : List ℕ) → is_file_name name ≡ true → IsUtf8 name
name_is_text name h =
    IsUtf8-from_ascii name (IsAscii-from_all name (λ k d below. small (get_or name k d) (AllPass-from_list_all is_visible name (are_visible name h) k d below)))
