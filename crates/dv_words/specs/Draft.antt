-- What the words so far ask for.
use Rattle.std.specs.Prelude.{ℕ, ℤ, pos, List, [], Bool, true, false, Option, None}
use Rattle.std.specs.Option.{is_some}
use Rattle.dv_words.specs.declared.draft.Bound.{Bound}
use Rattle.dv_words.specs.declared.pages.Window.{Window}
use Rattle.dv_words.specs.declared.pages.Parity.{Parity}
use Rattle.dv_words.specs.declared.pages.Parity.TheVariants.{All}

-- names, page numbers, sizes in scaled points; across and down are the two resolutions
pub record Draft : Type 0 where
  pub input : Option (List ℕ)
  pub output : Option (List ℕ)
  pub first : Option Bound
  pub last : Option Bound
  pub ranges : List Window
  pub limit : Option ℕ
  pub reverse : Bool
  pub parity : Parity
  pub copies : ℕ
  pub collated : ℕ
  pub magnification : Option ℕ
  pub across : Option ℕ
  pub down : Option ℕ
  pub per_section : Option ℕ
  pub headers : List (List ℕ)
  pub quiet : Bool
  pub comments : Bool
  pub paper : Option (ℤ × ℤ)
  pub offset : ℤ × ℤ
  pub drift : ℕ
  pub memory : ℕ
  pub pass_ps : Bool
  pub detail : ℕ

-- what holds where nothing is asked for
abbrev pub no_draft : Draft
no_draft =
    record {
      input = None;
      output = None;
      first = None;
      last = None;
      ranges = [];
      limit = None;
      reverse = false;
      parity = All;
      copies = 1;
      collated = 1;
      magnification = None;
      across = None;
      down = None;
      per_section = None;
      headers = [];
      quiet = false;
      comments = true;
      paper = None;
      offset = (pos 0, pos 0);
      drift = 2;
      memory = 16000000;
      pass_ps = false;
      detail = 1;
    }

-- there is an input
abbrev pub is_whole : Draft → Bool
is_whole d = is_some d.input
