-- Files of a font on a shelf.
use Rattle.std.proofs.Common.{◌≡◌, ◌≤◌, ◌<◌, ◌+◌, ◌-◌, ◌++◌, inl, inr, ℕ, arith, List, [], ◌∷◌, length, Option, Some, None, Bool, false, refl, sym, ap, subst, ◌∙◌, append_assoc, nat_lt, if◌then◌else◌}
use Rattle.std.specs.List.{Contains}
use Rattle.std.proofs.lemmas.List.Elements.{Contains-append_left, Contains-append_right}
use Rattle.std.proofs.lemmas.Bool.Decides.{nat_tests}
use Rattle.dv_base.specs.Causes.{Rose}
use Rattle.dv_base.specs.FileName.{text_of}
use Rattle.dv_base.specs.Shelf.{Contents, Told, WhereHeld, Keeps, IsLong}
use Rattle.dv_base.specs.declared.name.FileName.{FileName}
use Rattle.vf_packets.specs.Font.{VirtualFont}
use Rattle.vf_packets.specs.File.{IsVf}
use Rattle.font_set.specs.Key.{Key}
use Rattle.font_set.specs.Fonts.{FontSet}
use Rattle.font_set.specs.FontOf.{HasVf, vf_name, pk_name, pk_names, above_zero, resolution, first_of, or_else, most_file, IsReal, WantsPackets, WantsRasters}
use Rattle.font_set.specs.FontFaults.{NotLoaded, IsRealBy, IsTried, IsPkFile, IsFontFile, IsMissing, IsFirstPk}
use Rattle.std.specs.Global.{Vec}
use Rattle.font_set.specs.Files.{NotRead, CandidateGives, IsPkFound}
use Rattle.font_set.specs.declared.fault.FontFault.{FontFault}
use Rattle.font_set.specs.declared.fault.FontFault.TheVariants as fault
use Rattle.font_set.specs.declared.want.Want.{Want}
use Rattle.font_set.specs.declared.want.Want.TheVariants as wants

rose_earlier : (a b c : ℕ) → a ≤ b → Rose b c → Rose a c
rose_earlier a b c l r = grind (arith, nat_tests)

-- ---- why a file isn't read

pub not_read : (set : FontSet) (key : Key) (name : FileName) (limit : ℕ) (old new : Told) (e : FontFault) → IsFontFile set key (text_of name) limit old → NotRead name limit old new e → NotLoaded set key old new e
not_read set key name limit old new (fault.FileTooLong n) f h =
    let same : text_of n ≡ text_of name = ap (λ (x : FileName). text_of x) h.0 in
    (h.1, limit, subst (λ (t : List ℕ). IsFontFile set key t limit old) (sym same) f, subst (λ (t : List ℕ). WhereHeld old.held (λ held. IsLong limit (held t))) (sym same) h.2)
not_read set key name limit old new (fault.ReadFault n) f h =
    let same : text_of n ≡ text_of name = ap (λ (x : FileName). text_of x) h.0 in
    (h.1, limit, subst (λ (t : List ℕ). IsFontFile set key t limit old) (sym same) f)
not_read set key name limit old new fault.OutOfMemory f h = tt
not_read set key name limit old new (fault.Missing n) f h = absurd h
not_read set key name limit old new (fault.Tfm n t) f h = absurd h
not_read set key name limit old new (fault.Vf n t) f h = absurd h
not_read set key name limit old new (fault.Pk n t) f h = absurd h
not_read set key name limit old new fault.TooManyFonts f h = absurd h
not_read set key name limit old new (fault.BadSize p) f h = absurd h
not_read set key name limit old new fault.RasterSpace f h = absurd h

-- ---- the first file that is there

pub first_of_append : (held : Contents) (xs ys : List (List ℕ)) → first_of held (xs ++ ys) ≡ or_else (first_of held xs) (first_of held ys)
first_of_append held [] ys = refl
first_of_append held (x ∷ xs) ys = by (held x) (first_of held (xs ++ ys)) (first_of held xs) (first_of held ys) (first_of_append held xs ys)
  where
    by : (o p q r : Option (List ℕ)) → p ≡ or_else q r → or_else o p ≡ or_else (or_else o q) r
    by None p q r e = e
    by (Some bytes) p q r e = refl

-- one that isn't there is passed over
pub past : (o : Option Contents) (xs ys : List (List ℕ)) (bytes : Option (List ℕ)) → WhereHeld o (λ held. first_of held xs ≡ None) → WhereHeld o (λ held. first_of held ys ≡ bytes) → WhereHeld o (λ held. first_of held (xs ++ ys) ≡ bytes)
past None xs ys bytes a b = tt
past (Some held) xs ys bytes a b = first_of_append held xs ys ∙ ap (λ (f : Option (List ℕ)). or_else f (first_of held ys)) a ∙ b

-- ---- candidates

candidate_is : (key : Key) (r : ℕ) → 0 < r → above_zero key r ≡ pk_name key r ∷ []
candidate_is key r l = by (nat_lt r 1) (grind (arith, nat_tests))
  where
    by : (b : Bool) → b ≡ false → (if b then [] else pk_name key r ∷ []) ≡ pk_name key r ∷ []
    by b e = rw e refl

one_candidate : (key : Key) (r : ℕ) → 0 < r → Contains (above_zero key r) (pk_name key r)
one_candidate key r l = subst (λ (ns : List (List ℕ)). Contains ns (pk_name key r)) (sym (candidate_is key r l)) (0, omega arith, refl)

pub first_candidate : (set : FontSet) (key : Key) (r : ℕ) → r ≡ resolution set.units key → 0 < r → Contains (pk_names set.units key) (pk_name key r)
first_candidate set key r e l =
    let s = resolution set.units key in
    Contains-append_left (above_zero key s) (above_zero key (s - 1) ++ above_zero key (s + 1)) (pk_name key r) (subst (λ (n : ℕ). Contains (above_zero key n) (pk_name key r)) e (one_candidate key r l))

pub second_candidate : (set : FontSet) (key : Key) (r : ℕ) → r ≡ resolution set.units key - 1 → 0 < r → Contains (pk_names set.units key) (pk_name key r)
second_candidate set key r e l =
    let s = resolution set.units key in
    Contains-append_right (above_zero key s) (above_zero key (s - 1) ++ above_zero key (s + 1)) (pk_name key r)
    (Contains-append_left (above_zero key (s - 1)) (above_zero key (s + 1)) (pk_name key r) (subst (λ (n : ℕ). Contains (above_zero key n) (pk_name key r)) e (one_candidate key r l)))

pub third_candidate : (set : FontSet) (key : Key) (r : ℕ) → r ≡ resolution set.units key + 1 → 0 < r → Contains (pk_names set.units key) (pk_name key r)
third_candidate set key r e l =
    let s = resolution set.units key in
    Contains-append_right (above_zero key s) (above_zero key (s - 1) ++ above_zero key (s + 1)) (pk_name key r)
    (Contains-append_right (above_zero key (s - 1)) (above_zero key (s + 1)) (pk_name key r) (subst (λ (n : ℕ). Contains (above_zero key n) (pk_name key r)) e (one_candidate key r l)))

-- those before a candidate aren't there
abbrev pub TriedBy : FontSet → Key → ℕ → Told → Type 0
TriedBy set key r told = 0 < r → WhereHeld told.held (IsTried (pk_names set.units key) (pk_name key r))

tried_at : (o : Option Contents) (names before behind : List (List ℕ)) (name : List ℕ) → before ++ name ∷ behind ≡ names → WhereHeld o (λ held. first_of held before ≡ None) → WhereHeld o (IsTried names name)
tried_at None names before behind name e w = tt
tried_at (Some held) names before behind name e w = record { before = before; behind = behind; among = e; absent = w }

none_before : (o : Option Contents) → WhereHeld o (λ held. first_of held [] ≡ None)
none_before None = tt
none_before (Some held) = refl

pub first_tried : (set : FontSet) (key : Key) (r : ℕ) (told : Told) → r ≡ resolution set.units key → TriedBy set key r told
first_tried set key r told e l =
    let s = resolution set.units key in
    tried_at told.held (pk_names set.units key) [] (above_zero key (s - 1) ++ above_zero key (s + 1)) (pk_name key r)
    (ap (λ (ns : List (List ℕ)). ns ++ (above_zero key (s - 1) ++ above_zero key (s + 1))) (sym (candidate_is key r l) ∙ ap (above_zero key) e)) (none_before told.held)

pub second_tried : (set : FontSet) (key : Key) (r : ℕ) (told : Told) → r ≡ resolution set.units key - 1 → WhereHeld told.held (λ held. first_of held (above_zero key (resolution set.units key)) ≡ None) → TriedBy set key r told
second_tried set key r told e first l =
    let s = resolution set.units key in
    tried_at told.held (pk_names set.units key) (above_zero key s) (above_zero key (s + 1)) (pk_name key r)
    (ap (λ (ns : List (List ℕ)). above_zero key s ++ (ns ++ above_zero key (s + 1))) (sym (candidate_is key r l) ∙ ap (above_zero key) e)) first

pub third_tried : (set : FontSet) (key : Key) (r : ℕ) (told : Told) → r ≡ resolution set.units key + 1 → WhereHeld told.held (λ held. first_of held (above_zero key (resolution set.units key)) ≡ None)
    → WhereHeld told.held (λ held. first_of held (above_zero key (resolution set.units key - 1)) ≡ None) → TriedBy set key r told
third_tried set key r told e first second l =
    let s = resolution set.units key in
    tried_at told.held (pk_names set.units key) (above_zero key s ++ above_zero key (s - 1)) [] (pk_name key r)
    (append_assoc (above_zero key s) (above_zero key (s - 1)) (pk_name key r ∷ [])
    ∙ ap (λ (ns : List (List ℕ)). above_zero key s ++ (above_zero key (s - 1) ++ ns)) (sym (candidate_is key r l) ∙ ap (above_zero key) e))
    (past told.held (above_zero key s) (above_zero key (s - 1)) None first second)

pub candidate_not_read : (set : FontSet) (key : Key) (r : ℕ) (old new : Told) (e : FontFault) → WantsRasters set.want → IsRealBy set key old → (0 < r → Contains (pk_names set.units key) (pk_name key r)) → TriedBy set key r old
    → (name : FileName) × (text_of name ≡ pk_name key r) × (0 < r) × NotRead name most_file old new e → NotLoaded set key old new e
candidate_not_read set key r old new e w real c tried h =
    let file : IsPkFile set key (pk_name key r) old = record { wanted = w; real = real; candidate = c h.2; tried = tried h.2 } in
    not_read set key h.0 most_file old new e (inr (inr (subst (λ (t : List ℕ). IsPkFile set key t old) (sym h.1) file, refl))) h.3

-- ---- an earlier shelf

pub keeps_self : (a : Told) → Keeps a a
keeps_self a = record { held_same = refl; faults_later = omega arith; absents_later = omega arith; overs_later = omega arith }

pub held_after : (a b : Told) → Keeps a b → (fact : Contents → Type 0) → WhereHeld a.held fact → WhereHeld b.held fact
held_after a b k fact w = subst (λ (o : Option Contents). WhereHeld o fact) (sym k.held_same) w

module _ (set : FontSet) (key : Key) (a b c : Told) (k : Keeps a b) where
  held_before : (fact : Contents → Type 0) → WhereHeld b.held fact → WhereHeld a.held fact
  held_before fact w = subst (λ (o : Option Contents). WhereHeld o fact) k.held_same w

  real_before : IsRealBy set key b → IsRealBy set key a
  real_before h = held_before (λ held. IsReal held set.want key) h

  file_before : (n : List ℕ) (limit : ℕ) → IsFontFile set key n limit b → IsFontFile set key n limit a
  file_before n limit (inl h) = inl h
  file_before n limit (inr (inl h)) = inr (inl h)
  file_before n limit (inr (inr (h, l))) =
      inr (inr (record { wanted = h.wanted; real = real_before h.real; candidate = h.candidate; tried = held_before (IsTried (pk_names set.units key) n) h.tried }, l))

  missing_before : (n : List ℕ) → IsMissing set key n b → IsMissing set key n a
  missing_before n (inl h) = inl (h.0, held_before (λ held. held n ≡ None) h.1)
  missing_before n (inr h) =
      inr (record { wanted = h.wanted; real = real_before h.real; last = h.last; absent = held_before (λ held. first_of held (pk_names set.units key) ≡ None) h.absent })

  first_before : (bytes : List ℕ) → IsFirstPk set key b bytes → IsFirstPk set key a bytes
  first_before bytes h = record { wanted = h.wanted; real = real_before h.real; held = held_before (λ held. first_of held (pk_names set.units key) ≡ Some bytes) h.held }

  pub loaded_before : (e : FontFault) → NotLoaded set key b c e → NotLoaded set key a c e
  loaded_before (fault.Missing n) h = (rose_earlier a.absents b.absents c.absents k.absents_later h.0, missing_before (text_of n) h.1)
  loaded_before (fault.FileTooLong n) h =
      (rose_earlier a.overs b.overs c.overs k.overs_later h.0, h.1, file_before (text_of n) h.1 h.2, held_before (λ held. IsLong h.1 (held (text_of n))) h.3)
  loaded_before (fault.ReadFault n) h = (rose_earlier a.faults b.faults c.faults k.faults_later h.0, h.1, file_before (text_of n) h.1 h.2)
  loaded_before (fault.Tfm n e) h =
      record { names = h.names; bytes = h.bytes; held = held_before (λ held. held (text_of n) ≡ Some h.bytes) h.held; fault = h.fault; ours = h.ours; none = h.none }
  loaded_before (fault.Vf n e) h =
      record { wanted = h.wanted; names = h.names; bytes = h.bytes; held = held_before (λ held. held (text_of n) ≡ Some h.bytes) h.held; fault = h.fault; ours = h.ours; none = h.none }
  loaded_before (fault.Pk n e) h =
      record {
        names = h.names;
        bytes = h.bytes;
        held = held_before (λ held. held (text_of n) ≡ Some h.bytes) h.held;
        first = first_before h.bytes h.first;
        fault = h.fault;
        ours = h.ours;
        bad = h.bad;
        none = h.none;
      }
  loaded_before fault.RasterSpace h = record { bytes = h.bytes; first = first_before h.bytes h.first; more = h.more; none = h.none }
  loaded_before fault.OutOfMemory h = tt
  loaded_before fault.TooManyFonts h = absurd h
  loaded_before (fault.BadSize p) h = absurd h

pub here : (o : Option Contents) (key : Key) (r : ℕ) (ys : List (List ℕ)) (name bytes : List ℕ) → name ≡ pk_name key r → 0 < r → WhereHeld o (λ held. held name ≡ Some bytes) → WhereHeld o (λ held. first_of held (above_zero key r ++ ys) ≡ Some bytes)
here None key r ys name bytes e l w = tt
here (Some held) key r ys name bytes e l w =
    ap (λ (ns : List (List ℕ)). first_of held (ns ++ ys)) (candidate_is key r l)
    ∙ ap (λ (n : List ℕ). or_else (held n) (first_of held ys)) (sym e)
    ∙ ap (λ (f : Option (List ℕ)). or_else f (first_of held ys)) w

one : (o : Option Contents) (key : Key) (r : ℕ) (name bytes : List ℕ) → name ≡ pk_name key r → 0 < r → WhereHeld o (λ held. held name ≡ Some bytes) → WhereHeld o (λ held. first_of held (above_zero key r) ≡ Some bytes)
one None key r name bytes e l w = tt
one (Some held) key r name bytes e l w =
    ap (λ (ns : List (List ℕ)). first_of held ns) (candidate_is key r l)
    ∙ ap (λ (n : List ℕ). or_else (held n) None) (sym e)
    ∙ ap (λ (f : Option (List ℕ)). or_else f None) w

module _ (set : FontSet) (key : Key) (a b : Told) (r : ℕ) (at : r ≡ resolution set.units key) (k : Keeps a b) (absent : CandidateGives key r a b None) where
  first_absent : WhereHeld a.held (λ held. first_of held (above_zero key (resolution set.units key)) ≡ None)
  first_absent = subst (λ (n : ℕ). WhereHeld a.held (λ held. first_of held (above_zero key n) ≡ None)) at absent.1

  -- why the second candidate, or the third, isn't read
  pub second_not_read : (c : Told) (s : ℕ) (e : FontFault) → WantsRasters set.want → IsRealBy set key a → s ≡ resolution set.units key - 1
      → (name : FileName) × (text_of name ≡ pk_name key s) × (0 < s) × NotRead name most_file b c e → NotLoaded set key a c e
  second_not_read c s e w real below h =
      loaded_before set key a b c k e
      (candidate_not_read set key s b c e w (held_after a b k (λ held. IsReal held set.want key) real) (second_candidate set key s below)
      (second_tried set key s b below (held_after a b k (λ held. first_of held (above_zero key (resolution set.units key)) ≡ None) first_absent)) h)

  second_absent : (c : Told) (s : ℕ) → s ≡ resolution set.units key - 1 → CandidateGives key s b c None → WhereHeld b.held (λ held. first_of held (above_zero key (resolution set.units key - 1)) ≡ None)
  second_absent c s below g = subst (λ (n : ℕ). WhereHeld b.held (λ held. first_of held (above_zero key n) ≡ None)) below g.1

  pub third_not_read : (c d : Told) (s t : ℕ) (e : FontFault) → WantsRasters set.want → IsRealBy set key a → s ≡ resolution set.units key - 1 → t ≡ resolution set.units key + 1 → Keeps b c → CandidateGives key s b c None
      → (name : FileName) × (text_of name ≡ pk_name key t) × (0 < t) × NotRead name most_file c d e → NotLoaded set key a d e
  third_not_read c d s t e w real below above l g h =
      let n = resolution set.units key in
      let real_now = held_after b c l (λ held. IsReal held set.want key) (held_after a b k (λ held. IsReal held set.want key) real) in
      let first = held_after b c l (λ held. first_of held (above_zero key n) ≡ None) (held_after a b k (λ held. first_of held (above_zero key n) ≡ None) first_absent) in
      let second = held_after b c l (λ held. first_of held (above_zero key (n - 1)) ≡ None) (second_absent c s below g) in
      loaded_before set key a b d k e
      (loaded_before set key b c d l e (candidate_not_read set key t c d e w real_now (third_candidate set key t above) (third_tried set key t c above first second) h))

  -- no candidate is there
  pub none_found : (c d : Told) (s t : ℕ) (name : List ℕ) → WantsRasters set.want → IsRealBy set key a → s ≡ resolution set.units key - 1 → t ≡ resolution set.units key + 1 → Keeps b c → CandidateGives key s b c None
      → CandidateGives key t c d None → name ≡ pk_name key t → IsMissing set key name a
  none_found c d s t name w real below above l g h is =
      let n = resolution set.units key in
      let second = held_before set key a b c k (λ held. first_of held (above_zero key (n - 1)) ≡ None) (second_absent c s below g) in
      let there : WhereHeld c.held (λ held. first_of held (above_zero key (n + 1)) ≡ None) = subst (λ (i : ℕ). WhereHeld c.held (λ held. first_of held (above_zero key i) ≡ None)) above h.1 in
      let last = held_before set key a b c k (λ held. first_of held (above_zero key (n + 1)) ≡ None) (held_before set key b c d l (λ held. first_of held (above_zero key (n + 1)) ≡ None) there) in
      inr (record {
        wanted = w;
        real = real;
        last = is ∙ ap (pk_name key) above;
        absent = past a.held (above_zero key n) (above_zero key (n - 1) ++ above_zero key (n + 1)) None first_absent (past a.held (above_zero key (n - 1)) (above_zero key (n + 1)) None second last);
      })

  pub second_found : (c : Told) (s : ℕ) (found : FileName × Vec ℕ) → s ≡ resolution set.units key - 1 → CandidateGives key s b c (Some found) → IsPkFound set key a found
  second_found c s found e f =
      let held = held_before set key a b c k (λ held. held (text_of found.0) ≡ Some found.1.items) f.3 in
      let n = resolution set.units key in
      record {
        candidate = subst (λ (t : List ℕ). Contains (pk_names set.units key) t) (sym f.0) (second_candidate set key s e f.1);
        within = f.2;
        held = held;
        first =
            past a.held (above_zero key n) (above_zero key (n - 1) ++ above_zero key (n + 1)) (Some found.1.items) first_absent
            (here a.held key (n - 1) (above_zero key (n + 1)) (text_of found.0) found.1.items (f.0 ∙ ap (λ (i : ℕ). pk_name key i) e) (subst (λ (i : ℕ). 0 < i) e f.1) held);
      }

  pub third_found : (c d : Told) (s t : ℕ) (found : FileName × Vec ℕ) → s ≡ resolution set.units key - 1 → t ≡ resolution set.units key + 1 → Keeps b c → CandidateGives key s b c None → CandidateGives key t c d (Some found) → IsPkFound set key a found
  third_found c d s t found e i l g f =
      let later = held_before set key b c d l (λ held. held (text_of found.0) ≡ Some found.1.items) f.3 in
      let held = held_before set key a b d k (λ held. held (text_of found.0) ≡ Some found.1.items) later in
      let n = resolution set.units key in
      let second = held_before set key a b c k (λ held. first_of held (above_zero key (n - 1)) ≡ None) (second_absent c s e g) in
      let last : WhereHeld a.held (λ held. first_of held (above_zero key (n + 1)) ≡ Some found.1.items) =
      one a.held key (n + 1) (text_of found.0) found.1.items (f.0 ∙ ap (λ (j : ℕ). pk_name key j) i) (omega arith) held in
      record {
        candidate = subst (λ (x : List ℕ). Contains (pk_names set.units key) x) (sym f.0) (third_candidate set key t i f.1);
        within = f.2;
        held = held;
        first =
            past a.held (above_zero key n) (above_zero key (n - 1) ++ above_zero key (n + 1)) (Some found.1.items) first_absent
            (past a.held (above_zero key (n - 1)) (above_zero key (n + 1)) (Some found.1.items) second last);
      }

-- ---- files that were read

pub has_vf : (o : Option Contents) (key : Key) (name bytes : List ℕ) (vf : VirtualFont) → name ≡ vf_name key → length bytes ≤ most_file → WhereHeld o (λ held. held name ≡ Some bytes) → IsVf bytes vf → WhereHeld o (λ held. HasVf held key vf)
has_vf None key name bytes vf e l w v = tt
has_vf (Some held) key name bytes vf e l w v = record { bytes = bytes; held_so = ap held (sym e) ∙ w; within = l; tells = v }

-- where packets are wanted, a font without a VF file is real
pub real_without : (set : FontSet) (key : Key) (told : Told) → WantsPackets set.want → WhereHeld told.held (λ held. held (vf_name key) ≡ None) → IsRealBy set key told
real_without set key told w h = by told.held h
  where
    one : (want : Want) (held : Contents) → WantsPackets want → held (vf_name key) ≡ None → IsReal held want key
    one wants.Widths held w e = absurd w
    one wants.Packets held w e = e
    one wants.Rasters held w e = e

    by : (o : Option Contents) → WhereHeld o (λ held. held (vf_name key) ≡ None) → WhereHeld o (λ held. IsReal held set.want key)
    by None h = tt
    by (Some held) h = one set.want held w h

-- and so it is where widths alone are
pub real_by_widths : (set : FontSet) (key : Key) (told : Told) → wants.Widths ≡ set.want → IsRealBy set key told
real_by_widths set key told e = by told.held
  where
    by : (o : Option Contents) → WhereHeld o (λ held. IsReal held set.want key)
    by None = tt
    by (Some held) = subst (λ (w : Want). IsReal held w key) e tt
