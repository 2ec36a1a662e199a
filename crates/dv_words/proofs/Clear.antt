-- No word of a tool can be read in two ways, and each reading can be ended.
use Rattle.std.proofs.Common.{◌≡◌, ℕ, List, [], ◌∷◌, ◌++◌, Option, Some, None, Bool, true, false, nat_eq, refl, sym, ◌∙◌, subst, inl, inr, eqb-true}
use Rattle.std.specs.Prelude.{codes}
use Rattle.std.specs.Option.{is_some}
use Rattle.dv_words.specs.Grammar.{Front, is_option, In, Reads}
use Rattle.dv_words.specs.Grammar.Reads.{nothing, name}
use Rattle.dv_words.specs.Stepping.{opened}
use Rattle.dv_words.specs.Draft.{Draft}
use Rattle.dv_words.specs.Settings.{reads}
use Rattle.dv_words.specs.Tools.{grammar, fronts_of, dvips_fronts, dvitype_fronts, dvicopy_fronts}
use Rattle.dv_words.specs.declared.setting.Setting.{Setting}
use Rattle.dv_words.specs.declared.setting.Setting.TheVariants as setting
use Rattle.dv_words.specs.declared.tool.Tool.{Tool}
use Rattle.dv_words.specs.declared.tool.Tool.TheVariants.{Dvips, Dvitype, Dvicopy}
use Rattle.dv_words.proofs.Machine.{IsClear, IsLive, none_some}

-- the front is the one that is found
abbrev Reading : List (Front Setting) → Front Setting → Bool → Type 0
Reading fronts front true = opened fronts front.text ≡ Some (record { option = front.option; rest = None })
Reading fronts front false = (p : List ℕ) (c : Draft → Draft) → reads front.option p ≡ Some c
    → opened fronts (front.text ++ p) ≡ Some (record { option = front.option; rest = Some p })

abbrev Right : List (Front Setting) → Front Setting → Type 0
Right fronts front = (is_option front.text ≡ true) × Reading fronts front front.apart

abbrev Each : {X : Type 0} → (X → Type 0) → List X → Type 0
Each P [] = Unit {0}
Each P (x ∷ xs) = P x × Each P xs

at : {X : Type 0} (P : X → Type 0) (xs : List X) (x : X) → In x xs → Each P xs → P x
at P [] x i e = absurd i
at P (y ∷ ys) x (inl same) e = subst P (sym same) e.0
at P (y ∷ ys) x (inr i) e = at P ys x i e.1

clear_of : (tool : Tool) → Each (Right (fronts_of tool)) (fronts_of tool) → IsClear (grammar tool)
clear_of tool each =
    record {
      options = λ front i. (at (Right (fronts_of tool)) (fronts_of tool) front i each).0;
      apart = λ front i a. let R : Bool → Type 0 = λ b. Reading (fronts_of tool) front b in subst R a (at (Right (fronts_of tool)) (fronts_of tool) front i each).1;
      together = λ front i a. let R : Bool → Type 0 = λ b. Reading (fronts_of tool) front b in subst R a (at (Right (fronts_of tool)) (fronts_of tool) front i each).1;
    }

-- a parameter is never empty
filled : (o : Setting) (text : List ℕ) → reads o [] ≡ None
    → ((x : ℕ) (xs : List ℕ) → opened dvips_fronts (text ++ (x ∷ xs)) ≡ Some (record { option = o; rest = Some (x ∷ xs) }))
    → (p : List ℕ) (c : Draft → Draft) → reads o p ≡ Some c → opened dvips_fronts (text ++ p) ≡ Some (record { option = o; rest = Some p })
filled o text none found [] c h = absurd (none_some (sym none ∙ h))
filled o text none found (x ∷ xs) c h = found x xs

-- a page's number doesn't begin with p, so -p isn't taken for -pp
not_ranges : (p : List ℕ) (c : Draft → Draft) → reads setting.First p ≡ Some c → opened dvips_fronts (codes "-p" ++ p) ≡ Some (record { option = setting.First; rest = Some p })
not_ranges [] c h = absurd (none_some h)
not_ranges (x ∷ xs) c h = by (nat_eq 112 x) refl where
  by : (b : Bool) → nat_eq 112 x ≡ b → opened dvips_fronts (codes "-p" ++ (x ∷ xs)) ≡ Some (record { option = setting.First; rest = Some (x ∷ xs) })
  by true e = let R : ℕ → Type 0 = λ y. reads setting.First (y ∷ xs) ≡ Some c in absurd (none_some (subst R (sym (eqb-true 112 x e)) h))
  by false e = rw e refl

each_dvips : Each (Right dvips_fronts) dvips_fronts
each_dvips = (
  (refl, refl),
  (
    (refl, filled setting.Ranges (codes "-pp") refl (λ x xs. refl)),
    (
      (refl, refl),
      (
        (refl, not_ranges),
        (
          (refl, refl),
          (
            (refl, filled setting.Last (codes "-l") refl (λ x xs. refl)),
            (
              (refl, refl),
              (
                (refl, filled setting.Limit (codes "-n") refl (λ x xs. refl)),
                (
                  (refl, λ p c h. refl),
                  (
                    (refl, λ p c h. refl),
                    (
                      (refl, λ p c h. refl),
                      (
                        (refl, refl),
                        (
                          (refl, filled setting.Copies (codes "-c") refl (λ x xs. refl)),
                          (
                            (refl, refl),
                            (
                              (refl, filled setting.Collated (codes "-C") refl (λ x xs. refl)),
                              (
                                (refl, refl),
                                (
                                  (refl, filled setting.Magnification (codes "-x") refl (λ x xs. refl)),
                                  (
                                    (refl, refl),
                                    (
                                      (refl, filled setting.Resolution (codes "-D") refl (λ x xs. refl)),
                                      (
                                        (refl, refl),
                                        (
                                          (refl, filled setting.Across (codes "-X") refl (λ x xs. refl)),
                                          (
                                            (refl, refl),
                                            (
                                              (refl, filled setting.Down (codes "-Y") refl (λ x xs. refl)),
                                              (
                                                (refl, refl),
                                                (
                                                  (refl, filled setting.PerSection (codes "-S") refl (λ x xs. refl)),
                                                  (
                                                    (refl, refl),
                                                    (
                                                      (refl, filled setting.Header (codes "-h") refl (λ x xs. refl)),
                                                      (
                                                        (refl, λ p c h. refl),
                                                        (
                                                          (refl, λ p c h. refl),
                                                          (
                                                            (refl, refl),
                                                            (
                                                              (refl, filled setting.Output (codes "-o") refl (λ x xs. refl)),
                                                              (
                                                                (refl, refl),
                                                                (
                                                                  (refl, filled setting.Paper (codes "-t") refl (λ x xs. refl)),
                                                                  (
                                                                    (refl, refl),
                                                                    (
                                                                      (refl, filled setting.PaperSize (codes "-T") refl (λ x xs. refl)),
                                                                      (
                                                                        (refl, refl),
                                                                        (
                                                                          (refl, filled setting.Offset (codes "-O") refl (λ x xs. refl)),
                                                                          (
                                                                            (refl, refl),
                                                                            (
                                                                              (refl, filled setting.Drift (codes "-e") refl (λ x xs. refl)),
                                                                              (
                                                                                (refl, λ p c h. refl),
                                                                                (
                                                                                  (refl, λ p c h. refl),
                                                                                  tt,
                                                                                ),
                                                                              ),
                                                                            ),
                                                                          ),
                                                                        ),
                                                                      ),
                                                                    ),
                                                                  ),
                                                                ),
                                                              ),
                                                            ),
                                                          ),
                                                        ),
                                                      ),
                                                    ),
                                                  ),
                                                ),
                                              ),
                                            ),
                                          ),
                                        ),
                                      ),
                                    ),
                                  ),
                                ),
                              ),
                            ),
                          ),
                        ),
                      ),
                    ),
                  ),
                ),
              ),
            ),
          ),
        ),
      ),
    ),
  ),
)

each_dvitype : Each (Right dvitype_fronts) dvitype_fronts
each_dvitype = (
  (refl, refl),
  (
    (refl, λ p c h. refl),
    (
      (refl, refl),
      (
        (refl, λ p c h. refl),
        (
          (refl, refl),
          (
            (refl, λ p c h. refl),
            (
              (refl, refl),
              (
                (refl, λ p c h. refl),
                (
                  (refl, refl),
                  (
                    (refl, λ p c h. refl),
                    (
                      (refl, refl),
                      (
                        (refl, λ p c h. refl),
                        (
                          (refl, refl),
                          (
                            (refl, λ p c h. refl),
                            (
                              (refl, refl),
                              (
                                (refl, λ p c h. refl),
                                (
                                  (refl, refl),
                                  (
                                    (refl, λ p c h. refl),
                                    (
                                      (refl, refl),
                                      (
                                        (refl, λ p c h. refl),
                                        tt,
                                      ),
                                    ),
                                  ),
                                ),
                              ),
                            ),
                          ),
                        ),
                      ),
                    ),
                  ),
                ),
              ),
            ),
          ),
        ),
      ),
    ),
  ),
)

each_dvicopy : Each (Right dvicopy_fronts) dvicopy_fronts
each_dvicopy = (
  (refl, refl),
  (
    (refl, λ p c h. refl),
    (
      (refl, refl),
      (
        (refl, λ p c h. refl),
        (
          (refl, refl),
          (
            (refl, λ p c h. refl),
            (
              (refl, refl),
              (
                (refl, λ p c h. refl),
                (
                  (refl, refl),
                  (
                    (refl, λ p c h. refl),
                    (
                      (refl, refl),
                      (
                        (refl, λ p c h. refl),
                        tt,
                      ),
                    ),
                  ),
                ),
              ),
            ),
          ),
        ),
      ),
    ),
  ),
)

pub clear : (tool : Tool) → IsClear (grammar tool)
clear Dvips = clear_of Dvips each_dvips
clear Dvitype = clear_of Dvitype each_dvitype
clear Dvicopy = clear_of Dvicopy each_dvicopy

-- a parameter of each option
abbrev sample : Setting → List ℕ
sample setting.Ranges = codes "1"
sample setting.First = codes "1"
sample setting.Last = codes "1"
sample setting.Limit = codes "1"
sample setting.Reverse = []
sample setting.Odd = []
sample setting.Even = []
sample setting.Copies = codes "1"
sample setting.Collated = codes "1"
sample setting.Magnification = codes "1000"
sample setting.Resolution = codes "300"
sample setting.Across = codes "300"
sample setting.Down = codes "300"
sample setting.PerSection = codes "1"
sample setting.Header = codes "a"
sample setting.Quiet = []
sample setting.Bare = []
sample setting.Output = codes "a"
sample setting.Paper = codes "a4"
sample setting.PaperSize = codes "1pt,1pt"
sample setting.Offset = codes "1pt,1pt"
sample setting.Drift = codes "1"
sample setting.Memory = codes "1"
sample setting.PassPs = codes "ps"
sample setting.Start = codes "1"
sample setting.Detail = codes "1"

sample_reads : (o : Setting) → is_some (reads o (sample o)) ≡ true
sample_reads setting.Ranges = refl
sample_reads setting.First = refl
sample_reads setting.Last = refl
sample_reads setting.Limit = refl
sample_reads setting.Reverse = refl
sample_reads setting.Odd = refl
sample_reads setting.Even = refl
sample_reads setting.Copies = refl
sample_reads setting.Collated = refl
sample_reads setting.Magnification = refl
sample_reads setting.Resolution = refl
sample_reads setting.Across = refl
sample_reads setting.Down = refl
sample_reads setting.PerSection = refl
sample_reads setting.Header = refl
sample_reads setting.Quiet = refl
sample_reads setting.Bare = refl
sample_reads setting.Output = refl
sample_reads setting.Paper = refl
sample_reads setting.PaperSize = refl
sample_reads setting.Offset = refl
sample_reads setting.Drift = refl
sample_reads setting.Memory = refl
sample_reads setting.PassPs = refl
sample_reads setting.Start = refl
sample_reads setting.Detail = refl

pub some_of : {X : Type 0} (r : Option X) → is_some r ≡ true → (x : X) × (r ≡ Some x)
some_of (Some x) h = (x, refl)
some_of None h = absurd (cc)

finishing : (tool : Tool) (d : Draft) (input : Option (List ℕ)) → d.input ≡ input
    → (words : List (List ℕ)) × (e : Draft) × Reads (grammar tool) words d e × (is_some e.input ≡ true)
finishing tool d (Some input) is = ([], d, nothing, rw is refl)
finishing tool d None is =
    (codes "a" ∷ [], record d { input = Some (codes "a.dvi") }, name refl (rw is refl) nothing, refl)

pub live : (tool : Tool) → IsLive (grammar tool)
live tool =
    record {
      finishes = λ d. finishing tool d d.input refl;
      good = λ o. let known = some_of (reads o (sample o)) (sample_reads o) in (sample o, known.0, known.1);
    }
