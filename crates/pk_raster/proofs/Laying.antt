use Rattle.std.proofs.Common.{◌≡◌, ℕ, zero, suc, ◌+◌, ◌-◌, ◌*◌, ◌<◌, ◌≤◌, refl, sym, ◌∙◌, ap, subst, arith, List, [], ◌∷◌, ◌++◌, length, length-append, append_assoc}
use Rattle.std.proofs.lemmas.List.{length-replicate, append-nil}
use Rattle.std.proofs.lemmas.List.Concat.{flat_map-append}
use Rattle.std.specs.Prelude.{replicate}
use Rattle.std.specs.List.{concat, flat_map}
use Rattle.std.proofs.Math.Nat.{mul-le-mul_left}
use Rattle.pk_raster.specs.declared.board.Board.{Board}
use Rattle.bit_lanes.specs.Bits.{bits}
use Rattle.bit_lanes.specs.BitLaws.{bits-append, bits_zeros}
use Rattle.pk_raster.specs.Bits.{padded}
use Rattle.pk_raster.specs.Runs.{Item, Run, Single, repeats}
use Rattle.pk_raster.specs.Filling.{Goes, Shows, Mid, Ran, Passes, Ended}
use Rattle.pk_raster.proofs.Goes.{longer, inside, inside_back, full, full_back, at_least, single_on}

bits_times : (n t : ℕ) (row : List ℕ) (shown : List ℕ) → bits row ≡ padded n shown → bits (concat (replicate t row)) ≡ flat_map (padded n) (replicate t shown)
unfolding bits
bits_times n zero row shown h = refl
bits_times n (suc t) row shown h = bits-append row (concat (replicate t row)) ∙ ap (λ xs. xs ++ bits (concat (replicate t row))) h ∙ ap (λ xs. padded n shown ++ xs) (bits_times n t row shown h)

pub behind : {b : Board} {part : List ℕ} {made : List (List ℕ)} → Shows b part made → bits b.row.items ≡ part ++ replicate (8 * length b.row.items - b.filled) 0
behind {b} {part} {made} s = s.row ∙ ap (λ j. part ++ replicate {A = ℕ} (8 * length b.row.items - j) 0) (sym s.filled)

single_laid : (w g k p q : ℕ) (is : List Item) → p + k ≡ q → Single w p (Run k ∷ is) × (0 < g → repeats w p (Run k ∷ is) 0 ≡ 0) → Single w q is × (0 < g → repeats w q is 0 ≡ 0)
unfolding Single repeats
single_laid w g k p q is e s =
    let P : ℕ → Type 0 = λ j. Single w j is × (0 < g → repeats w j is 0 ≡ 0) in
    subst P e s

module _ (c n : ℕ) (old : Board) (part : List ℕ) (made : List (List ℕ)) (b : Board) (k : ℕ) (mid : Mid c n old part made b k) where
  pub passes : 0 < k → b.left ≤ b.repeat → Passes c n old part
  passes h l =
      let s = mid.sum in
      let e = mid.left in
      let w = old.width in
      let p : old.left ≤ length mid.news + b.repeat = omega (arith, e, l) in
      let q : w * old.left ≤ w * (length mid.news + b.repeat) = mul-le-mul_left w p in
      record {
        sum = omega (arith, s, q, h);
        none = λ is rows g.
            let a = mid.ahead is rows g in
            let m : 1 + b.repeat ≤ length a.0 = at_least w (1 - c) b.repeat (mid.now ++ replicate k c) is a.0 (omega (arith, longer mid.now k c, h)) (inside w c b.repeat k mid.now is a.0 a.2) in
            omega (arith, ap length a.1, length-append mid.news a.0, m, e, l);
      }

  pub ran_zero : k ≡ 0 → Ran c n old part made b
  ran_zero z =
      let e : mid.now ++ replicate k c ≡ mid.now = ap (λ j. mid.now ++ replicate j c) z ∙ append-nil mid.now in
      let w = old.width in
      record {
        now = mid.now;
        news = mid.news;
        shows = mid.shows;
        left = mid.left;
        width = mid.width;
        sum = (let s = mid.sum in omega (arith, s, z));
        single = λ is x y. single_laid w b.repeat k (length mid.now) (length mid.now) is (omega (arith, z)) (mid.single is x y);
        ahead = λ is rows g.
            let a = mid.ahead is rows g in
            let G : List ℕ → Type 0 = λ p. Goes w (1 - c) p b.repeat is a.0 in
            (a.0, a.1, subst G e (inside w c b.repeat k mid.now is a.0 a.2));
        back = λ is rest g.
            let G : List ℕ → Type 0 = λ p. Goes w (1 - c) p b.repeat is rest in
            mid.back is rest (inside_back w c b.repeat k mid.now is rest (subst G (sym e) g));
      }

  module _ (f : Board) (end : ℕ) (up : b.filled ≤ end) (within : end ≤ b.width)
      (laid : bits f.row.items ≡ (mid.now ++ replicate (end - b.filled) c) ++ replicate (8 * length b.row.items - end) 0)
      (len : length f.row.items ≡ length b.row.items)
      (same : f ≡ record b { row = f.row; filled = end }) where
    size : length (mid.now ++ replicate (end - b.filled) c) ≡ end
    size = let s = mid.shows.filled in longer mid.now (end - b.filled) c ∙ omega (arith, s, up)

    row : bits f.row.items ≡ padded (8 * length b.row.items) (mid.now ++ replicate (end - b.filled) c)
    row = laid ∙ ap (λ j. (mid.now ++ replicate (end - b.filled) c) ++ replicate (8 * length b.row.items - j) 0) (sym size)

    pub ran_some : b.filled + k ≡ end → end < b.width → Ran c n old part made f
    ran_some h l =
        let w = old.width in
        let e : k ≡ end - b.filled = omega (arith, h) in
        let r : f.repeat ≡ b.repeat = ap (λ (x : Board). x.repeat) same in
        let lf : f.left ≡ b.left = ap (λ (x : Board). x.left) same in
        let fl : f.filled ≡ end = ap (λ (x : Board). x.filled) same in
        let wd : f.width ≡ b.width = ap (λ (x : Board). x.width) same in
        let rs : f.rows.items ≡ b.rows.items = ap (λ (x : Board). x.rows.items) same in
        let s = mid.shows in
        record {
          now = mid.now ++ replicate (end - b.filled) c;
          news = mid.news;
          shows = record {
            row = row ∙ ap (λ j. padded (8 * j) (mid.now ++ replicate (end - b.filled) c)) (sym len);
            rows = ap bits rs ∙ s.rows ∙ ap (λ j. flat_map (padded (8 * j)) (made ++ mid.news)) (sym len);
            filled = fl ∙ sym size;
            below = omega (arith, fl, wd, l);
            fits = omega (arith, wd, len, s.fits);
          };
          left = omega (arith, lf, mid.left);
          sum = (let q = mid.sum in omega (arith, ap (λ j. (length mid.news + j) * w) r, q, size, s.filled, h));
          single = λ is x y. (let o = single_laid w b.repeat k (length mid.now) (length (mid.now ++ replicate (end - b.filled) c)) is (omega (arith, size, s.filled, h)) (mid.single is x y) in (o.0, λ g. o.1 (omega (arith, r, g))));
          width = wd ∙ mid.width;
          ahead = λ is rows g.
              let a = mid.ahead is rows g in
              let G : ℕ → ℕ → Type 0 = λ j t. Goes w (1 - c) (mid.now ++ replicate j c) t is a.0 in
              (a.0, a.1, subst (G (end - b.filled)) (sym r) (subst (λ j. G j b.repeat) e (inside w c b.repeat k mid.now is a.0 a.2)));
          back = λ is rest g.
              let G : ℕ → ℕ → Type 0 = λ j t. Goes w (1 - c) (mid.now ++ replicate j c) t is rest in
              mid.back is rest (inside_back w c b.repeat k mid.now is rest (subst (λ j. G j b.repeat) (sym e) (subst (G (end - b.filled)) r g)));
        }

    pub rowed : (next : Board) → Ended f next → end ≡ b.width → end - b.filled ≤ k → 0 < old.width → Mid c n old part made next (k - (end - b.filled))
    rowed next ended z h pos =
        let w = old.width in
        let m : ℕ = end - b.filled in
        let r : f.repeat ≡ b.repeat = ap (λ (x : Board). x.repeat) same in
        let lf : f.left ≡ b.left = ap (λ (x : Board). x.left) same in
        let wd : f.width ≡ b.width = ap (λ (x : Board). x.width) same in
        let rs : f.rows.items ≡ b.rows.items = ap (λ (x : Board). x.rows.items) same in
        let s = mid.shows in
        let whole : List ℕ = mid.now ++ replicate m c in
        let lr : length next.row.items ≡ length b.row.items = ap length ended.row ∙ length-replicate (length f.row.items) 0 ∙ len in
        let fills : length mid.now + m ≡ w = omega (arith, s.filled, up, z, mid.width) in
        let copies : List (List ℕ) = replicate (1 + b.repeat) whole in
        let cl : length copies ≡ 1 + b.repeat = length-replicate (1 + b.repeat) whole in
        let written : bits next.rows.items ≡ flat_map (padded (8 * length b.row.items)) (made ++ mid.news) ++ flat_map (padded (8 * length b.row.items)) copies =
        ap bits ended.rows ∙ bits-append f.rows.items (concat (replicate (1 + f.repeat) f.row.items))
        ∙ ap (λ xs. bits xs ++ bits (concat (replicate (1 + f.repeat) f.row.items))) rs
        ∙ ap (λ xs. xs ++ bits (concat (replicate (1 + f.repeat) f.row.items))) s.rows
        ∙ ap (λ j. flat_map (padded (8 * length b.row.items)) (made ++ mid.news) ++ bits (concat (replicate (1 + j) f.row.items))) r
        ∙ ap (λ xs. flat_map (padded (8 * length b.row.items)) (made ++ mid.news) ++ xs) (bits_times (8 * length b.row.items) (1 + b.repeat) f.row.items whole row) in
        record {
          now = [];
          news = mid.news ++ copies;
          shows = record {
            row = ap bits ended.row ∙ bits_zeros (length f.row.items) ∙ (let z0 : 8 * length f.row.items ≡ 8 * length next.row.items - 0 = omega (arith, lr, len) in ap (λ j. replicate {A = ℕ} j 0) z0);
            rows = written ∙ sym (flat_map-append (padded (8 * length b.row.items)) (made ++ mid.news) copies)
                ∙ ap (flat_map (padded (8 * length b.row.items))) (append_assoc made mid.news copies)
                ∙ ap (λ j. flat_map (padded (8 * j)) (made ++ (mid.news ++ copies))) (sym lr);
            filled = ended.filled;
            below = omega (arith, ended.filled, ended.width, wd, mid.width, pos);
            fits = omega (arith, lr, s.fits, ended.width, wd);
          };
          left = omega (arith, ended.left, lf, r, mid.left, length-append mid.news copies, cl);
          sum =
              (let t : length (mid.news ++ copies) + next.repeat ≡ length mid.news + b.repeat + 1 = omega (arith, length-append mid.news copies, cl, ended.repeat) in
              let q = mid.sum in
              let u = ap (λ j. j * w) t in
              omega (arith, q, u, fills, h));
          width = ended.width ∙ wd ∙ mid.width;
          single = λ is x y. (single_on w c b.repeat m k mid.now is pos fills h (mid.single is x y).0, λ g. absurd (omega (arith, ended.repeat, g)));
          ahead = λ is rows g.
              let a = mid.ahead is rows g in
              let b2 = full w c b.repeat m k mid.now is pos fills h a.0 a.2 in
              let G : ℕ → Type 0 = λ t. Goes w c [] t (Run (k - m) ∷ is) b2.0 in
              (b2.0, a.1 ∙ ap (λ xs. mid.news ++ xs) b2.1 ∙ sym (append_assoc mid.news copies b2.0), subst G (sym ended.repeat) b2.2);
          back = λ is rest g.
              let G : ℕ → Type 0 = λ t. Goes w c [] t (Run (k - m) ∷ is) rest in
              let R : List (List ℕ) → Type 0 = λ rows. Goes w c part old.repeat (Run n ∷ is) rows in
              subst R (sym (append_assoc mid.news copies rest)) (mid.back is (copies ++ rest) (full_back w c b.repeat m k mid.now is pos fills h rest (subst G ended.repeat g)));
        }
