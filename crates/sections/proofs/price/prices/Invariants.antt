use Rattle.std.proofs.Common.{◌≡◌, ◌≤◌, ◌<◌, ◌/◌, ◌%◌, ℕ, length, slice_index_or}
use Rattle.sections.specs.Cost.{glyph_price}
use Rattle.sections.proofs.price.prices.Given as goal

abbrev pub invariant-loop-place : goal.invariant-loop-place
invariant-loop-place l =
    record {
      many : length l.prices.items ≡ l.place;
      each : (p : ℕ) → p < l.place → slice_index_or l.prices.items p 0 ≡ glyph_price l.fonts (p / 256) (p % 256);
      bound : (p : ℕ) → slice_index_or l.prices.items p 0 ≤ 65695;
    }
