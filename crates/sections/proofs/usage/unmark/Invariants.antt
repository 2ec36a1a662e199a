use Rattle.std.proofs.Common.{◌≡◌, ◌≤◌, ◌<◌, ◌/◌, ℕ, true, false, length, slice_index_or}
use Rattle.sections.specs.Places.{StandsFrom}
use Rattle.sections.proofs.usage.unmark.Given as goal

abbrev pub invariant-loop-place : goal.invariant-loop-place
invariant-loop-place l =
    record {
      many : length l.taken ≡ length l.fn.taken;
      many_fonts : length l.fonts ≡ length l.fn.fonts;
      placed : (p : ℕ) → slice_index_or l.taken p false ≡ true → StandsFrom l.places l.place-index p;
      placed_fonts : (id : ℕ) → slice_index_or l.fonts id false ≡ true → (p : ℕ) × StandsFrom l.places l.place-index p × (p / 256 ≡ id);
    }
