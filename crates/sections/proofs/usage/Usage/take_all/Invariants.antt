use Rattle.std.proofs.Common.{◌≡◌, ◌<◌, ◌*◌, ℕ, false, take, slice_index_or}
use Rattle.std.specs.Prelude.{◌||◌, nat_eq}
use Rattle.std.specs.List.{list_any}
use Rattle.sections.specs.Used.{SameFonts}
use Rattle.sections.proofs.usage.Usage.take_all.Given as goal

abbrev pub invariant-loop-place : goal.invariant-loop-place
invariant-loop-place l =
    record {
      same : SameFonts l.fn.self l.self;
      taken : (p : ℕ) → p < l.fn.self.fonts * 256 → slice_index_or l.self.taken p false ≡ (slice_index_or l.fn.self.taken p false || list_any (λ q. nat_eq p q) (take l.place-index l.places));
    }
