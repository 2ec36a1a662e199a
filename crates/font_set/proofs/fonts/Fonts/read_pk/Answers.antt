use Rattle.std.proofs.Common.{rules, ◌≡◌, ◌≢◌, ◌-◌, ℕ, List, ap, subst, ◌∙◌}
use Rattle.pk_raster.specs.Faults.{PkFaultIs, NoFont}
use Rattle.pk_raster.specs.declared.fault.PkFault.TheVariants.{OutOfMemory, Space}
use Rattle.font_set.specs.Fonts.{FontSet, raster_bytes}
use Rattle.font_set.specs.FontFaults.{raster_room}
use Rattle.font_set.proofs.fonts.Fonts.read_pk.Goals as goal

pub returns : goal.returns
returns g c =
    let found = c.in_ok-name.ensures.found in
    let ours : c.in-Err.fault ≢ OutOfMemory = search rules in
    let bad : c.in-Err.fault ≢ Space = search rules in
    let room : 1073741824 - c.self.inside.kept_bytes ≡ raster_room c.args.self.now =
    ap (λ (n : ℕ). 1073741824 - n) c.self.invariant.3 ∙ ap (λ (s : FontSet). 1073741824 - raster_bytes s.fonts) c.self.view_is in
    let says = subst (λ (bytes : List ℕ). PkFaultIs bytes (1073741824 - c.self.inside.kept_bytes) c.in-Err.fault) c.deref.ensures.value c.in-Err.ensures.fault in
    let none = subst (λ (bytes : List ℕ). NoFont bytes (1073741824 - c.self.inside.kept_bytes)) c.deref.ensures.value (c.in-Err.ensures.none ours) in
    record {
      pk = tt;
      drawn = tt;
      room = tt;
      fault =
          record {
            names = found.candidate;
            bytes = c.in_ok-name.bytes.items;
            held = found.held;
            first = record { wanted = c.requires.wanted; real = c.requires.real; held = found.first };
            fault = subst (λ (n : ℕ). PkFaultIs c.in_ok-name.bytes.items n c.in-Err.fault) room says;
            ours = ours;
            bad = bad;
            none = subst (λ (n : ℕ). NoFont c.in_ok-name.bytes.items n) room none;
          };
      keeps = c.find_pk.ensures.keeps;
    }
