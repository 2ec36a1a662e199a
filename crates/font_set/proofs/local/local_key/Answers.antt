use Rattle.std.proofs.Common.{rules, ◌≡◌, ◌&&◌, true, false, to_z, of_z, w64, refl, sym, ◌∙◌}
use Rattle.dv_base.specs.Scale.{scaled}
use Rattle.vf_packets.specs.LocalViews.{local_view}
use Rattle.font_set.specs.LocalKey.{local_design, is_size}
use Rattle.font_set.proofs.Points.{key_made, none_made, both_units, first_fits, second_fits}
use Rattle.font_set.proofs.local.local_key.Goals as goal

pub returns-then-not-are_sizes-clause-bad : goal.returns-then-not-are_sizes-clause-bad
returns-then-not-are_sizes-clause-bad c =
    let s = to_z w64 (of_z w64 c.scale-scaled.result) in
    let d = to_z w64 (of_z w64 c.design_units-design.result) in
    let s_is : to_z w64 (of_z w64 c.scale-scaled.result) ≡ scaled c.args.size c.args.local.now.scale = search rules in
    let d_is : to_z w64 (of_z w64 c.design_units-design.result) ≡ local_design c.args.units.now.num c.args.units.now.den c.args.local.now.design = search rules in
    let e : (is_size (to_z w64 (of_z w64 c.scale-scaled.result)) && is_size (to_z w64 (of_z w64 c.design_units-design.result))) ≡ false = search rules in
    record {
      none = none_made c.args.units.now.num c.args.units.now.den c.args.size (local_view c.args.local.now) s d s_is d_is e;
      name = refl;
      size_is = s_is;
      design_is = d_is;
    }

pub overflow_cast-result : goal.overflow_cast-result
overflow_cast-result c = first_fits (to_z w64 (of_z w64 c.scale-scaled.result)) (to_z w64 (of_z w64 c.design_units-design.result)) (sym c.are_sizes.ensures ∙ c.if-not-are_sizes.false)

pub overflow_cast-result-2 : goal.overflow_cast-result-2
overflow_cast-result-2 c = second_fits (to_z w64 (of_z w64 c.scale-scaled.result)) (to_z w64 (of_z w64 c.design_units-design.result)) (sym c.are_sizes.ensures ∙ c.if-not-are_sizes.false)

pub returns-clause-key : goal.returns-clause-key
returns-clause-key c =
    let s = to_z w64 (of_z w64 c.scale-scaled.result) in
    let d = to_z w64 (of_z w64 c.design_units-design.result) in
    let s_is : to_z w64 (of_z w64 c.scale-scaled.result) ≡ scaled c.args.size c.args.local.now.scale = search rules in
    let d_is : to_z w64 (of_z w64 c.design_units-design.result) ≡ local_design c.args.units.now.num c.args.units.now.den c.args.local.now.design = search rules in
    let e : (is_size (to_z w64 (of_z w64 c.scale-scaled.result)) && is_size (to_z w64 (of_z w64 c.design_units-design.result))) ≡ true = search rules in
    let u = both_units s d e in
    (key_made c.args.units.now.num c.args.units.now.den c.args.size (local_view c.args.local.now) s d s_is d_is e, record { name = c.requires.name; size = u.0; design = u.1 })
