-- A character of a real font that is loaded, where it is met for the first time.
use Rattle.std.proofs.Common.{◌≡◌, ◌<◌, ◌+◌, ◌*◌, ◌∙◌, ℕ, pos, List, ◌∷◌, Bool, true, false, length, Option, Some, None, slice_index_or, slice_set, refl, sym, ap, subst, arith, true≢false}
use Rattle.std.specs.Prelude.{unsigned_abs}
use Rattle.font_set.specs.Covers.{IsShown}
use Rattle.font_set.specs.Fonts.{FontSet, state_at, packet_at}
use Rattle.font_set.specs.Found.{PageBytes, Todo, IsMarked, Reads, Steps, Meets, WasMet}
use Rattle.font_set.specs.Search.{IsHome, bytes_or, moves}
use Rattle.font_set.specs.declared.agenda.Home.TheVariants as home
use Rattle.font_set.specs.declared.agenda.Place.{Place}
use Rattle.font_set.specs.declared.turn.Turn.{Turn}
use Rattle.font_set.specs.declared.turn.Does.TheVariants as does
use Rattle.font_set.proofs.Growing.{extends_self, shown_loaded}
use Rattle.font_set.proofs.Showing.{empty_lexed, empty_first}
use Rattle.font_set.proofs.Steps.{meet_step}

not_met : (a m : List Bool) (id code : ℕ) → m ≡ a → slice_index_or a (id * 256 + code) false ≡ false → WasMet m id (pos code) → ⊥
not_met a m id code same none k =
    let number : k.0 ≡ code = sym (ap unsigned_abs k.1) in
    let marked : IsMarked m (id * 256 + code) = subst (λ (n : ℕ). IsMarked m (id * 256 + n)) number k.3 in
    true≢false (sym marked ∙ ap (λ (vs : List Bool). slice_index_or vs (id * 256 + code) false) same ∙ none)

-- m is what is left to do behind the character
pub glyph_step : (s : PageBytes) (p q : Place) (t : Turn) (id code : ℕ) (now : FontSet) (a m b : Todo) → Reads s now p t → t.does ≡ does.Sets (pos code)
    → p.font ≡ Some id → code < 256 → IsHome now p.home → slice_index_or a.met (id * 256 + code) false ≡ false
    → IsShown (state_at now id) code → packet_at now id code ≡ None → q ≡ moves p t.next p.font → m.places ≡ q ∷ a.places → m.met ≡ a.met
    → b.met ≡ slice_set m.met (id * 256 + code) true → id * 256 + code < length m.met
    → b.places ≡ record { home = home.Packet id code; at = 0; end = 0; font = None } ∷ m.places → Steps s p now now a b
glyph_step s p q t id code now a m b r sets font small given none shown real q_is mp mm bm within bp =
    let meets : Meets now now id (pos code) m b = record {
      mid = now;
      code = code;
      sets = refl;
      small = small;
      loaded = record { extends = extends_self now; keeps = refl; loaded = shown_loaded (state_at now id) code shown };
      others = λ i other. refl;
      shown = shown;
      opens = record {
        end = 0;
        key = None;
        font = None;
        short = omega arith;
        long = ap (λ (o : Option (List ℕ)). length (bytes_or o)) real;
        lexed = empty_lexed now id code real;
        begins = empty_first now id code real;
        learnt = (refl, refl);
        marks = bm;
        within = within;
        places = bp;
      };
    } in
    meet_step s p q t (pos code) id now now a m b r sets font (not_met a.met m.met id code mm none) given meets q_is mp mm
