-- What a job of dvitype leaves, from what its parts say.
use Rattle.std.proofs.Common.{◌≡◌, ℕ, List, [], ◌∷◌, ◌++◌, take, drop, Option, Some, None, arith, refl, sym, ap, subst, ◌∙◌, inl, inr}
use Rattle.std.specs.Prelude.{codes, nat_eq}
use Rattle.std.proofs.lemmas.List.{take-append-drop}
use Rattle.dv_base.specs.Rounding.{Fraction}
use Rattle.dv_base.specs.Shelf.{Contents, Keeps, Told}
use Rattle.dv_base.specs.Tray.{Appends, AppendsFront, BeginGives, Begins, KeepsNames, Output, Seen, WhereTold, append_last}
use Rattle.dv_base.specs.UnitPixels.{IsUsable, pixels_of_one}
use Rattle.dv_base.specs.declared.tray.Begun.TheVariants as begun
use Rattle.dv_base.specs.declared.units.Units.{Units}
use Rattle.dvi_ops.specs.Command.{Definition, Preamble}
use Rattle.dvi_ops.specs.Placed.{Placed}
use Rattle.dvi_doc.specs.Document.{Document}
use Rattle.dvi_doc.specs.Grammar.{IsDoc}
use Rattle.dvi_doc.specs.Laws.{OneDocument}
use Rattle.dvi_doc.specs.View.{IsRead, ReadDoc}
use Rattle.dv_words.specs.Jobs.{ListJob}
use Rattle.font_set.specs.Fonts.{FontSet, IsLoaded, state_at}
use Rattle.font_set.specs.declared.fault.FontFault.{FontFault}
use Rattle.font_set.specs.declared.fault.FontFault.TheVariants as font
use Rattle.font_set.specs.declared.fault.LoadFault.{LoadFault}
use Rattle.font_set.specs.declared.fault.LoadFault.TheVariants as load
use Rattle.font_set.specs.declared.want.Want.TheVariants as wants
use Rattle.font_set.proofs.Ids.{id_below}
use Rattle.font_set.proofs.Shelves.{loaded_before}
use Rattle.vf_expand.specs.Given.{IsSpotGiven}
use Rattle.dvitype_list.specs.Causes.{FontStops, IsStop, LoadStops, SetsUnread}
use Rattle.dvitype_list.specs.Leaves.{AreOfFiles, EndsEarly, IsListed, StopsAt}
use Rattle.dvitype_list.specs.Listing.{Run, listing, magnification_of}
use Rattle.dvitype_list.specs.Standing.{Setting, Standing}
use Rattle.dvitype_list.specs.Widths.{setting}
use Rattle.dvitype_list.specs.declared.fault.ListFault.{ListFault}
use Rattle.dvitype_list.specs.declared.fault.ListFault.TheVariants as fault
use Rattle.dv_top.specs.Given.{ListNamesGiven, LoadNamesGiven}
use Rattle.dv_top.specs.Listable.{IsFrontOf, Listable, Selected, listed_request, listed_units, listing_for, setting_with}
use Rattle.dv_top.specs.ListBegun.{HasBegun}
use Rattle.dv_top.specs.Listed.{End, FaultTells, Leaves}
use Rattle.dv_top.specs.NotListed.{Reason, Refuses}
use Rattle.dv_top.specs.Outputs.{AddsLines, AddsOutput, LeavesLines, LeavesOutput}
use Rattle.dv_top.specs.Reading.{Input, NotDocument, NotRead, Source, most_input}
use Rattle.dv_top.specs.Scaled.{NotScaled}
use Rattle.dv_top.specs.Selecting.{NotChosen, places_of}
use Rattle.dv_top.specs.Sources.{no_fonts_of}
use Rattle.dv_top.specs.declared.outcome.Outcome.{Outcome}
use Rattle.dv_top.specs.declared.outcome.Outcome.TheVariants as outcome
use Rattle.dv_top.proofs.Ended.{lines_none}

-- ---- nothing is begun

-- what refuses a job leaves nothing but its outcome
pub refused_leaves : (job : ListJob) (told later : Told) (s : Seen) (o : Outcome) → Refuses job told later o → Leaves job told later s s o
refused_leaves job told later s o (inl e) =
    record { end = End.Wanting; tells = e; written = None; means = inl refl; left = (refl, refl, refl); silent = lines_none s.messages; rose = tt }
refused_leaves job told later s o (inr (r, tells, holds)) =
    record { end = End.Refused r; tells = tells; written = None; means = (refl, holds); left = (refl, refl, refl); silent = lines_none s.messages; rose = tt }

-- the input wasn't read
pub not_read : (job : ListJob) (told later : Told) (o : Outcome) → NotRead job.input most_input told later o → Refuses job told later o
not_read job told later o (inl x) = inl x
not_read job told later o (inr x) = inr (Reason.NoInput x.0, x.1, x.2)

-- its bytes are no document
pub not_document : (job : ListJob) (told later : Told) (input : Input job.input told) (bytes : List ℕ) (o : Outcome) → input.bytes ≡ bytes → NotDocument bytes o → Refuses job told later o
not_document job told later input bytes o e h = by (subst (λ (b : List ℕ). NotDocument b o) (sym e) h)
  where
    by : NotDocument input.bytes o → Refuses job told later o
    by (inl x) = inl x
    by (inr x) = inr (Reason.NoDocument input x.0, x.1, x.2)

-- the pages that it asks for aren't there
pub not_chosen : (job : ListJob) (told later : Told) (source : Source job.input told) (o : Outcome) → NotChosen source.doc (listed_request job) o → Refuses job told later o
not_chosen job told later source o (fault, tells, is) = inr (Reason.NoPages source fault, tells, is)

-- its units turn into no pixels
pub no_pixels : (job : ListJob) (told later : Told) (s : Selected job told) (o : Outcome) → NotScaled s.source.doc job.mag job.dpi o → Refuses job told later o
no_pixels job told later s o (units, tells, are, unusable) = inr (Reason.NoPixels s, tells ∙ ap outcome.BadConv are, subst (λ (u : Units). IsUsable u → ⊥) are unusable)

-- ---- outputs

append_begun : (os : List Output) (name text : List ℕ) → append_last (os ++ record { name = name; bytes = [] } ∷ []) text ≡ os ++ record { name = name; bytes = text } ∷ []
append_begun [] name text = refl
append_begun (o ∷ []) name text = refl
append_begun (o ∷ p ∷ os) name text = ap (λ (xs : List Output). o ∷ xs) (append_begun (p ∷ os) name text)

adds : (o p q : Option (List Output)) (name text : List ℕ) → WhereTold (Begins name) o p → WhereTold (Appends text) p q → WhereTold (AddsOutput name text) o q
adds o p None name text f g = tt
adds None None (Some qs) name text f g = absurd g
adds (Some os) None (Some qs) name text f g = absurd g
adds None (Some ps) (Some qs) name text f g = absurd f
adds (Some os) (Some ps) (Some qs) name text f g = g ∙ ap (λ (xs : List Output). append_last xs text) f ∙ append_begun os name text

-- what went to the output that was begun
pub wrote : (a b c : Seen) (text : List ℕ) → HasBegun a b → KeepsNames b c → WhereTold (Appends text) b.outputs c.outputs → LeavesOutput (codes "-") (Some text) a c
wrote a b c text f k w = (adds a.outputs b.outputs c.outputs (codes "-") text f.gives.0 w, k.begun_same ∙ f.gives.1, k.last_same ∙ f.gives.2)

-- nothing was said
silent_by : (a c : Seen) → c.messages ≡ a.messages → LeavesLines [] a c
silent_by a c e = subst (λ (m : Option (List (List ℕ))). WhereTold (AddsLines []) a.messages m) (sym e) (lines_none a.messages)

pub silent : (a b c : Seen) → HasBegun a b → KeepsNames b c → LeavesLines [] a c
silent a b c f k = silent_by a c (k.messages_same ∙ f.messages)

-- a front of a text, as it was appended
record Front (text : List ℕ) (old new : Option (List Output)) : Type 0 where
  written : List ℕ
  is : IsFrontOf text written
  appended : WhereTold (Appends written) old new

front_of : (text : List ℕ) (old new : Option (List Output)) → WhereTold (AppendsFront text) old new → Front text old new
front_of text old None h = record { written = []; is = record { missing = text; splits = refl }; appended = tt }
front_of text None (Some ps) h = absurd h
front_of text (Some os) (Some ps) (n, few, h) = record { written = take n text; is = record { missing = drop n text; splits = sym (take-append-drop n text) }; appended = h }

-- ---- faults

-- a fault of a listing names only fonts of the set
given_load : (s : Setting) (set : FontSet) (old new : Told) (c : Placed) (st : Standing) (f : LoadFault) → LoadStops s set old new c st f → LoadNamesGiven set f
given_load s set old new c st (load.UndefinedFont x) h = subst (IsSpotGiven set) (sym h.0) tt
given_load s set old new c st (load.NoFont x) h = subst (IsSpotGiven set) (sym h.0) tt
given_load s set old new c st (load.NoChar id z) h = id_below set.fonts h.0.key id h.0.place
given_load s set old new c st (load.NoPacket id code) h = absurd h
given_load s set old new c st (load.NoGlyph id code) h = absurd h
given_load s set old new c st (load.GlyphTooBig id code bytes) h = absurd h
given_load s set old new c st (load.Font f) h = tt

pub names_given : (r : Run) (s : Setting) (set : FontSet) (old new : Told) (a b : Seen) (e : ListFault) → EndsEarly r s set old new a b e → ListNamesGiven set e
names_given r s set old new a b (fault.Load f) h = given_load s set old new h.command h.standing f h.why
names_given r s set old new a b (fault.StackUnder x) h = subst (IsSpotGiven set) (sym h.why.0) tt
names_given r s set old new a b (fault.StackLeft x) h = subst (IsSpotGiven set) (sym h.why.0) tt
names_given r s set old new a b (fault.StackDeep x) h = subst (IsSpotGiven set) (sym h.why.0) tt
names_given r s set old new a b (fault.Overflow x) h = subst (IsSpotGiven set) (sym h.why.0) tt
names_given r s set old new a b fault.WriteFault h = tt
names_given r s set old new a b fault.OutOfMemory h = tt

-- a fault that is told in the midst of a run is told of the whole run
module _ (s : Setting) (set : FontSet) (a b c : Told) (k : Keeps a b) (cmd : Placed) (st : Standing) where
  unread_before : (f : FontFault) → SetsUnread set b c cmd.command st f → SetsUnread set a c cmd.command st f
  unread_before f h = (h.0, h.1, h.2, h.3, loaded_before set h.2 a b c k f h.4, h.5)

  font_before : (f : FontFault) → FontStops s set b c cmd.command st f → FontStops s set a c cmd.command st f
  font_before font.TooManyFonts h = h
  font_before font.OutOfMemory h = absurd h
  font_before (font.Missing n) h = unread_before (font.Missing n) h
  font_before (font.FileTooLong n) h = unread_before (font.FileTooLong n) h
  font_before (font.ReadFault n) h = unread_before (font.ReadFault n) h
  font_before (font.Tfm n e) h = unread_before (font.Tfm n e) h
  font_before (font.Vf n e) h = unread_before (font.Vf n e) h
  font_before (font.Pk n e) h = unread_before (font.Pk n e) h
  font_before font.RasterSpace h = unread_before font.RasterSpace h
  font_before (font.BadSize parts) h = unread_before (font.BadSize parts) h

  load_before : (f : LoadFault) → LoadStops s set b c cmd st f → LoadStops s set a c cmd st f
  load_before (load.UndefinedFont x) h = h
  load_before (load.NoFont x) h = h
  load_before (load.NoChar id z) h = h
  load_before (load.NoPacket id code) h = h
  load_before (load.NoGlyph id code) h = h
  load_before (load.GlyphTooBig id code bytes) h = h
  load_before (load.Font f) h = font_before f h

  stop_before : (e : ListFault) → IsStop s set b c cmd st e → IsStop s set a c cmd st e
  stop_before (fault.Load f) h = load_before f h
  stop_before (fault.StackUnder x) h = h
  stop_before (fault.StackLeft x) h = h
  stop_before (fault.StackDeep x) h = h
  stop_before (fault.Overflow x) h = h
  stop_before fault.WriteFault h = h
  stop_before fault.OutOfMemory h = h

-- ---- the listing of a document that was read

none_loaded : (units : Units) (id : ℕ) → IsLoaded (state_at (no_fonts_of wants.Widths units) id) → ⊥
unfolding state_at
none_loaded units id h = h

module _ (job : ListJob) (told : Told) (s : Selected job told) (r : ReadDoc) (one : OneDocument) (read : IsRead r) (same : s.source.input.bytes ≡ r.bytes) where
  pub is_here : IsDoc r.bytes s.source.doc
  is_here = subst (λ (b : List ℕ). IsDoc b s.source.doc) same s.source.is

  doc_here : read.0 ≡ s.source.doc
  doc_here = one r.bytes read.0 s.source.doc read.1 is_here

  fonts_here : r.fonts ≡ s.source.doc.fonts
  fonts_here = read.2.3 ∙ ap (λ (d : Document). d.fonts) doc_here

  head_here : r.head ≡ s.source.doc.head
  head_here = read.2.0 ∙ ap (λ (d : Document). d.head) doc_here

  module _ (units : Units) (scale : (units ≡ listed_units s.source.doc job) × IsUsable units) (mid : Told) (kept : Keeps told mid) where
    -- nothing was begun, since the tray failed
    pub begin_failed : (later : Told) (a b : Seen) → BeginGives (codes "-") begun.Failed a b → b.messages ≡ a.messages → Leaves job told later a b outcome.WriteFault
    begin_failed later a b f messages =
        record {
          end =
              End.Unwritten (record {
                selected = s;
                usable = subst IsUsable scale.0 scale.1;
                set = no_fonts_of wants.Widths units;
                units = scale.0;
                wanted = refl;
                files = λ id l. absurd (none_loaded units id l);
              });
          tells = refl;
          written = None;
          means = tt;
          left = (f.1, f.2, f.3);
          silent = silent_by a b messages;
          rose = f.0;
        }

    module _ (pixels : Fraction) (conv : pixels ≡ pixels_of_one units) (places : List ℕ) (chosen : places ≡ places_of s.source.doc (listed_request job)) (set : FontSet) (set_units : set.units ≡ units) (want : set.want ≡ wants.Widths)
        (files : AreOfFiles mid.held set) where
      -- the document with these fonts
      abbrev listable : Listable job told
      listable =
          record {
            selected = s;
            usable = subst IsUsable scale.0 scale.1;
            set = set;
            units = set_units ∙ scale.0;
            wanted = want;
            files = subst (λ (h : Option Contents). AreOfFiles h set) kept.held_same files;
          }

      setting_here : setting pixels r.fonts set ≡ setting_with s.source.doc job set
      setting_here =
          ap (λ (f : Fraction). setting f r.fonts set) (conv ∙ ap pixels_of_one scale.0)
          ∙ ap (λ (ds : List Definition). setting (pixels_of_one (listed_units s.source.doc job)) ds set) fonts_here

      abbrev Written : Run
      Written = listing (setting pixels r.fonts set) (nat_eq job.detail 1) s.source.doc (magnification_of r.head job.mag) places

      listing_here : Written ≡ listing_for listable
      listing_here =
          ap (λ (x : Setting). listing x (nat_eq job.detail 1) s.source.doc (magnification_of r.head job.mag) places) setting_here
          ∙ ap (λ (h : Preamble). listing (setting_with s.source.doc job set) (nat_eq job.detail 1) s.source.doc (magnification_of h job.mag) places) head_here
          ∙ ap (λ (ks : List ℕ). listing (setting_with s.source.doc job set) (nat_eq job.detail 1) s.source.doc (magnification_of s.source.doc.head job.mag) ks) chosen

      -- the whole listing was written
      pub finished : (later : Told) (a b c : Seen) → HasBegun a b → KeepsNames b c → IsListed Written b c → Leaves job told later a c outcome.Done
      finished later a b c f k w =
          let h = subst (λ (x : Run). IsListed x b c) listing_here w in
          record {
            end = End.Finished listable;
            tells = refl;
            written = Some (listing_for listable).text;
            means = (record { standing = h.standing; ends = h.ends }, refl);
            left = wrote a b c (listing_for listable).text f k h.written;
            silent = silent a b c f k;
            rose = tt;
          }

      stops_leaves : (later : Told) (o : Outcome) (e : ListFault) (a b c : Seen) → HasBegun a b → KeepsNames b c → FaultTells set e o
          → StopsAt (listing_for listable) (setting_with s.source.doc job set) set mid later b c e → Leaves job told later a c o
      stops_leaves later o e a b c f k tells h =
          record {
            end = End.Stopped listable e;
            tells = tells;
            written = Some (listing_for listable).text;
            means = (
              record {
                command = h.command;
                standing = h.standing;
                stops = h.stops;
                why = stop_before (setting_with s.source.doc job set) set told mid later kept h.command h.standing e h.why;
              },
              refl,
            );
            left = wrote a b c (listing_for listable).text f k h.written;
            silent = silent a b c f k;
            rose = tt;
          }

      ends_leaves : (later : Told) (o : Outcome) (e : ListFault) (a b c : Seen) → HasBegun a b → KeepsNames b c → FaultTells set e o
          → EndsEarly (listing_for listable) (setting_with s.source.doc job set) set mid later b c e → Leaves job told later a c o
      ends_leaves later o (fault.Load x) a b c f k tells h = stops_leaves later o (fault.Load x) a b c f k tells h
      ends_leaves later o (fault.StackUnder x) a b c f k tells h = stops_leaves later o (fault.StackUnder x) a b c f k tells h
      ends_leaves later o (fault.StackLeft x) a b c f k tells h = stops_leaves later o (fault.StackLeft x) a b c f k tells h
      ends_leaves later o (fault.StackDeep x) a b c f k tells h = stops_leaves later o (fault.StackDeep x) a b c f k tells h
      ends_leaves later o (fault.Overflow x) a b c f k tells h = stops_leaves later o (fault.Overflow x) a b c f k tells h
      ends_leaves later o fault.WriteFault a b c f k tells h =
          let w = front_of (listing_for listable).text b.outputs c.outputs h.told in
          record {
            end = End.Unwritten listable;
            tells = tells;
            written = Some w.written;
            means = w.is;
            left = wrote a b c w.written f k w.appended;
            silent = silent a b c f k;
            rose = let rose = h.rose in let same = f.gives.3 in omega (arith, rose, same);
          }
      ends_leaves later o fault.OutOfMemory a b c f k tells h =
          let w = front_of (listing_for listable).text b.outputs c.outputs h in
          record {
            end = End.Wanting;
            tells = tells;
            written = Some w.written;
            means = inr (listable, w.is);
            left = wrote a b c w.written f k w.appended;
            silent = silent a b c f k;
            rose = tt;
          }

      -- the listing ends early
      pub ended : (later : Told) (o : Outcome) (e : ListFault) (a b c : Seen) → HasBegun a b → KeepsNames b c → FaultTells set e o → EndsEarly Written (setting pixels r.fonts set) set mid later b c e
          → Leaves job told later a c o
      ended later o e a b c f k tells h =
          ends_leaves later o e a b c f k tells
          (subst (λ (x : Setting). EndsEarly (listing_for listable) x set mid later b c e) setting_here (subst (λ (x : Run). EndsEarly x (setting pixels r.fonts set) set mid later b c e) listing_here h))

-- nothing was begun for want of memory
pub begin_wanting : (job : ListJob) (told later : Told) (a b : Seen) → BeginGives (codes "-") begun.OutOfMemory a b → b.messages ≡ a.messages → Leaves job told later a b outcome.OutOfMemory
begin_wanting job told later a b f messages =
    record { end = End.Wanting; tells = refl; written = None; means = inl refl; left = (f.0, f.1, f.2); silent = silent_by a b messages; rose = tt }
