use Rattle.std.proofs.Common.{◌≡◌, ℕ, List, [], map, drop, length, refl, ap, sym, ◌∙◌, subst, if◌then◌else◌}
use Rattle.std.proofs.lemmas.List.{length-map}
use Rattle.std.specs.Vec.{with_items}
use Rattle.cx_text.specs.Loading.{FitsRows, plain_loaded, words_loaded}
use Rattle.cx_vtree.specs.declared.sources.Source.{Source}
use Rattle.cx_vtree.specs.PlainParts.{rows_of}
use Rattle.cx_vtree.specs.PlainSources.{plain_source}
use Rattle.cx_vnets.specs.declared.nets.Stored.{Stored}
use Rattle.cx_vnets.specs.Stores.{plain_words}
use Rattle.cx_vsim.specs.Arrays.{CanTake, with_arrays}
use Rattle.cx_vsim.specs.Models.{Loaded}
use Rattle.cx_vsim.specs.Stands.{words_by}
use Rattle.cx_vsim.proofs.LoadLemmas.{can_take}
use Rattle.cx_vsim.proofs.SimLemmas.{words_are_loaded, load_stands}
use Rattle.cx_vsim.proofs.Written.{length-with_arrays}
use Rattle.cx_text.proofs.ListLaws.{written_back}
use Rattle.cx_vsim.proofs.simulating.Sim.load.Goals as goal

abbrev loaded_of : Source → List (List ℕ) → Loaded
loaded_of source words = record { source = source; words = words }

pub load_words-requires : goal.load_words-requires
load_words-requires c =
    let s = plain_source c.self.inside.source.now in
    let words : List (List ℕ) = if c.self.inside.loaded then words_by c.self.inside.arrays.items (map plain_words c.self.inside.built.stored.arrays.items) else [] in
    let fits = subst (λ (l : Loaded). FitsRows (rows_of (plain_source l.source).externals) (plain_loaded c.args.loaded.now)) (sym c.self.view_is) c.requires.fits in
    let can = can_take s c.self.inside.arrays.items (plain_loaded c.args.loaded.now) c.self.invariant.arrays_are fits words c.self.inside.built.stored (c.memories_are_arrays.ensures s c.modules.ensures.sound) c.self.invariant.stored in
    record {
      can = subst (λ ns. CanTake ns (map plain_words c.deref_mut.result.now) (plain_loaded c.args.loaded.now)) (sym c.deref.ensures.value)
          (subst (λ xs. CanTake c.self.inside.arrays.items (map plain_words xs) (plain_loaded c.args.loaded.now)) (sym c.deref_mut.ensures.value) can);
    }

pub invariant_of-self : goal.invariant_of-self
invariant_of-self c =
    let s = plain_source c.self.inside.source.now in
    let words : List (List ℕ) = if c.self.inside.loaded then words_by c.self.inside.arrays.items (map plain_words c.self.inside.built.stored.arrays.items) else [] in
    let ms = plain_loaded c.args.loaded.now in
    let old = c.self.inside.built.stored.arrays in
    let new = c.load_words.new.arrays in
    let fits = subst (λ (l : Loaded). FitsRows (rows_of (plain_source l.source).externals) ms) (sym c.self.view_is) c.requires.fits in
    let after : Stored = record { nets = c.self.inside.built.stored.nets; arrays = with_items old new } in
    let told : map plain_words new ≡ with_arrays c.self.inside.arrays.items ms (map plain_words old.items)
    = c.load_words.ensures.value ∙ ap (λ ns. with_arrays ns ms (map plain_words c.deref_mut.result.now)) c.deref.ensures.value
    ∙ ap (λ xs. with_arrays c.self.inside.arrays.items ms (map plain_words xs)) c.deref_mut.ensures.value in
    let long : old.len ≡ length new
    = old.ok.0 ∙ sym (sym (length-map new plain_words) ∙ ap length told ∙ length-with_arrays c.self.inside.arrays.items ms (map plain_words old.items) ∙ length-map old.items plain_words) in
    let written : map plain_words after.arrays.items ≡ with_arrays c.self.inside.arrays.items ms (map plain_words old.items)
    = ap (map plain_words) (written_back new (drop (length new) old.items) old.len long) ∙ told in
    load_stands s words c.self.inside.built c.self.inside.arrays.items c.self.inside.places.items c.self.invariant (c.memories_are_arrays.ensures s c.modules.ensures.sound) ms fits after refl written c.machines_stay_ready.ensures

pub returns : goal.returns
returns c =
    let s = plain_source c.self.inside.source.now in
    let words : List (List ℕ) = if c.self.inside.loaded then words_by c.self.inside.arrays.items (map plain_words c.self.inside.built.stored.arrays.items) else [] in
    let ms = plain_loaded c.args.loaded.now in
    let old = c.self.inside.built.stored.arrays in
    let new = c.load_words.new.arrays in
    let fits = subst (λ (l : Loaded). FitsRows (rows_of (plain_source l.source).externals) ms) (sym c.self.view_is) c.requires.fits in
    let after : Stored = record { nets = c.self.inside.built.stored.nets; arrays = with_items old new } in
    let told : map plain_words new ≡ with_arrays c.self.inside.arrays.items ms (map plain_words old.items)
    = c.load_words.ensures.value ∙ ap (λ ns. with_arrays ns ms (map plain_words c.deref_mut.result.now)) c.deref.ensures.value
    ∙ ap (λ xs. with_arrays c.self.inside.arrays.items ms (map plain_words xs)) c.deref_mut.ensures.value in
    let long : old.len ≡ length new
    = old.ok.0 ∙ sym (sym (length-map new plain_words) ∙ ap length told ∙ length-with_arrays c.self.inside.arrays.items ms (map plain_words old.items) ∙ length-map old.items plain_words) in
    let written : map plain_words after.arrays.items ≡ with_arrays c.self.inside.arrays.items ms (map plain_words old.items)
    = ap (map plain_words) (written_back new (drop (length new) old.items) old.len long) ∙ told in
    let are = words_are_loaded s words c.self.inside.built c.self.inside.arrays.items c.self.inside.places.items c.self.invariant (c.memories_are_arrays.ensures s c.modules.ensures.sound) ms fits after refl written in
    record { value = ap (loaded_of c.self.inside.source.now) are ∙ ap (λ (l : Loaded). loaded_of l.source (words_loaded ms)) c.self.view_is }
