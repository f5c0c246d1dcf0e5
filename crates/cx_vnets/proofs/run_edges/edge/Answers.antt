use Rattle.std.proofs.Common.{◌≡◌, List, map, length, slice_get, refl, ap, sym, ◌∙◌, subst}
use Rattle.std.proofs.lemmas.List.{length-map}
use Rattle.cx_graphs.specs.Graphs.{edges_of}
use Rattle.cx_vnets.specs.declared.arrays.Words.{Words}
use Rattle.cx_vnets.specs.Arrays.{IsEven, array_width}
use Rattle.cx_vnets.specs.Fits.{width_at}
use Rattle.cx_vnets.specs.Stale.{Tells}
use Rattle.cx_vnets.specs.Stores.{plain_words, write_of, after_writes}
use Rattle.cx_vnets.specs.Written.{ReadsNoWritten}
use Rattle.cx_vnets.proofs.Along.{stores-along}
use Rattle.cx_vnets.proofs.CurrentLemmas.{edge_tells}
use Rattle.cx_vnets.proofs.StaleLemmas.{tells_so}
use Rattle.cx_vnets.proofs.run_edges.edge.Goals as goal

pub store_words_of-requires : goal.store_words_of-requires
store_words_of-requires c =
    let e = c.set_all.ensures in
    record {
      even = subst (λ (l : List Words). IsEven l) (sym e.arrays) c.requires.even;
      stores = stores-along _ _ _ _ _ _ _ _ refl e.values e.arrays refl c.requires.stores;
      writes = ap length e.writes ∙ c.requires.writes;
    }

pub mark_stores-requires : goal.mark_stores-requires
mark_stores-requires c = record { writes = ap length c.store_words_of.ensures.writes ∙ length-map c.args.machine.now.stores.items _ }

pub returns : goal.returns
returns c =
    let m = c.args.machine.now in
    let s = c.args.stored.now in
    let b = c.args.bench.now in
    let e = c.set_all.ensures in
    let g = c.store_words_of.ensures in
    let h = c.mark_stores.ensures in
    let codes = m.nets.codes.items in
    let stores = m.stores.items in
    let rows = edges_of m.readers.of_arrays.items in
    let arrays = c.set_all.new.stored.arrays.items in
    let write = write_of codes b.values.items s.arrays.items in
    let writes : c.store_words_of.new.bench.writes.items ≡ map write stores
    = g.writes ∙ ap (λ vs. map (write_of codes vs arrays) stores) e.values ∙ ap (λ xs. map (write_of codes b.values.items xs) stores) e.arrays in
    let words : map plain_words c.store_words_of.new.stored.arrays.items ≡ after_writes stores (map write stores) (map plain_words s.arrays.items)
    = g.words ∙ ap (λ vs. after_writes stores (map (write_of codes vs arrays) stores) (map plain_words arrays)) e.values
    ∙ ap (λ xs. after_writes stores (map (write_of codes b.values.items xs) stores) (map plain_words xs)) e.arrays in
    record {
      after = record { registers = g.nets ∙ e.registers; words = words };
      widths = record {
        nets = λ f. ap (λ l. width_at l f) g.nets ∙ e.widths f;
        arrays = λ a. g.widths a ∙ ap (λ l. array_width l a) e.arrays;
        even = g.even;
      };
      tells = edge_tells m.readers.ranks.items b.stale.items c.set_all.new.bench.stale.items c.mark_stores.new.bench.stale.items s c.store_words_of.new.stored write stores c.store_words_of.new.bench.writes.items rows
          writes words
          (tells_so m.readers.ranks.items b.stale.items c.set_all.new.bench.stale.items (λ f. slice_get c.set_all.new.stored.nets.items f ≡ slice_get s.nets.items f)
          (λ f. slice_get c.store_words_of.new.stored.nets.items f ≡ slice_get s.nets.items f) e.tells (λ f same. ap (λ l. slice_get l f) g.nets ∙ same))
          (subst (λ l. Tells m.readers.ranks.items l c.mark_stores.new.bench.stale.items (ReadsNoWritten rows stores c.store_words_of.new.bench.writes.items (length stores))) g.stale h.tells);
      writes = ap length h.writes ∙ ap length writes ∙ length-map stores write;
      marks = h.marks ∙ g.marks ∙ e.marks;
      values = h.values ∙ g.values ∙ e.values;
      nonzero = h.nonzero ∙ g.nonzero ∙ e.nonzero;
      stack = h.stack ∙ g.stack ∙ e.stack;
    }
