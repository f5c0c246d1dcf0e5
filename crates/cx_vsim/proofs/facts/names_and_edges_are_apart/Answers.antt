use Rattle.std.proofs.Common.{◌≡◌, ℕ, List, map, Some, option_map, slice_get, ap, sym, ◌∙◌}
use Rattle.std.proofs.lemmas.Option.{slice_get-map}
use Rattle.cx_vtree.specs.Plain.{PlainAssign, PlainStore}
use Rattle.cx_vtree.specs.InstanceTree.{instances_of}
use Rattle.cx_vtree.specs.Edges.{edge_at, acting_sets, acting_stores}
use Rattle.cx_vtree.specs.Sound.{width_of}
use Rattle.cx_vlaws.specs.Widths.{scope_at}
use Rattle.cx_vsim.proofs.facts.names_and_edges_are_apart.Goals as goal

named_at : {A : Type 0} (f : A → List ℕ) (xs : List A) (k : ℕ) (x : A) → slice_get xs k ≡ Some x → slice_get (map f xs) k ≡ Some (f x)
named_at f xs k x at = slice_get-map f xs k ∙ ap (option_map f) at

pub returns : goal.returns
returns c = λ source sound.
    let tree = instances_of source in
    record {
      names = record {
        nets = λ i k h name. c.names_are_apart.ensures.nets source i sound k h name;
        arrays = λ i a b name. c.names_are_apart.ensures.arrays source i sound a b name;
      };
      edges = record {
        registers = λ reset i j a at.
            (width_of (scope_at tree i a.name), c.registers_are_held.ensures source i (width_of (scope_at tree i a.name)) a.name sound (c.sets_are_of_registers.ensures.sets source i reset j a sound at).register);
        sets = λ reset i j h a b at there named.
            c.sets_are_of_registers.ensures.once source i reset sound j h a.name
            (named_at (λ (x : PlainAssign). x.name) (acting_sets reset (edge_at tree i)) j a at)
            (named_at (λ (x : PlainAssign). x.name) (acting_sets reset (edge_at tree i)) h b there ∙ ap Some (sym named));
        stores = λ reset i j h s t at there named.
            c.stores_are_of_arrays.ensures.once source i reset sound j h s.array
            (named_at (λ (x : PlainStore). x.array) (acting_stores reset (edge_at tree i)) j s at)
            (named_at (λ (x : PlainStore). x.array) (acting_stores reset (edge_at tree i)) h t there ∙ ap Some (sym named));
      };
    }
