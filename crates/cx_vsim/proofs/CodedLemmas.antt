-- The modules of a sound source's tree can be coded.
use Rattle.std.proofs.Common.{◌≡◌, ℕ, zero, suc, ◌+◌, ◌<◌, ◌≤◌, ◌^◌, false, List, [], ◌∷◌, length, Option, Some, None, option_and_then, slice_get, refl, ap, ◌∙◌, subst, arith, length-append}
use Rattle.std.proofs.lemmas.List.{length-map}
use Rattle.std.specs.Option.{option_map_or}
use Rattle.cx_vtree.specs.Plain.{PlainExpr, PlainPort, PlainDecl, WireOf, RegisterOf, ArrayOf, PlainAssign, PlainStore, PlainItem, SetTo, StoreTo, PlainEdge}
use Rattle.cx_vtree.specs.InstanceTree.{Placed, ports_at, decls_at, declared_nets, nets_at, Given, origin_of, declared_arrays, arrays_at}
use Rattle.cx_vtree.specs.Edges.{sets_in, stores_in, edge_at, acting_sets, acting_stores}
use Rattle.cx_vtree.specs.Sound.{Scope, meant_in, misnames, width_of, decl_meaning}
use Rattle.cx_vnets.specs.ModuleCodes.{HasNumbers}
use Rattle.cx_vnets.specs.CodeLaws.{NamesHaveNumbers, net_numbering, array_numbering}
use Rattle.cx_vlaws.specs.Widths.{scope_at, IsExpression}
use Rattle.cx_vlaws.specs.Origins.{width_at, IsThere}
use Rattle.cx_vlaws.specs.Edges.{IsSet, IsStore}
use Rattle.cx_velab.specs.Tables.{IsWidth, decl_width}
use Rattle.cx_velab.specs.Coded.{AssignsHaveNumbers, EdgeHasNumbers, ItemHasNumbers}
use Rattle.cx_velab.specs.Parts.{ModulesAreNamed}
use Rattle.cx_vsim.specs.Trees.{IsSmall, CanBeCoded}
use Rattle.cx_vsim.proofs.Positions.{origin_position, nets_there, ports_there, decls_there, share}
use Rattle.cx_vsim.proofs.TidyLemmas.{Origins}
use Rattle.cx_text.proofs.ListLaws.{there_below}
use Rattle.cx_vnets.proofs.Numbering.{position_here}

abbrev pub AssignsGiven : List Placed → Type 0
AssignsGiven tree = (i k : ℕ) (p : Placed) (a : PlainAssign) → slice_get tree i ≡ Some p → slice_get p.part.assigns k ≡ Some a → origin_of tree i a.name ≡ Some (Given a.value)

abbrev pub SetsAre : List Placed → Type 0
SetsAre tree = (i reset k : ℕ) (a : PlainAssign) → slice_get (acting_sets reset (edge_at tree i)) k ≡ Some a → IsSet (scope_at tree i) a

abbrev pub StoresAre : List Placed → Type 0
StoresAre tree = (i reset k : ℕ) (s : PlainStore) → slice_get (acting_stores reset (edge_at tree i)) k ≡ Some s → IsStore (scope_at tree i) s

-- a declaration is of a net or of an array
decl_count : (ds : List PlainDecl) → length ds ≡ length (declared_nets ds) + length (declared_arrays ds)
decl_count [] = refl
decl_count (WireOf n w ∷ ds) = let e = decl_count ds in omega (arith, e)
decl_count (RegisterOf n w ∷ ds) = let e = decl_count ds in omega (arith, e)
decl_count (ArrayOf n w k ∷ ds) = let e = decl_count ds in omega (arith, e)

-- an item of a branch is among its sets or its stores
pub set_among : (items : List PlainItem) (j : ℕ) (a : PlainAssign) → slice_get items j ≡ Some (SetTo a) → (k : ℕ) × (slice_get (sets_in items) k ≡ Some a)
set_among [] j a e = absurd (cc)
set_among (SetTo b ∷ items) zero a e = let same : b ≡ a = cc in (0, ap Some same)
set_among (StoreTo s ∷ items) zero a e = absurd (cc)
set_among (SetTo b ∷ items) (suc j) a e = let r = set_among items j a e in (suc r.0, r.1)
set_among (StoreTo s ∷ items) (suc j) a e = set_among items j a e

pub store_among : (items : List PlainItem) (j : ℕ) (s : PlainStore) → slice_get items j ≡ Some (StoreTo s) → (k : ℕ) × (slice_get (stores_in items) k ≡ Some s)
store_among [] j s e = absurd (cc)
store_among (StoreTo t ∷ items) zero s e = let same : t ≡ s = cc in (0, ap Some same)
store_among (SetTo a ∷ items) zero s e = absurd (cc)
store_among (StoreTo t ∷ items) (suc j) s e = let r = store_among items j s e in (suc r.0, r.1)
store_among (SetTo a ∷ items) (suc j) s e = store_among items j s e

module _ (ports : List PlainPort) (decls : List PlainDecl) (numbered : NamesHaveNumbers) where
  abbrev Has : PlainExpr → Type 0
  Has e = HasNumbers (net_numbering ports decls) (array_numbering decls) e

  item_numbers : (items : List PlainItem) → ((k : ℕ) (a : PlainAssign) → slice_get (sets_in items) k ≡ Some a → IsSet (meant_in ports decls) a)
      → ((k : ℕ) (s : PlainStore) → slice_get (stores_in items) k ≡ Some s → IsStore (meant_in ports decls) s)
      → (j : ℕ) (x : PlainItem) → slice_get items j ≡ Some x → ItemHasNumbers (net_numbering ports decls) (array_numbering decls) x
  item_numbers items sets stores j (SetTo a) at = let r = set_among items j a at in numbered ports decls a.value (sets r.0 a r.1).value.named
  item_numbers items sets stores j (StoreTo s) at =
      let r = store_among items j s at in
      let is = stores r.0 s r.1 in
      (numbered ports decls s.guard is.guard.named, numbered ports decls s.index is.index.named, numbered ports decls s.value is.value.named)

  edge_numbers : (e : Option PlainEdge) → ((reset k : ℕ) (a : PlainAssign) → slice_get (acting_sets reset e) k ≡ Some a → IsSet (meant_in ports decls) a)
      → ((reset k : ℕ) (s : PlainStore) → slice_get (acting_stores reset e) k ≡ Some s → IsStore (meant_in ports decls) s)
      → EdgeHasNumbers (net_numbering ports decls) (array_numbering decls) e
  edge_numbers None sets stores = tt
  edge_numbers (Some e) sets stores = (
    λ j a at. numbered ports decls a.value (sets 1 j a at).value.named,
    item_numbers e.step (λ k a at. sets 0 k a at) (λ k s at. stores 0 k s at),
  )

decl_width_is : (d : PlainDecl) → width_of (decl_meaning d) ≡ decl_width d
decl_width_is (WireOf n w) = refl
decl_width_is (RegisterOf n w) = refl
decl_width_is (ArrayOf n w k) = refl

within_128 : (v w : ℕ) → v ≡ w → (0 < v) × (v ≤ 128) → IsWidth w
within_128 v w e b = let low = b.0 in let high = b.1 in (omega (arith, e, low), omega (arith, e, high))

module _ (tree : List Placed) (origins : Origins tree) (numbered : NamesHaveNumbers) (assigns : AssignsGiven tree) (sets : SetsAre tree) (stores : StoresAre tree) where
  scope_there : (i : ℕ) (p : Placed) → slice_get tree i ≡ Some p → scope_at tree i ≡ meant_in p.part.ports p.part.decls
  scope_there i p at = ap (λ o. meant_in (option_map_or (λ q. q.part.ports) o []) (option_map_or (λ q. q.part.decls) o [])) at

  edge_there : (i : ℕ) (p : Placed) → slice_get tree i ≡ Some p → edge_at tree i ≡ p.part.edge
  edge_there i p at = ap (option_and_then (λ (q : Placed). q.part.edge)) at

  assign_numbers : (i : ℕ) (p : Placed) → slice_get tree i ≡ Some p → AssignsHaveNumbers (net_numbering p.part.ports p.part.decls) (array_numbering p.part.decls) p.part.assigns
  assign_numbers i p at j a there =
      let given = assigns i j p a at there in
      let number = origin_position tree i a.name (Given a.value) given in
      let o = origins i a.name (number.0, position_here (nets_at tree i) a.name number.0 number.1) in
      let same : o.0 ≡ Given a.value = let e = o.1 in cc in
      let is : IsExpression (scope_at tree i) a.value (width_at tree i a.name) = subst (IsThere tree i (width_at tree i a.name)) same o.2 in
      numbered p.part.ports p.part.decls a.value (subst (λ (s : Scope). misnames s a.value ≡ false) (scope_there i p at) is.named)

  module_size : IsSmall tree → (i : ℕ) (p : Placed) → slice_get tree i ≡ Some p → length p.part.ports + length p.part.decls < 2 ^ 32
  module_size small i p at =
      let lt = there_below tree i p at in
      let nets = share (nets_at tree) (length tree) i lt in
      let arrays = share (arrays_at tree) (length tree) i lt in
      let own : length (nets_at tree i) ≡ length p.part.ports + length (declared_nets p.part.decls) =
      ap length (nets_there tree i p at) ∙ length-append _ (declared_nets p.part.decls) ∙ ap (λ n. n + length (declared_nets p.part.decls)) (length-map p.part.ports (λ (q : PlainPort). q.name)) in
      let others : length (arrays_at tree i) ≡ length (declared_arrays p.part.decls) = ap (λ ds. length (declared_arrays ds)) (decls_there tree i p at) in
      let count = decl_count p.part.decls in
      let most = small.both in
      omega (arith, nets, arrays, own, others, count, most)

  pub coded_tree : IsSmall tree → ModulesAreNamed tree
      → ((i k : ℕ) (q : PlainPort) → slice_get (ports_at tree i) k ≡ Some q → (0 < q.width) × (q.width ≤ 128))
      → ((i k : ℕ) (d : PlainDecl) → slice_get (decls_at tree i) k ≡ Some d → (0 < width_of (decl_meaning d)) × (width_of (decl_meaning d) ≤ 128))
      → CanBeCoded tree
  coded_tree small named ports decls = record {
    named = named;
    can = λ i p at. record {
      size = module_size small i p at;
      assigns = assign_numbers i p at;
      edge = edge_numbers p.part.ports p.part.decls numbered p.part.edge
          (λ reset k a there. subst (λ (s : Scope). IsSet s a) (scope_there i p at) (sets i reset k a (ap (λ e. slice_get (acting_sets reset e) k) (edge_there i p at) ∙ there)))
          (λ reset k s there. subst (λ (v : Scope). IsStore v s) (scope_there i p at) (stores i reset k s (ap (λ e. slice_get (acting_stores reset e) k) (edge_there i p at) ∙ there)));
    };
    widths = λ i p at. record {
      ports = λ j q there. within_128 q.width q.width refl (ports i j q (ap (λ l. slice_get l j) (ports_there tree i p at) ∙ there));
      decls = λ j d there. within_128 (width_of (decl_meaning d)) (decl_width d) (decl_width_is d) (decls i j d (ap (λ l. slice_get l j) (decls_there tree i p at) ∙ there));
    };
  }
