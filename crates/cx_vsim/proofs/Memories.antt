-- Where the arrays of external memories are.
use Rattle.std.proofs.Common.{◌≡◌, ℕ, ◌+◌, ◌==◌, ◌&&◌, Bool, true, false, List, [], ◌∷◌, Some, map, length, slice_get, nat_lt, ap, sym, ◌∙◌, subst, if◌then◌else◌}
use Rattle.std.proofs.lemmas.Bool.{eq-eqb, eqb-true}
use Rattle.std.proofs.lemmas.Option.{same_Some}
use Rattle.std.specs.Option.{option_map_or}
use Rattle.cx_text.specs.Loading.{word_count}
use Rattle.cx_vtree.specs.Plain.{PlainDecl, WireOf, RegisterOf, ArrayOf, PlainExternal, PlainSource}
use Rattle.cx_vtree.specs.InstanceTree.{Placed, same_name, decls_at, instances_of, arrays_at}
use Rattle.cx_vtree.specs.Meaning.{Moment, word_in}
use Rattle.cx_vtree.specs.Edges.{array_size}
use Rattle.cx_vtree.specs.SimRun.{instance_named, first_array, is_memory}
use Rattle.cx_vtree.specs.Sound.{arrays_in}
use Rattle.cx_vlaws.specs.Memories.{IsMemory}
use Rattle.cx_vnets.specs.declared.arrays.Words.{Words}
use Rattle.cx_vnets.specs.declared.nets.Stored.{Stored}
use Rattle.cx_vnets.specs.Numbers.{arrays_before, array_number}
use Rattle.cx_vnets.specs.EdgesFlat.{AreApart}
use Rattle.cx_vnets.specs.Memory.{StoredStands}
use Rattle.cx_vnets.proofs.Numbering.{number_at, number_once}
use Rattle.cx_vsim.specs.Externals.{array_of}
use Rattle.cx_vsim.specs.Memories.{HasMemories}
use Rattle.cx_vsim.proofs.Elements.{mapped_at}
use Rattle.cx_text.proofs.BoolLaws.{and_both}
use Rattle.cx_vnets.proofs.ArraysLemmas.{zero_width}
use Rattle.cx_text.proofs.OptionLaws.{bind_some}
use Rattle.cx_vtree.proofs.InstanceTreeLemmas.{same_self, same_is}

-- the array of an external memory, by its instance and its place there
pub record HasPlace (tree : List Placed) (e : PlainExternal) (a : ℕ) : Type 0 where
  pub instance : ℕ
  pub place : ℕ
  pub found : instance_named tree 0 e.instance ≡ Some instance
  pub there : slice_get (arrays_at tree instance) place ≡ Some (first_array (decls_at tree instance))
  pub number : arrays_before tree instance + place ≡ a

pub array_place : (tree : List Placed) (e : PlainExternal) (a : ℕ) → array_of tree e ≡ Some a → HasPlace tree e a
array_place tree e a is =
    let r = bind_some (λ j. array_number tree j (first_array (decls_at tree j))) (instance_named tree 0 e.instance) a is in
    let q = number_at (arrays_at tree) r.0 (first_array (decls_at tree r.0)) a r.2 in
    record { instance = r.0; place = q.0; found = r.1; there = q.1; number = q.2 }

module _ (tree : List Placed) (e : PlainExternal) (a i p : ℕ) (name : List ℕ) (at : slice_get (arrays_at tree i) p ≡ Some name) (h : HasPlace tree e a) where
  memory_is : is_memory tree e i name ≡ (h.instance == i && same_name (first_array (decls_at tree h.instance)) name)
  memory_is = ap (λ o. option_map_or (λ j. j == i && same_name (first_array (decls_at tree j)) name) o false) h.found

  -- the array of a number is the external memory of that number
  pub memory_here : arrays_before tree i + p ≡ a → is_memory tree e i name ≡ true
  memory_here same =
      let once = number_once (arrays_at tree) h.instance h.place i p (first_array (decls_at tree h.instance)) name h.there at (h.number ∙ sym same) in
      memory_is
      ∙ ap (λ b. b && same_name (first_array (decls_at tree h.instance)) name) (eq-eqb h.instance i once.0)
      ∙ ap (λ n. same_name n name) once.2
      ∙ same_self name

  parts : is_memory tree e i name ≡ true → (h.instance ≡ i) × (first_array (decls_at tree h.instance) ≡ name)
  parts is =
      let both = and_both (h.instance == i) (same_name (first_array (decls_at tree h.instance)) name) (sym memory_is ∙ is) in
      (eqb-true h.instance i both.0, same_is (first_array (decls_at tree h.instance)) name both.1)

  pub memory_found : is_memory tree e i name ≡ true → instance_named tree 0 e.instance ≡ Some i
  memory_found is = h.found ∙ ap Some (parts is).0

  pub memory_back : AreApart tree → is_memory tree e i name ≡ true → arrays_before tree i + p ≡ a
  memory_back apart is =
      let one : h.instance ≡ i = (parts is).0 in
      let there : slice_get (arrays_at tree i) h.place ≡ Some name = ap (λ j. slice_get (arrays_at tree j) h.place) (sym one) ∙ h.there ∙ ap Some (parts is).1 in
      let place : p ≡ h.place = apart.arrays i p h.place name at there in
      ap (λ k. arrays_before tree i + k) place ∙ ap (λ j. arrays_before tree j + h.place) (sym one) ∙ h.number

module _ (s : PlainSource) (numbers : List ℕ) (memories : HasMemories s) (arrays_are : map Some numbers ≡ map (array_of (instances_of s)) s.externals) where
  pub external_at : (k a : ℕ) → slice_get numbers k ≡ Some a → (e : PlainExternal) × (slice_get s.externals k ≡ Some e) × HasPlace (instances_of s) e a
  external_at k a at =
      let r = mapped_at (array_of (instances_of s)) Some s.externals numbers k a (sym arrays_are) at in
      (r.0, r.1, array_place (instances_of s) r.0 a r.2)

  pub number_for : (k : ℕ) (e : PlainExternal) → slice_get s.externals k ≡ Some e → (a : ℕ) × (slice_get numbers k ≡ Some a) × HasPlace (instances_of s) e a
  number_for k e at =
      let r = mapped_at Some (array_of (instances_of s)) numbers s.externals k e arrays_are at in
      (r.0, r.1, array_place (instances_of s) e r.0 (sym r.2))

  -- each array is that of one external memory at most
  pub numbers_once : (j k f : ℕ) → slice_get numbers j ≡ Some f → slice_get numbers k ≡ Some f → j ≡ k
  numbers_once j k f here there =
      let d = external_at j f here in
      let e = external_at k f there in
      let p = d.2 in
      let q = e.2 in
      let same = number_once (arrays_at (instances_of s)) p.instance p.place q.instance q.place (first_array (decls_at (instances_of s) p.instance)) (first_array (decls_at (instances_of s) q.instance)) p.there q.there (p.number ∙ sym q.number) in
      memories.once j k q.instance d.0 e.0 d.1 e.1 (p.found ∙ ap Some same.0) q.found

-- the words of the only array have its width
first_width : (ds : List PlainDecl) (words : List ℕ → ℕ → ℕ) (w n index : ℕ) → arrays_in ds ≡ (w, n) ∷ [] → (word_in words ds (first_array ds) index).width ≡ w
first_width [] words w n index e = absurd (cc)
first_width (WireOf x v ∷ ds) words w n index e = first_width ds words w n index e
first_width (RegisterOf x v ∷ ds) words w n index e = first_width ds words w n index e
first_width (ArrayOf x v m ∷ ds) words w n index e = go (same_name x x) (same_self x)
  where
    pair : ◌≡◌ {A = ℕ × ℕ} (v, m) (w, n)
    pair = cc

    go : (t : Bool) → t ≡ true → (if t then record { width = v; value = if nat_lt index m then words x index else 0 } else word_in words ds x index).width ≡ w
    go true is = ap (λ (p : ℕ × ℕ). p.0) pair
    go false is = absurd (cc)

-- the array of an external memory has its words
pub record Holds (arrays : List Words) (e : PlainExternal) (a : ℕ) : Type 0 where
  pub array : Words
  pub at : slice_get arrays a ≡ Some array
  pub size : length array.words.items ≡ word_count e.sizes
  pub wide : array.zero.width ≡ e.width

pub memory_held : (tree : List Placed) (m : Moment) (stored : Stored) (e : PlainExternal) (a : ℕ) → StoredStands tree m stored → IsMemory tree e → HasPlace tree e a → Holds stored.arrays.items e a
memory_held tree m stored e a stands memory h =
    let name = first_array (decls_at tree h.instance) in
    let r = stands.arrays h.instance h.place name h.there in
    let same : memory.number ≡ h.instance = same_Some memory.number h.instance (sym memory.found ∙ h.found) in
    let size : array_size (decls_at tree h.instance) name ≡ word_count e.sizes = subst (λ j. array_size (decls_at tree j) (first_array (decls_at tree j)) ≡ word_count e.sizes) same memory.size in
    let array : arrays_in (decls_at tree h.instance) ≡ (e.width, word_count e.sizes) ∷ [] = subst (λ j. arrays_in (decls_at tree j) ≡ (e.width, word_count e.sizes) ∷ []) same memory.array in
    record {
      array = r.0;
      at = ap (slice_get stored.arrays.items) (sym h.number) ∙ r.1;
      size = r.2.size ∙ size;
      wide = zero_width (m.state.word h.instance) (decls_at tree h.instance) name r.0 r.2 ∙ first_width (decls_at tree h.instance) (m.state.word h.instance) e.width (word_count e.sizes) 0 array;
    }
