-- The registers after an edge.
use Rattle.std.proofs.Common.{◌≡◌, ℕ, ◌+◌, Bool, true, false, List, [], ◌∷◌, Option, Some, None, zero, suc, option_and_then, option_map, slice_get, refl, ap, sym, ◌∙◌, subst, if◌then◌else◌}
use Rattle.std.specs.Option.{option_map_or}
use Rattle.std.proofs.lemmas.Option.{same_Some, slice_get_within}
use Rattle.cx_bits.specs.BitVector.{BitVector}
use Rattle.cx_vtree.specs.Plain.{PlainExpr, PlainAssign}
use Rattle.cx_vtree.specs.InstanceTree.{Placed, same_name, nets_at, Outside, Held, origin_of, assigned}
use Rattle.cx_vtree.specs.Meaning.{Moment, expr_at, outside_value}
use Rattle.cx_vtree.specs.Edges.{edge_at, acting_sets, number_or, register_after}
use Rattle.cx_vnets.specs.declared.codes.Code.{Code}
use Rattle.cx_vnets.specs.declared.codes.NetPosition.{NetPosition}
use Rattle.cx_vnets.specs.declared.edges.Set.{Set}
use Rattle.cx_vnets.specs.declared.nets.Stored.{Stored}
use Rattle.cx_vnets.specs.Arrays.{IsEven}
use Rattle.cx_vnets.specs.Fits.{width_at}
use Rattle.cx_vnets.specs.Edges.{code_of, numbered, after_sets, SetsFit}
use Rattle.cx_vnets.specs.Search.{SameWidths}
use Rattle.cx_vnets.specs.Widths.{HaveWidths}
use Rattle.cx_vtree.specs.NameNumbers.{position}
use Rattle.cx_vnets.specs.Numbers.{nets_before, place_of, look_by}
use Rattle.cx_vnets.specs.Flat.{CodeStands}
use Rattle.cx_vnets.specs.Memory.{StoredStands}
use Rattle.cx_vnets.specs.EdgesFlat.{SetStands, SetsStand, AreApart, EdgesAreApart}
use Rattle.cx_vnets.proofs.Numbering.{number_at, number_once}
use Rattle.cx_vnets.proofs.FlatValues.{same_at}
use Rattle.cx_vnets.proofs.FlatSetSteps.{sets_keep, sets_give}
use Rattle.cx_vtree.proofs.InstanceTreeLemmas.{same_is, same_self}

-- an assignment of a name is found
assigned_there : (xs : List PlainAssign) (j : ℕ) (a : PlainAssign) (name : List ℕ) → slice_get xs j ≡ Some a → a.name ≡ name → assigned xs name ≡ None → ⊥
assigned_there [] j a name at is e = cc
assigned_there (x ∷ xs) zero a name at is e =
    let first : x ≡ a = same_Some x a at in
    let t : same_name x.name name ≡ true = subst (λ n. same_name n name ≡ true) (sym (ap (λ y. y.name) first ∙ is)) (same_self name) in
    let here = ap (λ b. if b then Some x.value else assigned xs name) t in
    let never = sym here ∙ e in cc
assigned_there (x ∷ xs) (suc j) a name at is e = go (same_name x.name name) (assigned_there xs j a name at is) e
  where
    go : (t : Bool) → (assigned xs name ≡ None → ⊥) → (if t then Some x.value else assigned xs name) ≡ None → ⊥
    go true later e = cc
    go false later e = later e

-- where it is found
assigned_here : (xs : List PlainAssign) (name : List ℕ) (e : PlainExpr) → assigned xs name ≡ Some e
    → (j : ℕ) × (a : PlainAssign) × (slice_get xs j ≡ Some a) × (a.name ≡ name) × (a.value ≡ e)
assigned_here [] name e f = absurd (cc)
assigned_here (x ∷ xs) name e f = go (same_name x.name name) refl (assigned_here xs name e) f
  where
    go : (t : Bool) → same_name x.name name ≡ t → (assigned xs name ≡ Some e → (j : ℕ) × (a : PlainAssign) × (slice_get xs j ≡ Some a) × (a.name ≡ name) × (a.value ≡ e))
        → (if t then Some x.value else assigned xs name) ≡ Some e → (j : ℕ) × (a : PlainAssign) × (slice_get (x ∷ xs) j ≡ Some a) × (a.name ≡ name) × (a.value ≡ e)
    go true is later f = (0, x, refl, same_is x.name name is, same_Some x.value e f)
    go false is later f = let r = later f in (suc r.0, r.1, r.2, r.3, r.4)

module _ (tree : List Placed) (values : List BitVector) where
  pub look_same : (j : ℕ) (name : List ℕ) (h : ℕ) → position (nets_at tree j) name ≡ Some h → look_by tree values j name ≡ slice_get values (nets_before tree j + h)
  look_same j name h e = ap (λ o. option_and_then (slice_get values) (option_map (λ k. nets_before tree j + k) o)) e

module _ (tree : List Placed) (m : Moment) (table : List Code) (values : List BitVector) (s : Stored) (memory : StoredStands tree m s) where
  -- a code of an instance has the value of its expression
  pub code_given : (i c : ℕ) (e : PlainExpr) (p : NetPosition) → p ≡ place_of tree i → CodeStands tree table i c e
      → numbered table values s.arrays.items p c ≡ expr_at tree m (look_by tree values) i e
  code_given i c e p is h =
      ap (λ q. numbered table values s.arrays.items q c) is
      ∙ sym (same_at tree m s memory (look_by tree values) (slice_get values) (look_same tree values) table i c e h)

module _ (tree : List Placed) (m : Moment) (table : List Code) (values : List BitVector) (s : Stored) (sets : List Set)
    (memory : StoredStands tree m s) (apart : AreApart tree) (edges : EdgesAreApart tree) (stands : SetsStand tree table m.reset sets) where
  abbrev acting : ℕ → List PlainAssign
  acting i = acting_sets m.reset (edge_at tree i)

  abbrev given : ℕ → PlainExpr → Option BitVector
  given i e = expr_at tree m (look_by tree values) i e

  abbrev number : Set → Option BitVector
  number x = numbered table values s.arrays.items x.place x.code

  abbrev nets_after : List BitVector
  nets_after = after_sets table values s.arrays.items sets s.nets.items

  number_same : (i : ℕ) (a : PlainAssign) (x : Set) → SetStands tree table i a x → number x ≡ given i a.value
  number_same i a x h = code_given tree m table values s memory i x.code a.value x.place h.place h.code

  -- the assignment of a set
  set_of : (i k : ℕ) (name : List ℕ) (h : ℕ) (x : Set) → slice_get (nets_at tree i) k ≡ Some name → slice_get sets h ≡ Some x → x.net ≡ nets_before tree i + k
      → (j : ℕ) × (a : PlainAssign) × (slice_get (acting i) j ≡ Some a) × (a.name ≡ name) × SetStands tree table i a x
  set_of i k name h x there at is =
      let r = stands.only h x at in
      let p = number_at (nets_at tree) r.0 r.2.name x.net r.4.net in
      let same = number_once (nets_at tree) r.0 p.0 i k r.2.name name p.1 there (p.2 ∙ is) in
      (r.1, r.2, subst (λ z. slice_get (acting z) r.1 ≡ Some r.2) same.0 r.3, same.2, subst (λ z. SetStands tree table z r.2 x) same.0 r.4)

  -- all sets of a register give it the value of its assignment
  module _ (i k : ℕ) (name : List ℕ) (there : slice_get (nets_at tree i) k ≡ Some name) (j : ℕ) (a : PlainAssign) (at : slice_get (acting i) j ≡ Some a) (is : a.name ≡ name) where
    all_same : (h : ℕ) (x : Set) → slice_get sets h ≡ Some x → x.net ≡ nets_before tree i + k → number x ≡ given i a.value
    all_same h x here net =
        let r = set_of i k name h x there here net in
        let place = edges.sets m.reset i r.0 j r.1 a r.2 at (r.3 ∙ sym is) in
        let one : r.1 ≡ a = same_Some r.1 a (sym r.2 ∙ ap (slice_get (acting i)) place ∙ at) in
        number_same i r.1 x r.4 ∙ ap (λ b. given i b.value) one

    set_net : (x : Set) → SetStands tree table i a x → x.net ≡ nets_before tree i + k
    set_net x h =
        let p = number_at (nets_at tree) i a.name x.net h.net in
        let place = apart.nets i p.0 k name (p.1 ∙ ap Some is) there in
        sym p.2 ∙ ap (λ z. nets_before tree i + z) place

  -- a net that is no register keeps what it has
  pub input_same : (i k : ℕ) (name : List ℕ) → slice_get (nets_at tree i) k ≡ Some name → origin_of tree i name ≡ Some Outside
      → slice_get nets_after (nets_before tree i + k) ≡ Some (outside_value m name)
  input_same i k name there out =
      sets_keep table values s.arrays.items sets s.nets.items (nets_before tree i + k)
      (λ h x at is.
      let r = set_of i k name h x there at is in
      let held = edges.registers m.reset i r.0 r.1 r.2 in
      let never = sym out ∙ ap (origin_of tree i) (sym r.3) ∙ held.1 in
      absurd (cc))
      ∙ memory.inputs i k name there out

  module _ (have : HaveWidths) (even : IsEven s.arrays.items) (widths : SameWidths values s.nets.items) (fits : SetsFit table values s.arrays.items sets) where
    module _ (i k w : ℕ) (name : List ℕ) (there : slice_get (nets_at tree i) k ≡ Some name) (held : origin_of tree i name ≡ Some (Held w)) where
      abbrev old : ℕ
      old = m.state.register i name

      before : slice_get s.nets.items (nets_before tree i + k) ≡ Some (record { width = w; value = old })
      before = memory.registers i k w name there held

      -- what a set gives has the register's width
      set_width : (h : ℕ) (x : Set) (v : BitVector) → slice_get sets h ≡ Some x → x.net ≡ nets_before tree i + k → number x ≡ Some v → v.width ≡ w
      set_width h x v at net gives =
          let r = fits h x at in
          let value : code_of values s.arrays.items x.place r.0 ≡ Some v = sym (ap (option_and_then (code_of values s.arrays.items x.place)) r.1) ∙ gives in
          let wide = have values s.arrays.items x.place r.0 r.2.0 v even r.2.1 value in
          let register : Some r.2.0 ≡ Some w = sym r.2.2 ∙ ap (width_at values) net ∙ widths (nets_before tree i + k) ∙ ap (option_map (λ (b : BitVector). b.width)) before in
          wide ∙ same_Some r.2.0 w register

      by_value : (j : ℕ) (a : PlainAssign) → slice_get (acting i) j ≡ Some a → a.name ≡ name → (o : Option BitVector) → given i a.value ≡ o
          → slice_get nets_after (nets_before tree i + k) ≡ Some (record { width = w; value = number_or old o })
      by_value j a at is None gives =
          sets_keep table values s.arrays.items sets s.nets.items (nets_before tree i + k)
          (λ h x here net. all_same i k name there j a at is h x here net ∙ gives) ∙ before
      by_value j a at is (Some v) gives =
          let r = stands.each i j a at in
          let net = set_net i k name there j a at is r.1 r.3 in
          let same : (h : ℕ) (x : Set) → slice_get sets h ≡ Some x → x.net ≡ nets_before tree i + k → number x ≡ Some v = λ h x here is'. all_same i k name there j a at is h x here is' ∙ gives in
          sets_give table values s.arrays.items sets s.nets.items (nets_before tree i + k) r.0 r.1 v same
          (slice_get_within s.nets.items (nets_before tree i + k) (record { width = w; value = old }) before) r.2 net
          ∙ ap (λ u. Some (record { width = u; value = v.value })) (set_width r.0 r.1 v r.2 net (same r.0 r.1 r.2 net))

      by_assigned : (o : Option PlainExpr) → assigned (acting i) name ≡ o
          → slice_get nets_after (nets_before tree i + k) ≡ Some (record { width = w; value = option_map_or (λ e. number_or old (given i e)) o old })
      by_assigned None is =
          sets_keep table values s.arrays.items sets s.nets.items (nets_before tree i + k)
          (λ h x at net. let r = set_of i k name h x there at net in absurd (assigned_there (acting i) r.0 r.1 name r.2 r.3 is)) ∙ before
      by_assigned (Some e) is =
          let r = assigned_here (acting i) name e is in
          by_value r.0 r.1 r.2 r.3 (given i r.1.value) refl
          ∙ ap (λ x. Some (record { width = w; value = number_or old (given i x) })) r.4

      pub register_same : slice_get nets_after (nets_before tree i + k) ≡ Some (record { width = w; value = register_after tree m (look_by tree values) i name })
      register_same = by_assigned (assigned (acting i) name) refl
