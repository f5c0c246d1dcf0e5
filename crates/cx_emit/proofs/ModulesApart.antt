-- No two modules of a source have one name.
use Rattle.std.proofs.Common.{◌≡◌, ◌⊎◌, inl, inr, ℕ, suc, ◌+◌, ◌<◌, ◌≤◌, ◌^◌, nat_eq, Bool, true, false, if◌then◌else◌, List, [], ◌∷◌, ◌++◌, length, map, get_or, refl, ap, sym, ◌∙◌, subst, arith}
use Rattle.std.specs.Prelude.{codes}
use Rattle.std.proofs.lemmas.Bool.{or_from, false_from_ne_true}
use Rattle.std.proofs.lemmas.Bool.Decides.{eqb_tells}
use Rattle.std.proofs.lemmas.List.{map-append}
use Rattle.cx_prim.specs.Table.{PrimitiveRow}
use Rattle.cx_vtree.specs.InstanceTree.{same_name}
use Rattle.cx_vtree.specs.Sound.{has_name}
use Rattle.cx_vlaws.proofs.Fresh.{has-append, Fresh, fresh_both}
use Rattle.cx_net.specs.Nets.{PlainNetComponent, PlainNet}
use Rattle.cx_emit.specs.Numbered.{numbered_from, with_numbers}
use Rattle.cx_emit.specs.Numbers.{AreFew}
use Rattle.cx_emit.specs.Names.{numbered, module_name, primitive_name}
use Rattle.cx_emit.specs.Signatures.{primitive_module}
use Rattle.cx_emit.specs.Sources.{component_module, source_of}
use Rattle.cx_emit.proofs.NameLaws.{numbered-injective}
use Rattle.cx_emit.proofs.PrimitiveNames.{primitive_other}
use Rattle.cx_emit.proofs.NetPrimitives.{names_of, names-modules, firsts-fresh, its_primitives}
use Rattle.cx_vtree.proofs.InstanceTreeLemmas.{same_is}

module _ (main : ℕ) where
  module_name-same : (i j : ℕ) → i < 2 ^ 64 → j < 2 ^ 64 → module_name main i ≡ module_name main j → i ≡ j
  module_name-same i j small less = by_main (nat_eq i main) (nat_eq j main) (eqb_tells i main) (eqb_tells j main) where
    by_main : (b d : Bool) → ((b ≡ true) × (i ≡ main)) ⊎ ((b ≡ false) × (i ≡ main → ⊥)) → ((d ≡ true) × (j ≡ main)) ⊎ ((d ≡ false) × (j ≡ main → ⊥))
        → (if b then codes "main" else numbered (codes "m") i) ≡ (if d then codes "main" else numbered (codes "m") j) → i ≡ j
    by_main true true (inl e) (inl f) same = e.1 ∙ sym f.1
    by_main true true (inr e) f same = let no = e.0 in absurd (cc)
    by_main true true (inl e) (inr f) same = let no = f.0 in absurd (cc)
    by_main true false e f same = let first : 109 ≡ 99 = ap (λ (n : List ℕ). get_or n 0 0) same in absurd (omega (arith, first))
    by_main false true e f same = let first : 99 ≡ 109 = ap (λ (n : List ℕ). get_or n 0 0) same in absurd (omega (arith, first))
    by_main false false e f same = numbered-injective (codes "m") i j small less same

  -- the modules of primitives have no name of a component's
  primitives_lack : (ps : List PrimitiveRow) (j : ℕ) → has_name (names_of ps) (module_name main j) ≡ false
  primitives_lack [] j = refl
  primitives_lack (p ∷ ps) j =
      or_from (same_name (primitive_name p) (module_name main j)) (has_name (names_of ps) (module_name main j))
      (false_from_ne_true (same_name (primitive_name p) (module_name main j)) (λ e. primitive_other p main j (same_is (primitive_name p) (module_name main j) e))) (primitives_lack ps j)

module _ (net : PlainNet) where
  -- what comes before names none of component k or behind it
  abbrev LacksFrom : ℕ → List (List ℕ) → Type 0
  LacksFrom k earlier = (j : ℕ) → k ≤ j → j < 2 ^ 64 → has_name earlier (module_name net.main j) ≡ false

  lacks_next : (k : ℕ) (earlier : List (List ℕ)) → k < 2 ^ 64 → LacksFrom k earlier → LacksFrom (suc k) (earlier ++ module_name net.main k ∷ [])
  lacks_next k earlier small lacks j from less =
      has-append earlier (module_name net.main k ∷ []) (module_name net.main j)
      ∙ or_from (has_name earlier (module_name net.main j)) (has_name (module_name net.main k ∷ []) (module_name net.main j)) (lacks j (omega (arith, from)) less)
      (or_from (same_name (module_name net.main k) (module_name net.main j)) false
      (false_from_ne_true (same_name (module_name net.main k) (module_name net.main j)) (λ e.
      let is : k ≡ j = module_name-same net.main k j small less (same_is (module_name net.main k) (module_name net.main j) e) in omega (arith, from, is))) refl)

  components_fresh : (k : ℕ) (parts : List PlainNetComponent) (earlier : List (List ℕ)) → k + length parts ≤ 2 ^ 64 → LacksFrom k earlier
      → Fresh earlier (map (λ x. x.name) (numbered_from (component_module net) k parts))
  components_fresh k [] earlier few lacks = tt
  components_fresh k (part ∷ parts) earlier few lacks =
      let small : k < 2 ^ 64 = omega (arith, few) in
      (lacks k (omega arith) small, components_fresh (suc k) parts (earlier ++ module_name net.main k ∷ []) (omega (arith, few)) (lacks_next k earlier small lacks))

  -- no two modules have one name
  pub modules-apart : AreFew net.components → Fresh [] (map (λ x. x.name) (source_of net).modules)
  modules-apart few =
      let components : List (List ℕ) = map (λ x. x.name) (with_numbers (component_module net) net.components) in
      subst (Fresh []) (sym (map-append (λ x. x.name) (map primitive_module (its_primitives net)) (with_numbers (component_module net) net.components) ∙ ap (λ ns. ns ++ components) (names-modules (its_primitives net))))
      (fresh_both [] (names_of (its_primitives net)) components (firsts-fresh [] _)
      (components_fresh 0 net.components (names_of (its_primitives net)) (omega (arith, few)) (λ j from less. primitives_lack net.main (its_primitives net) j)))
