-- A port of a flat component that no group drives: where no group drives the port that it stands for.
use Rattle.std.proofs.Common.{◌≡◌, ℕ, suc, ⊎_elim, inl, inr, Bool, true, false, List, [], ◌∷◌, map, Option, Some, None, refl, sym, ap, ◌∙◌, subst}
use Rattle.std.specs.Prelude.{flat_map}
use Rattle.std.proofs.lemmas.Bool.{cases_eq}
use Rattle.cx_text.proofs.MemberLaws.{image_in, in_either}
use Rattle.cx_meaning.specs.declared.ports.PortRef.{PortRef}
use Rattle.cx_meaning.specs.declared.ports.PortRef.TheVariants as ports
use Rattle.cx_meaning.specs.Designs.{PlainAssign, PlainGroup, PlainInvoke, PlainComponent}
use Rattle.cx_meaning.specs.Active.{same_port}
use Rattle.cx_meaning.specs.Control.{groups_of}
use Rattle.cx_text.specs.Members.{In}
use Rattle.cx_meaning.proofs.PortsLemmas.{same_self}
use Rattle.cx_rules.proofs.FoundLemmas.{same_is}
use Rattle.cx_rewrites.specs.Moving.{moved_assign, moved_group}
use Rattle.cx_flattening.specs.Events.{source_to}
use Rattle.cx_rules.specs.Counts.{is_one_of, group_if}
use Rattle.cx_flattening.specs.Copies.{copied_group, enabled_groups}
use Rattle.cx_flattening.specs.Flattened.{Kids, kid_at, own_port, child_port, invoke_port, copies_if, copies, flat_groups}
use Rattle.cx_flattening.specs.Targets.{OwnTarget, BlockTarget, AllUsed, HasTargets}
use Rattle.cx_flattening.specs.Levels.{IsStill}
use Rattle.cx_flattening.proofs.PortLemmas.{own_same, InBlock, in_block, own_apart, block_apart, child_same}

-- what a copy drives, and the assignment of the child that it copies
pub record IsCopied (kids : Kids) (part : PlainComponent) (a : PlainAssign) : Type 0 where
  pub invoke : PlainInvoke
  pub child : PlainComponent
  pub its : kid_at kids invoke.cell ≡ Some child
  pub group : PlainGroup
  pub among : In child.groups group
  pub assign : PlainAssign
  pub stands : In group.assigns assign
  pub target : BlockTarget child assign.target
  pub is : a.target ≡ invoke_port kids part child invoke assign.target

module _ (kids : Kids) (part : PlainComponent) (has : HasTargets kids part) where
  module _ (v : PlainInvoke) (child : PlainComponent) (its : kid_at kids v.cell ≡ Some child) (a : PlainAssign) where
    enabled_copied : (used : List ℕ) (g : ℕ) (xs : List PlainGroup) → ((y : PlainGroup) → In xs y → In child.groups y) → AllUsed (λ b. BlockTarget child b.target) used g xs
        → (x : PlainGroup) → In (map (copied_group (invoke_port kids part child v)) (enabled_groups used g xs)) x → In x.assigns a → IsCopied kids part a
    enabled_copied used g [] among all x i j = absurd i
    enabled_copied used g (y ∷ ys) among all x i j = choice (is_one_of g used) refl (λ k. enabled_copied used (suc g) ys (λ w m. among w (inr m)) all.1 x k j) i
      where
        choice : (b : Bool) → is_one_of g used ≡ b → (In (map (copied_group (invoke_port kids part child v)) (enabled_groups used (suc g) ys)) x → IsCopied kids part a)
            → In (map (copied_group (invoke_port kids part child v)) (group_if b y (enabled_groups used (suc g) ys))) x → IsCopied kids part a
        choice true e later (inl same) =
            let r = image_in (moved_assign (invoke_port kids part child v)) y.assigns a (subst (λ z. In z.assigns a) (sym same) j) in
            record { invoke = v; child = child; its = its; group = y; among = among y (inl refl); assign = r.0; stands = r.1; target = all.0 e r.0 r.1; is = ap (λ z. z.target) (sym r.2) }
        choice true e later (inr k) = later k
        choice false e later k = later k

  invoke_copied : (v : PlainInvoke) (a : PlainAssign) (x : PlainGroup) → In (copies kids part v) x → In x.assigns a → IsCopied kids part a
  invoke_copied v a x i j = choice (kid_at kids v.cell) refl i
    where
      choice : (o : Option PlainComponent) → kid_at kids v.cell ≡ o → In (copies_if kids part o v) x → IsCopied kids part a
      choice None e k = absurd k
      choice (Some child) e k = enabled_copied v child e a (groups_of child.control) 0 child.groups (λ y m. m) (has.blocks v.cell child e).used x k j

  pub all_copied : (vs : List PlainInvoke) (a : PlainAssign) (x : PlainGroup) → In (flat_map (copies kids part) vs) x → In x.assigns a → IsCopied kids part a
  all_copied [] a x i j = absurd i
  all_copied (v ∷ vs) a x i j = ⊎_elim (λ k. invoke_copied v a x k j) (λ k. all_copied vs a x k j) (in_either (copies kids part v) (flat_map (copies kids part) vs) x i)

  module _ (K : PlainComponent) (its_groups : K.groups ≡ flat_groups kids part) where
    -- of what is in a group of the flat component
    by_owner : (x : PlainGroup) (a : PlainAssign) → In K.groups x → In x.assigns a
        → ((y : PlainGroup) (b : PlainAssign) → In part.groups y → In y.assigns b → a.target ≡ own_port kids part b.target → ⊥) → (IsCopied kids part a → ⊥) → ⊥
    by_owner x a i j own copied =
        ⊎_elim
        (λ k. let r = image_in (moved_group (own_port kids part)) part.groups x k in
        let q = image_in (moved_assign (own_port kids part)) r.0.assigns a (subst (λ z. In z.assigns a) (sym r.2) j) in
        own r.0 q.0 r.1 q.1 (ap (λ z. z.target) (sym q.2)))
        (λ k. copied (all_copied part.invokes a x k j))
        (in_either (map (moved_group (own_port kids part)) part.groups) (flat_map (copies kids part) part.invokes) x (subst (λ l. In l x) its_groups i))

    pub own_still : (p : PortRef) → OwnTarget kids part p → ((x : PlainGroup) (a : PlainAssign) → In part.groups x → In x.assigns a → a.target ≡ p → ⊥) → IsStill K (own_port kids part p)
    own_still p own none x a i j e =
        by_owner x a i j
        (λ y b m n same.
        let alike : same_port b.target p ≡ true = sym (own_same kids part b.target p (has.groups y b m n) own) ∙ ap (λ t. same_port t (own_port kids part p)) (sym same ∙ e) ∙ same_self (own_port kids part p) in
        none y b m n (same_is b.target p alike))
        (λ c. own_apart kids part c.child c.invoke.cell p a.target own (subst (InBlock kids part c.child c.invoke.cell) (sym c.is) (in_block kids part c.child c.invoke.cell _ c.assign.target c.target)) (sym e))

    -- the maps of a block by different sources agree on what may be driven
    alike_block : (child : PlainComponent) (c : ℕ) (one other : ℕ → PortRef) (q : PortRef) → BlockTarget child q → child_port kids part child c one q ≡ child_port kids part child c other q
    alike_block child c one other (ports.Cell e p) h = refl
    alike_block child c one other (ports.Input n) h = absurd h
    alike_block child c one other (ports.Output n) h = refl
    alike_block child c one other (ports.Done g) h = absurd h
    alike_block child c one other (ports.Literal w v) h = absurd h

    pub block_still : (c : ℕ) (child : PlainComponent) → kid_at kids c ≡ Some child → (sources : ℕ → PortRef) (q : PortRef) → BlockTarget child q → IsStill child q → IsStill K (child_port kids part child c sources q)
    block_still c child its sources q there still x a i j e =
        by_owner x a i j
        (λ y b m n same. own_apart kids part child c b.target (child_port kids part child c sources q) (has.groups y b m n) (in_block kids part child c sources q there) (sym same ∙ e))
        (λ copied. ⊎_elim (same_cell copied) (λ apart. other_cell copied apart) (cases_eq copied.invoke.cell c))
      where
        other_cell : (copied : IsCopied kids part a) → (copied.invoke.cell ≡ c → ⊥) → ⊥
        other_cell copied apart =
            block_apart kids part copied.child child copied.invoke.cell c a.target (child_port kids part child c sources q) apart copied.its its
            (subst (InBlock kids part copied.child copied.invoke.cell) (sym copied.is) (in_block kids part copied.child copied.invoke.cell _ copied.assign.target copied.target)) (in_block kids part child c sources q there) e

        same_cell : (copied : IsCopied kids part a) → copied.invoke.cell ≡ c → ⊥
        same_cell copied at =
            let same : copied.child ≡ child = some_is copied.child child (sym copied.its ∙ ap (kid_at kids) at ∙ its) in
            let target : BlockTarget child copied.assign.target = subst (λ k. BlockTarget k copied.assign.target) same copied.target in
            let moved : child_port kids part child c sources copied.assign.target ≡ child_port kids part child c sources q =
            alike_block child c sources (λ n. own_port kids part (source_to copied.invoke.cell copied.invoke.inputs n)) copied.assign.target target
            ∙ ap (λ k. child_port kids part child k (λ n. own_port kids part (source_to copied.invoke.cell copied.invoke.inputs n)) copied.assign.target) (sym at)
            ∙ ap (λ k. invoke_port kids part k copied.invoke copied.assign.target) (sym same) ∙ sym copied.is ∙ e in
            let alike : same_port copied.assign.target q ≡ true =
            sym (child_same kids part child c sources copied.assign.target q target there) ∙ ap (λ t. same_port t (child_port kids part child c sources q)) moved ∙ same_self (child_port kids part child c sources q) in
            still copied.group copied.assign (subst (λ k. In k.groups copied.group) same copied.among) copied.stands (same_is copied.assign.target q alike)
          where
            some_is : (m n : PlainComponent) → Some m ≡ Some n → m ≡ n
            some_is m n f = cc
