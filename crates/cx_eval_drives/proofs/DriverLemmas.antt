-- Assignments added to the lists of their targets, one by one.
use Rattle.std.proofs.Common.{◌≤◌, ◌≡◌, ℕ, zero, suc, ◌+◌, ◌<◌, ⊎_elim, Bool, true, false, Some, None, List, [], ◌∷◌, ◌++◌, get_or, length, map, set, take, refl, sym, ap, ◌∙◌, subst, arith}
use Rattle.std.proofs.lemmas.Bool.{cases_lt}
use Rattle.std.specs.declared.vec.Vec.{Vec}
use Rattle.std.proofs.lemmas.List.{length-set, map-append, map-set, append-nil, get_or-map, get_or-set_same, get_or-set_other, length-append, take_more}
use Rattle.cx_meaning.specs.declared.ports.PortRef.{PortRef}
use Rattle.cx_meaning.specs.Active.{Owned, same_port, source_order}
use Rattle.cx_meaning.specs.Designs.{PlainDesign, component_at}
use Rattle.cx_meaning.specs.Instances.{Instance}
use Rattle.cx_rules.specs.Ports.{component_of}
use Rattle.cx_rules.proofs.FoundLemmas.{same_is}
use Rattle.cx_graphs.proofs.Lists.{some_is}
use Rattle.cx_design_parts.specs.declared.ordering.OwnedAssign.{OwnedAssign}
use Rattle.cx_design_parts.specs.Plain.{plain_owned}
use Rattle.cx_design_leads.specs.Nodes.{node_count, node_of}
use Rattle.cx_design_leads.proofs.NodeLemmas.{distinct}
use Rattle.cx_eval_drives.specs.Drives.{kept_if, owned_for}
use Rattle.cx_eval_drives.specs.Drivers.{ArePartDrivers, HaveDrivers, assigns_at, lists_of}
use Rattle.cx_meaning.proofs.PortsLemmas.{same_self}
use Rattle.cx_text.proofs.NumberLaws.{same_or_not}

-- one assignment more
kept_more : (b : Bool) (x : Owned) (xs ys : List Owned) → kept_if b x xs ++ ys ≡ kept_if b x (xs ++ ys)
kept_more true x xs ys = refl
kept_more false x xs ys = refl

owned_more : (p : PortRef) (xs : List Owned) (a : Owned) → owned_for p (xs ++ a ∷ []) ≡ owned_for p xs ++ kept_if (same_port a.assign.target p) a []
owned_more p [] a = refl
owned_more p (x ∷ xs) a = ap (kept_if (same_port x.assign.target p) x) (owned_more p xs a) ∙ sym (kept_more (same_port x.assign.target p) x (owned_for p xs) (kept_if (same_port a.assign.target p) a []))

-- an assignment of another port changes nothing
owned_other : (p : PortRef) (xs : List Owned) (a : Owned) → (a.assign.target ≡ p → ⊥) → owned_for p (xs ++ a ∷ []) ≡ owned_for p xs
owned_other p xs a d = owned_more p xs a ∙ choice (same_port a.assign.target p) refl
  where
    choice : (b : Bool) → same_port a.assign.target p ≡ b → owned_for p xs ++ kept_if b a [] ≡ owned_for p xs
    choice true e = absurd (d (same_is a.assign.target p e))
    choice false e = append-nil (owned_for p xs)

owned_same : (p : PortRef) (xs : List Owned) (a : Owned) → a.assign.target ≡ p → owned_for p (xs ++ a ∷ []) ≡ owned_for p xs ++ a ∷ []
owned_same p xs a e = owned_more p xs a ∙ ap (λ b. owned_for p xs ++ kept_if b a []) (ap (same_port a.assign.target) (sym e) ∙ same_self a.assign.target)

module _ (i : Instance) (xs : List Owned) (a : OwnedAssign) where
  pub none_added : (lists : List (List OwnedAssign)) → ArePartDrivers i xs lists → node_of i (plain_owned a).assign.target ≡ None → ArePartDrivers i (xs ++ plain_owned a ∷ []) lists
  none_added lists h none = record {
    count = h.count;
    each = λ n p e. h.each n p e ∙ sym (owned_other p xs (plain_owned a) (λ f. not_both (sym none ∙ ap (node_of i) f ∙ e)));
  }
    where
      not_both : {n : ℕ} → None ≡ Some n → ⊥
      not_both e = cc

  pub one_added : (lists more : List (List OwnedAssign)) (m : ℕ) → ArePartDrivers i xs lists → node_of i (plain_owned a).assign.target ≡ Some m → m < length lists
      → more ≡ set lists m (assigns_at lists m ++ a ∷ []) → ArePartDrivers i (xs ++ plain_owned a ∷ []) more
  one_added lists more m h some within is = subst (ArePartDrivers i (xs ++ plain_owned a ∷ [])) (sym is) (record {
    count = length-set lists m _ ∙ h.count;
    each = λ n p e. ⊎_elim (same_node n p e) (other_node n p e) (same_or_not m n);
  })
    where
      same_node : (n : ℕ) (p : PortRef) → node_of i p ≡ Some n → m ≡ n
          → map plain_owned (assigns_at (set lists m (assigns_at lists m ++ a ∷ [])) n) ≡ owned_for p (xs ++ plain_owned a ∷ [])
      same_node n p e same =
          let at : node_of i p ≡ Some m = e ∙ ap Some (sym same) in
          ap (λ k. map plain_owned (assigns_at (set lists m (assigns_at lists m ++ a ∷ [])) k)) (sym same)
          ∙ ap (map plain_owned) (get_or-set_same lists m _ [] within)
          ∙ map-append plain_owned (assigns_at lists m) (a ∷ [])
          ∙ ap (λ ys. ys ++ plain_owned a ∷ []) (h.each m p at)
          ∙ sym (owned_same p xs (plain_owned a) (distinct i (plain_owned a).assign.target p m some at))

      other_node : (n : ℕ) (p : PortRef) → node_of i p ≡ Some n → (m ≡ n → ⊥)
          → map plain_owned (assigns_at (set lists m (assigns_at lists m ++ a ∷ [])) n) ≡ owned_for p (xs ++ plain_owned a ∷ [])
      other_node n p e d =
          ap (map plain_owned) (get_or-set_other lists m n _ [] (λ f. d (sym f)))
          ∙ h.each n p e
          ∙ sym (owned_other p xs (plain_owned a) (λ f. d (some_is m n (sym some ∙ ap (node_of i) f ∙ e))))

-- at first there are none
pub bare_more : (lists more : List (List OwnedAssign)) (list : List OwnedAssign) → more ≡ lists ++ list ∷ [] → list ≡ [] → ((n : ℕ) → assigns_at lists n ≡ []) → (n : ℕ) → assigns_at more n ≡ []
bare_more lists more list e none h n = ap (λ xs. assigns_at xs n) (e ∙ ap (λ x. lists ++ x ∷ []) none) ∙ at_end lists n h
  where
    at_end : (lists : List (List OwnedAssign)) (n : ℕ) → ((n : ℕ) → assigns_at lists n ≡ []) → assigns_at (lists ++ [] ∷ []) n ≡ []
    at_end [] zero h = refl
    at_end [] (suc n) h = refl
    at_end (x ∷ lists) zero h = h zero
    at_end (x ∷ lists) (suc n) h = at_end lists n (λ k. h (suc k))

pub bare_lists : (i : Instance) (lists : List (List OwnedAssign)) → length lists ≡ node_count i → ((n : ℕ) → assigns_at lists n ≡ []) → ArePartDrivers i [] lists
bare_lists i lists count none = record { count = count; each = λ n p e. ap (map plain_owned) (none n) }

-- a component more
pub part_added : (d : PlainDesign) (n : ℕ) (parts more : List (List (List OwnedAssign))) (lists : List (List OwnedAssign)) → HaveDrivers d n parts → more ≡ parts ++ lists ∷ []
    → ArePartDrivers (component_of d n) (source_order (component_at d n)) lists → HaveDrivers d (n + 1) more
part_added d n parts more lists h e own = subst (HaveDrivers d (n + 1)) (sym e) (record {
  sized = length-append parts (lists ∷ []) ∙ ap (λ k. k + 1) h.sized;
  each = λ k lt. ⊎_elim
      (λ (l : k < n). subst (ArePartDrivers (component_of d k) (source_order (component_at d k))) (sym (front parts k (let s = h.sized in omega (arith, l, s)))) (h.each k l))
      (λ (l : n ≤ k). let same : n ≡ k = omega (arith, l, lt) in
      subst (λ j. ArePartDrivers (component_of d j) (source_order (component_at d j)) (get_or (parts ++ lists ∷ []) j [])) same
      (subst (ArePartDrivers (component_of d n) (source_order (component_at d n))) (sym (ap (λ j. get_or (parts ++ lists ∷ []) j []) (sym h.sized) ∙ last parts)) own))
      (cases_lt k n);
})
  where
    front : (xs : List (List (List OwnedAssign))) (k : ℕ) → k < length xs → get_or (xs ++ lists ∷ []) k [] ≡ get_or xs k []
    front [] k h = absurd (omega (arith, h))
    front (x ∷ xs) zero h = refl
    front (x ∷ xs) (suc k) h = front xs k (omega (arith, h))

    last : (xs : List (List (List OwnedAssign))) → get_or (xs ++ lists ∷ []) (length xs) [] ≡ lists
    last [] = refl
    last (x ∷ xs) = last xs

-- an assignment pushed to the list of a port
pub pushed : {A : Type 0} (ports : List (Vec OwnedAssign A)) (n : ℕ) (before after : Vec OwnedAssign A) (a : OwnedAssign) → n < length ports → before ≡ get_or ports n before
    → after.items ≡ before.items ++ a ∷ [] → lists_of (set ports n after) ≡ set (lists_of ports) n (assigns_at (lists_of ports) n ++ a ∷ [])
pushed ports n before after a lt is e =
    map-set (λ (v : Vec OwnedAssign _). v.items) ports n after
    ∙ ap (set (lists_of ports) n) (e ∙ ap (λ xs. xs ++ a ∷ []) (ap (λ (v : Vec OwnedAssign _). v.items) is ∙ sym (get_or-map (λ (v : Vec OwnedAssign _). v.items) ports n before [] lt)))

pub taken_more : (xs : List OwnedAssign) (n : ℕ) (x : OwnedAssign) → n < length xs → x ≡ get_or xs n x → map plain_owned (take (n + 1) xs) ≡ map plain_owned (take n xs) ++ plain_owned x ∷ []
taken_more xs n x lt is = ap (map plain_owned) (take_more xs n x lt ∙ ap (λ y. take n xs ++ y ∷ []) (sym is)) ∙ map-append plain_owned (take n xs) (x ∷ [])
