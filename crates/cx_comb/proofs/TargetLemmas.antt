-- The nodes that groups drive, and the edges to marked nodes, one after the other.
use Rattle.std.proofs.Common.{◌≡◌, ℕ, zero, suc, ◌+◌, ◌<◌, ◌⊎◌, inl, inr, ⊎_elim, Bool, Some, None, List, [], ◌∷◌, ◌++◌, length, refl, sym, ap, ◌∙◌, subst, arith}
use Rattle.std.proofs.lemmas.List.{length-append, length-map}
use Rattle.std.specs.declared.vec.Vec.{Vec}
use Rattle.cx_text.proofs.ListLaws.{there_below}
use Rattle.cx_text.proofs.MemberLaws.{in_left}
use Rattle.cx_graphs.specs.Graphs.{Edges, edges_of, targets_of, Marked}
use Rattle.cx_graphs.proofs.Lists.{get_last, in_last, the_last}
use Rattle.cx_meaning.specs.Designs.{PlainAssign, PlainGroup}
use Rattle.cx_meaning.specs.Instances.{Instance}
use Rattle.cx_text.specs.Members.{In}
use Rattle.cx_design_leads.specs.Nodes.{node_count}
use Rattle.cx_design_leads.specs.Links.{driven_node}
use Rattle.cx_comb.specs.Owning.{AreTargetLists}
use Rattle.cx_comb.specs.Pruning.{AddsTargets, HasTargets, AreMarked, IsKept}
use Rattle.cx_text.proofs.OptionLaws.{some_is, none_some}
use Rattle.cx_text.proofs.NumberLaws.{same_or_not}

module _ (i : Instance) where
  pub no_targets : (before : List ℕ) → AddsTargets i [] before before
  no_targets before = record { kept = λ m j. j; within = λ m j. inl j; all = λ a m j e. absurd j }

  pub no_target : (a : PlainAssign) (before : List ℕ) → driven_node i a.target ≡ None → AddsTargets i (a ∷ []) before before
  no_target a before none = record {
    kept = λ m j. j;
    within = λ m j. inl j;
    all = λ b m j e. ⊎_elim (λ same. absurd (none_some m (sym none ∙ ap (λ (x : PlainAssign). driven_node i x.target) same ∙ e))) (λ k. absurd k) j;
  }

  pub one_target : (a : PlainAssign) (before after : List ℕ) (t : ℕ) → driven_node i a.target ≡ Some t → t < node_count i → after ≡ before ++ t ∷ [] → AddsTargets i (a ∷ []) before after
  one_target a before after t some below e = record {
    kept = λ m j. subst (λ l. In l m) (sym e) (in_left before (t ∷ []) m j);
    within = λ m j. ⊎_elim inl (λ same. inr (subst (λ n. n < node_count i) same below)) (in_last before t m (subst (λ l. In l m) e j));
    all = λ b m j f. ⊎_elim
        (λ same. let is : t ≡ m = some_is t m (sym some ∙ ap (λ (x : PlainAssign). driven_node i x.target) same ∙ f) in
        subst (λ l. In l m) (sym e) (subst (In (before ++ t ∷ [])) is (the_last before t)))
        (λ k. absurd k) j;
  }

  pub more_targets : (list more : List PlainAssign) (a : PlainAssign) (before mid after : List ℕ) → ((b : PlainAssign) → In more b → In list b ⊎ (a ≡ b))
      → AddsTargets i list before mid → AddsTargets i (a ∷ []) mid after → AddsTargets i more before after
  more_targets list more a before mid after split x y = record {
    kept = λ m j. y.kept m (x.kept m j);
    within = λ m j. ⊎_elim (λ k. x.within m k) inr (y.within m j);
    all = λ b m j e. ⊎_elim (λ k. y.kept m (x.all b m k e)) (λ same. y.all b m (inl same) e) (split b j);
  }

  pub none_yet : HasTargets i [] []
  none_yet = record { within = λ m j. absurd j; all = λ g a m j k e. absurd j }

  pub more_groups : (list more : List PlainGroup) (g : PlainGroup) (before after : List ℕ) → ((h : PlainGroup) → In more h → In list h ⊎ (g ≡ h))
      → HasTargets i list before → AddsTargets i g.assigns before after → HasTargets i more after
  more_groups list more g before after split x y = record {
    within = λ m j. ⊎_elim (λ k. x.within m k) (λ h. h) (y.within m j);
    all = λ h a m j k e. ⊎_elim (λ l. y.kept m (x.all h a m l k e)) (λ same. y.all a m (subst (λ (v : PlainGroup). In v.assigns a) (sym same) k) e) (split h j);
  }

-- MARKED nodes
pub none_marked : (marks : List Bool) → AreMarked [] marks []
none_marked marks = record { sound = λ n i. i; all = λ n i m. i }

pub more_marked : (marks : List Bool) (list before after : List ℕ) (node : ℕ) → AreMarked list marks before → ((n : ℕ) → In before n → In after n)
    → ((n : ℕ) → In after n → In before n ⊎ (node ≡ n)) → (Marked marks node → In after node) → AreMarked (list ++ node ∷ []) marks after
more_marked marks list before after node x kept known has = record {
  sound = λ n i. ⊎_elim
      (λ j. in_left list (node ∷ []) n (x.sound n j))
      (λ same. subst (In (list ++ node ∷ [])) same (the_last list node))
      (known n i);
  all = λ n i m. ⊎_elim (λ j. kept n (x.all n j m)) (λ same. subst (In after) same (has (subst (Marked marks) (sym same) m))) (in_last list node n i);
}

-- KEPT edges, list by list
snoc_at : {A : Type 0} (xs : List (Vec ℕ A)) (x : Vec ℕ A) → targets_of (edges_of (xs ++ x ∷ [])) (length xs) ≡ x.items
snoc_at [] x = refl
snoc_at (y ∷ xs) x = snoc_at xs x

snoc_other : {A : Type 0} (xs : List (Vec ℕ A)) (x : Vec ℕ A) (m : ℕ) → (m ≡ length xs → ⊥) → targets_of (edges_of (xs ++ x ∷ [])) m ≡ targets_of (edges_of xs) m
snoc_other [] x zero d = absurd (d refl)
snoc_other [] x (suc m) d = refl
snoc_other (y ∷ xs) x zero d = refl
snoc_other (y ∷ xs) x (suc m) d = snoc_other xs x m (λ e. d (ap suc e))

-- the edges of the first nodes to marked ones
pub record IsKeptSo (g : Edges) (marks : List Bool) (count : ℕ) (kept : Edges) : Type 0 where
  pub same_length : length kept ≡ count
  pub sound : (m n : ℕ) → In (targets_of kept m) n → In (targets_of g m) n
  pub all : (m n : ℕ) → m < count → In (targets_of g m) n → Marked marks n → In (targets_of kept m) n

pub none_kept : (g : Edges) (marks : List Bool) → IsKeptSo g marks 0 []
none_kept g marks = record { same_length = refl; sound = λ m n i. absurd i; all = λ m n h i k. absurd (omega (arith, h)) }

pub more_kept : {A : Type 0} (g : Edges) (marks : List Bool) (count : ℕ) (xs after : List (Vec ℕ A)) (x : Vec ℕ A) → after ≡ xs ++ x ∷ [] → IsKeptSo g marks count (edges_of xs)
    → AreMarked (targets_of g count) marks x.items → IsKeptSo g marks (count + 1) (edges_of after)
more_kept g marks count xs after x e k are = subst (λ l. IsKeptSo g marks (count + 1) (edges_of l)) (sym e) (record {
  same_length = let short = k.same_length in omega (arith, short, length-map xs (λ v. v.items), length-map (xs ++ x ∷ []) (λ v. v.items), length-append xs (x ∷ []));
  sound = λ m n i. ⊎_elim
      (λ same. subst (λ j. In (targets_of g j) n) (long ∙ sym same)
      (are.sound n (subst (λ l. In l n) (snoc_at xs x) (subst (λ j. In (targets_of (edges_of (xs ++ x ∷ [])) j) n) same i))))
      (λ d. k.sound m n (subst (λ l. In l n) (snoc_other xs x m d) i))
      (same_or_not m (length xs));
  all = λ m n h i marked. ⊎_elim
      (λ same. subst (λ j. In (targets_of (edges_of (xs ++ x ∷ [])) j) n) (sym same)
      (subst (λ l. In l n) (sym (snoc_at xs x)) (are.all n (subst (λ j. In (targets_of g j) n) (same ∙ sym long) i) marked)))
      (λ d. subst (λ l. In l n) (sym (snoc_other xs x m d)) (k.all m n (omega (arith, h, d, long)) i marked))
      (same_or_not m (length xs));
})
  where
    long : count ≡ length xs
    long = sym k.same_length ∙ length-map xs (λ v. v.items)

pub all_kept : (g : Edges) (marks : List Bool) (kept : Edges) → IsKeptSo g marks (length g) kept → ((m n : ℕ) → In (targets_of g m) n → m < length g) → IsKept g marks kept
all_kept g marks kept k within = record { same_length = k.same_length; sound = k.sound; all = λ m n i marked. k.all m n (within m n i) i marked }

-- the nodes that each group drives, group by group
pub no_lists : (i : Instance) → AreTargetLists i [] []
no_lists i = record { count = refl; within = λ k m j. absurd j; all = λ k g a m e j f. absurd (cc) }

pub more_lists : {A : Type 0} (i : Instance) (groups more : List PlainGroup) (g : PlainGroup) (xs after : List (Vec ℕ A)) (x : Vec ℕ A) → more ≡ groups ++ g ∷ [] → after ≡ xs ++ x ∷ []
    → AreTargetLists i groups (edges_of xs) → AddsTargets i g.assigns [] x.items → AreTargetLists i more (edges_of after)
more_lists i groups more g xs after x same e are adds = subst (λ l. AreTargetLists i l (edges_of after)) (sym same) (subst (λ l. AreTargetLists i (groups ++ g ∷ []) (edges_of l)) (sym e) (record {
  count = let so_far = are.count in omega (arith, so_far, length-map xs (λ v. v.items), length-map (xs ++ x ∷ []) (λ v. v.items), length-append xs (x ∷ []), length-append groups (g ∷ []));
  within = λ k m j. ⊎_elim
      (λ last. ⊎_elim (λ none. absurd none) (λ below. below) (adds.within m (subst (λ l. In l m) (snoc_at xs x) (subst (λ n. In (targets_of (edges_of (xs ++ x ∷ [])) n) m) last j))))
      (λ d. are.within k m (subst (λ l. In l m) (snoc_other xs x k d) j))
      (same_or_not k (length xs));
  all = λ k h a m f j drives. ⊎_elim
      (λ earlier. let below = there_below groups k h earlier in
      let other : k ≡ length xs → ⊥ = λ last. omega (arith, last, below, long) in
      subst (λ l. In l m) (sym (snoc_other xs x k other)) (are.all k h a m earlier j drives))
      (λ last. subst (λ n. In (targets_of (edges_of (xs ++ x ∷ [])) n) m) (long ∙ sym last.0)
      (subst (λ l. In l m) (sym (snoc_at xs x)) (adds.all a m (subst (λ (v : PlainGroup). In v.assigns a) (sym last.1) j) drives)))
      (get_last groups g h k f);
}))
  where
    long : length xs ≡ length groups
    long = sym (length-map xs (λ v. v.items)) ∙ are.count
