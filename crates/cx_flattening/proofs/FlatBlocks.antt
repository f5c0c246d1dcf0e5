-- A STATIC COMPONENT THAT KEEPS THE RULES, flat, drives its own cells and outputs alone.
use Rattle.std.proofs.Common.{◌≡◌, ℕ, zero, suc, ◌+◌, ◌<◌, ◌≤◌, inl, inr, ⊎_elim, Bool, true, false, List, [], ◌∷◌, length, map, get_or, Option, Some, None, refl, sym, ap, ◌∙◌, subst, arith}
use Rattle.std.specs.Prelude.{◌-◌, ◌||◌, flat_map}
use Rattle.std.proofs.lemmas.Bool.{cases_lt}
use Rattle.std.proofs.lemmas.List.{get_or_append_left, get_or-append-add, get_or-map, length-map, length-append}
use Rattle.cx_text.proofs.MemberLaws.{image_in, in_either}
use Rattle.cx_meaning.specs.declared.ports.PortRef.{PortRef}
use Rattle.cx_meaning.specs.declared.ports.PortRef.TheVariants as ports
use Rattle.cx_meaning.specs.Designs.{PlainAssign, PlainGroup, PlainComponent, group_at, no_group}
use Rattle.cx_meaning.specs.Instances.{Node, Cells, no_cells, a_primitive, an_instance, Nothing, cell_at}
use Rattle.cx_meaning.specs.Control.{groups_of}
use Rattle.cx_meaning.specs.Islands.{group_length}
use Rattle.cx_text.specs.Members.{In}
use Rattle.cx_rules.specs.Footprints.{AssignNames}
use Rattle.cx_rules.specs.ShapeRules.{is_hole, some_target}
use Rattle.cx_rules.specs.CallShape.{write_en_of}
use Rattle.cx_rules.specs.Items.{InStatic}
use Rattle.cx_rules.specs.Counts.{is_one_of}
use Rattle.cx_rules.specs.Wellformed.{IsThere, IsCapture, takes, enables}
use Rattle.cx_text.proofs.BoolLaws.{or_left}
use Rattle.cx_rewrites.specs.Moving.{moved_assign, moved_group}
use Rattle.cx_rewrites.proofs.ReflectLemmas.{names_back}
use Rattle.cx_flattening.specs.Events.{the_invoke, source_to}
use Rattle.cx_flattening.specs.Flattened.{Kids, kid_at, port_if, own_port, child_port, always_if, always_from, copies, flat_component, flat_kids}
use Rattle.cx_flattening.specs.Targets.{OwnTarget, BlockTarget, AllUsed, IsBlock}
use Rattle.cx_flattening.specs.Fair.{IsFair}
use Rattle.cx_flattening.specs.Controlled.{timed_of}
use Rattle.cx_flattening.proofs.CellLayout.{kept_inside}
use Rattle.cx_flattening.proofs.Standing.{in_flat_cells}
use Rattle.cx_flattening.proofs.PortLemmas.{own-kept, InBlock, in_block}
use Rattle.cx_flattening.proofs.StillPorts.{IsCopied, all_copied}
use Rattle.cx_flattening.proofs.FlatGroups.{in_one_of, one_of_in}
use Rattle.cx_flattening.proofs.FlatOrigins.{Origin, of_own, capturing, copied, origin, copy_there, own_there}
use Rattle.cx_flattening.proofs.Ruled.{IsRuled}
use Rattle.cx_flattening.proofs.FairParts.{HasCells, fair_part, drives_own, invoke_there, group_there, timed_there, control_long, one_timed, some_of}

-- a continuous assignment of a static child among those of all
pub record IsAlways (kids : Kids) (part : PlainComponent) (first : ℕ) (ks : Kids) (a : PlainAssign) : Type 0 where
  pub cell : ℕ
  pub child : PlainComponent
  pub its : kid_at ks cell ≡ Some child
  pub assign : PlainAssign
  pub among : In child.always assign
  pub is : moved_assign (child_port kids part child (first + cell) (λ n. ports.Input n)) assign ≡ a

pub kid_always : (kids : Kids) (part : PlainComponent) (first : ℕ) (ks : Kids) (a : PlainAssign) → In (always_from kids part first ks) a → IsAlways kids part first ks a
kid_always kids part first [] a i = absurd i
kid_always kids part first (k ∷ ks) a i = ⊎_elim (λ j. here k j) (λ j. later (kid_always kids part (suc first) ks a j)) (in_either (always_if kids part k first) (always_from kids part (suc first) ks) a i)
  where
    plus_zero : (n : ℕ) → n ≡ n + 0
    plus_zero n = omega arith

    plus : (m n : ℕ) → suc m + n ≡ m + suc n
    plus m n = omega arith

    here : (o : Option PlainComponent) → In (always_if kids part o first) a → IsAlways kids part first (o ∷ ks) a
    here None j = absurd j
    here (Some child) j =
        let r = image_in (moved_assign (child_port kids part child first (λ n. ports.Input n))) child.always a j in
        record {
          cell = 0;
          child = child;
          its = refl;
          assign = r.0;
          among = r.1;
          is = ap (λ c. moved_assign (child_port kids part child c (λ n. ports.Input n)) r.0) (sym (plus_zero first)) ∙ r.2;
        }

    later : IsAlways kids part (suc first) ks a → IsAlways kids part first (k ∷ ks) a
    later h = record {
      cell = suc h.cell;
      child = h.child;
      its = h.its;
      assign = h.assign;
      among = h.among;
      is = ap (λ c. moved_assign (child_port kids part h.child c (λ n. ports.Input n)) h.assign) (sym (plus first h.cell)) ∙ h.is;
    }

pub kid_there : (cells : Cells) (c : ℕ) (child : PlainComponent) → kid_at (flat_kids cells) c ≡ Some child → cell_at cells c ≡ Nothing → ⊥
kid_there no_cells c child e none = cc
kid_there (a_primitive row rest) zero child e none = cc
kid_there (a_primitive row rest) (suc c) child e none = kid_there rest c child e none
kid_there (an_instance other rest) zero child e none = cc
kid_there (an_instance other rest) (suc c) child e none = kid_there rest c child e none

no_hole_in : (assigns : List PlainAssign) (a : PlainAssign) (g : ℕ) → some_target is_hole assigns ≡ false → In assigns a → a.target ≡ ports.Done g → ⊥
no_hole_in [] a g none i e = i
no_hole_in (x ∷ xs) a g none (inl same) e =
    let some : some_target is_hole (x ∷ xs) ≡ true = or_left (is_hole x.target) (some_target is_hole xs) (ap (λ (y : PlainAssign). is_hole y.target) same ∙ ap is_hole e) in
    cc
no_hole_in (x ∷ xs) a g none (inr j) e = no_hole_in xs a g (rest (is_hole x.target) (some_target is_hole xs) none) j e
  where
    rest : (b c : Bool) → (b || c) ≡ false → c ≡ false
    rest true c h = absurd (cc)
    rest false c h = h

module _ (part : PlainComponent) (cells : Cells) (ruled : IsRuled part (Node part cells)) (has : HasCells part cells)
    (blocks : (c : ℕ) (child : PlainComponent) → kid_at (flat_kids cells) c ≡ Some child → IsBlock child) (latency : ℕ) (static : part.latency ≡ Some latency) where
  abbrev kids : Kids
  kids = flat_kids cells

  abbrev K : PlainComponent
  K = flat_component kids part

  fair : IsFair (Node part cells)
  fair = fair_part part cells ruled has blocks

  kid_inside : (c : ℕ) (child : PlainComponent) → kid_at kids c ≡ Some child → c < length part.cells
  kid_inside c child e = has.within c (kid_there cells c child e)

  -- a port of a block is one of a cell of the flat component
  block_target : (c : ℕ) (child : PlainComponent) (x : PortRef) → kid_at kids c ≡ Some child → InBlock kids part child c x → BlockTarget K x
  block_target c child x e b = subst (BlockTarget K) (sym b.is) (in_flat_cells kids part c b.cell child (kid_inside c child e) e b.less)

  -- and so is a port that is kept, but for holes
  own_block : (q : PortRef) → OwnTarget kids part q → IsThere (Node part cells) q → ((g : ℕ) → q ≡ ports.Done g → ⊥) → BlockTarget K (own_port kids part q)
  own_block (ports.Cell c p) own there none = subst (BlockTarget K) (sym (own-kept kids part c p own.1)) (kept_inside kids part.cells c own.0 own.1)
  own_block (ports.Input n) own there none = absurd own
  own_block (ports.Output n) own there none = there
  own_block (ports.Done g) own there none = absurd (none g refl)
  own_block (ports.Literal w v) own there none = absurd own

  none_some : (g : ℕ) → ◌≡◌ {A = Option ℕ} None (Some g) → ⊥
  none_some g e = cc

  always_block : (a : PlainAssign) → In K.always a → BlockTarget K a.target
  always_block a i =
      ⊎_elim
      (λ j. let r = image_in (moved_assign (own_port kids part)) part.always a j in
      let is = ruled.assigns None r.0 r.1 in
      subst (λ (x : PlainAssign). BlockTarget K x.target) r.2 (own_block r.0.target (drives_own part cells ruled has None r.0 r.1) is.target (λ g e. none_some g (is.own_hole g e))))
      (λ j. let h = kid_always kids part 0 kids a j in
      subst (λ (x : PlainAssign). BlockTarget K x.target) h.is
      (subst (λ c. BlockTarget K (child_port kids part h.child c (λ n. ports.Input n) h.assign.target)) (sym (zero_plus h.cell))
      (block_target h.cell h.child (child_port kids part h.child h.cell (λ n. ports.Input n) h.assign.target) h.its
      (in_block kids part h.child h.cell (λ n. ports.Input n) h.assign.target ((blocks h.cell h.child h.its).always h.assign h.among)))))
      (in_either (map (moved_assign (own_port kids part)) part.always) (always_from kids part 0 kids) a i)
    where
      zero_plus : (n : ℕ) → 0 + n ≡ n
      zero_plus n = omega arith

  -- what is moved to an input is one
  own_input : (q : PortRef) (n : ℕ) → own_port kids part q ≡ ports.Input n → q ≡ ports.Input n
  own_input (ports.Cell c p) n e = by (kid_at kids c) e
    where
      by : (o : Option PlainComponent) → port_if kids part o c p ≡ ports.Input n → ports.Cell c p ≡ ports.Input n
      by None f = absurd (cc)
      by (Some child) f = absurd (cc)
  own_input (ports.Input m) n e = e
  own_input (ports.Output m) n e = absurd (cc)
  own_input (ports.Done g) n e = absurd (cc)
  own_input (ports.Literal w v) n e = absurd (cc)

  child_input : (child : PlainComponent) (c : ℕ) (q : PortRef) (n : ℕ) → child_port kids part child c (λ m. ports.Input m) q ≡ ports.Input n → q ≡ ports.Input n
  child_input child c (ports.Cell d p) n e = absurd (cc)
  child_input child c (ports.Input m) n e = e
  child_input child c (ports.Output m) n e = absurd (cc)
  child_input child c (ports.Done g) n e = absurd (cc)
  child_input child c (ports.Literal w v) n e = absurd (cc)

  no_input : (a : PlainAssign) (n : ℕ) → In K.always a → AssignNames a (ports.Input n) → ⊥
  no_input a n i names =
      ⊎_elim
      (λ j. let r = image_in (moved_assign (own_port kids part)) part.always a j in
      let q = names_back (own_port kids part) r.0 (ports.Input n) (subst (λ x. AssignNames x (ports.Input n)) (sym r.2) names) in
      ruled.kept latency r.0 n static r.1 (subst (AssignNames r.0) (own_input q.0 n q.1) q.2))
      (λ j. let h = kid_always kids part 0 kids a j in
      let q = names_back (child_port kids part h.child (0 + h.cell) (λ m. ports.Input m)) h.assign (ports.Input n) (subst (λ x. AssignNames x (ports.Input n)) (sym h.is) names) in
      (blocks h.cell h.child h.its).no_input h.assign n h.among (subst (AssignNames h.assign) (child_input h.child (0 + h.cell) q.0 n q.1) q.2))
      (in_either (map (moved_assign (own_port kids part)) part.always) (always_from kids part 0 kids) a i)

  -- THE GROUPS that it enables are there
  there_by : (g : ℕ) → Origin kids part g (groups_of part.control) (timed_of part.control) → g < length K.groups
  there_by g (of_own i) = own_there kids part g (group_there part cells ruled has g i)
  there_by g (capturing j child i its e) =
      own_there kids part g ((ruled.invokes (the_invoke part j) (invoke_there part cells ruled has j (timed_there part cells ruled has j i))).captures g e).there
  there_by g (copied j h child i its k e) =
      subst (λ x. x < length K.groups) e
      (copy_there kids part j h child (timed_there part cells ruled has j i) its k
      ((blocks (the_invoke part j).cell child its).there h (in_one_of h (groups_of child.control) k)))

  enabled_there : (g : ℕ) → is_one_of g (groups_of K.control) ≡ true → g < length K.groups
  enabled_there g e = there_by g (origin kids part g part.control (one_of_in g (groups_of K.control) e))

  -- and drive what they may: those of the component
  capture_block : (c : ℕ) (a : PlainAssign) → IsCapture (Node part cells) c a → (g : ℕ) → a.target ≡ ports.Done g → ⊥
  capture_block c a (takes r q is target guard source) g e = absurd (let none : ports.Cell r 0 ≡ ports.Done g = sym target ∙ e in cc)
  capture_block c a (enables r is target guard source) g e = absurd (let none : write_en_of r ≡ ports.Done g = sym target ∙ e in cc)

  own_group : (g : ℕ) → g < length part.groups → Origin kids part g (groups_of part.control) (timed_of part.control)
      → (a : PlainAssign) → In (group_at part g).assigns a → (h : ℕ) → a.target ≡ ports.Done h → ⊥
  own_group g less (of_own i) a j h e =
      let n = some_of (group_length part g) (one_timed part cells ruled has InStatic part.control g (control_long part cells ruled has latency static) i) in
      no_hole_in (group_at part g).assigns a h (ruled.timed g n.0 less n.1) j e
  own_group g less (capturing k child i its f) a j h e =
      capture_block (the_invoke part k).cell a (((ruled.invokes (the_invoke part k) (invoke_there part cells ruled has k (timed_there part cells ruled has k i))).captures g f).assigns a j) h e
  own_group g less (copied k f child i its m same) a j h e = absurd (omega (arith, less, same))

  used_own : (g : ℕ) → g < length part.groups → is_one_of g (groups_of K.control) ≡ true → (a : PlainAssign) → In (moved_group (own_port kids part) (group_at part g)).assigns a → BlockTarget K a.target
  used_own g less used a i =
      let r = image_in (moved_assign (own_port kids part)) (group_at part g).assigns a i in
      let is = ruled.assigns (Some g) r.0 (less, r.1) in
      subst (λ (x : PlainAssign). BlockTarget K x.target) r.2
      (own_block r.0.target (drives_own part cells ruled has (Some g) r.0 (less, r.1)) is.target
      (λ h e. own_group g less (origin kids part g part.control (one_of_in g (groups_of K.control) used)) r.0 r.1 h e))

  -- and the copies
  copy_block : (x : PlainGroup) → In (flat_map (copies kids part) part.invokes) x → (a : PlainAssign) → In x.assigns a → BlockTarget K a.target
  copy_block x i a j =
      let c : IsCopied kids part a = all_copied kids part fair.targets part.invokes a x i j in
      block_target c.invoke.cell c.child a.target c.its
      (subst (InBlock kids part c.child c.invoke.cell) (sym c.is) (in_block kids part c.child c.invoke.cell (λ n. own_port kids part (source_to c.invoke.cell c.invoke.inputs n)) c.assign.target c.target))

  in_list : (xs : List PlainGroup) (n : ℕ) → n < length xs → In xs (get_or xs n no_group)
  in_list [] n less = absurd (omega (arith, less))
  in_list (x ∷ xs) zero less = inl refl
  in_list (x ∷ xs) (suc n) less = inr (in_list xs n (omega (arith, less)))

  used_at : (n : ℕ) → n < length K.groups → is_one_of n (groups_of K.control) ≡ true → (a : PlainAssign) → In (get_or K.groups n no_group).assigns a → BlockTarget K a.target
  used_at n less used a i =
      ⊎_elim
      (λ (l : n < length part.groups). used_own n l used a (subst (λ (x : PlainGroup). In x.assigns a) (at_own l) i))
      (λ (l : length part.groups ≤ n). copy_block (get_or (flat_map (copies kids part) part.invokes) (n - length part.groups) no_group)
      (in_list (flat_map (copies kids part) part.invokes) (n - length part.groups)
      (let all = length-append (map (moved_group (own_port kids part)) part.groups) (flat_map (copies kids part) part.invokes) in
      let front = length-map part.groups (moved_group (own_port kids part)) in omega (arith, l, less, all, front)))
      a (subst (λ (x : PlainGroup). In x.assigns a) (at_copy l) i))
      (cases_lt n (length part.groups))
    where
      at_own : n < length part.groups → get_or K.groups n no_group ≡ moved_group (own_port kids part) (group_at part n)
      at_own l =
          get_or_append_left (map (moved_group (own_port kids part)) part.groups) (flat_map (copies kids part) part.invokes) no_group n (let same = length-map part.groups (moved_group (own_port kids part)) in omega (arith, l, same))
          ∙ get_or-map (moved_group (own_port kids part)) part.groups n no_group no_group l

      at_copy : length part.groups ≤ n → get_or K.groups n no_group ≡ get_or (flat_map (copies kids part) part.invokes) (n - length part.groups) no_group
      at_copy l =
          ap (λ k. get_or K.groups k no_group)
          (let front = length-map part.groups (moved_group (own_port kids part)) in
          let e : n ≡ length (map (moved_group (own_port kids part)) part.groups) + (n - length part.groups) = omega (arith, l, front) in e)
          ∙ get_or-append-add (map (moved_group (own_port kids part)) part.groups) (flat_map (copies kids part) part.invokes) (n - length part.groups) no_group

  all_used : (P : PlainAssign → Type 0) (used : List ℕ) (first : ℕ) (xs : List PlainGroup)
      → ((n : ℕ) → n < length xs → is_one_of (first + n) used ≡ true → (a : PlainAssign) → In (get_or xs n no_group).assigns a → P a) → AllUsed P used first xs
  all_used P used first [] h = tt
  all_used P used first (x ∷ xs) h = (
    λ e a i. h 0 (omega arith) (ap (λ k. is_one_of k used) (let z : first + 0 ≡ first = omega arith in z) ∙ e) a i,
    all_used P used (suc first) xs (λ n less e a i. h (suc n) (omega (arith, less)) (ap (λ k. is_one_of k used) (let z : first + suc n ≡ suc first + n = omega arith in z) ∙ e) a i),
  )

  -- IT IS A BLOCK
  pub block_part : IsBlock K
  block_part = record {
    always = always_block;
    no_input = no_input;
    there = enabled_there;
    used = all_used (λ a. BlockTarget K a.target) (groups_of K.control) 0 K.groups
        (λ n less e a i. used_at n less (ap (λ k. is_one_of k (groups_of K.control)) (let z : n ≡ 0 + n = omega arith in z) ∙ e) a i);
  }
