-- No line of any module of a net's source breaks a rule: the modules one after another, with those before them.
use Rattle.std.proofs.Common.{◌≡◌, ◌⊎◌, inl, inr, ℕ, zero, suc, ◌+◌, ◌<◌, ◌≤◌, ◌==◌, ◌||◌, Bool, true, false, List, [], ◌∷◌, ◌++◌, length, length-append, map, Some, None, slice_get, refl, ap, sym, ◌∙◌, subst, if◌then◌else◌, arith, append_assoc, append-nil, eq-eqb, ne_eqb, le-ltb}
use Rattle.std.specs.Prelude.{codes, nat_lt}
use Rattle.std.proofs.lemmas.Bool.{or_from, or_parts, cond-true, cond-false, cases_order}
use Rattle.std.proofs.lemmas.List.{map-append, length-map}
use Rattle.cx_text.proofs.ListLaws.{at_map}
use Rattle.cx_text.specs.Members.{Each}
use Rattle.cx_prim.specs.Table.{PrimitiveRow, HasRow, row_of}
use Rattle.cx_meaning.specs.Designs.{PlainKind, OfPrimitive, OfComponent, PlainCell}
use Rattle.cx_vtree.specs.Plain.{PlainModule}
use Rattle.cx_vtree.specs.InstanceTree.{same_name, declared_nets}
use Rattle.cx_vtree.specs.Layout.{module_fits}
use Rattle.cx_vtree.specs.Sound.{Counts, has_name, module_named, counts_named, module_counts, too_large, lines_faults, modules_faults}
use Rattle.cx_vlaws.proofs.Fresh.{Fresh}
use Rattle.cx_vlaws.specs.Counts.{declared_words}
use Rattle.cx_vmods.specs.Modules.{port_of}
use Rattle.cx_rules.specs.Sizes.{shape_words}
use Rattle.cx_net.specs.Nets.{PlainNetComponent, PlainNet}
use Rattle.cx_net.specs.NetTree.{net_component_at, net_within}
use Rattle.cx_net.specs.NetFits.{IsFitKind, IsFit, HasNoHoles}
use Rattle.cx_net.specs.NetLimits.{nets_inside, nets_below, instances_below, words_below, IsWritable}
use Rattle.cx_emit.specs.Names.{numbered, module_name, primitive_name}
use Rattle.cx_emit.specs.Numbered.{numbered_from, with_numbers}
use Rattle.cx_meaning.specs.declared.kinds.PortDecl.{PortDecl}
use Rattle.cx_emit.specs.Signatures.{one_bit, input_port, output_port, signature_at, primitive_module, kind_ports, cell_ports}
use Rattle.cx_emit.specs.Sources.{component_module, source_of}
use Rattle.cx_emit.proofs.NumberedLemmas.{In, in_either}
use Rattle.cx_emit.proofs.FaultLaws.{AreClean, no_lines, clean-append}
use Rattle.cx_emit.proofs.ModulesApart.{modules-apart}
use Rattle.cx_emit.proofs.PortPlaces.{length-numbered}
use Rattle.cx_emit.proofs.PrimitiveNames.{is_name-primitive_name}
use Rattle.cx_emit.proofs.NetPrimitives.{its_primitives, its_primitive, its_rows}
use Rattle.cx_emit.proofs.CleanModules.{IsKept, module_clean, main_clean, module_laid}
use Rattle.cx_emit.proofs.PrimitiveModules.{primitive_owes}
use Rattle.cx_emit.proofs.CellPorts.{each_in, comp_there, kind_ports_are}
use Rattle.cx_emit.proofs.Connections.{IsKnown}
use Rattle.cx_emit.proofs.ComponentModules.{component_kept}
use Rattle.cx_emit.proofs.Counted.{AtMost, most_more, alone_most, IsThereKind, child_nets, child_instances, child_words, IsCounted, component_most}
use Rattle.cx_vtree.proofs.InstanceTreeLemmas.{same_self}

-- ONE MODULE MORE behind those before
named_kept : (before : List PlainModule) (m : PlainModule) (n : List ℕ) (q : PlainModule) → module_named before n ≡ Some q → module_named (before ++ m ∷ []) n ≡ Some q
named_kept [] m n q e = absurd (cc)
named_kept (x ∷ before) m n q e = go (same_name x.name n) e (named_kept before m n q) where
  go : (b : Bool) → (if b then Some x else module_named before n) ≡ Some q → (module_named before n ≡ Some q → module_named (before ++ m ∷ []) n ≡ Some q) → (if b then Some x else module_named (before ++ m ∷ []) n) ≡ Some q
  go true e next = e
  go false e next = next e

counts_kept : (before : List PlainModule) (counts : List Counts) (m : PlainModule) (c : Counts) (n : List ℕ) (q : PlainModule) → length counts ≡ length before → module_named before n ≡ Some q
    → counts_named (before ++ m ∷ []) (counts ++ c ∷ []) n ≡ counts_named before counts n
counts_kept [] counts m c n q same e = absurd (cc)
counts_kept (x ∷ before) [] m c n q same e = absurd (omega (arith, same))
counts_kept (x ∷ before) (y ∷ counts) m c n q same e = go (same_name x.name n) e (counts_kept before counts m c n q (omega (arith, same))) where
  go : (b : Bool) → (if b then Some x else module_named before n) ≡ Some q → (module_named before n ≡ Some q → counts_named (before ++ m ∷ []) (counts ++ c ∷ []) n ≡ counts_named before counts n)
      → (if b then y else counts_named (before ++ m ∷ []) (counts ++ c ∷ []) n) ≡ (if b then y else counts_named before counts n)
  go true e next = refl
  go false e next = next e

pub named_new : (before : List PlainModule) (m : PlainModule) → has_name (map (λ x. x.name) before) m.name ≡ false → module_named (before ++ m ∷ []) m.name ≡ Some m
named_new [] m none = cond-true (same_name m.name m.name) (Some m) None (same_self m.name)
named_new (x ∷ before) m none =
    let parts = or_parts (same_name x.name m.name) (has_name (map (λ x. x.name) before) m.name) none in
    cond-false (same_name x.name m.name) (Some x) (module_named (before ++ m ∷ []) m.name) parts.0 ∙ named_new before m parts.1

counts_new : (before : List PlainModule) (counts : List Counts) (m : PlainModule) (c : Counts) → length counts ≡ length before → has_name (map (λ x. x.name) before) m.name ≡ false
    → counts_named (before ++ m ∷ []) (counts ++ c ∷ []) m.name ≡ c
counts_new [] [] m c same none = ap (λ b. if b then c else counts_named [] [] m.name) (same_self m.name)
counts_new [] (y ∷ counts) m c same none = absurd (omega (arith, same))
counts_new (x ∷ before) [] m c same none = absurd (omega (arith, same))
counts_new (x ∷ before) (y ∷ counts) m c same none =
    let parts = or_parts (same_name x.name m.name) (has_name (map (λ x. x.name) before) m.name) none in
    ap (λ b. if b then y else counts_named (before ++ m ∷ []) (counts ++ c ∷ []) m.name) parts.0 ∙ counts_new before counts m c (omega (arith, same)) parts.1

-- the first module of a name, and what it counts at most
record IsEntry (before : List PlainModule) (counts : List Counts) (n : List ℕ) (q : PlainModule) (nets instances words : ℕ) : Type 0 where
  found : module_named before n ≡ Some q
  most : AtMost (counts_named before counts n) nets instances words

entry_kept : (before : List PlainModule) (counts : List Counts) (m : PlainModule) (c : Counts) (n : List ℕ) (q : PlainModule) (nets instances words : ℕ) → length counts ≡ length before
    → IsEntry before counts n q nets instances words → IsEntry (before ++ m ∷ []) (counts ++ c ∷ []) n q nets instances words
entry_kept before counts m c n q nets instances words same h = record {
  found = named_kept before m n q h.found;
  most = subst (λ d. AtMost d nets instances words) (sym (counts_kept before counts m c n q same h.found)) h.most;
}

entry_new : (before : List PlainModule) (counts : List Counts) (m : PlainModule) (c : Counts) (nets instances words : ℕ) → length counts ≡ length before → has_name (map (λ x. x.name) before) m.name ≡ false
    → AtMost c nets instances words → IsEntry (before ++ m ∷ []) (counts ++ c ∷ []) m.name m nets instances words
entry_new before counts m c nets instances words same none h = record {
  found = named_new before m none;
  most = subst (λ d. AtMost d nets instances words) (sym (counts_new before counts m c same none)) h;
}

one_longer : (before : List PlainModule) (counts : List Counts) (m : PlainModule) (c : Counts) → length counts ≡ length before → length (counts ++ c ∷ []) ≡ length (before ++ m ∷ [])
one_longer before counts m c same = let one = length-append before (m ∷ []) in let other = length-append counts (c ∷ []) in omega (arith, one, other, same)

-- no line of these modules breaks a rule, and each is laid out
abbrev Good : List PlainModule → List Counts → List PlainModule → Type 0
Good before counts ms = AreClean (modules_faults before counts ms) × Each (λ m. module_fits m ≡ true) ms

-- a module that is not the last
good_more : (before : List PlainModule) (counts : List Counts) (m : PlainModule) (ms : List PlainModule) → 0 < length ms → IsKept before m → has_name (map (λ x. x.name) before) m.name ≡ false
    → Good (before ++ m ∷ []) (counts ++ module_counts before counts m ∷ []) ms → Good before counts (m ∷ ms)
good_more before counts m ms some kept none rest =
    let other : (length ms == 0) ≡ false = ne_eqb (length ms) 0 (λ e. absurd (omega (arith, e, some))) in (
      clean-append (lines_faults (length ms == 0) before (module_counts before counts m) m) _
          (subst (λ b. AreClean (lines_faults b before (module_counts before counts m) m)) (sym other) (module_clean before (module_counts before counts m) m kept none)) rest.0,
      (module_laid before m kept, rest.1),
    )

module _ (net : PlainNet) (fit : IsFit net) (no_holes : HasNoHoles net) (writable : IsWritable net) where
  abbrev comp : ℕ → PlainNetComponent
  comp k = net_component_at net k

  abbrev own : ℕ → PlainModule
  own k = component_module net k (comp k)

  -- before component k, behind the modules of these primitives
  record IsAt (k : ℕ) (ps : List PrimitiveRow) (before : List PlainModule) (counts : List Counts) : Type 0 where
    same : length counts ≡ length before
    comps : (j levels : ℕ) → j < k → j < levels
        → IsEntry before counts (module_name net.main j) (own j) (nets_below (net_within net levels j)) (instances_below (net_within net levels j)) (words_below (net_within net levels j))
    prims : (p : PrimitiveRow) → In p ps → IsEntry before counts (primitive_name p) (primitive_module p) (2 + length (row_of p).ports + nets_inside (row_of p).shape) 1 (shape_words (row_of p).shape)

  -- past the module of a primitive
  past_primitive : (ps : List PrimitiveRow) (p : PrimitiveRow) (before : List PlainModule) (counts : List Counts) → HasRow p → IsAt 0 ps before counts → has_name (map (λ x. x.name) before) (primitive_name p) ≡ false
      → IsAt 0 (ps ++ p ∷ []) (before ++ primitive_module p ∷ []) (counts ++ module_counts before counts (primitive_module p) ∷ [])
  past_primitive ps p before counts has at none =
      let m : PlainModule = primitive_module p in
      let count : Counts = module_counts before counts m in
      let owed = primitive_owes before (primitive_name p) (is_name-primitive_name p has) p has in
      let long : length (map port_of (row_of p).ports) ≡ length (row_of p).ports = length-map (row_of p).ports port_of in
      let nets = owed.nets in
      let words = owed.words in
      let most : AtMost count (2 + length (row_of p).ports + nets_inside (row_of p).shape) 1 (shape_words (row_of p).shape) =
      most_more count (length m.ports + length (declared_nets m.decls)) 1 (declared_words m.decls) _ _ _ (omega (arith, long, nets)) (omega arith) (omega (arith, words)) (alone_most before counts m refl) in
      record {
        same = one_longer before counts m count at.same;
        comps = λ j levels less lower. absurd (omega (arith, less));
        prims = λ q h. go most q (in_either q ps (p ∷ []) h);
      }
    where
      go : AtMost (module_counts before counts (primitive_module p)) (2 + length (row_of p).ports + nets_inside (row_of p).shape) 1 (shape_words (row_of p).shape) → (q : PrimitiveRow) → In q ps ⊎ In q (p ∷ [])
          → IsEntry (before ++ primitive_module p ∷ []) (counts ++ module_counts before counts (primitive_module p) ∷ []) (primitive_name q) (primitive_module q) (2 + length (row_of q).ports + nets_inside (row_of q).shape) 1 (shape_words (row_of q).shape)
      go most q (inl h) = entry_kept before counts (primitive_module p) (module_counts before counts (primitive_module p)) (primitive_name q) (primitive_module q) _ _ _ at.same (at.prims q h)
      go most q (inr (zero, e)) =
          let one : p ≡ q = cc in
          subst (λ (x : PrimitiveRow). IsEntry (before ++ primitive_module p ∷ []) (counts ++ module_counts before counts (primitive_module p) ∷ []) (primitive_name x) (primitive_module x) (2 + length (row_of x).ports + nets_inside (row_of x).shape) 1 (shape_words (row_of x).shape)) one
          (entry_new before counts (primitive_module p) (module_counts before counts (primitive_module p)) _ _ _ at.same none most)
      go most q (inr (suc n, e)) = absurd (cc)

  -- THE MODULES of primitives, and what comes behind them
  primitives_good : (ps qs : List PrimitiveRow) (rest : List PlainModule) → 0 < length rest → Each HasRow qs → (before : List PlainModule) (counts : List Counts) → IsAt 0 ps before counts
      → Fresh (map (λ x. x.name) before) (map (λ x. x.name) (map primitive_module qs ++ rest))
      → ((earlier : List PlainModule) (so_far : List Counts) → IsAt 0 (ps ++ qs) earlier so_far → Fresh (map (λ x. x.name) earlier) (map (λ x. x.name) rest) → Good earlier so_far rest)
      → Good before counts (map primitive_module qs ++ rest)
  primitives_good ps [] rest some rows before counts at fresh next = next before counts (subst (λ xs. IsAt 0 xs before counts) (sym (append-nil ps)) at) fresh
  primitives_good ps (p ∷ qs) rest some rows before counts at fresh next =
      let m : PlainModule = primitive_module p in
      let kept = (primitive_owes before (primitive_name p) (is_name-primitive_name p rows.0) p rows.0).kept in
      let long = length-append (map primitive_module qs) rest in
      good_more before counts m (map primitive_module qs ++ rest) (omega (arith, long, some)) kept fresh.0
      (primitives_good (ps ++ p ∷ []) qs rest some rows.1 (before ++ m ∷ []) (counts ++ module_counts before counts m ∷ []) (past_primitive ps p before counts rows.0 at fresh.0)
      (subst (λ ns. Fresh ns (map (λ x. x.name) (map primitive_module qs ++ rest))) (sym (map-append (λ x. x.name) before (m ∷ []))) fresh.1)
      (λ earlier so_far here fresh_here. next earlier so_far (subst (λ xs. IsAt 0 xs earlier so_far) (append_assoc ps (p ∷ []) qs) here) fresh_here))

  -- the modules of its cells are known, and counted, before a component's own
  module _ (k : ℕ) (lt : k < length net.components) (before : List PlainModule) (counts : List Counts) (at : IsAt k (its_primitives net) before counts) where
    cell_known : (c : ℕ) (cell : PlainCell) → slice_get (comp k).cells c ≡ Some cell → (kind : PlainKind) → cell.kind ≡ kind → IsKnown before (kind_ports net kind)
    cell_known c cell there (OfPrimitive p) is = record {
      part = primitive_module p;
      found = (at.prims p (its_primitive net fit k c cell p lt there is)).found;
      ported = refl;
      apart = (kind_ports_are net fit writable k (OfPrimitive p) lt (subst (IsFitKind k) is ((fit.components k lt).cells c cell there))).apart;
    }
    cell_known c cell there (OfComponent j) is =
        let lower : j < k = subst (IsFitKind k) is ((fit.components k lt).cells c cell there) in
        record {
          part = own j;
          found = (at.comps j (suc j) lower (omega arith)).found;
          ported = ap (λ o. one_bit (codes "clk") ∷ one_bit (codes "reset") ∷ signature_at o) (sym (comp_there net fit writable j (omega (arith, lt, lower))));
          apart = (kind_ports_are net fit writable k (OfComponent j) lt lower).apart;
        }

    cells_known : Each (IsKnown before) (map (cell_ports net) (comp k).cells)
    cells_known =
        each_in (map (cell_ports net) (comp k).cells) (λ x h.
        let (cell, there, is) = at_map (cell_ports net) (comp k).cells h.0 x h.1 in
        subst (IsKnown before) is (cell_known h.0 cell there cell.kind refl))

    own_kept : IsKept before (own k)
    own_kept = component_kept net fit no_holes writable k lt before cells_known

    cell_counted : (levels c : ℕ) (cell : PlainCell) → k ≤ levels → slice_get (comp k).cells c ≡ Some cell → IsCounted net (comp_there net fit writable) before counts levels cell
    cell_counted levels c cell enough there = go cell.kind refl where
      go : (kind : PlainKind) → cell.kind ≡ kind → AtMost (counts_named before counts (kind_ports net kind).kind) (child_nets net levels kind) (child_instances net levels kind) (child_words net levels kind)
      go (OfPrimitive p) is = (at.prims p (its_primitive net fit k c cell p lt there is)).most
      go (OfComponent j) is = let lower : j < k = subst (IsFitKind k) is ((fit.components k lt).cells c cell there) in (at.comps j levels lower (omega (arith, lower, enough))).most

    kinds_there : Each (λ (cell : PlainCell). IsThereKind net cell.kind) (comp k).cells
    kinds_there = each_in (comp k).cells (λ cell h. go cell.kind ((fit.components k lt).cells h.0 cell h.1)) where
      go : (kind : PlainKind) → IsFitKind k kind → IsThereKind net kind
      go (OfPrimitive p) h = tt
      go (OfComponent j) lower = omega (arith, lower, lt)

    own_counted : (levels : ℕ) → k < levels → AtMost (module_counts before counts (own k)) (nets_below (net_within net levels k)) (instances_below (net_within net levels k)) (words_below (net_within net levels k))
    own_counted zero enough = absurd (omega (arith, enough))
    own_counted (suc levels) enough =
        component_most net (comp_there net fit writable) before counts levels k kinds_there (each_in (comp k).cells (λ cell h. cell_counted levels h.0 cell (omega (arith, enough)) h.1))

    -- past its own module
    past_own : has_name (map (λ x. x.name) before) (module_name net.main k) ≡ false → IsAt (suc k) (its_primitives net) (before ++ own k ∷ []) (counts ++ module_counts before counts (own k) ∷ [])
    past_own none = record {
      same = one_longer before counts (own k) (module_counts before counts (own k)) at.same;
      comps = λ j levels less lower. go j levels lower less (cases_order j k);
      prims = λ p h. entry_kept before counts (own k) (module_counts before counts (own k)) (primitive_name p) (primitive_module p) _ _ _ at.same (at.prims p h);
    }
      where
        go : (j levels : ℕ) → j < levels → j < suc k → (j ≡ k) ⊎ ((j < k) ⊎ (k < j))
            → IsEntry (before ++ own k ∷ []) (counts ++ module_counts before counts (own k) ∷ []) (module_name net.main j) (own j) (nets_below (net_within net levels j)) (instances_below (net_within net levels j)) (words_below (net_within net levels j))
        go j levels lower less (inl e) =
            subst (λ x. IsEntry (before ++ own k ∷ []) (counts ++ module_counts before counts (own k) ∷ []) (module_name net.main x) (own x) (nets_below (net_within net levels x)) (instances_below (net_within net levels x)) (words_below (net_within net levels x))) (sym e)
            (entry_new before counts (own k) (module_counts before counts (own k)) _ _ _ at.same none (own_counted levels (omega (arith, e, lower))))
        go j levels lower less (inr (inl f)) = entry_kept before counts (own k) (module_counts before counts (own k)) (module_name net.main j) (own j) _ _ _ at.same (at.comps j levels f lower)
        go j levels lower less (inr (inr f)) = absurd (omega (arith, less, f))

  -- main is the last
  main_good : (k : ℕ) (lt : k < length net.components) (before : List PlainModule) (counts : List Counts) (at : IsAt k (its_primitives net) before counts) → k ≡ net.main
      → has_name (map (λ x. x.name) before) (module_name net.main k) ≡ false → Good before counts (own k ∷ [])
  main_good k lt before counts at is none =
      let kept = own_kept k lt before counts at in
      let most = own_counted k lt before counts at (length net.components) lt in
      let nets = most.few_nets in
      let instances = most.few_instances in
      let words = most.few_words in
      let bound : nets_below (net_within net (length net.components) k) ≤ 4194304 = subst (λ j. nets_below (net_within net (length net.components) j) ≤ 4194304) (sym is) writable.nets in
      let bound_instances : instances_below (net_within net (length net.components) k) ≤ 131072 = subst (λ j. instances_below (net_within net (length net.components) j) ≤ 131072) (sym is) writable.instances in
      let bound_words : words_below (net_within net (length net.components) k) ≤ 4194304 = subst (λ j. words_below (net_within net (length net.components) j) ≤ 4194304) (sym is) writable.words in
      let count : Counts = module_counts before counts (own k) in
      let fits : too_large count ≡ false =
      or_from (nat_lt 4194304 count.nets || nat_lt 131072 count.instances) (nat_lt 4194304 count.words)
      (or_from (nat_lt 4194304 count.nets) (nat_lt 131072 count.instances) (le-ltb 4194304 count.nets (omega (arith, nets, bound))) (le-ltb 131072 count.instances (omega (arith, instances, bound_instances))))
      (le-ltb 4194304 count.words (omega (arith, words, bound_words))) in
      let named : module_name net.main k ≡ codes "main" = ap (λ b. if b then codes "main" else numbered (codes "m") k) (eq-eqb k net.main is) in
      (clean-append (lines_faults true before count (own k)) [] (main_clean before count (own k) kept none named ported fits) no_lines, (module_laid before (own k) kept, tt))
    where
      ported : (own k).ports ≡ one_bit (codes "clk") ∷ one_bit (codes "reset") ∷ one_bit (codes "go") ∷ record { output = true; name = codes "done"; width = 1 } ∷ []
      ported =
          ap (λ (ins : List PortDecl). one_bit (codes "clk") ∷ one_bit (codes "reset") ∷ one_bit (codes "go") ∷ with_numbers input_port ins ++ with_numbers output_port (comp k).outputs ++ record { output = true; name = codes "done"; width = 1 } ∷ [])
          (ap (λ j. (comp j).inputs) is ∙ writable.no_inputs)
          ∙ ap (λ (outs : List PortDecl). one_bit (codes "clk") ∷ one_bit (codes "reset") ∷ one_bit (codes "go") ∷ with_numbers output_port outs ++ record { output = true; name = codes "done"; width = 1 } ∷ [])
          (ap (λ j. (comp j).outputs) is ∙ writable.no_outputs)

  -- THE MODULES of components from k on
  components_good : (k : ℕ) (parts : List PlainNetComponent) → 0 < length parts → k + length parts ≡ length net.components → ((j : ℕ) → slice_get parts j ≡ slice_get net.components (k + j))
      → (before : List PlainModule) (counts : List Counts) → IsAt k (its_primitives net) before counts → Fresh (map (λ x. x.name) before) (map (λ x. x.name) (numbered_from (component_module net) k parts))
      → Good before counts (numbered_from (component_module net) k parts)
  components_good k [] some whole places before counts at fresh = absurd (omega (arith, some))
  components_good k (part ∷ parts) some whole places before counts at fresh =
      subst (λ (x : PlainNetComponent). Good before counts (component_module net k x ∷ numbered_from (component_module net) (suc k) parts)) (sym part_is)
      (by_rest parts refl (components_good (suc k) parts))
    where
      lt : k < length net.components
      lt = omega (arith, whole)

      part_is : part ≡ comp k
      part_is = let place : k + 0 ≡ k = omega arith in let same : Some part ≡ Some (comp k) = places 0 ∙ ap (slice_get net.components) place ∙ comp_there net fit writable k lt in cc

      by_rest : (more : List PlainNetComponent) → parts ≡ more
          → (0 < length parts → suc k + length parts ≡ length net.components → ((j : ℕ) → slice_get parts j ≡ slice_get net.components (suc k + j)) → (before : List PlainModule) (counts : List Counts) → IsAt (suc k) (its_primitives net) before counts
          → Fresh (map (λ x. x.name) before) (map (λ x. x.name) (numbered_from (component_module net) (suc k) parts)) → Good before counts (numbered_from (component_module net) (suc k) parts))
          → Good before counts (own k ∷ numbered_from (component_module net) (suc k) parts)
      by_rest [] none walk =
          let last = writable.main_last in
          let is : k ≡ net.main = (let empty : length parts ≡ 0 = ap (λ (xs : List PlainNetComponent). length xs) none in omega (arith, whole, last, empty)) in
          subst (λ ps. Good before counts (own k ∷ numbered_from (component_module net) (suc k) ps)) (sym none) (main_good k lt before counts at is fresh.0)
      by_rest (x ∷ more) several walk =
          let long : length parts ≡ suc (length more) = ap (λ (xs : List PlainNetComponent). length xs) several in
          let some_rest : 0 < length (numbered_from (component_module net) (suc k) parts) = subst (λ ps. 0 < length (numbered_from (component_module net) (suc k) ps)) (sym several) (omega arith) in
          good_more before counts (own k) (numbered_from (component_module net) (suc k) parts) some_rest (own_kept k lt before counts at) fresh.0
          (walk (omega (arith, long)) (omega (arith, whole)) (λ j. let step : k + suc j ≡ suc k + j = omega arith in places (suc j) ∙ ap (slice_get net.components) step)
          (before ++ own k ∷ []) (counts ++ module_counts before counts (own k) ∷ []) (past_own k lt before counts at fresh.0)
          (subst (λ ns. Fresh ns (map (λ x. x.name) (numbered_from (component_module net) (suc k) parts))) (sym (map-append (λ x. x.name) before (own k ∷ []))) fresh.1))

  some_components : 0 < length (with_numbers (component_module net) net.components)
  some_components = let main = fit.has_main in let long = length-numbered (component_module net) 0 net.components in omega (arith, main, long)

  -- no two modules have one name
  pub modules_differ : Fresh [] (map (λ x. x.name) (source_of net).modules)
  modules_differ = modules-apart net writable.few

  -- ALL MODULES
  pub modules_good : Good [] [] (source_of net).modules
  modules_good =
      let main = fit.has_main in
      primitives_good [] (its_primitives net) (with_numbers (component_module net) net.components) some_components (each_in (its_primitives net) (its_rows net fit)) [] []
      (record { same = refl; comps = λ j levels less lower. absurd (omega (arith, less)); prims = λ p h. absurd (let e = h.1 in cc) }) modules_differ
      (λ before counts at fresh.
      components_good 0 net.components (omega (arith, main)) (omega arith) (λ j. let place : j ≡ 0 + j = omega arith in ap (slice_get net.components) place) before counts at fresh)

  pub some_modules : 0 < length (source_of net).modules
  some_modules = let some = some_components in let long = length-append (map primitive_module (its_primitives net)) (with_numbers (component_module net) net.components) in omega (arith, some, long)
