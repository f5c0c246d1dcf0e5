-- The modules of a sound source are narrow.
use Rattle.std.proofs.Common.{◌≡◌, ℕ, ◌+◌, ◌^◌, ◌≤◌, ◌==◌, ◌&&◌, ◌||◌, not, Bool, true, false, List, [], ◌∷◌, ◌++◌, map, length, Option, Some, None, is_none, refl, if◌then◌else◌}
use Rattle.std.specs.Prelude.{nat_lt}
use Rattle.std.specs.Option.{option_map_or}
use Rattle.std.proofs.lemmas.Bool.{or_parts, and_parts, leb-false}
use Rattle.cx_text.specs.Members.{Each}
use Rattle.cx_vtree.specs.Plain.{PlainPort, PlainDecl, WireOf, RegisterOf, ArrayOf, PlainAssign, PlainItem, SetTo, StoreTo, PlainEdge, PlainModule, PlainSource}
use Rattle.cx_vtree.specs.Layout.{is_laid_out}
use Rattle.cx_vtree.specs.Sound.{Faults, no_faults, Break, NameAt, WidthAt, LimitAt, Scope, width_of, misnames, bad_width, has_width, fitting_width, meant_in, drivers_in, decl_name, ports_faults, decl_faults, decls_faults, assigns_faults, instances_faults, set_faults, sets_faults, item_faults, item_name, items_faults, edge_faults, Counts, module_counts, module_faults, lines_faults, modules_faults, externals_faults, faults_of, first_break, break_of, is_sound}
use Rattle.cx_emitted.proofs.TextBytes.{AreNarrow, DeclNarrow, ItemNarrow}
use Rattle.cx_emitted.proofs.ModuleBytes.{EdgeNarrow, IsNarrow}
use Rattle.cx_emitted.proofs.NarrowLemmas.{narrow_by, scope_wide}
use Rattle.cx_vtree.proofs.SoundLemmas.{no_break, small_width}

-- LINES without a break
pub record IsFine (f : Faults) : Type 0 where
  pub name : f.name ≡ false
  pub width : f.width ≡ false
  pub limit : f.limit ≡ false

record Passed (a b c : Bool) (later : Option Break) : Type 0 where
  name : a ≡ false
  width : b ≡ false
  limit : c ≡ false
  rest : later ≡ None

passed : (line : ℕ) (a b c : Bool) (later : Option Break) → (if a then Some (NameAt line) else (if b then Some (WidthAt line) else (if c then Some (LimitAt line) else later))) ≡ None → Passed a b c later
passed line true b c later e = absurd (cc)
passed line false true c later e = absurd (cc)
passed line false false true later e = absurd (cc)
passed line false false false later e = record { name = refl; width = refl; limit = refl; rest = e }

pub all_fine : (line : ℕ) (fs : List Faults) → first_break line fs ≡ None → Each IsFine fs
all_fine line [] e = tt
all_fine line (f ∷ fs) e =
    let p = passed line f.name f.width f.limit (first_break (line + 1) fs) e in
    (record { name = p.name; width = p.width; limit = p.limit }, all_fine (line + 1) fs p.rest)

pub first_fine : (xs ys : List Faults) → Each IsFine (xs ++ ys) → Each IsFine xs
first_fine [] ys each = tt
first_fine (x ∷ xs) ys each = (each.0, first_fine xs ys each.1)

rest_fine : (xs ys : List Faults) → Each IsFine (xs ++ ys) → Each IsFine ys
rest_fine [] ys each = each
rest_fine (x ∷ xs) ys each = rest_fine xs ys each.1

ports_narrow : (main : Bool) (drivers earlier : List (List ℕ)) (index : ℕ) (ps : List PlainPort) → Each IsFine (ports_faults main drivers earlier index ps) → Each (λ (p : PlainPort). p.width ≤ 128) ps
ports_narrow main drivers earlier index [] each = tt
ports_narrow main drivers earlier index (p ∷ ps) each =
    (small_width p.width (or_parts (bad_width p.width) ((main || nat_lt index 2) && not (p.width == 1)) each.0.width).0, ports_narrow main drivers (earlier ++ p.name ∷ []) (index + 1) ps each.1)

decl_narrow : (drivers earlier : List (List ℕ)) (d : PlainDecl) → IsFine (decl_faults drivers earlier d) → DeclNarrow d
decl_narrow drivers earlier (WireOf n w) fine = small_width w fine.width
decl_narrow drivers earlier (RegisterOf n w) fine = small_width w fine.width
decl_narrow drivers earlier (ArrayOf n w k) fine = (small_width w fine.width, leb-false (2 ^ 64) k fine.limit)

decls_narrow : (drivers earlier : List (List ℕ)) (ds : List PlainDecl) → Each IsFine (decls_faults drivers earlier ds) → Each DeclNarrow ds
decls_narrow drivers earlier [] each = tt
decls_narrow drivers earlier (d ∷ ds) each = (decl_narrow drivers earlier d each.0, decls_narrow drivers (earlier ++ decl_name d ∷ []) ds each.1)

record HasSome (o : Option ℕ) : Type 0 where
  value : ℕ
  is : o ≡ Some value

has_some : (o : Option ℕ) (w : ℕ) → not (option_map_or (λ v. v == w) o false) ≡ false → HasSome o
has_some None w e = absurd (cc)
has_some (Some v) w e = record { value = v; is = refl }

some_there : (o : Option ℕ) → is_none o ≡ false → HasSome o
some_there None e = absurd (cc)
some_there (Some v) e = record { value = v; is = refl }

-- EXPRESSIONS
module _ (scope : Scope) (wide : (n : List ℕ) → width_of (scope n) ≤ 128) where
  assigns_narrow : (earlier : List (List ℕ)) (xs : List PlainAssign) → Each IsFine (assigns_faults scope earlier xs) → Each (λ (a : PlainAssign). AreNarrow a.value) xs
  assigns_narrow earlier [] each = tt
  assigns_narrow earlier (a ∷ xs) each =
      let s = has_some (fitting_width scope a.value) (width_of (scope a.name)) each.0.width in
      (narrow_by scope wide a.value s.value (or_parts _ (misnames scope a.value) each.0.name).1 s.is, assigns_narrow (earlier ++ a.name ∷ []) xs each.1)

  set_narrow : (earlier : List (List ℕ)) (a : PlainAssign) → IsFine (set_faults scope earlier a) → AreNarrow a.value
  set_narrow earlier a fine =
      let s = has_some (fitting_width scope a.value) (width_of (scope a.name)) fine.width in
      narrow_by scope wide a.value s.value (or_parts _ (misnames scope a.value) fine.name).1 s.is

  sets_narrow : (earlier : List (List ℕ)) (xs : List PlainAssign) → Each IsFine (sets_faults scope earlier xs) → Each (λ (a : PlainAssign). AreNarrow a.value) xs
  sets_narrow earlier [] each = tt
  sets_narrow earlier (a ∷ xs) each = (set_narrow earlier a each.0, sets_narrow (earlier ++ a.name ∷ []) xs each.1)

  item_narrow : (earlier : List (List ℕ)) (i : PlainItem) → IsFine (item_faults scope earlier i) → ItemNarrow i
  item_narrow earlier (SetTo a) fine = set_narrow earlier a fine
  item_narrow earlier (StoreTo s) fine =
      let value = or_parts _ (misnames scope s.value) fine.name in
      let index = or_parts _ (misnames scope s.index) value.0 in
      let guard = or_parts _ (misnames scope s.guard) index.0 in
      let widths = or_parts (not (has_width scope s.guard 1) || is_none (fitting_width scope s.index)) (not (has_width scope s.value (width_of (scope s.array)))) fine.width in
      let front = or_parts (not (has_width scope s.guard 1)) (is_none (fitting_width scope s.index)) widths.0 in
      let a = has_some (fitting_width scope s.guard) 1 front.0 in
      let b = some_there (fitting_width scope s.index) front.1 in
      let c = has_some (fitting_width scope s.value) (width_of (scope s.array)) widths.1 in
      (narrow_by scope wide s.guard a.value guard.1 a.is, (narrow_by scope wide s.index b.value index.1 b.is, narrow_by scope wide s.value c.value value.1 c.is))

  items_narrow : (earlier : List (List ℕ)) (is : List PlainItem) → Each IsFine (items_faults scope earlier is) → Each ItemNarrow is
  items_narrow earlier [] each = tt
  items_narrow earlier (i ∷ is) each = (item_narrow earlier i each.0, items_narrow (earlier ++ item_name i ∷ []) is each.1)

  edge_narrow : (e : Option PlainEdge) → Each IsFine (edge_faults scope e) → EdgeNarrow e
  edge_narrow None each = tt
  edge_narrow (Some e) each =
      let front : Each IsFine ((no_faults ∷ no_faults ∷ sets_faults scope [] e.reset) ++ (no_faults ∷ items_faults scope [] e.step)) =
      first_fine ((no_faults ∷ no_faults ∷ sets_faults scope [] e.reset) ++ (no_faults ∷ items_faults scope [] e.step)) (no_faults ∷ no_faults ∷ []) each in
      let one = first_fine (no_faults ∷ no_faults ∷ sets_faults scope [] e.reset) (no_faults ∷ items_faults scope [] e.step) front in
      let two = rest_fine (no_faults ∷ no_faults ∷ sets_faults scope [] e.reset) (no_faults ∷ items_faults scope [] e.step) front in
      (sets_narrow [] e.reset one.1.1, items_narrow [] e.step two.1)

-- MODULES
module_narrow : (main : Bool) (before : List PlainModule) (own : Counts) (m : PlainModule) → Each IsFine (lines_faults main before own m) → IsNarrow m
module_narrow main before own m each =
    let names : List (List ℕ) = map (λ (p : PlainPort). p.name) m.ports in
    let a : List Faults = module_faults main before own m ∷ ports_faults main (drivers_in before m) [] 0 m.ports in
    let b : List Faults = no_faults ∷ decls_faults (drivers_in before m) names m.decls in
    let c : List Faults = assigns_faults (meant_in m.ports m.decls) [] m.assigns in
    let d : List Faults = instances_faults before (meant_in m.ports m.decls) (names ++ map decl_name m.decls) (map (λ (x : PlainAssign). x.name) m.assigns) m.instances in
    let e : List Faults = edge_faults (meant_in m.ports m.decls) m.edge in
    let f : List Faults = no_faults ∷ [] in
    let abcde : Each IsFine ((((a ++ b) ++ c) ++ d) ++ e) = first_fine ((((a ++ b) ++ c) ++ d) ++ e) f each in
    let abcd : Each IsFine (((a ++ b) ++ c) ++ d) = first_fine (((a ++ b) ++ c) ++ d) e abcde in
    let abc : Each IsFine ((a ++ b) ++ c) = first_fine ((a ++ b) ++ c) d abcd in
    let ab : Each IsFine (a ++ b) = first_fine (a ++ b) c abc in
    let ports = ports_narrow main (drivers_in before m) [] 0 m.ports (first_fine a b ab).1 in
    let decls = decls_narrow (drivers_in before m) names m.decls (rest_fine a b ab).1 in
    let wide : (n : List ℕ) → width_of (meant_in m.ports m.decls n) ≤ 128 = λ n. scope_wide m.ports m.decls n ports decls in
    record {
      ports = ports;
      decls = decls;
      assigns = assigns_narrow (meant_in m.ports m.decls) wide [] m.assigns (rest_fine (a ++ b) c abc);
      edge = edge_narrow (meant_in m.ports m.decls) wide m.edge (rest_fine (((a ++ b) ++ c) ++ d) e abcde);
    }

modules_narrow : (before : List PlainModule) (counts : List Counts) (ms : List PlainModule) → Each IsFine (modules_faults before counts ms) → Each IsNarrow ms
modules_narrow before counts [] each = tt
modules_narrow before counts (m ∷ ms) each =
    let own : Counts = module_counts before counts m in (
      module_narrow (length ms == 0) before own m (first_fine (lines_faults (length ms == 0) before own m) (modules_faults (before ++ m ∷ []) (counts ++ own ∷ []) ms) each),
      modules_narrow (before ++ m ∷ []) (counts ++ own ∷ []) ms (rest_fine (lines_faults (length ms == 0) before own m) (modules_faults (before ++ m ∷ []) (counts ++ own ∷ []) ms) each),
    )

pub sound_narrow : (s : PlainSource) → is_sound s ≡ true → Each IsNarrow s.modules
sound_narrow s sound =
    let parts = and_parts (is_laid_out s) (is_none (break_of s)) sound in
    let fine : Each IsFine (faults_of s) = all_fine 1 (faults_of s) (no_break (break_of s) parts.1) in
    modules_narrow [] [] s.modules (rest_fine (externals_faults s.modules [] [] s.externals) (modules_faults [] [] s.modules) fine)
