-- Each module of a sound source keeps every rule, with those that ended before it.
use Rattle.std.proofs.Common.{◌≡◌, ℕ, ◌==◌, List, [], ◌∷◌, ◌++◌, Bool, true, false, map, length, reverse, Some, None, is_none, refl, ap, sym, ◌∙◌, subst, append_assoc, if◌then◌else◌, arith}
use Rattle.std.proofs.lemmas.Bool.{or_parts, and_parts, ne_eqb, cond-true, cond-false}
use Rattle.std.proofs.lemmas.List.{reverse-append}
use Rattle.cx_vtree.specs.Plain.{PlainModule, PlainSource}
use Rattle.cx_vtree.specs.InstanceTree.{same_name}
use Rattle.cx_vtree.specs.Layout.{is_laid_out}
use Rattle.cx_vtree.specs.Sound.{Faults, no_faults, Counts, has_name, decl_name, drivers_in, module_named, meant_in, module_faults, ports_faults, decls_faults, assigns_faults, instances_faults, edge_faults, module_counts, lines_faults, modules_faults, externals_faults, faults_of, break_of, is_sound}
use Rattle.cx_vlaws.proofs.Cleans.{Clean, clean_left, clean_right, clean_from_none}
use Rattle.cx_vlaws.proofs.Scopes.{port_names}
use Rattle.cx_vtree.proofs.InstanceTreeLemmas.{same_is}

-- a module breaks no rule
pub record Keeps (is_main : Bool) (before : List PlainModule) (own : Counts) (m : PlainModule) : Type 0 where
  pub head : module_faults is_main before own m ≡ no_faults
  pub ports : Clean (ports_faults is_main (drivers_in before m) [] 0 m.ports)
  pub decls : Clean (decls_faults (drivers_in before m) (port_names m.ports) m.decls)
  pub assigns : Clean (assigns_faults (meant_in m.ports m.decls) [] m.assigns)
  pub instances : Clean (instances_faults before (meant_in m.ports m.decls) (port_names m.ports ++ map decl_name m.decls) (map (λ a. a.name) m.assigns) m.instances)
  pub edge : Clean (edge_faults (meant_in m.ports m.decls) m.edge)

-- the lines of a module, part by part
parts : (x y : Faults) (a b c d e f : List Faults) → Clean (x ∷ a ++ y ∷ b ++ c ++ d ++ e ++ f) → (x ≡ no_faults) × Clean a × Clean b × Clean c × Clean d × Clean e
parts x y a b c d e f clean =
    let to_e = clean_left (x ∷ a ++ y ∷ b ++ c ++ d ++ e) f clean in
    let to_d = clean_left (x ∷ a ++ y ∷ b ++ c ++ d) e to_e in
    let to_c = clean_left (x ∷ a ++ y ∷ b ++ c) d to_d in
    let to_b = clean_left (x ∷ a ++ y ∷ b) c to_c in
    let to_a = clean_left (x ∷ a) (y ∷ b) to_b in
    let at_b = clean_right (x ∷ a) (y ∷ b) to_b in (
      to_a.0,
      to_a.1,
      at_b.1,
      clean_right (x ∷ a ++ y ∷ b) c to_c,
      clean_right (x ∷ a ++ y ∷ b ++ c) d to_d,
      clean_right (x ∷ a ++ y ∷ b ++ c ++ d) e to_e,
    )

keeps_lines : (is_main : Bool) (before : List PlainModule) (own : Counts) (m : PlainModule) → Clean (lines_faults is_main before own m) → Keeps is_main before own m
keeps_lines is_main before own m clean =
    let p = parts (module_faults is_main before own m) no_faults (ports_faults is_main (drivers_in before m) [] 0 m.ports) (decls_faults (drivers_in before m) (port_names m.ports) m.decls)
    (assigns_faults (meant_in m.ports m.decls) [] m.assigns)
    (instances_faults before (meant_in m.ports m.decls) (port_names m.ports ++ map decl_name m.decls) (map (λ a. a.name) m.assigns) m.instances)
    (edge_faults (meant_in m.ports m.decls) m.edge) (no_faults ∷ []) clean in
    record { head = p.0; ports = p.1; decls = p.2; assigns = p.3; instances = p.4; edge = p.5 }

-- the counts of modules, of which the last one is first; theirs are in the order of the text
abbrev pub seen_counts : List PlainModule → List Counts
seen_counts [] = []
seen_counts (m ∷ before) = seen_counts before ++ module_counts (reverse before) (seen_counts before) m ∷ []

-- a module breaks no rule, where those before it are these, the last one first
abbrev pub KeepsAfter : Bool → List PlainModule → PlainModule → Type 0
KeepsAfter is_main before m = Keeps is_main (reverse before) (module_counts (reverse before) (seen_counts before) m) m

-- modules of which the last one is first: each breaks no rule
abbrev pub AllKeep : Bool → List PlainModule → Type 0
AllKeep is_main [] = Unit {0}
AllKeep is_main (m ∷ before) = KeepsAfter is_main before m × AllKeep false before

pub reverse-cons : {A : Type 0} (x : A) (xs : List A) → reverse (x ∷ xs) ≡ reverse xs ++ x ∷ []
reverse-cons x xs = reverse-append (x ∷ []) xs

all_keep : (m : PlainModule) (ms before : List PlainModule) → AllKeep false before → Clean (modules_faults (reverse before) (seen_counts before) (m ∷ ms)) → AllKeep true (reverse (m ∷ ms) ++ before)
all_keep m [] before kept clean =
    let own : Counts = module_counts (reverse before) (seen_counts before) m in
    (keeps_lines true (reverse before) own m (clean_left (lines_faults true (reverse before) own m) (modules_faults (reverse before ++ m ∷ []) (seen_counts before ++ own ∷ []) []) clean), kept)
all_keep m (n ∷ ms) before kept clean =
    let own : Counts = module_counts (reverse before) (seen_counts before) m in
    let rest : List Faults = modules_faults (reverse before ++ m ∷ []) (seen_counts before ++ own ∷ []) (n ∷ ms) in
    let last : (length (n ∷ ms) == 0) ≡ false = ne_eqb (length (n ∷ ms)) 0 (λ q. omega arith) in
    let both : Clean (lines_faults false (reverse before) own m ++ rest) = subst (λ b. Clean (lines_faults b (reverse before) own m ++ rest)) last clean in
    let here : Clean (lines_faults false (reverse before) own m) = clean_left (lines_faults false (reverse before) own m) rest both in
    let later : Clean (modules_faults (reverse before ++ m ∷ []) (seen_counts before ++ own ∷ []) (n ∷ ms)) = clean_right (lines_faults false (reverse before) own m) rest both in
    let next : Clean (modules_faults (reverse (m ∷ before)) (seen_counts (m ∷ before)) (n ∷ ms)) = subst (λ b. Clean (modules_faults b (seen_counts before ++ own ∷ []) (n ∷ ms))) (sym (reverse-cons m before)) later in
    let all : AllKeep true (reverse (n ∷ ms) ++ m ∷ before) = all_keep n ms (m ∷ before) (keeps_lines false (reverse before) own m here, kept) next in
    let same : reverse (n ∷ ms) ++ m ∷ before ≡ reverse (m ∷ n ∷ ms) ++ before =
    sym (append_assoc (reverse (n ∷ ms)) (m ∷ []) before) ∙ ap (λ l. l ++ before) (sym (reverse-cons m (n ∷ ms))) in
    subst (AllKeep true) same all

pub sound-faults : (source : PlainSource) → is_sound source ≡ true → Clean (externals_faults source.modules [] [] source.externals) × Clean (modules_faults [] [] source.modules)
sound-faults source sound =
    let none = (and_parts (is_laid_out source) (is_none (break_of source)) sound).1 in
    let clean : Clean (faults_of source) = clean_from_none (faults_of source) 1 none in (
      clean_left (externals_faults source.modules [] [] source.externals) (modules_faults [] [] source.modules) clean,
      clean_right (externals_faults source.modules [] [] source.externals) (modules_faults [] [] source.modules) clean,
    )

-- all modules of a sound source, the last one first
pub sound_keeps : (source : PlainSource) → is_sound source ≡ true → AllKeep true (reverse source.modules)
sound_keeps source sound = go source.modules (sound-faults source sound).1 where
  go : (ms : List PlainModule) → Clean (modules_faults [] [] ms) → AllKeep true (reverse ms)
  go [] clean = tt
  go (m ∷ ms) clean = subst (AllKeep true) (append-none (reverse (m ∷ ms))) (all_keep m ms [] tt clean)
    where
      append-none : (l : List PlainModule) → l ++ [] ≡ l
      append-none [] = refl
      append-none (x ∷ l) = ap (λ r. x ∷ r) (append-none l)

-- Names of modules are apart, so the first one of a name is the last one.
named-push : (ms : List PlainModule) (m : PlainModule) (kind : List ℕ) → same_name m.name kind ≡ false → module_named (ms ++ m ∷ []) kind ≡ module_named ms kind
named-push [] m kind differs = cond-false (same_name m.name kind) (Some m) None differs
named-push (x ∷ ms) m kind differs = ap (λ o. if same_name x.name kind then Some x else o) (named-push ms m kind differs)

named-new : (ms : List PlainModule) (m : PlainModule) (kind : List ℕ) → same_name m.name kind ≡ true → has_name (map (λ x. x.name) ms) kind ≡ false → module_named (ms ++ m ∷ []) kind ≡ Some m
named-new [] m kind same other = cond-true (same_name m.name kind) (Some m) None same
named-new (x ∷ ms) m kind same other =
    let ends = or_parts (same_name x.name kind) (has_name (map (λ y. y.name) ms) kind) other in
    cond-false (same_name x.name kind) (Some x) (module_named (ms ++ m ∷ []) kind) ends.0 ∙ named-new ms m kind same ends.1

-- a module has another name than those before it
pub new_name : (is_main : Bool) (before : List PlainModule) (own : Counts) (m : PlainModule) → Keeps is_main before own m → has_name (map (λ x. x.name) before) m.name ≡ false
new_name is_main before own m k =
    (or_parts _ _ (or_parts _ _ (ap (λ (f : Faults). f.name) k.head)).0).0

pub named-reversed : (is_main : Bool) (before : List PlainModule) (kind : List ℕ) → AllKeep is_main before → module_named (reverse before) kind ≡ module_named before kind
named-reversed is_main [] kind k = refl
named-reversed is_main (m ∷ before) kind k = ap (λ l. module_named l kind) (reverse-cons m before) ∙ go (same_name m.name kind) refl (named-reversed false before kind k.1) where
  go : (same : Bool) → same_name m.name kind ≡ same → module_named (reverse before) kind ≡ module_named before kind
      → module_named (reverse before ++ m ∷ []) kind ≡ (if same_name m.name kind then Some m else module_named before kind)
  go true is h =
      named-new (reverse before) m kind is
      (subst (λ n. has_name (map (λ x. x.name) (reverse before)) n ≡ false) (same_is m.name kind is) (new_name is_main (reverse before) _ m k.0))
      ∙ sym (cond-true (same_name m.name kind) (Some m) (module_named before kind) is)
  go false is h =
      named-push (reverse before) m kind is ∙ h ∙ sym (cond-false (same_name m.name kind) (Some m) (module_named before kind) is)
