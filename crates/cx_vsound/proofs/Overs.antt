-- A search over lists of lines.
use Rattle.std.proofs.Common.{append_assoc, map, ◌≡◌, ℕ, ◌+◌, min, List, [], ◌∷◌, ◌++◌, Bool, true, false, Option, Some, None, option_map, refl, ap, sym, ◌∙◌, arith}
use Rattle.cx_vtree.specs.Plain.{PlainPort, PlainDecl, PlainAssign, PlainInstance, PlainEdge, PlainModule}
use Rattle.cx_vtree.specs.Sound.{Counts, Scope, meant_in, decl_name, drivers_in, no_faults, module_faults, ports_faults, decls_faults, assigns_faults, instances_faults, edge_faults, lines_faults, Faults, break_at, first_break}
use Rattle.cx_vsound.specs.declared.search.Break as told
use Rattle.cx_vsound.specs.declared.search.Break.TheVariants as breaks
use Rattle.cx_vsound.specs.declared.search.Search.{Search}
use Rattle.cx_vsound.specs.Parts.{signature_faults, body_faults}
use Rattle.cx_vsound.specs.Search.{break_on, noted, over, start, told_break, last_line}

pub over_append : (s : Search) (xs ys : List Faults) → over s (xs ++ ys) ≡ over (over s xs) ys
over_append s [] ys = refl
over_append s (f ∷ fs) ys = over_append (noted s f) fs ys

-- what is found stays
keeps : (b : told.Break) (line : ℕ) (fs : List Faults) → (over (record { line = line; found = Some b }) fs).found ≡ Some b
keeps b line [] = refl
keeps b line (f ∷ fs) = keeps b (min (line + 1) last_line) fs

-- a line is looked at, and those after it
after_line : (name width limit : Bool) (n line : ℕ) (fs : List Faults) → line ≡ min n last_line
    → ((over (record { line = min (line + 1) last_line; found = None }) fs).found ≡ option_map told_break (first_break (n + 1) fs))
    → (over (record { line = min (line + 1) last_line; found = break_on line (record { name = name; width = width; limit = limit }) }) fs).found
    ≡ option_map told_break (break_at n (record { name = name; width = width; limit = limit }) (first_break (n + 1) fs))
after_line true width limit n line fs e later = keeps (breaks.Name line) (min (line + 1) last_line) fs ∙ ap (λ l. Some (breaks.Name l)) e
after_line false true limit n line fs e later = keeps (breaks.Width line) (min (line + 1) last_line) fs ∙ ap (λ l. Some (breaks.Width l)) e
after_line false false true n line fs e later = keeps (breaks.Limit line) (min (line + 1) last_line) fs ∙ ap (λ l. Some (breaks.Limit l)) e
after_line false false false n line fs e later = later

next_line : (n line : ℕ) → line ≡ min n last_line → min (line + 1) last_line ≡ min (n + 1) last_line
next_line n line e = omega arith

found_from : (fs : List Faults) (n line : ℕ) → line ≡ min n last_line → (over (record { line = line; found = None }) fs).found ≡ option_map told_break (first_break n fs)
found_from [] n line e = refl
found_from (f ∷ fs) n line e = after_line f.name f.width f.limit n line fs e (found_from fs (n + 1) (min (line + 1) last_line) (next_line n line e))

-- the search tells the first break
pub found_first : (fs : List Faults) → (over start fs).found ≡ option_map told_break (first_break 1 fs)
found_first fs = found_from fs 1 1 refl

regroup : (a b c d e : List Faults) → (((a ++ b) ++ c) ++ d) ++ e ≡ a ++ (((b ++ c) ++ d) ++ e)
regroup a b c d e = simp append_assoc

-- past all lines of a module: past those to its last declaration, and then past the others
pub lines_over : (s : Search) (is_main : Bool) (before : List PlainModule) (own : Counts) (m : PlainModule)
    → over (over s (signature_faults is_main before own m)) (body_faults before m) ≡ over s (lines_faults is_main before own m)
lines_over s is_main before own m =
    sym (over_append s (signature_faults is_main before own m) (body_faults before m)) ∙ ap (over s) (sym (regroup (signature_faults is_main before own m) _ _ _ _))

-- past the lines to the last declaration, one kind after another
pub signature_pieces : (is_main : Bool) (before : List PlainModule) (own : Counts) (m : PlainModule) (s s1 s2 s3 s4 : Search) (d1 d2 names : List (List ℕ)) (ps : List PlainPort) (ds : List PlainDecl)
    → s1 ≡ noted s (module_faults is_main before own m) → s2 ≡ over s1 (ports_faults is_main d1 [] 0 ps) → s3 ≡ noted s2 no_faults → s4 ≡ over s3 (decls_faults d2 names ds)
    → d1 ≡ drivers_in before m → d2 ≡ drivers_in before m → names ≡ map (λ p. p.name) m.ports → ps ≡ m.ports → ds ≡ m.decls
    → s4 ≡ over s (signature_faults is_main before own m)
signature_pieces is_main before own m s s1 s2 s3 s4 d1 d2 names ps ds e1 e2 e3 e4 f1 f2 f3 f4 f5 =
    e4
    ∙ ap (λ d. over s3 (decls_faults d names ds)) f2 ∙ ap (λ n. over s3 (decls_faults (drivers_in before m) n ds)) f3 ∙ ap (λ x. over s3 (decls_faults (drivers_in before m) (map (λ p. p.name) m.ports) x)) f5
    ∙ ap (λ x. over x (decls_faults (drivers_in before m) (map (λ p. p.name) m.ports) m.decls))
    (e3 ∙ ap (λ x. noted x no_faults) (e2 ∙ ap (λ d. over s1 (ports_faults is_main d [] 0 ps)) f1 ∙ ap (λ x. over s1 (ports_faults is_main (drivers_in before m) [] 0 x)) f4
    ∙ ap (λ x. over x (ports_faults is_main (drivers_in before m) [] 0 m.ports)) e1))
    ∙ sym (over_append s (module_faults is_main before own m ∷ ports_faults is_main (drivers_in before m) [] 0 m.ports) (no_faults ∷ decls_faults (drivers_in before m) (map (λ p. p.name) m.ports) m.decls))

body_pieces : (before : List PlainModule) (m : PlainModule) (s s1 s2 s3 s4 : Search) (assigns : List PlainAssign) (instances : List PlainInstance) (e : Option PlainEdge) (names driven : List (List ℕ))
    → s1 ≡ over s (assigns_faults (meant_in m.ports m.decls) [] assigns) → s2 ≡ over s1 (instances_faults before (meant_in m.ports m.decls) names driven instances)
    → s3 ≡ over s2 (edge_faults (meant_in m.ports m.decls) e) → s4 ≡ noted s3 no_faults
    → assigns ≡ m.assigns → instances ≡ m.instances → e ≡ m.edge → names ≡ map (λ p. p.name) m.ports ++ map decl_name m.decls → driven ≡ map (λ a. a.name) m.assigns
    → s4 ≡ over s (body_faults before m)
body_pieces before m s s1 s2 s3 s4 assigns instances e names driven e1 e2 e3 e4 f1 f2 f3 f4 f5 =
    let scope : Scope = meant_in m.ports m.decls in
    let a : List Faults = assigns_faults scope [] m.assigns in
    let i : List Faults = instances_faults before scope (map (λ p. p.name) m.ports ++ map decl_name m.decls) (map (λ a. a.name) m.assigns) m.instances in
    let g : List Faults = edge_faults scope m.edge in
    e4 ∙ ap (λ x. noted x no_faults)
    (e3 ∙ ap (λ x. over s2 (edge_faults scope x)) f3
    ∙ ap (λ x. over x g) (e2 ∙ ap (λ n. over s1 (instances_faults before scope n driven instances)) f4 ∙ ap (λ n. over s1 (instances_faults before scope (map (λ p. p.name) m.ports ++ map decl_name m.decls) n instances)) f5
    ∙ ap (λ x. over s1 (instances_faults before scope (map (λ p. p.name) m.ports ++ map decl_name m.decls) (map (λ a. a.name) m.assigns) x)) f2
    ∙ ap (λ x. over x i) (e1 ∙ ap (λ x. over s (assigns_faults scope [] x)) f1)))
    ∙ sym (over_append s ((a ++ i) ++ g) (no_faults ∷ []) ∙ ap (λ x. noted x no_faults) (over_append s (a ++ i) g ∙ ap (λ x. over x g) (over_append s a i)))

-- past the other lines, by a scope that is the module's
pub body_pieces_by : (scope : Scope) (before : List PlainModule) (m : PlainModule) (s s1 s2 s3 s4 : Search) (assigns : List PlainAssign) (instances : List PlainInstance) (e : Option PlainEdge) (names driven : List (List ℕ))
    → scope ≡ meant_in m.ports m.decls → s1 ≡ over s (assigns_faults scope [] assigns) → s2 ≡ over s1 (instances_faults before scope names driven instances)
    → s3 ≡ over s2 (edge_faults scope e) → s4 ≡ noted s3 no_faults
    → assigns ≡ m.assigns → instances ≡ m.instances → e ≡ m.edge → names ≡ map (λ p. p.name) m.ports ++ map decl_name m.decls → driven ≡ map (λ a. a.name) m.assigns
    → s4 ≡ over s (body_faults before m)
body_pieces_by scope before m s s1 s2 s3 s4 assigns instances e names driven q e1 e2 e3 e4 f1 f2 f3 f4 f5 =
    body_pieces before m s s1 s2 s3 s4 assigns instances e names driven
    (e1 ∙ ap (λ x. over s (assigns_faults x [] assigns)) q) (e2 ∙ ap (λ x. over s1 (instances_faults before x names driven instances)) q)
    (e3 ∙ ap (λ x. over s2 (edge_faults x e)) q) e4 f1 f2 f3 f4 f5
