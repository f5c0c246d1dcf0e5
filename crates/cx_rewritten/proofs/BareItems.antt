-- BREAKS, OPERANDS AND STATEMENTS of a tree without places are those of the tree, all at one place.
use Rattle.std.proofs.Common.{◌≡◌, ℕ, Bool, true, false, List, [], ◌∷◌, ◌++◌, Option, Some, None, map, flat_map, option_map, refl, sym, ap, ◌∙◌}
use Rattle.std.proofs.lemmas.List.{map-append}
use Rattle.cx_text.specs.declared.places.Place.{Place}
use Rattle.cx_text.specs.Places.{start}
use Rattle.cx_text.specs.declared.diagnostics.Diagnostic.{Diagnostic}
use Rattle.cx_text.specs.declared.rules.Rule.{Rule}
use Rattle.cx_text.specs.declared.rules.Rule.TheVariants.{Duplicate}
use Rattle.cx_ast.specs.PlainTree as ast
use Rattle.cx_ast.specs.PlainGuards as guards
use Rattle.cx_ast.specs.PlainStatements as statements
use Rattle.cx_print.specs.Places.{bare_operand, bare_guard, bare_guards, bare_form, bare_else, bare_block, bare_statements, bare_assign, bare_group, bare_component}
use Rattle.cx_numbering.specs.Names.{is_among, groups_in, always_in}
use Rattle.cx_numbering.specs.NameRules.{tell, tell_if, Named, named, duplicates, operands_of, operands_in, guard_operands, Standing, standing, Visited, visit_parts, visit_else, visit_block, visit_all, statements_in}
use Rattle.cx_rewritten.proofs.BareNames.{both_ways, each_way, groups_in-bare, always_in-bare}

-- a break at no place of its own
abbrev pub bare_break : Diagnostic → Diagnostic
bare_break d = tell d.rule start d.name

pub told : (t u : Bool) (rule : Rule) (place : Place) (name : List ℕ) → t ≡ u → map bare_break (tell_if t rule place name) ≡ tell_if u rule start name
told true u rule place name e = ap (λ t. tell_if t rule start name) e
told false u rule place name e = ap (λ t. tell_if t rule start name) e

pub joined : (xs ys us vs : List Diagnostic) → map bare_break xs ≡ us → map bare_break ys ≡ vs → map bare_break (xs ++ ys) ≡ us ++ vs
joined xs ys us vs e f = map-append bare_break xs ys ∙ ap (λ ds. ds ++ map bare_break ys) e ∙ ap (λ ds. us ++ ds) f

abbrev pub bare_named : Named → Named
bare_named x = named x.name start

duplicates-bare : (before : List (List ℕ)) (xs : List Named) → map bare_break (duplicates before xs) ≡ duplicates before (map bare_named xs)
duplicates-bare before [] = refl
duplicates-bare before (x ∷ xs) =
    joined (tell_if (is_among x.name before) Duplicate x.place x.name) (duplicates (x.name ∷ before) xs) _ _
    (told (is_among x.name before) _ Duplicate x.place x.name refl) (duplicates-bare (x.name ∷ before) xs)

pub repeats : {A : Type 0} (f : A → A) (n : A → Named) → ((x : A) → bare_named (n x) ≡ n (f x)) → (xs : List A) → map bare_break (duplicates [] (map n xs)) ≡ duplicates [] (map n (map f xs))
repeats f n e xs = duplicates-bare [] (map n xs) ∙ ap (duplicates []) (both_ways n bare_named f n e xs)

-- OPERANDS of a guard
mutual
  pub operands_of-bare : (g : guards.PlainGuard) → map bare_operand (operands_of g) ≡ operands_of (bare_guard g)
  operands_of-bare (guards.Or gs) = operands_in-bare gs
  operands_of-bare (guards.And gs) = operands_in-bare gs
  operands_of-bare (guards.Compare c left right) = refl
  operands_of-bare (guards.Not g) = operands_of-bare g
  operands_of-bare (guards.Operand o) = refl
  operands_of-bare (guards.At n) = refl
  operands_of-bare (guards.During from to) = refl

  operands_in-bare : (gs : guards.PlainGuards) → map bare_operand (operands_in gs) ≡ operands_in (bare_guards gs)
  operands_in-bare guards.NoGuards = refl
  operands_in-bare (guards.GuardThen g gs) =
      map-append bare_operand (operands_of g) (operands_in gs) ∙ ap (λ os. os ++ map bare_operand (operands_in gs)) (operands_of-bare g) ∙ ap (λ os. operands_of (bare_guard g) ++ os) (operands_in-bare gs)

pub guard_operands-bare : (g : Option guards.PlainGuard) → map bare_operand (guard_operands g) ≡ guard_operands (option_map bare_guard g)
guard_operands-bare None = refl
guard_operands-bare (Some g) = operands_of-bare g

-- ASSIGNMENTS with their groups, and statements
abbrev pub bare_standing : Standing → Standing
bare_standing x = record { group = x.group; assign = bare_assign x.assign }

pub standing-bare : (part : ast.PlainComponent) → map bare_standing (standing part) ≡ standing (bare_component part)
standing-bare part =
    map-append bare_standing (map free (always_in part.wires)) (flat_map inside (groups_in part.wires))
    ∙ ap (λ xs. xs ++ map bare_standing (flat_map inside (groups_in part.wires))) (both_ways free bare_standing bare_assign free (λ a. refl) (always_in part.wires) ∙ ap (map free) (sym (always_in-bare part.wires)))
    ∙ ap (λ xs. map free (always_in (bare_component part).wires) ++ xs) (each_way inside bare_standing bare_group inside inside-bare (groups_in part.wires) ∙ ap (flat_map inside) (sym (groups_in-bare part.wires)))
  where
    free : ast.PlainAssign → Standing
    free a = record { group = None; assign = a }

    inside : ast.PlainGroup → List Standing
    inside g = map (λ a. record { group = Some g.name; assign = a }) g.assigns

    inside-bare : (g : ast.PlainGroup) → map bare_standing (inside g) ≡ inside (bare_group g)
    inside-bare g = both_ways (λ a. record { group = Some g.name; assign = a }) bare_standing bare_assign (λ a. record { group = Some g.name; assign = a }) (λ a. refl) g.assigns

abbrev pub bare_visited : Visited → Visited
bare_visited v = record { form = bare_form v.form; place = start }

mutual
  visit_parts-bare : (f : statements.PlainForm) → map bare_visited (visit_parts f) ≡ visit_parts (bare_form f)
  visit_parts-bare (statements.Enable group marks) = refl
  visit_parts-bare (statements.Seq marks block) = visit_block-bare block
  visit_parts-bare (statements.Par marks block) = visit_block-bare block
  visit_parts-bare (statements.StaticSeq written marks block) = visit_block-bare block
  visit_parts-bare (statements.StaticPar written marks block) = visit_block-bare block
  visit_parts-bare (statements.If test comb body otherwise) =
      map-append bare_visited (visit_block body) (visit_else otherwise)
      ∙ ap (λ vs. vs ++ map bare_visited (visit_else otherwise)) (visit_block-bare body) ∙ ap (λ vs. visit_block (bare_block body) ++ vs) (visit_else-bare otherwise)
  visit_parts-bare (statements.StaticIf written test body otherwise) =
      map-append bare_visited (visit_block body) (visit_else otherwise)
      ∙ ap (λ vs. vs ++ map bare_visited (visit_else otherwise)) (visit_block-bare body) ∙ ap (λ vs. visit_block (bare_block body) ++ vs) (visit_else-bare otherwise)
  visit_parts-bare (statements.While test comb body) = visit_block-bare body
  visit_parts-bare (statements.Repeat count body) = visit_block-bare body
  visit_parts-bare (statements.StaticRepeat written count body) = visit_block-bare body
  visit_parts-bare (statements.Invoke cell inputs outputs) = refl
  visit_parts-bare (statements.StaticInvoke written cell inputs outputs) = refl

  visit_else-bare : (e : statements.PlainElse) → map bare_visited (visit_else e) ≡ visit_else (bare_else e)
  visit_else-bare statements.NoElse = refl
  visit_else-bare (statements.Else block) = visit_block-bare block

  pub visit_block-bare : (b : statements.PlainBlock) → map bare_visited (visit_block b) ≡ visit_block (bare_block b)
  visit_block-bare (statements.Braces list place) = visit_all-bare list

  visit_all-bare : (list : statements.PlainStatements) → map bare_visited (visit_all list) ≡ visit_all (bare_statements list)
  visit_all-bare statements.NoStatements = refl
  visit_all-bare (statements.StatementThen (statements.Placed attributes form place) rest) =
      ap (λ vs. record { form = bare_form form; place = start } ∷ vs)
      (map-append bare_visited (visit_parts form) (visit_all rest)
      ∙ ap (λ vs. vs ++ map bare_visited (visit_all rest)) (visit_parts-bare form) ∙ ap (λ vs. visit_parts (bare_form form) ++ vs) (visit_all-bare rest))

pub statements_in-bare : (part : ast.PlainComponent) → map bare_visited (statements_in part) ≡ statements_in (bare_component part)
statements_in-bare part = by part.control
  where
    of_control : Option statements.PlainBlock → List Visited
    of_control None = []
    of_control (Some block) = visit_block block

    by : (c : Option statements.PlainBlock) → map bare_visited (of_control c) ≡ of_control (option_map bare_block c)
    by None = refl
    by (Some block) = visit_block-bare block
