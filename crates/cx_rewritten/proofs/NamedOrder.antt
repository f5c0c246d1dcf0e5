-- A tree with other names of cells keeps the order of its assignments and invokes.
use Rattle.std.proofs.Common.{◌≡◌, ℕ, List, [], ◌∷◌, ◌++◌, map, flat_map, Option, Some, None, option_map, refl, sym, ap, ◌∙◌}
use Rattle.std.proofs.lemmas.List.{map-append}
use Rattle.cx_text.specs.declared.places.Place.{Place}
use Rattle.cx_ast.specs.PlainTree as ast
use Rattle.cx_ast.specs.PlainStatements as statements
use Rattle.cx_copies.specs.Naming.{named_assign, named_wire, named_form, named_else, named_block, named_statements}
use Rattle.cx_numbering.specs.DesignOf.{Invoke, invokes_in, invokes_else, invokes_of, invokes_all}
use Rattle.cx_rewritten.specs.Ordered.{wire_places, invoke_places}

module _ (name : List ℕ → List ℕ) where
  -- WIRES
  assigns-named : (list : List ast.PlainAssign) → map (λ a. a.place) (map (named_assign name) list) ≡ map (λ a. a.place) list
  assigns-named [] = refl
  assigns-named (a ∷ rest) = ap (λ ps. a.place ∷ ps) (assigns-named rest)

  wire-named : (w : ast.PlainWire) → wire_places (named_wire name w) ≡ wire_places w
  wire-named (ast.Group g) = assigns-named g.assigns
  wire-named (ast.Assign a) = refl

  pub wires-named : (ws : List ast.PlainWire) → flat_map wire_places (map (named_wire name) ws) ≡ flat_map wire_places ws
  wires-named [] = refl
  wires-named (w ∷ ws) = ap (λ ps. ps ++ flat_map wire_places (map (named_wire name) ws)) (wire-named w) ∙ ap (λ ps. wire_places w ++ ps) (wires-named ws)

  -- CONTROL
  abbrev places : List Invoke → List Place
  places ks = map (λ k. k.place) ks

  joined : (xs ys us vs : List Invoke) → places xs ≡ places us → places ys ≡ places vs → places (xs ++ ys) ≡ places (us ++ vs)
  joined xs ys us vs e f =
      map-append (λ k. k.place) xs ys ∙ ap (λ ps. ps ++ places ys) e ∙ ap (λ ps. places us ++ ps) f ∙ sym (map-append (λ k. k.place) us vs)

  mutual
    form-named : (f : statements.PlainForm) (place : Place) → places (invokes_in (named_form name f) place) ≡ places (invokes_in f place)
    form-named (statements.Enable group marks) place = refl
    form-named (statements.Seq marks block) place = block-named block
    form-named (statements.Par marks block) place = block-named block
    form-named (statements.StaticSeq written marks block) place = block-named block
    form-named (statements.StaticPar written marks block) place = block-named block
    form-named (statements.If test comb body otherwise) place =
        joined (invokes_of (named_block name body)) (invokes_else (named_else name otherwise)) (invokes_of body) (invokes_else otherwise) (block-named body) (else-named otherwise)
    form-named (statements.StaticIf written test body otherwise) place =
        joined (invokes_of (named_block name body)) (invokes_else (named_else name otherwise)) (invokes_of body) (invokes_else otherwise) (block-named body) (else-named otherwise)
    form-named (statements.While test comb body) place = block-named body
    form-named (statements.Repeat count body) place = block-named body
    form-named (statements.StaticRepeat written count body) place = block-named body
    form-named (statements.Invoke cell inputs outputs) place = refl
    form-named (statements.StaticInvoke written cell inputs outputs) place = refl

    else-named : (e : statements.PlainElse) → places (invokes_else (named_else name e)) ≡ places (invokes_else e)
    else-named statements.NoElse = refl
    else-named (statements.Else block) = block-named block

    block-named : (b : statements.PlainBlock) → places (invokes_of (named_block name b)) ≡ places (invokes_of b)
    block-named (statements.Braces list place) = all-named list

    all-named : (list : statements.PlainStatements) → places (invokes_all (named_statements name list)) ≡ places (invokes_all list)
    all-named statements.NoStatements = refl
    all-named (statements.StatementThen (statements.Placed attributes form place) rest) =
        joined (invokes_in (named_form name form) place) (invokes_all (named_statements name rest)) (invokes_in form place) (invokes_all rest) (form-named form place) (all-named rest)

  pub control-named : (c : Option statements.PlainBlock) → invoke_places (option_map (named_block name) c) ≡ invoke_places c
  control-named None = refl
  control-named (Some block) = block-named block
