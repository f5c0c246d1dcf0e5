-- A component whose ports all stay is the same one.
use Rattle.std.proofs.Common.{◌≡◌, List, [], map, refl, ap, ◌∙◌}
use Rattle.cx_meaning.specs.declared.ports.PortRef.{PortRef}
use Rattle.cx_meaning.specs.Designs.{PlainGuard, Always, Atom, Negation, All, Any, Compared, Within, PlainGuards, no_guards, a_guard, PlainAssign, PlainGroup, PlainInvoke, PlainForm, Empty, Enable, Seq, Par, If, While, Repeat, StaticSeq, StaticPar, StaticIf, StaticRepeat, Timed, PlainStatement, Placed, PlainStatements, no_statements, a_statement, PlainComponent}
use Rattle.cx_rewrites.specs.Moving.{moved_guard, moved_guards, moved_assign, moved_group, moved_form, moved_statement, moved_statements}
use Rattle.cx_profile.specs.Renumbering.{renumber}
use Rattle.cx_profile.specs.Growing.{moved_invoke, kept_part}
use Rattle.cx_profile.proofs.DoneLemmas.{renumber-none}
use Rattle.cx_text.proofs.ListLaws.{same_map}

abbrev stay : PortRef → PortRef
stay p = p

mutual
  guard-same : (g : PlainGuard) → moved_guard stay g ≡ g
  guard-same Always = refl
  guard-same (Atom p) = refl
  guard-same (Negation g) = ap Negation (guard-same g)
  guard-same (All gs) = ap All (guards-same gs)
  guard-same (Any gs) = ap Any (guards-same gs)
  guard-same (Compared c a b) = refl
  guard-same (Within from to) = refl

  guards-same : (gs : PlainGuards) → moved_guards stay gs ≡ gs
  guards-same no_guards = refl
  guards-same (a_guard g gs) = ap (λ x. a_guard x (moved_guards stay gs)) (guard-same g) ∙ ap (a_guard g) (guards-same gs)

mutual
  form-same : (form : PlainForm) → moved_form stay form ≡ form
  form-same Empty = refl
  form-same (Enable g) = refl
  form-same (Seq parts) = ap Seq (statements-same parts)
  form-same (Par arms) = ap Par (statements-same arms)
  form-same (If test comb a b) = ap (λ x. If test comb x (moved_statement stay b)) (statement-same a) ∙ ap (If test comb a) (statement-same b)
  form-same (While test comb a) = ap (While test comb) (statement-same a)
  form-same (Repeat count a) = ap (Repeat count) (statement-same a)
  form-same (StaticSeq length parts) = ap (StaticSeq length) (statements-same parts)
  form-same (StaticPar length arms) = ap (StaticPar length) (statements-same arms)
  form-same (StaticIf length test a b) = ap (λ x. StaticIf length test x (moved_statement stay b)) (statement-same a) ∙ ap (StaticIf length test a) (statement-same b)
  form-same (StaticRepeat length count a) = ap (StaticRepeat length count) (statement-same a)
  form-same (Timed k) = refl

  statement-same : (s : PlainStatement) → moved_statement stay s ≡ s
  statement-same (Placed form place) = ap (λ f. Placed f place) (form-same form)

  statements-same : (ss : PlainStatements) → moved_statements stay ss ≡ ss
  statements-same no_statements = refl
  statements-same (a_statement s ss) = ap (λ x. a_statement x (moved_statements stay ss)) (statement-same s) ∙ ap (a_statement s) (statements-same ss)

assign-same : (a : PlainAssign) → moved_assign stay a ≡ a
assign-same a = ap (λ g. record { target = a.target; guard = g; source = a.source; place = a.place }) (guard-same a.guard)

assigns-same : (assigns : List PlainAssign) → map (moved_assign stay) assigns ≡ assigns
assigns-same = same_map (moved_assign stay) assign-same

group-same : (g : PlainGroup) → moved_group stay g ≡ g
group-same g = ap (λ l. record { name = g.name; kind = g.kind; assigns = l; place = g.place }) (assigns-same g.assigns)

invoke-same : (v : PlainInvoke) → moved_invoke stay v ≡ v
invoke-same v = ap (λ l. record { cell = v.cell; written = v.written; length = v.length; latency = v.latency; inputs = l; captures = v.captures }) (assigns-same v.inputs)

part-same : (part : PlainComponent) → kept_part stay part ≡ part
part-same part =
    ap (λ gs. made gs (map (moved_invoke stay) part.invokes) (map (moved_assign stay) part.always) (moved_statement stay part.control)) (same_map (moved_group stay) group-same part.groups)
    ∙ ap (λ vs. made part.groups vs (map (moved_assign stay) part.always) (moved_statement stay part.control)) (same_map (moved_invoke stay) invoke-same part.invokes)
    ∙ ap (λ l. made part.groups part.invokes l (moved_statement stay part.control)) (assigns-same part.always)
    ∙ ap (made part.groups part.invokes part.always) (statement-same part.control)
  where
    made : List PlainGroup → List PlainInvoke → List PlainAssign → PlainStatement → PlainComponent
    made groups invokes always control = record {
      name = part.name;
      latency = part.latency;
      inputs = part.inputs;
      outputs = part.outputs;
      cells = part.cells;
      groups = groups;
      invokes = invokes;
      always = always;
      control = control;
      place = part.place;
    }

-- WITHOUT NEW NUMBERS a component stays as it is
pub kept_same : (part : PlainComponent) → kept_part (renumber []) part ≡ part
kept_same part = ap (λ move. kept_part move part) renumber-none ∙ part-same part
