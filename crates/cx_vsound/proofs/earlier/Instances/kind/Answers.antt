use Rattle.std.proofs.Common.{◌≡◌, Some, None, map, ap, ◌∙◌}
use Rattle.cx_vtree.specs.PlainParts.{plain_instance}
use Rattle.cx_vtree.specs.Sound.{instance_kind}
use Rattle.cx_vtree.specs.NameNumbers.{number_by}
use Rattle.cx_vsound.proofs.FirstLemmas.{kind_none, kind_past, kind_there}
use Rattle.cx_text.proofs.ListLaws.{read_at}
use Rattle.cx_vsound.proofs.earlier.Instances.kind.Goals as goal

pub returns-in_default : goal.returns-in_default
returns-in_default c =
    let is : None ≡ number_by c.self.inside.first c.args.name.now = c.in_default.ensures.value in
    kind_none c.self.inside.first (map plain_instance c.self.inside.list.now) c.args.name.now c.self.invariant is
    ∙ ap (λ l. instance_kind l c.args.name.now) c.self.view_is

pub returns-in-None : goal.returns-in-None
returns-in-None c =
    let is : Some c.in-Some.number.now ≡ number_by c.self.inside.first c.args.name.now = c.in-Some.ensures.value in
    kind_past c.self.inside.first c.args.name.now c.in-Some.number.now is c.self.inside.list.now c.self.invariant c.in-None.ensures.lookup.3
    ∙ ap (λ l. instance_kind l c.args.name.now) c.self.view_is

pub returns-in-Some-get : goal.returns-in-Some-get
returns-in-Some-get c =
    let is : Some c.in-Some.number.now ≡ number_by c.self.inside.first c.args.name.now = c.in-Some.ensures.value in
    let there = read_at c.self.inside.list.now c.in-Some.number.now c.in-Some-get.instance.now c.in-Some-get.ensures.lookup.3.0 c.in-Some-get.ensures.lookup.1 in
    kind_there c.self.inside.first c.args.name.now c.in-Some.number.now is c.self.inside.list.now c.in-Some-get.instance.now c.self.invariant there
    ∙ ap (λ l. instance_kind l c.args.name.now) c.self.view_is
