use Rattle.std.proofs.Common.{arith}
use Rattle.cx_numbering.specs.Names.{group_names}
use Rattle.cx_ast.specs.PlainTree.{plain_component}
use Rattle.cx_names_scopes.proofs.NameLemmas.{group_within, group_absent, group_present, there_if}
use Rattle.cx_names_scopes.proofs.scopes.Scope.group.Goals as goal

pub index-requires : goal.index-requires
index-requires c = omega (arith, c.args.self.now.own.now.groups.words.ok, group_within _ c.args.self.now.own.now.groups c.args.name.now _ c.requires.own.groups c.in-Some.ensures.value)

pub returns-in-None : goal.returns-in-None
returns-in-None c = record {
  word = group_absent _ c.args.self.now.own.now.groups c.args.name.now c.requires.own.groups c.in-None.ensures.value;
  there = there_if (group_names (plain_component c.args.self.now.part.now)) c.args.self.now.own.now.groups.numbers c.args.name.now _ c.requires.own.groups.numbers c.in-None.ensures.value;
}

pub returns-in-Some : goal.returns-in-Some
returns-in-Some c = record {
  word = group_present _ c.args.self.now.own.now.groups c.args.name.now _ _ c.requires.own.groups c.in-Some.ensures.value c.index.ensures;
  there = there_if (group_names (plain_component c.args.self.now.part.now)) c.args.self.now.own.now.groups.numbers c.args.name.now _ c.requires.own.groups.numbers c.in-Some.ensures.value;
}
