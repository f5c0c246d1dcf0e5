use Rattle.std.proofs.Common.{arith}
use Rattle.cx_names_scopes.proofs.NameLemmas.{part_within, index_within, part_absent, part_present, index_at}
use Rattle.cx_names_scopes.proofs.scopes.Scope.component_kind.Goals as goal

pub index-requires : goal.index-requires
index-requires c = omega (arith, c.args.self.now.tree.now.components.ok, part_within _ c.args.self.now.index.now.components c.args.name.now _ c.requires.index.components c.in-Some.ensures.value)

pub index-requires-in-Some : goal.index-requires-in-Some
index-requires-in-Some c = omega (arith, c.args.self.now.index.now.parts.ok, index_within c.args.self.now.tree.now.components.items _ c.args.self.now.index.now.components c.args.name.now _ c.requires.index.components c.in-Some.ensures.value c.requires.index.parts)

pub returns-in-None : goal.returns-in-None
returns-in-None c = record {
  value = part_absent _ c.args.self.now.index.now.components c.args.name.now c.requires.index.components c.in-None.ensures.value;
  sound = tt;
}

pub returns-in-Some : goal.returns-in-Some
returns-in-Some c = record {
  value = part_present _ c.args.self.now.index.now.components c.args.name.now _ c.index.result.now c.requires.index.components c.in-Some.ensures.value c.index.ensures;
  sound = index_at c.args.self.now.tree.now.components.items c.args.self.now.index.now.parts.items _ c.index.result.now c.index-in-Some.result.now c.requires.index.parts (part_within _ c.args.self.now.index.now.components c.args.name.now _ c.requires.index.components c.in-Some.ensures.value) c.index.ensures c.index-in-Some.ensures;
}
