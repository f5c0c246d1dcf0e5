-- A component of a tree, and what stands for it in the design of the tree.
use Rattle.std.specs.Prelude.{◌≡◌, Some, slice_get}
use Rattle.cx_ast.specs.PlainTree.{PlainTree, PlainComponent, plain_component, plain_tree}
use Rattle.cx_meaning.specs.Instances.{Instance}
use Rattle.cx_rules.specs.Ports.{component_of}
use Rattle.cx_numbering.specs.DesignOf.{design_of}
use Rattle.cx_design.specs.PlainDesigns.{plain_design}
use Rattle.cx_promote.specs.declared.sites.Site.{Site}

abbrev pub tree_at : Site → PlainTree
tree_at site = plain_tree site.tree.now

abbrev pub part_at : Site → PlainComponent
part_at site = plain_component site.part.now

abbrev pub instance_at : Site → Instance
instance_at site = component_of (plain_design site.design.now) site.number

-- the design is that of the tree, and the component is the one of the number
pub record IsSite (site : Site) : Type 0 where
  pub its : plain_design site.design.now ≡ design_of (tree_at site)
  pub part : slice_get (tree_at site).components site.number ≡ Some (part_at site)
