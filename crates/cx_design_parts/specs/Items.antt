-- What the items stand for.
use Rattle.cx_rules.specs.Items as items
use Rattle.cx_design.specs.PlainForms.{plain_form}
use Rattle.cx_design_parts.specs.declared.guards.Pair.{Pair}
use Rattle.cx_design_parts.specs.declared.guards.Range.{Range}
use Rattle.cx_design_parts.specs.declared.control.Context.{Context}
use Rattle.cx_design_parts.specs.declared.control.Context.TheVariants.{Dynamic, InStatic, Branch, Amiss}
use Rattle.cx_design_parts.specs.declared.control.Visited.{Visited}

abbrev pub plain_pair : Pair → items.Pair
plain_pair p = record { first = p.first; second = p.second }

abbrev pub plain_range : Range → items.Range
plain_range r = record { from = r.from; to = r.to }

abbrev pub plain_context : Context → items.Context
plain_context Dynamic = items.Dynamic
plain_context InStatic = items.InStatic
plain_context Branch = items.Branch
plain_context Amiss = items.Amiss

abbrev pub plain_visited : Visited → items.Visited
plain_visited v = record { context = plain_context v.context; form = plain_form v.form.now; place = v.place }
