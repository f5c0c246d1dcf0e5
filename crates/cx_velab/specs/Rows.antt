-- What the rows of a table stand for.
use Rattle.std.specs.Prelude.{◌≡◌, ℕ, List, length, map, reverse, take, option_map}
use Rattle.std.specs.Borrow.{Bor}
use Rattle.std.specs.HashMap.{HashMap}
use Rattle.cx_vtree.specs.declared.modules.Module.{Module}
use Rattle.cx_vtree.specs.Plain.{PlainModule}
use Rattle.cx_vtree.specs.PlainParts.{plain_conn, plain_instance, plain_module, plain_modules}
use Rattle.cx_vtree.specs.InstanceTree.{Placed}
use Rattle.cx_vtree.specs.NameNumbers.{number_by}
use Rattle.cx_velab.specs.declared.tree.Row.{Row}
use Rattle.cx_velab.specs.declared.tree.Pending.{Pending}
use Rattle.cx_velab.specs.Trees.{PlainPending, found_from}

abbrev pub placed_of : Row → Placed
placed_of r =
    record {
      part = plain_module r.module.now;
      name = r.instance.now.name;
      holder = r.holder;
      conns = map plain_conn r.instance.now.conns.items;
    }

abbrev pub plain_pending : List PlainModule → Pending → PlainPending
plain_pending modules p =
    record {
      before = take p.before modules;
      instances = map plain_instance p.instances.now;
      holder = p.holder;
    }

-- a module with its number among some, and those before it
abbrev pub plain_found : List PlainModule → Bor Module × ℕ → PlainModule × List PlainModule
plain_found modules p = (plain_module p.0.now, reverse (take p.1 modules))

abbrev pub plain_last : Bor Module × Bor (List Module) → PlainModule × List PlainModule
plain_last p = (plain_module p.0.now, reverse (plain_modules p.1.now))

-- each name has the number of the last module of it, and no other name has one
abbrev pub HasLast : {S : Type 0} → HashMap (Bor (List ℕ)) ℕ S → List PlainModule → Type 0
HasLast found modules =
    (name : List ℕ)
    → number_by found name ≡ option_map (λ p. length p.1) (found_from (reverse modules) name)
