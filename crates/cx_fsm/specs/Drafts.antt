-- What is made of a draft, as far as memory and numbers suffice.
use Rattle.std.specs.Prelude.{◌≡◌, IsTrue, List, ◌++◌}
use Rattle.cx_net.specs.Nets.{PlainNetDriver}
use Rattle.cx_net.specs.PlainNets.{plain_net_drivers}
use Rattle.cx_fsm.specs.declared.drafts.Draft.{Draft}

-- nothing was wanting so far
abbrev pub IsWhole : Draft → Type 0
IsWhole draft = IsTrue draft.is_whole

abbrev pub IfWhole : Draft → Type 0 → Type 0
IfWhole draft said = IsWhole draft → said

-- these drivers are made, where nothing is wanting
pub record Adds (before after : Draft) (made : List PlainNetDriver) : Type 0 where
  pub whole : IfWhole after (IsWhole before)
  pub driven : IfWhole after (plain_net_drivers after.drivers.items ≡ plain_net_drivers before.drivers.items ++ made)

-- no driver is made
pub record Keeps (before after : Draft) : Type 0 where
  pub whole : IfWhole after (IsWhole before)
  pub kept : after.drivers.items ≡ before.drivers.items

-- those that are made, and what is left, are all
pub record AddsRest (before after : Draft) (rest all : List PlainNetDriver) : Type 0 where
  pub whole : IfWhole after (IsWhole before)
  pub driven : IfWhole after
      (plain_net_drivers after.drivers.items ++ rest ≡ plain_net_drivers before.drivers.items ++ all)
