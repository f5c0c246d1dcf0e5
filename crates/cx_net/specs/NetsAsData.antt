-- What a `Net` stands for, as plain data.
use Rattle.cx_net.specs.Nets.{PlainNet}
use Rattle.cx_net.specs.PlainNets.{net_of_parts}
use Rattle.cx_net.specs.declared.nets.Net.{Net}

abbrev pub plain_net : Net → PlainNet
plain_net n = net_of_parts n.components.items n.main
