use Rattle.cx_vlaws.proofs.Mains.{clock_unread}
use Rattle.cx_vlaws.proofs.main_module.clock_is_unread.Goals as goal

pub returns : goal.returns
returns c scope e named = clock_unread scope e named
