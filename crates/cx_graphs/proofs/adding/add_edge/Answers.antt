use Rattle.std.proofs.Common.{refl, slice_set}
use Rattle.cx_graphs.proofs.Additions.{edge_added}
use Rattle.cx_graphs.proofs.Members.{targets_are}
use Rattle.cx_graphs.proofs.adding.add_edge.Goals as goal

pub returns : goal.returns
returns c =
    let lists = c.args.graph.now.items in
    let before = c.index_mut.result.now in
    record {
      value = edge_added lists (slice_set lists c.args.from c.push.new.self) c.args.from c.args.to before c.push.new.self c.requires.within
          (targets_are lists c.args.from before c.requires.within c.index_mut.ensures.value) c.in_ok-push.ensures.items refl;
    }
