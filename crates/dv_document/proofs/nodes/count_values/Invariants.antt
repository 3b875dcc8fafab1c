use Rattle.std.proofs.Common.{◌≡◌, ◌+◌, ◌≤◌, drop, map}
use Rattle.json.specs.Tape.{node_token}
use Rattle.dv_document.specs.Nodes.{beginnings}
use Rattle.dv_document.proofs.nodes.count_values.Given as goal

abbrev pub invariant-loop-node : goal.invariant-loop-node
invariant-loop-node l = record {
  counted : l.count + beginnings (map node_token (drop l.node-index l.nodes)) ≡ beginnings (map node_token l.nodes);
  most : l.count ≤ l.node-index;
}
