use Rattle.std.proofs.Common.{◌≡◌, ◌≤◌, drop, map}
use Rattle.json.specs.Tape.{node_token}
use Rattle.serde_json.specs.Read.{max_depth}
use Rattle.dv_document.specs.Fits.{fits}
use Rattle.dv_document.proofs.document.is_within_limits.Given as goal

abbrev pub invariant-loop-node : goal.invariant-loop-node
invariant-loop-node l = record {
  within : l.depth ≤ max_depth;
  left : fits 0 (map node_token l.nodes) ≡ fits l.depth (map node_token (drop l.node-index l.nodes));
}
