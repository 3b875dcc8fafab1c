use Rattle.std.proofs.Common.{◌∙◌, arith}
use Rattle.dv_document.proofs.Counted.{counted}
use Rattle.dv_document.proofs.Ends.{as_long, stands_within}
use Rattle.dv_document.proofs.places.Json.count_nodes.Goals as goal

pub unreachable-requires : goal.unreachable-requires
unreachable-requires c =
    let long = as_long c.nodes-nodes.result.now c.args.self.tape.now c.nodes-nodes.ensures.tokens in
    omega (arith, long, stands_within c.args.self.tape.now c.args.self.at c.args.self.stands, c.if-self-nodes.true)

pub returns : goal.returns
returns c =
    c.count_values.ensures
    ∙ counted c.nodes-nodes.result.now c.args.self.tape.now c.nodes-nodes.ensures.tokens c.args.self.at c.after-end.result
    c.args.self.stands c.after-end.ensures.rest (omega (arith, c.after-end.ensures.later))
