use Rattle.std.proofs.Common.{◌+◌, subst, arith}
use Rattle.json.specs.Tape.{node_token}
use Rattle.json.specs.declared.tape.Node.TheVariants.{Object}
use Rattle.dv_document.specs.Places.{tokens_from}
use Rattle.dv_document.specs.Tokens.{data_at}
use Rattle.dv_document.proofs.Ends.{as_long, shows_at, stands_within}
use Rattle.dv_document.proofs.Here.{Shows}
use Rattle.dv_document.proofs.places.Json.kind.Goals as goal

pub unreachable-requires : goal.unreachable-requires
unreachable-requires c =
    let long = as_long c.nodes-nodes.result.now c.args.self.tape.now c.nodes-nodes.ensures.tokens in
    omega (arith, long, stands_within c.args.self.tape.now c.args.self.at c.args.self.stands, c.if-self-nodes.true)

pub unreachable-requires-in-EndObject : goal.unreachable-requires-in-EndObject
unreachable-requires-in-EndObject c =
    let ns = c.nodes-nodes.result.now in
    let ts = c.args.self.tape.now in
    let same = c.nodes-nodes.ensures.tokens in
    let i = c.args.self.at in
    grind (arith, shows_at ns ts same i (Object 0) c.args.self.stands, c.in-EndObject.is)

pub returns-in-Null-clause-value : goal.returns-in-Null-clause-value
returns-in-Null-clause-value c =
    let ns = c.nodes-nodes.result.now in
    let ts = c.args.self.tape.now in
    let same = c.nodes-nodes.ensures.tokens in
    let i = c.args.self.at in
    subst (λ n. Shows (node_token n) (tokens_from ts (i + 1)) (data_at (tokens_from ts i))) c.in-Null.is
    (shows_at ns ts same i (Object 0) c.args.self.stands)

pub returns-in-Bool-clause-value : goal.returns-in-Bool-clause-value
returns-in-Bool-clause-value c =
    let ns = c.nodes-nodes.result.now in
    let ts = c.args.self.tape.now in
    let same = c.nodes-nodes.ensures.tokens in
    let i = c.args.self.at in
    subst (λ n. Shows (node_token n) (tokens_from ts (i + 1)) (data_at (tokens_from ts i))) c.in-Bool.is
    (shows_at ns ts same i (Object 0) c.args.self.stands)

pub returns-in-Number-clause-value : goal.returns-in-Number-clause-value
returns-in-Number-clause-value c =
    let ns = c.nodes-nodes.result.now in
    let ts = c.args.self.tape.now in
    let same = c.nodes-nodes.ensures.tokens in
    let i = c.args.self.at in
    subst (λ n. Shows (node_token n) (tokens_from ts (i + 1)) (data_at (tokens_from ts i))) c.in-Number.is
    (shows_at ns ts same i (Object 0) c.args.self.stands)

pub returns-in-String-clause-value : goal.returns-in-String-clause-value
returns-in-String-clause-value c =
    let ns = c.nodes-nodes.result.now in
    let ts = c.args.self.tape.now in
    let same = c.nodes-nodes.ensures.tokens in
    let i = c.args.self.at in
    subst (λ n. Shows (node_token n) (tokens_from ts (i + 1)) (data_at (tokens_from ts i))) c.in-String.is
    (shows_at ns ts same i (Object 0) c.args.self.stands)

pub invariant_of-result : goal.invariant_of-result
invariant_of-result c =
    let ns = c.nodes-nodes.result.now in
    let ts = c.args.self.tape.now in
    let same = c.nodes-nodes.ensures.tokens in
    let i = c.args.self.at in
    let shown = subst (λ n. Shows (node_token n) (tokens_from ts (i + 1)) (data_at (tokens_from ts i))) c.in-Array.is
    (shows_at ns ts same i (Object 0) c.args.self.stands) in
    record { inside = shown.1 }

pub returns-in-Array-clause-value : goal.returns-in-Array-clause-value
returns-in-Array-clause-value c =
    let ns = c.nodes-nodes.result.now in
    let ts = c.args.self.tape.now in
    let same = c.nodes-nodes.ensures.tokens in
    let i = c.args.self.at in
    let shown = subst (λ n. Shows (node_token n) (tokens_from ts (i + 1)) (data_at (tokens_from ts i))) c.in-Array.is
    (shows_at ns ts same i (Object 0) c.args.self.stands) in
    shown.0

pub invariant_of-result-in-Object : goal.invariant_of-result-in-Object
invariant_of-result-in-Object c =
    let ns = c.nodes-nodes.result.now in
    let ts = c.args.self.tape.now in
    let same = c.nodes-nodes.ensures.tokens in
    let i = c.args.self.at in
    let shown = subst (λ n. Shows (node_token n) (tokens_from ts (i + 1)) (data_at (tokens_from ts i))) c.in-Object.is
    (shows_at ns ts same i (Object 0) c.args.self.stands) in
    record { inside = shown.1 }

pub returns-in-Object-clause-value : goal.returns-in-Object-clause-value
returns-in-Object-clause-value c =
    let ns = c.nodes-nodes.result.now in
    let ts = c.args.self.tape.now in
    let same = c.nodes-nodes.ensures.tokens in
    let i = c.args.self.at in
    let shown = subst (λ n. Shows (node_token n) (tokens_from ts (i + 1)) (data_at (tokens_from ts i))) c.in-Object.is
    (shows_at ns ts same i (Object 0) c.args.self.stands) in
    shown.0
