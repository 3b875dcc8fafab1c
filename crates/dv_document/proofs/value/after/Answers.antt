use Rattle.std.proofs.Common.{arith}
use Rattle.json.specs.declared.tape.Node.TheVariants.{Object}
use Rattle.dv_document.proofs.Ends.{as_long, link_follows, link_later, link_within, one_follows}
use Rattle.dv_document.proofs.value.after.Goals as goal

pub returns-in_default : goal.returns-in_default
returns-in_default c =
    let ns = c.nodes.result.now in
    let ts = c.args.tape.now in
    let long = as_long ns ts c.nodes.ensures.tokens in
    record {
      rest = one_follows ns ts c.nodes.ensures.tokens c.args.at (Object 0) (omega (arith, long, c.requires)) (λ a e. grind arith) (λ a e. grind arith);
      later = omega arith;
      within = omega (arith, c.requires);
    }

pub returns-in-Object-clause-rest : goal.returns-in-Object-clause-rest
returns-in-Object-clause-rest c =
    let long = as_long c.nodes.result.now c.args.tape.now c.nodes.ensures.tokens in
    link_follows c.nodes.result.now c.args.tape.now c.nodes.ensures.links c.args.at c.in-Object.end (Object 0)
    (omega (arith, long, c.requires)) c.in-Object.is

pub returns-in-Object-clause-later : goal.returns-in-Object-clause-later
returns-in-Object-clause-later c =
    let long = as_long c.nodes.result.now c.args.tape.now c.nodes.ensures.tokens in
    link_later c.nodes.result.now c.args.tape.now c.nodes.ensures.links c.args.at c.in-Object.end (Object 0)
    (omega (arith, long, c.requires)) c.in-Object.is

pub returns-in-Object-clause-within : goal.returns-in-Object-clause-within
returns-in-Object-clause-within c =
    let long = as_long c.nodes.result.now c.args.tape.now c.nodes.ensures.tokens in
    link_within c.nodes.result.now c.args.tape.now c.nodes.ensures.links c.args.at c.in-Object.end (Object 0)
    (omega (arith, long, c.requires)) c.in-Object.is

pub returns-in-Object-2-clause-rest : goal.returns-in-Object-2-clause-rest
returns-in-Object-2-clause-rest c =
    let long = as_long c.nodes.result.now c.args.tape.now c.nodes.ensures.tokens in
    link_follows c.nodes.result.now c.args.tape.now c.nodes.ensures.links c.args.at c.in-Object.end (Object 0)
    (omega (arith, long, c.requires)) c.in-Object.is

pub returns-in-Object-2-clause-later : goal.returns-in-Object-2-clause-later
returns-in-Object-2-clause-later c =
    let long = as_long c.nodes.result.now c.args.tape.now c.nodes.ensures.tokens in
    link_later c.nodes.result.now c.args.tape.now c.nodes.ensures.links c.args.at c.in-Object.end (Object 0)
    (omega (arith, long, c.requires)) c.in-Object.is

pub returns-in-Object-2-clause-within : goal.returns-in-Object-2-clause-within
returns-in-Object-2-clause-within c =
    let long = as_long c.nodes.result.now c.args.tape.now c.nodes.ensures.tokens in
    link_within c.nodes.result.now c.args.tape.now c.nodes.ensures.links c.args.at c.in-Object.end (Object 0)
    (omega (arith, long, c.requires)) c.in-Object.is
