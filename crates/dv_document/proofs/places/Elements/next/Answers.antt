use Rattle.std.proofs.Common.{◌+◌, ◌∷◌, ap, ◌∙◌, arith}
use Rattle.json.specs.Tape.{node_token}
use Rattle.json.specs.declared.tape.Node.TheVariants.{Object}
use Rattle.dv_document.specs.Places.{tokens_from}
use Rattle.dv_document.proofs.Ends.{array_within, as_long, goes_on, here}
use Rattle.dv_document.proofs.Here.{is_end, next_item, no_item}
use Rattle.dv_document.proofs.places.Elements.next.Goals as goal

pub returns-then-at-nodes-clause-value : goal.returns-then-at-nodes-clause-value
returns-then-at-nodes-clause-value c =
    let long = as_long c.nodes-nodes.result.now c.args.self.now.tape.now c.nodes-nodes.ensures.tokens in
    absurd (array_within c.args.self.now.tape.now c.args.self.now.at c.args.self.now.inside (omega (arith, long, c.if-at-nodes.true)))

pub returns-in-EndArray-clause-value : goal.returns-in-EndArray-clause-value
returns-in-EndArray-clause-value c =
    let ns = c.nodes-nodes.result.now in
    let ts = c.args.self.now.tape.now in
    let same = c.nodes-nodes.ensures.tokens in
    let i = c.args.self.now.at in
    no_item (tokens_from ts i) c.args.self.now.inside
    (ap is_end (here ns ts same i (Object 0) c.if-at-nodes.false) ∙ ap (λ n. is_end (node_token n ∷ tokens_from ts (i + 1))) c.in-EndArray.is)

pub after-self-requires : goal.after-self-requires
after-self-requires c =
    let long = as_long c.nodes-nodes.result.now c.args.self.now.tape.now c.nodes-nodes.ensures.tokens in
    omega (arith, long, c.if-at-nodes.false)

pub invariant_of-self : goal.invariant_of-self
invariant_of-self c =
    let ns = c.nodes-nodes.result.now in
    let ts = c.args.self.now.tape.now in
    let same = c.nodes-nodes.ensures.tokens in
    let i = c.args.self.now.at in
    let going = ap is_end (here ns ts same i (Object 0) c.if-at-nodes.false) ∙ goes_on _ _ c.in_default.not-EndArray in
    let next = next_item (tokens_from ts i) (tokens_from ts c.after-self.result) c.args.self.now.inside
    going c.after-self.ensures.rest in
    record { inside = next.goes_on }

pub invariant_of-result : goal.invariant_of-result
invariant_of-result c =
    let ns = c.nodes-nodes.result.now in
    let ts = c.args.self.now.tape.now in
    let same = c.nodes-nodes.ensures.tokens in
    let i = c.args.self.now.at in
    let going = ap is_end (here ns ts same i (Object 0) c.if-at-nodes.false) ∙ goes_on _ _ c.in_default.not-EndArray in
    let next = next_item (tokens_from ts i) (tokens_from ts c.after-self.result) c.args.self.now.inside
    going c.after-self.ensures.rest in
    record { stands = next.begins }

pub returns : goal.returns
returns c =
    let ns = c.nodes-nodes.result.now in
    let ts = c.args.self.now.tape.now in
    let same = c.nodes-nodes.ensures.tokens in
    let i = c.args.self.now.at in
    let going = ap is_end (here ns ts same i (Object 0) c.if-at-nodes.false) ∙ goes_on _ _ c.in_default.not-EndArray in
    let next = next_item (tokens_from ts i) (tokens_from ts c.after-self.result) c.args.self.now.inside
    going c.after-self.ensures.rest in
    record {
      value = next.items;
      shorter = omega (arith, as_long ns ts same, c.after-self.ensures.later, c.if-at-nodes.false);
      within = omega arith;
      stays = λ e. grind (arith, e);
    }
