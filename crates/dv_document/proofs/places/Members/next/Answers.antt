use Rattle.std.proofs.Common.{◌+◌, ◌∷◌, refl, ap, ◌∙◌, arith}
use Rattle.json.specs.Tape.{node_token}
use Rattle.json.specs.declared.tape.Node.TheVariants.{Object}
use Rattle.dv_document.specs.Places.{tokens_from}
use Rattle.dv_document.proofs.Ends.{as_long, here, no_key, none_past, stands_within}
use Rattle.dv_document.proofs.Here.{is_key, next_member, no_member, value_begins}
use Rattle.dv_document.proofs.places.Members.next.Goals as goal

pub returns-then-self-nodes-clause-value : goal.returns-then-self-nodes-clause-value
returns-then-self-nodes-clause-value c =
    let ns = c.nodes-nodes.result.now in
    let ts = c.args.self.now.tape.now in
    let same = c.nodes-nodes.ensures.tokens in
    let i = c.args.self.now.at in
    no_member (tokens_from ts i) c.args.self.now.inside (ap is_key (none_past ts i (omega (arith, as_long ns ts same, c.if-self-nodes.true))))

pub returns-in_default : goal.returns-in_default
returns-in_default c =
    let ns = c.nodes-nodes.result.now in
    let ts = c.args.self.now.tape.now in
    let same = c.nodes-nodes.ensures.tokens in
    let i = c.args.self.now.at in
    record {
      value = no_member (tokens_from ts i) c.args.self.now.inside
          (ap is_key (here ns ts same i (Object 0) c.if-self-nodes.false) ∙ no_key _ _ c.in_default.not-Key);
      once = tt;
      shorter = tt;
      within = tt;
      stays = λ e. refl;
    }

pub after-self-requires : goal.after-self-requires
after-self-requires c =
    let ns = c.nodes-nodes.result.now in
    let ts = c.args.self.now.tape.now in
    let same = c.nodes-nodes.ensures.tokens in
    let i = c.args.self.now.at in
    let named = here ns ts same i (Object 0) c.if-self-nodes.false ∙ ap (λ n. node_token n ∷ tokens_from ts (i + 1)) c.in-Key.is in
    record { begins = stands_within ts (i + 1) (value_begins _ (tokens_from ts i) _ c.args.self.now.inside named) }

pub invariant_of-self : goal.invariant_of-self
invariant_of-self c =
    let ns = c.nodes-nodes.result.now in
    let ts = c.args.self.now.tape.now in
    let same = c.nodes-nodes.ensures.tokens in
    let i = c.args.self.now.at in
    let named = here ns ts same i (Object 0) c.if-self-nodes.false ∙ ap (λ n. node_token n ∷ tokens_from ts (i + 1)) c.in-Key.is in
    let next = next_member c.in-Key.key.now (tokens_from ts i) (tokens_from ts (i + 1)) (tokens_from ts c.after-self.result)
    c.args.self.now.inside named c.after-self.ensures.rest in
    record { inside = next.goes_on }

pub invariant_of-result : goal.invariant_of-result
invariant_of-result c =
    let ns = c.nodes-nodes.result.now in
    let ts = c.args.self.now.tape.now in
    let same = c.nodes-nodes.ensures.tokens in
    let i = c.args.self.now.at in
    let named = here ns ts same i (Object 0) c.if-self-nodes.false ∙ ap (λ n. node_token n ∷ tokens_from ts (i + 1)) c.in-Key.is in
    let begins = value_begins c.in-Key.key.now (tokens_from ts i) (tokens_from ts (i + 1)) c.args.self.now.inside named in
    record { stands = begins }

pub returns-clause-value : goal.returns-clause-value
returns-clause-value c =
    let ns = c.nodes-nodes.result.now in
    let ts = c.args.self.now.tape.now in
    let same = c.nodes-nodes.ensures.tokens in
    let i = c.args.self.now.at in
    let named = here ns ts same i (Object 0) c.if-self-nodes.false ∙ ap (λ n. node_token n ∷ tokens_from ts (i + 1)) c.in-Key.is in
    (next_member c.in-Key.key.now (tokens_from ts i) (tokens_from ts (i + 1)) (tokens_from ts c.after-self.result)
    c.args.self.now.inside named c.after-self.ensures.rest).members

pub returns-clause-once : goal.returns-clause-once
returns-clause-once c =
    let ns = c.nodes-nodes.result.now in
    let ts = c.args.self.now.tape.now in
    let same = c.nodes-nodes.ensures.tokens in
    let i = c.args.self.now.at in
    let named = here ns ts same i (Object 0) c.if-self-nodes.false ∙ ap (λ n. node_token n ∷ tokens_from ts (i + 1)) c.in-Key.is in
    (next_member c.in-Key.key.now (tokens_from ts i) (tokens_from ts (i + 1)) (tokens_from ts c.after-self.result)
    c.args.self.now.inside named c.after-self.ensures.rest).once
