use Rattle.std.proofs.Common.{ℕ, List, ◌++◌, ◌∷◌, [], ap, sym, ◌∙◌, subst}
use Rattle.dv_prims.specs.Tickets.{IsKept, waiting_of}
use Rattle.dv_prims.proofs.WaitingLemmas.{is_new, kept_more, waits_last}
use Rattle.dv_prims.proofs.waiting_list.WaitingList.push_back.Goals as goal

pub keep-requires : goal.keep-requires
keep-requires c = record {
  new = is_new c.self.inside.order c.self.inside.tickets c.self.inside.given c.number.result c.self.invariant;
}

pub invariant_of-self-2 : goal.invariant_of-self-2
invariant_of-self-2 c =
    let e = c.in_ok-keep.ensures in
    subst (IsKept c.keep.new.order c.keep.new.tickets) (sym c.in-Some.ensures.1)
    (kept_more c.self.inside.order c.keep.new.order c.self.inside.tickets c.keep.new.tickets c.self.inside.given
    c.number.result c.self.invariant e.ordered e.ascends e.holds e.found)

pub returns-clause-ok : goal.returns-clause-ok
returns-clause-ok c =
    let order = c.self.inside.order.entries in
    let last = waits_last c.self.inside.given c.number.result order c.self.invariant.below in
    ap waiting_of c.in_ok-keep.ensures.ordered ∙ last ∙ ap (λ (n : ℕ). waiting_of order ++ n ∷ []) c.number.ensures
    ∙ ap (λ (ws : List ℕ). ws ++ c.args.id ∷ []) c.self.view_is
