use Rattle.std.proofs.Common.{◌≡◌, ◌+◌, ℕ, is_some, ap, sym, ◌∙◌, subst}
use Rattle.std.specs.BTreeMap.{insert_entry}
use Rattle.std.specs.Ordering.{nat_cmp}
use Rattle.dv_clock.specs.Turns.{Turns, joined, number_of, IsKept, FindsToo}
use Rattle.dv_clock.specs.declared.place.Place.{Place}
use Rattle.dv_clock.proofs.TurnsLemmas.{kept_more, seen, seen_more, seen_same, number_is, is_none}
use Rattle.dv_clock.proofs.turns.Turns.add.Goals as goal

pub returns-then-contains_key-clause-ok : goal.returns-then-contains_key-clause-ok
returns-then-contains_key-clause-ok c =
    let order = c.self.inside.order.entries in
    let number = number_is order c.self.inside.numbers.entries c.self.inside.given c.args.task
    c.number-joining.result c.self.inside.place c.self.invariant c.number-joining.ensures in
    let found = sym (ap is_some number) ∙ sym c.contains_key.ensures ∙ c.if-contains_key.true in
    subst (λ (v : Turns). v ≡ joined c.args.task v) c.self.view_is
    (seen_same c.self.inside.rule order c.self.inside.place c.args.task found)

pub invariant_of-self-2 : goal.invariant_of-self-2
invariant_of-self-2 c =
    let order = c.self.inside.order.entries in
    let number = number_is order c.self.inside.numbers.entries c.self.inside.given c.args.task
    c.number-joining.result c.self.inside.place c.self.invariant c.number-joining.ensures in
    let none = is_none (number_of c.args.task order)
    (sym (ap is_some number) ∙ sym c.contains_key.ensures ∙ c.if-contains_key.false) in
    let joins =
    c.in_ok-join.ensures.ordered ∙ ap (insert_entry nat_cmp order c.self.inside.given) c.number-joining.ensures in
    let finds =
    subst (λ (t : ℕ). FindsToo c.self.inside.numbers.entries c.join.new.numbers.entries t c.self.inside.given)
    c.number-joining.ensures c.in_ok-join.ensures.found in
    subst (λ (g : ℕ). IsKept c.join.new.order.entries c.join.new.numbers.entries g c.place_joined-self-inside.result)
    (sym c.in-Some.ensures.1)
    (subst (λ (p : Place). IsKept c.join.new.order.entries c.join.new.numbers.entries (c.self.inside.given + 1) p)
    (sym c.place_joined-self-inside.ensures)
    (kept_more order c.join.new.order.entries c.self.inside.numbers.entries c.join.new.numbers.entries
    c.self.inside.given
    c.args.task c.self.inside.place c.self.invariant none joins c.in_ok-join.ensures.ascends finds))

pub returns-clause-ok : goal.returns-clause-ok
returns-clause-ok c =
    let order = c.self.inside.order.entries in
    let number = number_is order c.self.inside.numbers.entries c.self.inside.given c.args.task
    c.number-joining.result c.self.inside.place c.self.invariant c.number-joining.ensures in
    let none = is_none (number_of c.args.task order)
    (sym (ap is_some number) ∙ sym c.contains_key.ensures ∙ c.if-contains_key.false) in
    let joins =
    c.in_ok-join.ensures.ordered ∙ ap (insert_entry nat_cmp order c.self.inside.given) c.number-joining.ensures in
    ap (seen c.self.inside.rule c.join.new.order.entries) c.place_joined-self-inside.ensures
    ∙ seen_more c.self.inside.rule order c.join.new.order.entries c.self.inside.numbers.entries c.self.inside.given
    c.args.task c.self.inside.place c.self.invariant none joins
    ∙ ap (joined c.args.task) c.self.view_is
