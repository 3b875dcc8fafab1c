use Rattle.std.proofs.Common.{◌≡◌, arith, ℕ, true, false, None, cond, nat_eq, is_some, ap, sym, ◌∙◌, subst}
use Rattle.std.specs.Map.{lookup}
use Rattle.dv_clock.specs.Turns.{Turns, IsKept, left, is_among}
use Rattle.dv_clock.specs.declared.place.Place.{Place}
use Rattle.dv_clock.proofs.TurnsLemmas.{kept_less, next_given, room_left, seen, seen_less, seen_unmoved, number_is}
use Rattle.dv_clock.proofs.TurnsLemmas.{among_is}
use Rattle.dv_clock.proofs.turns.Turns.remove.Goals as goal

pub returns-in_default-clause-was : goal.returns-in_default-clause-was
returns-in_default-clause-was c =
    let order = c.self.inside.order.entries in
    let number = number_is order c.self.inside.numbers.entries c.self.inside.given c.args.task
    c.number-leaving.result c.self.inside.place c.self.invariant c.number-leaving.ensures in
    let none = sym number ∙ sym c.in_default.ensures.value in
    subst (λ (v : Turns). false ≡ is_among c.args.task v.tasks) c.self.view_is
    (sym (among_is c.args.task order ∙ ap is_some none))

pub returns-in_default-clause-rest : goal.returns-in_default-clause-rest
returns-in_default-clause-rest c =
    let order = c.self.inside.order.entries in
    let number = number_is order c.self.inside.numbers.entries c.self.inside.given c.args.task
    c.number-leaving.result c.self.inside.place c.self.invariant c.number-leaving.ensures in
    let none = sym number ∙ sym c.in_default.ensures.value in
    seen_unmoved c.self.inside.rule order c.self.inside.place c.args.task none ∙ ap (left c.args.task) c.self.view_is

pub invariant_of-self-2 : goal.invariant_of-self-2
invariant_of-self-2 c =
    let order = c.self.inside.order.entries in
    let number = number_is order c.self.inside.numbers.entries c.self.inside.given c.args.task
    c.number-leaving.result c.self.inside.place c.self.invariant c.number-leaving.ensures in
    let found = sym number ∙ sym c.in-Some.ensures.value in
    let loses = subst (λ (t : ℕ). (other : ℕ) → lookup (nat_eq other) c.remove.new.self.entries ≡ cond (nat_eq t other)
    None (lookup (nat_eq other) c.self.inside.numbers.entries)) c.number-leaving.ensures c.in-Some.ensures.updates.0 in
    subst (λ (p : Place). IsKept c.remove-2.new.self.entries c.remove.new.self.entries c.self.inside.given p)
    (sym c.place_left-self-inside.ensures)
    (kept_less c.self.inside.rule order c.remove-2.new.self.entries c.self.inside.numbers.entries
    c.remove.new.self.entries
    c.self.inside.given c.args.task c.in-Some.number c.self.inside.place c.self.invariant found
    c.remove-2.ensures.entries c.remove-2.ensures.ordered loses)

pub returns-clause-was : goal.returns-clause-was
returns-clause-was c =
    let order = c.self.inside.order.entries in
    let number = number_is order c.self.inside.numbers.entries c.self.inside.given c.args.task
    c.number-leaving.result c.self.inside.place c.self.invariant c.number-leaving.ensures in
    let found = sym number ∙ sym c.in-Some.ensures.value in
    subst (λ (v : Turns). true ≡ is_among c.args.task v.tasks) c.self.view_is
    (sym (among_is c.args.task order ∙ ap is_some found))

pub returns-clause-rest : goal.returns-clause-rest
returns-clause-rest c =
    let order = c.self.inside.order.entries in
    let number = number_is order c.self.inside.numbers.entries c.self.inside.given c.args.task
    c.number-leaving.result c.self.inside.place c.self.invariant c.number-leaving.ensures in
    let found = sym number ∙ sym c.in-Some.ensures.value in
    ap (seen c.self.inside.rule c.remove-2.new.self.entries) c.place_left-self-inside.ensures
    ∙ seen_less c.self.inside.rule order c.remove-2.new.self.entries c.self.inside.numbers.entries c.self.inside.given
    c.args.task c.in-Some.number c.self.inside.place c.self.invariant found c.remove-2.ensures.entries
    c.remove-2.ensures.ordered
    ∙ ap (left c.args.task) c.self.view_is

pub place_left-self-inside-requires-clause-found : goal.place_left-self-inside-requires-clause-found
place_left-self-inside-requires-clause-found c =
    λ j found_there.
    let order = c.self.inside.order.entries in
    let number = number_is order c.self.inside.numbers.entries c.self.inside.given c.args.task
    c.number-leaving.result c.self.inside.place c.self.invariant c.number-leaving.ensures in
    let found = sym number ∙ sym c.in-Some.ensures.value in
    let given = next_given order c.remove-2.new.self.entries c.self.inside.numbers.entries c.self.inside.given
    c.args.task c.in-Some.number c.self.inside.place.next c.self.inside.place j c.self.invariant found
    c.remove-2.ensures.entries found_there in
    omega (arith, given)

pub place_left-self-inside-requires-clause-beyond : goal.place_left-self-inside-requires-clause-beyond
place_left-self-inside-requires-clause-beyond c =
    let order = c.self.inside.order.entries in
    let number = number_is order c.self.inside.numbers.entries c.self.inside.given c.args.task
    c.number-leaving.result c.self.inside.place c.self.invariant c.number-leaving.ensures in
    let found = sym number ∙ sym c.in-Some.ensures.value in
    let room = room_left order c.self.inside.numbers.entries c.self.inside.given c.args.task c.in-Some.number
    c.self.inside.place c.self.invariant found in
    omega (arith, room)
