use Rattle.std.proofs.Common.{◌≡◌, ◌+◌, ◌*◌}
use Rattle.dv_document.specs.View.{items_view, items_left}
use Rattle.dv_forms.specs.Answer.{with_front}
use Rattle.dv_forms.specs.Parts.{each}
use Rattle.dv_grammar.specs.Shape.{action_at, body_at, statement_at}
use Rattle.dv_grammar.proofs.reading.+shape.Given as goal

abbrev pub decreases-action::action : goal.decreases-action::action
decreases-action::action l = 16 * l.levels + 5

abbrev pub decreases-action::actions : goal.decreases-action::actions
decreases-action::actions l = 16 * l.levels + 6

abbrev pub decreases-action::add_callbacks : goal.decreases-action::add_callbacks
decreases-action::add_callbacks l = 16 * l.levels + 3

abbrev pub decreases-action::add_timeout : goal.decreases-action::add_timeout
decreases-action::add_timeout l = 16 * l.levels + 3

abbrev pub decreases-action::cooperate : goal.decreases-action::cooperate
decreases-action::cooperate l = 16 * l.levels + 3

abbrev pub decreases-action::cooperate_in : goal.decreases-action::cooperate_in
decreases-action::cooperate_in l = 16 * l.levels + 3

abbrev pub decreases-action::deferred : goal.decreases-action::deferred
decreases-action::deferred l = 16 * l.levels + 3

abbrev pub decreases-action::inline : goal.decreases-action::inline
decreases-action::inline l = 16 * l.levels + 3

abbrev pub decreases-action::later : goal.decreases-action::later
decreases-action::later l = 16 * l.levels + 3

abbrev pub decreases-action::loop_of : goal.decreases-action::loop_of
decreases-action::loop_of l = 16 * l.levels + 4

abbrev pub decreases-action::turns : goal.decreases-action::turns
decreases-action::turns l = 16 * l.levels + 3

abbrev pub decreases-action::some_bodies : goal.decreases-action::some_bodies
decreases-action::some_bodies l = 16 * l.levels + 2

abbrev pub decreases-action::one_body : goal.decreases-action::one_body
decreases-action::one_body l = 16 * l.levels + 1

abbrev pub decreases-action::with_body : goal.decreases-action::with_body
decreases-action::with_body l = 16 * l.levels + 3

abbrev pub decreases-action::maybe_body : goal.decreases-action::maybe_body
decreases-action::maybe_body l = 16 * l.levels + 1

abbrev pub decreases-action::run_with : goal.decreases-action::run_with
decreases-action::run_with l = 16 * l.levels + 3

abbrev pub decreases-body::bodies : goal.decreases-body::bodies
decreases-body::bodies l = 16 * l.levels + 1

abbrev pub decreases-body::body : goal.decreases-body::body
decreases-body::body l = 16 * l.levels

abbrev pub decreases-body::keyed_body : goal.decreases-body::keyed_body
decreases-body::keyed_body l = 16 * l.levels + 8

abbrev pub decreases-body::performed : goal.decreases-body::performed
decreases-body::performed l = 16 * l.levels + 7

abbrev pub decreases-statement::finished : goal.decreases-statement::finished
decreases-statement::finished l = 16 * l.levels + 2

abbrev pub decreases-statement::statement : goal.decreases-statement::statement
decreases-statement::statement l = 16 * l.levels

abbrev pub decreases-statement::statement_of : goal.decreases-statement::statement_of
decreases-statement::statement_of l = 16 * l.levels + 8

abbrev pub decreases-statement::statements : goal.decreases-statement::statements
decreases-statement::statements l = 16 * l.levels + 1

abbrev pub decreases-statement::tried : goal.decreases-statement::tried
decreases-statement::tried l = 16 * l.levels + 2

abbrev pub invariant-action::actions-loop-item : goal.invariant-action::actions-loop-item
invariant-action::actions-loop-item l =
    with_front l.actions (each (action_at l.classes l.levels) (items_view l.rest))
    ≡ each (action_at l.classes l.levels) (items_view l.fn.items)

abbrev pub invariant-body::bodies-loop-item : goal.invariant-body::bodies-loop-item
invariant-body::bodies-loop-item l =
    with_front l.bodies (each (body_at l.classes l.levels) (items_view l.rest))
    ≡ each (body_at l.classes l.levels) (items_view l.fn.items)

abbrev pub invariant-statement::statements-loop-item : goal.invariant-statement::statements-loop-item
invariant-statement::statements-loop-item l =
    with_front l.statements (each (statement_at l.classes l.levels) (items_view l.rest))
    ≡ each (statement_at l.classes l.levels) (items_view l.fn.items)

abbrev pub decreases-action::actions-loop-item : goal.decreases-action::actions-loop-item
decreases-action::actions-loop-item l = items_left l.rest

abbrev pub decreases-body::bodies-loop-item : goal.decreases-body::bodies-loop-item
decreases-body::bodies-loop-item l = items_left l.rest

abbrev pub decreases-statement::statements-loop-item : goal.decreases-statement::statements-loop-item
decreases-statement::statements-loop-item l = items_left l.rest
