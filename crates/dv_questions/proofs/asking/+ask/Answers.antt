use Rattle.std.proofs.Common.{drop, sym, ◌∙◌}
use Rattle.dv_document.specs.View.{view, items_view}
use Rattle.dv_questions.specs.Asking.{all_suit}
use Rattle.dv_questions.specs.Questions.{asked_by}
use Rattle.dv_questions.proofs.Counting.{none_left, one_level}
use Rattle.dv_questions.proofs.asking.+ask.Goals as goal

pub one_for_one-returns-in_default : goal.one_for_one-returns-in_default
one_for_one-returns-in_default t c =
    sym (none_left (all_suit (asked_by c.args.question.now) c.args.levels)
    (drop c.loop-want.want-index c.args.wants.now) (items_view c.loop-want.rest) c.in_default.ensures.value) ∙ c.loop-want.invariant

pub all_suit-returns-in-Some : goal.all_suit-returns-in-Some
all_suit-returns-in-Some t c =
    rw (
      one_level (asked_by c.args.question.now) c.args.levels c.args.want (view c.args.json) c.if-levels-eq0.false,
      c.in-Call.is,
      ← c.in-Some.ensures.value,
    ) c.call_suits.ensures
