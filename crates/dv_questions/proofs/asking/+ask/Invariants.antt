use Rattle.std.proofs.Common.{◌≡◌, ◌+◌, ◌*◌, drop, map}
use Rattle.dv_document.specs.View.{view, items_view, items_left}
use Rattle.dv_questions.specs.Asking.{all_suit, each_item, each_member, keys_suit, one_for_one}
use Rattle.dv_questions.specs.Questions.{asked_by}
use Rattle.dv_questions.proofs.asking.+ask.Given as goal

abbrev pub decreases-all_suit : goal.decreases-all_suit
decreases-all_suit l = 8 * l.levels

abbrev pub decreases-each_member : goal.decreases-each_member
decreases-each_member l = 8 * l.levels + 2

abbrev pub decreases-member_suits : goal.decreases-member_suits
decreases-member_suits l = 8 * l.levels + 1

abbrev pub decreases-call_suits : goal.decreases-call_suits
decreases-call_suits l = 8 * l.levels + 4

abbrev pub decreases-word_suits : goal.decreases-word_suits
decreases-word_suits l = 8 * l.levels + 3

abbrev pub decreases-one_for_one : goal.decreases-one_for_one
decreases-one_for_one l = 8 * l.levels + 2

abbrev pub decreases-argument_suits : goal.decreases-argument_suits
decreases-argument_suits l = 8 * l.levels + 1

abbrev pub decreases-each_item : goal.decreases-each_item
decreases-each_item l = 8 * l.levels + 1

abbrev pub decreases-keyed_suits : goal.decreases-keyed_suits
decreases-keyed_suits l = 8 * l.levels + 3

abbrev pub decreases-keys_suit : goal.decreases-keys_suit
decreases-keys_suit l = 8 * l.levels + 2

abbrev pub decreases-key_suits : goal.decreases-key_suits
decreases-key_suits l = 8 * l.levels + 1

abbrev pub invariant-each_member-loop-item : goal.invariant-each_member-loop-item
invariant-each_member-loop-item l =
    each_member (all_suit (asked_by l.question) l.levels) (items_view l.rest)
    ≡ each_member (all_suit (asked_by l.question) l.levels) (items_view l.fn.items)

abbrev pub invariant-each_item-loop-item : goal.invariant-each_item-loop-item
invariant-each_item-loop-item l =
    each_item (all_suit (asked_by l.question) l.levels l.want) (items_view l.rest)
    ≡ each_item (all_suit (asked_by l.question) l.levels l.want) (items_view l.fn.items)

abbrev pub invariant-one_for_one-loop-want : goal.invariant-one_for_one-loop-want
invariant-one_for_one-loop-want l =
    one_for_one (all_suit (asked_by l.question) l.levels) (drop l.want-index l.wants) (items_view l.rest)
    ≡ one_for_one (all_suit (asked_by l.question) l.levels) l.wants (items_view l.fn.items)

abbrev pub invariant-keys_suit-loop-key : goal.invariant-keys_suit-loop-key
invariant-keys_suit-loop-key l =
    keys_suit (all_suit (asked_by l.question) l.levels) l.keyed (view l.json)
    (map (λ k. k.now) (drop l.key-index l.keys))
    ≡ keys_suit (all_suit (asked_by l.question) l.levels) l.keyed (view l.json) (map (λ k. k.now) l.keys)

abbrev pub decreases-each_member-loop-item : goal.decreases-each_member-loop-item
decreases-each_member-loop-item l = items_left l.rest

abbrev pub decreases-each_item-loop-item : goal.decreases-each_item-loop-item
decreases-each_item-loop-item l = items_left l.rest
