use Rattle.std.proofs.Common.{arith, ◌∷◌, ◌∙◌, length, sum, refl, sym, ap}
use Rattle.dv_orders.specs.Sequencing.{later_sequences}
use Rattle.dv_orders.specs.declared.sequencing.Sequence.{Sequence}
use Rattle.dv_orders.proofs.SequenceLemmas.{all_taken, less_left, listed_through, listed_whole}
use Rattle.dv_orders.proofs.sequencing.Sequence.complete.Goals as goal

pub loop-smaller : goal.loop-smaller
loop-smaller c =
    less_left c.loop.self.counts.items c.take_from.new.self.counts.items c.loop.self.taken.items
    c.take_from.new.self.taken.items c.take_from.new.self.posts.items
    c.in_ok-take_from.ensures.counts c.in_ok-take_from.ensures.path
    (rw c.if-branch.true at c.in_ok-take_from.ensures.one)

pub loop-preserved : goal.loop-preserved
loop-preserved c =
    let less = less_left c.loop.self.counts.items c.take_from.new.self.counts.items c.loop.self.taken.items
    c.take_from.new.self.taken.items c.take_from.new.self.posts.items
    c.in_ok-take_from.ensures.counts c.in_ok-take_from.ensures.path
    (rw c.if-branch.true at c.in_ok-take_from.ensures.one) in
    record {
      counts = c.in_ok-take_from.ensures.counts ∙ c.loop.invariant.counts;
      path = c.in_ok-take_from.ensures.path;
      listed =
          c.loop.invariant.listed
          ∙ listed_through c.loop.self.counts.items c.loop.self.taken.items c.loop.self.posts.items
          (omega (arith, less))
          ∙ (rw c.if-branch.true at c.in_ok-take_from.ensures.next);
    }

pub returns-clause-full : goal.returns-clause-full
returns-clause-full c =
    let same = c.in_ok-take_from.ensures.none c.if-branch.false in
    let all = all_taken c.loop.self.counts.items c.loop.self.taken.items c.loop.self.posts.items c.loop.invariant.path
    (c.in_ok-take_from.ensures.all c.if-branch.false refl) in
    ap (λ (s : Sequence). length s.posts.items) same ∙ all.1 ∙ ap (λ (s : Sequence). sum s.counts.items) (sym same)

pub returns-clause-first : goal.returns-clause-first
returns-clause-first c =
    let same = c.in_ok-take_from.ensures.none c.if-branch.false in
    let all = all_taken c.loop.self.counts.items c.loop.self.taken.items c.loop.self.posts.items c.loop.invariant.path
    (c.in_ok-take_from.ensures.all c.if-branch.false refl) in
    c.loop.invariant.listed
    ∙ listed_whole c.loop.self.counts.items c.loop.self.taken.items c.loop.self.posts.items all.0
    ∙ ap (λ (s : Sequence). s.posts.items ∷ later_sequences s.counts.items s.taken.items s.posts.items) (sym same)
