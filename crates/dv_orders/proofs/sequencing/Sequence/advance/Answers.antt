use Rattle.std.proofs.Common.{arith, ◌≡◌, ◌-◌, [], ◌++◌, ◌∙◌, length, sym, ap, subst, take, vec_len}
use Rattle.dv_posts.specs.Batches.{Batch}
use Rattle.dv_orders.specs.Sequencing.{IsPath, later_sequences}
use Rattle.dv_orders.specs.declared.sequencing.Sequence.{Sequence}
use Rattle.dv_orders.proofs.SequenceLemmas.{later_back, later_end, path_back}
use Rattle.dv_orders.proofs.sequencing.Sequence.advance.Goals as goal

pub returns-then-branch-clause-next : goal.returns-then-branch-clause-next
returns-then-branch-clause-next c =
    let counts = c.loop-posted.self.counts.items in
    let taken = c.loop-posted.self.taken.items in
    let last = path_back counts taken c.pop.new.self.items c.in-Some.posted
    (subst (λ (l : Batch). IsPath counts taken l) c.in-Some.ensures.items c.loop-posted.invariant.path) in
    c.loop-posted.invariant.later
    ∙ ap (later_sequences counts taken) c.in-Some.ensures.items
    ∙ later_back counts taken c.pop.new.self.items c.in-Some.posted last.left
    ∙ (rw c.if-branch.true at c.in_ok-take_from.ensures.next)
    ∙ c.in_ok-complete.ensures.first

pub loop-posted-preserved : goal.loop-posted-preserved
loop-posted-preserved c =
    let counts = c.loop-posted.self.counts.items in
    let taken = c.loop-posted.self.taken.items in
    let last = path_back counts taken c.pop.new.self.items c.in-Some.posted
    (subst (λ (l : Batch). IsPath counts taken l) c.in-Some.ensures.items c.loop-posted.invariant.path) in
    record {
      counts = c.in_ok-take_from.ensures.counts ∙ c.loop-posted.invariant.counts;
      path = c.in_ok-take_from.ensures.path;
      later =
          c.loop-posted.invariant.later
          ∙ ap (later_sequences counts taken) c.in-Some.ensures.items
          ∙ later_back counts taken c.pop.new.self.items c.in-Some.posted last.left
          ∙ (rw c.if-branch.false at c.in_ok-take_from.ensures.next)
          ∙ ap (λ (s : Sequence). later_sequences s.counts.items s.taken.items s.posts.items)
          (sym (c.in_ok-take_from.ensures.none c.if-branch.false));
    }

pub returns-clause-next : goal.returns-clause-next
returns-clause-next c =
    let posts = c.loop-posted.self.posts in
    let zero : vec_len posts - 1 ≡ 0 = omega (arith, c.in_default.ensures.cases.0) in
    let none : posts.items ≡ [] =
    c.in_default.ensures.items ∙ ap (λ l. l ++ []) (c.in_default.ensures.rest ∙ ap (λ n. take n posts.items) zero) in
    c.loop-posted.invariant.later
    ∙ later_end c.loop-posted.self.counts.items c.loop-posted.self.taken.items posts.items
    (ap (λ (l : Batch). length l) none)
