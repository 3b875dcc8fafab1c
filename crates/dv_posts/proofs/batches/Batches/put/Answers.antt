use Rattle.std.proofs.Common.{◌++◌, ◌∙◌, List, ℕ, refl, subst, sym}
use Rattle.dv_posts.proofs.CountLemmas.{counted_with}
use Rattle.dv_posts.specs.Batches.{AreNext, Batch, joined}
use Rattle.dv_posts.specs.Taking.{Counted, Taken}
use Rattle.dv_posts.proofs.batches.Batches.put.Goals as goal

pub unreachable-requires : goal.unreachable-requires
unreachable-requires c =
    let counted : Counted c.self.inside.callers.now c.as_slice.result.now (joined c.self.inside.batches) =
    subst (λ (counts : List ℕ). Counted c.self.inside.callers.now counts (joined c.self.inside.batches))
    (sym c.as_slice.ensures.value) c.self.invariant.0 in
    c.if-not-count_with.ensures.no refl (joined c.self.inside.batches) counted
    (subst (λ (b : Batch). AreNext c.self.inside.callers.now (joined c.self.inside.batches ++ b))
    (sym c.as_slice-2.ensures)
    (subst (λ (taken : Taken). AreNext taken.callers (joined taken.batches ++ c.args.batch))
    (sym c.self.view_is) c.requires))

pub invariant_of-self-2 : goal.invariant_of-self-2
invariant_of-self-2 c =
    let callers = c.self.inside.callers.now in
    let before : Batch = joined c.self.inside.batches in
    let counted : Counted callers c.as_slice.result.now before =
    subst (λ (counts : List ℕ). Counted callers counts before) (sym c.as_slice.ensures.value) c.self.invariant.0 in
    let more : Counted callers c.count_with.new.more.items (before ++ c.args.batch) =
    subst (λ (b : Batch). Counted callers c.count_with.new.more.items (before ++ b)) c.as_slice-2.ensures
    (c.if-not-count_with.ensures.yes refl before counted) in
    let all : Counted callers c.copy_from_slice.new.self.items (before ++ c.args.batch) =
    subst (λ (counts : List ℕ). Counted callers counts (before ++ c.args.batch))
    (sym (c.copy_from_slice.ensures.items ∙ c.as_slice-3.ensures.value)) more in (
      counted_with callers c.copy_from_slice.new.self.items c.self.inside.batches c.push.new.self c.args.batch all
          c.in_ok-push.ensures.ok,
      c.if-not-count_with.ensures.len,
    )
