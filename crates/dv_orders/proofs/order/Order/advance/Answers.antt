use Rattle.std.proofs.Common.{arith, ◌≡◌, ◌∙◌, [], List, ℕ, true, length, replicate, sum, refl, sym, ap}
use Rattle.dv_orders.specs.Batching.{later_lengths}
use Rattle.dv_orders.specs.Sequencing.{later_sequences}
use Rattle.dv_orders.proofs.OrderLemmas.{goes_on, sum_of_zeros}
use Rattle.dv_orders.proofs.order.Order.advance.Goals as goal

pub returns-clause-next : goal.returns-clause-next
returns-clause-next c =
    let old = c.args.self.now in
    let drains = old.drains.items in
    let sequence = c.advance-2.new.self in
    let cut = c.advance.new.self in
    let is = c.as_slice.ensures.value in
    let zeros : cut.lengths.items ≡ replicate (length drains) 0 =
    c.if-advance.ensures.again refl ∙ ap (λ (l : List ℕ). replicate (length l) 0) is in
    let left : c.in_ok-more.more ≡ true → cut.left ≡ length sequence.posts.items = λ more.
    let full = c.in_ok-more.ensures.full more in
    let none = sum_of_zeros cut.lengths.items (length drains) zeros in
    omega (
      arith,
      c.if-advance.ensures.same,
      c.requires.cut,
      c.requires.all,
      ap (λ (l : List ℕ). sum l) c.in_ok-more.ensures.counts,
    ) in
    let none : later_lengths drains old.cut.left old.cut.lengths.items ≡ [] =
    ap (λ (d : List ℕ). later_lengths d old.cut.left old.cut.lengths.items) (sym is) ∙ c.if-advance.ensures.next in
    goes_on drains old.sequence.posts.items sequence.posts.items
    (later_sequences old.sequence.counts.items old.sequence.taken.items old.sequence.posts.items)
    (later_sequences sequence.counts.items sequence.taken.items sequence.posts.items)
    old.cut.left cut.left old.cut.lengths.items cut.lengths.items c.in_ok-more.more none zeros left
    c.in_ok-more.ensures.next
