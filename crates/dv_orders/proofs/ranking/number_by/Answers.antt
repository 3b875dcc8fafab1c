use Rattle.std.proofs.Common.{arith, ◌≡◌, ◌-◌, ◌∙◌, ◌^◌, ℕ, List, IfOk, min, length, slice_index, slice_set, ap, sym}
use Rattle.std.proofs.Common.{subst}
use Rattle.std.proofs.lemmas.Grind.{get_or_default_zero}
use Rattle.dv_orders.specs.Numbers.{number_of_sequences}
use Rattle.dv_orders.specs.Ranking.{left_counts}
use Rattle.dv_orders.proofs.RankingLemmas.{by_counted, by_past, left-length, left_at}
use Rattle.dv_orders.proofs.ranking.number_by.Goals as goal

pub returns-then-index : goal.returns-then-index
returns-then-index c =
    let counts = c.args.sequence.now.counts.items in
    let taken = c.args.sequence.now.taken.items in
    let caller = c.args.caller in
    let len = c.requires.path.len in
    let t : c.index.result.now ≡ slice_index taken caller =
    c.index.ensures ∙ get_or_default_zero taken caller c.index.result.now (omega (arith, len, c.requires.within)) in
    let n : c.index-2.result.now ≡ slice_index counts caller =
    c.index-2.ensures ∙ get_or_default_zero counts caller c.index-2.result.now c.requires.within in
    let none = by_past counts taken caller (omega (arith, t, n, c.if-index.true)) in
    record {
      number = omega (arith, none);
      small = λ some. absurd (omega (arith, some));
    }

pub index_mut-requires : goal.index_mut-requires
index_mut-requires c =
    let counts = c.args.sequence.now.counts.items in
    let taken = c.args.sequence.now.taken.items in
    let left : c.in_ok-left.left.items ≡ left_counts counts taken =
    c.in_ok-left.ensures ∙ ap (λ (l : List ℕ). left_counts l c.as_slice-2.result.now) c.as_slice.ensures.value
    ∙ ap (left_counts counts) c.as_slice-2.ensures.value in
    let len : length c.in_ok-left.left.items ≡ length counts =
    ap (λ (l : List ℕ). length l) left ∙ left-length counts taken in
    omega (arith, len, c.requires.within, c.in_ok-left.left.ok)

pub overflow_sub-index_mut : goal.overflow_sub-index_mut
overflow_sub-index_mut c =
    let counts = c.args.sequence.now.counts.items in
    let taken = c.args.sequence.now.taken.items in
    let caller = c.args.caller in
    let low = c.requires.within in
    let len = c.requires.path.len in
    let t : c.index.result.now ≡ slice_index taken caller =
    c.index.ensures ∙ get_or_default_zero taken caller c.index.result.now (omega (arith, len, low)) in
    let n : c.index-2.result.now ≡ slice_index counts caller =
    c.index-2.ensures ∙ get_or_default_zero counts caller c.index-2.result.now low in
    let left : c.in_ok-left.left.items ≡ left_counts counts taken =
    c.in_ok-left.ensures ∙ ap (λ (l : List ℕ). left_counts l c.as_slice-2.result.now) c.as_slice.ensures.value
    ∙ ap (left_counts counts) c.as_slice-2.ensures.value in
    let whole : length c.in_ok-left.left.items ≡ length counts =
    ap (λ (l : List ℕ). length l) left ∙ left-length counts taken in
    let k : c.index_mut.result.now ≡ slice_index counts caller - slice_index taken caller =
    c.index_mut.ensures.value
    ∙ get_or_default_zero c.in_ok-left.left.items caller c.index_mut.result.now (omega (arith, whole, low))
    ∙ ap (λ (l : List ℕ). slice_index l caller) left ∙ left_at counts taken caller len low in
    omega (arith, t, n, k, c.if-index.false)

pub returns-clause-number : goal.returns-clause-number
returns-clause-number c =
    let counts = c.args.sequence.now.counts.items in
    let taken = c.args.sequence.now.taken.items in
    let caller = c.args.caller in
    let low = c.requires.within in
    let len = c.requires.path.len in
    let t : c.index.result.now ≡ slice_index taken caller =
    c.index.ensures ∙ get_or_default_zero taken caller c.index.result.now (omega (arith, len, low)) in
    let n : c.index-2.result.now ≡ slice_index counts caller =
    c.index-2.ensures ∙ get_or_default_zero counts caller c.index-2.result.now low in
    let left : c.in_ok-left.left.items ≡ left_counts counts taken =
    c.in_ok-left.ensures ∙ ap (λ (l : List ℕ). left_counts l c.as_slice-2.result.now) c.as_slice.ensures.value
    ∙ ap (left_counts counts) c.as_slice-2.ensures.value in
    let whole : length c.in_ok-left.left.items ≡ length counts =
    ap (λ (l : List ℕ). length l) left ∙ left-length counts taken in
    let k : c.index_mut.result.now ≡ slice_index counts caller - slice_index taken caller =
    c.index_mut.ensures.value
    ∙ get_or_default_zero c.in_ok-left.left.items caller c.index_mut.result.now (omega (arith, whole, low))
    ∙ ap (λ (l : List ℕ). slice_index l caller) left ∙ left_at counts taken caller len low in
    let set : c.as_slice-3.result.now
    ≡ slice_set (left_counts counts taken) caller (slice_index counts caller - slice_index taken caller - 1) =
    c.as_slice-3.ensures.value ∙ ap (λ (l : List ℕ). slice_set l caller (c.index_mut.result.now - 1)) left
    ∙ ap (λ (v : ℕ). slice_set (left_counts counts taken) caller (v - 1)) k in
    let number = ap number_of_sequences set ∙ sym (by_counted counts taken c.args.sequence.now.posts.items caller
    c.requires.path low (omega (arith, t, n, c.if-index.false))) in
    subst (λ (m : ℕ). IfOk c.number_of_sequences.result (λ number. number ≡ min m (2 ^ 64 - 1))) number
    c.number_of_sequences.ensures
