use Rattle.std.proofs.Common.{arith, ◌≡◌, ◌<◌, ◌∙◌, ◌++◌, ◌∷◌, [], Option, Some, None, length, option_map, slice_get}
use Rattle.std.proofs.Common.{slice_index, sum, ap, sym, subst, append-nil}
use Rattle.dv_posts.specs.Batches.{Batch}
use Rattle.dv_posts.specs.Posts.{post}
use Rattle.dv_orders.specs.Orders.{counts_of, posts_from, sequences, total}
use Rattle.dv_orders.specs.Ranking.{FallsIn, number_by}
use Rattle.dv_orders.specs.Sequencing.{left_over, sequences_on, with_taken}
use Rattle.dv_orders.specs.declared.ranking.Place.{Place}
use Rattle.dv_orders.proofs.OrderLemmas.{total_sum}
use Rattle.dv_orders.proofs.RankingLemmas.{added, at_end, first_only, from_start, goes_on_by, goes_on_none, has_next}
use Rattle.dv_orders.proofs.RankingLemmas.{whole_only}
use Rattle.dv_orders.proofs.SequenceLemmas.{left_taken, path_taken}
use Rattle.dv_orders.proofs.ranking.sequence_of.Goals as goal

pub loop-alloc-init : goal.loop-alloc-init
loop-alloc-init c =
    let ensures = c.in_ok-sequence.ensures in
    let sequence = c.in_ok-sequence.sequence in
    record {
      small = c.requires;
      counts = ensures.counts;
      path = ensures.path;
      same =
          from_start c.args.callers.now sequence.counts.items sequence.taken.items sequence.posts.items c.args.number
          ensures.counts ensures.taken ensures.posts;
    }

pub loop-alloc-smaller : goal.loop-alloc-smaller
loop-alloc-smaller c =
    let counts = c.loop-alloc.sequence.counts.items in
    let taken = c.loop-alloc.sequence.taken.items in
    let posts = c.loop-alloc.sequence.posts.items in
    let place = c.in-Some.place in
    let falls : FallsIn (Some place) (number_by counts taken) (length counts) c.loop-alloc.number =
    subst (λ (p : Option Place). FallsIn p (number_by counts taken) (length counts) c.loop-alloc.number) c.in-Some.is
    c.in_ok-place.ensures.falls in
    let one = left_taken counts taken posts place.piece c.loop-alloc.invariant.path falls.0
    (has_next counts taken c.loop-alloc.number place falls) in
    let less : left_over c.take.new.self.counts.items c.take.new.self.taken.items < left_over counts taken =
    rw (c.in_ok-take-in-Some.ensures.counts, c.in_ok-take-in-Some.ensures.taken) (omega (arith, one)) in
    less

pub loop-alloc-preserved : goal.loop-alloc-preserved
loop-alloc-preserved c =
    let counts = c.loop-alloc.sequence.counts.items in
    let taken = c.loop-alloc.sequence.taken.items in
    let posts = c.loop-alloc.sequence.posts.items in
    let number = c.loop-alloc.number in
    let place = c.in-Some.place in
    let new = c.take.new.self in
    let invariant = c.loop-alloc.invariant in
    let ensures = c.in_ok-take-in-Some.ensures in
    let all = sequences (total (counts_of c.args.callers.now)) (posts_from 0 c.args.callers.now) in
    let falls : FallsIn (Some place) (number_by counts taken) (length counts) number = subst (λ (p : Option Place).
    FallsIn p (number_by counts taken) (length counts) number) c.in-Some.is c.in_ok-place.ensures.falls in
    let some = has_next counts taken number place falls in
    let one = left_taken counts taken posts place.piece invariant.path falls.0 some in
    let p = post place.piece (slice_index taken place.piece) in
    let more = with_taken taken place.piece in
    let done : slice_get all c.args.number ≡ option_map (λ (sequence : Batch). (posts ++ p ∷ []) ++ sequence)
    (slice_get (sequences_on counts (left_over counts more) more) place.number) =
    invariant.same
    ∙ ap (option_map (λ (sequence : Batch). posts ++ sequence))
    (goes_on_by counts taken posts number place invariant.path (omega (arith, one)) falls)
    ∙ added posts p (slice_get (sequences_on counts (left_over counts more) more) place.number) in
    let same : slice_get all c.args.number ≡ option_map (λ (sequence : Batch). new.posts.items ++ sequence) (slice_get
    (sequences_on new.counts.items (left_over new.counts.items new.taken.items) new.taken.items) place.number) =
    rw (ensures.counts, ensures.taken, ensures.posts) done in
    record {
      small = omega (arith, falls.2, invariant.small);
      counts = ensures.counts ∙ invariant.counts;
      path =
          rw (ensures.counts, ensures.taken, ensures.posts)
          (path_taken counts taken posts place.piece invariant.path falls.0 some);
      same = same;
    }

pub returns-in-None : goal.returns-in-None
returns-in-None c =
    let counts = c.loop-alloc.sequence.counts.items in
    let taken = c.loop-alloc.sequence.taken.items in
    let invariant = c.loop-alloc.invariant in
    let falls : FallsIn None (number_by counts taken) (length counts) c.loop-alloc.number = subst (λ (p : Option Place).
    FallsIn p (number_by counts taken) (length counts) c.loop-alloc.number) c.in-None.is c.in_ok-place.ensures.falls in
    let all : c.in_ok-posts.posts ≡ sum counts =
    c.in_ok-posts.ensures.0 ∙ ap total (sym invariant.counts) ∙ total_sum counts in
    let left : 0 < left_over counts taken =
    omega (arith, all, invariant.path.count, c.loop-alloc-test.true, c.loop-alloc.sequence.posts.ok) in
    sym (invariant.same ∙ ap (option_map (λ (sequence : Batch). c.loop-alloc.sequence.posts.items ++ sequence))
    (goes_on_none counts taken c.loop-alloc.number left falls))

pub returns-then-number-gt0 : goal.returns-then-number-gt0
returns-then-number-gt0 c =
    let counts = c.loop-alloc.sequence.counts.items in
    let taken = c.loop-alloc.sequence.taken.items in
    let invariant = c.loop-alloc.invariant in
    let all : c.in_ok-posts.posts ≡ sum counts =
    c.in_ok-posts.ensures.0 ∙ ap total (sym invariant.counts) ∙ total_sum counts in
    let none : left_over counts taken ≡ 0 =
    omega (arith, all, invariant.path.count, c.loop-alloc-test.false, c.loop-alloc.sequence.posts.ok) in
    sym (invariant.same ∙ ap (option_map (λ (sequence : Batch). c.loop-alloc.sequence.posts.items ++ sequence))
    (whole_only counts taken c.loop-alloc.number none ∙ at_end [] c.loop-alloc.number c.if-number-gt0.true))

pub returns : goal.returns
returns c =
    let counts = c.loop-alloc.sequence.counts.items in
    let taken = c.loop-alloc.sequence.taken.items in
    let posts = c.loop-alloc.sequence.posts.items in
    let invariant = c.loop-alloc.invariant in
    let all : c.in_ok-posts.posts ≡ sum counts =
    c.in_ok-posts.ensures.0 ∙ ap total (sym invariant.counts) ∙ total_sum counts in
    let none : left_over counts taken ≡ 0 =
    omega (arith, all, invariant.path.count, c.loop-alloc-test.false, c.loop-alloc.sequence.posts.ok) in
    sym (invariant.same ∙ ap (option_map (λ (sequence : Batch). posts ++ sequence)) (whole_only counts taken
    c.loop-alloc.number none ∙ first_only c.loop-alloc.number c.if-number-gt0.false) ∙ ap Some (append-nil posts))
