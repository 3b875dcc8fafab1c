use Rattle.std.proofs.Common.{arith, refl, sym}
use Rattle.dv_orders.specs.Sequencing.{left_over, with_taken}
use Rattle.dv_orders.proofs.SequenceLemmas.{left_taken, path_taken, sum_within, through_found, through_none}
use Rattle.dv_orders.proofs.sequencing.Sequence.take_from.Goals as goal

pub returns-in_ok-take-in-Some-clause-path : goal.returns-in_ok-take-in-Some-clause-path
returns-in_ok-take-in-Some-clause-path c =
    let found = rw (c.as_slice.ensures.value, c.as_slice-2.ensures.value) at c.in-Some.ensures.found in
    rw (c.in_ok-take-in-Some.ensures.counts, c.in_ok-take-in-Some.ensures.taken, c.in_ok-take-in-Some.ensures.posts)
    (path_taken c.args.self.now.counts.items c.args.self.now.taken.items c.args.self.now.posts.items c.in-Some.caller
    c.requires found.1 found.2)

pub returns-in_ok-take-in-Some-clause-next : goal.returns-in_ok-take-in-Some-clause-next
returns-in_ok-take-in-Some-clause-next c =
    let counts = c.args.self.now.counts.items in
    let taken = c.args.self.now.taken.items in
    let found = rw (c.as_slice.ensures.value, c.as_slice-2.ensures.value) at c.in-Some.ensures.found in
    rw (c.in_ok-take-in-Some.ensures.counts, c.in_ok-take-in-Some.ensures.taken, c.in_ok-take-in-Some.ensures.posts)
    (through_found counts taken c.args.self.now.posts.items c.args.from c.in-Some.caller
    (left_over counts (with_taken taken c.in-Some.caller)) found
    (left_taken counts taken c.args.self.now.posts.items c.in-Some.caller c.requires found.1 found.2) refl)

pub returns-in-None-clause-all : goal.returns-in-None-clause-all
returns-in-None-clause-all c =
    let none = rw (c.as_slice.ensures.value, c.as_slice-2.ensures.value) at c.in-None.ensures.found in
    λ is zero. sum_within c.args.self.now.counts.items c.args.self.now.taken.items (sym c.requires.len)
    (λ k. none k (omega (arith, zero)))

pub returns-in-None-clause-next : goal.returns-in-None-clause-next
returns-in-None-clause-next c =
    let none = rw (c.as_slice.ensures.value, c.as_slice-2.ensures.value) at c.in-None.ensures.found in
    through_none c.args.self.now.counts.items c.args.self.now.taken.items c.args.self.now.posts.items c.args.from none
