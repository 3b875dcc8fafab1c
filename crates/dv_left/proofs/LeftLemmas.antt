-- What is gathered of a world is what is left of it.
use Rattle.std.proofs.Common.{◌≡◌, ℕ, ◌+◌, ◌<◌, suc, List, [], ◌∷◌, ◌++◌, ◌∙◌, length, map, replicate, refl, sym, ap}
use Rattle.std.proofs.Common.{append_assoc, arith}
use Rattle.std.proofs.lemmas.List.{length-map}
use Rattle.dv_clock.specs.declared.call.Call.{Call}
use Rattle.dv_objects.specs.declared.looping_call.LoopingCall.{LoopingCall}
use Rattle.dv_objects.specs.declared.task.Task.{Task}
use Rattle.dv_prims.specs.Queue.{Queue}
use Rattle.dv_prims.specs.Tokens.{Semaphore}
use Rattle.dv_prims.specs.declared.queue.QueueParts.{QueueParts}
use Rattle.dv_prims.specs.declared.semaphore.SemaphoreParts.{SemaphoreParts}
use Rattle.dv_journal.specs.declared.entry.Entry.{Entry}
use Rattle.dv_world.specs.World.{World}
use Rattle.dv_left.proofs.ListsLemmas.{joined_both, told_whole}
use Rattle.dv_left.specs.Hanging.{by_records, hung, hung_at_calls, hung_at_loops, hung_by, hung_in_lines, task_held_by}
use Rattle.dv_left.specs.Hanging.{tasks_held, turn_held_by, turns_held}
use Rattle.dv_left.specs.Left.{left_calls, left_deferred, left_deferreds, left_locks, left_loop, left_loops, left_of}
use Rattle.dv_left.specs.Left.{left_queues, left_task, left_tasks, left_unhandled, lock_of, queue_of, standing_of}
use Rattle.dv_left.specs.Linking.{hung_beside, left_beside, no_links, with_hung, with_links}
use Rattle.dv_left.specs.Lists.{all_joined, items_of, list_at}
use Rattle.dv_left.specs.declared.left.Hang.{Hang}
use Rattle.dv_left.specs.declared.left.Hang.TheVariants as hang
use Rattle.dv_left.specs.declared.left.Left.{Left}
use Rattle.dv_left.specs.declared.linking.Links.{Links as Gathered}
use Rattle.dv_left.specs.declared.telling.Standing.{Standing}

-- who waits at a lock is who its parts say
waiting_locks : (ss : List Semaphore) → map (λ p. p.waiting) (map lock_of ss) ≡ map (λ s. s.waiting) ss
waiting_locks [] = refl
waiting_locks (s ∷ ss) = ap (λ lines. s.waiting ∷ lines) (waiting_locks ss)

waiting_queues : (qs : List Queue) → map (λ p. p.waiting) (map queue_of qs) ≡ map (λ q. q.waiting) qs
waiting_queues [] = refl
waiting_queues (q ∷ qs) = ap (λ lines. q.waiting ∷ lines) (waiting_queues qs)

-- the same hangs are reported the same
same_deferreds : (f g : ℕ → List Hang) (n d : ℕ) (ss : List Standing) → d + length ss ≡ n
    → ((k : ℕ) → k < n → f k ≡ g k) → left_deferreds f d ss ≡ left_deferreds g d ss
same_deferreds f g n d [] e same = refl
same_deferreds f g n d (s ∷ ss) e same =
    let low : d < n = omega (arith, e) in
    let next : suc d + length ss ≡ n = omega (arith, e) in
    ap (λ unfired. left_deferred d unfired s ++ left_deferreds f (suc d) ss) (same d low)
    ∙ ap (λ rest. left_deferred d (g d) s ++ rest) (same_deferreds f g n (suc d) ss next same)

same_loops : (f g : ℕ → List ℕ) (calls : List Call) (n l : ℕ) (xs : List LoopingCall) → l + length xs ≡ n
    → ((k : ℕ) → k < n → f k ≡ g k) → left_loops f calls l xs ≡ left_loops g calls l xs
same_loops f g calls n l [] e same = refl
same_loops f g calls n l (x ∷ xs) e same =
    let low : l < n = omega (arith, e) in
    let next : suc l + length xs ≡ n = omega (arith, e) in
    ap (λ held. left_loop l calls held x ++ left_loops f calls (suc l) xs) (same l low)
    ∙ ap (λ rest. left_loop l calls (g l) x ++ rest) (same_loops f g calls n (suc l) xs next same)

same_tasks : (f g : ℕ → List ℕ) (n t : ℕ) (xs : List Task) → t + length xs ≡ n → ((k : ℕ) → k < n → f k ≡ g k)
    → left_tasks f t xs ≡ left_tasks g t xs
same_tasks f g n t [] e same = refl
same_tasks f g n t (x ∷ xs) e same =
    let low : t < n = omega (arith, e) in
    let next : suc t + length xs ≡ n = omega (arith, e) in
    ap (λ held. left_task t held x ++ left_tasks f (suc t) xs) (same t low)
    ∙ ap (λ rest. left_task t (g t) x ++ rest) (same_tasks f g n (suc t) xs next same)

-- what comes after the first comes one after the other
in_a_row : {A : Type 0} (first a b c d e : List A) → first ++ (a ++ b ++ c ++ d ++ e) ≡ first ++ a ++ b ++ c ++ d ++ e
in_a_row first a b c d e =
    sym (append_assoc first (a ++ b ++ c ++ d) e)
    ∙ ap (λ x. x ++ e) (sym (append_assoc first (a ++ b ++ c) d)
    ∙ ap (λ x. x ++ d) (sym (append_assoc first (a ++ b) c)
    ∙ ap (λ x. x ++ c) (sym (append_assoc first a b))))

-- what links of a world are gathered
abbrev pub gathered_of : World → Gathered
gathered_of w =
    with_hung (hung_beside (map lock_of w.objects.semaphores)
    (map queue_of w.objects.queues) w.objects.clock.calls w.objects.loops w.objects.cooperators.tasks)
    (with_links (by_records hung_by 0 w.records) (by_records turn_held_by 0 w.records)
    (by_records task_held_by 0 w.records)
    (no_links (length w.records) (length w.objects.loops) (length w.objects.cooperators.tasks)))

-- all that hang are gathered
all_gathered : (w : World) → (gathered_of w).deferreds ≡ all_joined (hung w) (replicate (length w.records) [])
all_gathered w =
    let o = w.objects in
    let empty = replicate (length w.records) [] in
    let own = by_records hung_by 0 w.records in
    let calls = hung_at_calls o.clock.calls in
    let loops = hung_at_loops 0 o.loops in
    let tasks = hung_in_lines hang.Task 0 (map (λ x. x.waiting) o.cooperators.tasks) in
    let at_locks = hung_in_lines hang.Lock 0 (map (λ p. p.waiting) (map lock_of o.semaphores)) in
    let at_queues = hung_in_lines hang.Queue 0 (map (λ p. p.waiting) (map queue_of o.queues)) in
    sym (joined_both own
    (hung_beside (map lock_of o.semaphores) (map queue_of o.queues) o.clock.calls o.loops o.cooperators.tasks) empty)
    ∙ ap (λ links. all_joined links empty) (in_a_row own at_locks at_queues calls loops tasks)
    ∙ ap (λ lines. all_joined (own ++ hung_in_lines hang.Lock 0 lines ++ at_queues ++ calls ++ loops ++ tasks) empty)
    (waiting_locks o.semaphores)
    ∙ ap (λ lines. all_joined (own ++ hung_in_lines hang.Lock 0 (map (λ s. s.waiting) o.semaphores)
    ++ hung_in_lines hang.Queue 0 lines ++ calls ++ loops ++ tasks) empty) (waiting_queues o.queues)

-- what is reported with the links that are gathered is what is left
pub left_told : (w : World) (links : Gathered) → links ≡ gathered_of w →
    left_deferreds (λ d. list_at d links.deferreds) 0 (map standing_of w.records)
    ++ left_beside links w.objects.clock.calls w.objects.loops w.objects.cooperators.tasks
    (map lock_of w.objects.semaphores) (map queue_of w.objects.queues)
    ++ left_unhandled 0 w.journal.entries ≡ left_of w
left_told w links is =
    let o = w.objects in
    let calls = o.clock.calls in
    let n = length w.records in
    let deferreds = left_deferreds (λ d. items_of d (hung w)) 0 (map standing_of w.records) in
    let loops = left_loops (λ l. items_of l (turns_held w)) calls 0 o.loops in
    let tasks = left_tasks (λ t. items_of t (tasks_held w)) 0 o.cooperators.tasks in
    let locks = left_locks 0 (map lock_of o.semaphores) in
    let queues = left_queues 0 (map queue_of o.queues) in
    let unhandled = left_unhandled 0 w.journal.entries in
    let hangs : (d : ℕ) → d < n → list_at d links.deferreds ≡ items_of d (hung w) =
    λ d low. ap (λ (g : Gathered). list_at d g.deferreds) is ∙ ap (list_at d) (all_gathered w)
    ∙ told_whole d n (hung w) low in
    let turns : (l : ℕ) → l < length o.loops → list_at l links.loops ≡ items_of l (turns_held w) =
    λ l low. ap (λ (g : Gathered). list_at l g.loops) is ∙ told_whole l (length o.loops) (turns_held w) low in
    let holds : (t : ℕ) → t < length o.cooperators.tasks → list_at t links.tasks ≡ items_of t (tasks_held w) =
    λ t low. ap (λ (g : Gathered). list_at t g.tasks) is
    ∙ told_whole t (length o.cooperators.tasks) (tasks_held w) low in
    let count : 0 + length (map standing_of w.records) ≡ n = omega (arith, length-map w.records standing_of) in
    let count_loops : 0 + length o.loops ≡ length o.loops = omega arith in
    let count_tasks : 0 + length o.cooperators.tasks ≡ length o.cooperators.tasks = omega arith in
    ap (λ x. x ++ left_beside links calls o.loops o.cooperators.tasks (map lock_of o.semaphores) (map queue_of o.queues)
    ++ unhandled)
    (same_deferreds (λ d. list_at d links.deferreds) (λ d. items_of d (hung w)) n 0
    (map standing_of w.records) count hangs)
    ∙ ap (λ x. deferreds ++ (left_calls calls ++ x ++ left_tasks (λ t. list_at t links.tasks) 0 o.cooperators.tasks
    ++ locks ++ queues) ++ unhandled)
    (same_loops (λ l. list_at l links.loops) (λ l. items_of l (turns_held w)) calls
    (length o.loops) 0 o.loops count_loops turns)
    ∙ ap (λ x. deferreds ++ (left_calls calls ++ loops ++ x ++ locks ++ queues) ++ unhandled)
    (same_tasks (λ t. list_at t links.tasks) (λ t. items_of t (tasks_held w))
    (length o.cooperators.tasks) 0 o.cooperators.tasks count_tasks holds)
    ∙ ap (λ x. x ++ unhandled) (in_a_row deferreds (left_calls calls) loops tasks locks queues)

-- what is reported one after the other is reported as a whole
pub told_in_turn : (w : World) (links : Gathered) (none first second third : List Left) (standings : List Standing)
    (calls : List Call) (loops : List LoopingCall) (tasks : List Task) (locks : List SemaphoreParts)
    (queues : List QueueParts) (entries : List Entry) →
    third ≡ second ++ left_unhandled 0 entries → second ≡ first ++ left_beside links calls loops tasks locks queues
    → first ≡ none ++ left_deferreds (λ d. list_at d links.deferreds) 0 standings → none ≡ [] →
    standings ≡ map standing_of w.records → calls ≡ w.objects.clock.calls → loops ≡ w.objects.loops
    → tasks ≡ w.objects.cooperators.tasks →
    locks ≡ map lock_of w.objects.semaphores → queues ≡ map queue_of w.objects.queues → entries ≡ w.journal.entries →
    third ≡ left_deferreds (λ d. list_at d links.deferreds) 0 (map standing_of w.records)
    ++ left_beside links w.objects.clock.calls w.objects.loops w.objects.cooperators.tasks
    (map lock_of w.objects.semaphores) (map queue_of w.objects.queues)
    ++ left_unhandled 0 w.journal.entries
told_in_turn w links none first second third standings calls loops tasks locks queues entries a b c d e f g h i j k =
    rw (a, b, c, d, e, f, g, h, i, j, k) refl
