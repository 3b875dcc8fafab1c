-- Those that wait for a value of a queue or a token of a lock: each is made, and its canceller takes it out.
use Rattle.std.proofs.Common.{◌≡◌, ℕ, zero, suc, ◌++◌, Bool, true, false, nat_eq, List, [], ◌∷◌, Option, None}
use Rattle.std.proofs.Common.{Some, refl, sym, ap, subst, ◌∙◌, arith, slice_get, slice_set, cond}
use Rattle.std.proofs.lemmas.Bool.{eqb-true}
use Rattle.dv_journal.specs.declared.entry.Entry.{Entry}
use Rattle.dv_journal.specs.declared.entry.Entry.TheVariants as entry
use Rattle.dv_store.specs.Cancelling.{end_of_chain, EndsAt, ChainsEnd, swallow_next}
use Rattle.dv_store.specs.Fire.{with_firing, with_swallows}
use Rattle.dv_store.specs.Record.{new_record, changing}
use Rattle.dv_store.proofs.ChainLaws.{chains_end}
use Rattle.dv_objects.specs.Pair.{Pair}
use Rattle.dv_objects.specs.Reached.{reached_unfired}
use Rattle.dv_objects.specs.Refusals.{cancelled}
use Rattle.dv_objects.specs.declared.canceller.Canceller.{Canceller}
use Rattle.dv_objects.specs.declared.canceller.Canceller.TheVariants as canceller
use Rattle.dv_objects.specs.declared.reached.Reached.{Reached}
use Rattle.dv_objects.specs.declared.reached.Reached.TheVariants as reached
use Rattle.dv_prims.specs.Tokens.{is_waiting}
use Rattle.dv_loop.proofs.Kept.{Kind}
use Rattle.dv_world.specs.World.{Records, reached_from, end_reached, record_reached}
use Rattle.dv_laws.specs.Served.{IsCancelled}
use Rattle.dv_laws.specs.ReadBack.{told_by}
use Rattle.dv_laws.specs.Swallowed.{Reaches}
use Rattle.dv_laws.proofs.At.{counted_of, at, set_at, set_by, changing_at, changing_by, push_at}
use Rattle.dv_laws.proofs.Calm.{IsMade}
use Rattle.dv_laws.proofs.OnceLemmas.{fired_of, marks_of, marked_at}
use Rattle.dv_laws.proofs.ReadBackLemmas.{get_set, at as shown_at}
use Rattle.dv_laws.proofs.ServedLines.{Sought, Values, Tokens, Owner, waiting_at}
use Rattle.dv_laws.proofs.Settles.{is_itself}
use Rattle.dv_laws.proofs.SwallowedLemmas.{waited_is, led_is}

-- 1. Cancellers.

-- the canceller that takes a Deferred out of the queue or the lock k, and whom a cancel reaches by it
abbrev pub by : Sought → ℕ → Canceller
by Values k = canceller.Item k
by Tokens l = canceller.Token l

abbrev pub reaching : Sought → ℕ → ℕ → Reached
reaching Values d k = reached.ForItem d k
reaching Tokens d l = reached.ForToken d l

abbrev is_item : ℕ → Canceller → Bool
is_item k (canceller.Body body) = false
is_item k (canceller.Token l) = false
is_item k (canceller.Item j) = nat_eq j k
is_item k (canceller.Children children) = false
is_item k (canceller.Inline i) = false

abbrev is_token : ℕ → Canceller → Bool
is_token l (canceller.Body body) = false
is_token l (canceller.Token j) = nat_eq j l
is_token l (canceller.Item k) = false
is_token l (canceller.Children children) = false
is_token l (canceller.Inline i) = false

abbrev is_that : Sought → ℕ → Canceller → Bool
is_that Values k c = is_item k c
is_that Tokens l c = is_token l c

abbrev is_by : Sought → ℕ → Option Canceller → Bool
is_by S k None = false
is_by S k (Some c) = is_that S k c

-- it counts one where the canceller of a Deferred takes it out of the queue or the lock k
abbrev pub leaves_of : Sought → ℕ → Kind → ℕ
leaves_of S k r = cond (is_by S k r.canceller) 1 0

that_itself : (S : Sought) (k : ℕ) → is_that S k (by S k) ≡ true
that_itself Values k = is_itself k
that_itself Tokens l = is_itself l

pub made_leaves : (S : Sought) (k d : ℕ) (rs : Records) → IsMade (by S k) d rs → at (leaves_of S k) d rs ≡ 1
made_leaves S k d rs m =
    ap (counted_of (leaves_of S k)) m.found ∙ ap {B = ℕ} (λ c. cond (is_by S k c) 1 0) m.leaves
    ∙ ap {B = ℕ} (λ b. cond b 1 0) (that_itself S k)

pub made_fresh : (by : Canceller) (d : ℕ) (rs : Records) → IsMade by d rs → marked_at d rs ≡ 0
made_fresh by d rs m = ap (counted_of marks_of) m.found ∙ ap {B = ℕ} (λ b. cond b 1 0) m.fresh

-- a Deferred of which this counts is there
pub none_counts : (f : Kind → ℕ) (d : ℕ) (rs : Records) → slice_get rs d ≡ None → at f d rs ≡ 1 → ⊥
none_counts f d rs g h = absurd (omega (arith, h, ap (counted_of f) g))

-- whom a cancel reaches that is to be fired has no canceller
plain_by : (S : Sought) (b : Bool) (d e k : ℕ) (c : Option Canceller)
    → cond b reached.Nothing (reached_unfired d c) ≡ reached.Fire e → cond {A = ℕ} (is_by S k c) 1 0 ≡ 0
plain_by S true d e k c q = absurd cc
plain_by S false d e k None q = refl
plain_by S false d e k (Some (canceller.Body body)) q = absurd cc
plain_by S false d e k (Some (canceller.Token l)) q = absurd cc
plain_by S false d e k (Some (canceller.Item j)) q = absurd cc
plain_by S false d e k (Some (canceller.Children children)) q = absurd cc
plain_by S false d e k (Some (canceller.Inline i)) q = absurd cc

plain_record : (S : Sought) (end d k : ℕ) (rs : Records) (o : Option Kind) → slice_get rs end ≡ o
    → record_reached end o ≡ reached.Fire d → (end ≡ d) × (counted_of (leaves_of S k) o ≡ 0)
plain_record S end d k rs None g q = absurd cc
plain_record S end d k rs (Some r) g q =
    (same_by r.fired end d r.canceller q, plain_by S r.fired end d k r.canceller q)
  where
    same_unfired : (end d : ℕ) (c : Option Canceller) → reached_unfired end c ≡ reached.Fire d → end ≡ d
    same_unfired end d None q = cc
    same_unfired end d (Some (canceller.Body body)) q = absurd cc
    same_unfired end d (Some (canceller.Token l)) q = absurd cc
    same_unfired end d (Some (canceller.Item j)) q = absurd cc
    same_unfired end d (Some (canceller.Children children)) q = absurd cc
    same_unfired end d (Some (canceller.Inline i)) q = absurd cc

    same_by : (b : Bool) (end d : ℕ) (c : Option Canceller)
        → cond b reached.Nothing (reached_unfired end c) ≡ reached.Fire d → end ≡ d
    same_by true end d c q = absurd cc
    same_by false end d c q = same_unfired end d c q

plain_end : (S : Sought) (o : Option ℕ) (d k : ℕ) (rs : Records) → end_reached o rs ≡ reached.Fire d
    → at (leaves_of S k) d rs ≡ 0
plain_end S None d k rs q = absurd cc
plain_end S (Some end) d k rs q =
    let found = plain_record S end d k rs (slice_get rs end) refl q in
    ap (λ n. at (leaves_of S k) n rs) (sym found.0) ∙ found.1

pub plain_reached : (S : Sought) (of d k : ℕ) (rs : Records) → reached_from of rs ≡ reached.Fire d
    → at (leaves_of S k) d rs ≡ 0
plain_reached S of d k rs q = plain_end S (end_of_chain of rs) d k rs q

-- whom one reaches that waits for something of the queue or the lock k
pub record WaiterReached (S : Sought) (of d k : ℕ) (rs : Records) : Type 0 where
  pub ends : end_of_chain of rs ≡ Some d
  pub made : Kind
  pub found : slice_get rs d ≡ Some made
  pub unfired : made.fired ≡ false
  pub leaves : made.canceller ≡ Some (by S k)

pub not_nothing : (S : Sought) (d k : ℕ) → reached.Nothing ≡ reaching S d k → ⊥
not_nothing Values d k q = absurd cc
not_nothing Tokens d l q = absurd cc

waiter_unfired : (S : Sought) (end d k : ℕ) (c : Option Canceller) → reached_unfired end c ≡ reaching S d k
    → (end ≡ d) × (c ≡ Some (by S k))
waiter_unfired Values end d k None q = absurd cc
waiter_unfired Values end d k (Some (canceller.Body body)) q = absurd cc
waiter_unfired Values end d k (Some (canceller.Token l)) q = absurd cc
waiter_unfired Values end d k (Some (canceller.Item j)) q = (cc, cc)
waiter_unfired Values end d k (Some (canceller.Children children)) q = absurd cc
waiter_unfired Values end d k (Some (canceller.Inline i)) q = absurd cc
waiter_unfired Tokens end d k None q = absurd cc
waiter_unfired Tokens end d k (Some (canceller.Body body)) q = absurd cc
waiter_unfired Tokens end d k (Some (canceller.Token l)) q = (cc, cc)
waiter_unfired Tokens end d k (Some (canceller.Item j)) q = absurd cc
waiter_unfired Tokens end d k (Some (canceller.Children children)) q = absurd cc
waiter_unfired Tokens end d k (Some (canceller.Inline i)) q = absurd cc

module _ (S : Sought) (of : ℕ) (rs : Records) where
  waiter_fired : (b : Bool) (end d k : ℕ) (c : Option Canceller)
      → cond b reached.Nothing (reached_unfired end c) ≡ reaching S d k
      → (b ≡ false) × (end ≡ d) × (c ≡ Some (by S k))
  waiter_fired true end d k c q = absurd (not_nothing S d k q)
  waiter_fired false end d k c q = let found = waiter_unfired S end d k c q in (refl, found.0, found.1)

  waiter_record : (end d k : ℕ) (o : Option Kind) → end_of_chain of rs ≡ Some end → slice_get rs end ≡ o
      → record_reached end o ≡ reaching S d k → WaiterReached S of d k rs
  waiter_record end d k None e g q = absurd (not_nothing S d k q)
  waiter_record end d k (Some r) e g q =
      let parts = waiter_fired r.fired end d k r.canceller q in
      record {
        ends = e ∙ ap Some parts.1;
        made = r;
        found = ap (λ n. slice_get rs n) (sym parts.1) ∙ g;
        unfired = parts.0;
        leaves = parts.2;
      }

  waiter_end : (d k : ℕ) (o : Option ℕ) → end_of_chain of rs ≡ o → end_reached o rs ≡ reaching S d k
      → WaiterReached S of d k rs
  waiter_end d k None e q = absurd (not_nothing S d k q)
  waiter_end d k (Some end) e q = waiter_record end d k (slice_get rs end) e refl q

  pub waiter_reached : (d k : ℕ) → reached_from of rs ≡ reaching S d k → WaiterReached S of d k rs
  waiter_reached d k q = waiter_end d k (end_of_chain of rs) refl q

-- two queues, or two locks, don't have one Deferred wait
same_number : (b : Bool) (j k : ℕ) → nat_eq k j ≡ b → cond {A = ℕ} b 1 0 ≡ 1 → j ≡ k
same_number true j k e h = sym (eqb-true k j e)
same_number false j k e h = absurd (omega (arith, h))

same_that : (S : Sought) (j k : ℕ) → cond {A = ℕ} (is_that S j (by S k)) 1 0 ≡ 1 → j ≡ k
same_that Values j k h = same_number _ j k refl h
same_that Tokens j k h = same_number _ j k refl h

pub same_owner : (S : Sought) (of d j k : ℕ) (rs : Records) → WaiterReached S of d k rs
    → at (leaves_of S j) d rs ≡ 1 → j ≡ k
same_owner S of d j k rs r h =
    same_that S j k (sym (ap (counted_of (leaves_of S j)) r.found
    ∙ ap {B = ℕ} (λ c. cond (is_by S j c) 1 0) r.leaves) ∙ h)

-- 2. What a cancel reaches, by what was logged.

-- a cancel reaches nobody that waits for it
abbrev pub ReachesNone : Sought → Reached → Type 0
ReachesNone Values (reached.ForItem d k) = ⊥
ReachesNone Values r = Unit {0}
ReachesNone Tokens (reached.ForToken d l) = ⊥
ReachesNone Tokens r = Unit {0}

pub last_is : (told before : List Entry) (e x : Entry) → told ++ e ∷ [] ≡ before ++ x ∷ [] → (told ≡ before) × (e ≡ x)
last_is [] [] e x q = (refl, cc)
last_is [] (b ∷ []) e x q = absurd cc
last_is [] (b ∷ c ∷ bs) e x q = absurd cc
last_is (t ∷ []) [] e x q = absurd cc
last_is (t ∷ u ∷ ts) [] e x q = absurd cc
last_is (t ∷ ts) (b ∷ bs) e x q =
    let first : t ≡ b = cc in
    let rest : ts ++ e ∷ [] ≡ bs ++ x ∷ [] = cc in
    let found = last_is ts bs e x rest in
    (ap (λ y. y ∷ ts) first ∙ ap (λ l. b ∷ l) found.0, found.1)

-- no other entry is a cancel
pub not_cancelled : (d : ℕ) (told : List Entry) (e : Entry) → ((of : ℕ) → e ≡ entry.Cancel of → ⊥)
    → IsCancelled d (told ++ e ∷ []) → ⊥
not_cancelled d told e n c = n c.of (last_is told c.before e (entry.Cancel c.of) c.last).1

-- one that it reaches by what was logged is reached, if it is unfired
module _ (rs : Records) (told : List Entry) (h : (k : ℕ) → told_by k told ≡ shown_at k rs) where
  reaches_ends : (of d : ℕ) → Reaches of d told → end_of_chain of rs ≡ Some d
  reaches_ends of d c =
      let all : ChainsEnd Pair Canceller = chains_end in
      (all.ends of d rs).1 (record {
        links = c.waits;
        leads = sym (led_is rs told h c.waits of) ∙ c.leads;
        free = sym (waited_is rs told h d) ∙ c.free;
      })

  pub ends_reaches : (of d : ℕ) → end_of_chain of rs ≡ Some d → Reaches of d told
  ends_reaches of d e =
      let all : ChainsEnd Pair Canceller = chains_end in
      let end : EndsAt rs of d = (all.ends of d rs).0 e in
      record {
        waits = end.links;
        leads = led_is rs told h end.links of ∙ end.leads;
        free = waited_is rs told h d ∙ end.free;
      }

  no_waiter : (S : Sought) (n k : ℕ) (c : Option Canceller) → cond {A = ℕ} (is_by S k c) 1 0 ≡ 1
      → ReachesNone S (reached_unfired n c) → ⊥
  no_waiter S n k None i m = absurd cc
  no_waiter Values n k (Some (canceller.Body body)) i m = absurd cc
  no_waiter Values n k (Some (canceller.Token l)) i m = absurd cc
  no_waiter Values n k (Some (canceller.Item j)) i m = m
  no_waiter Values n k (Some (canceller.Children children)) i m = absurd cc
  no_waiter Values n k (Some (canceller.Inline i)) h m = absurd cc
  no_waiter Tokens n k (Some (canceller.Body body)) i m = absurd cc
  no_waiter Tokens n k (Some (canceller.Token l)) i m = m
  no_waiter Tokens n k (Some (canceller.Item j)) i m = absurd cc
  no_waiter Tokens n k (Some (canceller.Children children)) i m = absurd cc
  no_waiter Tokens n k (Some (canceller.Inline i)) h m = absurd cc

  fired_by : (S : Sought) (b : Bool) (n k : ℕ) (c : Option Canceller) → cond {A = ℕ} (is_by S k c) 1 0 ≡ 1
      → ReachesNone S (cond b reached.Nothing (reached_unfired n c)) → cond {A = ℕ} b 1 0 ≡ 1
  fired_by S true n k c i m = refl
  fired_by S false n k c i m = absurd (no_waiter S n k c i m)

  fired_found : (S : Sought) (o : Option Kind) (n k : ℕ) → counted_of (leaves_of S k) o ≡ 1
      → ReachesNone S (record_reached n o) → counted_of fired_of o ≡ 1
  fired_found S None n k i m = absurd cc
  fired_found S (Some r) n k i m = fired_by S r.fired n k r.canceller i m

  pub fired_already : (S : Sought) (of n k : ℕ) → at (leaves_of S k) n rs ≡ 1 → Reaches of n told
      → ReachesNone S (reached_from of rs) → at fired_of n rs ≡ 1
  fired_already S of n k i c m =
      fired_found S (slice_get rs n) n k i
      (subst (λ (o : Option ℕ). ReachesNone S (end_reached o rs)) (reaches_ends of n c) m)

-- 3. Changes of records that leave cancellers, and mark no Deferred whose next firing is to be swallowed.

pub record Alike (rs new : Records) : Type 0 where
  pub leaves : (S : Sought) (k d : ℕ) → at (leaves_of S k) d rs ≡ 1 → at (leaves_of S k) d new ≡ 1
  pub fresh : (S : Sought) (k d : ℕ) → at (leaves_of S k) d rs ≡ 1 → marked_at d rs ≡ 0 → marked_at d new ≡ 0

pub alike_same : (rs : Records) → Alike rs rs
alike_same rs = record { leaves = λ S k d i. i; fresh = λ S k d i m. m }

pub alike_join : (rs mid new : Records) → Alike rs mid → Alike mid new → Alike rs new
alike_join rs mid new a b = record {
  leaves = λ S k d i. b.leaves S k d (a.leaves S k d i);
  fresh = λ S k d i m. b.fresh S k d (a.leaves S k d i) (a.fresh S k d i m);
}

pub alike_set : (e : ℕ) (r s : Kind) (rs : Records) → slice_get rs e ≡ Some r → s.canceller ≡ r.canceller
    → s.swallows ≡ r.swallows → Alike rs (slice_set rs e s)
alike_set e r s rs g p q = record {
  leaves = λ S k d i. set_at (leaves_of S k) d e r s rs g (ap {B = ℕ} (λ c. cond (is_by S k c) 1 0) p) ∙ i;
  fresh = λ S k d i m. set_at marks_of d e r s rs g (ap {B = ℕ} (λ b. cond b 1 0) q) ∙ m;
}

pub alike_changing : (e : ℕ) (g : Kind → Kind) (rs : Records) → ((r : Kind) → (g r).canceller ≡ r.canceller)
    → ((r : Kind) → (g r).swallows ≡ r.swallows) → Alike rs (changing e g rs)
alike_changing e g rs p q = record {
  leaves = λ S k d i. changing_at (leaves_of S k) d e g rs (λ r. ap {B = ℕ} (λ c. cond (is_by S k c) 1 0) (p r)) ∙ i;
  fresh = λ S k d i m. changing_at marks_of d e g rs (λ r. ap {B = ℕ} (λ b. cond b 1 0) (q r)) ∙ m;
}

kept_push : (f : Kind → ℕ) (d : ℕ) (x : Kind) (rs : Records) → at f d rs ≡ 1 → at f d (rs ++ x ∷ []) ≡ 1
kept_push f d x [] h = absurd cc
kept_push f zero x (r ∷ rs) h = h
kept_push f (suc d) x (r ∷ rs) h = kept_push f d x rs h

pub alike_push : (name : Option (List ℕ)) (canceller : Option Canceller) (rs : Records)
    → Alike rs (rs ++ new_record name canceller ∷ [])
alike_push name canceller rs = record {
  leaves = λ S k d i. kept_push (leaves_of S k) d (new_record name canceller) rs i;
  fresh = λ S k d i m. push_at marks_of d (new_record name canceller) rs refl ∙ m;
}

zero_by : (b : Bool) (x : ℕ) → x ≡ 0 → cond b 0 x ≡ 0
zero_by true x h = refl
zero_by false x h = h

pub alike_unmarked : (e : ℕ) (r : Kind) (rs : Records) → slice_get rs e ≡ Some r
    → Alike rs (slice_set rs e (with_swallows false r))
alike_unmarked e r rs g = record {
  leaves = λ S k d i. set_at (leaves_of S k) d e r (with_swallows false r) rs g refl ∙ i;
  fresh = λ S k d i m. set_by marks_of d e r (with_swallows false r) rs g ∙ zero_by (nat_eq e d) (marked_at d rs) m;
}

-- one that was fired since it was cancelled had no canceller
other_by : (S : Sought) (b : Bool) (k d e x y : ℕ) (rs : Records) → nat_eq e d ≡ b → at (leaves_of S k) d rs ≡ 1
    → at (leaves_of S k) e rs ≡ 0 → y ≡ 0 → cond b x y ≡ 0
other_by S true k d e x y rs q i z h =
    absurd (omega (arith, i, z, ap (λ n. at (leaves_of S k) n rs) (eqb-true e d q)))
other_by S false k d e x y rs q i z h = h

pub alike_swallows : (e : ℕ) (r : Kind) (rs : Records) → slice_get rs e ≡ Some r
    → ((S : Sought) (k : ℕ) → at (leaves_of S k) e rs ≡ 0)
    → Alike rs (swallow_next e (slice_set rs e (with_firing cancelled r)))
alike_swallows e r rs g z =
    let set = slice_set rs e (with_firing cancelled r) in
    record {
      leaves = λ S k d i.
          changing_at (leaves_of S k) d e (with_swallows true) set (λ y. refl)
          ∙ set_at (leaves_of S k) d e r (with_firing cancelled r) rs g refl ∙ i;
      fresh = λ S k d i m.
          changing_by marks_of d e (with_swallows true) set
          ∙ other_by S (nat_eq e d) k d e _ (at marks_of d set) rs refl i (z S k)
          (set_at marks_of d e r (with_firing cancelled r) rs g refl ∙ m);
    }

-- 4. All that wait: each may be taken out, and one to which a cancel came by the last entry was fired before.

pub record Waiter (S : Sought) (k d : ℕ) (rs : Records) (told : List Entry) : Type 0 where
  pub leaves : at (leaves_of S k) d rs ≡ 1
  pub fresh : marked_at d rs ≡ 0
  pub fired : IsCancelled d told → at fired_of d rs ≡ 1

pub record Waiters (S : Sought) (all : List (Owner S)) (rs : Records) (told : List Entry) : Type 0 where
  pub each : (k d : ℕ) (o : Owner S) → slice_get all k ≡ Some o → is_waiting d (waiting_at S o) ≡ true
      → Waiter S k d rs told

-- d waits for something of the queue or the lock k
pub record IsIn (S : Sought) (k d : ℕ) (all : List (Owner S)) : Type 0 where
  pub owner : Owner S
  pub found : slice_get all k ≡ Some owner
  pub waits : is_waiting d (waiting_at S owner) ≡ true

-- nobody more waits
pub record Fewer (S : Sought) (old new : List (Owner S)) : Type 0 where
  pub each : (k d : ℕ) (o : Owner S) → slice_get new k ≡ Some o → is_waiting d (waiting_at S o) ≡ true
      → IsIn S k d old

module _ (S : Sought) where
  pub fewer_same : (old new : List (Owner S)) → new ≡ old → Fewer S old new
  fewer_same old new p = record {
    each = λ k d o g h. record {
      owner = o;
      found = ap (λ (l : List (Owner S)). slice_get l k) (sym p) ∙ g;
      waits = h;
    };
  }

  pushed_in : (k d : ℕ) (p q : Owner S) (old : List (Owner S)) → waiting_at S p ≡ []
      → slice_get (old ++ p ∷ []) k ≡ Some q → is_waiting d (waiting_at S q) ≡ true → slice_get old k ≡ Some q
  pushed_in zero d p q [] e g h =
      let same : p ≡ q = cc in
      let none : waiting_at S q ≡ [] = ap (waiting_at S) (sym same) ∙ e in
      let wrong : true ≡ false = sym h ∙ ap (is_waiting d) none in
      absurd cc
  pushed_in (suc k) d p q [] e g h = absurd cc
  pushed_in zero d p q (c ∷ old) e g h = g
  pushed_in (suc k) d p q (c ∷ old) e g h = pushed_in k d p q old e g h

  pub fewer_push : (p : Owner S) (old : List (Owner S)) → waiting_at S p ≡ [] → Fewer S old (old ++ p ∷ [])
  fewer_push p old e = record {
    each = λ k d q g h. record { owner = q; found = pushed_in k d p q old e g h; waits = h };
  }

  set_in : (b : Bool) (j k d : ℕ) (p r q : Owner S) (old : List (Owner S)) → nat_eq j k ≡ b
      → slice_get old j ≡ Some p → (is_waiting d (waiting_at S r) ≡ true → is_waiting d (waiting_at S p) ≡ true)
      → cond b (Some r) (slice_get old k) ≡ Some q → is_waiting d (waiting_at S q) ≡ true → IsIn S k d old
  set_in true j k d p r q old e g f h w =
      let same : r ≡ q = cc in
      record {
        owner = p;
        found = ap (λ n. slice_get old n) (sym (eqb-true j k e)) ∙ g;
        waits = f (ap (λ (x : Owner S). is_waiting d (waiting_at S x)) same ∙ w);
      }
  set_in false j k d p r q old e g f h w = record { owner = q; found = h; waits = w }

  pub fewer_set : (j : ℕ) (p r : Owner S) (old : List (Owner S)) → slice_get old j ≡ Some p
      → ((d : ℕ) → is_waiting d (waiting_at S r) ≡ true → is_waiting d (waiting_at S p) ≡ true)
      → Fewer S old (slice_set old j r)
  fewer_set j p r old g f = record {
    each = λ k d q h w.
        set_in (nat_eq j k) j k d p r q old refl g (f d) (sym (get_set old j k p r g) ∙ h) w;
  }

  -- so after one more entry
  pub waiters_on : (old new : List (Owner S)) (rs later : Records) (told : List Entry) (e : Entry) → Fewer S old new
      → Alike rs later
      → ((k d : ℕ) → at (leaves_of S k) d rs ≡ 1 → IsCancelled d (told ++ e ∷ []) → at fired_of d later ≡ 1)
      → Waiters S old rs told → Waiters S new later (told ++ e ∷ [])
  waiters_on old new rs later told e f a c w = record {
    each = λ k d o g h.
        let was = f.each k d o g h in
        let x = w.each k d was.owner was.found was.waits in
        record { leaves = a.leaves S k d x.leaves; fresh = a.fresh S k d x.leaves x.fresh; fired = c k d x.leaves };
  }
