-- A queue serves those that ask in the order in which they ask, and so does a lock: what an entry leaves by which one
-- of them changes.
use Rattle.std.proofs.Common.{◌≡◌, ◌⊎◌, ⊎_elim, inl, inr, ℕ, ◌≤◌, ◌++◌, Bool, true, false, nat_eq, List}
use Rattle.std.proofs.Common.{[], ◌∷◌, Some, refl, sym, ap, subst, ◌∙◌, arith, slice_get}
use Rattle.std.proofs.Common.{slice_set}
use Rattle.std.proofs.Common.{cond}
use Rattle.std.specs.Prelude.{bytes_eq}
use Rattle.std.proofs.lemmas.Bool.{eqb-true}
use Rattle.std.proofs.lemmas.Slice.Eq.{bytes_eq-Decides}
use Rattle.dv_value.specs.declared.value.Value.{Value}
use Rattle.dv_journal.specs.declared.entry.Entry.{Entry}
use Rattle.dv_journal.specs.declared.entry.Entry.TheVariants as entry
use Rattle.dv_prims.specs.Tokens.{is_waiting}
use Rattle.dv_world.specs.World.{World, Records, state_of}
use Rattle.dv_laws.specs.Served.{IsCancelled}
use Rattle.dv_laws.proofs.At.{at}
use Rattle.dv_laws.proofs.Calm.{IsMade}
use Rattle.dv_laws.proofs.OnceLemmas.{marked_at}
use Rattle.dv_laws.proofs.ReadBackLemmas.{Reads, get_set}
use Rattle.dv_laws.proofs.ServedLemmas.{Served, AreSound, Counts, Pending, made_on, made_before}
use Rattle.dv_laws.proofs.ServedLines.{Sought, Owner, owners, called, waiting_at, Shape, own, IsSettled, IsGiven}
use Rattle.dv_laws.proofs.ServedLines.{giving, made_in, Next, Leads, goes_next, line_of, named, named_set, line_own}
use Rattle.dv_laws.proofs.ServedLines.{line_set, line_same, line_settled, joined}
use Rattle.dv_laws.proofs.ServedWaiters.{by, leaves_of, made_leaves, made_fresh, not_cancelled, alike_same}
use Rattle.dv_laws.proofs.ServedWaiters.{Waiter, Waiters, fewer_same, fewer_set, waiters_on}

-- 1. One changes, by whether it has the name.

-- what the next entry makes of a line, where d is given something by it
pub record GivenBy (S : Sought) (name : List ℕ) (d : ℕ) (value : Value) (told : List Entry) (e : Entry)
    (before after : Shape S) : Type 0 where
  pub shown : Shape S
  pub same : (shown ≡ after) ⊎ ((shown ≡ giving S d value after) × IsGiven S name value)
  pub next : Next S name told before e shown

module _ (S : Sought) (name : List ℕ) (key : ℕ) (p q : Owner S) (all : List (Owner S)) (g : slice_get all key ≡ Some p)
    (n : called S q ≡ called S p) where
  pub changed_count : (e : Entry) → made_in S name e ≡ 0 → Counts S name e all (slice_set all key q)
  changed_count e m = record { counted = omega (arith, m, named_set S name all key p q g n) }

  before_change : named S name (slice_set all key q) ≤ 1 → named S name all ≤ 1
  before_change c = omega (arith, c, named_set S name all key p q g n)

  -- an entry of that one
  pub changed_next : (b : Bool) (told : List Entry) (e : Entry) → bytes_eq (called S p) name ≡ b
      → (called S p ≡ name → Next S name told (own S p) e (own S q))
      → (bytes_eq (called S p) name ≡ false → (l : Shape S) → IsSettled S l → Next S name told l e l)
      → named S name (slice_set all key q) ≤ 1
      → Next S name told (line_of S name all) e (line_of S name (slice_set all key q))
  changed_next true told e h known rest c =
      rw (line_own S name key p all g h (before_change c), line_set S name key p q all g h n (before_change c))
      (known ((bytes_eq-Decides (called S p) name).0 h))
  changed_next false told e h known rest c =
      rw (line_same S name key p q all g h n) (rest h (line_of S name all) (line_settled S name all))

  pub changed_given : (b : Bool) (d : ℕ) (value : Value) (told : List Entry) (e : Entry)
      → bytes_eq (called S p) name ≡ b
      → (called S p ≡ name → IsGiven S name value × Next S name told (own S p) e (giving S d value (own S q)))
      → (bytes_eq (called S p) name ≡ false → (l : Shape S) → IsSettled S l → Next S name told l e l)
      → named S name all ≤ 1
      → GivenBy S name d value told e (line_of S name all) (line_of S name (slice_set all key q))
  changed_given true d value told e h known rest c =
      let here = known ((bytes_eq-Decides (called S p) name).0 h) in
      record {
        shown = giving S d value (own S q);
        same = inr (ap (giving S d value) (sym (line_set S name key p q all g h n c)), here.0);
        next =
            subst (λ l. Next S name told l e (giving S d value (own S q)))
            (sym (line_own S name key p all g h c)) here.1;
      }
  changed_given false d value told e h known rest c = record {
    shown = line_of S name (slice_set all key q);
    same = inl refl;
    next =
        subst (λ l. Next S name told (line_of S name all) e l) (sym (line_same S name key p q all g h n))
        (rest h (line_of S name all) (line_settled S name all));
  }

-- 2. After that entry.

-- d is to be fired
module _ (S : Sought) (name : List ℕ) (key d : ℕ) (value : Value) (e : Entry) (p q : Owner S) (w u : World)
    (s : w.stopped ≡ false) (g : slice_get (owners S w.objects) key ≡ Some p) (n : called S q ≡ called S p)
    (t : u.journal.entries ≡ w.journal.entries ++ e ∷ [])
    (o : owners S u.objects ≡ slice_set (owners S w.objects) key q) (v : u.records ≡ w.records)
    (k : Served S name w) where
  pub given_pending : made_in S name e ≡ 0 → ((of : ℕ) → e ≡ entry.Cancel of → ⊥)
      → Reads (state_of w) (state_of u) → AreSound S (slice_set (owners S w.objects) key q)
      → ((x : ℕ) → is_waiting x (waiting_at S q) ≡ true → is_waiting x (waiting_at S p) ≡ true)
      → at (leaves_of S key) d w.records ≡ 1 → marked_at d w.records ≡ 0
      → (named S name (owners S w.objects) ≤ 1
      → GivenBy S name d value w.journal.entries e (line_of S name (owners S w.objects))
      (line_of S name (slice_set (owners S w.objects) key q)))
      → Pending S name d value u
  given_pending m c r i f j z given =
      let count : Counts S name e (owners S w.objects) (owners S u.objects) =
      subst (λ (l : List (Owner S)). Counts S name e (owners S w.objects) l) (sym o)
      (changed_count S name key p q (owners S w.objects) g n e m) in
      record {
        back = r.goes_on k.back;
        made = made_on S name e w u s t k count;
        sound = subst (λ (l : List (Owner S)). AreSound S l) (sym o) i;
        waiters =
            subst (λ told. Waiters S (owners S u.objects) u.records told) (sym t)
            (subst (λ (l : List (Owner S)). Waiters S l u.records (w.journal.entries ++ e ∷ [])) (sym o)
            (subst (λ (rs : Records). Waiters S (slice_set (owners S w.objects) key q) rs (w.journal.entries ++ e ∷ []))
            (sym v) (waiters_on S (owners S w.objects) (slice_set (owners S w.objects) key q) w.records w.records
            w.journal.entries e (fewer_set S key p q (owners S w.objects) g f) (alike_same w.records)
            (λ y x h b. absurd (not_cancelled x w.journal.entries e c b)) (k.waiters s))));
        number = key;
        leaves = ap (λ (rs : Records). at (leaves_of S key) d rs) v ∙ j;
        fresh = ap (λ (rs : Records). marked_at d rs) v ∙ z;
        last = λ x y. not_cancelled x w.journal.entries e c (subst (λ told. IsCancelled x told) t y);
        given = λ h.
            let before = made_before S name e w u s t k h in
            let x = given (omega (arith, before, k.made)) in
            record {
              shown = x.shown;
              same =
                  subst (λ (l : List (Owner S)). (x.shown ≡ line_of S name l)
                  ⊎ ((x.shown ≡ giving S d value (line_of S name l)) × IsGiven S name value)) (sym o) x.same;
              leads =
                  subst (λ told. Leads S name told x.shown) (sym t)
                  (goes_next S name w.journal.entries e (line_of S name (owners S w.objects)) x.shown
                  (k.leads before s) x.next);
            };
      }

-- d waits, last
waiter_by : (S : Sought) (b : Bool) (key d j n : ℕ) (q longer z : Owner S) (all : List (Owner S)) (rs : Records)
    (told : List Entry) → nat_eq key j ≡ b → slice_get all key ≡ Some q
    → waiting_at S longer ≡ waiting_at S q ++ d ∷ [] → IsMade (by S key) d rs → Waiters S all rs told
    → ((x : ℕ) → IsCancelled x told → ⊥) → cond b (Some longer) (slice_get all j) ≡ Some z
    → is_waiting n (waiting_at S z) ≡ true → Waiter S j n rs told
waiter_by S false key d j n q longer z all rs told e g l i k c h w = k.each j n z h w
waiter_by S true key d j n q longer z all rs told e g l i k c h w =
    let same : longer ≡ z = cc in
    let here : is_waiting n (waiting_at S q ++ d ∷ []) ≡ true =
    ap (is_waiting n) (sym l) ∙ ap (λ (x : Owner S). is_waiting n (waiting_at S x)) same ∙ w in
    let is_key : key ≡ j = eqb-true key j e in
    subst (λ y. Waiter S y n rs told) is_key (⊎_elim (λ old. k.each key n q g old) (λ new.
    let is_d : n ≡ d = eqb-true n d new in
    subst (λ y. Waiter S key y rs told) (sym is_d) (record {
      leaves = made_leaves S key d rs i;
      fresh = made_fresh (by S key) d rs i;
      fired = λ y. absurd (c d y);
    })) (joined d n (waiting_at S q) here))

pub waits_last : (S : Sought) (key d : ℕ) (q longer : Owner S) (all : List (Owner S)) (rs : Records) (told : List Entry)
    (e : Entry) → slice_get all key ≡ Some q → waiting_at S longer ≡ waiting_at S q ++ d ∷ [] → IsMade (by S key) d rs
    → ((of : ℕ) → e ≡ entry.Cancel of → ⊥) → Waiters S all rs told
    → Waiters S (slice_set all key longer) rs (told ++ e ∷ [])
waits_last S key d q longer all rs told e g l i n k =
    let on : Waiters S all rs (told ++ e ∷ []) =
    waiters_on S all all rs rs told e (fewer_same S all all refl) (alike_same rs)
    (λ j x h c. absurd (not_cancelled x told e n c)) k in
    record {
      each = λ j x z h y.
          waiter_by S _ key d j x q longer z all rs (told ++ e ∷ []) refl g l i on (λ m c. not_cancelled m told e n c)
          (sym (get_set all key j q longer g) ∙ h) y;
    }
