-- A step uses one item at most.
use Rattle.std.proofs.Common.{◌≡◌, refl, ap, ℕ, ◌+◌, Bool, true, false, cond, List, [], ◌∷◌, length, Option, Some, None}
use Rattle.std.proofs.Common.{Ok, Err, slice_get, slice_set, arith}
use Rattle.std.proofs.lemmas.List.Sums.{sum_by-set}
use Rattle.std.proofs.lemmas.Option.{slice_get_within, get_or_from_slice_get}
use Rattle.dv_value.specs.Failure.{is_fault}
use Rattle.dv_value.specs.declared.value.Value.TheVariants.{Null}
use Rattle.dv_journal.specs.Journal.{fits, with_entry}
use Rattle.dv_journal.specs.declared.entry.Entry.{Entry}
use Rattle.dv_journal.specs.declared.entry.Entry.TheVariants as entry
use Rattle.dv_journal.specs.declared.error.Stop.TheVariants.{Limit}
use Rattle.dv_store.specs.Record.{changed, changing}
use Rattle.dv_journal.specs.Telling.{telling, untold}
use Rattle.dv_store.specs.State.{State}
use Rattle.dv_store.specs.Callbacks.{Stepped, is_ready, with_handed, use_pair, use_item, use_first, step_found, step}
use Rattle.dv_store.specs.Laws.{StepUsesOneItemAtMost, unused_items, used, items_used}
use Rattle.dv_store.specs.declared.record.Item.{Item}
use Rattle.dv_store.specs.declared.record.Item.TheVariants as item
use Rattle.dv_store.specs.declared.record.Record.{Record}
use Rattle.dv_store.specs.declared.store.Step.{Step}
use Rattle.dv_store.specs.declared.store.Step.TheVariants.{Nothing, Passed, Run, Handed}

-- a record that is changed adds its own items to the sum
pub unused_items-set : {P K : Type 0} (rs : List (Record P K)) (id : ℕ) (r changed : Record P K)
    → slice_get rs id ≡ Some r →
    unused_items (slice_set rs id changed) + length r.items ≡ unused_items rs + length changed.items
unused_items-set rs id r changed found =
    let held = get_or_from_slice_get rs id r r found in
    rw held at (sum_by-set (λ s. length s.items) rs id changed r (slice_get_within rs id r found))

-- a change that keeps the items of a record keeps the sum
changed_keeps : {P K : Type 0} (rs : List (Record P K)) (id : ℕ)
    (change : Record P K → Record P K) (o : Option (Record P K)) → slice_get rs id ≡ o
    → ((r : Record P K) → length (change r).items ≡ length r.items) →
    unused_items (changed id change o rs) ≡ unused_items rs
changed_keeps rs id change None found same = refl
changed_keeps rs id change (Some r) found same = omega (arith, unused_items-set rs id r (change r) found, same r)

pub changing_keeps : {P K : Type 0} (rs : List (Record P K)) (id : ℕ) (change : Record P K → Record P K)
    → ((r : Record P K) → length (change r).items ≡ length r.items) →
    unused_items (changing id change rs) ≡ unused_items rs
changing_keeps rs id change same = changed_keeps rs id change _ refl same

module _ {P K : Type 0} (passes_at : P → Bool → Bool) (id : ℕ) (s : State P K) where
  -- the items that are left and those used are all that there were
  abbrev Balances : Stepped P K → Type 0
  Balances t = unused_items t.1.0 + items_used t.0 ≡ unused_items s.0

  nothing-balances : Balances (untold Nothing s)
  nothing-balances = omega arith

  told-balances : (e : Entry) (move : Step P) (rs : List (Record P K)) → unused_items rs + used move ≡ unused_items s.0
      → Balances (telling e move rs s)
  told-balances e move rs h =
      elim (fits s.1 e) as (λ b. Balances (cond b (Ok move, (rs, with_entry s.1 e)) (Err Limit, s))) [
        | true ↦ h
        | false ↦ omega arith
      ]

  one_less : (r left : Record P K) (first : Item P) (rest : List (Item P)) → slice_get s.0 id ≡ Some r
      → r.items ≡ first ∷ rest → left.items ≡ rest →
      unused_items (slice_set s.0 id left) + 1 ≡ unused_items s.0
  one_less r left first rest found all is =
      omega (arith, unused_items-set s.0 id r left found, ap length all, ap length is)

  use_pair-balances : (r : Record P K) (pair : P) (rest : List (Item P)) → slice_get s.0 id ≡ Some r
      → r.items ≡ item.Pair pair ∷ rest →
      Balances (use_pair passes_at id r pair rest s)
  use_pair-balances r pair rest found all =
      let passed : Record P K = record r { items = rest } in
      let run : Record P K = record r { items = rest; running = true } in
      elim (passes_at pair (is_fault r.value)) as (λ b. Balances (cond b (untold Passed (slice_set s.0 id passed, s.1))
      (telling (entry.Run id) (Run pair) (slice_set s.0 id run) s))) [
        | true ↦ one_less r passed (item.Pair pair) rest found all refl
        | false ↦ told-balances (entry.Run id) (Run pair) _ (one_less r run (item.Pair pair) rest found all refl)
      ]

  use_item-balances : (r : Record P K) (first : Item P) (rest : List (Item P)) → slice_get s.0 id ≡ Some r
      → r.items ≡ first ∷ rest →
      Balances (use_item passes_at id r first rest s)
  use_item-balances r (item.Pair pair) rest found all = use_pair-balances r pair rest found all
  use_item-balances r (item.HandOver c) rest found all =
      let left : Record P K = record r { items = rest; value = Null } in
      told-balances (entry.Hand id c r.value) (Handed c) _
      (omega (
        arith,
        changing_keeps (slice_set s.0 id left) c (with_handed r.value) (λ x. refl),
        one_less r left (item.HandOver c) rest found all refl,
      ))

  use_first-balances : (r : Record P K) (items : List (Item P)) → slice_get s.0 id ≡ Some r → r.items ≡ items →
      Balances (use_first passes_at id r items s)
  use_first-balances r [] found all = nothing-balances
  use_first-balances r (first ∷ rest) found all = use_item-balances r first rest found all

  step_found-balances : (o : Option (Record P K)) → slice_get s.0 id ≡ o → Balances (step_found passes_at id o s)
  step_found-balances None found = nothing-balances
  step_found-balances (Some r) found =
      elim (is_ready r) as (λ b. Balances (cond b (use_first passes_at id r r.items s) (untold Nothing s)))
      [ true ↦ use_first-balances r r.items found refl | false ↦ nothing-balances ]

-- a step uses one item at most, and adds none
pub step-uses_one : {P K : Type 0} (passes_at : P → Bool → Bool) → StepUsesOneItemAtMost P K passes_at
unfolding step
step-uses_one passes_at id s = step_found-balances passes_at id s (slice_get s.0 id) refl
