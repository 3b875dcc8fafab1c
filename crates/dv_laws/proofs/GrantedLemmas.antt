-- By what was logged nobody waits for a token of a lock while one is free.
use Rattle.std.proofs.Common.{◌≡◌, ℕ, ◌≤◌, ◌<◌, List, length, refl, arith}
use Rattle.dv_laws.specs.Granted.{Tokens, Begins, Goes, Next, MakesLock, MakesSemaphore, Grants, Waits, Passes}
use Rattle.dv_laws.specs.Granted.{Frees, Fires, Leaves, Rests, NobodyWaitsForAFreeToken}
use Rattle.dv_journal.specs.declared.entry.Entry.{Entry}
use Rattle.dv_laws.proofs.TokensLemmas.{shorter}

abbrev IsFull : Tokens → Type 0
IsFull t = (t.free ≤ t.all) × (0 < length t.waiting → t.free ≡ 0)

full_next : (name : List ℕ) (told : List Entry) (before after : Tokens) (e : Entry) → Next name told before e after
    → IsFull before → IsFull after
full_next name told _ _ _ MakesLock f = (omega arith, λ h. absurd (omega (arith, h)))
full_next name told _ _ _ (MakesSemaphore all) f = (omega arith, λ h. absurd (omega (arith, h)))
full_next name told _ _ _ (Grants all free d) f = (omega (arith, f.0), λ h. absurd (omega (arith, h)))
full_next name told _ _ _ (Waits all waiting d) f = (f.0, λ h. refl)
full_next name told _ _ _ (Passes all d rest held) f = (f.0, λ h. refl)
full_next name told _ _ _ (Frees all free held) f = (omega (arith, held), λ h. absurd (omega (arith, h)))
full_next name told _ _ _ (Fires all free waiting d e x) f = f
full_next name told _ _ _ (Leaves all free waiting d e x) f = (f.0, λ h. f.1 (omega (arith, h, shorter d waiting)))
full_next name told _ _ _ (Rests all free waiting e a b c x) f = f

pub nobody_waits_for_a_free_token : NobodyWaitsForAFreeToken
nobody_waits_for_a_free_token name _ _ Begins = (omega arith, λ h. absurd (omega (arith, h)))
nobody_waits_for_a_free_token name _ _ (Goes told e before after l n) =
    full_next name told before after e n (nobody_waits_for_a_free_token name told before l)
