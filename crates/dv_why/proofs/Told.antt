-- What is reported about a JSON text that is no script is what is reported about bytes that are refused so.
use Rattle.std.proofs.Common.{◌≡◌, ◌⊎◌, inl, inr, ℕ, List}
use Rattle.serde_json.specs.Data.{Data}
use Rattle.dv_reader.specs.declared.error.ScriptFault.{ScriptFault}
use Rattle.dv_reader.specs.declared.error.ScriptFault.TheVariants.{BadVersion, BadShape, TooMany, BadName, BadClass}
use Rattle.dv_reader.specs.declared.error.ScriptFault.TheVariants.{OutOfMemory, BadPool, BadBody, BadCooperator}
use Rattle.dv_why.specs.Why.{TellsOfJson, IsToldOf}

-- the arms of a match
pub json_told : (fault : ScriptFault) (bytes : List ℕ) (told : Data) → (fault ≡ BadVersion)
    ⊎ ((fault ≡ BadShape) ⊎ ((fault ≡ TooMany) ⊎ ((fault ≡ BadName) ⊎ ((fault ≡ BadClass) ⊎ ((fault ≡ OutOfMemory)
    ⊎ ((fault ≡ BadPool) ⊎ ((fault ≡ BadBody) ⊎ (fault ≡ BadCooperator)))))))) → TellsOfJson fault bytes told → IsToldOf fault bytes told
json_told fault bytes told (inl e) = rw e (λ h. h)
json_told fault bytes told (inr (inl e)) = rw e (λ h. h)
json_told fault bytes told (inr (inr (inl e))) = rw e (λ h. h)
json_told fault bytes told (inr (inr (inr (inl e)))) = rw e (λ h. h)
json_told fault bytes told (inr (inr (inr (inr (inl e))))) = rw e (λ h. h)
json_told fault bytes told (inr (inr (inr (inr (inr (inl e)))))) = rw e (λ h. h)
json_told fault bytes told (inr (inr (inr (inr (inr (inr (inl e))))))) = rw e (λ h. h)
json_told fault bytes told (inr (inr (inr (inr (inr (inr (inr (inl e)))))))) = rw e (λ h. h)
json_told fault bytes told (inr (inr (inr (inr (inr (inr (inr (inr e)))))))) = rw e (λ h. h)
