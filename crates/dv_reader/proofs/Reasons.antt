-- Bytes that are refused have passed each test before the one that they fail, so they fail one.
use Rattle.std.proofs.Common.{◌≡◌, ◌≢◌, ◌≤◌, ◌<◌, ◌+◌, ◌-◌, ℕ, zero, suc, nat_lt, Bool, true, false, List, length, refl}
use Rattle.std.proofs.Common.{sym, ap, subst, ◌∙◌, ◌⊎◌, inl, inr, arith}
use Rattle.std.proofs.lemmas.Bool.Decides.{nat_tests}
use Rattle.serde_json.specs.Data.{Data}
use Rattle.dv_grammar.specs.Grammar.{IsScript}
use Rattle.dv_grammar.specs.declared.draft.Draft.{Draft}
use Rattle.dv_reader.proofs.Documents.{same_test, same_value}
use Rattle.dv_reader.specs.Laws.{RefusedForOneReason}
use Rattle.dv_reader.specs.Limits.{is_small}
use Rattle.dv_reader.specs.Refusal.{IsTooLong, keeps_version, are_known, are_named, are_pooled, HasShape, HasVersion}
use Rattle.dv_reader.specs.Refusal.{have_bodies, IsDocument, Refuses}
use Rattle.dv_reader.specs.declared.error.ScriptFault.{ScriptFault}
use Rattle.dv_reader.specs.declared.error.ScriptFault.TheVariants.{TooLong, NotJson, BadVersion, BadShape, TooMany}
use Rattle.dv_reader.specs.declared.error.ScriptFault.TheVariants.{BadName, BadClass, OutOfMemory, BadPool, BadBody}
use Rattle.dv_reader.specs.declared.error.ScriptFault.TheVariants.{BadCooperator}

-- which test each reason fails
abbrev rank : ScriptFault → ℕ
rank TooLong = 0
rank NotJson = 1
rank BadVersion = 2
rank BadShape = 3
rank TooMany = 4
rank BadName = 5
rank BadClass = 6
rank BadPool = 7
rank BadBody = 8
rank BadCooperator = 9
rank OutOfMemory = 10

abbrev reason : ℕ → ScriptFault
reason zero = TooLong
reason (suc zero) = NotJson
reason (suc (suc zero)) = BadVersion
reason (suc (suc (suc zero))) = BadShape
reason (suc (suc (suc (suc zero)))) = TooMany
reason (suc (suc (suc (suc (suc zero))))) = BadName
reason (suc (suc (suc (suc (suc (suc zero)))))) = BadClass
reason (suc (suc (suc (suc (suc (suc (suc zero))))))) = BadPool
reason (suc (suc (suc (suc (suc (suc (suc (suc zero)))))))) = BadBody
reason (suc (suc (suc (suc (suc (suc (suc (suc (suc zero))))))))) = BadCooperator
reason (suc (suc (suc (suc (suc (suc (suc (suc (suc (suc n)))))))))) = OutOfMemory

reason_back : (a : ScriptFault) → reason (rank a) ≡ a
reason_back TooLong = refl
reason_back NotJson = refl
reason_back BadVersion = refl
reason_back BadShape = refl
reason_back TooMany = refl
reason_back BadName = refl
reason_back BadClass = refl
reason_back BadPool = refl
reason_back BadBody = refl
reason_back BadCooperator = refl
reason_back OutOfMemory = refl

-- the bytes pass so many tests
abbrev Passes : ℕ → List ℕ → Type 0
Passes zero bytes = Unit {0}
Passes (suc zero) bytes = IsTooLong bytes → ⊥
Passes (suc (suc zero)) bytes = (d : Data) × IsDocument bytes d
Passes (suc (suc (suc zero))) bytes = (d : Data) × IsDocument bytes d × HasVersion d
Passes (suc (suc (suc (suc zero)))) bytes = (d : Data) × (draft : Draft) × HasShape bytes d draft
Passes (suc (suc (suc (suc (suc zero))))) bytes =
    (d : Data) × (draft : Draft) × HasShape bytes d draft × (is_small d draft ≡ true)
Passes (suc (suc (suc (suc (suc (suc zero)))))) bytes =
    (d : Data) × (draft : Draft) × HasShape bytes d draft × (is_small d draft ≡ true) × (are_named d draft ≡ true)
Passes (suc (suc (suc (suc (suc (suc (suc zero))))))) bytes =
    (d : Data) × (draft : Draft) × HasShape bytes d draft × (is_small d draft ≡ true) × (are_named d draft ≡ true)
    × (are_known d draft ≡ true)
Passes (suc (suc (suc (suc (suc (suc (suc (suc zero)))))))) bytes =
    (d : Data) × (draft : Draft) × HasShape bytes d draft × (is_small d draft ≡ true) × (are_named d draft ≡ true)
    × (are_known d draft ≡ true) × (are_pooled d draft ≡ true)
Passes (suc (suc (suc (suc (suc (suc (suc (suc (suc n))))))))) bytes =
    (d : Data) × (draft : Draft) × HasShape bytes d draft × (is_small d draft ≡ true) × (are_named d draft ≡ true)
    × (are_known d draft ≡ true) × (are_pooled d draft ≡ true) × (have_bodies d draft ≡ true)

-- and so one test fewer
fewer : (n : ℕ) (bytes : List ℕ) → Passes (suc n) bytes → Passes n bytes
fewer zero bytes p = tt
fewer (suc zero) bytes p = λ long.
    let over = long.1 p.0 p.1.text p.1.is in
    let fits = p.1.fits in omega (arith, over, fits)
fewer (suc (suc zero)) bytes p = (p.0, p.1)
fewer (suc (suc (suc zero))) bytes p = (p.0, p.2.document, p.2.version)
fewer (suc (suc (suc (suc zero)))) bytes p = (p.0, p.1, p.2)
fewer (suc (suc (suc (suc (suc zero))))) bytes p = (p.0, p.1, p.2, p.3)
fewer (suc (suc (suc (suc (suc (suc zero)))))) bytes p = (p.0, p.1, p.2, p.3, p.4)
fewer (suc (suc (suc (suc (suc (suc (suc zero))))))) bytes p = (p.0, p.1, p.2, p.3, p.4, p.5)
fewer (suc (suc (suc (suc (suc (suc (suc (suc zero)))))))) bytes p = (p.0, p.1, p.2, p.3, p.4, p.5, p.6)
fewer (suc (suc (suc (suc (suc (suc (suc (suc (suc n))))))))) bytes p = p

all_fewer : (k n m : ℕ) (bytes : List ℕ) → m ≡ k + n → Passes m bytes → Passes n bytes
all_fewer zero n m bytes is p =
    let same : m ≡ n = omega (arith, is) in
    subst (λ (x : ℕ). Passes x bytes) same p
all_fewer (suc k) n m bytes is p =
    let next : m ≡ suc (k + n) = omega (arith, is) in
    all_fewer k n (k + n) bytes refl (fewer (k + n) bytes (subst (λ (x : ℕ). Passes x bytes) next p))

-- who is refused passes the tests before
passed : (bytes : List ℕ) (a : ScriptFault) → a ≢ OutOfMemory → Refuses a bytes → Passes (rank a) bytes
passed bytes TooLong other h = tt
passed bytes NotJson other h = λ long. omega (arith, h.0, long.0)
passed bytes BadVersion other h = (h.0, h.1)
passed bytes BadShape other h = (h.0, h.1, h.2)
passed bytes TooMany other h = (h.0, h.1, h.2)
passed bytes BadName other h = (h.0, h.1, h.2, h.3)
passed bytes BadClass other h = (h.0, h.1, h.2, h.3, h.4)
passed bytes BadPool other h = (h.0, h.1, h.2, h.3, h.4, h.5)
passed bytes BadBody other h = (h.0, h.1, h.2, h.3, h.4, h.5, h.6)
passed bytes BadCooperator other h = (h.0, h.1, h.2, h.3, h.4, h.5, h.6, h.7)
passed bytes OutOfMemory other h = absurd (other refl)

-- and fails the next, so it doesn't pass one more, where there is one
failed : (bytes : List ℕ) (a : ScriptFault) → rank a < 9 → Refuses a bytes → Passes (suc (rank a)) bytes → ⊥
failed bytes TooLong low h p = p h
failed bytes NotJson low h p = let unread = h.1 p.1.text in let is = p.1.is in cc
failed bytes BadVersion low h p = h.2 (subst HasVersion (same_value bytes p.0 h.0 p.1 h.1) p.2)
failed bytes BadShape low h p =
    h.3 p.1 (subst (λ (x : Data). IsScript x p.1) (same_value bytes p.0 h.0 p.2.document h.1) p.2.shape)
    (subst (λ (x : Data). keeps_version x p.1 ≡ true) (same_value bytes p.0 h.0 p.2.document h.1) p.2.plain)
failed bytes TooMany low h p =
    let same : is_small p.0 p.1 ≡ is_small h.0 h.1 = same_test is_small bytes p.0 h.0 p.1 h.1 p.2 h.2 in
    let good : is_small p.0 p.1 ≡ true = p.3 in
    let bad : is_small h.0 h.1 ≡ false = h.3 in
    cc
failed bytes BadName low h p =
    let same : are_named p.0 p.1 ≡ are_named h.0 h.1 = same_test are_named bytes p.0 h.0 p.1 h.1 p.2 h.2 in
    let good : are_named p.0 p.1 ≡ true = p.4 in
    let bad : are_named h.0 h.1 ≡ false = h.4 in
    cc
failed bytes BadClass low h p =
    let same : are_known p.0 p.1 ≡ are_known h.0 h.1 = same_test are_known bytes p.0 h.0 p.1 h.1 p.2 h.2 in
    let good : are_known p.0 p.1 ≡ true = p.5 in
    let bad : are_known h.0 h.1 ≡ false = h.5 in
    cc
failed bytes BadPool low h p =
    let same : are_pooled p.0 p.1 ≡ are_pooled h.0 h.1 = same_test are_pooled bytes p.0 h.0 p.1 h.1 p.2 h.2 in
    let good : are_pooled p.0 p.1 ≡ true = p.6 in
    let bad : are_pooled h.0 h.1 ≡ false = h.6 in
    cc
failed bytes BadBody low h p =
    let same : have_bodies p.0 p.1 ≡ have_bodies h.0 h.1 = same_test have_bodies bytes p.0 h.0 p.1 h.1 p.2 h.2 in
    let good : have_bodies p.0 p.1 ≡ true = p.7 in
    let bad : have_bodies h.0 h.1 ≡ false = h.7 in
    cc
failed bytes BadCooperator low h p = absurd (omega (arith, low))
failed bytes OutOfMemory low h p = absurd (omega (arith, low))

most_rank : (b : ScriptFault) → b ≢ OutOfMemory → rank b ≤ 9
most_rank TooLong other = omega arith
most_rank NotJson other = omega arith
most_rank BadVersion other = omega arith
most_rank BadShape other = omega arith
most_rank TooMany other = omega arith
most_rank BadName other = omega arith
most_rank BadClass other = omega arith
most_rank BadPool other = omega arith
most_rank BadBody other = omega arith
most_rank BadCooperator other = omega arith
most_rank OutOfMemory other = absurd (other refl)

-- so nobody fails two tests
not_below : (bytes : List ℕ) (a b : ScriptFault) → b ≢ OutOfMemory → rank a < rank b → Refuses a bytes → Refuses b bytes
    → ⊥
not_below bytes a b other low h k =
    let most : rank b ≤ 9 = most_rank b other in
    let few : rank a < 9 = omega (arith, low, most) in
    let more : rank b ≡ (rank b - suc (rank a)) + suc (rank a) = omega (arith, low) in
    failed bytes a few h (all_fewer (rank b - suc (rank a)) (suc (rank a)) (rank b) bytes more (passed bytes b other k))

tested : (b : Bool) → (b ≡ true) ⊎ (b ≡ false)
tested true = inl refl
tested false = inr refl

lower : (m n : ℕ) → nat_lt m n ≡ true → m < n
lower m n h = grind (arith, nat_tests)

not_lower : (m n : ℕ) → nat_lt m n ≡ false → n ≤ m
not_lower m n h = grind (arith, nat_tests)

pub for_one_reason : RefusedForOneReason
for_one_reason bytes a b first second h k = elim (tested (nat_lt (rank a) (rank b))) [
  | inl below ↦ absurd (not_below bytes a b second (lower (rank a) (rank b) below) h k)
  | inr above ↦ elim (tested (nat_lt (rank b) (rank a))) [
    | inl below ↦ absurd (not_below bytes b a first (lower (rank b) (rank a) below) k h)
    | inr under ↦
        let one : rank b ≤ rank a = not_lower (rank a) (rank b) above in
        let other : rank a ≤ rank b = not_lower (rank b) (rank a) under in
        let same : rank a ≡ rank b = omega (arith, one, other) in
        sym (reason_back a) ∙ ap reason same ∙ reason_back b
  ]
]
