-- The places of a document's nodes.
use Rattle.std.specs.Prelude.{◌≡◌, ℕ, List, ◌++◌, drop}
use Rattle.json.specs.Token.{Token}
use Rattle.json.specs.Json as json
use Rattle.json.specs.Find.{BeginsWith}
use Rattle.json.specs.Strict.{AreDistinct, HasUniqueKeys, ItemsHaveUniqueKeys, MembersHaveUniqueKeys, keys}
use Rattle.json.specs.Tree.{items_tokens, members_tokens}

-- the tokens from a place on
abbrev pub tokens_from : List Token → ℕ → List Token
tokens_from ts at = drop at ts

-- a value in which no object has a key twice
abbrev pub Begins : List Token → Type 0
Begins ts = (j : json.Json) × BeginsWith ts j × HasUniqueKeys j

-- elements of such an array, up to its end
abbrev pub GoesOn : List Token → Type 0
GoesOn ts = (js : json.Items) × (rest : List Token) × (ts ≡ items_tokens js ++ rest) × ItemsHaveUniqueKeys js

-- members of such an object, up to its end
abbrev pub GoesOnKeyed : List Token → Type 0
GoesOnKeyed ts =
    (ms : json.Members) × (rest : List Token) × (ts ≡ members_tokens ms ++ rest) × AreDistinct (keys ms)
    × MembersHaveUniqueKeys ms
