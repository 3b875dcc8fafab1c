-- What a text is read as, by the value that the tape's grammar finds in it.
use Rattle.std.proofs.Common.{◌≡◌, ℕ, ◌<◌, ◌≤◌, List, [], ◌∷◌, length, true, false, Option, Some, None, option_and_then, refl, sym, ap, ◌∙◌, append-nil, arith, true≢false, ⊎_elim}
use Rattle.std.proofs.lemmas.Bool.{cases_lt}
use Rattle.std.specs.Prelude.{is_some, IsSomeAnd}
use Rattle.json.specs.Token.{Token}
use Rattle.json.specs.Lex.{tokens}
use Rattle.json.specs.Json as json
use Rattle.json.specs.Json.{value, if_last, document}
use Rattle.json.specs.Find.{BeginsWith}
use Rattle.json.specs.Strict.{HasUniqueKeys}
use Rattle.json.specs.Tree.{json_tokens, depth}
use Rattle.json.proofs.Found.{one_reading, Some_inj, not_found}
use Rattle.json.proofs.Nesting.{value-depth}
use Rattle.json.proofs.Printed.Trees.{value-json_tokens}
use Rattle.json.proofs.Unique.Spelling.{value-json_tokens_back, tokens-document}
use Rattle.serde_json.specs.Read.{of_json, max_depth, read}
use Rattle.dv_document.specs.Fits.{fits}
use Rattle.dv_document.specs.Places.{Begins}
use Rattle.dv_document.specs.Tokens.{first_or, data_of, value_at, data_at}
use Rattle.dv_document.proofs.Ranges.{if_so, of_json-if_so}
use Rattle.dv_document.proofs.Depths.{fits-shallow, fits-deep, depth-length}

abbrev Found : Type 0
Found = Option (json.Json × List Token)

-- the value, where it is all
abbrev whole : Found → Option json.Json
whole o = option_and_then (λ p. if_last p.0 p.1) o

-- a value reads back from its tokens, at any depth that it needs
back : (j : json.Json) (d : ℕ) → depth j ≤ d → value d (json_tokens j) ≡ Some (j, [])
back j d h = ap (value d) (sym (append-nil (json_tokens j))) ∙ value-json_tokens j d [] h

-- ---- the text of a value

read-shallow : (text : List ℕ) (j : json.Json) → tokens text ≡ json_tokens j → depth j ≤ max_depth → read text ≡ of_json j
read-shallow text j e h = ap (λ o. option_and_then of_json (whole o)) (ap (value max_depth) e ∙ back j max_depth h)

not_read : (o : Found) → ((i : json.Json) (r : List Token) → o ≡ Some (i, r) → ⊥) → option_and_then of_json (whole o) ≡ None
not_read None none = refl
not_read (Some p) none = absurd (none p.0 p.1 refl)

too_deep : (ts r : List Token) (i j : json.Json) → ts ≡ json_tokens j → max_depth < depth j → value max_depth ts ≡ Some (i, r) → ⊥
too_deep ts r i j e deep found =
    let same : i ≡ j = ap (λ p. p.0) (Some_inj (i, r) (j, []) (one_reading max_depth (depth j) ts (i, r) (j, []) found (ap (value (depth j)) e ∙ back j (depth j) (omega arith)))) in
    omega (arith, value-depth max_depth ts r i found, ap depth same)

read-deep : (text : List ℕ) (j : json.Json) → tokens text ≡ json_tokens j → max_depth < depth j → read text ≡ None
read-deep text j e deep = not_read (value max_depth (tokens text)) (λ i r found. too_deep (tokens text) r i j e deep found)

-- ---- the text of none

none_then : (o : Option json.Json) → o ≡ None → option_and_then of_json o ≡ None
none_then o e = ap (option_and_then of_json) e

shallower : (text : List ℕ) (o : Found) → value max_depth (tokens text) ≡ o → document text ≡ None → whole o ≡ None
shallower text None e none = refl
shallower text (Some (i, [])) e none =
    let spelled : tokens text ≡ json_tokens i = value-json_tokens_back max_depth (tokens text) [] i e ∙ append-nil (json_tokens i) in
    let shallow : depth i ≤ max_depth = value-depth max_depth (tokens text) [] i e in
    let found : value json.max_depth (tokens text) ≡ Some (i, []) = ap (value json.max_depth) spelled ∙ back i json.max_depth (omega arith) in
    absurd (not_found i (sym none ∙ ap whole found))
shallower text (Some (i, t ∷ r)) e none = refl

pub read-invalid : (text : List ℕ) → document text ≡ None → read text ≡ None
read-invalid text none = none_then _ (shallower text (value max_depth (tokens text)) refl none)

-- ---- by the tokens

value_at-json_tokens : (j : json.Json) → value_at (json_tokens j) ≡ j
value_at-json_tokens j = ap (first_or json.null) (back j (length (json_tokens j)) (depth-length j))

data_at-json_tokens : (j : json.Json) → data_at (json_tokens j) ≡ data_of j
unfolding data_at
data_at-json_tokens j = ap data_of (value_at-json_tokens j)

-- of tokens that fit, the value is shallow
shallow : (j : json.Json) → fits 0 (json_tokens j) ≡ true → depth j ≤ max_depth
shallow j fit = ⊎_elim (λ deep. absurd (true≢false (sym fit ∙ fits-deep j deep))) (λ h. h) (cases_lt max_depth (depth j))

read-fitting : (text : List ℕ) (j : json.Json) → tokens text ≡ json_tokens j → fits 0 (json_tokens j) ≡ true → read text ≡ Some (data_at (json_tokens j))
read-fitting text j e fit =
    let h = shallow j fit in
    read-shallow text j e h ∙ of_json-if_so j ∙ ap (λ b. if_so b (data_of j)) (sym (fits-shallow j h) ∙ fit) ∙ ap Some (sym (data_at-json_tokens j))

read-unfit : (text : List ℕ) (j : json.Json) → tokens text ≡ json_tokens j → fits 0 (json_tokens j) ≡ false → read text ≡ None
read-unfit text j e unfit =
    ⊎_elim (λ deep. read-deep text j e deep)
    (λ h. read-shallow text j e h ∙ of_json-if_so j ∙ ap (λ b. if_so b (data_of j)) (sym (fits-shallow j h) ∙ unfit)) (cases_lt max_depth (depth j))

-- ---- of a text that the tape takes

some_value : {P : Type 0} (o : Option json.Json) → is_some o ≡ true → ((j : json.Json) → o ≡ Some j → P) → P
some_value None h k = absurd (true≢false (sym h))
some_value (Some j) h k = k j refl

pub read-fits : (text : List ℕ) (ts : List Token) → is_some (document text) ≡ true → ts ≡ tokens text → fits 0 ts ≡ true → read text ≡ Some (data_at ts)
read-fits text ts some same fit =
    some_value (document text) some
    (λ j e. let spelled = tokens-document text j e in
    read-fitting text j spelled (ap (fits 0) (sym (same ∙ spelled)) ∙ fit) ∙ ap (λ us. Some (data_at us)) (sym (same ∙ spelled)))

pub read-misfit : (text : List ℕ) (ts : List Token) → is_some (document text) ≡ true → ts ≡ tokens text → fits 0 ts ≡ false → read text ≡ None
read-misfit text ts some same unfit =
    some_value (document text) some (λ j e. let spelled = tokens-document text j e in read-unfit text j spelled (ap (fits 0) (sym (same ∙ spelled)) ∙ unfit))

pub begins : (o : Option json.Json) (ts : List Token) → ((j : json.Json) → o ≡ Some j → BeginsWith ts j) → IsSomeAnd o HasUniqueKeys → Begins ts
begins None ts at unique = absurd unique
begins (Some j) ts at unique = (j, at j refl, unique)
