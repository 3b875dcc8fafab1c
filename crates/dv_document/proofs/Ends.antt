-- What a node says of the value that begins at it, and where that ends.
use Rattle.std.proofs.Common as common
use Rattle.std.proofs.Common.{◌≡◌, ℕ, ◌+◌, ◌<◌, ◌≤◌, ◌⊎◌, true, false, Option, Some, None, option_map, List, [], ◌∷◌, ◌++◌, drop, get_or, length, map, refl, sym, ap, ◌∙◌, subst, arith, ⊎_elim}
use Rattle.std.proofs.Math.Logic.{∥∥₁_elim}
use Rattle.std.proofs.lemmas.Bool.{cases_lt, false≢true}
use Rattle.std.proofs.lemmas.List.{drop_all, drop_more, get_or-map, get_or_default, length-map}
use Rattle.std.specs.Borrow.{Bor}
use Rattle.json.specs.Token.{Token}
use Rattle.json.specs.Json as json
use Rattle.json.specs.Tape.{LinkAt, Linked, Passes, node_token}
use Rattle.json.specs.Tree.{json_tokens}
use Rattle.json.specs.declared.tape.Node.{Node}
use Rattle.json.specs.declared.tape.Node.TheVariants.{Object, EndObject, Array, EndArray, Key, String, Number, Bool, Null}
use Rattle.json.proofs.Found.{Some_inj, not_found, one_reading}
use Rattle.dv_document.specs.Places.{Begins, GoesOn, tokens_from}
use Rattle.dv_document.specs.Tokens.{data_at}
use Rattle.dv_document.proofs.Here.{FirstShows, Follows, Shows, first_shows, is_end, is_key, some_items}
use Rattle.dv_document.proofs.Values.{begins_with}

pub none_past : (ts : List Token) (i : ℕ) → length ts ≤ i → tokens_from ts i ≡ []
none_past ts i h = drop_all i ts h

-- there is a node for each token
pub as_long : (ns : List Node) (ts : List Token) → map node_token ns ≡ ts → length ts ≡ length ns
as_long ns ts e = sym (ap length e) ∙ length-map ns node_token

here_of : (ns : List Node) (i : ℕ) (d : Node) → i < length ns
    → tokens_from (map node_token ns) i ≡ node_token (get_or ns i d) ∷ tokens_from (map node_token ns) (i + 1)
here_of ns i d h =
    drop_more (map node_token ns) i (node_token d) (omega (arith, length-map ns node_token))
    ∙ ap (λ t. t ∷ tokens_from (map node_token ns) (i + 1)) (get_or-map node_token ns i d (node_token d) h)

-- the tokens from a node on are its own and those after it
pub here : (ns : List Node) (ts : List Token) → map node_token ns ≡ ts → (i : ℕ) (d : Node) → i < length ns
    → tokens_from ts i ≡ node_token (get_or ns i d) ∷ tokens_from ts (i + 1)
here ns ts e i d h =
    subst (λ us. tokens_from us i ≡ node_token (get_or ns i d) ∷ tokens_from us (i + 1)) e (here_of ns i d h)

-- a value begins at a node
pub stands_within : (ts : List Token) (i : ℕ) → ∥ Begins (tokens_from ts i) ∥₁ → i < length ts
stands_within ts i b =
    ⊎_elim (λ h. h)
    (λ h. absurd (subst (λ us. FirstShows us (data_at (tokens_from ts i))) (none_past ts i h) (first_shows (tokens_from ts i) b)))
    (cases_lt i (length ts))

-- the node shows what the value is
pub shows_at : (ns : List Node) (ts : List Token) → map node_token ns ≡ ts → (i : ℕ) (d : Node)
    → ∥ Begins (tokens_from ts i) ∥₁ → Shows (node_token (get_or ns i d)) (tokens_from ts (i + 1)) (data_at (tokens_from ts i))
shows_at ns ts e i d b =
    let within = stands_within ts i b in
    subst (λ us. FirstShows us (data_at (tokens_from ts i))) (here ns ts e i d (omega (arith, within, as_long ns ts e)))
    (first_shows (tokens_from ts i) b)

skipped : (o : Option (json.Json × List Token)) (r : List Token) → option_map (λ p. p.1) o ≡ Some r
    → (x : json.Json × List Token) × (o ≡ Some x) × (x.1 ≡ r)
skipped None r e = not_found r e
skipped (Some x) r e = (x, refl, Some_inj _ _ e)

-- where a link ends, the value has ended
past_link : (ts : List Token) (i end : ℕ) → Passes ts i end → Follows (tokens_from ts i) (tokens_from ts end)
past_link ts i end link j rest e =
    let read = skipped (json.value link.0 (tokens_from ts i)) (tokens_from ts end) link.1 in
    let b = begins_with j rest in
    let same = one_reading link.0 b.0 (tokens_from ts i) read.0 (j, rest) read.1 (ap (json.value b.0) e ∙ b.2) in
    sym read.2 ∙ ap (λ p. p.1) (Some_inj _ _ same)

-- an array or an object of which the node says the end
abbrev pub EndsAt : Node → ℕ → Type 0
EndsAt n end = (n ≡ Object end) ⊎ (n ≡ Array end)

passes : (ns : List Node) (ts : List Token) → Linked ts 0 ns → (i end : ℕ) (d : Node) → i < length ns
    → EndsAt (get_or ns i d) end → Passes ts i end
passes ns ts links i end d h is =
    let linked = subst (LinkAt ts i) (get_or_default ns i Null d h) (links i (omega arith) h) in
    ⊎_elim (λ e. subst (LinkAt ts i) e linked) (λ e. subst (LinkAt ts i) e linked) is

pub link_follows : (ns : List Node) (ts : List Token) → Linked ts 0 ns → (i end : ℕ) (d : Node) → i < length ns
    → EndsAt (get_or ns i d) end → Follows (tokens_from ts i) (tokens_from ts end)
link_follows ns ts links i end d h is = past_link ts i end (passes ns ts links i end d h is)

pub link_later : (ns : List Node) (ts : List Token) → Linked ts 0 ns → (i end : ℕ) (d : Node) → i < length ns
    → EndsAt (get_or ns i d) end → i < end
link_later ns ts links i end d h is = (passes ns ts links i end d h is).2

pub link_within : (ns : List Node) (ts : List Token) → Linked ts 0 ns → (i end : ℕ) (d : Node) → i < length ns
    → EndsAt (get_or ns i d) end → end ≤ length ts
link_within ns ts links i end d h is = (passes ns ts links i end d h is).3

abbrev opens : Token → common.Bool
opens Token.begin_object = true
opens Token.end_object = false
opens Token.begin_array = true
opens Token.end_array = false
opens (Token.key s) = false
opens (Token.string s) = false
opens (Token.number s) = false
opens (Token.boolean b) = false
opens Token.null = false
opens Token.bad = false

abbrev first_opens : List Token → common.Bool
first_opens [] = false
first_opens (t ∷ ts) = opens t

alone : (n : Node) → ((a : ℕ) → n ≡ Object a → ⊥) → ((a : ℕ) → n ≡ Array a → ⊥) → opens (node_token n) ≡ false
alone (Object a) no_object no_array = absurd (no_object a refl)
alone EndObject no_object no_array = refl
alone (Array a) no_object no_array = absurd (no_array a refl)
alone EndArray no_object no_array = refl
alone (Key s) no_object no_array = refl
alone (String s) no_object no_array = refl
alone (Number s) no_object no_array = refl
alone (Bool b) no_object no_array = refl
alone Null no_object no_array = refl

after_first : (j : json.Json) (rest : List Token) → first_opens (json_tokens j ++ rest) ≡ false
    → drop 1 (json_tokens j ++ rest) ≡ rest
after_first json.null rest e = refl
after_first (json.boolean b) rest e = refl
after_first (json.number s) rest e = refl
after_first (json.string s) rest e = refl
after_first (json.array js) rest e = absurd (false≢true (sym e))
after_first (json.object ms) rest e = absurd (false≢true (sym e))

-- any other value ends with its node
pub one_follows : (ns : List Node) (ts : List Token) → map node_token ns ≡ ts → (i : ℕ) (d : Node) → i < length ns
    → ((a : ℕ) → get_or ns i d ≡ Object a → ⊥) → ((a : ℕ) → get_or ns i d ≡ Array a → ⊥)
    → Follows (tokens_from ts i) (tokens_from ts (i + 1))
one_follows ns ts same i d h no_object no_array j rest e =
    let whole = sym e ∙ here ns ts same i d h in
    let closed = ap first_opens whole ∙ alone (get_or ns i d) no_object no_array in
    sym (ap (drop 1) whole) ∙ after_first j rest closed

-- a node that closes no array
pub goes_on : (n : Node) (ts : List Token) → (n ≡ EndArray → ⊥) → is_end (node_token n ∷ ts) ≡ false
goes_on (Object a) ts never = refl
goes_on EndObject ts never = refl
goes_on (Array a) ts never = refl
goes_on EndArray ts never = absurd (never refl)
goes_on (Key s) ts never = refl
goes_on (String s) ts never = refl
goes_on (Number s) ts never = refl
goes_on (Bool b) ts never = refl
goes_on Null ts never = refl

-- a node that is no key
pub no_key : (n : Node) (ts : List Token) → ((s : Bor (List ℕ)) → n ≡ Key s → ⊥) → is_key (node_token n ∷ ts) ≡ false
no_key (Object a) ts never = refl
no_key EndObject ts never = refl
no_key (Array a) ts never = refl
no_key EndArray ts never = refl
no_key (Key s) ts never = absurd (never s refl)
no_key (String s) ts never = refl
no_key (Number s) ts never = refl
no_key (Bool b) ts never = refl
no_key Null ts never = refl

-- elements don't end with the nodes
pub array_within : (ts : List Token) (i : ℕ) → ∥ GoesOn (tokens_from ts i) ∥₁ → length ts ≤ i → ⊥
array_within ts i g h = ∥∥₁_elim g (λ a b. absurd a) (λ x. some_items x.0 x.1 (sym (none_past ts i h) ∙ x.2))
