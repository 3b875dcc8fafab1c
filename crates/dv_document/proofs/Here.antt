-- What the first tokens of a value, of elements and of members say of the data.
use Rattle.std.proofs.Common.{◌≡◌, ℕ, List, [], ◌∷◌, ◌++◌, length, drop, Bool, true, false, None, refl, sym, ap, ◌∙◌, subst, append_assoc}
use Rattle.std.proofs.lemmas.Bool.{false≢true}
use Rattle.std.proofs.Math.Logic.{∥∥₁_elim, ∥∥₁_map}
use Rattle.std.proofs.Math.Seq.{drop-append_seam}
use Rattle.std.specs.Coded.{Coded-set, ×_prop, Unit-prop, Π_prop}
use Rattle.json.specs.Token.{Token, tokens_code}
use Rattle.json.specs.Json as json
use Rattle.json.specs.Find.{BeginsWith}
use Rattle.json.specs.Strict.{AreDistinct, HasUniqueKeys, ItemsHaveUniqueKeys, MembersHaveUniqueKeys, keys}
use Rattle.json.specs.Tree.{json_tokens, items_tokens, members_tokens}
use Rattle.serde_json.specs.Data.{Data, null, boolean, number, string, array, object, no_items, item, no_members, put}
use Rattle.serde_json.specs.Find.{get_member}
use Rattle.dv_document.specs.Places.{Begins, GoesOn, GoesOnKeyed}
use Rattle.dv_document.specs.Tokens.{data_at, data_of, elements_at, items_at, items_of, keyed_at, members_at, members_of}
use Rattle.dv_document.specs.Tokens.{number_at, value_at}
use Rattle.dv_document.proofs.Puts.{Lacks, first_lacks, not_among, others_distinct, put_last}
use Rattle.dv_document.proofs.Values.{begins_with, value_at-begins, value_at-tokens, elements_at-tokens, members_at-tokens, spelled}

-- what stands under the token, with the tokens after it, where this is the data
abbrev pub Shows : Token → List Token → Data → Type 0
Shows Token.begin_object ts d = (object (keyed_at ts) ≡ d) × ∥ GoesOnKeyed ts ∥₁
Shows Token.end_object ts d = ⊥
Shows Token.begin_array ts d = (array (items_at ts) ≡ d) × ∥ GoesOn ts ∥₁
Shows Token.end_array ts d = ⊥
Shows (Token.key s) ts d = ⊥
Shows (Token.string s) ts d = string s ≡ d
Shows (Token.number s) ts d = number (number_at s) ≡ d
Shows (Token.boolean b) ts d = boolean b ≡ d
Shows Token.null ts d = null ≡ d
Shows Token.bad ts d = ⊥

-- the same of the first of the tokens
abbrev pub FirstShows : List Token → Data → Type 0
FirstShows [] d = ⊥
FirstShows (t ∷ ts) d = Shows t ts d

pub items_at-tokens : (js : json.Items) (rest : List Token) → items_at (items_tokens js ++ rest) ≡ items_of js
unfolding items_at
items_at-tokens js rest = ap items_of (elements_at-tokens js rest)

pub keyed_at-tokens : (ms : json.Members) (rest : List Token)
    → keyed_at (members_tokens ms ++ rest) ≡ members_of ms no_members
unfolding keyed_at
keyed_at-tokens ms rest = ap (λ ns. members_of ns no_members) (members_at-tokens ms rest)

pub data_at-tokens : (j : json.Json) (rest : List Token) → data_at (json_tokens j ++ rest) ≡ data_of j
unfolding data_at
data_at-tokens j rest = ap data_of (value_at-tokens j rest)

-- ---- a value

shows : (j : json.Json) (rest : List Token) → ∥ HasUniqueKeys j ∥₁ → FirstShows (json_tokens j ++ rest) (data_of j)
shows json.null rest u = refl
shows (json.boolean b) rest u = refl
shows (json.number s) rest u = refl
shows (json.string s) rest u = refl
shows (json.array js) rest u = (ap array (items_at-tokens js rest), ∥∥₁_map u (λ h. (js, rest, refl, h)))
shows (json.object ms) rest u = (ap object (keyed_at-tokens ms rest), ∥∥₁_map u (λ h. (ms, rest, refl, h.0, h.1)))

-- the tokens are those of a whole, and what comes after it
abbrev pub Split : List Token → List Token → Type 0
Split whole ts = ts ≡ whole ++ drop (length whole) ts

split : (whole rest ts : List Token) → ts ≡ whole ++ rest → Split whole ts
split whole rest ts e =
    e ∙ ap (λ r. whole ++ r) (sym (ap (drop (length whole)) e ∙ drop-append_seam whole rest))

value_split : (ts : List Token) → Begins ts → Split (json_tokens (value_at ts)) ts
value_split ts b =
    let s = spelled ts b.0 b.1 in
    subst (λ j. Split (json_tokens j) ts) (sym (value_at-begins ts b.0 b.1)) (split (json_tokens b.0) s.0 ts s.1)

pub whole : (ts : List Token) → ∥ Begins ts ∥₁ → Split (json_tokens (value_at ts)) ts
whole ts b = ∥∥₁_elim b (Coded-set tokens_code _ _) (value_split ts)

pub first_shows : (ts : List Token) → ∥ Begins ts ∥₁ → FirstShows ts (data_at ts)
first_shows ts b =
    let j = value_at ts in
    let rest = drop (length (json_tokens j)) ts in
    let unique = ∥∥₁_map b (λ h. subst HasUniqueKeys (sym (value_at-begins ts h.0 h.1)) h.2) in
    subst (λ us. FirstShows us (data_at us)) (sym (whole ts b))
    (subst (FirstShows (json_tokens j ++ rest)) (sym (data_at-tokens j rest)) (shows j rest unique))

-- ---- elements

abbrev pub is_end : List Token → Bool
is_end [] = false
is_end (Token.begin_object ∷ ts) = false
is_end (Token.end_object ∷ ts) = false
is_end (Token.begin_array ∷ ts) = false
is_end (Token.end_array ∷ ts) = true
is_end (Token.key s ∷ ts) = false
is_end (Token.string s ∷ ts) = false
is_end (Token.number s ∷ ts) = false
is_end (Token.boolean b ∷ ts) = false
is_end (Token.null ∷ ts) = false
is_end (Token.bad ∷ ts) = false

abbrev is_any : List Token → Bool
is_any [] = false
is_any (t ∷ ts) = true

no_end : (j : json.Json) (rest : List Token) → is_end (json_tokens j ++ rest) ≡ false
no_end json.null rest = refl
no_end (json.boolean b) rest = refl
no_end (json.number s) rest = refl
no_end (json.string s) rest = refl
no_end (json.array js) rest = refl
no_end (json.object ms) rest = refl

-- elements have at least the closing bracket
pub some_items : (js : json.Items) (rest : List Token) → [] ≡ items_tokens js ++ rest → ⊥
some_items json.no_items rest e = false≢true (ap is_end e)
some_items (json.item json.null js) rest e = false≢true (ap is_any e)
some_items (json.item (json.boolean b) js) rest e = false≢true (ap is_any e)
some_items (json.item (json.number s) js) rest e = false≢true (ap is_any e)
some_items (json.item (json.string s) js) rest e = false≢true (ap is_any e)
some_items (json.item (json.array ks) js) rest e = false≢true (ap is_any e)
some_items (json.item (json.object ms) js) rest e = false≢true (ap is_any e)

-- the tokens after any value that the first ones may be
abbrev pub Follows : List Token → List Token → Type 0
Follows ts us = (j : json.Json) (rest : List Token) → ts ≡ json_tokens j ++ rest → us ≡ rest

-- the first element and those after it, where the tokens go on with these after it
pub record NextItem (ts us : List Token) : Type 0 where
  pub items : items_at ts ≡ item (data_at ts) (items_at us)
  pub begins : ∥ Begins ts ∥₁
  pub goes_on : ∥ GoesOn us ∥₁

items_split : (ts : List Token) → GoesOn ts → Split (items_tokens (elements_at ts)) ts
items_split ts g =
    subst (λ js. Split (items_tokens js) ts) (sym (ap elements_at g.2 ∙ elements_at-tokens g.0 g.1))
    (split (items_tokens g.0) g.1 ts g.2)

-- what is read of elements that are spelled out
next_of : (js : json.Items) (rest ts us : List Token) → ∥ ItemsHaveUniqueKeys js ∥₁ → ts ≡ items_tokens js ++ rest
    → is_end ts ≡ false → Follows ts us → NextItem ts us
next_of json.no_items rest ts us u e going follows = absurd (false≢true (sym going ∙ ap is_end e))
next_of (json.item j js) rest ts us u e going follows =
    let after = items_tokens js ++ rest in
    let here : ts ≡ json_tokens j ++ after = e ∙ append_assoc (json_tokens j) (items_tokens js) rest in
    let there : us ≡ after = follows j after here in
    record {
      items = ap items_at e ∙ items_at-tokens (json.item j js) rest
          ∙ ap (λ d. item d (items_of js)) (sym (ap data_at here ∙ data_at-tokens j after))
          ∙ ap (item (data_at ts)) (sym (ap items_at there ∙ items_at-tokens js rest));
      begins = ∥∥₁_map u (λ h. (j, subst (λ s. BeginsWith s j) (sym here) (begins_with j after), h.0));
      goes_on = ∥∥₁_map u (λ h. (js, rest, there, h.1));
    }

pub next_item : (ts us : List Token) → ∥ GoesOn ts ∥₁ → is_end ts ≡ false → Follows ts us → NextItem ts us
next_item ts us g going follows =
    let js = elements_at ts in
    let whole = ∥∥₁_elim g (Coded-set tokens_code _ _) (items_split ts) in
    let unique = ∥∥₁_map g (λ h. subst ItemsHaveUniqueKeys (sym (ap elements_at h.2 ∙ elements_at-tokens h.0 h.1)) h.3) in
    next_of js (drop (length (items_tokens js)) ts) ts us unique whole going follows

last_of : (js : json.Items) (rest ts : List Token) → ts ≡ items_tokens js ++ rest → is_end ts ≡ true
    → items_at ts ≡ no_items
last_of json.no_items rest ts e over = ap items_at e ∙ items_at-tokens json.no_items rest
last_of (json.item j js) rest ts e over =
    absurd (false≢true (sym (no_end j (items_tokens js ++ rest))
    ∙ sym (ap is_end (e ∙ append_assoc (json_tokens j) (items_tokens js) rest)) ∙ over))

-- at the closing bracket no element is left
pub no_item : (ts : List Token) → ∥ GoesOn ts ∥₁ → is_end ts ≡ true → items_at ts ≡ no_items
no_item ts g over =
    let js = elements_at ts in
    last_of js (drop (length (items_tokens js)) ts) ts (∥∥₁_elim g (Coded-set tokens_code _ _) (items_split ts)) over

-- ---- members

-- the first member and those after it, where its value begins at the second tokens and the third follow that
pub record NextMember (k : List ℕ) (ts vs us : List Token) : Type 0 where
  pub members : keyed_at ts ≡ put k (data_at vs) (keyed_at us)
  pub once : get_member k (keyed_at us) ≡ None
  pub begins : ∥ Begins vs ∥₁
  pub goes_on : ∥ GoesOnKeyed us ∥₁

abbrev Unique : json.Members → Type 0
Unique ms = AreDistinct (keys ms) × MembersHaveUniqueKeys ms

members_split : (ts : List Token) → GoesOnKeyed ts → Split (members_tokens (members_at ts)) ts
members_split ts g =
    subst (λ ms. Split (members_tokens ms) ts) (sym (ap members_at g.2 ∙ members_at-tokens g.0 g.1))
    (split (members_tokens g.0) g.1 ts g.2)

abbrev first_key : List Token → List ℕ
first_key [] = []
first_key (Token.begin_object ∷ ts) = []
first_key (Token.end_object ∷ ts) = []
first_key (Token.begin_array ∷ ts) = []
first_key (Token.end_array ∷ ts) = []
first_key (Token.key s ∷ ts) = s
first_key (Token.string s ∷ ts) = []
first_key (Token.number s ∷ ts) = []
first_key (Token.boolean b ∷ ts) = []
first_key (Token.null ∷ ts) = []
first_key (Token.bad ∷ ts) = []

abbrev pub is_key : List Token → Bool
is_key [] = false
is_key (Token.begin_object ∷ ts) = false
is_key (Token.end_object ∷ ts) = false
is_key (Token.begin_array ∷ ts) = false
is_key (Token.end_array ∷ ts) = false
is_key (Token.key s ∷ ts) = true
is_key (Token.string s ∷ ts) = false
is_key (Token.number s ∷ ts) = false
is_key (Token.boolean b ∷ ts) = false
is_key (Token.null ∷ ts) = false
is_key (Token.bad ∷ ts) = false

lacks_prop : (k : List ℕ) (ms : json.Members) → IsProp (Lacks k ms)
lacks_prop k json.no_members = Unit-prop
lacks_prop k (json.member l j ms) = ×_prop (Π_prop (λ e a b. absurd a)) (lacks_prop k ms)

member_of : (ms : json.Members) (rest : List Token) (k : List ℕ) (ts vs us : List Token) → ∥ Unique ms ∥₁
    → ts ≡ members_tokens ms ++ rest → ts ≡ Token.key k ∷ vs → Follows vs us → NextMember k ts vs us
member_of json.no_members rest k ts vs us u e named follows = absurd (false≢true (ap is_key (sym e ∙ named)))
member_of (json.member l j ms) rest k ts vs us u e named follows =
    let after = members_tokens ms ++ rest in
    let same : k ≡ l = ap first_key (sym named ∙ e) in
    let here : vs ≡ json_tokens j ++ after = ap (drop 1) (sym named ∙ e) ∙ append_assoc (json_tokens j) (members_tokens ms) rest in
    let there : us ≡ after = follows j after here in
    let lacks : Lacks l ms = ∥∥₁_elim u (lacks_prop l ms) (λ h. first_lacks l j ms h.0) in
    record {
      members = ap keyed_at e ∙ keyed_at-tokens (json.member l j ms) rest
          ∙ put_last l (data_of j) ms no_members lacks
          ∙ ap (λ m. put m (data_of j) (members_of ms no_members)) (sym same)
          ∙ ap (λ d. put k d (members_of ms no_members)) (sym (ap data_at here ∙ data_at-tokens j after))
          ∙ ap (put k (data_at vs)) (sym (ap keyed_at there ∙ keyed_at-tokens ms rest));
      once = ap (get_member k) (ap keyed_at there ∙ keyed_at-tokens ms rest)
          ∙ ap (λ m. get_member m (members_of ms no_members)) same ∙ not_among l ms no_members lacks;
      begins = ∥∥₁_map u (λ h. (j, subst (λ s. BeginsWith s j) (sym here) (begins_with j after), h.1.0));
      goes_on = ∥∥₁_map u (λ h. (ms, rest, there, others_distinct l j ms h.0, h.1.1));
    }

pub next_member : (k : List ℕ) (ts vs us : List Token) → ∥ GoesOnKeyed ts ∥₁ → ts ≡ Token.key k ∷ vs → Follows vs us
    → NextMember k ts vs us
next_member k ts vs us g named follows =
    let ms = members_at ts in
    let whole = ∥∥₁_elim g (Coded-set tokens_code _ _) (members_split ts) in
    let unique = ∥∥₁_map g (λ h. subst Unique (sym (ap members_at h.2 ∙ members_at-tokens h.0 h.1)) (h.3, h.4)) in
    member_of ms (drop (length (members_tokens ms)) ts) k ts vs us unique whole named follows

begins_in : (ms : json.Members) (rest : List Token) (k : List ℕ) (ts vs : List Token) → MembersHaveUniqueKeys ms
    → ts ≡ members_tokens ms ++ rest → ts ≡ Token.key k ∷ vs → Begins vs
begins_in json.no_members rest k ts vs u e named = absurd (false≢true (ap is_key (sym e ∙ named)))
begins_in (json.member l j ms) rest k ts vs u e named =
    let after = members_tokens ms ++ rest in
    let here : vs ≡ json_tokens j ++ after = ap (drop 1) (sym named ∙ e) ∙ append_assoc (json_tokens j) (members_tokens ms) rest in
    (j, subst (λ s. BeginsWith s j) (sym here) (begins_with j after), u.0)

-- a value begins after a key
pub value_begins : (k : List ℕ) (ts vs : List Token) → ∥ GoesOnKeyed ts ∥₁ → ts ≡ Token.key k ∷ vs → ∥ Begins vs ∥₁
value_begins k ts vs g named = ∥∥₁_map g (λ h. begins_in h.0 h.1 k ts vs h.4 h.2 named)

end_of : (ms : json.Members) (rest ts : List Token) → ts ≡ members_tokens ms ++ rest → is_key ts ≡ false
    → keyed_at ts ≡ no_members
end_of json.no_members rest ts e over = ap keyed_at e ∙ keyed_at-tokens json.no_members rest
end_of (json.member l j ms) rest ts e over = absurd (false≢true (sym over ∙ ap is_key e))

-- where no key stands no member is left
pub no_member : (ts : List Token) → ∥ GoesOnKeyed ts ∥₁ → is_key ts ≡ false → keyed_at ts ≡ no_members
no_member ts g over =
    let ms = members_at ts in
    end_of ms (drop (length (members_tokens ms)) ts) ts (∥∥₁_elim g (Coded-set tokens_code _ _) (members_split ts)) over
