-- Forms of JSON that the rules of the grammar share: calls, lists, keys, numbers, classes and values.
use Rattle.std.specs.Prelude.{◌≡◌, ◌≤◌, ℕ, ℤ, Bool, true, false, ◌&&◌, ◌||◌, List, [], ◌∷◌, length, Option, Some, None}
use Rattle.std.specs.Prelude.{unwrap_or, is_some, option_and_then, bytes_eq, codes}
use Rattle.std.specs.List.{list_any}
use Rattle.serde_json.specs.Data.{Num, unsigned, Data, null, boolean, number, string, array, Items, no_items, item}
use Rattle.serde_json.specs.Data.{Members, no_members, member}
use Rattle.serde_json.specs.Data.{object}
use Rattle.serde_json.specs.Find.{as_i64, as_str, get, get_member}
use Rattle.dv_value.specs.declared.value.Value.{Value, Null, Bool as Flag, Int, Text, List as Values, Fault}
use Rattle.dv_value.specs.declared.failure.Failure.{Failure, roll-Failure}
use Rattle.dv_value.specs.declared.failure.Sub.{roll-Sub}
use Rattle.dv_value.specs.declared.classes.Class.{Class}
use Rattle.dv_value.specs.Classes.{find_class}
use Rattle.dv_value.specs.Failure.{plain_failure}
use Rattle.dv_forms.specs.declared.failure.TheConstants.{MOST_INDEX}

-- the items of an array
abbrev pub items : List Data → Items
items [] = no_items
items (d ∷ ds) = item d (items ds)

-- an array of a word and what comes with it
abbrev pub call : List ℕ → List Data → Data
call word ds = array (item (string word) (items ds))

-- the items stand for these, one for one, by the rule
abbrev pub Each : {X : Type 0} → (Data → X → Type 0) → Items → List X → Type 0
Each Is no_items [] = Unit {0}
Each Is no_items (x ∷ xs) = ⊥
Each Is (item d ds) [] = ⊥
Each Is (item d ds) (x ∷ xs) = Is d x × Each Is ds xs

-- an array whose items stand for these by the rule
abbrev pub IsList : {X : Type 0} → (Data → X → Type 0) → Data → List X → Type 0
IsList Is d xs = (ds : Items) × (d ≡ array ds) × Each Is ds xs

-- the value of a key stands for this by the rule, or the key is absent and this is its default
abbrev pub Field : {X : Type 0} → X → (Data → X → Type 0) → Option Data → X → Type 0
Field default Is None x = x ≡ default
Field default Is (Some d) x = Is d x

-- the value of a key, which has to be there, stands for this by the rule
abbrev pub Key : {X : Type 0} → (Data → X → Type 0) → Option Data → X → Type 0
Key Is None x = ⊥
Key Is (Some d) x = Is d x

-- whether an object has no other keys than these and that of a comment
unfoldable pub has_only : List (List ℕ) → Members → Bool
has_only keys no_members = true
has_only keys (member key d ms) =
    (list_any (λ k. bytes_eq key k) keys || bytes_eq key (codes "comment")) && has_only keys ms

-- whether a comment is a text, where there is one
abbrev pub is_comment : Option Data → Bool
is_comment None = true
is_comment (Some d) = is_some (as_str d)

-- whether an object has no other keys than these, but maybe a comment, which is a text
abbrev pub is_keyed_by : List (List ℕ) → Members → Bool
is_keyed_by keys ms = has_only keys ms && is_comment (get_member (codes "comment") ms)

-- a JSON text
abbrev pub IsText : Data → List ℕ → Type 0
IsText d text = d ≡ string text

-- a JSON number that is an integer of 64 bits
abbrev pub IsInteger : Data → ℤ → Type 0
IsInteger d n = (x : Num) × (d ≡ number x) × (as_i64 x ≡ Some n)

-- a JSON number that is an integer from the first bound to the second
abbrev pub IsNumber : ℕ → ℕ → Data → ℕ → Type 0
IsNumber low high d n = (d ≡ number (unsigned n)) × (low ≤ n) × (n ≤ high)

-- the place of the class of this name, or the table's length where the table has none
abbrev pub place_of : List ℕ → List Class → ℕ
place_of name table = unwrap_or (find_class name table) (length table)

-- the JSON text names a class of this place
abbrev pub IsClass : List Class → Data → ℕ → Type 0
IsClass table d class = (name : List ℕ) × (d ≡ string name) × (class ≡ place_of name table)

-- whether an object has no other keys than these
unfoldable pub has_none_but : List (List ℕ) → Members → Bool
has_none_but keys no_members = true
has_none_but keys (member key d ms) = list_any (λ k. bytes_eq key k) keys && has_none_but keys ms

-- the keys of a failure
abbrev pub failure_keys : List (List ℕ)
failure_keys = codes "fail" ∷ codes "message" ∷ []

-- those of a failure of FirstError
abbrev pub first_error_keys : List (List ℕ)
first_error_keys = codes "fail" ∷ codes "index" ∷ codes "message" ∷ codes "sub" ∷ []

-- whether this is the name of FirstError
abbrev pub names_first_error : Option (List ℕ) → Bool
names_first_error None = false
names_first_error (Some name) = bytes_eq name (codes "FirstError")

-- whether an object says the class FirstError, whose failures have another in them
abbrev pub is_first_error : Data → Bool
is_first_error d = names_first_error (option_and_then as_str (get (codes "fail") d))

-- a failure of this class, with this one of the child of this number in it
abbrev pub first_error : ℕ → ℕ → Failure → Failure
first_error class index failure =
    roll-Failure
    (record { class = class; message = []; sub = Some (roll-Sub (record { index = index; failure = failure })) })

-- FAILURE: a failure, as JSON shows it
pub data IsFailure (table : List Class) : Data → Failure → Type 0 where
  -- {"fail":CLASS,"message":TEXT}, of any class but FirstError
  a_failure : (ms : Members) (class : ℕ) (message : List ℕ) → is_first_error (object ms) ≡ false
      → has_none_but failure_keys ms ≡ true
      → Key (IsClass table) (get_member (codes "fail") ms) class
      → Key IsText (get_member (codes "message") ms) message
      → IsFailure table (object ms) (plain_failure class message)
  -- {"fail":"FirstError","index":I,"message":"","sub":FAILURE}
  a_first_error : (ms : Members) (class index : ℕ) (d : Data) (f : Failure) → is_first_error (object ms) ≡ true
      → has_none_but first_error_keys ms ≡ true
      → Key (IsClass table) (get_member (codes "fail") ms) class
      → Key (IsNumber 0 MOST_INDEX) (get_member (codes "index") ms) index
      → Key IsText (get_member (codes "message") ms) []
      → get_member (codes "sub") ms ≡ Some d → IsFailure table d f
      → IsFailure table (object ms) (first_error class index f)

mutual
  -- VALUE: null, a boolean, an integer of 64 bits, a text or an array of values and failures
  pub data IsValue (table : List Class) : Data → Value → Type 0 where
    a_null : IsValue table null Null
    a_bool : (b : Bool) → IsValue table (boolean b) (Flag b)
    an_int : (x : Num) (n : ℤ) → as_i64 x ≡ Some n → IsValue table (number x) (Int n)
    a_text : (text : List ℕ) → IsValue table (string text) (Text text)
    a_list : (ds : Items) (vs : List Value) → AreMembers table ds vs → IsValue table (array ds) (Values vs)

  -- a member of such an array
  pub data IsMember (table : List Class) : Data → Value → Type 0 where
    a_value : (d : Data) (v : Value) → IsValue table d v → IsMember table d v
    a_fault : (d : Data) (f : Failure) → IsFailure table d f → IsMember table d (Fault f)

  -- the items of such an array
  pub data AreMembers (table : List Class) : Items → List Value → Type 0 where
    no_more : AreMembers table no_items []
    one_more : (d : Data) (ds : Items) (v : Value) (vs : List Value) → IsMember table d v → AreMembers table ds vs
        → AreMembers table (item d ds) (v ∷ vs)
