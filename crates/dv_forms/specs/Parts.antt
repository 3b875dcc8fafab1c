-- What the parts of a JSON value read as, and what the arguments of a word do, step by step: the readers that the code
-- follows.
use Rattle.std.specs.Prelude.{ℕ, ℤ, Bool, ◌&&◌, nat_le, List, [], ◌∷◌, Option, Some, None, option_map, option_and_then}
use Rattle.std.specs.Prelude.{if◌then◌else◌, ⊤, bytes_eq, codes}
use Rattle.serde_json.specs.Data.{Data, null, boolean, number, string, array, object, Items, no_items, item, Members}
use Rattle.serde_json.specs.Data.{no_members, member}
use Rattle.serde_json.specs.Find.{as_i64, as_u64, as_number, as_str, as_array, get}
use Rattle.dv_value.specs.declared.value.Value.{Value, Null, Bool as Flag, Int, Text, List as Values, Fault}
use Rattle.dv_value.specs.declared.failure.Failure.{Failure}
use Rattle.dv_value.specs.Failure.{plain_failure}
use Rattle.dv_value.specs.declared.classes.Class.{Class}
use Rattle.dv_script.specs.declared.action.ListFlag.{ListFlag}
use Rattle.dv_script.specs.declared.action.ListFlag.TheVariants as flag
use Rattle.dv_script.specs.declared.turn_rule.TurnRule.{TurnRule}
use Rattle.dv_script.specs.declared.turn_rule.TurnRule.TheVariants as turn_rule
use Rattle.dv_script.specs.declared.action.GatherFlag.{GatherFlag}
use Rattle.dv_script.specs.declared.action.GatherFlag.TheVariants as gather_flag
use Rattle.dv_script.specs.declared.limits.TheConstants.{MOST_PLACES}
use Rattle.dv_forms.specs.declared.declaration.Declaration.{Declaration}
use Rattle.dv_forms.specs.declared.failure.TheConstants.{MOST_INDEX}
use Rattle.dv_forms.specs.Forms.{is_keyed_by, place_of, has_none_but, failure_keys, first_error_keys, is_first_error}
use Rattle.dv_forms.specs.Forms.{first_error}
use Rattle.dv_forms.specs.Table.{table_of, all_declared}

infixl 10 ◌>>=◌
abbrev pub ◌>>=◌ : {A B : Type 0} → Option A → (A → Option B) → Option B
o >>= f = option_and_then f o

-- the items, each as it is read
abbrev pub each : {X : Type 0} → (Data → Option X) → Items → Option (List X)
each at no_items = Some []
each at (item d ds) = option_and_then (λ x. option_map (λ xs. x ∷ xs) (each at ds)) (at d)

-- the items of an array, each as it is read
abbrev pub list_at : {X : Type 0} → (Data → Option X) → Data → Option (List X)
list_at at d = as_array d >>= each at

-- a text
abbrev pub text_at : Data → Option (List ℕ)
text_at = as_str

-- an integer of 64 bits
abbrev pub integer_at : Data → Option ℤ
integer_at d = option_and_then as_i64 (as_number d)

-- the number, if it is from the first bound to the second
abbrev pub within : ℕ → ℕ → ℕ → Option ℕ
within low high n = if nat_le low n && nat_le n high then Some n else None

-- an integer from the first bound to the second
abbrev pub number_at : ℕ → ℕ → Data → Option ℕ
number_at low high d = option_and_then (within low high) (option_and_then as_u64 (as_number d))

-- no bound, or one up to the most places
abbrev pub bound_at : Data → Option (Option ℕ)
bound_at null = Some None
bound_at (boolean b) = None
bound_at (number x) = option_map Some (number_at 0 MOST_PLACES (number x))
bound_at (string text) = None
bound_at (array ds) = None
bound_at (object ms) = None

-- the place of a class
abbrev pub class_at : List Class → Data → Option ℕ
class_at table d = option_map (λ name. place_of name table) (as_str d)

-- an empty text
abbrev pub no_text : List ℕ → Option ⊤
no_text [] = Some tt
no_text (b ∷ bs) = None

abbrev pub empty_at : Data → Option ⊤
empty_at d = option_and_then no_text (as_str d)

-- an object with no other keys than these
unfoldable pub bare_at : List (List ℕ) → Data → Option ⊤
bare_at keys (object ms) = if has_none_but keys ms then Some tt else None
bare_at keys _ = None

-- a failure of any class but FirstError
unfoldable pub plain_at : List Class → Data → Option Failure
plain_at table d = do
  _ ← bare_at failure_keys d
  class ← get (codes "fail") d >>= class_at table
  message ← get (codes "message") d >>= text_at
  Some (plain_failure class message)

-- the class and the place of a failure of FirstError
unfoldable pub head_at : List Class → Data → Option (ℕ × ℕ)
head_at table d = do
  _ ← bare_at first_error_keys d
  class ← get (codes "fail") d >>= class_at table
  index ← get (codes "index") d >>= number_at 0 MOST_INDEX
  _ ← get (codes "message") d >>= empty_at
  Some (class, index)

-- a failure of FirstError, with this one in it
unfoldable pub first_error_by : List Class → Data → Option Failure → Option Failure
first_error_by table d sub = do
  head ← head_at table d
  failure ← sub
  Some (first_error head.0 head.1 failure)

-- a failure, by its class
abbrev pub failure_by : List Class → Data → Option Failure → Option Failure
failure_by table d sub = if is_first_error d then first_error_by table d sub else plain_at table d

abbrev mutual
  -- a failure
  pub failure_at : List Class → Data → Option Failure
  failure_at table null = None
  failure_at table (boolean b) = None
  failure_at table (number x) = None
  failure_at table (string text) = None
  failure_at table (array ds) = None
  failure_at table (object ms) = failure_by table (object ms) (sub_at table ms)

  -- the failure at the key `sub`
  pub sub_at : List Class → Members → Option Failure
  sub_at table no_members = None
  sub_at table (member key d ms) = if bytes_eq key (codes "sub") then failure_at table d else sub_at table ms

-- a failure, as a value
abbrev pub fault_at : List Class → Data → Option Value
fault_at table d = option_map Fault (failure_at table d)

abbrev mutual
  -- a member of an array of a value: a value or a failure
  pub member_at : List Class → Data → Option Value
  member_at table null = Some Null
  member_at table (boolean b) = Some (Flag b)
  member_at table (number x) = option_map Int (as_i64 x)
  member_at table (string text) = Some (Text text)
  member_at table (array ds) = option_map Values (members_at table ds)
  member_at table (object ms) = fault_at table (object ms)

  pub members_at : List Class → Items → Option (List Value)
  members_at table no_items = Some []
  members_at table (item d ds) =
      option_and_then (λ v. option_map (λ vs. v ∷ vs) (members_at table ds)) (member_at table d)

-- a value, which is no object
abbrev pub value_at : List Class → Data → Option Value
value_at table null = member_at table null
value_at table (boolean b) = member_at table (boolean b)
value_at table (number x) = member_at table (number x)
value_at table (string text) = member_at table (string text)
value_at table (array ds) = member_at table (array ds)
value_at table (object ms) = None

-- a flag of a list, by its word
abbrev pub list_flag : List ℕ → Option ListFlag
list_flag text =
    if bytes_eq text (codes "fireOnOneCallback") then Some flag.FireOnOneCallback else
    if bytes_eq text (codes "fireOnOneErrback") then Some flag.FireOnOneErrback else
    if bytes_eq text (codes "consumeErrors") then Some flag.ConsumeErrors else None

-- a flag of a list
abbrev pub list_flag_at : Data → Option ListFlag
list_flag_at d = option_and_then list_flag (as_str d)

-- a flag of what is gathered, by its word
abbrev pub gather_flag_named : List ℕ → Option GatherFlag
gather_flag_named text = if bytes_eq text (codes "consumeErrors") then Some gather_flag.ConsumeErrors else None

-- a flag of what is gathered
abbrev pub gather_flag_at : Data → Option GatherFlag
gather_flag_at d = option_and_then gather_flag_named (as_str d)

-- the rule of the turns of a Cooperator, by its word
abbrev pub turn_rule_named : List ℕ → Option TurnRule
turn_rule_named text =
    if bytes_eq text (codes "fair") then Some turn_rule.Fair else
    if bytes_eq text (codes "twisted") then Some turn_rule.Twisted else None

-- the rule of the turns of a Cooperator
abbrev pub turn_rule_at : Data → Option TurnRule
turn_rule_at d = option_and_then turn_rule_named (as_str d)

-- a word, and what comes with it
unfoldable pub call_at : Data → Option (List ℕ × Items)
call_at (array (item (string word) ds)) = Some (word, ds)
call_at _ = None

-- nothing more
unfoldable pub none : Items → Option ⊤
none no_items = Some tt
none (item d ds) = None

-- the first item, and the rest
unfoldable pub first : Items → Option (Data × Items)
first no_items = None
first (item d ds) = Some (d, ds)

-- an item at most
unfoldable pub if_any : Items → Option (Option Data)
if_any no_items = Some None
if_any (item d ds) = none ds >>= λ _. Some (Some d)

-- one item
unfoldable pub one : Items → Option Data
one ds = do
  a ← first ds
  _ ← none a.1
  Some a.0

-- one item or two
unfoldable pub one_or_two : Items → Option (Data × Option Data)
one_or_two ds = do
  a ← first ds
  b ← if_any a.1
  Some (a.0, b)

-- two items or three
unfoldable pub two_or_three : Items → Option (Data × Data × Option Data)
two_or_three ds = do
  a ← first ds
  b ← first a.1
  c ← if_any b.1
  Some (a.0, b.0, c)

-- two items
unfoldable pub two : Items → Option (Data × Data)
two ds = do
  a ← first ds
  b ← one a.1
  Some (a.0, b)

-- three items
unfoldable pub three : Items → Option (Data × Data × Data)
three ds = do
  a ← first ds
  b ← two a.1
  Some (a.0, b.0, b.1)

-- four items
unfoldable pub four : Items → Option (Data × Data × Data × Data)
four ds = do
  a ← first ds
  b ← three a.1
  Some (a.0, b.0, b.1, b.2)

-- five items
unfoldable pub five : Items → Option (Data × Data × Data × Data × Data)
five ds = do
  a ← first ds
  b ← first a.1
  c ← three b.1
  Some (a.0, b.0, c.0, c.1, c.2)

-- an item, as it is read
unfoldable pub sole : {A : Type 0} → (Data → Option A) → Items → Option A
sole at ds = one ds >>= at

-- two items, as they are read
unfoldable pub pair : {A B : Type 0} → (Data → Option A) → (Data → Option B) → Items → Option (A × B)
pair at bt ds = do
  p ← two ds
  a ← at p.0
  b ← bt p.1
  Some (a, b)

-- three items, as they are read
unfoldable pub triple : {A B C : Type 0} → (Data → Option A) → (Data → Option B) → (Data → Option C) → Items
    → Option (A × B × C)
triple at bt ct ds = do
  p ← three ds
  a ← at p.0
  b ← bt p.1
  c ← ct p.2
  Some (a, b, c)

-- what one item makes
abbrev pub one_of : {A X : Type 0} → (Data → Option A) → (A → X) → Items → Option X
one_of at make ds = option_map make (sole at ds)

-- what two items make
abbrev pub two_of : {A B X : Type 0} → (Data → Option A) → (Data → Option B) → (A → B → X) → Items → Option X
two_of at bt make ds = option_map (λ p. make p.0 p.1) (pair at bt ds)

-- what three items make
abbrev pub three_of : {A B C X : Type 0} → (Data → Option A) → (Data → Option B) → (Data → Option C) → (A → B → C → X)
    → Items → Option X
three_of at bt ct make ds = option_map (λ p. make p.0 p.1 p.2) (triple at bt ct ds)

-- an object with no other keys than these, but maybe a comment
unfoldable pub fields_at : List (List ℕ) → Data → Option ⊤
fields_at keys (object ms) = if is_keyed_by keys ms then Some tt else None
fields_at keys _ = None

-- a key's value as it is read, or the default where the key is absent
abbrev pub field : {X : Type 0} → X → (Data → Option X) → Option Data → Option X
field default at None = Some default
field default at (Some d) = at d

-- what is there, as it is read
abbrev pub if_there : {X : Type 0} → (Data → Option X) → Option Data → Option (Option X)
if_there at None = Some None
if_there at (Some d) = option_map Some (at d)

-- a class that is declared
unfoldable pub declaration_at : Data → Option Declaration
declaration_at d = do
  ds ← as_array d
  two_of text_at text_at (λ name parent. record { name = name; parent = parent }) ds

-- the table of a script that declares these classes, and whether each of them may be declared
unfoldable pub table_for : ℕ → List Declaration → Option (List Class × Bool)
table_for version declared = Some (table_of version declared, all_declared version declared)
