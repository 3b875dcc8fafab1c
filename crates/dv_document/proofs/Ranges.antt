-- A value whose numbers are all in range is data, and any other is none.
use Rattle.std.proofs.Common.{◌≡◌, Bool, true, false, ◌&&◌, Option, Some, None, option_map, option_and_then, refl, ap, ◌∙◌}
use Rattle.std.specs.Prelude.{is_some}
use Rattle.std.specs.Float.{float_zero}
use Rattle.json.specs.Json as json
use Rattle.serde_json.specs.Data.{Num, float, number, array, object, item, Members, no_members, put}
use Rattle.serde_json.specs.Read.{number_of, of_json, of_items, of_members}
use Rattle.dv_document.specs.Tokens.{or_this, data_of, items_of, members_of}

abbrev mutual
  pub is_in_range : json.Json → Bool
  is_in_range json.null = true
  is_in_range (json.boolean b) = true
  is_in_range (json.number s) = is_some (number_of s)
  is_in_range (json.string s) = true
  is_in_range (json.array js) = are_in_range js
  is_in_range (json.object ms) = have_range ms

  pub are_in_range : json.Items → Bool
  are_in_range json.no_items = true
  are_in_range (json.item j js) = is_in_range j && are_in_range js

  pub have_range : json.Members → Bool
  have_range json.no_members = true
  have_range (json.member k j ms) = is_in_range j && have_range ms

abbrev pub if_so : {A : Type 0} → Bool → A → Option A
if_so true a = Some a
if_so false a = None

mapped : {A B : Type 0} (f : A → B) (b : Bool) (a : A) → option_map f (if_so b a) ≡ if_so b (f a)
mapped f true a = refl
mapped f false a = refl

then : {A B : Type 0} (f : A → Option B) (b c : Bool) (a : A) (r : B) → f a ≡ if_so c r → option_and_then f (if_so b a) ≡ if_so (b && c) r
then f true c a r h = h
then f false c a r h = refl

of_number : (n : Option Num) → option_map number n ≡ if_so (is_some n) (number (or_this (float float_zero) n))
of_number None = refl
of_number (Some n) = refl

mutual
  pub of_json-if_so : (j : json.Json) → of_json j ≡ if_so (is_in_range j) (data_of j)
  of_json-if_so json.null = refl
  of_json-if_so (json.boolean b) = refl
  of_json-if_so (json.number s) = of_number (number_of s)
  of_json-if_so (json.string s) = refl
  of_json-if_so (json.array js) = ap (option_map array) (of_items-if_so js) ∙ mapped array (are_in_range js) (items_of js)
  of_json-if_so (json.object ms) = ap (option_map object) (of_members-if_so ms no_members) ∙ mapped object (have_range ms) (members_of ms no_members)

  of_items-if_so : (js : json.Items) → of_items js ≡ if_so (are_in_range js) (items_of js)
  of_items-if_so json.no_items = refl
  of_items-if_so (json.item j js) =
      ap (option_and_then (λ d. option_map (item d) (of_items js))) (of_json-if_so j)
      ∙ then (λ d. option_map (item d) (of_items js)) (is_in_range j) (are_in_range js) (data_of j) (item (data_of j) (items_of js))
      (ap (option_map (item (data_of j))) (of_items-if_so js) ∙ mapped (item (data_of j)) (are_in_range js) (items_of js))

  of_members-if_so : (ms : json.Members) (found : Members) → of_members ms found ≡ if_so (have_range ms) (members_of ms found)
  of_members-if_so json.no_members found = refl
  of_members-if_so (json.member k j ms) found =
      ap (option_and_then (λ d. of_members ms (put k d found))) (of_json-if_so j)
      ∙ then (λ d. of_members ms (put k d found)) (is_in_range j) (have_range ms) (data_of j) (members_of ms (put k (data_of j) found)) (of_members-if_so ms (put k (data_of j) found))
