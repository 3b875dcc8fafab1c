-- When each part of a value answers a question well.
use Rattle.std.specs.Prelude.{◌≡◌, ◌<◌, ℕ, true, List, [], length, get_or, Some, ⊤}
use Rattle.serde_json.specs.Data.{Data}
use Rattle.serde_json.specs.Find.{at, get}
use Rattle.dv_forms.specs.declared.want.Want.{Want}
use Rattle.dv_why.specs.declared.question.Question.{Question}
use Rattle.dv_forms.specs.declared.want.Want.TheVariants as want
use Rattle.dv_forms.specs.declared.want.Keyed.{Keyed}
use Rattle.dv_forms.specs.Wants.{key_want, keys_in}
use Rattle.dv_why.specs.Places.{part_want, value_want}
use Rattle.dv_why.specs.Fits.{is_other, suits}

-- it does itself, and so does each item and each value of a key, as their places ask
pub data AllSuit (q : Question) : Want → Data → Type 0 where
  all_suit : (w : Want) (d : Data) → suits q w d ≡ true
      → ((n : ℕ) (v : Want) (e : Data) → part_want w d n ≡ Some v → at n d ≡ Some e → AllSuit q v e)
      → ((key : List ℕ) (v : Want) (e : Data) → value_want w key ≡ Some v → get key d ≡ Some e → AllSuit q v e)
      → AllSuit q w d

-- each item of a value does
abbrev pub ItemsSuit : Question → Want → Data → Type 0
ItemsSuit q w d = (n : ℕ) (v : Want) (e : Data) → part_want w d n ≡ Some v → at n d ≡ Some e → AllSuit q v e

-- the value of each key does
abbrev pub ValuesSuit : Question → Want → Data → Type 0
ValuesSuit q w d = (key : List ℕ) (v : Want) (e : Data) → value_want w key ≡ Some v → get key d ≡ Some e → AllSuit q v e

-- the value of each key that an object may have does
abbrev pub KnownSuit : Question → Keyed → Data → Type 0
KnownSuit q k d =
    (i : ℕ) → i < length (keys_in k) → (e : Data) → get (get_or (keys_in k) i []) d ≡ Some e
    → AllSuit q (key_want k (get_or (keys_in k) i [])) e

-- the value of each key that it may not have does
abbrev pub OthersSuit : Question → Keyed → Data → Type 0
OthersSuit q k d =
    (key : List ℕ) (e : Data) → get key d ≡ Some e → is_other (key_want k key) ≡ true → AllSuit q (key_want k key) e

-- the same, where an object is asked for
abbrev pub OthersOf : Question → Want → Data → Type 0
OthersOf q (want.Leaf l) d = ⊤
OthersOf q want.Value d = ⊤
OthersOf q (want.Call c) d = ⊤
OthersOf q (want.Pair p) d = ⊤
OthersOf q (want.Keyed k) d = OthersSuit q k d
OthersOf q (want.Array i) d = ⊤
OthersOf q (want.Word c) d = ⊤
OthersOf q (want.Other k) d = ⊤
