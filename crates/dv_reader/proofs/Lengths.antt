-- How long a text may be by its value, and which are too long.
use Rattle.std.proofs.Common.{◌≡◌, ◌≤◌, ◌<◌, ℕ, Bool, true, false, nat_le, if◌then◌else◌, List, length, Some, None}
use Rattle.std.specs.Prelude.{IsUtf8}
use Rattle.std.proofs.Common.{option_and_then, subst, sym, ◌∙◌, arith, codes}
use Rattle.serde_json.specs.Data.{Data}
use Rattle.serde_json.specs.Find.{get, as_number, as_u64}
use Rattle.serde_json.specs.Read.{read}
use Rattle.dv_script.specs.declared.limits.TheConstants.{MOST_BYTES, MOST_LIMIT, MOST_NODES}
use Rattle.dv_forms.specs.Limits.{most_bytes, most_limit, most_nodes}
use Rattle.dv_forms.specs.declared.limits.TheConstants.{WIDEST_BYTES, WIDEST_LIMIT, WIDEST_NODES}
use Rattle.dv_forms.specs.declared.versions.TheConstants.{WIDE_SINCE}
use Rattle.dv_grammar.proofs.Steps.{some_injective}
use Rattle.dv_reader.specs.Limits.{most_bytes_of, or_first}
use Rattle.dv_reader.specs.Refusal.{IsTooLong}

-- the version by which a value's text may be so long
abbrev version_of : Data → ℕ
version_of d = or_first (option_and_then as_u64 (option_and_then as_number (get (codes "version") d)))

either_most : (b : Bool) (low high : ℕ) → low ≤ high → (if b then high else low) ≤ high
either_most true low high h = omega arith
either_most false low high h = h

either_least : (b : Bool) (low high : ℕ) → low ≤ high → low ≤ (if b then high else low)
either_least true low high h = h
either_least false low high h = omega arith

-- no version has more
pub nodes_most : (version : ℕ) → most_nodes version ≤ WIDEST_NODES
nodes_most version = either_most (nat_le WIDE_SINCE version) MOST_NODES WIDEST_NODES (omega arith)

pub limit_most : (version : ℕ) → most_limit version ≤ WIDEST_LIMIT
limit_most version = either_most (nat_le WIDE_SINCE version) MOST_LIMIT WIDEST_LIMIT (omega arith)

bytes_most : (version : ℕ) → most_bytes version ≤ WIDEST_BYTES
bytes_most version = either_most (nat_le WIDE_SINCE version) MOST_BYTES WIDEST_BYTES (omega arith)

-- none has less
bytes_least : (version : ℕ) → MOST_BYTES ≤ most_bytes version
bytes_least version = either_least (nat_le WIDE_SINCE version) MOST_BYTES WIDEST_BYTES (omega arith)

-- what is longer than any script may be is too long
pub too_wide : (bytes : List ℕ) → WIDEST_BYTES < length bytes → IsTooLong bytes
too_wide bytes h = (omega (arith, h), λ d text is. let most = bytes_most (version_of d) in omega (arith, h, most))

-- what is longer than its value may be is
pub too_long_value : (bytes : List ℕ) (d : Data) → read bytes ≡ Some d → most_bytes_of d < length bytes
    → IsTooLong bytes
too_long_value bytes d is h =
    let least = bytes_least (version_of d) in (
      omega (arith, h, least),
      λ e text also. let same : d ≡ e = some_injective (sym is ∙ also) in
          subst (λ (x : Data). most_bytes_of x < length bytes) same h,
    )

-- and so is what is longer than a script of the first version may be and is no value
pub too_long_text : (bytes : List ℕ) → MOST_BYTES < length bytes → (IsUtf8 bytes → read bytes ≡ None)
    → IsTooLong bytes
too_long_text bytes h none = (h, λ d text is. let unread = none text in cc)
