-- The test of the version shows whether a value has it.
use Rattle.std.proofs.Common.{◌≡◌, ℕ, ◌≤◌, nat_le, Bool, true, false, ◌&&◌, Option, Some, None, option_and_then, refl}
use Rattle.std.proofs.Common.{codes}
use Rattle.std.proofs.lemmas.Bool.{and_parts, leb-true, le-leb}
use Rattle.serde_json.specs.Data.{Data, number, unsigned, negative, float}
use Rattle.serde_json.specs.Find.{get, as_number, as_u64}
use Rattle.dv_forms.specs.declared.versions.TheConstants.{LAST_VERSION}
use Rattle.dv_reader.specs.Refusal.{HasVersion}
use Rattle.dv_reader.specs.Passes.{is_of_language, is_version}

-- a version that is there
abbrev IsOfLanguage : Option Data → Type 0
IsOfLanguage o = (n : ℕ) × (o ≡ Some (number (unsigned n))) × (1 ≤ n) × (n ≤ LAST_VERSION)

of_language : (o : Option Data) → is_of_language (option_and_then as_u64 (option_and_then as_number o)) ≡ true
    → IsOfLanguage o
of_language None e = cc
of_language (Some (number (unsigned n))) e =
    let both = and_parts (nat_le 1 n) (nat_le n LAST_VERSION) e in
    (n, refl, leb-true 1 n both.0, leb-true n LAST_VERSION both.1)
of_language (Some (number (negative z))) e = cc
of_language (Some (number (float x))) e = cc
of_language (Some _) e = cc

-- what passes the test has its version
pub version_is : (d : Data) → is_version d ≡ true → HasVersion d
version_is d e = of_language (get (codes "version") d) e

-- what has its version passes the test
pub is_version-true : (d : Data) → HasVersion d → is_version d ≡ true
is_version-true d h = rw (h.1, le-leb 1 h.0 h.2, le-leb h.0 LAST_VERSION h.3) refl

-- what fails the test has no version
pub no_version : (d : Data) → is_version d ≡ false → HasVersion d → ⊥
no_version d e h = let passed : is_version d ≡ true = is_version-true d h in cc
