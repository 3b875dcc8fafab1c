-- How places in a JSON value are written: as JSON Pointers (RFC 6901).
use Rattle.std.specs.Prelude.{ℕ, ◌<◌, ◌^◌, ◌==◌, if◌then◌else◌, List, [], ◌∷◌, ◌++◌, decimal, codes, encode_utf8, ⊤}
use Rattle.dv_why.specs.declared.misfit.Step.{Step}
use Rattle.dv_why.specs.declared.misfit.Step.TheVariants as step

-- a key, in which `~0` stands for `~` and `~1` for `/`
unfoldable pub escaped_key : List ℕ → List ℕ
escaped_key [] = []
escaped_key (x ∷ rest) =
    if x == 126 then 126 ∷ 48 ∷ escaped_key rest
    else (if x == 47 then 126 ∷ 49 ∷ escaped_key rest else x ∷ escaped_key rest)

-- the same of one character
abbrev pub escaped_letter : ℕ → List ℕ
escaped_letter c = if c == 126 then codes "~0" else (if c == 47 then codes "~1" else encode_utf8 c)

-- a step: the number of an item in decimal, or the key
abbrev pub part_text : Step → List ℕ
part_text (step.Item n) = decimal n
part_text (step.Key key) = escaped_key key.now

-- steps, with `/` before each
abbrev pub pointer_text : List Step → List ℕ
pointer_text [] = []
pointer_text (s ∷ rest) = (47 ∷ part_text s) ++ pointer_text rest

-- the number of an item is one of 64 bits
abbrev pub HasIndex : Step → Type 0
HasIndex (step.Item n) = n < 2 ^ 64
HasIndex (step.Key key) = ⊤

-- that of each is
abbrev pub HaveIndices : List Step → Type 0
HaveIndices [] = ⊤
HaveIndices (s ∷ rest) = HasIndex s × HaveIndices rest
