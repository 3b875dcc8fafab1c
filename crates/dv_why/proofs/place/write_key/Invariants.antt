use Rattle.std.proofs.Common.{◌≡◌, ◌++◌, string_bytes}
use Rattle.dv_why.specs.Pointers.{escaped_key}
use Rattle.dv_why.proofs.place.write_key.Given as goal

-- what is written, with what is left of the key, is the whole
abbrev pub invariant-loop-letter : goal.invariant-loop-letter
invariant-loop-letter l =
    string_bytes l.pointer ++ escaped_key l.letter-iterator.rest.now ≡ string_bytes l.fn.pointer ++ escaped_key l.key
