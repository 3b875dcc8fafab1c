use Rattle.std.proofs.Common.{◌≡◌, ◌++◌, string_bytes, sym, ap, ◌∙◌, append_assoc, append-nil}
use Rattle.dv_why.specs.Pointers.{escaped_key, escaped_letter}
use Rattle.dv_why.proofs.Pointers.{escaped_first, escaped_none}
use Rattle.dv_why.proofs.place.write_key.Goals as goal

pub loop-letter-preserved : goal.loop-letter-preserved
loop-letter-preserved c =
    let h = c.in-Some.ensures.steps.0 in
    let written : string_bytes c.write_letter.new.pointer
    ≡ string_bytes c.loop-letter.pointer ++ escaped_letter c.in-Some.letter = c.in_ok-write_letter.ensures in
    rw written (append_assoc (string_bytes c.loop-letter.pointer) (escaped_letter c.in-Some.letter)
    (escaped_key c.next.new.self.rest.now)
    ∙ ap (λ l. string_bytes c.loop-letter.pointer ++ l)
    (sym (ap escaped_key h ∙ escaped_first c.in-Some.letter c.next.new.self.rest.now)) ∙ c.loop-letter.invariant)

pub returns : goal.returns
returns c =
    let none = escaped_none c.loop-letter.letter-iterator.rest.now c.in-None.ensures.steps.0.0 in
    sym (append-nil (string_bytes c.loop-letter.pointer)) ∙ ap (λ l. string_bytes c.loop-letter.pointer ++ l) (sym none)
    ∙ c.loop-letter.invariant
