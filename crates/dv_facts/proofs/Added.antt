-- Parts of a line that are added one after the other.
use Rattle.std.proofs.Common.{◌≡◌, ℕ, List, [], ◌++◌, OnOk, Result, Ok, Err, refl, ap, ◌∙◌, sym, append_assoc}
use Rattle.std.proofs.lemmas.List.{append-nil}
use Rattle.dv_facts.proofs.Visible.{visible_both, visible_bool, visible_decimal, visible_failure, visible_json}
use Rattle.dv_facts.proofs.Visible.{visible_number_or_null, visible_quoted}
use Rattle.dv_facts.specs.Parts.{Adds, IsVisible}

pub adds_nothing : (a : List ℕ) → Adds a a
adds_nothing a = record { text = []; is = sym (append-nil a); visible = refl }

pub adds_text : (a b text : List ℕ) → b ≡ a ++ text → IsVisible text → Adds a b
adds_text a b text is visible = record { text = text; is = is; visible = visible }

pub adds_both : (a b c : List ℕ) → Adds a b → Adds b c → Adds a c
adds_both a b c first second = record {
  text = first.text ++ second.text;
  is = second.is ∙ ap (λ (l : List ℕ). l ++ second.text) first.is ∙ append_assoc a first.text second.text;
  visible = visible_both first.text second.text first.visible second.visible;
}

-- what is added after a text that ends no line is added after what stands before it
pub adds_after : (a b before : List ℕ) → IsVisible before → Adds (a ++ before) b → Adds a b
adds_after a b before visible more = adds_both a (a ++ before) b (adds_text a (a ++ before) before refl visible) more

-- one part more
pub adds_next : {a b c : List ℕ} (before : List ℕ) → Adds a b → Adds (b ++ before) c → IsVisible before → Adds a c
adds_next {a} {b} {c} before so_far more visible = adds_both a b c so_far (adds_after b c before visible more)

-- the same where the call that adds the last one has answered Ok
pub adds_last : {A E : Type 0} (r : Result A E) (a b c before : List ℕ) → OnOk r (Adds (b ++ before) c) → Adds a b
    → IsVisible before → OnOk r (Adds a c)
adds_last (Ok x) a b c before more so_far visible = adds_next before so_far more visible
adds_last (Err e) a b c before more so_far visible = tt

-- and where that one is a text
pub adds_end : {A E : Type 0} (r : Result A E) (a b c text : List ℕ) → OnOk r (c ≡ b ++ text) → Adds a b
    → IsVisible text → OnOk r (Adds a c)
adds_end (Ok x) a b c text is so_far visible = adds_both a b c so_far (adds_text b c text is visible)
adds_end (Err e) a b c text is so_far visible = tt

-- what the calls cite that add a part
pub ruleset parts = (
  adds_nothing,
  adds_text,
  adds_both,
  adds_after,
  visible_both,
  visible_bool,
  visible_decimal,
  visible_failure,
  visible_json,
  visible_number_or_null,
  visible_quoted,
)
