-- What a flag's text says of it.
use Rattle.std.proofs.Common.{◌≡◌, ◌↔◌, ◌∙◌, Bool, true, false, Option, Some, None, IsTrue, MatchBool, codes, refl, sym, ap}
use Rattle.std.specs.Prelude.{unwrap_or}
use Rattle.std.specs.Str.Parse.{false_text, true_text}
use Rattle.std.proofs.lemmas.Bool.{false≢true}
use Rattle.clap.specs.Words.{Text}
use Rattle.command_line.proofs.Texts.{differ, some_none}

-- where there is a text that is one of the two
pub read : (text : Option Text) (set : Bool) → (text ≡ None → Some set ≡ None)
    → ((t : Text) → text ≡ Some t → MatchBool set (t ≡ true_text) (t ≡ false_text))
    → IsTrue set ↔ (text ≡ Some (codes "true"))
read None set none value = absurd (some_none set (none refl))
read (Some t) true none value = (λ _. ap (λ (x : Text). Some x) (value t refl), λ _. refl)
read (Some t) false none value = (
  λ e. absurd (false≢true e),
  λ is. absurd (differ (codes "false") (codes "true") refl
      (sym (value t refl) ∙ ap (λ (o : Option Text). unwrap_or o (codes "true")) is)),
)

-- where there is none, or another
pub unread : (text : Option Text) → ((t : Text) → text ≡ Some t → t ≡ true_text → ⊥)
    → IsTrue false ↔ (text ≡ Some (codes "true"))
unread text value = (λ e. absurd (false≢true e), λ is. absurd (value (codes "true") is refl))
