-- Texts that differ, and values that are none.
use Rattle.std.proofs.Common.{◌≡◌, ◌∙◌, false, Option, Some, None, sym, ap, true≢false}
use Rattle.std.specs.Prelude.{is_some}
use Rattle.std.specs.Str.{bytes_eq}
use Rattle.std.proofs.lemmas.Slice.Eq.{bytes_eq-Decides}
use Rattle.clap.specs.Words.{Text}

pub differ : (a b : Text) → bytes_eq a b ≡ false → a ≡ b → ⊥
differ a b apart e = true≢false (sym ((bytes_eq-Decides a b).1 e) ∙ apart)

pub some_none : {X : Type 0} (x : X) → Some x ≡ None → ⊥
some_none {X} x e = true≢false (ap (λ (o : Option X). is_some o) e)
