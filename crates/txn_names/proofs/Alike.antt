-- Names are equal exactly where the bytes are that spell them.
use Rattle.std.proofs.Common.{◌≡◌, ℕ, false, List, refl, sym, ap, ◌∙◌, true≢false}
use Rattle.txn_names.specs.Path.{label_eq, path_eq}
use Rattle.txn_names.specs.Text.{spelled_name}
use Rattle.txn_names.specs.Reading.{pieces}
use Rattle.txn_names.specs.Fields.{spelled_pieces}
use Rattle.txn_names.proofs.Names.{label_eq_self, on_label, on_path, path_eq-from}

-- the same pieces, the same bytes
pub same_bytes : (a b : List ℕ) → pieces a ≡ pieces b → a ≡ b
same_bytes a b e = sym (spelled_pieces a) ∙ ap spelled_name e ∙ spelled_pieces b

pub pieces_decide : (a b : List ℕ) → label_eq a b ≡ path_eq (pieces a) (pieces b)
pieces_decide a b =
    on_label a b (λ t. t ≡ path_eq (pieces a) (pieces b))
    (λ e. sym (path_eq-from (pieces a) (pieces b) (ap pieces e)))
    (λ f. on_path (pieces a) (pieces b) (λ t. false ≡ t)
    (λ e. absurd (true≢false (sym (label_eq_self a) ∙ ap (label_eq a) (same_bytes a b e) ∙ f)))
    (λ _. refl))
