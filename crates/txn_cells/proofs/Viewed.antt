-- What all transactions have at one key, as callers see it.
use Rattle.std.proofs.Common.{◌≡◌, Bor, ℕ, List, [], Option, Some, None, unwrap_or, sym, ap, ◌∙◌}
use Rattle.std.specs.Prelude.{IfNone, IfSome, option_copied}
use Rattle.std.specs.Map.{lookup}
use Rattle.std.proofs.lemmas.Option.{IfSome_then}
use Rattle.txn_names.specs.Path.{label_eq}
use Rattle.txn_cells.specs.Cells.{IsAt, IsBareAt}
use Rattle.txn_cells.specs.Kept.{AreListed, AtKeys, Held, Lists, content_of, held_at, holds, seen}
use Rattle.txn_cells.proofs.Seen.{seen_content, seen_place}

-- what a look-up lends
pub lent : {V : Type 0} (kept : AtKeys V) (k : List ℕ) (o : Option (Bor (Held V))) → option_copied o ≡ lookup (label_eq k) kept → IfSome o (λ cells. held_at kept k ≡ cells.now)
lent kept k None e = tt
lent kept k (Some cells) e = ap (λ p. unwrap_or p []) (sym e)

if_none : {X P Q : Type 0} (o : Option X) → (P → Q) → IfNone o P → IfNone o Q
if_none None f p = f p
if_none (Some x) f p = p

module _ {V : Type 0} (kept : AtKeys V) (lists : Lists) (listed : AreListed kept lists) (k : List ℕ) (held : Held V) (is : held_at kept k ≡ held) where
  place_at : (u : ℕ) → holds (held_at kept k) u ≡ holds held u
  place_at u = ap (λ (h : Held V). holds h u) is

  content_here : (u : ℕ) → content_of (held_at kept k) u ≡ content_of held u
  content_here u = ap (λ (h : Held V). content_of h u) is

  seen_at : IsAt (seen lists kept) k held
  seen_at = record {
    places = λ u. sym (seen_place kept lists listed u k ∙ place_at u);
    contents = λ u. sym (seen_content kept lists listed u k ∙ content_here u);
  }

-- where nothing is kept at the key
seen_bare : {V : Type 0} (kept : AtKeys V) (lists : Lists) → AreListed kept lists → (k : List ℕ) → held_at kept k ≡ [] → IsBareAt (seen lists kept) k
seen_bare {V} kept lists listed k none = record {
  places = λ u. seen_place kept lists listed u k ∙ ap (λ (h : Held V). holds h u) none;
  contents = λ u. seen_content kept lists listed u k ∙ ap (λ (h : Held V). content_of h u) none;
}

-- what a look-up at the key finds, as callers see it
module _ {V : Type 0} (kept : AtKeys V) (lists : Lists) (listed : AreListed kept lists) (k : List ℕ) (o : Option (Bor (Held V))) where
  pub some_seen : IfSome o (λ cells. held_at kept k ≡ cells.now) → IfSome o (λ cells. IsAt (seen lists kept) k cells.now)
  some_seen is = IfSome_then o is (λ cells. seen_at kept lists listed k cells.now)

  pub none_seen : IfNone o (held_at kept k ≡ []) → IfNone o (IsBareAt (seen lists kept) k)
  none_seen none = if_none o (seen_bare kept lists listed k) none
