-- What callers see once a child's list has been taken and all its places with it.
use Rattle.std.proofs.Common.{◌≡◌, ℕ, false, cond, not, nat_eq, ◌&&◌, List, [], Option, Some, None, sym, ap, subst, ◌∙◌}
use Rattle.std.specs.Prelude.{IfSome, IsTrue}
use Rattle.std.specs.List.{list_any}
use Rattle.txn_names.specs.Path.{label_eq}
use Rattle.txn_cells.specs.Cells.{handed_up, is_it, merged}
use Rattle.txn_cells.specs.Kept.{AreListed, AtKeys, Lists, content, content_kept, has_place, keys_at, place_kept, seen}
use Rattle.txn_cells.proofs.Handing.{handed_all, none_left}
use Rattle.txn_cells.proofs.Seen.{listed_less, none_there, seen_content, seen_place}

handed_same : {V : Type 0} (inherited : V → Option V → V) (old now : ℕ → List ℕ → Option V) (child : ℕ) (parent : Option ℕ) → ((u : ℕ) (q : List ℕ) → now u q ≡ old u q)
    → (u : ℕ) (q : List ℕ) → handed_up inherited old child parent u q ≡ handed_up inherited now child parent u q
handed_same inherited old now child parent same u q =
    ap (λ o. cond (nat_eq child u) None (cond (is_it parent u) (merged inherited o (old u q)) (old u q))) (sym (same child q))
    ∙ ap (λ o. cond (nat_eq child u) None (cond (is_it parent u) (merged inherited (now child q) o) o)) (sym (same u q))

module _ {V : Type 0} (table : AtKeys V) (lists : Lists) (listed : AreListed table lists) (child : ℕ) (heir parent : Option ℕ) (keys : List (List ℕ)) (is : keys ≡ keys_at lists child) where
  each : (q : List ℕ) → place_kept table child q ≡ list_any (label_eq q) keys
  each q = listed child q ∙ ap (list_any (label_eq q)) (sym is)

  -- the parent has a place at each of the keys
  pub heirs_places : IfSome heir (λ p. parent ≡ Some p)
      → IfSome parent (λ p. (q : List ℕ) → IsTrue (has_place (seen lists table) child q) → IsTrue (has_place (seen lists table) p q))
      → IfSome heir (λ p. (q : List ℕ) → IsTrue (list_any (label_eq q) keys) → IsTrue (place_kept table p q))
  heirs_places = by heir
    where
      by : (o : Option ℕ) → IfSome o (λ p. parent ≡ Some p)
          → IfSome parent (λ p. (q : List ℕ) → IsTrue (has_place (seen lists table) child q) → IsTrue (has_place (seen lists table) p q))
          → IfSome o (λ p. (q : List ℕ) → IsTrue (list_any (label_eq q) keys) → IsTrue (place_kept table p q))
      by None e all = tt
      by (Some p) e all =
          let own = subst (λ (o : Option ℕ). IfSome o (λ r. (q : List ℕ) → IsTrue (has_place (seen lists table) child q) → IsTrue (has_place (seen lists table) r q))) e all in
          λ q there. sym (seen_place table lists listed p q) ∙ own q (seen_place table lists listed child q ∙ each q ∙ there)

  module _ (inherited : V → Option V → V) (left : AtKeys V) (now : Lists) (same : (u : ℕ) → nat_eq child u ≡ false → is_it heir u ≡ is_it parent u)
      (taken : (u : ℕ) → keys_at now u ≡ cond (nat_eq child u) [] (keys_at lists u))
      (contents : (u : ℕ) (q : List ℕ) → content_kept left u q ≡ cond (list_any (label_eq q) keys) (handed_up inherited (content_kept table) child heir u q) (content_kept table u q))
      (places : (u : ℕ) (q : List ℕ) → place_kept left u q ≡ (not (nat_eq child u && list_any (label_eq q) keys) && place_kept table u q)) where
    left_places : (u : ℕ) (q : List ℕ) → place_kept left u q ≡ (not (nat_eq child u) && place_kept table u q)
    left_places u q = places u q ∙ none_left (place_kept table) child (λ k. list_any (label_eq k) keys) each u q

    pub left_listed : AreListed left now
    left_listed = listed_less table lists listed left now child left_places taken

    pub contents_seen : (u : ℕ) (q : List ℕ) → content (seen now left) u q ≡ handed_up inherited (content (seen lists table)) child parent u q
    contents_seen u q =
        seen_content left now left_listed u q
        ∙ contents u q
        ∙ handed_all inherited (content_kept table) child heir parent (λ k. list_any (label_eq k) keys) (λ k none. none_there table lists listed child k (each k ∙ none)) same u q
        ∙ handed_same inherited (content_kept table) (content (seen lists table)) child parent (seen_content table lists listed) u q

    pub places_seen : (u : ℕ) (q : List ℕ) → has_place (seen now left) u q ≡ (not (nat_eq child u) && has_place (seen lists table) u q)
    places_seen u q =
        seen_place left now left_listed u q
        ∙ left_places u q
        ∙ ap (λ b. not (nat_eq child u) && b) (sym (seen_place table lists listed u q))
