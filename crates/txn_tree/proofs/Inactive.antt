-- The causes of refusals, by whether a transaction is active.
use Rattle.std.proofs.Common.{◌≡◌, ◌<◌, ℕ, Bool, true, false, not, length, Option, Some, None, is_some, option_map, refl, sym, ap, ◌∙◌, true≢false, arith}
use Rattle.std.specs.Prelude.{slice_get}
use Rattle.std.proofs.lemmas.Bool.{false≢true, not-true}
use Rattle.std.proofs.lemmas.Map.Entries.{length-keys_of}
use Rattle.std.proofs.lemmas.Option.{slice_get_within}
use Rattle.txn_names.specs.Path.{Path}
use Rattle.serial_spec.specs.History.{or_else}
use Rattle.serial_spec.specs.Causes.{when, why_orphaned}
use Rattle.serial_spec.specs.declared.entry.Refusal.{Refusal}
use Rattle.serial_spec.specs.declared.entry.Refusal.TheVariants.{Unknown, NoParent, Done, Orphan}
use Rattle.txn_tree.specs.declared.status.Status.{Status}
use Rattle.txn_tree.specs.declared.status.Status.TheVariants.{Absent, Live, Committed, Aborted}
use Rattle.txn_tree.specs.States.{States, names, status_in, is_absent, is_committed, is_live}
use Rattle.txn_tree.specs.Asked.{has_committed_in, is_absent_in, is_active_in, top_aborted_in}
use Rattle.txn_tree.specs.Causes.{cause_at_abort, cause_at_parent, orphan_or}
use Rattle.txn_tree.specs.Numbered.{is_active_at, is_active_named, top_aborted_at, top_aborted_named}
use Rattle.txn_tree.proofs.Orphans.{active_parts, begun_active}

-- ---- who is not active

module _ (tree : States) (t : Path) (quiet : is_active_in tree t ≡ false) (begun : is_absent_in tree t ≡ false) where
  -- whoever has begun and is no orphan has committed then
  committed : top_aborted_in tree t ≡ None → has_committed_in tree t ≡ true
  committed upright = by (has_committed_in tree t) refl
    where
      by : (b : Bool) → has_committed_in tree t ≡ b → b ≡ true
      by true e = refl
      by false e = absurd (true≢false (sym (begun_active tree t begun e (ap is_some upright)) ∙ quiet))

  last_cause : (r s : Refusal) → Some (orphan_or (top_aborted_in tree t) s) ≡ or_else (when (is_absent_in tree t) r) (or_else (why_orphaned (top_aborted_in tree t)) (when (has_committed_in tree t) s))
  last_cause r s = by (is_absent_in tree t) (top_aborted_in tree t) (has_committed_in tree t) begun committed
    where
      by : (a : Bool) (o : Option Path) (d : Bool) → a ≡ false → (o ≡ None → d ≡ true) → Some (orphan_or o s) ≡ or_else (when a r) (or_else (option_map (λ p. Orphan p) o) (when d s))
      by false (Some p) d e f = refl
      by false None true e f = refl
      by false None false e f = absurd (false≢true (f refl))
      by true o d e f = absurd (true≢false e)

  pub ended_parent : Some (orphan_or (top_aborted_in tree t) NoParent) ≡ cause_at_parent tree t
  ended_parent = last_cause NoParent NoParent

  pub ended_done : Some (orphan_or (top_aborted_in tree t) Done) ≡ cause_at_abort tree t
  ended_done = last_cause Unknown Done

-- ---- who is active

has_begun : (s : Status) → is_live s ≡ true → (is_absent s ≡ false) × (is_committed s ≡ false)
has_begun Absent e = absurd (false≢true e)
has_begun Live e = (refl, refl)
has_begun Committed e = (refl, absurd (false≢true e))
has_begun Aborted e = (refl, refl)

module _ (tree : States) (t : Path) (active : is_active_in tree t ≡ true) where
  no_cause : (r s : Refusal) → None ≡ or_else (when (is_absent_in tree t) r) (or_else (why_orphaned (top_aborted_in tree t)) (when (has_committed_in tree t) s))
  no_cause r s =
      let parts = active_parts tree t active in
      let begun = has_begun (status_in tree t) parts.0 in
      by (is_absent_in tree t) (top_aborted_in tree t) (has_committed_in tree t) begun.0 parts.1 begun.1
    where
      by : (a : Bool) (o : Option Path) (d : Bool) → a ≡ false → is_some o ≡ false → d ≡ false → None ≡ or_else (when a r) (or_else (option_map (λ p. Orphan p) o) (when d s))
      by false None false e f g = refl
      by false None true e f g = absurd (true≢false g)
      by false (Some p) d e f g = absurd (true≢false f)
      by true o d e f g = absurd (true≢false e)

  pub no_cause_at_parent : None ≡ cause_at_parent tree t
  no_cause_at_parent = no_cause NoParent NoParent

  pub no_cause_at_abort : None ≡ cause_at_abort tree t
  no_cause_at_abort = no_cause Unknown Done

-- ---- by number

module _ (tree : States) (t : Path) (n : ℕ) (at : slice_get (names tree) n ≡ Some t) where
  pub active_here : is_active_at tree n ≡ is_active_in tree t
  active_here = ap (is_active_named tree) at

  quiet_here : is_active_at tree n ≡ false → is_active_in tree t ≡ false
  quiet_here e = sym active_here ∙ e

  module _ (begun : true ≡ not (is_absent_in tree t)) (quiet : is_active_at tree n ≡ false) where
    pub ended_parent_at : Some (orphan_or (top_aborted_at tree n) NoParent) ≡ cause_at_parent tree t
    ended_parent_at =
        ap (λ o. Some (orphan_or (top_aborted_named tree o) NoParent)) at
        ∙ ended_parent tree t (quiet_here quiet) (not-true (is_absent_in tree t) (sym begun))

    pub ended_done_at : Some (orphan_or (top_aborted_at tree n) Done) ≡ cause_at_abort tree t
    ended_done_at =
        ap (λ o. Some (orphan_or (top_aborted_named tree o) Done)) at
        ∙ ended_done tree t (quiet_here quiet) (not-true (is_absent_in tree t) (sym begun))

lives : (s : Status) → is_live s ≡ true → s ≡ Live
lives Live e = refl
lives s e = absurd (false≢true cc)

-- an active one has a name, under which it is live
pub active_name : (tree : States) (n : ℕ) → is_active_at tree n ≡ true → (t : Path) × (slice_get (names tree) n ≡ Some t) × (status_in tree t ≡ Live)
active_name tree n active = by (slice_get (names tree) n) refl active
  where
    by : (o : Option Path) → slice_get (names tree) n ≡ o → is_active_named tree o ≡ true → (t : Path) × (slice_get (names tree) n ≡ Some t) × (status_in tree t ≡ Live)
    by None e f = absurd (false≢true f)
    by (Some t) e f = (t, e, lives (status_in tree t) (active_parts tree t f).0)

pub active_within : (tree : States) (n : ℕ) → is_active_at tree n ≡ true → n < length tree
active_within tree n active = let own = active_name tree n active in let within = slice_get_within (names tree) n own.0 own.1 in omega (arith, within, length-keys_of tree)
